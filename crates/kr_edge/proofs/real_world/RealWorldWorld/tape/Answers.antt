-- The count of the tape of the name goes out, or a new one.
use Rattle.std.proofs.Common.{ℕ, List, None, inl, inr, is_some, refl, sym, ◌∙◌, ap}
use Rattle.kr_kms.specs.Outside.{same_name}
use Rattle.kr_edge.specs.RealWorld.{shelf_key, count_of}
use Rattle.kr_kms.proofs.Lent.{lent, made, names_decide, none_out, of_key, placed}
use Rattle.kr_edge.specs.declared.system.OpenNo.TheVariants.{Absent, Failed}
use Rattle.kr_edge.proofs.Lending.{opened_as, refused_as}
use Rattle.kr_edge.proofs.real_world.RealWorldWorld.tape.Goals as goal

pub returns-then-is_some-clause-calls : goal.returns-then-is_some-clause-calls
returns-then-is_some-clause-calls g c =
    let place = placed (λ (o : List ℕ). same_name o c.args.name.now) c.name_place.ensures.first
    c.taken_keys.ensures in
    inl (ap is_some place ∙ sym c.is_some.ensures ∙ c.if-is_some.true, refl)

pub returns-in-Ok-lend-clause-ok : goal.returns-in-Ok-lend-clause-ok
returns-in-Ok-lend-clause-ok g c =
    lent same_name shelf_key (λ first. None) count_of names_decide c.args.self.now.tapes
    c.lend.new.self c.in-Some.at c.args.name.now (c.in-Ok-lend.key, c.in-Ok-lend.count)
    (placed (of_key same_name shelf_key c.args.name.now) c.in-Some.ensures.first c.items.ensures)
    c.in-Ok-lend.ensures.lent c.in-Ok-lend.ensures.ok c.in-Ok-Ok.ensures c.new.ensures.faults

pub returns-in-Ok-lend-clause-alone : goal.returns-in-Ok-lend-clause-alone
returns-in-Ok-lend-clause-alone g c =
    none_out (λ o. same_name o c.args.name.now) c.name_place.ensures.first c.taken_keys.ensures
    c.is_some.ensures c.if-is_some.false

pub returns-in-Ok-add-clause-ok : goal.returns-in-Ok-add-clause-ok
returns-in-Ok-add-clause-ok g c =
    made same_name shelf_key (λ first. None) count_of names_decide c.args.self.now.tapes
    c.add.new.self c.args.name.now
    (placed (of_key same_name shelf_key c.args.name.now)
    (sym c.in-None.is ∙ c.tape_place.ensures.first) c.items.ensures)
    c.in-Ok-add.ensures.ok c.in-Ok-Ok.ensures c.first.ensures.faults

pub returns-in-Ok-add-clause-alone : goal.returns-in-Ok-add-clause-alone
returns-in-Ok-add-clause-alone g c =
    none_out (λ o. same_name o c.args.name.now) c.name_place.ensures.first c.taken_keys.ensures
    c.is_some.ensures c.if-is_some.false

pub returns-in-Err-Absent-clause-calls : goal.returns-in-Err-Absent-clause-calls
returns-in-Err-Absent-clause-calls g c =
    let calls = g.S.System.calls in
    refused_as c.args.name.now c.in-Ok-Ok.opened c.args.access (calls c.args.self.now.system)
    (calls c.open_store.new.system) _ Absent c.in-Ok-Ok.ensures' c.in-Err-Absent.field-0-is
    c.in-Err-Absent.ensures.calls

pub returns-in-Err-Failed-clause-calls : goal.returns-in-Err-Failed-clause-calls
returns-in-Err-Failed-clause-calls g c =
    let calls = g.S.System.calls in
    inr (refused_as c.args.name.now c.in-Ok-Ok.opened c.args.access (calls c.args.self.now.system)
    (calls c.open_store.new.system) _ Failed c.in-Ok-Ok.ensures' c.in-Err-Failed.field-0-is
    c.in-Err-Failed.ensures.calls)

pub returns-in-Ok-lend-clause-calls : goal.returns-in-Ok-lend-clause-calls
returns-in-Ok-lend-clause-calls g c =
    let calls = g.S.System.calls in
    opened_as c.args.name.now c.in-Ok-Ok.opened c.args.access (calls c.args.self.now.system)
    (calls c.open_store.new.system) c.in-Ok.file c.in-Ok-Ok.ensures' c.in-Ok.ensures.calls

pub returns-in-Ok-add-clause-calls : goal.returns-in-Ok-add-clause-calls
returns-in-Ok-add-clause-calls g c =
    let calls = g.S.System.calls in
    opened_as c.args.name.now c.in-Ok-Ok.opened c.args.access (calls c.args.self.now.system)
    (calls c.open_store.new.system) c.in-Ok.file c.in-Ok-Ok.ensures' c.in-Ok.ensures.calls

pub returns-in-Err-clause-calls : goal.returns-in-Err-clause-calls
returns-in-Err-clause-calls g c =
    let calls = g.S.System.calls in
    inr (opened_as c.args.name.now c.in-Ok-Ok.opened c.args.access (calls c.args.self.now.system)
    (calls c.open_store.new.system) c.in-Ok.file c.in-Ok-Ok.ensures' c.in-Ok.ensures.calls)

pub returns-in-Err-add-clause-calls : goal.returns-in-Err-add-clause-calls
returns-in-Err-add-clause-calls g c =
    let calls = g.S.System.calls in
    inr (opened_as c.args.name.now c.in-Ok-Ok.opened c.args.access (calls c.args.self.now.system)
    (calls c.open_store.new.system) c.in-Ok.file c.in-Ok-Ok.ensures' c.in-Ok.ensures.calls)

-- what is noted where memory lacks

pub returns-in_default-clause-calls : goal.returns-in_default-clause-calls
returns-in_default-clause-calls g c = inl refl

pub returns-in_default-clause-asked : goal.returns-in_default-clause-asked
returns-in_default-clause-asked g c = inl refl

pub returns-in-Err-clause-asked : goal.returns-in-Err-clause-asked
returns-in-Err-clause-asked g c = inl refl

pub returns-in-Err-add-clause-asked : goal.returns-in-Err-add-clause-asked
returns-in-Err-add-clause-asked g c = inl refl
