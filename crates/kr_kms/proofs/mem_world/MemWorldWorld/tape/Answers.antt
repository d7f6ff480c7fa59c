-- The first tape of the name goes out, or a new one.
use Rattle.std.proofs.Common.{ℕ, List, Some, inl, option_map, refl, sym, ◌∙◌, subst}
use Rattle.std.specs.Prelude.{count_by}
use Rattle.kr_base.specs.InMemory.{faults_of}
use Rattle.kr_kms.specs.MemWorld.{tape_name}
use Rattle.kr_kms.specs.Outside.{IsTape, makes, same_name}
use Rattle.kr_kms.proofs.Lent.{lent, names_decide, name_free, none_given, none_out, not_lent, of_key, one_given, placed, some_out}
use Rattle.kr_kms.proofs.MadeTapes.{alone_if, not_counted, made_empty, made_gives, made_out, starved}
use Rattle.kr_kms.proofs.mem_world.MemWorldWorld.tape.Goals as goal

pub returns-then-is_some-clause-gives : goal.returns-then-is_some-clause-gives
returns-then-is_some-clause-gives g c = (
  some_out (λ o. same_name o c.args.name.now) c.name_place.ensures.first c.taken_keys.ensures
      c.is_some.ensures c.if-is_some.true,
  c.rise.ensures.next,
)

pub returns-then-not-makes-clause-gives : goal.returns-then-not-makes-clause-gives
returns-then-not-makes-clause-gives g c = (
  name_free c.args.name.now c.name_place.ensures.first c.taken_keys.ensures c.is_some.ensures
      c.if-is_some.false,
  none_given (λ entry. entry.1) (of_key same_name tape_name c.args.name.now)
      c.in_default.ensures.first c.items.ensures,
  sym c.makes.ensures ∙ c.if-not-makes.true,
  refl,
)

pub returns-then-not-makes-clause-refusals : goal.returns-then-not-makes-clause-refusals
returns-then-not-makes-clause-refusals g c = (
  sym c.makes.ensures ∙ c.if-not-makes.true,
  none_given (λ entry. entry.1.bytes) (of_key same_name tape_name c.args.name.now)
      c.in_default.ensures.first c.items.ensures,
)

pub returns-in_default-clause-gives : goal.returns-in_default-clause-gives
returns-in_default-clause-gives g c =
    made_gives c.args.self.now.tapes c.make_tape.new.tapes c.args.name.now (makes c.args.access)
    c.args.self.now.room c.args.self.now.faults.tapes
    (placed (of_key same_name tape_name c.args.name.now) c.in_default.ensures.first c.items.ensures)
    c.make_tape.result
    (name_free c.args.name.now c.name_place.ensures.first c.taken_keys.ensures c.is_some.ensures
    c.if-is_some.false)
    (sym c.makes.ensures ∙ c.if-not-makes.false) c.make_tape.ensures.ok c.make_tape.ensures.refusals

pub returns-in_default-clause-ok : goal.returns-in_default-clause-ok
returns-in_default-clause-ok g c =
    made_out c.args.self.now.tapes c.make_tape.new.tapes c.args.name.now (makes c.args.access)
    c.args.self.now.room c.args.self.now.faults.tapes
    (placed (of_key same_name tape_name c.args.name.now) c.in_default.ensures.first c.items.ensures)
    c.make_tape.result c.make_tape.ensures.ok c.make_tape.ensures.out

pub returns-in_default-clause-tape : goal.returns-in_default-clause-tape
returns-in_default-clause-tape g c =
    made_empty c.args.self.now.tapes c.make_tape.new.tapes c.args.name.now (makes c.args.access)
    c.args.self.now.room c.args.self.now.faults.tapes
    (placed (of_key same_name tape_name c.args.name.now) c.in_default.ensures.first c.items.ensures)
    c.make_tape.result (sym c.makes.ensures ∙ c.if-not-makes.false) c.make_tape.ensures.ok

pub returns-in_default-clause-alone : goal.returns-in_default-clause-alone
returns-in_default-clause-alone g c =
    alone_if c.make_tape.result
    (count_by (λ o. same_name o c.args.name.now) c.args.self.now.tapes.out)
    (name_free c.args.name.now c.name_place.ensures.first c.taken_keys.ensures c.is_some.ensures
    c.if-is_some.false)

pub returns-in_default-clause-once : goal.returns-in_default-clause-once
returns-in_default-clause-once g c =
    not_counted c.make_tape.result c.args.self.now.faults.tapes c.make_tape.ensures.refusals

pub returns-in_default-copy-clause-gives : goal.returns-in_default-copy-clause-gives
returns-in_default-copy-clause-gives g c = starved
    (name_free c.args.name.now c.name_place.ensures.first c.taken_keys.ensures c.is_some.ensures
    c.if-is_some.false) (not_lent (λ entry. entry.1) (of_key same_name tape_name c.args.name.now)
    c.in-Some.ensures.first c.items.ensures)

pub returns-in-Ok-lend-clause-gives : goal.returns-in-Ok-lend-clause-gives
returns-in-Ok-lend-clause-gives g c = (
  name_free c.args.name.now c.name_place.ensures.first c.taken_keys.ensures c.is_some.ensures
      c.if-is_some.false,
  inl (one_given (λ entry. entry.1) (of_key same_name tape_name c.args.name.now)
      c.in-Some.ensures.first c.items.ensures c.in-Ok-lend.ensures.lent),
  refl,
)

pub returns-in-Ok-lend-clause-ok : goal.returns-in-Ok-lend-clause-ok
returns-in-Ok-lend-clause-ok g c =
    lent same_name tape_name (λ first. Some (option_map (λ entry. entry.1.bytes) first))
    (λ entry. faults_of entry.1) names_decide c.args.self.now.tapes c.lend.new.self c.in-Some.at
    c.args.name.now (c.in-Ok-lend._name, c.in-Ok-lend.tape)
    (placed (of_key same_name tape_name c.args.name.now) c.in-Some.ensures.first c.items.ensures)
    c.in-Ok-lend.ensures.lent c.in-Ok-lend.ensures.ok c.in-Ok.ensures refl

pub returns-in-Ok-lend-clause-tape : goal.returns-in-Ok-lend-clause-tape
returns-in-Ok-lend-clause-tape g c =
    subst (λ f. IsTape (Some f) (makes c.args.access) (Some c.in-Ok-lend.tape.bytes))
    (sym (one_given (λ entry. entry.1.bytes) (of_key same_name tape_name c.args.name.now)
    c.in-Some.ensures.first c.items.ensures c.in-Ok-lend.ensures.lent)) refl

pub returns-in-Ok-lend-clause-alone : goal.returns-in-Ok-lend-clause-alone
returns-in-Ok-lend-clause-alone g c =
    name_free c.args.name.now c.name_place.ensures.first c.taken_keys.ensures c.is_some.ensures
    c.if-is_some.false

pub returns-in-Err-clause-gives : goal.returns-in-Err-clause-gives
returns-in-Err-clause-gives g c = starved
    (name_free c.args.name.now c.name_place.ensures.first c.taken_keys.ensures c.is_some.ensures
    c.if-is_some.false) (not_lent (λ entry. entry.1) (of_key same_name tape_name c.args.name.now)
    c.in-Some.ensures.first c.items.ensures)
