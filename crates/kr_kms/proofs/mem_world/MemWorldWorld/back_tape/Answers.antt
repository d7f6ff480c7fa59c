-- The tape is the first of its name again.
use Rattle.std.proofs.Common.{ℕ, List, ◌∷◌, Some, option_map, refl, ◌∙◌, ap}
use Rattle.kr_base.specs.InMemory.{faults_of}
use Rattle.kr_kms.specs.MemWorld.{TapeShelf, first_tape, tape_name}
use Rattle.kr_kms.specs.Outside.{same_name}
use Rattle.kr_kms.proofs.Lent.{key_stands, not_taken, placed, returned_first, returned_keyed, names_decide}
use Rattle.kr_kms.proofs.mem_world.MemWorldWorld.back_tape.Goals as goal

pub unreachable-requires : goal.unreachable-requires
unreachable-requires g c =
    let test = λ (o : List ℕ). same_name o c.args.name.now in
    absurd (not_taken test _ (placed test c.in_default.ensures.first c.taken_keys.ensures) c.requires)

pub returns-clause-put : goal.returns-clause-put
returns-clause-put g c =
    let old = c.args.self.now.tapes in
    let name = c.args.name.now in
    ap (λ (s : TapeShelf). s.items) (c.return_keyed.ensures name)
    ∙ ap (λ n. (n, c.args.tape) ∷ old.items)
    (key_stands same_name names_decide old.out c.in-Some.at name
    (placed (λ o. same_name o name) c.in-Some.ensures.first c.taken_keys.ensures))

pub returns-clause-back : goal.returns-clause-back
returns-clause-back g c =
    let name = c.args.name.now in
    returned_keyed same_name (λ first. Some (option_map (λ entry. entry.1.bytes) first))
    (λ entry. faults_of entry.1) names_decide c.args.self.now.tapes c.return_keyed.new.self
    c.in-Some.at name c.args.tape refl
    (placed (λ o. same_name o name) c.in-Some.ensures.first c.taken_keys.ensures)
    (c.return_keyed.ensures name)

pub returns-clause-tape : goal.returns-clause-tape
returns-clause-tape g c =
    let old = c.args.self.now.tapes in
    let name = c.args.name.now in
    let put = returns-clause-put g c in
    ap (λ l. Some (option_map (λ entry. entry.1.bytes) (first_tape l name))) put
    ∙ ap (λ first. Some (option_map (λ entry. entry.1.bytes) first))
    (returned_first same_name tape_name (λ first. Some (option_map (λ entry. entry.1.bytes) first))
    (λ entry. faults_of entry.1) names_decide old.items name (name, c.args.tape) refl)
