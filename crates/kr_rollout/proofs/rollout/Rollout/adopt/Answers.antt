use Rattle.std.proofs.Common.{List, length, Some, sym, ap, ◌∙◌, arith}
use Rattle.kr_opening.specs.declared.generation.Generation.{Generation}
use Rattle.kr_rollout.specs.Entries.{published_at}
use Rattle.kr_rollout.proofs.Keeping.{seat_before, read_adopted, board_holds, rollout_taken}
use Rattle.kr_rollout.proofs.Serving.{adopted_at}
use Rattle.kr_rollout.proofs.rollout.Rollout.adopt.Goals as goal

pub published_generation-requires : goal.published_generation-requires
published_generation-requires g c =
    let a = read_adopted c.self.view_is c.self.invariant.0 c.args.seat c.args.replica
    c.index.result.now c.requires.may c.index.ensures in
    omega (
      arith,
      c.self.invariant.0.current c.args.replica c.in-Some.generation (a.1 ∙ c.in-Some.is),
      ap (λ (l : List Generation). length l) c.as_slice.ensures,
    )

pub hold-requires : goal.hold-requires
hold-requires g c =
    let a = read_adopted c.self.view_is c.self.invariant.0 c.args.seat c.args.replica
    c.index.result.now c.requires.may c.index.ensures in
    board_holds _ _ c.self.inside.board c.args.seat c.args.replica c.in-Some.generation
    c.self.invariant.0 a.0.0 (a.1 ∙ c.in-Some.is)

pub invariant_of-self : goal.invariant_of-self
invariant_of-self g c =
    let a = read_adopted c.self.view_is c.self.invariant.0 c.args.seat c.args.replica
    c.index.result.now c.requires.may c.index.ensures in
    let l = seat_before c.self.view_is c.args.seat c.requires.seat_in in (
      rollout_taken _ c.self.inside.store c.self.inside.board c.hold.new.self
          c.self.inside.generations.0 c.self.inside.current.items c.self.inside.held.items
          c.self.invariant.0
          c.args.seat c.args.replica c.in-Some.generation c.hold.ensures l a.0.1 (a.1 ∙ c.in-Some.is),
      c.self.invariant.1,
      c.self.invariant.2,
    )

pub returns-in-Ok : goal.returns-in-Ok
returns-in-Ok g c =
    let a = read_adopted c.self.view_is c.self.invariant.0 c.args.seat c.args.replica
    c.index.result.now c.requires.may c.index.ensures in
    adopted_at _ c.self.inside.store c.self.inside.board c.hold.new.self
    c.self.inside.generations.0 c.self.inside.current.items c.self.inside.held.items
    c.args.self.now c.line-line-in-Ok.result
    c.args.seat c.args.replica c.in-Some.generation c.in-Ok.published c.self.invariant.0
    c.self.view_is c.hold.ensures c.requires.seat_in c.requires.may (a.1 ∙ c.in-Some.is)
    (ap (λ (l : List Generation). published_at l (Some c.in-Some.generation))
    (sym c.as_slice.ensures) ∙ c.published_generation.ensures ∙ ap Some (sym c.in-Ok.ensures))
    c.line-line-in-Ok.ensures
