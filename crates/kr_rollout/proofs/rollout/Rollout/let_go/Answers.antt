use Rattle.std.proofs.Common.{◌∙◌}
use Rattle.kr_rollout.proofs.Keeping.{seat_before, read_held, board_releases, rollout_given}
use Rattle.kr_rollout.proofs.rollout.Rollout.let_go.Goals as goal

pub release-requires : goal.release-requires
release-requires g c =
    let l = seat_before c.self.view_is c.args.seat c.requires.seat_in in
    let is =
    read_held c.self.invariant.0 c.args.seat c.index.result.now l c.index.ensures ∙ c.in-Some.is in
    board_releases _ _ c.self.inside.board c.args.seat c.in-Some.generation c.self.invariant.0 l is

pub invariant_of-self : goal.invariant_of-self
invariant_of-self g c =
    let l = seat_before c.self.view_is c.args.seat c.requires.seat_in in
    let is =
    read_held c.self.invariant.0 c.args.seat c.index.result.now l c.index.ensures ∙ c.in-Some.is in (
      rollout_given _ c.self.inside.store c.self.inside.board c.release.new.self
          c.self.inside.generations.0 c.self.inside.current.items c.self.inside.held.items
          c.self.invariant.0
          c.args.seat c.in-Some.generation c.release.ensures l is,
      c.self.invariant.1,
      c.self.invariant.2,
    )
