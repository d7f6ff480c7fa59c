use Rattle.std.proofs.Common.{◌∙◌}
use Rattle.kr_rollout.specs.declared.event.Event.TheVariants as event
use Rattle.kr_rollout.proofs.Keeping.{may_before, read_current}
use Rattle.kr_rollout.proofs.Changing.{board_leaves, rollout_left}
use Rattle.kr_rollout.proofs.rollout.Rollout.leave.Goals as goal

pub leave-requires : goal.leave-requires
leave-requires g c =
    let may =
    may_before c.self.view_is c.args.seat (event.Leave c.args.replica) c.requires.may in
    let is = read_current c.self.invariant.0 c.args.replica c.index.result.now may c.index.ensures
    ∙ c.in-Some.is in
    board_leaves _ c.self.inside.store c.self.inside.board c.self.inside.board
    c.self.inside.generations.0 c.self.inside.current.items c.self.inside.held.items
    c.self.invariant.0 c.args.replica c.in-Some.generation may is

pub invariant_of-self : goal.invariant_of-self
invariant_of-self g c =
    let may =
    may_before c.self.view_is c.args.seat (event.Leave c.args.replica) c.requires.may in (
      rollout_left _ c.self.inside.store c.self.inside.board c.leave.new.self
          c.self.inside.generations.0 c.self.inside.current.items c.self.inside.held.items
          c.self.invariant.0 c.args.replica may c.leave.ensures,
      c.self.invariant.1,
      c.self.invariant.2,
    )
