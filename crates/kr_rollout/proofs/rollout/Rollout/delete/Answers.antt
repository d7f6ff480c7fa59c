use Rattle.std.proofs.Common.{ap, subst, ◌∙◌}
use Rattle.kr_store.specs.Stores.{Deletes}
use Rattle.kr_rollout.specs.declared.event.Event.TheVariants as event
use Rattle.kr_rollout.specs.declared.line.Did.TheVariants.{Delete}
use Rattle.kr_rollout.specs.inner.Rollouts.{line_now, state_with}
use Rattle.kr_rollout.specs.inner.Writing.{needs_without}
use Rattle.kr_rollout.proofs.Keeping.{may_before, seat_before}
use Rattle.kr_rollout.proofs.Storing.{seen, delete_serves}
use Rattle.kr_rollout.proofs.Growing.{grown_delete}
use Rattle.kr_rollout.proofs.rollout.Rollout.delete.Goals as goal

pub invariant_of-self : goal.invariant_of-self
invariant_of-self g c =
    grown_delete c.self.inside.store c.delete_value-result.new.store c.self.inside.board
    c.delete_value-result.new.board c.self.inside.first_rows c.self.inside.generations.1
    c.self.invariant
    c.as_str.result.now c.delete_value-result.result c.delete_value-result.ensures.store
    c.delete_value-result.ensures.board

pub returns : goal.returns
returns g c =
    seen (event.Delete c.args.path) c.self.view_is c.delete_answer-answer.ensures
    (c.line-line.ensures ∙ ap (line_now (state_with c.delete_value-result.new.store
    c.delete_value-result.new.board c.self.inside.generations.0 c.self.inside.current.items
    c.self.inside.held.items) c.args.seat (Delete c.args.path)) c.delete_line-gave.ensures)
    (delete_serves c.self.inside.store c.delete_value-result.new.store c.self.inside.board
    c.delete_value-result.new.board _ _ _ c.self.inside.first_rows _ _ _ _ _ c.args.seat
    c.self.invariant.0 (seat_before c.self.view_is c.args.seat c.requires.seat_in)
    c.self.invariant.1 c.args.path
    (may_before c.self.view_is c.args.seat (event.Delete c.args.path) c.requires.may)
    c.delete_value-result.result
    (subst (λ path. Deletes c.self.inside.store c.delete_value-result.new.store path
    c.delete_value-result.result) c.as_str.ensures c.delete_value-result.ensures.store)
    (c.delete_value-result.ensures.board ∙ ap
    (λ path. record c.self.inside.board {
      needs =
          needs_without c.delete_value-result.result path c.self.inside.board.needs;
    })
    c.as_str.ensures))
