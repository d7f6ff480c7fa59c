use Rattle.std.proofs.Common.{sym, subst}
use Rattle.kr_rollout.specs.Callers.{MayAsk}
use Rattle.kr_rollout.specs.Cores.{CoreState}
use Rattle.kr_rollout.specs.Entries.{seat_of}
use Rattle.kr_base.specs.Lines.{of_seat}
use Rattle.kr_rollout.specs.inner.Rollouts.{entries_by}
use Rattle.kr_rollout.proofs.Appending.{core_after, applied}
use Rattle.kr_rollout.proofs.Holdings.{may_serve}
use Rattle.kr_rollout.proofs.journal.Core.apply.Goals as goal

pub serve-answer-requires-clause-may : goal.serve-answer-requires-clause-may
serve-answer-requires-clause-may g c =
    may_serve c.self.inside.rollout.opening c.self.inside.rollout.state
    c.self.inside.rollout.torn
    (entries_by c.self.inside.rollout.state c.self.inside.journal.0) c.args.seat c.args.event
    c.self.invariant.legal c.self.invariant.budgets c.self.invariant.leads
    (subst (λ (x : CoreState). MayAsk x.opening c.args.seat
    (of_seat seat_of c.args.seat x.history) c.args.event) (sym c.self.view_is) c.requires.may)

pub invariant_of-self : goal.invariant_of-self
invariant_of-self g c =
    core_after c.args.self.now c.self.inside.rollout c.serve-answer.new.self c.self.inside.journal.0
    c.push_in_room.new.self.0 c.serve-answer.result.1 c.self.inside.journal.1
    c.push_in_room.new.self.1
    c.self.inside.room c.args.seat c.args.event c.serve-answer.result.0 c.self.view_is
    c.self.invariant c.serve-answer.ensures c.push_in_room.ensures.items
    (subst (λ (x : CoreState). MayAsk x.opening c.args.seat
    (of_seat seat_of c.args.seat x.history) c.args.event) (sym c.self.view_is) c.requires.may)
    c.push_in_room.ensures.room

pub returns-clause-legal : goal.returns-clause-legal
returns-clause-legal g c =
    (core_after c.args.self.now c.self.inside.rollout c.serve-answer.new.self
    c.self.inside.journal.0 c.push_in_room.new.self.0 c.serve-answer.result.1
    c.self.inside.journal.1 c.push_in_room.new.self.1
    c.self.inside.room c.args.seat c.args.event c.serve-answer.result.0 c.self.view_is
    c.self.invariant c.serve-answer.ensures c.push_in_room.ensures.items
    (subst (λ (x : CoreState). MayAsk x.opening c.args.seat
    (of_seat seat_of c.args.seat x.history) c.args.event) (sym c.self.view_is) c.requires.may)
    c.push_in_room.ensures.room).legal

pub returns-clause-applied : goal.returns-clause-applied
returns-clause-applied g c =
    applied c.args.self.now c.self.inside.rollout c.serve-answer.new.self c.self.inside.journal.0
    c.push_in_room.new.self.0 c.serve-answer.result.1 c.self.inside.journal.1
    c.push_in_room.new.self.1
    c.self.inside.room c.args.seat c.args.event c.serve-answer.result.0 c.self.view_is
    c.self.invariant c.serve-answer.ensures c.push_in_room.ensures.items
