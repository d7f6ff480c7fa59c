use Rattle.std.proofs.Common.{List, ℕ, sym, subst}
use Rattle.kr_provider.specs.Publication.{Publication, IsPublished}
use Rattle.kr_rollout.specs.declared.event.Event.TheVariants as event
use Rattle.kr_rollout.specs.inner.Writing.{PutsBy}
use Rattle.kr_rollout.proofs.Keeping.{may_before, seat_before, holds_one}
use Rattle.kr_rollout.proofs.Storing.{seen, own_published, put_serves}
use Rattle.kr_rollout.proofs.Growing.{grown_put}
use Rattle.kr_rollout.proofs.rollout.Rollout.put.Goals as goal

pub held_published-published-requires : goal.held_published-published-requires
held_published-published-requires g c =
    let may = may_before c.self.view_is c.args.seat
    (event.Put c.args.path c.args.resource c.args.plain c.args.stored) c.requires.may in
    let l = seat_before c.self.view_is c.args.seat c.requires.seat_in in
    holds_one c.self.invariant.0 c.args.seat may.2 c.as_slice.result.now c.as_slice-2.result.now
    c.as_slice.ensures c.as_slice-2.ensures.value l may.4

pub put_value-result-requires-clause-stored : goal.put_value-result-requires-clause-stored
put_value-result-requires-clause-stored g c =
    let may = may_before c.self.view_is c.args.seat
    (event.Put c.args.path c.args.resource c.args.plain c.args.stored) c.requires.may in
    let same = own_published _ _ _ _ c.args.seat may.2 may.3 c.held_published-published.result.now may.4
    may.5 c.as_slice.ensures c.as_slice-2.ensures.value c.held_published-published.ensures.held in
    c.size_of_sealing.ensures.few may.3 c.args.resource c.args.path c.args.plain c.args.stored
    (subst (λ (x : Publication). IsPublished x) (sym same) c.held_published-published.ensures.kept)
    may.6

pub invariant_of-self : goal.invariant_of-self
invariant_of-self g c =
    grown_put c.self.inside.store c.put_value-result.new.store c.self.inside.board
    c.put_value-result.new.board c.self.inside.first_rows c.self.inside.generations.1
    c.self.invariant
    c.held_published-published.result.now c.as_str.result.now c.as_str-2.result.now c.args.stored
    c.put_value-result.result c.put_value-result.ensures

pub returns : goal.returns
returns g c =
    let may = may_before c.self.view_is c.args.seat
    (event.Put c.args.path c.args.resource c.args.plain c.args.stored) c.requires.may in
    let same = own_published _ _ _ _ c.args.seat may.2 may.3 c.held_published-published.result.now may.4
    may.5 c.as_slice.ensures c.as_slice-2.ensures.value c.held_published-published.ensures.held in
    let puts = subst (λ (x : Publication × List ℕ × List ℕ). PutsBy x.0 c.self.inside.store
    c.put_value-result.new.store x.1 x.2 c.args.stored c.self.inside.board
    c.put_value-result.new.board c.put_value-result.result)
    (λ i. (sym same i, c.as_str.ensures i, c.as_str-2.ensures i)) c.put_value-result.ensures in
    seen (event.Put c.args.path c.args.resource c.args.plain c.args.stored) c.self.view_is
    c.tell_written.ensures.answer c.tell_written.ensures.line
    (put_serves c.self.inside.store c.put_value-result.new.store c.self.inside.board
    c.put_value-result.new.board _ _ _ c.self.inside.first_rows _ _ _ _ _ c.args.seat
    c.self.invariant.0 (seat_before c.self.view_is c.args.seat c.requires.seat_in)
    c.self.invariant.1 may.2 c.args.path c.args.resource c.args.plain c.args.stored may.3 may.4 may.5
    may.0 may.1 may.6 c.put_value-result.result puts.0 puts.1)
