use Rattle.std.proofs.Common.{List, ℕ, sym, subst}
use Rattle.kr_provider.specs.Publication.{Publication, IsPublished}
use Rattle.kr_rollout.specs.declared.event.Event.TheVariants as event
use Rattle.kr_rollout.specs.inner.Writing.{ReplacesBy}
use Rattle.kr_rollout.proofs.Keeping.{may_before, seat_before, holds_one}
use Rattle.kr_rollout.proofs.Storing.{seen, own_published, replace_serves}
use Rattle.kr_rollout.proofs.Growing.{grown_replace}
use Rattle.kr_rollout.proofs.rollout.Rollout.replace.Goals as goal

pub held_published-published-requires : goal.held_published-published-requires
held_published-published-requires g c =
    let may = may_before c.self.view_is c.args.seat
    (event.Replace c.args.path c.args.revision c.args.stored) c.requires.may in
    let l = seat_before c.self.view_is c.args.seat c.requires.seat_in in
    holds_one c.self.invariant.0 c.args.seat may.1 c.as_slice.result.now c.as_slice-2.result.now
    c.as_slice.ensures c.as_slice-2.ensures.value l may.4

pub invariant_of-self : goal.invariant_of-self
invariant_of-self g c =
    grown_replace c.self.inside.store c.replace_live-result.new.store c.self.inside.board
    c.replace_live-result.new.board c.self.inside.first_rows c.self.inside.generations.1
    c.self.invariant
    c.held_published-published.result.now c.as_str.result.now c.args.revision c.args.stored
    c.replace_live-result.result c.replace_live-result.ensures

pub replace_live-result-requires-clause-stored : goal.replace_live-result-requires-clause-stored
replace_live-result-requires-clause-stored g c =
    let may = may_before c.self.view_is c.args.seat
    (event.Replace c.args.path c.args.revision c.args.stored) c.requires.may in
    let same = own_published _ _ _ _ c.args.seat may.1 may.2 c.held_published-published.result.now may.4
    may.5 c.as_slice.ensures c.as_slice-2.ensures.value c.held_published-published.ensures.held in
    c.size_of_sealing.ensures.few may.2 may.3.resource c.args.path may.7.plain c.args.stored
    (subst (λ (x : Publication). IsPublished x) (sym same) c.held_published-published.ensures.kept)
    may.7.sealing

pub returns : goal.returns
returns g c =
    let may = may_before c.self.view_is c.args.seat
    (event.Replace c.args.path c.args.revision c.args.stored) c.requires.may in
    let same = own_published _ _ _ _ c.args.seat may.1 may.2 c.held_published-published.result.now may.4
    may.5 c.as_slice.ensures c.as_slice-2.ensures.value c.held_published-published.ensures.held in
    let replaces = subst (λ (x : Publication × List ℕ). ReplacesBy x.0 c.self.inside.store
    c.replace_live-result.new.store x.1 c.args.revision c.args.stored c.self.inside.board
    c.replace_live-result.new.board c.replace_live-result.result)
    (λ i. (sym same i, c.as_str.ensures i)) c.replace_live-result.ensures in
    seen (event.Replace c.args.path c.args.revision c.args.stored) c.self.view_is
    c.tell_written.ensures.answer c.tell_written.ensures.line
    (replace_serves c.self.inside.store c.replace_live-result.new.store c.self.inside.board
    c.replace_live-result.new.board _ _ _ c.self.inside.first_rows _ _ _ _ _ c.args.seat
    c.self.invariant.0 (seat_before c.self.view_is c.args.seat c.requires.seat_in)
    c.self.invariant.1 may.1 c.args.path c.args.revision c.args.stored may.2 may.3 may.4 may.5 may.0
    may.6 may.7 c.replace_live-result.result replaces)
