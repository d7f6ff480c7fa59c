-- What a caller holds and found after one more entry of its own.
use Rattle.std.proofs.Common.{◌≡◌, ℕ, List, [], ◌∷◌, ◌++◌, Option, None, refl, ap, ◌∙◌}
use Rattle.kr_store.specs.declared.rows.Row.{Row}
use Rattle.kr_provider.specs.Publication.{Publication}
use Rattle.kr_rollout.specs.declared.answer.Answer.{Answer}
use Rattle.kr_rollout.specs.declared.answer.Answer.TheVariants as answer
use Rattle.kr_rollout.specs.declared.event.Event.{Event}
use Rattle.kr_rollout.specs.declared.event.Event.TheVariants as event
use Rattle.kr_rollout.specs.declared.line.Gave.TheVariants.{Adopted}
use Rattle.kr_rollout.specs.declared.opening.Entry.{Entry}
use Rattle.kr_history.specs.Acting.{Caller, AddsEntry}
use Rattle.kr_rollout.specs.Callers.{gave_of, holding_then, holding_from, holding, found_then, found_from, found_in}
use Rattle.kr_history.specs.CallerLaws.{AdoptedIsHeld, ReleasedIsNotHeld, LeavesHolding, HoldingStays, FetchedIsFound, NextIsFound}

holding_more : (now : Option (ℕ × Publication)) (own : List Entry) (e : Entry)
    → holding_from now (own ++ e ∷ []) ≡ holding_then e.line.gave e.published (holding_from now own)
holding_more now [] e = refl
holding_more now (x ∷ own) e = holding_more (holding_then x.line.gave x.published now) own e

found_more : (now : Option Row) (own : List Entry) (e : Entry)
    → found_from now (own ++ e ∷ [])
    ≡ found_then e.line.did e.line.gave e.row (found_from now own)
found_more now [] e = refl
found_more now (x ∷ own) e = found_more (found_then x.line.did x.line.gave x.row now) own e

module _ (old new : Caller) (asked : Event) (given : Answer)
    (a : AddsEntry old asked given new) where
  mine_is : new.mine ≡ old.mine ++ a.entry ∷ []
  mine_is = ap (λ (c : Caller). c.mine) a.new_is

  holding_is : holding new.mine ≡ holding_then (gave_of given) a.entry.published (holding old.mine)
  holding_is = ap holding mine_is ∙ holding_more None old.mine a.entry
      ∙ ap (λ g. holding_then g a.entry.published (holding old.mine)) a.records.gave_is

  found_is : found_in new.mine ≡ found_then a.entry.line.did a.entry.line.gave a.entry.row
      (found_in old.mine)
  found_is = ap found_in mine_is ∙ found_more None old.mine a.entry

pub adopted_law : AdoptedIsHeld
adopted_law old new replica number p a =
    holding_is old new (event.Adopt replica) (answer.Adopted number p) a
    ∙ ap (λ q. holding_then (Adopted number) q (holding old.mine)) a.records.shows

pub released_law : ReleasedIsNotHeld
released_law old new a = holding_is old new event.LetGo answer.Released a

stays_then : (given : Answer) (p : Option Publication) (now : Option (ℕ × Publication))
    → LeavesHolding given → holding_then (gave_of given) p now ≡ now
stays_then (answer.Adopted number q) p now s = absurd s
stays_then answer.Released p now s = absurd s
stays_then other p now s = refl

pub stays_law : HoldingStays
stays_law old new asked given s a = holding_is old new asked given a
    ∙ stays_then given a.entry.published (holding old.mine) s

pub fetched_law : FetchedIsFound
fetched_law old new path row a = found_is old new (event.Fetch path) (answer.Found row) a
    ∙ (λ i. found_then (a.records.did_is i) (a.records.gave_is i) a.entry.row (found_in old.mine))
    ∙ a.records.shows

pub next_law : NextIsFound
next_law old new path row a = found_is old new (event.After path) (answer.Found row) a
    ∙ (λ i. found_then (a.records.did_is i) (a.records.gave_is i) a.entry.row (found_in old.mine))
    ∙ a.records.shows
