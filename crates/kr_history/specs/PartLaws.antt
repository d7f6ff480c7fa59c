-- Laws of parts: nothing adds none, an event adds its entry, and what is added one behind another
-- is one part.
use Rattle.std.specs.Prelude.{◌≡◌, ℕ, ◌+◌, ◌≤◌, cond, List, [], ◌∷◌, ◌++◌}
use Rattle.kr_rollout.specs.declared.answer.Answer.{Answer}
use Rattle.kr_rollout.specs.declared.event.Event.{Event}
use Rattle.kr_rollout.specs.declared.line.Did.{Did}
use Rattle.kr_rollout.specs.declared.opening.Entry.{Entry}
use Rattle.kr_history.specs.Acting.{Caller, AddsEntry}
use Rattle.kr_rollout.specs.Callers.{brings_settings, did_of, reloads_in}
use Rattle.kr_history.specs.Parts.{Adds, AddsWithin, put_by, written_puts}

pub record PartsFollow : Type 0 where
  pub none : (c : Caller) → Adds c [] c
  pub one : (old new : Caller) (asked : Event) (given : Answer)
      → (a : AddsEntry old asked given new) → Adds old (a.entry ∷ []) new
  pub both : (old middle new : Caller) (first second : List Entry) → Adds old first middle
      → Adds middle second new → Adds old (first ++ second) new

-- what is counted of two parts
pub record PartsAddUp : Type 0 where
  pub reloads : (first second : List Entry)
      → reloads_in (first ++ second) ≡ reloads_in first + reloads_in second
  pub puts : (first second : List Entry)
      → written_puts (first ++ second) ≡ written_puts first ++ written_puts second

-- the same of parts that are within bounds; those of an event stand in the event alone
pub record BoundsFollow : Type 0 where
  pub none : (entries reloads : ℕ) (puts : List Did) (c : Caller)
      → AddsWithin entries reloads puts c c
  pub one : (old new : Caller) (asked : Event) (given : Answer) → AddsEntry old asked given new
      → AddsWithin 1 (cond (brings_settings (did_of asked)) 1 0) (put_by (did_of asked)) old new
  pub weaker : (entries more reloads brought : ℕ) (puts : List Did) (old new : Caller)
      → entries ≤ more → reloads ≤ brought → AddsWithin entries reloads [] old new
      → AddsWithin more brought puts old new
  pub behind : (entries more reloads brought : ℕ) (puts : List Did) (old middle new : Caller)
      → AddsWithin entries reloads [] old middle → AddsWithin more brought puts middle new
      → AddsWithin (entries + more) (reloads + brought) puts old new
  pub before : (entries more reloads brought : ℕ) (puts : List Did) (old middle new : Caller)
      → AddsWithin entries reloads puts old middle → AddsWithin more brought [] middle new
      → AddsWithin (entries + more) (reloads + brought) puts old new
