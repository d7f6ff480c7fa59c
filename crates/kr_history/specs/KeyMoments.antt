-- When a bench has which keys in its pages: what happens to them around the events of its seat.
use Rattle.std.specs.Prelude.{◌≡◌, ℕ, Bool, true, false, ◌||◌, List, [], ◌∷◌, ◌++◌, drop, length, Option, None, Some}
use Rattle.kr_base.specs.Walks.{Walk}
use Rattle.kr_provider.specs.BenchKeys.{ClearsKeys, HoldsExactly, TakesKeys}
use Rattle.kr_provider.specs.BenchState.{Adoption}
use Rattle.kr_provider.specs.Publication.{Publication}
use Rattle.kr_rollout.specs.declared.line.Gave.{Gave}
use Rattle.kr_rollout.specs.declared.line.Gave.TheVariants.{Adopted, Released}
use Rattle.kr_rollout.specs.declared.opening.Entry.{Entry}
use Rattle.kr_rollout.specs.Callers.{holding}
use Rattle.kr_history.specs.Acting.{Caller}

-- the seat's event was answered by this entry; the bench was given a configuration; that was taken
-- away
pub data Moment : Type 0 where
  Said : Entry → Moment
  TakesUp : Publication → Moment
  LaysDown : Moment

-- what each does to the bench's configuration and pages
abbrev pub Happens : Adoption → Moment → Adoption → Type 0
Happens old (Said e) new = new ≡ old
Happens old (TakesUp p) new = TakesKeys p old new
Happens old LaysDown new = ClearsKeys old new

-- ---- by the entries of a seat whose calls take up what they adopt

-- the configuration that an entry names is taken up
abbrev pub taken_up : Option Publication → List Moment
taken_up None = []
taken_up (Some p) = TakesUp p ∷ []

-- behind an Adopt that was answered; it is laid down before the LetGo
abbrev pub moments_at : Gave → Entry → List Moment
moments_at (Adopted number) e = Said e ∷ taken_up e.published
moments_at Released e = LaysDown ∷ Said e ∷ []
moments_at gave e = Said e ∷ []

abbrev pub moments_of : List Entry → List Moment
moments_of [] = []
moments_of (e ∷ part) = moments_at e.line.gave e ++ moments_of part

-- what the seat goes on to hold, since no LetGo could be added, is laid down too
abbrev pub laid_down : Option (ℕ × Publication) → List Moment
laid_down None = []
laid_down (Some held) = LaysDown ∷ []

-- ---- of a call

-- the entries that its seat added
abbrev pub added : (old new : Caller) → List Entry
added old new = drop (length old.mine) new.mine

-- a call that takes up what it adopts
abbrev pub call_moments : (old new : Caller) → List Moment
call_moments old new = moments_of (added old new) ++ laid_down (holding new.mine)

-- a generation was adopted
abbrev pub is_adoption : Gave → Bool
is_adoption (Adopted number) = true
is_adoption gave = false

abbrev pub adopts_in : List Entry → Bool
adopts_in [] = false
adopts_in (e ∷ part) = is_adoption e.line.gave || adopts_in part

abbrev pub has_adopted : (old new : Caller) → Bool
has_adopted old new = adopts_in (added old new)

-- ---- what the pages hold

-- the configuration that was taken up last and not laid down since
abbrev pub taken_after : Option Publication → List Moment → Option Publication
taken_after held [] = held
taken_after held (Said e ∷ moments) = taken_after held moments
taken_after held (TakesUp p ∷ moments) = taken_after (Some p) moments
taken_after held (LaysDown ∷ moments) = taken_after None moments

-- whatever these moments lead to, of so many pages one for each key of that configuration holds the
-- key's schedule, and every other is zero
abbrev pub KeysAtEachMoment : Type 0
KeysAtEachMoment = (size : ℕ) (held : Option Publication) (old : Adoption) (moments : List Moment)
    (now : Adoption) → HoldsExactly size held old → Walk Happens old moments now
    → HoldsExactly size (taken_after held moments) now
