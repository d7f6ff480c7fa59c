-- Counts of faults: what an object of the outside answers as its cause.
use Rattle.std.specs.Prelude.{◌≡◌, ℕ, ◌-◌, ◌^◌, ◌<◌, ◌≤◌, ◌⊎◌, Bool, false, IsTrue, if◌then◌else◌, Result, Ok, Err, OnErr, is_err}
use Rattle.kr_base.specs.Numbering.{next_number}

-- the count is higher than it was; a count at its greatest value can't rise any more, and there
-- this counts as met
abbrev pub Rose : ℕ → ℕ → Type 0
Rose before now = (before < now) ⊎ ((before ≡ 2 ^ 64 - 1) × (now ≡ 2 ^ 64 - 1))

-- a count behind one call more: one higher where the call failed, and else as before
abbrev pub counted : Bool → ℕ → ℕ
counted failed before = if failed then next_number before else before

-- the count never falls, it rose where the call answered a fault, and it rose then by one and else
-- not at all
pub record IsCounted {T E : Type 0} (before now : ℕ) (result : Result T E) : Type 0 where
  pub later : before ≤ now
  pub failed : OnErr result (Rose before now)
  pub once : now ≡ counted (is_err result) before

-- whether an answer is that an object failed, by the errors that say so
abbrev pub tells_fault : {T E : Type 0} → (E → Bool) → Result T E → Bool
tells_fault is_fault (Ok x) = false
tells_fault is_fault (Err why) = is_fault why

-- no fault is hidden, and none is told as another answer, such as want of memory: the count rose by
-- one where the answer is that this object failed, and is as before at every other answer. So a call
-- that failed isn't made a second time
pub record TellsFaults {T E : Type 0} (is_fault : E → Bool) (before now : ℕ) (result : Result T E)
    : Type 0 where
  pub later : before ≤ now
  pub failed : IsTrue (tells_fault is_fault result) → Rose before now
  pub once : now ≡ counted (tells_fault is_fault result) before
