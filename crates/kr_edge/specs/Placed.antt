-- A file that is read and written at places, call by call. What it doesn't tell stays untold.
use Rattle.std.specs.Prelude.{◌≡◌, ℕ, ◌+◌, ◌-◌, ◌^◌, ◌<◌, ◌≤◌, ◌⊎◌, ⊤, Bool, true, List, [], ◌∷◌, ◌++◌, length, take, drop, replicate, Option, None, Some, IfSome, Result, Ok, Err}
use Rattle.std.specs.Option.{option_map}
use Rattle.kr_base.specs.Tapes.{KeepsFront, with_bytes_at}
use Rattle.kr_edge.specs.declared.placed.PlacedNo.{PlacedNo}
use Rattle.kr_edge.specs.declared.placed.PlacedNo.TheVariants.{Interrupted, Failed}

-- n of the bytes from the place on stand at the front of the buffer; none only where there are
-- none, or it has no room
pub record IsReadAt (bytes : List ℕ) (at n : ℕ) (into : List ℕ) : Type 0 where
  pub within : n ≤ length bytes - at
  pub read : take n into ≡ take n (drop at bytes)
  pub end : n ≡ 0 → (length into ≡ 0) ⊎ (length bytes ≤ at)

abbrev pub ReadsSome : Option (List ℕ) → ℕ → ℕ → List ℕ → Type 0
ReadsSome told at n into = IfSome told (λ bytes. IsReadAt bytes at n into)

-- a front of the bytes was written at the place. A write that was interrupted wrote nothing; after
-- another fault only what stands before the place is known
abbrev pub WritesSome : Option (List ℕ) → Option (List ℕ) → ℕ → List ℕ → Result ℕ PlacedNo → Type 0
WritesSome old new at bytes (Ok n) =
    new ≡ option_map (λ held. with_bytes_at held at (take n bytes)) old
WritesSome old new at bytes (Err Interrupted) = new ≡ old
WritesSome old new at bytes (Err Failed) = KeepsFront old new at

-- the bytes up to the length, and zeros behind them where they are fewer
abbrev pub fitted_length : ℕ → List ℕ → List ℕ
fitted_length len bytes = take len bytes ++ replicate (len - length bytes) 0

-- a length that a file was to have, and whether that was done
pub record LengthCall : Type 0 where
  pub len : ℕ
  pub done : Bool

abbrev pub length_call : ℕ → Bool → LengthCall
length_call len done = record { len = len; done = done }

-- one more length was asked for
abbrev pub with_length_call : ℕ → Bool → Option (List LengthCall) → Option (List LengthCall)
with_length_call len done calls = option_map (λ made. made ++ length_call len done ∷ []) calls

-- a put failed: nothing was written; or the file was to have its old length again, and has it but
-- where that failed too
abbrev pub Restores : (old new : Option (List ℕ)) (before after : Option (List LengthCall)) → Type 0
Restores old new before after = ((new ≡ old) × (after ≡ before))
    ⊎ ((len : ℕ) × (done : Bool) × IfSome old (λ held. len ≡ length held)
    × (after ≡ with_length_call len done before)
    × (done ≡ true → IfSome new (λ held. length held ≡ len)))

-- the file has the length; after a fault only the bytes before it are known
abbrev pub SetsLength : {T E : Type 0} → Option (List ℕ) → Option (List ℕ) → ℕ → Result T E → Type 0
SetsLength old new len (Ok done) = new ≡ option_map (fitted_length len) old
SetsLength old new len (Err why) = KeepsFront old new len

-- ---- calls that did nothing

-- how often calls of a file failed, and how often they were interrupted before they did anything
pub record Stops : Type 0 where
  pub failed : ℕ
  pub interrupted : ℕ

abbrev pub failed_once : Stops → Stops
failed_once stops = record stops { failed = stops.failed + 1 }

abbrev pub interrupted_once : Stops → Stops
interrupted_once stops = record stops { interrupted = stops.interrupted + 1 }

-- those behind one more read or write
abbrev pub with_answer : {T : Type 0} → Result T PlacedNo → Option Stops → Option Stops
with_answer (Ok done) stops = stops
with_answer (Err Interrupted) stops = option_map interrupted_once stops
with_answer (Err Failed) stops = option_map failed_once stops

-- those behind one more call that is never interrupted
abbrev pub with_end : {T E : Type 0} → Result T E → Option Stops → Option Stops
with_end (Ok done) stops = stops
with_end (Err why) stops = option_map failed_once stops

-- a call failed, or one was interrupted as often as it was tried: 2^64 - 1 times
abbrev pub HasFailed : Option Stops → Option Stops → Type 0
HasFailed None new = ⊤
HasFailed (Some old) None = ⊥
HasFailed (Some old) (Some new) = (old.failed < new.failed)
    ⊎ (old.interrupted + (2 ^ 64 - 1) ≤ new.interrupted)

-- no call failed; those that were interrupted did nothing, and are no fault
abbrev pub NoneFailed : Option Stops → Option Stops → Type 0
NoneFailed None new = ⊤
NoneFailed (Some old) None = ⊥
NoneFailed (Some old) (Some new) = new.failed ≡ old.failed

-- so many bytes from the place on would end behind the greatest number
abbrev pub IsBeyond : (at count : ℕ) → Type 0
IsBeyond at count = 2 ^ 64 ≤ at + count
