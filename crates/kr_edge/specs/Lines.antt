-- Lines, each with LF, the byte 10, as its end, and exchanges of a question for a line.
use Rattle.std.specs.Prelude.{◌≡◌, ◌≢◌, ℕ, ◌<◌, ◌≤◌, List, [], ◌∷◌, ◌++◌, length, Bool, true, false, Option, All, ◌⊎◌}
use Rattle.std.specs.Io.KnownBytes.{Appends, Consumes, IsAtEnd}
use Rattle.kr_base.specs.Faults.{Rose}
use Rattle.kr_base.specs.Numbering.{next_number}
use Rattle.kr_base.specs.Streams.{AppendsFront}
use Rattle.kr_edge.specs.declared.exchange.Exchange.{Exchange}

abbrev pub HasNoLF : List ℕ → Type 0
HasNoLF bytes = All (λ byte. byte ≢ 10) bytes

-- one line was taken from the front, with its LF
abbrev pub TakesLine : Option (List ℕ) → Option (List ℕ) → List ℕ → Type 0
TakesLine old new line = Consumes old new (line ++ 10 ∷ []) × HasNoLF line

-- bytes stand behind the line
abbrev pub HasMoreBytes : List ℕ → Type 0
HasMoreBytes bytes = (line : List ℕ) × (behind : List ℕ)
    × (bytes ≡ line ++ 10 ∷ behind) × (0 < length behind)

-- what was taken from the front isn't one line: there is an end in place of its LF, or no LF in so
-- many bytes, or it goes on behind it
abbrev pub TakesNoLine : ℕ → Option (List ℕ) → Option (List ℕ) → Type 0
TakesNoLine most old new = (bytes : List ℕ) × Consumes old new bytes
    × ((HasNoLF bytes × (IsAtEnd new ⊎ (length bytes ≡ most))) ⊎ HasMoreBytes bytes)

-- ---- exchanges

-- the two ends of an exchange: the bytes that were written and those that are left to be read,
-- where they are told; how often each end failed; and whether an exchange was cut off or broken off
pub record ExchangeEnds : Type 0 where
  pub written : Option (List ℕ)
  pub left : Option (List ℕ)
  pub write_faults : ℕ
  pub read_faults : ℕ
  pub broken : Bool

abbrev pub ends_of : {W R : Type 0} → (W → Option (List ℕ)) → (R → Option (List ℕ))
    → Exchange W R → ExchangeEnds
ends_of contents remaining exchange = record {
  written = contents exchange.input.writer;
  left = remaining exchange.output.reader;
  write_faults = exchange.input.faults;
  read_faults = exchange.output.faults;
  broken = exchange.broken;
}

-- neither end failed
abbrev pub NoneFails : ExchangeEnds → ExchangeEnds → Type 0
NoneFails old new =
    (new.write_faults ≡ old.write_faults) × (new.read_faults ≡ old.read_faults)

-- no exchange was cut off or broken off before; the question was written, once, and a line of at
-- most 131,072 bytes was taken as its answer. Neither end failed, so that no fault was survived
pub record Exchanged (old new : ExchangeEnds) (question line : List ℕ) : Type 0 where
  pub before : old.broken ≡ false
  pub asked : Appends old.written new.written question
  pub answered : TakesLine old.left new.left line
  pub short : length line ≤ 131072
  pub whole : new.broken ≡ false
  pub calm : NoneFails old new

-- a source failed, once; or it didn't, and what it gave is no line
abbrev pub GivesNoLine : ℕ → (old new : Option (List ℕ)) → (before now : ℕ) → Type 0
GivesNoLine most old new before now = (Rose before now × (now ≡ next_number before))
    ⊎ (TakesNoLine most old new × (now ≡ before))

-- one end failed, once, and not the other; or neither did, and no line of at most 131,072 bytes came
abbrev pub FailsToAnswer : ExchangeEnds → ExchangeEnds → Type 0
FailsToAnswer old new =
    (Rose old.write_faults new.write_faults × (new.write_faults ≡ next_number old.write_faults)
    × (new.read_faults ≡ old.read_faults))
    ⊎ (GivesNoLine 131073 old.left new.left old.read_faults new.read_faults
    × (new.write_faults ≡ old.write_faults))

-- one was cut off or broken off before, so nothing was asked; or this one fails
abbrev pub CutsOff : ExchangeEnds → ExchangeEnds → Type 0
CutsOff old new = ((old.broken ≡ true) × (new ≡ old))
    ⊎ ((old.broken ≡ false) × FailsToAnswer old new)

-- the same ends, of which the last exchange was broken off by the one who asked
abbrev pub broken_off : ExchangeEnds → ExchangeEnds
broken_off ends = record ends { broken = true }

-- a front of the question was written at most
pub record IsCutOff (old new : ExchangeEnds) (question : List ℕ) : Type 0 where
  pub asked : AppendsFront old.written new.written question
  pub cause : CutsOff old new
  pub broken : new.broken ≡ true
