-- What identity writes.
use Rattle.std.specs.Prelude.{◌≡◌, ℕ, true, false, List, Result, Ok, Err, ⊤}
use Rattle.kr_envelope.specs.Prefixes.{is_marked}
use Rattle.kr_provider.specs.declared.refusal.SealNo.{SealNo}
use Rattle.kr_provider.specs.declared.refusal.SealNo.TheVariants.{LooksEncrypted, TooLarge, DiceFailed, NoMemory}

-- the data as they stand, or the refusal
abbrev pub IsBare : List ℕ → Result (List ℕ) SealNo → Type 0
IsBare plain (Ok value) = (is_marked plain ≡ false) × (value ≡ plain)
IsBare plain (Err (TooLarge size)) = ⊥
IsBare plain (Err LooksEncrypted) = is_marked plain ≡ true
IsBare plain (Err DiceFailed) = ⊥
IsBare plain (Err NoMemory) = ⊤
