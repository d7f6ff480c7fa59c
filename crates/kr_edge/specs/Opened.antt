-- What opening a file by its name gives, where the files are told, and what comes of reading it.
use Rattle.std.specs.Prelude.{◌≡◌, List, ℕ, ◌<◌, length, Option, None, Some, Result, Ok, Err, ⊤}
use Rattle.std.specs.Io.KnownBytes.{Consumes, IsAtEnd}
use Rattle.kr_base.specs.Faults.{Rose}
use Rattle.kr_base.specs.Told.{Agrees}
use Rattle.kr_edge.specs.declared.system.OpenNo.{OpenNo}
use Rattle.kr_edge.specs.declared.system.OpenNo.TheVariants.{Absent, Failed}

-- a reader has the bytes of a file that is told
abbrev pub ReaderHolds : Option (Option (List ℕ)) → Option (List ℕ) → Type 0
ReaderHolds None remaining = ⊤
ReaderHolds (Some None) remaining = ⊥
ReaderHolds (Some (Some bytes)) remaining = remaining ≡ Some bytes

-- the file is absent, or its reader has its bytes
abbrev pub OpensFile : {F : Type 0} → (F → Option (List ℕ)) → Option (Option (List ℕ))
    → Result F OpenNo → Type 0
OpensFile remaining file (Ok reader) = ReaderHolds file (remaining reader)
OpensFile remaining file (Err Absent) = Agrees file None
OpensFile remaining file (Err Failed) = ⊤

-- what was opened failed while it was read
pub record FailsToRead {F : Type 0} (left : F → Option (List ℕ)) (count : F → ℕ)
    (file : Option (Option (List ℕ))) : Type 0 where
  pub first : F
  pub last : F
  pub opened : ReaderHolds file (left first)
  pub failed : Rose (count first) (count last)

-- it ended behind fewer bytes than were asked for
abbrev pub EndsBefore : ℕ → Option (List ℕ) → Option (List ℕ) → Type 0
EndsBefore count old new = (bytes : List ℕ) × Consumes old new bytes × IsAtEnd new
    × (length bytes < count)
