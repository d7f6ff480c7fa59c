-- What an answer of std's files says.
use Rattle.std.specs.Prelude.{◌≡◌, ◌<◌, Bool, true, false}
use Rattle.std.specs.Fs.{IsFile, file_type, metadata_len}
use Rattle.std.specs.declared.fs.attrs.Metadata.{Metadata}
use Rattle.kr_edge.specs.declared.system.ChildStream.{ChildStream}
use Rattle.kr_edge.specs.declared.system.ChildStream.TheVariants.{Piped, Shared}
use Rattle.kr_edge.specs.declared.system.Found.{Found}
use Rattle.kr_edge.specs.declared.system.Found.TheVariants.{Absent, Empty, Filled, Device, Other, Failed}

-- a plain file, with bytes or without, or something else: std tells no more of a device
abbrev pub IsFound : Metadata → Found → Type 0
IsFound found Empty = IsFile (file_type found) × (metadata_len found ≡ 0)
IsFound found Filled = IsFile (file_type found) × (0 < metadata_len found)
IsFound found Device = IsFile (file_type found) → ⊥
IsFound found Other = IsFile (file_type found) → ⊥
IsFound found Absent = ⊥
IsFound found Failed = ⊥

abbrev pub is_piped : ChildStream → Bool
is_piped Piped = true
is_piped Shared = false
