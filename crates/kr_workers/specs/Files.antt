-- The configurations that a fleet file names, by the names of their files.
use Rattle.std.specs.Prelude.{ℕ, List, Option, find}
use Rattle.std.specs.Option.{option_map}
use Rattle.std.specs.Str.{bytes_eq}
use Rattle.kr_config.specs.Kept.{ConfigEntry, rows_of}
use Rattle.kr_workers.specs.declared.files.SettingsFile.{SettingsFile}

-- the settings of the file, by their rows; none where no file of this name was read
abbrev pub rows_at : List SettingsFile → (name : List ℕ) → Option (List ConfigEntry)
rows_at files name = option_map (λ file. rows_of file.settings.entries.0)
    (find (λ file. bytes_eq file.name name) files)
