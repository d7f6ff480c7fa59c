-- The configuration in a file.
use Rattle.std.specs.Prelude.{◌≡◌, ℕ, ◌<◌, ◌≤◌, ◌⊎◌, List, length, Option, None, Some, Result, Err}
use Rattle.std.specs.Result.{result_map_both}
use Rattle.kr_base.specs.Limits.{config_limit}
use Rattle.kr_config.specs.Kept.{ConfigEntry}
use Rattle.kr_config.specs.Meanings.{MeansConfig}
use Rattle.kr_config.specs.declared.refusal.ConfigNo.{ConfigNo}
use Rattle.kr_base.specs.Visible.{visible}
use Rattle.kr_cmd_messages.specs.declared.refusal.Refusal.{Refusal}
use Rattle.kr_cmd_messages.specs.declared.refusal.Refusal.TheVariants.{Absent, Configuration, Limit}
use Rattle.kr_cmd_messages.specs.declared.refusal.Limit.TheVariants.{Config}

-- the entries of a configuration, or why there are none
abbrev pub Entries : Type 0
Entries = Result (List ConfigEntry) Refusal

-- what the file of a name is read as: it is within the limit, and they mean these entries or this
-- breach
abbrev pub IsConfiguration : List ℕ → Option (List ℕ) → Entries → Type 0
IsConfiguration name None read = read ≡ Err (Absent (visible name))
IsConfiguration name (Some bytes) read =
    ((config_limit < length bytes) × (read ≡ Err (Limit Config)))
    ⊎ ((length bytes ≤ config_limit) × (rows : Result (List ConfigEntry) ConfigNo)
    × MeansConfig bytes rows
    × (read ≡ result_map_both (λ r. r) Configuration rows))
