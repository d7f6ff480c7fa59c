-- Whether a plugin is healthy, by the status that it answers (after KEP-3299).
use Rattle.std.specs.Prelude.{◌≡◌, ℕ, List, [], ◌∷◌, codes, if◌then◌else◌, Option, Some, None, Result, Ok, Err, ⊤}
use Rattle.std.specs.Str.{bytes_eq}
use Rattle.kr_base.specs.Faults.{Rose}
use Rattle.kr_base.specs.Limits.{is_short}
use Rattle.kr_base.specs.Told.{Agrees}
use Rattle.kr_kms.specs.Calls.{Link}
use Rattle.kr_kms.specs.Exchanges.{Exchange, StatusCall}
use Rattle.kr_kms.specs.declared.plugin.KmsNo.{KmsNo}
use Rattle.kr_kms.specs.declared.plugin.KmsNo.TheVariants as link
use Rattle.kr_kms.specs.declared.plugin.Status.{Status}
use Rattle.kr_kms.specs.declared.health.Field.{Field}
use Rattle.kr_kms.specs.declared.health.Field.TheVariants.{Version, Healthz, KeyId}
use Rattle.kr_kms.specs.declared.health.SeedNo.{SeedNo}
use Rattle.kr_kms.specs.declared.health.SeedNo.TheVariants.{Failed, DiceFailed, Unhealthy, NoMemory}

-- the first rule that a status breaks, as the part that breaks it and what that says: the version
-- is `v2`, the health is `ok`, the key id has 1 to 1,024 bytes; a healthy plugin breaks none
abbrev pub breach_in : Status → Option (Field × List ℕ)
breach_in status = if bytes_eq status.version (codes "v2") then
    (if bytes_eq status.healthz (codes "ok") then
    (if is_short status.key_id then None else Some (KeyId, status.key_id))
    else Some (Healthz, status.healthz))
    else Some (Version, status.version)

-- some status that agrees with what the link tells breaks this rule first; where the link tells its
-- status, that one does
abbrev pub HasBreach : Link → Option (Field × List ℕ) → Type 0
HasBreach link breach = (status : Status) × Agrees link.status status × (breach_in status ≡ breach)

-- the key id of a healthy plugin, or why there is none
abbrev pub TellsKeyId : Link → Result (List ℕ) SeedNo → Link → Type 0
TellsKeyId old (Ok key_id) new = (status : Status) × Agrees old.status status
    × (breach_in status ≡ None) × (status.key_id ≡ key_id)
TellsKeyId old (Err (Unhealthy field text)) new = HasBreach old (Some (field, text))
TellsKeyId old (Err Failed) new = Rose old.count new.count
TellsKeyId old (Err DiceFailed) new = ⊥
TellsKeyId old (Err NoMemory) new = ⊤

-- ---- by which exchanges

-- why a link gave no answer, as it is told
abbrev pub seed_no : KmsNo → SeedNo
seed_no link.Failed = Failed
seed_no link.NoMemory = NoMemory

-- the key id of a status that breaks no rule, and else the first rule that it breaks
abbrev pub IsStatusJudged : Status → Result (List ℕ) SeedNo → Type 0
IsStatusJudged status (Ok key_id) = (breach_in status ≡ None) × (status.key_id ≡ key_id)
IsStatusJudged status (Err (Unhealthy field text)) = breach_in status ≡ Some (field, text)
IsStatusJudged status (Err Failed) = ⊥
IsStatusJudged status (Err DiceFailed) = ⊥
IsStatusJudged status (Err NoMemory) = ⊥

-- the status was asked once, and its answer decides
pub data TellsKeyIdBy (name : List ℕ) (result : Result (List ℕ) SeedNo) : List Exchange
    → Type 0 where
  no_status : (why : KmsNo) → result ≡ Err (seed_no why)
      → TellsKeyIdBy name result (StatusCall name (Err why) ∷ [])
  judged : (status : Status) → IsStatusJudged status result
      → TellsKeyIdBy name result (StatusCall name (Ok status) ∷ [])
