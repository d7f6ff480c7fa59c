-- Laws for callers.
use Rattle.std.specs.Prelude.{◌≡◌, ℕ, List, Option, Some, Result, IfOk}
use Rattle.std.specs.Bool.{Decides}
use Rattle.kr_kms.specs.Cache.{CacheState, AreOpenBy, FetchesBy}
use Rattle.kr_kms.specs.Exchanges.{Exchange, AgreesWith, AgreeAll}
use Rattle.kr_kms.specs.Outside.{same_seat, same_name, same_link}
use Rattle.kr_kms.specs.Seeds.{MakesSeedBy}
use Rattle.kr_kms.specs.Table.{Table, TableStep, table_opens}
use Rattle.kr_kms.specs.Opens.{Opens, key_of}
use Rattle.kr_kms.specs.declared.plugin.KmsNo.{KmsNo}
use Rattle.kr_kms.specs.declared.health.SeedNo.{SeedNo}
use Rattle.kr_kms.specs.declared.seeds.SeedKey.{SeedKey}
use Rattle.kr_kms.specs.declared.seeds.SeedRow.{SeedRow}

-- two keys of lent objects are one only where they are equal in each part
abbrev pub KeysAreToldApart : Type 0
KeysAreToldApart = ((seat other : ℕ) → Decides (same_seat seat other) (seat ≡ other))
    × ((name other : List ℕ) → Decides (same_name name other) (name ≡ other))
    × ((link other : ℕ × List ℕ) → Decides (same_link link other) (link ≡ other))

-- by whatever agrees with what was asked, a cache whose seeds are what their keys open to stays
-- one, and what is fetched through it is what its key opens to
abbrev pub FetchedSeedsOpen : Type 0
FetchedSeedsOpen = (opens : Opens) (key : SeedKey) (cache : CacheState)
    (result : Result (List ℕ) KmsNo) (after : CacheState) (exchanges : List Exchange)
    → FetchesBy key cache result after exchanges → AgreeAll opens exchanges
    → AreOpenBy opens cache.rows
    → AreOpenBy opens after.rows × IfOk result (λ seed. opens key ≡ Some seed)

-- so is a seed that was made what the source beside it opens to
abbrev pub MadeSeedsOpen : {D : Type 0} → (left : D → Option (List ℕ)) (count : D → ℕ) → Type 0
MadeSeedsOpen {D} left count = (opens : Opens) (name : List ℕ) (dice : D)
    (result : Result SeedRow SeedNo) (after : D) (exchanges : List Exchange)
    → MakesSeedBy left count name dice result after exchanges → AgreeAll opens exchanges
    → IfOk result (λ row. opens (key_of row) ≡ Some row.seed)

-- what plugins in memory answer agrees with what their sources are masked by
abbrev pub TablesAgree : Type 0
TablesAgree = (old : Table) (exchange : Exchange) (new : Table) → TableStep old exchange new
    → AgreesWith table_opens exchange
