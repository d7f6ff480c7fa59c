-- What exchanges with plugins keep, by whatever agrees with them.
use Rattle.std.specs.Prelude.{ℕ, List, Result}
use Rattle.kr_config.specs.declared.who.Who.{Who}
use Rattle.kr_kms.specs.Cache.{AreOpenBy, CacheState}
use Rattle.kr_kms.specs.Exchanges.{AgreeAll, Exchange}
use Rattle.kr_kms.specs.Opens.{Opens}
use Rattle.kr_kms.specs.declared.seeds.SeedRow.{SeedRow}
use Rattle.kr_provider.specs.Exchanges.{ReadsBy}
use Rattle.kr_provider.specs.declared.refusal.Opened.{Opened}
use Rattle.kr_provider.specs.declared.refusal.UnsealNo.{UnsealNo}

-- where the kept seeds are what their sources open to, so are those that are kept behind a reading,
-- whatever the published seeds are
abbrev pub KeptSeedsOpen : Type 0
KeptSeedsOpen = (opens : Opens) (seeds : List SeedRow) (list : List Who) (path bytes : List ℕ)
    (cache : CacheState) (result : Result Opened UnsealNo) (after : CacheState)
    (exchanges : List Exchange) → ReadsBy seeds list path bytes cache result after exchanges
    → AgreeAll opens exchanges → AreOpenBy opens cache.rows → AreOpenBy opens after.rows
