-- By which exchanges with plugins, exactly, a step and a drive go: for each row that was found
-- those by which its value was unsealed, one row after another. Nothing else is asked of a plugin.
use Rattle.std.specs.Prelude.{◌≡◌, ℕ, List, [], ◌++◌, Option, Result, ⊤}
use Rattle.kr_kms.specs.Cache.{CacheState}
use Rattle.kr_kms.specs.Exchanges.{Exchange}
use Rattle.kr_provider.specs.Exchanges.{ReadsBy}
use Rattle.kr_provider.specs.Publication.{Publication, list_at}
use Rattle.kr_provider.specs.declared.refusal.Opened.{Opened}
use Rattle.kr_provider.specs.declared.refusal.UnsealNo.{UnsealNo}
use Rattle.kr_store.specs.declared.rows.Row.{Row}
use Rattle.kr_history.specs.declared.call.CallNo.{CallNo}
use Rattle.kr_history.specs.Acting.{Caller}
use Rattle.kr_rewrite.specs.Drives.{IsDriveOver}
use Rattle.kr_rewrite.specs.Rewrites.{IsStepOver}
use Rattle.kr_rewrite.specs.declared.outcome.Report.{Report}
use Rattle.kr_rewrite.specs.declared.outcome.Step.{Step}

-- the seeds that are kept, and the exchanges that are still to come
pub record Ahead : Type 0 where
  pub cache : CacheState
  pub exchanges : List Exchange

-- the row's value is unsealed by the first of them
pub record ReadsRow (p : Publication) (row : Row) (from : Ahead) (opened : Result Opened UnsealNo)
    (to : Ahead) : Type 0 where
  pub first : List Exchange
  pub are : from.exchanges ≡ first ++ to.exchanges
  pub reads : ReadsBy p.seeds (list_at p row.resource) row.path row.stored from.cache opened
      to.cache first

-- before these exchanges, and behind them
abbrev pub before : CacheState → List Exchange → Ahead
before cache exchanges = record { cache = cache; exchanges = exchanges }

abbrev pub behind : CacheState → Ahead
behind cache = record { cache = cache; exchanges = [] }

module _ {D : Type 0} (left : D → Option (List ℕ)) (count : D → ℕ) (replica : ℕ)
    (above : List ℕ) where
  abbrev pub IsStepBy : Caller → CacheState → D → Result Step CallNo → Caller → CacheState → D
      → List Exchange → Type 0
  IsStepBy old cache dice result new kept after exchanges = IsStepOver ReadsRow left count replica
      above old (before cache exchanges) dice result new (behind kept) after

  abbrev pub IsDriveBy : Caller → CacheState → D → Result Report (Report × CallNo) → Caller
      → CacheState → D → List Exchange → Type 0
  IsDriveBy old cache dice result new kept after exchanges = IsDriveOver ReadsRow (λ from to. ⊤)
      left count replica above old (before cache exchanges) dice result new (behind kept) after
