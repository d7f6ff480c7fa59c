-- What parts of a step do.
use Rattle.std.specs.Prelude.{◌≡◌, ◌⊎◌, ℕ, Bool, true, false, List, Option, Result, Ok, Err, ⊤}
use Rattle.kr_base.specs.Numbering.{next_number}
use Rattle.kr_kms.specs.Cache.{CacheState}
use Rattle.kr_kms.specs.Calls.{Link}
use Rattle.kr_kms.specs.Exchanges.{Exchange}
use Rattle.kr_provider.specs.Publication.{Publication}
use Rattle.kr_store.specs.declared.rows.Row.{Row}
use Rattle.kr_history.specs.declared.call.CallNo.{CallNo}
use Rattle.kr_history.specs.declared.outcome.Replacing.{Replacing}
use Rattle.kr_history.specs.declared.outcome.Replacing.TheVariants as replacing
use Rattle.kr_history.specs.Acting.{Caller}
use Rattle.kr_rewrite.specs.DriveExchanges.{ReadsRow, before, behind}
use Rattle.kr_rewrite.specs.Drives.{DrivesOver, IsCutOver, StayLinks}
use Rattle.kr_rewrite.specs.Rewrites.{CopiesNothing, Reseals, RewritesOver, ReadsFoundRow, StepsOver, UnsealsRow}
use Rattle.kr_rewrite.specs.declared.outcome.Report.{Report}
use Rattle.kr_rewrite.specs.declared.outcome.Step.{Step}
use Rattle.kr_rewrite.specs.declared.outcome.Step.TheVariants as step

-- ---- the row in its place

-- what the step did by what its Replace did
abbrev pub replaced_step : (path : List ℕ) → Result Replacing CallNo → Result Step CallNo
replaced_step path (Ok (replacing.Written revision)) = Ok (step.Rewritten path)
replaced_step path (Ok (replacing.Changed last)) = Ok (step.Changed path)
replaced_step path (Err why) = Err why

-- the data of a stale row are sealed anew, unless there is no memory for a copy of its path
abbrev pub ResealsRow : {D : Type 0} → (D → Option (List ℕ)) → (D → ℕ) → Publication → Row
    → (plain : List ℕ) → Caller → D → Result Step CallNo → Caller → D → Type 0
ResealsRow left count p row plain old dice result new after =
    Reseals left count p row plain old dice result new after
    ⊎ CopiesNothing old dice result new after

-- ---- a drive

-- one more step is counted
abbrev pub CountsStep : Report → Step → Bool → Report → Type 0
CountsStep old step.End result new = (result ≡ false) × (new ≡ old)
CountsStep old (step.Rewritten path) result new = (result ≡ true)
    × (new ≡ record old { rewritten = next_number old.rewritten; last = path })
CountsStep old (step.Fresh path) result new = (result ≡ true)
    × (new ≡ record old { fresh = next_number old.fresh; last = path })
CountsStep old (step.Changed path) result new = (result ≡ true)
    × (new ≡ record old { changed = next_number old.changed; last = path })
CountsStep old (step.Left path) result new = (result ≡ true)
    × (new ≡ record old { left = next_number old.left; last = path })

-- steps up to the end, or to the one that was cut short
module _ {S D : Type 0} (Reads : ReadsFoundRow S) (Meanwhile : S → S → Type 0)
    (left : D → Option (List ℕ)) (count : D → ℕ) (replica : ℕ) where
  abbrev pub DrivesFromOver : (above : List ℕ) → Caller → S → D → Result Report (Report × CallNo)
      → Caller → S → D → Type 0
  DrivesFromOver above old from dice (Ok report) new to after =
      DrivesOver Reads Meanwhile left count replica above old from dice report new to after
  DrivesFromOver above old from dice (Err cut) new to after =
      IsCutOver Reads Meanwhile left count replica above old from dice cut.1 cut.0 new to after

module _ {L D : Type 0} (link : L → Link) (left : D → Option (List ℕ))
    (count : D → ℕ) (replica : ℕ) where
  abbrev pub DrivesFrom : (above : List ℕ) → Caller → List L → D → Result Report (Report × CallNo)
      → Caller → List L → D → Type 0
  DrivesFrom above old olds dice result new news after = DrivesFromOver (UnsealsRow link)
      (StayLinks link) left count replica above old olds dice result new news after

-- ---- by which exchanges

module _ {D : Type 0} (left : D → Option (List ℕ)) (count : D → ℕ) where
  -- the row that was found is rewritten
  abbrev pub RewritesRowBy : Publication → Row → Caller → CacheState → D → Result Step CallNo
      → Caller → CacheState → D → List Exchange → Type 0
  RewritesRowBy p row old cache dice result new kept after exchanges = RewritesOver ReadsRow left
      count p row old (before cache exchanges) dice result new (behind kept) after

  -- a step by a held configuration
  abbrev pub StepsBy : Publication → (above : List ℕ) → Caller → CacheState → D
      → Result Step CallNo → Caller → CacheState → D → List Exchange → Type 0
  StepsBy p above old cache dice result new kept after exchanges = StepsOver ReadsRow left count p
      above old (before cache exchanges) dice result new (behind kept) after

  -- steps up to the end, or to the one that was cut short
  abbrev pub DrivesFromBy : (replica : ℕ) → (above : List ℕ) → Caller → CacheState → D
      → Result Report (Report × CallNo) → Caller → CacheState → D → List Exchange → Type 0
  DrivesFromBy replica above old cache dice result new kept after exchanges =
      DrivesFromOver ReadsRow
      (λ from to. ⊤) left count replica above old (before cache exchanges) dice result new
      (behind kept) after
