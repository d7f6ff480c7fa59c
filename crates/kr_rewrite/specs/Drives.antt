-- `drive`: steps, each from the path of the row that the one before found, up to the end or the
-- first that is cut short.
use Rattle.std.specs.Prelude.{◌≡◌, ◌⊎◌, ℕ, ◌≤◌, ◌+◌, ◌*◌, ◌-◌, ◌^◌, Bool, true, false, List, [], ◌∷◌, ◌++◌, length, map, count_by, min, All, Contains, Option, None, IsSome, Result, Ok, Err, ⊤}
use Rattle.std.specs.declared.cmp.Ordering.TheVariants.{Less}
use Rattle.std.specs.Ordering.{nat_cmp}
use Rattle.std.specs.Cmp.Lexicographic.{slice_cmp}
use Rattle.kr_kms.specs.Calls.{Link}
use Rattle.kr_provider.specs.AskedLinks.{AskedOnly}
use Rattle.kr_provider.specs.Names.{names_of}
use Rattle.kr_store.specs.Rows.{live}
use Rattle.kr_history.specs.declared.call.CallNo.{CallNo}
use Rattle.kr_history.specs.declared.call.CallNo.TheVariants as refusal
use Rattle.kr_rollout.specs.declared.opening.Entry.{Entry}
use Rattle.kr_history.specs.Acting.{Caller}
use Rattle.kr_history.specs.Calls.{IsIdleAfter}
use Rattle.kr_rollout.specs.Callers.{holding}
use Rattle.kr_rollout.specs.Histories.{state_of}
use Rattle.kr_history.specs.Parts.{AddsWithin}
use Rattle.kr_rewrite.specs.Rewrites.{IsStepOver, ReadsFoundRow, UnsealsRow}
use Rattle.kr_rewrite.specs.declared.outcome.Report.{Report}
use Rattle.kr_rewrite.specs.declared.outcome.Step.{Step}
use Rattle.kr_rewrite.specs.declared.outcome.Step.TheVariants as step

-- ---- steps

-- the path of the row that a step found; at the end the one above which there is none
abbrev pub path_of : (above : List ℕ) → Step → List ℕ
path_of above step.End = above
path_of above (step.Rewritten path) = path
path_of above (step.Fresh path) = path
path_of above (step.Changed path) = path
path_of above (step.Left path) = path

-- a step that found a row
abbrev pub FindsRow : Step → Type 0
FindsRow step.End = ⊥
FindsRow taken = ⊤

-- it found its row not stale, or replaced it
abbrev pub IsSettled : Step → Type 0
IsSettled (step.Rewritten path) = ⊤
IsSettled (step.Fresh path) = ⊤
IsSettled taken = ⊥

abbrev pub is_rewritten : Step → Bool
is_rewritten (step.Rewritten path) = true
is_rewritten taken = false

abbrev pub is_fresh : Step → Bool
is_fresh (step.Fresh path) = true
is_fresh taken = false

abbrev pub is_changed : Step → Bool
is_changed (step.Changed path) = true
is_changed taken = false

abbrev pub is_left : Step → Bool
is_left (step.Left path) = true
is_left taken = false

-- the path of the last of some steps
abbrev pub last_of : (above : List ℕ) → List Step → List ℕ
last_of above [] = above
last_of above (taken ∷ steps) = last_of (path_of above taken) steps

-- ---- the report

-- a count stays at the greatest number
abbrev pub capped_count : ℕ → ℕ
capped_count n = min n (2 ^ 64 - 1)

-- each step is counted as what it did
pub record StepCounts (above : List ℕ) (steps : List Step) (report : Report) : Type 0 where
  pub rewritten : report.rewritten ≡ capped_count (count_by is_rewritten steps)
  pub fresh : report.fresh ≡ capped_count (count_by is_fresh steps)
  pub changed : report.changed ≡ capped_count (count_by is_changed steps)
  pub left : report.left ≡ capped_count (count_by is_left steps)
  pub last : report.last ≡ last_of above steps

-- that of no step
abbrev pub report_at : (last : List ℕ) → Report
report_at last = record { rewritten = 0; fresh = 0; changed = 0; left = 0; last = last }

-- where no row was left and none had changed, each step found its row not stale, or replaced it
abbrev pub LeavesNoneStale : List Step → Report → Type 0
LeavesNoneStale steps report = report.left ≡ 0 → report.changed ≡ 0 → All IsSettled steps

-- ---- that no row was passed by

-- the path had a live row before each entry that the caller added
abbrev pub IsLiveThroughout : (path : List ℕ) → (old new : Caller) → Type 0
IsLiveThroughout path old new = (before : List Entry) (e : Entry) (rest : List Entry)
    → new.seen ≡ (old.seen ++ before) ++ e ∷ rest → e.line.seat ≡ old.seat
    → IsSome (live (state_of old.opening (old.seen ++ before)).rows path)

-- a step was taken at each path above that had
abbrev pub CoversLive : (above : List ℕ) → List Step → (old new : Caller) → Type 0
CoversLive above steps old new = (path : List ℕ) → slice_cmp nat_cmp above path ≡ Less
    → IsLiveThroughout path old new → Contains (map (path_of above) steps) path

-- ---- a drive

-- there was no memory for a copy of the path
pub record CopiesNoPath {S D : Type 0} (old : Caller) (from : S) (dice : D) (why : CallNo)
    (report : Report) (new : Caller) (to : S) (after : D) : Type 0 where
  pub why_is : why ≡ refusal.NoMemory
  pub report_is : report ≡ report_at []
  pub same : new ≡ old
  pub links : to ≡ from
  pub dice_is : after ≡ dice

module _ {S D : Type 0} (Reads : ReadsFoundRow S) (left : D → Option (List ℕ)) (count : D → ℕ)
    (replica : ℕ) where
  -- a step that found a row, and what comes behind it
  pub record GoesOver (above : List ℕ) (taken : Step) (old : Caller) (from : S) (dice : D)
      (Behind : Caller → S → D → Type 0) : Type 0 where
    pub middle : Caller
    pub mids : S
    pub between : D
    pub finds : FindsRow taken
    pub goes : IsStepOver Reads left count replica above old from dice (Ok taken) middle mids
        between
    pub behind : Behind middle mids between

  -- these steps, one behind another
  abbrev pub WalksOver : (above : List ℕ) → List Step → Caller → S → D → Caller → S → D → Type 0
  WalksOver above [] old from dice new to after = (new ≡ old) × (to ≡ from) × (after ≡ dice)
  WalksOver above (taken ∷ steps) old from dice new to after =
      GoesOver above taken old from dice (λ middle mids between.
      WalksOver (path_of above taken) steps middle mids between new to after)

module _ {S D : Type 0} (Reads : ReadsFoundRow S) (Meanwhile : S → S → Type 0)
    (left : D → Option (List ℕ)) (count : D → ℕ) (replica : ℕ) where
  -- these steps, and one that ended so. Each adds at most four entries; meanwhile no count of
  -- faults falls, and this holds of what answers
  pub record EndsByOver (above : List ℕ) (steps : List Step) (old : Caller) (from : S) (dice : D)
      (ended : Result Step CallNo) (report : Report) (new : Caller) (to : S) (after : D)
      : Type 0 where
    pub counts : StepCounts above steps report
    pub middle : Caller
    pub mids : S
    pub between : D
    pub walks : WalksOver Reads left count replica above steps old from dice middle mids
        between
    pub walks_few : AddsWithin (4 * length steps) 0 [] old middle
    pub walks_asked : Meanwhile from mids
    pub walks_later : count dice ≤ count between
    pub ends : IsStepOver Reads left count replica (last_of above steps) middle mids between ended
        new to after
    pub few : AddsWithin (4 * length steps + 4) 0 [] old new

  -- the report of a drive that came to the end
  pub record DrivesOver (above : List ℕ) (old : Caller) (from : S) (dice : D) (report : Report)
      (new : Caller) (to : S) (after : D) : Type 0 where
    pub steps : List Step
    pub ends : EndsByOver above steps old from dice (Ok step.End) report new to after
    pub covers : CoversLive above steps old new
    pub settles : LeavesNoneStale steps report

  -- and of one that was cut short
  pub record IsCutOver (above : List ℕ) (old : Caller) (from : S) (dice : D) (why : CallNo)
      (report : Report) (new : Caller) (to : S) (after : D) : Type 0 where
    pub steps : List Step
    pub ends : EndsByOver above steps old from dice (Err why) report new to after

  abbrev pub IsDriveOver : (above : List ℕ) → Caller → S → D → Result Report (Report × CallNo)
      → Caller → S → D → Type 0
  IsDriveOver above old from dice (Ok report) new to after =
      DrivesOver above old from dice report new to after
  IsDriveOver above old from dice (Err cut) new to after =
      IsCutOver above old from dice cut.1 cut.0 new to after
      ⊎ CopiesNoPath old from dice cut.1 cut.0 new to after

-- ---- over links

module _ {L : Type 0} (link : L → Link) where
  -- each link stays the same plugin's
  abbrev pub StayLinks : List L → List L → Type 0
  StayLinks olds news = AskedOnly link (names_of link olds) olds news

module _ {L D : Type 0} (link : L → Link) (left : D → Option (List ℕ))
    (count : D → ℕ) (replica : ℕ) where
  abbrev pub Walks : (above : List ℕ) → List Step → Caller → List L → D → Caller → List L → D
      → Type 0
  Walks above steps old olds dice new news after = WalksOver (UnsealsRow link) left count
      replica above steps old olds dice new news after

  abbrev pub EndsBy : (above : List ℕ) → List Step → Caller → List L → D → Result Step CallNo
      → Report → Caller → List L → D → Type 0
  EndsBy above steps old olds dice ended report new news after = EndsByOver (UnsealsRow link)
      (StayLinks link) left count replica above steps old olds dice ended report new news after

  abbrev pub Drives : (above : List ℕ) → Caller → List L → D → Report → Caller → List L → D
      → Type 0
  Drives above old olds dice report new news after = DrivesOver (UnsealsRow link)
      (StayLinks link) left count replica above old olds dice report new news after

  abbrev pub IsCut : (above : List ℕ) → Caller → List L → D → CallNo → Report → Caller → List L
      → D → Type 0
  IsCut above old olds dice why report new news after = IsCutOver (UnsealsRow link)
      (StayLinks link) left count replica above old olds dice why report new news after

  abbrev pub IsDrive : (above : List ℕ) → Caller → List L → D → Result Report (Report × CallNo)
      → Caller → List L → D → Type 0
  IsDrive above old olds dice result new news after = IsDriveOver (UnsealsRow link)
      (StayLinks link) left count replica above old olds dice result new news after

-- afterwards the seat holds nothing, unless it could add no more lines
abbrev pub IsIdleAtEnd : Result Report (Report × CallNo) → Caller → Type 0
IsIdleAtEnd (Ok report) new = holding new.mine ≡ None
IsIdleAtEnd (Err cut) new = IsIdleAfter cut.1 new
