-- The second page: which entries a rewrite's part of the history has, by its reply. Begin at
-- `RewritePart`, the last definition.
use Rattle.std.specs.Prelude.{◌≡◌, ◌⊎◌, ℕ, List, [], ◌∷◌, ◌++◌, count_by, Some, ⊤}
use Rattle.kr_provider.specs.Publication.{Publication}
use Rattle.kr_store.specs.declared.rows.Row.{Row}
use Rattle.kr_rollout.specs.declared.line.Did.TheVariants as did
use Rattle.kr_rollout.specs.declared.line.Gave.{Gave}
use Rattle.kr_rollout.specs.declared.line.Gave.TheVariants as gave
use Rattle.kr_rollout.specs.declared.opening.Entry.{Entry}
use Rattle.kr_rewrite.specs.Drives.{capped_count, is_changed, is_fresh, is_left, is_rewritten, path_of}
use Rattle.kr_rewrite.specs.declared.outcome.Step.{Step}
use Rattle.kr_rewrite.specs.declared.outcome.Step.TheVariants as step
use Rattle.kr_script.specs.declared.told.Told.{Told}
use Rattle.kr_script.specs.declared.told.Told.TheVariants as told
use Rattle.kr_workers.specs.Configurations.{ReadBy}
use Rattle.kr_workers.specs.Shapes.{HasDone, HoldsPart, IsAlone, IsOne}

-- ---- it meets one row after another, each by one configuration

-- the entry found the row of this path, the least above the one before; this holds of the row
pub record IsFound (above path : List ℕ) (revision : ℕ) (e : Entry) (Is : Row → Type 0)
    : Type 0 where
  pub does : HasDone e (did.After above) (gave.Found revision)
  pub row : Row
  pub row_is : e.row ≡ Some row
  pub path_is : row.path ≡ path
  pub is : Is row

-- it was found, and no more
pub record Passes (above path : List ℕ) (Is : Row → Type 0) (mids : List Entry) : Type 0 where
  pub revision : ℕ
  pub find : Entry
  pub mids_are : mids ≡ find ∷ []
  pub finds : IsFound above path revision find Is

-- no row is above
abbrev pub FindsNone : (above : List ℕ) → (mids : List Entry) → Type 0
FindsNone above mids = IsOne mids (did.After above) gave.Absent (λ e. ⊤)

-- by what a configuration makes of a row: it is fresh, stale, or can't be read or sealed anew
module _ (IsFresh IsStale IsLeft : Publication → Row → Type 0) where
  -- it was stale: its data were put there anew, or that was answered otherwise
  pub record Reseals (p : Publication) (above path : List ℕ) (given : Gave) (mids : List Entry)
      : Type 0 where
    pub revision : ℕ
    pub find : Entry
    pub replace : Entry
    pub mids_are : mids ≡ find ∷ (replace ∷ [])
    pub finds : IsFound above path revision find (IsStale p)
    pub replaces : HasDone replace (did.Replace path revision) given

  -- a row is passed by as fresh only where it is, and is left only where it can't be read or sealed
  abbrev pub Meets : Publication → (above : List ℕ) → Step → (mids : List Entry) → Type 0
  Meets p above step.End mids = FindsNone above mids
  Meets p above (step.Rewritten path) mids = (to : ℕ) × Reseals p above path (gave.Written to) mids
  Meets p above (step.Changed path) mids =
      (last : ℕ) × Reseals p above path (gave.Changed last) mids
  Meets p above (step.Fresh path) mids = Passes above path (IsFresh p) mids
  Meets p above (step.Left path) mids = Passes above path (IsLeft p) mids

  -- these rows, and after them this
  abbrev pub Walks : (home : ℕ) → (above : List ℕ) → List Step
      → (Ends : (above : List ℕ) → List Entry → Type 0) → (part : List Entry) → Type 0
  Walks home above [] Ends part = Ends above part
  Walks home above (met ∷ more) Ends part = (first : List Entry) × (rest : List Entry)
      × (part ≡ first ++ rest) × HoldsPart home first (λ p number mids. Meets p above met mids)
      × Walks home (path_of above met) more Ends rest

  -- some rows, and after them this
  abbrev pub MeetsThen : (home : ℕ) → (Ends : (above : List ℕ) → List Entry → Type 0)
      → (part : List Entry) → Type 0
  MeetsThen home Ends part = (met : List Step) × Walks home [] met Ends part

  -- ---- the part

  -- that a plugin failed, or the random source, while the line was done; and that these rows are
  -- all that it had to meet. `home` is the worker's own replica
  module _ (PluginFailed : (name : List ℕ) → Type 0) (SourceFailed : Type 0)
      (MeetsAll : List Step → Type 0) (worker home : ℕ) (part : List Entry) where
    -- each row that it met is counted as what was done there; a fault, a full store and want of
    -- memory end it
    abbrev pub RewritePart : Told → Type 0
    RewritePart (told.Rewritten rewritten fresh changed left) = (met : List Step)
        × Walks home [] met (λ above rest. HoldsPart home rest (λ p number. FindsNone above)) part
        × MeetsAll met × (rewritten ≡ capped_count (count_by is_rewritten met))
        × (fresh ≡ capped_count (count_by is_fresh met))
        × (changed ≡ capped_count (count_by is_changed met))
        × (left ≡ capped_count (count_by is_left met))
    RewritePart told.Full = MeetsThen home (λ above rest. HoldsPart home rest (λ p number mids.
        (path : List ℕ) × (needed : ℕ) × Reseals p above path (gave.StoreFull needed) mids)) part
    RewritePart told.FaultStore = MeetsThen home (λ above rest. HoldsPart home rest
        (λ p number mids. (path : List ℕ) × Reseals p above path gave.StoreFailed mids)) part
    RewritePart (told.FaultPlugin name) = PluginFailed name
        × MeetsThen home (λ above rest. HoldsPart home rest (λ p number mids. (path : List ℕ)
        × Passes above path (ReadBy name p) mids)) part
    RewritePart (told.FaultDice named) = (named ≡ worker) × SourceFailed
        × MeetsThen home (λ above rest. HoldsPart home rest (λ p number mids.
        (path : List ℕ) × Passes above path (IsStale p) mids)) part
    RewritePart told.Gone =
        MeetsThen home (λ above rest. IsAlone (did.Adopt home) (gave.Gone home) rest) part
    RewritePart told.Memory = MeetsThen home (λ above rest. (rest ≡ [])
        ⊎ IsAlone (did.Adopt home) gave.Nothing rest
        ⊎ HoldsPart home rest (λ p number mids.
        IsOne mids (did.After above) gave.Nothing (λ e. ⊤)
        ⊎ ((path : List ℕ) × Passes above path (λ row. ⊤) mids)
        ⊎ ((path : List ℕ) × Reseals p above path gave.Nothing mids))) part
    RewritePart reply = ⊥
