-- `rewrite_next`: an Adopt, an After, perhaps a Replace, a LetGo. What is found is unsealed by the
-- adopted configuration, and sealed anew by it where it is stale.
use Rattle.std.specs.Prelude.{◌≡◌, ◌⊎◌, ℕ, Bool, true, false, List, Option, Result, Ok, Err, ⊤}
use Rattle.kr_base.specs.Rules.{IsPath}
use Rattle.kr_kms.specs.Calls.{Link}
use Rattle.kr_provider.specs.Publication.{Publication, list_at, writer_at}
use Rattle.kr_provider.specs.Sealing.{Seals, IsSealing}
use Rattle.kr_provider.specs.Unsealing.{UnsealsBy}
use Rattle.kr_provider.specs.declared.refusal.Opened.{Opened}
use Rattle.kr_provider.specs.declared.refusal.SealNo.{SealNo}
use Rattle.kr_provider.specs.declared.refusal.SealNo.TheVariants as sealing
use Rattle.kr_provider.specs.declared.refusal.UnsealNo.{UnsealNo}
use Rattle.kr_provider.specs.declared.refusal.UnsealNo.TheVariants as unsealing
use Rattle.kr_store.specs.declared.rows.Row.{Row}
use Rattle.kr_rollout.specs.declared.answer.Answer.{Answer}
use Rattle.kr_rollout.specs.declared.answer.Answer.TheVariants as answer
use Rattle.kr_rollout.specs.declared.event.Event.TheVariants as event
use Rattle.kr_history.specs.declared.call.CallNo.{CallNo}
use Rattle.kr_history.specs.declared.call.CallNo.TheVariants as refusal
use Rattle.kr_history.specs.Acting.{Caller, AddsEntry}
use Rattle.kr_history.specs.Calls.{AddsNothing, EndsEarly, HoldsMeanwhile}
use Rattle.kr_rewrite.specs.declared.outcome.Step.{Step}
use Rattle.kr_rewrite.specs.declared.outcome.Step.TheVariants as step

-- the path of the row that a step found keeps its rule
abbrev pub IsStepTo : Step → Type 0
IsStepTo step.End = ⊤
IsStepTo (step.Rewritten path) = IsPath path
IsStepTo (step.Fresh path) = IsPath path
IsStepTo (step.Changed path) = IsPath path
IsStepTo (step.Left path) = IsPath path

-- ---- what decides the step at a row that was found

-- a value that isn't read leaves its row as it is; a fault and want of memory end the step
abbrev pub unread_step : (path : List ℕ) → UnsealNo → Result Step CallNo
unread_step path (unsealing.Refused why) = Ok (step.Left path)
unread_step path (unsealing.PluginFailed name) = Err (refusal.PluginFailed name)
unread_step path unsealing.NoMemory = Err refusal.NoMemory

-- so do data that can't be sealed anew
abbrev pub unsealed_step : (path : List ℕ) → SealNo → Result Step CallNo
unsealed_step path sealing.LooksEncrypted = Ok (step.Left path)
unsealed_step path (sealing.TooLarge size) = Ok (step.Left path)
unsealed_step path sealing.DiceFailed = Err refusal.DiceFailed
unsealed_step path sealing.NoMemory = Err refusal.NoMemory

-- the answer to the Replace: the row was replaced, or another has taken its place before
abbrev pub ReplacesBy : (path : List ℕ) → Answer → Result Step CallNo → Type 0
ReplacesBy path (answer.Written revision) result = result ≡ Ok (step.Rewritten path)
ReplacesBy path (answer.Changed revision) result = result ≡ Ok (step.Changed path)
ReplacesBy path answer.StoreFailed result = result ≡ Err refusal.StoreFailed
ReplacesBy path (answer.StoreFull needed) result = result ≡ Err (refusal.StoreFull needed)
ReplacesBy path answer.NoMemory result = result ≡ Err refusal.NoMemory
ReplacesBy path given result = ⊥

-- the value is a sealing of the row's data by the configuration, and was offered in its place
pub record OffersReplacement (p : Publication) (row : Row) (plain stored : List ℕ) (old : Caller)
    (result : Result Step CallNo) (new : Caller) : Type 0 where
  pub given : Answer
  pub sealing : IsSealing p row.resource row.path plain stored
  pub replaces : AddsEntry old (event.Replace row.path row.revision stored) given new
  pub answers : ReplacesBy row.path given result

-- what sealing the data gave decides
abbrev pub ResealsBy : Publication → Row → (plain : List ℕ) → Result (List ℕ) SealNo → Caller
    → Result Step CallNo → Caller → Type 0
ResealsBy p row plain (Ok stored) old result new = OffersReplacement p row plain stored old result
    new
    ⊎ (AddsNothing old new × (result ≡ Err refusal.Spent))
ResealsBy p row plain (Err why) old result new =
    (result ≡ unsealed_step row.path why) × (new ≡ old)

-- there was no memory for a copy of the row's path
abbrev pub CopiesNothing : {D : Type 0} → Caller → D → Result Step CallNo → Caller → D → Type 0
CopiesNothing old dice result new after =
    (result ≡ Err refusal.NoMemory) × (new ≡ old) × (after ≡ dice)

module _ {D : Type 0} (left : D → Option (List ℕ)) (count : D → ℕ) where
  -- the data are sealed by the writer of the row's resource
  pub record Reseals (p : Publication) (row : Row) (plain : List ℕ) (old : Caller) (dice : D)
      (result : Result Step CallNo) (new : Caller) (after : D) : Type 0 where
    pub sealed : Result (List ℕ) SealNo
    pub seals : Seals left count p.seeds (writer_at p row.resource) row.path plain dice after sealed
    pub reseals : ResealsBy p row plain sealed old result new

  -- data are sealed anew exactly where their value is stale
  abbrev pub RewritesData : Publication → Row → (plain : List ℕ) → (stale : Bool) → Caller → D
      → Result Step CallNo → Caller → D → Type 0
  RewritesData p row plain false old dice result new after =
      (result ≡ Ok (step.Fresh row.path)) × (new ≡ old) × (after ≡ dice)
  RewritesData p row plain true old dice result new after =
      Reseals p row plain old dice result new after ⊎ CopiesNothing old dice result new after

  -- what the value holds decides
  abbrev pub RewritesBy : Publication → Row → Result Opened UnsealNo → Caller → D
      → Result Step CallNo → Caller → D → Type 0
  RewritesBy p row (Ok opened) old dice result new after =
      RewritesData p row opened.plain opened.stale old dice result new after
  RewritesBy p row (Err why) old dice result new after =
      (result ≡ unread_step row.path why) × (new ≡ old) × (after ≡ dice)

-- ---- the row that is looked for

-- none was found
abbrev pub FindsNone : (above : List ℕ) → Caller → Result Step CallNo → Caller → Type 0
FindsNone above old (Ok step.End) new = AddsEntry old (event.After above) answer.Absent new
FindsNone above old (Err refusal.NoMemory) new =
    AddsEntry old (event.After above) answer.NoMemory new
FindsNone above old (Err refusal.Spent) new = AddsNothing old new
FindsNone above old result new = ⊥

-- how a row's value is unsealed by a configuration: what answers it stands so before and so behind
abbrev pub ReadsFoundRow : Type 0 → Type 1
ReadsFoundRow S = Publication → Row → (from : S) → Result Opened UnsealNo → (to : S) → Type 0

module _ {S D : Type 0} (Reads : ReadsFoundRow S) (left : D → Option (List ℕ)) (count : D → ℕ) where
  -- the row's value is unsealed by the configuration
  pub record OpensOver (p : Publication) (row : Row) (old : Caller) (from : S) (dice : D)
      (result : Result Step CallNo) (new : Caller) (to : S) (after : D) : Type 0 where
    pub opened : Result Opened UnsealNo
    pub unseals : Reads p row from opened to
    pub rewrites : RewritesBy left count p row opened old dice result new after

  abbrev pub RewritesOver : Publication → Row → Caller → S → D → Result Step CallNo → Caller → S
      → D → Type 0
  RewritesOver p row old from dice result new to after =
      OpensOver p row old from dice result new to after
      ⊎ (CopiesNothing old dice result new after × (to ≡ from))

  -- ---- a step, by a held configuration

  -- the live row with the least path above was found, and is rewritten
  pub record FindsNextOver (p : Publication) (above : List ℕ) (old : Caller) (from : S) (dice : D)
      (result : Result Step CallNo) (new : Caller) (to : S) (after : D) : Type 0 where
    pub row : Row
    pub found : Caller
    pub finds : AddsEntry old (event.After above) (answer.Found row) found
    pub rewrites : RewritesOver p row found from dice result new to after

  abbrev pub StepsOver : Publication → (above : List ℕ) → Caller → S → D → Result Step CallNo
      → Caller → S → D → Type 0
  StepsOver p above old from dice result new to after =
      (FindsNone above old result new × (to ≡ from) × (after ≡ dice))
      ⊎ FindsNextOver p above old from dice result new to after

  -- ---- a step, by the replica's current configuration

  abbrev pub IsStepOver : (replica : ℕ) → (above : List ℕ) → Caller → S → D
      → Result Step CallNo → Caller → S → D → Type 0
  IsStepOver replica above old from dice result new to after =
      EndsEarly replica ((to ≡ from) × (after ≡ dice)) old result new
      ⊎ HoldsMeanwhile
      (λ number p start done end. StepsOver p above start from dice done end to after) replica old
      result new

-- ---- over links

module _ {L : Type 0} (link : L → Link) where
  abbrev pub UnsealsRow : ReadsFoundRow (List L)
  UnsealsRow p row olds opened news = UnsealsBy link p.seeds (list_at p row.resource) row.path
      row.stored olds opened news

module _ {L D : Type 0} (link : L → Link) (left : D → Option (List ℕ))
    (count : D → ℕ) where
  abbrev pub Rewrites : Publication → Row → Caller → List L → D → Result Step CallNo → Caller
      → List L → D → Type 0
  Rewrites p row old olds dice result new news after =
      RewritesOver (UnsealsRow link) left count p row old olds dice result new news after

  abbrev pub FindsNext : Publication → (above : List ℕ) → Caller → List L → D
      → Result Step CallNo → Caller → List L → D → Type 0
  FindsNext p above old olds dice result new news after =
      FindsNextOver (UnsealsRow link) left count p above old olds dice result new news after

  abbrev pub Steps : Publication → (above : List ℕ) → Caller → List L → D → Result Step CallNo
      → Caller → List L → D → Type 0
  Steps p above old olds dice result new news after =
      StepsOver (UnsealsRow link) left count p above old olds dice result new news after

  abbrev pub IsStep : (replica : ℕ) → (above : List ℕ) → Caller → List L → D
      → Result Step CallNo → Caller → List L → D → Type 0
  IsStep replica above old olds dice result new news after =
      IsStepOver (UnsealsRow link) left count replica above old olds dice result new news
      after
