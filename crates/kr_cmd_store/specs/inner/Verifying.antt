-- What the parts of `verify` give to each other.
use Rattle.std.specs.Prelude.{◌≡◌, ◌≤◌, ℕ, Bool, List, Contains, length, IfErr, IfOk, IfSome, Option, Result, Ok, Err, ⊤, if◌then◌else◌}
use Rattle.kr_base.specs.Limits.{path_limit, value_limit}
use Rattle.kr_kms.specs.Cache.{CacheState}
use Rattle.kr_kms.specs.Calls.{Link}
use Rattle.kr_kms.specs.Exchanges.{Exchange}
use Rattle.kr_provider.specs.AskedLinks.{HasLinkWith}
use Rattle.kr_provider.specs.BenchState.{BenchState}
use Rattle.kr_provider.specs.declared.refusal.Opened.{Opened}
use Rattle.kr_provider.specs.declared.refusal.UnsealNo.{UnsealNo}
use Rattle.kr_provider.specs.declared.refusal.UnsealNo.TheVariants as no
use Rattle.kr_store.specs.Stores.{IsListing}
use Rattle.kr_store.specs.declared.rows.LogRow.{LogRow}
use Rattle.kr_store.specs.declared.rows.Row.{Row}
use Rattle.kr_cmd_messages.specs.declared.refusal.Object.TheVariants.{Plugin}
use Rattle.kr_cmd_messages.specs.declared.refusal.Outcome.{Outcome}
use Rattle.kr_cmd_messages.specs.declared.refusal.Stop.{Stop}
use Rattle.kr_cmd_messages.specs.declared.refusal.Stop.TheVariants as stop
use Rattle.kr_cmd_steps.specs.Environment.{Environment, with_exchanges}
use Rattle.kr_cmd_steps.specs.StoreSteps.{row_finding}
use Rattle.kr_cmd_steps.specs.RowFindings.{findings_outcome}
use Rattle.kr_cmd_steps.specs.declared.finding.Finding.{Finding}
use Rattle.kr_cmd_steps.specs.declared.finding.Finding.TheVariants.{Fresh, Stale, Refused}
use Rattle.kr_cmd_steps.specs.inner.Lent.{with_lent_dice, with_lent_links}
use Rattle.kr_cmd_steps.specs.inner.Phases.{Does}
use Rattle.kr_cmd_store.specs.declared.reading.Unread.{Unread}
use Rattle.kr_cmd_store.specs.declared.reading.Unread.TheVariants.{PluginFailed, NoMemory}

-- a row that a bench may read
abbrev pub IsWithin : Row → Type 0
IsWithin row = (length row.path ≤ path_limit) × (length row.stored ≤ value_limit)

-- the rows of a list
abbrev pub rows_listed : Result (List Row × ℕ) Stop → Result (List Row) Stop
rows_listed (Ok rows) = Ok rows.0
rows_listed (Err why) = Err why

-- they are the live rows of a store
abbrev pub ListsRows : List LogRow → Result (List Row) Stop → Type 0
ListsRows rows (Ok live) = IsListing rows live
ListsRows rows (Err why) = why ≡ stop.NoMemory

abbrev pub findings_in : Result (List Finding × ℕ) Stop → Result (List Finding) Stop
findings_in (Ok findings) = Ok findings.0
findings_in (Err why) = Err why

-- ---- a row

abbrev pub read_finding : (stale : Bool) → Finding
read_finding stale = if stale then Stale else Fresh

abbrev pub value_finding : Result Opened UnsealNo → Result Finding Unread
value_finding (Ok opened) = Ok (read_finding opened.stale)
value_finding (Err (no.Refused why)) = Ok (Refused why)
value_finding (Err (no.PluginFailed name)) = Err (PluginFailed name)
value_finding (Err no.NoMemory) = Err NoMemory

-- there is a link to the plugin that failed
abbrev pub NamesUnread : (names : List (List ℕ)) → Unread → Type 0
NamesUnread names (PluginFailed name) = Contains names name
NamesUnread names NoMemory = ⊤

-- why a row wasn't read, with the count of what failed
abbrev pub IsUnreadStop : {L : Type 0} → (L → Link) → List L → Unread → Stop → Type 0
IsUnreadStop link links (PluginFailed name) why =
    HasLinkWith link name (λ l. why ≡ stop.Fault (Plugin name) l.count) links
IsUnreadStop link links NoMemory why = why ≡ stop.NoMemory

-- what reading the row by a bench did, with what it kept before, by exchanges with its links
module _ {L D : Type 0} (link : L → Link) (left : D → Option (List ℕ))
    (count : D → ℕ) (row : Row) (old new : BenchState L D) where
  abbrev pub RowDoes : Environment → List Exchange → Result (Finding × CacheState) Stop → Type 0
  RowDoes a es result = IfSome old.published (λ p. Does (row_finding p row old.cache)
      (with_lent_links link 0 old.links
      (with_lent_dice 0 (left old.dice) (count old.dice) a))
      (with_lent_links link 0 new.links
      (with_lent_dice 0 (left new.dice) (count new.dice) (with_exchanges es a))) result)

  -- what was found, with what it keeps then
  pub record IsRowRead (result : Result Finding Unread) (es : List Exchange) : Type 0 where
    pub found : IfOk result (λ finding. (a : Environment) → RowDoes a es (Ok (finding, new.cache)))
    pub unread : IfErr result (λ why. (end : Stop) (a : Environment)
        → IsUnreadStop link new.links why end → RowDoes a es (Err end))

-- ---- all of them

-- what is told of the rows by what was found, or why they weren't read
abbrev pub IsToldOf : List Row → Result (List Finding) Stop → Result Outcome Stop → Type 0
IsToldOf rows (Ok findings) (Ok made) = made ≡ findings_outcome rows findings
IsToldOf rows (Ok findings) (Err why) = why ≡ stop.NoMemory
IsToldOf rows (Err why) made = made ≡ Err why
