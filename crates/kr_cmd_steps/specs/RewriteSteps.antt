-- The steps of a rewrite: each live row is read, and sealed anew where its value is stale.
use Rattle.std.specs.Prelude.{◌≡◌, ◌+◌, ◌*◌, ℕ, Bool, false, List, [], ◌∷◌, Option, Some, None, Result, Ok, Err, ⊤, if◌then◌else◌, true, length, nat_lt}
use Rattle.kr_base.specs.Limits.{data_limit, journal_limit}
use Rattle.kr_config.specs.Kept.{ConfigEntry}
use Rattle.kr_config.specs.Lists.{list_of}
use Rattle.kr_kms.specs.Cache.{CacheState}
use Rattle.kr_provider.specs.PluginOrder.{plugin_order}
use Rattle.kr_provider.specs.Publication.{Publication}
use Rattle.kr_provider.specs.Readers.{writer_of}
use Rattle.kr_provider.specs.declared.refusal.Opened.{Opened}
use Rattle.kr_provider.specs.declared.refusal.ValueNo.{ValueNo}
use Rattle.kr_opening.specs.Checks.{written_check}
use Rattle.kr_opening.specs.Starts.{MayStart, IsNoStart}
use Rattle.kr_opening.specs.declared.opening_board.StartNo.{StartNo}
use Rattle.kr_store.specs.Rows.{live, put_of}
use Rattle.kr_store.specs.Stores.{IsListing}
use Rattle.kr_store.specs.declared.format.Format.{Format}
use Rattle.kr_store.specs.declared.rows.LogRow.{LogRow}
use Rattle.kr_store.specs.declared.rows.Row as stored
use Rattle.kr_cmd_steps.specs.Judgements.{start_refusal}
use Rattle.kr_cmd_messages.specs.Reports.{report_text, report_outcome}
use Rattle.kr_cmd_steps.specs.StoreFiles.{Stored, with_row}
use Rattle.kr_cmd_steps.specs.Steps.{Steps, borrow_dice, keep_rows, find, give, and_then, note}
use Rattle.kr_cmd_steps.specs.Plugins.{borrow_links, make_seeds}
use Rattle.kr_cmd_messages.specs.declared.refusal.Object.TheVariants.{Store}
use Rattle.kr_cmd_steps.specs.declared.programs.Program.{Program}
use Rattle.kr_cmd_messages.specs.declared.refusal.Refusal.{Refusal}
use Rattle.kr_cmd_messages.specs.declared.refusal.Refusal.TheVariants.{Limit}
use Rattle.kr_cmd_messages.specs.declared.refusal.Limit.TheVariants as limit
use Rattle.kr_cmd_messages.specs.declared.refusal.Outcome.{Outcome}
use Rattle.kr_cmd_messages.specs.declared.report.RewriteCounts.{RewriteCounts}
use Rattle.kr_cmd_steps.specs.Phases.{by_result, stored_on, with_memory, adding}
use Rattle.kr_cmd_steps.specs.ValueSteps.{none_kept, value_sealed, value_read}

-- the store, and what became of the rows so far
pub record Progress : Type 0 where
  pub store : Stored
  pub counts : RewriteCounts

-- none yet
abbrev pub nothing_done : Stored → Progress
nothing_done store = record {
  store = store;
  counts = record { rewritten = 0; fresh = 0; changed = 0; left = 0 };
}

abbrev pub one_rewritten : LogRow → Progress → Progress
one_rewritten row at = record {
  store = with_row row at.store;
  counts = record at.counts { rewritten = at.counts.rewritten + 1 };
}

abbrev pub one_fresh : Progress → Progress
one_fresh at = record at { counts = record at.counts { fresh = at.counts.fresh + 1 } }

abbrev pub one_left : Progress → Progress
one_left at = record at { counts = record at.counts { left = at.counts.left + 1 } }

-- ---- a row that is stale: its data are sealed by the writer of its resource, in its place

-- a value has its row's path and resource, and the check of its writer
abbrev pub row_anew : Format → Publication → stored.Row → (value : List ℕ) → LogRow
row_anew format p row value =
    put_of row.path row.resource value (written_check format p row.resource)

-- data that the writer can't seal leave their row as it is
abbrev pub replacing : (name : List ℕ) → Publication → stored.Row → Progress → Option (List ℕ)
    → Steps Progress
replacing name p row at None = give (one_left at)
replacing name p row at (Some value) =
    and_then (adding Store name at.store (row_anew at.store.format p row value))
    (λ grown. give (one_rewritten (row_anew at.store.format p row value) at))

-- for data above their limit nothing is drawn
abbrev pub resealing : (long : Bool) → (name : List ℕ) → Publication → stored.Row → (plain : List ℕ)
    → Progress → Steps Progress
resealing true name p row plain at = give (one_left at)
resealing false name p row plain at =
    and_then (value_sealed p.seeds (writer_of (list_of p.rows row.resource)) row.path plain)
    (replacing name p row at)

-- ---- a row

-- data are sealed anew where their value is stale
abbrev pub row_data : (name : List ℕ) → Publication → stored.Row → Progress → (plain : List ℕ)
    → (stale : Bool) → Steps Progress
row_data name p row at plain false = give (one_fresh at)
row_data name p row at plain true =
    with_memory (resealing (nat_lt data_limit (length plain)) name p row plain at)

-- a value that isn't read leaves its row as it is
abbrev pub row_by : (name : List ℕ) → Publication → stored.Row → Progress → Result Opened ValueNo
    → Steps Progress
row_by name p row at (Ok opened) = row_data name p row at opened.plain opened.stale
row_by name p row at (Err why) = give (one_left at)

-- with the seeds that are kept
abbrev pub row_steps : (name : List ℕ) → Publication → stored.Row → CacheState → Progress
    → Steps (Progress × CacheState)
row_steps name p row kept at =
    and_then (value_read p.seeds (list_of p.rows row.resource) row.path row.stored kept)
    (λ read. and_then (row_by name p row at read.0) (λ done. give (done, read.1)))

-- ---- all of them

-- where a step ends the command, what became of the rows before is reported; the tape has the rows
-- so far
abbrev pub reporting : {A : Type 0} → (name : List ℕ) → Progress → Steps A → Steps A
reporting name at next = keep_rows name at.store (note (report_text at.counts) next)

abbrev pub driving : (name : List ℕ) → Publication → List stored.Row → CacheState → Progress
    → Steps Outcome
driving name p [] kept at = reporting name at (with_memory (give (report_outcome at.counts)))
driving name p (row ∷ rows) kept at = reporting name at
    (and_then (row_steps name p row kept at) (λ done. driving name p rows done.1 done.0))

-- the configuration goes with what is stored, or why it doesn't
abbrev pub IsStarted : List LogRow → List ConfigEntry → Result ⊤ Refusal → Type 0
IsStarted stored rows (Ok u) = MayStart stored (Some rows ∷ [])
IsStarted stored rows (Err why) = (cause : StartNo)
    × IsNoStart stored (Some rows ∷ []) cause × (start_refusal cause ≡ Some why)

abbrev pub starting : List LogRow → List ConfigEntry → Steps ⊤
starting stored rows = find (Result ⊤ Refusal) (IsStarted stored rows) by_result

abbrev pub rewriting_by : (name : List ℕ) → List ConfigEntry → Stored → (live : List stored.Row)
    → Steps Outcome
rewriting_by name rows store live = with_memory
    (and_then (make_seeds (plugin_order rows)) (λ seeds.
    and_then (starting store.rows rows) (λ u.
    driving name (record { rows = rows; seeds = seeds }) live none_kept (nothing_done store))))

-- each row may take four entries of a journal, and the end three
abbrev pub within_journal : (live : List stored.Row) → Result ⊤ Refusal
within_journal live =
    if nat_lt journal_limit (4 * length live + 3) then Err (Limit limit.Journal) else Ok tt

abbrev pub rewriting_live : (name : List ℕ) → List ConfigEntry → List Program → Stored
    → (live : List stored.Row) → Steps Outcome
rewriting_live name rows programs store live =
    and_then (by_result (within_journal live)) (λ u.
    borrow_dice 0 (borrow_links programs (rewriting_by name rows store live)))

abbrev pub rewriting_on : (name : List ℕ) → List ConfigEntry → List Program → Steps Outcome
rewriting_on name rows programs = and_then (stored_on Store name) (λ store.
    find (List stored.Row) (IsListing store.rows) (rewriting_live name rows programs store))
