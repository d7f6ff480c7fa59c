-- What the phases of `rewrite` give to it.
use Rattle.std.specs.Prelude.{◌≡◌, ◌+◌, ◌-◌, ◌*◌, ◌^◌, ◌<◌, ◌≤◌, ◌⊎◌, ℕ, false, List, [], ◌∷◌, length, Contains, Option, None, Some, Result, Ok, Err, ⊤}
use Rattle.kr_base.specs.Limits.{store_limit, journal_limit}
use Rattle.kr_kms.specs.Calls.{Link}
use Rattle.kr_provider.specs.AskedLinks.{HasLinkWith}
use Rattle.kr_provider.specs.Publication.{Publication}
use Rattle.kr_rewrite.specs.declared.outcome.Report.{Report}
use Rattle.kr_rollout.specs.Cores.{CoreState}
use Rattle.kr_rollout.specs.Openings.{opening_by}
use Rattle.kr_opening.specs.Starts.{MayStart, IsNoStart}
use Rattle.kr_history.specs.declared.call.CallNo.{CallNo}
use Rattle.kr_history.specs.declared.call.CallNo.TheVariants as no
use Rattle.kr_opening.specs.declared.opening_board.StartNo.{StartNo}
use Rattle.kr_store.specs.Stores.{IsListing, Kept}
use Rattle.kr_store.specs.declared.rows.LogRow.{LogRow}
use Rattle.kr_store.specs.declared.rows.Row as stored
use Rattle.kr_cmd_messages.specs.Reports.{report_outcome}
use Rattle.kr_cmd_steps.specs.StoreFiles.{Stored}
use Rattle.kr_cmd_steps.specs.inner.Starts.{start_stop}
use Rattle.kr_cmd_messages.specs.declared.refusal.Ended.{Ended}
use Rattle.kr_cmd_messages.specs.declared.refusal.Limit.TheVariants as limit
use Rattle.kr_cmd_messages.specs.declared.refusal.Object.TheVariants.{Dice, Plugin, Store}
use Rattle.kr_cmd_messages.specs.declared.refusal.Outcome.{Outcome}
use Rattle.kr_cmd_messages.specs.declared.refusal.Refusal.TheVariants.{Limit}
use Rattle.kr_cmd_messages.specs.declared.refusal.Stop.{Stop}
use Rattle.kr_cmd_messages.specs.declared.refusal.Stop.TheVariants.{Refused, Fault, NoMemory}
use Rattle.kr_cmd_messages.specs.declared.report.RewriteCounts.{RewriteCounts}

-- the live rows of a store, and what a tape tells
abbrev pub LiveRows : Type 0
LiveRows = List stored.Row

abbrev pub Told : Type 0
Told = Option (List ℕ)

-- ---- room

-- the journal has room for four entries of each live row and three more
abbrev pub HasRoom : List LogRow → (room : ℕ) → Type 0
HasRoom rows room = (live : List stored.Row) × IsListing rows live
    × (room ≡ 4 * length live + 3) × (room ≤ journal_limit)

abbrev pub LacksRoom : List LogRow → Type 0
LacksRoom rows = (live : List stored.Row) × IsListing rows live
    × (journal_limit < 4 * length live + 3)

-- ---- the start

-- a core of one replica that has this publication, or why there is none
abbrev pub StartsAlone : {S : Type 0} → Kept → Publication → (names : List (List ℕ)) → (room : ℕ)
    → Result CoreState (Stop × S) → Type 0
StartsAlone store p names room (Ok core) = MayStart store.rows (Some p.rows ∷ [])
    × (core ≡ record {
      opening = opening_by store (Some p ∷ []) names (0 ∷ []);
      history = [];
      room = room;
    })
StartsAlone store p names room (Err refused) = (cause : StartNo)
    × IsNoStart store.rows (Some p.rows ∷ []) cause × (refused.0 ≡ start_stop cause)

-- a core at its opening, of one replica and one seat that brings no configuration, over a tape
-- whose count of faults can rise
pub record IsAlone (core : CoreState) : Type 0 where
  pub p : Publication
  pub replicas : core.opening.replicas ≡ Some p ∷ []
  pub reloads : core.opening.reloads ≡ 0 ∷ []
  pub history : core.history ≡ []
  pub room : HasRoom core.opening.rows core.room
  pub within : core.opening.limit ≡ store_limit
  pub whole : core.opening.torn ≡ false
  pub counts : core.opening.count < 2 ^ 64 - 1

abbrev pub opened_store : CoreState → Stored
opened_store core = record { format = core.opening.format; rows = core.opening.rows }

-- ---- the end

abbrev pub report_counts : Report → RewriteCounts
report_counts report = record {
  rewritten = report.rewritten;
  fresh = report.fresh;
  changed = report.changed;
  left = report.left;
}

-- why a drive of the only caller may be cut short
abbrev pub MayCutShort : (linked : List (List ℕ)) → CallNo → Type 0
MayCutShort linked (no.PluginFailed name) = Contains linked name
MayCutShort linked no.DiceFailed = ⊤
MayCutShort linked no.StoreFailed = ⊤
MayCutShort linked (no.StoreFull needed) = ⊤
MayCutShort linked no.NoMemory = ⊤
MayCutShort linked why = ⊥

-- as a command says it, by the counts of its objects
abbrev pub IsDriveStop : {L : Type 0} → (link : L → Link) → Kept → List L → (dice : ℕ) → CallNo
    → Stop → Type 0
IsDriveStop link store links dice (no.PluginFailed name) stop =
    HasLinkWith link name (λ it. stop ≡ Fault (Plugin name) it.count) links
IsDriveStop link store links dice no.DiceFailed stop = stop ≡ Fault (Dice 0) dice
IsDriveStop link store links dice no.StoreFailed stop = stop ≡ Fault Store store.count
IsDriveStop link store links dice (no.StoreFull needed) stop = stop ≡ Refused (Limit limit.Store)
IsDriveStop link store links dice no.NoMemory stop = stop ≡ NoMemory
IsDriveStop link store links dice why stop = ⊥

-- the report as the output, where there is memory for its text
abbrev pub IsReported : RewriteCounts → Ended → Type 0
IsReported counts ended = (ended.said ≡ Some counts)
    × ((ended.made ≡ Ok (report_outcome counts)) ⊎ (ended.made ≡ Err NoMemory))

-- what is told once the store is settled: a value, or a report in front of a stop
abbrev pub to_settle : Result Outcome Stop → Option RewriteCounts → Result Ended Stop
to_settle (Ok outcome) said = Ok (record { made = Ok outcome; said = said })
to_settle (Err stop) None = Err stop
to_settle (Err stop) (Some counts) = Ok (record { made = Err stop; said = Some counts })
