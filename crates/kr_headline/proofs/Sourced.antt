-- A reply to a `get` tells what the row reads as with a source that its worker had.
use Rattle.std.specs.Prelude.{⊤}
use Rattle.std.proofs.Common.{◌≡◌, ℕ, List, [], ◌∷◌, ◌++◌, Option, Some, Result, Ok, Err, refl, sym, subst}
use Rattle.kr_kms.specs.Cache.{CacheState}
use Rattle.kr_kms.specs.Calls.{Link}
use Rattle.kr_kms.specs.Exchanges.{Exchange}
use Rattle.kr_kms.specs.Opens.{Opens}
use Rattle.kr_provider.specs.BenchState.{BenchState}
use Rattle.kr_provider.specs.Envelopes.{Envelope, IsEnvelopeOf}
use Rattle.kr_provider.specs.Publication.{Publication, list_at}
use Rattle.kr_provider.specs.Reading.{Reading, data_of, refused, value_reading}
use Rattle.kr_provider.specs.declared.refusal.Opened.{Opened}
use Rattle.kr_provider.specs.declared.refusal.UnsealNo.{UnsealNo}
use Rattle.kr_provider.specs.declared.refusal.UnsealNo.TheVariants as unsealing
use Rattle.kr_store.specs.declared.rows.Row.{Row}
use Rattle.kr_rollout.specs.declared.answer.Answer.TheVariants as answer
use Rattle.kr_rollout.specs.declared.event.Event.TheVariants as event
use Rattle.kr_rollout.specs.declared.line.Gave.TheVariants as gave
use Rattle.kr_rollout.specs.declared.opening.Entry.{Entry}
use Rattle.kr_rollout.specs.declared.opening.Opening.{Opening}
use Rattle.kr_history.specs.Acting.{Caller, IsCaller}
use Rattle.kr_history.specs.Contents.{IsContent}
use Rattle.kr_history.specs.Honesty.{IsHonestAt}
use Rattle.kr_history.specs.declared.call.CallNo.{CallNo}
use Rattle.kr_history.specs.declared.call.CallNo.TheVariants as refusal
use Rattle.kr_history.proofs.Following.{adopted_law}
use Rattle.kr_history.proofs.Nexts.{caller_next, found_row}
use Rattle.kr_fleet.specs.CallExchanges.{AsksNone, FindsBy, FindsRowBy}
use Rattle.kr_fleet.specs.declared.outcome.Read.{Read}
use Rattle.kr_fleet.specs.declared.outcome.Read.TheVariants as read_finding
use Rattle.kr_fleet.proofs.Finding.{found_content}
use Rattle.kr_script.specs.declared.script.Part.{Part}
use Rattle.kr_script.specs.declared.script.ScriptLine.TheVariants as line
use Rattle.kr_script.specs.declared.told.Told.{Told}
use Rattle.kr_script.specs.declared.told.Told.TheVariants as told
use Rattle.kr_workers.specs.Configurations.{IsFreshWith, IsLeftWith, IsStaleWith, RowReads}
use Rattle.kr_workers.specs.declared.files.SettingsFile.{SettingsFile}
use Rattle.kr_workers.specs.Gets.{FetchesWhere}
use Rattle.kr_workers.specs.Heard.{Heard}
use Rattle.kr_workers.specs.Histories.{StandsIn}
use Rattle.kr_workers.specs.LineExchanges.{DoesBy}
use Rattle.kr_workers.specs.Replies.{told_of_read}
use Rattle.kr_workers.specs.Runs.{LineDone, entries_in, exchanges_in}
use Rattle.kr_workers.specs.ScriptLines.{Workplace}
use Rattle.kr_workers.proofs.Shaping.{IfTold}
use Rattle.kr_workers.proofs.Getting.{IsLineIn, call_tells, call_there, done_there, fetch_there}
use Rattle.kr_headline.specs.Sources.{HasSource, WasAnswered}
use Rattle.kr_headline.proofs.Cached.{AreAnswers, AreKnown, parted, reading_by, run_known, was_read}

-- what a rewrite makes of a row, by the sources that its worker had
abbrev pub FreshBy : Heard → Publication → Row → Type 0
FreshBy heard = IsFreshWith (HasSource heard)

abbrev pub StaleBy : Heard → Publication → Row → Type 0
StaleBy heard = IsStaleWith (HasSource heard)

abbrev pub LeftBy : Heard → Publication → Row → Type 0
LeftBy heard = IsLeftWith (HasSource heard)

-- the row that was fetched reads so with a source that was had; and that is the content by any
-- truth by which what stands at the path before is honest and the source is what its key opens to
pub record IsSourced (heard : Heard) (o : Opening) (path : List ℕ) (reading : Reading)
    (front : List Entry) (fetch : Entry) : Type 0 where
  pub p : Publication
  pub row : Row
  pub envelope : Envelope
  pub held : fetch.published ≡ Some p
  pub found : fetch.row ≡ Some row
  pub reads : RowReads envelope p row reading
  pub source : HasSource heard envelope p row
  pub by_any : (opens : Opens) → IsHonestAt opens path front
      → IsEnvelopeOf opens (list_at p row.resource) row.stored envelope
      → IsContent opens o front path (Some reading)

module _ (history : List Entry) (o : Opening) (seat : ℕ) (ahead part : List Entry)
    (path : List ℕ) (heard : Heard) where
  -- it was, by a Fetch that found this revision
  abbrev pub FoundSo : (revision : ℕ) → Reading → Type 0
  FoundSo revision reading = FetchesWhere history seat path ahead part (λ front fetch.
      (fetch.line.gave ≡ gave.Found revision) × IsSourced heard o path reading front fetch)

  abbrev pub SourcedTold : Told → Type 0
  SourcedTold (told.Got revision plain) = FoundSo revision (data_of plain)
  SourcedTold (told.Value why) = (revision : ℕ) × FoundSo revision (refused why)
  SourcedTold reply = ⊤

  module _ (cache kept : CacheState) (exchanges : List Exchange)
      (answers : AreAnswers (WasAnswered heard) exchanges)
      (known : AreKnown (WasAnswered heard) cache.rows) where
    module _ (p : Publication) (before adopted acted after : Caller)
        (it : IsLineIn history o seat ahead part p before adopted acted after) where
      adopter : IsCaller adopted
      adopter = caller_next before adopted (event.Adopt it.replica)
          (answer.Adopted it.number p) it.adopts it.known

      row_sourced : (row : Row) (opened : Result Opened UnsealNo) (reading : Reading)
          → FindsRowBy path p adopted cache row opened acted kept exchanges
          → reading_by opened ≡ Some reading → FoundSo row.revision reading
      row_sourced row opened reading r is =
          let w = was_read (WasAnswered heard) p.seeds (list_at p row.resource) path row.stored
          cache kept opened exchanges reading r.reads answers known is in
          let at = (found_row adopted acted path row adopter r.found).path_is in
          fetch_there history o seat ahead part p before adopted acted after path
          (answer.Found row) r.found it (λ o front fetch.
          (fetch.line.gave ≡ gave.Found row.revision)
          × IsSourced heard o path reading front fetch) (
            r.found.records.gave_is,
            record {
              p = p;
              row = row;
              envelope = w.envelope;
              held = r.named;
              found = r.found.records.shows;
              reads = record {
                object = w.object;
                seed = w.seed;
                unsourced = w.unsourced;
                reads = subst (λ (q : List ℕ). value_reading w.envelope (list_at p row.resource) q
                    row.stored ≡ reading) (sym at) w.reads;
              };
              source = w.source;
              by_any = λ opens honest same. found_content adopted adopter it.number p
                  (adopted_law before adopted it.replica it.number p it.adopts) path acted opens
                  row r.found reading honest (w.envelope, same, w.reads);
            },
          )

      found_sourced : (number : ℕ) (done : Result Read CallNo)
          → FindsBy path p adopted cache done acted kept exchanges
          → IfTold SourcedTold (told_of_read number done)
      found_sourced number (Ok read_finding.Absent) d = tt
      found_sourced number (Ok (read_finding.Value revision plain stale)) d =
          subst (λ n. FoundSo n (data_of plain)) d.2
          (row_sourced d.0 (Ok (record { plain = plain; stale = stale })) (data_of plain) d.1 refl)
      found_sourced number (Err (refusal.Value why)) d = (
        d.0.revision,
        row_sourced d.0 (Err (unsealing.Refused why)) (refused why) d.1 refl,
      )
      found_sourced number (Err why) d = tt

-- what holds of a line's Fetch, by what holds of it
pub fetches_so : (history : List Entry) (seat : ℕ) (path : List ℕ) (ahead part : List Entry)
    {First Second : (front : List Entry) → (fetch : Entry) → Type 0}
    → ((front : List Entry) (fetch : Entry) → First front fetch → Second front fetch)
    → FetchesWhere history seat path ahead part First
    → FetchesWhere history seat path ahead part Second
fetches_so history seat path ahead part so f = record {
  front = f.front;
  adopt = f.adopt;
  fetch = f.fetch;
  let_go = f.let_go;
  rest = f.rest;
  there = f.there;
  own = f.own;
  fetches = f.fetches;
  part_is = f.part_is;
  its = f.its;
  holds = so f.front f.fetch f.holds;
}

-- each `get` of a run that stands in a history, where what was heard has all of its exchanges
module _ {L D : Type 0} (link : L → Link) (step : L → Exchange → L → Type 0)
    (left : D → Option (List ℕ)) (count : D → ℕ) (files : List SettingsFile)
    (history : List Entry) (part : Part) (first : Workplace L D) (replies : List Told)
    (after : BenchState L D)
    (stands : StandsIn link step left count files history part first replies after)
    (nothing : first.caller.seen ≡ []) (heard : Heard)
    (kept : AreKnown (WasAnswered heard) first.cache.rows)
    (answers : AreAnswers (WasAnswered heard) (exchanges_in stands.run)) where
  pub gets_are_sourced : (ahead : List LineDone) (done : LineDone) (behind : List LineDone)
      → stands.run ≡ ahead ++ done ∷ behind → (path : List ℕ) → done.line ≡ line.Get path
      → SourcedTold history first.caller.opening first.caller.seat (entries_in ahead) done.part
      path heard done.reply
  gets_are_sourced ahead done behind run_is path asked =
      let w = done_there link step left count files history part first replies after stands
      ahead done behind run_is in
      let c = call_there link step left count files history part first replies after stands
      ahead done behind run_is w nothing in
      let o = first.caller.opening in
      let seat = first.caller.seat in
      let entries = entries_in ahead in
      let asks = subst (λ l. DoesBy left count files part.replica l w.before (Ok done.reply)
      w.after done.exchanges) asked w.is_done.asks in
      let parts = parted (WasAnswered heard) ahead done behind
      (subst (λ (run : List LineDone). AreAnswers (WasAnswered heard) (exchanges_in run)) run_is
      answers) in
      let known = run_known (WasAnswered heard) link step left count files part.replica first
      ahead w.before w.does_ahead parts.0 kept in
      call_tells history o seat entries done.part
      (λ p from found to. FindsBy path p from w.before.cache found to w.after.cache done.exchanges)
      (AsksNone w.before.cache w.after.cache done.exchanges) w.before.caller.seat
      (SourcedTold history o seat entries done.part path heard) tt tt
      (λ p before adopted acted behind it. found_sourced history o seat entries done.part path heard
      w.before.cache w.after.cache done.exchanges parts.1 known p before adopted acted behind it
      w.before.caller.seat) part.replica w.before.caller w.after.caller c.more c.is c.opening c.own
      c.seen_own w.is_done.adds w.is_done.known done.reply asks.0 asks.1 asks.2
