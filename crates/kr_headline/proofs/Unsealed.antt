-- Each row that a rewrite sealed anew was read with a source that its worker had.
use Rattle.std.specs.Prelude.{All, ⊤}
use Rattle.std.specs.Option.{option_map}
use Rattle.std.proofs.Common.{◌≡◌, ℕ, Bool, true, false, List, [], ◌∷◌, ◌++◌, Option, Some, Result, Ok, Err, inl, inr, refl, ap, sym, subst, ◌∙◌, append-nil}
use Rattle.std.proofs.lemmas.Bool.{false≢true}
use Rattle.std.proofs.lemmas.List.{append_assoc, append_cancel_left}
use Rattle.std.proofs.lemmas.List.Elements.{All-append, All-cons, All-nil, Contains-append_left}
use Rattle.std.proofs.lemmas.Option.{same_Some}
use Rattle.kr_base.specs.Faults.{Rose}
use Rattle.kr_kms.specs.Cache.{CacheState}
use Rattle.kr_kms.specs.Calls.{Link}
use Rattle.kr_kms.specs.Exchanges.{Exchange, UnwrapCall}
use Rattle.kr_provider.specs.BenchState.{BenchState}
use Rattle.kr_provider.specs.Envelopes.{Envelope}
use Rattle.kr_provider.specs.Publication.{Publication, list_at}
use Rattle.kr_provider.specs.Reading.{Reading, data_of, refused}
use Rattle.kr_provider.specs.Sealing.{IsSealing}
use Rattle.kr_provider.specs.declared.refusal.Opened.{Opened}
use Rattle.kr_provider.specs.declared.refusal.SealNo.{SealNo}
use Rattle.kr_provider.specs.declared.refusal.UnsealNo.{UnsealNo}
use Rattle.kr_provider.specs.declared.refusal.UnsealNo.TheVariants as unsealing
use Rattle.kr_store.specs.declared.rows.Row.{Row}
use Rattle.kr_rollout.specs.Callers.{did_of, found_in, gave_of, holding}
use Rattle.kr_rollout.specs.declared.answer.Answer.{Answer}
use Rattle.kr_rollout.specs.declared.answer.Answer.TheVariants as answer
use Rattle.kr_rollout.specs.declared.event.Event.{Event}
use Rattle.kr_rollout.specs.declared.event.Event.TheVariants as event
use Rattle.kr_rollout.specs.declared.line.Did.{Did}
use Rattle.kr_rollout.specs.declared.line.Did.TheVariants as did
use Rattle.kr_rollout.specs.declared.line.Gave.{Gave}
use Rattle.kr_rollout.specs.declared.line.Gave.TheVariants as gave
use Rattle.kr_rollout.specs.declared.opening.Entry.{Entry}
use Rattle.kr_history.specs.Acting.{AddsEntry, Caller, IsCaller}
use Rattle.kr_history.specs.Calls.{AdoptsNothing, LetsGo}
use Rattle.kr_history.specs.declared.call.CallNo.{CallNo}
use Rattle.kr_history.specs.declared.call.CallNo.TheVariants as refusal
use Rattle.kr_history.proofs.Following.{adopted_law, next_law, stays_law}
use Rattle.kr_history.proofs.FoundRows.{replaced_is_live}
use Rattle.kr_history.proofs.HeldFacts.{found_is_named, held_is_named}
use Rattle.kr_history.proofs.Nexts.{caller_next, legal_now}
use Rattle.kr_rewrite.specs.DriveExchanges.{Ahead, IsDriveBy, ReadsRow, before, behind}
use Rattle.kr_rewrite.specs.Drives.{CoversLive, EndsByOver, WalksOver, last_of, path_of}
use Rattle.kr_rewrite.specs.Rewrites.{FindsNone, IsStepOver, ResealsBy, RewritesBy, RewritesData, RewritesOver, StepsOver}
use Rattle.kr_rewrite.specs.declared.outcome.Report.{Report}
use Rattle.kr_rewrite.specs.declared.outcome.Step.{Step}
use Rattle.kr_rewrite.specs.declared.outcome.Step.TheVariants as taken_step
use Rattle.kr_script.specs.declared.script.Part.{Part}
use Rattle.kr_script.specs.declared.script.ScriptLine.{ScriptLine}
use Rattle.kr_script.specs.declared.script.ScriptLine.TheVariants as line
use Rattle.kr_script.specs.declared.told.Told.{Told}
use Rattle.kr_workers.specs.Configurations.{RowReads}
use Rattle.kr_workers.specs.Heard.{Heard}
use Rattle.kr_workers.specs.Histories.{StandsIn}
use Rattle.kr_workers.specs.LineExchanges.{DoesBy}
use Rattle.kr_workers.specs.Plugins.{IsReplaced}
use Rattle.kr_workers.specs.RewriteParts.{RewritePart}
use Rattle.kr_workers.specs.Runs.{IsDone, LineDone, exchanges_in}
use Rattle.kr_workers.specs.ScriptLines.{Workplace}
use Rattle.kr_workers.specs.declared.files.SettingsFile.{SettingsFile}
use Rattle.kr_workers.proofs.Getting.{done_there}
use Rattle.kr_workers.proofs.Shaping.{IfTold}
use Rattle.kr_workers.proofs.ShapingRewrites.{MakesBy, Reader, drive_part, makes_data}
use Rattle.kr_headline.specs.Sources.{HasSource, WasAnswered}
use Rattle.kr_headline.proofs.Cached.{AreAnswers, AreKnown, AreSo, ReadsKnown, failed_reader, opens_so, parted, reading_by, run_known, step_so, walks_so, was_read}
use Rattle.kr_headline.proofs.Sourced.{FreshBy, LeftBy, StaleBy}

abbrev is_replace : Did → Bool
is_replace (did.Replace path from) = true
is_replace other = false

abbrev replaced_path : List ℕ → Did → List ℕ
replaced_path other (did.Replace path from) = path
replaced_path other done = other

abbrev is_written : Gave → Bool
is_written (gave.Written revision) = true
is_written other = false

-- the row that the entry replaced read as these data, with a source that was had, and what stands
-- in its place is a sealing of them
pub record SealedAnew (heard : Heard) (path : List ℕ) (e : Entry) : Type 0 where
  pub p : Publication
  pub old : Row
  pub new : Row
  pub plain : List ℕ
  pub envelope : Envelope
  pub held : e.published ≡ Some p
  pub replaced : e.replaced ≡ Some old
  pub written : e.row ≡ Some new
  pub path_is : old.path ≡ path
  pub reads : RowReads envelope p old (data_of plain)
  pub source : HasSource heard envelope p old
  pub sealing : IsSealing p old.resource path plain new.stored

module _ (heard : Heard) where
  -- so is each that an entry replaced
  abbrev pub WasUnsealed : Entry → Type 0
  WasUnsealed e = (path : List ℕ) → IsReplaced path e → SealedAnew heard path e

  -- the row reads so with a source that was had
  record Readable (p : Publication) (row : Row) (reading : Reading) : Type 0 where
    envelope : Envelope
    reads : RowReads envelope p row reading
    source : HasSource heard envelope p row

  -- a caller, and each row that its new entries replaced was unsealed so
  record Unsealing (old new : Caller) : Type 0 where
    caller : IsCaller new
    more : List Entry
    is : new.mine ≡ old.mine ++ more
    all : All WasUnsealed more

  same_adds : (old new : Caller) → IsCaller old → new ≡ old → Unsealing old new
  same_adds old new k same = subst (λ (c : Caller). Unsealing old c) (sym same) (record {
    caller = k;
    more = [];
    is = sym (append-nil old.mine);
    all = All-nil WasUnsealed;
  })

  then_adds : (a b c : Caller) → Unsealing a b → Unsealing b c → Unsealing a c
  then_adds a b c s t = record {
    caller = t.caller;
    more = s.more ++ t.more;
    is = t.is ∙ ap (λ (m : List Entry). m ++ t.more) s.is ∙ append_assoc a.mine s.more t.more;
    all = All-append WasUnsealed s.more t.more s.all t.all;
  }

  one_adds : (old new : Caller) (asked : Event) (given : Answer) → IsCaller old
      → (a : AddsEntry old asked given new) → WasUnsealed a.entry → Unsealing old new
  one_adds old new asked given k a own = record {
    caller = caller_next old new asked given a k;
    more = a.entry ∷ [];
    is = ap (λ (c : Caller). c.mine) a.new_is;
    all = All-cons WasUnsealed a.entry [] own (All-nil WasUnsealed);
  }

  quiet_adds : (old new : Caller) (asked : Event) (given : Answer)
      → is_replace (did_of asked) ≡ false → IsCaller old → AddsEntry old asked given new
      → Unsealing old new
  quiet_adds old new asked given quiet k a = one_adds old new asked given k a
      (λ path r. absurd (false≢true (sym quiet
      ∙ ap is_replace (sym a.records.did_is ∙ r.did_is))))

  early_adds : (replica : ℕ) (old new : Caller) (why : CallNo) → IsCaller old
      → AdoptsNothing replica old why new → Unsealing old new
  early_adds replica old new refusal.Gone k e =
      quiet_adds old new (event.Adopt replica) (answer.Gone replica) refl k e
  early_adds replica old new refusal.Spent k e = same_adds old new k e.same
  early_adds replica old new refusal.NoMemory k (inl e) = same_adds old new k e
  early_adds replica old new refusal.NoMemory k (inr e) =
      quiet_adds old new (event.Adopt replica) answer.NoMemory refl k e
  early_adds replica old new why k e = absurd e

  let_go_adds : (old new : Caller) (done result : Result Step CallNo) → IsCaller old
      → LetsGo old done result new → Unsealing old new
  let_go_adds old new done result k (inl g) =
      quiet_adds old new event.LetGo answer.Released refl k g.0
  let_go_adds old new done result k (inr n) = same_adds old new k n.0.same

  -- ---- a row that was found

  module _ (number : ℕ) (p : Publication) (row : Row) (plain : List ℕ)
      (r : Readable p row (data_of plain)) (old new : Caller) (k : IsCaller old)
      (held : holding old.mine ≡ Some (number, p)) (found : found_in old.mine ≡ Some row) where
    resealed : (stored : List ℕ) (revision : ℕ)
        → IsSealing p row.resource row.path plain stored
        → (a : AddsEntry old (event.Replace row.path row.revision stored)
        (answer.Written revision) new)
        → SealedAnew heard row.path a.entry
    resealed stored revision sealing a =
        let asked = event.Replace row.path row.revision stored in
        let given = answer.Written revision in
        let s = replaced_is_live old.opening (old.seen ++ a.others) a.entry row.path row.revision
        revision (legal_now old new asked given a) a.records.did_is a.records.gave_is in
        let same = same_Some s.new.stored stored
        (sym (ap (option_map (λ (r : Row). r.stored)) s.written) ∙ a.records.stores) in record {
          p = p;
          old = row;
          new = s.new;
          plain = plain;
          envelope = r.envelope;
          held = (held_is_named old new asked given number p k a held).published;
          replaced = found_is_named old new row.path row.revision stored given row k a found refl;
          written = s.written;
          path_is = refl;
          reads = r.reads;
          source = r.source;
          sealing = subst (λ v. IsSealing p row.resource row.path plain v) (sym same) sealing;
        }

    unwritten : (stored : List ℕ) (given : Answer) → is_written (gave_of given) ≡ false
        → (a : AddsEntry old (event.Replace row.path row.revision stored) given new)
        → WasUnsealed a.entry
    unwritten stored given other a path q = absurd (false≢true (sym other
        ∙ ap is_written (sym a.records.gave_is ∙ q.gave_is)))

    replaced_known : (stored : List ℕ) (given : Answer)
        → IsSealing p row.resource row.path plain stored
        → (a : AddsEntry old (event.Replace row.path row.revision stored) given new)
        → WasUnsealed a.entry
    replaced_known stored (answer.Written revision) sealing a = λ path q.
        subst (λ (own : List ℕ). SealedAnew heard own a.entry)
        (ap (replaced_path path) (sym a.records.did_is ∙ q.did_is))
        (resealed stored revision sealing a)
    replaced_known stored other sealing a = unwritten stored other refl a

    reseals_add : (sealed : Result (List ℕ) SealNo) (result : Result Step CallNo)
        → ResealsBy p row plain sealed old result new → Unsealing old new
    reseals_add (Ok stored) result (inl o) =
        one_adds old new (event.Replace row.path row.revision stored) o.given k o.replaces
        (replaced_known stored o.given o.sealing o.replaces)
    reseals_add (Ok stored) result (inr n) = same_adds old new k n.0.same
    reseals_add (Err why) result n = same_adds old new k n.1

  module _ (p : Publication) (row : Row) (from to : Ahead) where
    abbrev ReadSo : Result Opened UnsealNo → Reading → Type 0
    ReadSo opened reading = ReadsKnown (WasAnswered heard) p.seeds (list_at p row.resource) row.path
        row.stored from.cache to.cache opened reading

    read_known : AreSo (WasAnswered heard) from → (opened : Result Opened UnsealNo)
        (reading : Reading) → ReadsRow p row from opened to → reading_by opened ≡ Some reading
        → ReadSo opened reading
    read_known so opened reading r is =
        let all : AreAnswers (WasAnswered heard) (r.first ++ to.exchanges) =
        subst (AreAnswers (WasAnswered heard)) r.are so.0 in
        was_read (WasAnswered heard) p.seeds (list_at p row.resource) row.path row.stored from.cache
        to.cache opened r.first reading r.reads
        (λ key seed there. all key seed (Contains-append_left r.first to.exchanges
        (UnwrapCall key (Ok seed)) there)) so.1 is

    reads_so : (opened : Result Opened UnsealNo) (reading : Reading)
        → (w : ReadSo opened reading) → RowReads w.envelope p row reading
    reads_so opened reading w = record {
      object = w.object;
      seed = w.seed;
      unsourced = w.unsourced;
      reads = w.reads;
    }

  module _ {D : Type 0} (left : D → Option (List ℕ)) (count : D → ℕ) where
    module _ (number : ℕ) (p : Publication) (old new : Caller) (k : IsCaller old)
        (held : holding old.mine ≡ Some (number, p)) (from to : Ahead) (dice after : D)
        (result : Result Step CallNo) (so : AreSo (WasAnswered heard) from) where
      module _ (row : Row) (found : found_in old.mine ≡ Some row) where
        readable : (opened : Opened) → ReadsRow p row from (Ok opened) to
            → Readable p row (data_of opened.plain)
        readable opened r =
            let w = read_known p row from to so (Ok opened) (data_of opened.plain) r refl in
            record {
              envelope = w.envelope;
              reads = reads_so p row from to (Ok opened) (data_of opened.plain) w;
              source = w.source;
            }

        data_add : (plain : List ℕ) (stale : Bool) → Readable p row (data_of plain)
            → RewritesData left count p row plain stale old dice result new after
            → Unsealing old new
        data_add plain false r d = same_adds old new k d.1
        data_add plain true r (inl d) =
            reseals_add number p row plain r old new k held found d.sealed result d.reseals
        data_add plain true r (inr d) = same_adds old new k d.1

        opens_add : (opened : Result Opened UnsealNo) → ReadsRow p row from opened to
            → RewritesBy left count p row opened old dice result new after → Unsealing old new
        opens_add (Ok opened) u d = data_add opened.plain opened.stale (readable opened u) d
        opens_add (Err why) u d = same_adds old new k d.1

        rewrites_add : RewritesOver ReadsRow left count p row old from dice result new to after
            → Unsealing old new
        rewrites_add (inl o) = opens_add o.opened o.unseals o.rewrites
        rewrites_add (inr n) = same_adds old new k n.0.1

    none_found : (above : List ℕ) (old new : Caller) (result : Result Step CallNo)
        → IsCaller old → FindsNone above old result new → Unsealing old new
    none_found above old new (Ok taken_step.End) k n =
        quiet_adds old new (event.After above) answer.Absent refl k n
    none_found above old new (Err refusal.Spent) k n = same_adds old new k n.same
    none_found above old new (Err refusal.NoMemory) k n =
        quiet_adds old new (event.After above) answer.NoMemory refl k n
    none_found above old new result k n = absurd n

    steps_add : (number : ℕ) (p : Publication) (above : List ℕ) (old new : Caller)
        (from to : Ahead) (dice after : D) (result : Result Step CallNo)
        → IsCaller old → holding old.mine ≡ Some (number, p) → AreSo (WasAnswered heard) from
        → StepsOver ReadsRow left count p above old from dice result new to after
        → Unsealing old new
    steps_add number p above old new from to dice after result k held so (inl n) =
        none_found above old new result k n.0
    steps_add number p above old new from to dice after result k held so (inr f) =
        let first = quiet_adds old f.found (event.After above) (answer.Found f.row) refl k
        f.finds in
        then_adds old f.found new first
        (rewrites_add number p f.found new first.caller
        (stays_law old f.found (event.After above) (answer.Found f.row) tt f.finds ∙ held)
        from to dice after result so f.row (next_law old f.found above f.row f.finds) f.rewrites)

    step_adds : (replica : ℕ) (above : List ℕ) (old new : Caller) (from to : Ahead)
        (dice after : D) (result : Result Step CallNo)
        → IsCaller old → AreSo (WasAnswered heard) from
        → IsStepOver ReadsRow left count replica above old from dice result new to after
        → Unsealing old new
    step_adds replica above old new from to dice after (Ok taken) k so (inl e) = absurd e
    step_adds replica above old new from to dice after (Err why) k so (inl e) =
        early_adds replica old new why k e.0
    step_adds replica above old new from to dice after result k so (inr h) =
        let first = quiet_adds old h.adopted (event.Adopt replica) (answer.Adopted h.number h.p)
        refl k h.adopts in
        let acts = steps_add h.number h.p above h.adopted h.acted from to dice after h.done
        first.caller (adopted_law old h.adopted replica h.number h.p h.adopts) so h.does in
        then_adds old h.adopted new first (then_adds h.adopted h.acted new acts
        (let_go_adds h.acted new h.done result acts.caller h.lets_go))

    walks_add : (replica : ℕ) (above : List ℕ) (steps : List Step) (old new : Caller)
        (from to : Ahead) (dice after : D) → IsCaller old → AreSo (WasAnswered heard) from
        → WalksOver ReadsRow left count replica above steps old from dice new to after
        → Unsealing old new
    walks_add replica above [] old new from to dice after k so w = same_adds old new k w.0
    walks_add replica above (taken ∷ steps) old new from to dice after k so w =
        let first = step_adds replica above old w.middle from w.mids dice w.between (Ok taken) k so
        w.goes in
        then_adds old w.middle new first
        (walks_add replica (path_of above taken) steps w.middle new w.mids to w.between after
        first.caller (step_so (WasAnswered heard) left count replica above old w.middle from w.mids
        dice w.between (Ok taken) w.goes so) w.behind)

    ends_add : (replica : ℕ) (above : List ℕ) (steps : List Step) (old new : Caller)
        (from to : Ahead) (dice after : D) (ended : Result Step CallNo) (report : Report)
        → IsCaller old → AreSo (WasAnswered heard) from
        → EndsByOver ReadsRow (λ a b. ⊤) left count replica above steps old from dice ended report
        new to after → Unsealing old new
    ends_add replica above steps old new from to dice after ended report k so e =
        let walks = walks_add replica above steps old e.middle from e.mids dice e.between k so
        e.walks in
        then_adds old e.middle new walks
        (step_adds replica (last_of above steps) e.middle new e.mids to e.between after ended
        walks.caller (walks_so (WasAnswered heard) left count replica above steps old e.middle from
        e.mids dice e.between e.walks so) e.ends)

    drive_adds : (replica : ℕ) (above : List ℕ) (old new : Caller) (cache stays : CacheState)
        (dice after : D) (result : Result Report (Report × CallNo)) (es : List Exchange)
        → IsCaller old → AreAnswers (WasAnswered heard) es
        → AreKnown (WasAnswered heard) cache.rows
        → IsDriveBy left count replica above old cache dice result new stays after es
        → Unsealing old new
    drive_adds replica above old new cache stays dice after (Ok report) es k answers known d =
        ends_add replica above d.steps old new (before cache es) (behind stays) dice after
        (Ok taken_step.End) report k (answers, known) d.ends
    drive_adds replica above old new cache stays dice after (Err cut) es k answers known (inl d) =
        ends_add replica above d.steps old new (before cache es) (behind stays) dice after
        (Err cut.1) cut.0 k (answers, known) d.ends
    drive_adds replica above old new cache stays dice after (Err cut) es k answers known (inr n) =
        same_adds old new k n.same

  -- ---- what it makes of a row

  module _ (p : Publication) (row : Row) (from to : Ahead) (so : AreSo (WasAnswered heard) from)
    where
      pub makes_known : (opened : Result Opened UnsealNo) → ReadsRow p row from opened to
          → MakesBy (FreshBy heard) (StaleBy heard)
          (LeftBy heard) (λ name. ⊤) p row opened
      makes_known (Ok opened) r =
          let w = read_known p row from to so (Ok opened) (data_of opened.plain) r refl in
          makes_data (HasSource heard) p row opened.plain opened.stale (
            w.envelope,
            reads_so p row from to (Ok opened) (data_of opened.plain) w,
            sym w.unseals.1,
            w.source,
          )
      makes_known (Err (unsealing.Refused why)) r =
          let w = read_known p row from to so (Err (unsealing.Refused why)) (refused why) r refl in
          inl (
            w.envelope,
            why,
            reads_so p row from to (Err (unsealing.Refused why)) (refused why) w,
            w.source,
          )
      makes_known (Err (unsealing.PluginFailed name)) r = (
        tt,
        failed_reader (WasAnswered heard) p.seeds (list_at p row.resource) row.path row.stored
            from.cache to.cache name r.first r.reads,
      )
      makes_known (Err unsealing.NoMemory) r = tt

  abbrev pub kept_reader : Reader Ahead
  kept_reader = record {
    Reads = ReadsRow;
    Meanwhile = λ from to. ⊤;
    Fails = λ name from to. ⊤;
    IsSo = AreSo (WasAnswered heard);
    IsFresh = FreshBy heard;
    IsStale = StaleBy heard;
    IsLeft = LeftBy heard;
    later = λ name from mids to stay failed. tt;
    next = λ p row from opened to reads so.
        opens_so (WasAnswered heard) p row from opened to reads so;
    makes = λ p row from opened to reads so. makes_known p row from to so opened reads;
  }

  -- ---- a line

  module _ {L D : Type 0} (link : L → Link) (step : L → Exchange → L → Type 0)
      (left : D → Option (List ℕ)) (count : D → ℕ) (files : List SettingsFile) where
    pub part_unsealed : (replica : ℕ) (old : Workplace L D) (done : LineDone)
        (new : Workplace L D) → IsDone link step left count files replica old done new
        → done.line ≡ line.Rewrite → AreAnswers (WasAnswered heard) done.exchanges
        → AreKnown (WasAnswered heard) old.cache.rows → All WasUnsealed done.part
    part_unsealed replica old done new is asked answers known =
        let asks = subst (λ (l : ScriptLine). DoesBy left count files replica l old
        (Ok done.reply) new done.exchanges) asked is.asks in
        let adds = drive_adds left count replica [] old.caller new.caller old.cache new.cache
        old.dice new.dice asks.0 done.exchanges is.known answers known asks.2 in
        subst (λ (l : List Entry). All WasUnsealed l)
        (append_cancel_left old.caller.mine adds.more done.part
        (sym adds.is ∙ ap (λ (c : Caller). c.mine) is.adds.new_is)) adds.all

    -- its part is by the sources that were had
    pub part_by_sources : (replica : ℕ) (old : Workplace L D) (done : LineDone)
        (new : Workplace L D) → IsDone link step left count files replica old done new
        → done.line ≡ line.Rewrite → AreAnswers (WasAnswered heard) done.exchanges
        → AreKnown (WasAnswered heard) old.cache.rows
        → RewritePart (FreshBy heard) (StaleBy heard)
        (LeftBy heard) (λ name. ⊤) (Rose (count old.dice) (count new.dice))
        (λ met. CoversLive [] met old.caller new.caller) old.caller.seat replica done.part
        done.reply
    part_by_sources replica old done new is asked answers known =
        let asks = subst (λ (l : ScriptLine). DoesBy left count files replica l old
        (Ok done.reply) new done.exchanges) asked is.asks in
        subst (IfTold (λ (t : Told). RewritePart (FreshBy heard)
        (StaleBy heard) (LeftBy heard) (λ name. ⊤)
        (Rose (count old.dice) (count new.dice))
        (λ met. CoversLive [] met old.caller new.caller) old.caller.seat replica done.part t))
        (sym asks.1)
        (drive_part kept_reader left count replica old.caller new.caller is.known is.idle
        (before old.cache done.exchanges) (behind new.cache) (answers, known) old.dice new.dice
        done.part is.adds asks.0 asks.2)

-- each rewrite of a run that stands in a history, where what was heard has all of its exchanges
module _ {L D : Type 0} (link : L → Link) (step : L → Exchange → L → Type 0)
    (left : D → Option (List ℕ)) (count : D → ℕ) (files : List SettingsFile)
    (history : List Entry) (part : Part) (first : Workplace L D) (replies : List Told)
    (after : BenchState L D)
    (stands : StandsIn link step left count files history part first replies after)
    (heard : Heard) (kept : AreKnown (WasAnswered heard) first.cache.rows)
    (answers : AreAnswers (WasAnswered heard) (exchanges_in stands.run)) where
  pub rewrites_unseal : (ahead : List LineDone) (done : LineDone) (behind : List LineDone)
      → stands.run ≡ ahead ++ done ∷ behind → done.line ≡ line.Rewrite
      → All (WasUnsealed heard) done.part
  rewrites_unseal ahead done behind run_is asked =
      let w = done_there link step left count files history part first replies after stands
      ahead done behind run_is in
      let parts = parted (WasAnswered heard) ahead done behind
      (subst (λ (run : List LineDone). AreAnswers (WasAnswered heard) (exchanges_in run)) run_is
      answers) in
      let known = run_known (WasAnswered heard) link step left count files part.replica first
      ahead w.before w.does_ahead parts.0 kept in
      part_unsealed heard link step left count files part.replica w.before done w.after
      w.is_done asked parts.1 known
