-- Each row that a worker's lines replaced stands on an unsealing: by the relation of each call.
use Rattle.std.specs.Prelude.{All}
use Rattle.std.proofs.Common.{◌≡◌, ℕ, Bool, true, false, List, [], ◌∷◌, ◌++◌, Option, None, Some, Result, Ok, Err, inl, inr, refl, ap, sym, subst, ◌∙◌}
use Rattle.std.specs.Option.{option_map}
use Rattle.std.proofs.lemmas.Bool.{false≢true}
use Rattle.std.proofs.lemmas.List.Elements.{All-append, All-cons, All-nil}
use Rattle.std.proofs.lemmas.Option.{same_Some}
use Rattle.kr_config.specs.Kept.{ConfigEntry as setting}
use Rattle.kr_kms.specs.Calls.{Link}
use Rattle.kr_kms.specs.Exchanges.{Exchange}
use Rattle.kr_provider.specs.Publication.{Publication, list_at}
use Rattle.kr_provider.specs.Sealing.{IsSealing}
use Rattle.kr_provider.specs.Unsealing.{UnsealsBy}
use Rattle.kr_provider.specs.declared.refusal.Opened.{Opened}
use Rattle.kr_provider.specs.declared.refusal.SealNo.{SealNo}
use Rattle.kr_provider.specs.declared.refusal.UnsealNo.{UnsealNo}
use Rattle.kr_provider.specs.declared.refusal.ValueNo.TheVariants as value
use Rattle.kr_store.specs.declared.rows.Row.{Row}
use Rattle.kr_rollout.specs.declared.answer.Answer.{Answer}
use Rattle.kr_rollout.specs.declared.answer.Answer.TheVariants as answer
use Rattle.kr_history.specs.declared.call.CallNo.{CallNo}
use Rattle.kr_history.specs.declared.call.CallNo.TheVariants as refusal
use Rattle.kr_rollout.specs.declared.event.Event.{Event}
use Rattle.kr_rollout.specs.declared.event.Event.TheVariants as event
use Rattle.kr_rollout.specs.declared.line.Did.{Did}
use Rattle.kr_rollout.specs.declared.line.Did.TheVariants as did
use Rattle.kr_rollout.specs.declared.line.Gave.{Gave}
use Rattle.kr_rollout.specs.declared.line.Gave.TheVariants as gave
use Rattle.kr_rollout.specs.declared.opening.Entry.{Entry}
use Rattle.kr_history.specs.Acting.{AddsEntry, Caller, IsCaller}
use Rattle.kr_rollout.specs.Callers.{did_of, found_in, gave_of, holding}
use Rattle.kr_history.specs.Calls.{AddsNothing, HoldsMeanwhile}
use Rattle.kr_history.proofs.Following.{adopted_law, next_law, stays_law}
use Rattle.kr_history.proofs.FoundRows.{replaced_is_live}
use Rattle.kr_history.proofs.HeldFacts.{found_is_named, held_is_named}
use Rattle.kr_history.proofs.Nexts.{caller_next, legal_now}
use Rattle.kr_history.specs.declared.outcome.Joining.{Joining}
use Rattle.kr_history.specs.declared.outcome.Joining.TheVariants as joining
use Rattle.kr_fleet.specs.declared.outcome.Loaded.{Loaded}
use Rattle.kr_fleet.specs.declared.outcome.Loaded.TheVariants as loaded
use Rattle.kr_fleet.specs.LoadCalls.{BringsBy, IsJoin, IsRefresh, IsReload, Refreshes, plugin_names, reload_of}
use Rattle.kr_fleet.specs.SingleCalls.{IsDelete, IsLeave}
use Rattle.kr_fleet.specs.WriteCalls.{IsWrite, Puts}
use Rattle.kr_provider.specs.AskedLinks.{AskedOnly}
use Rattle.kr_rewrite.specs.declared.outcome.Step.{Step}
use Rattle.kr_rewrite.specs.declared.outcome.Step.TheVariants as taken_step
use Rattle.kr_rewrite.specs.Rewrites.{FindsNone, IsStep, ResealsBy, Rewrites, RewritesBy, RewritesData, Steps}
use Rattle.kr_script.specs.declared.script.ScriptLine.{ScriptLine}
use Rattle.kr_script.specs.declared.script.ScriptLine.TheVariants as line
use Rattle.kr_workers.specs.declared.files.SettingsFile.{SettingsFile}
use Rattle.kr_workers.specs.Plugins.{IsReplaced, Reseals}
use Rattle.kr_workers.specs.Replies.{Reply}
use Rattle.kr_workers.specs.Runs.{DoesAll, LineDone}
use Rattle.kr_workers.specs.ScriptLines.{Does, Workplace}
use Rattle.kr_workers.proofs.ByEvents.{IsReading, KeptByEvents, drive_by, early_by, lacking_by, let_go_by, read_by}

-- ---- entries that replace nothing

abbrev is_replace : Did → Bool
is_replace (did.Replace path from) = true
is_replace other = false

abbrev replaced_path : List ℕ → Did → List ℕ
replaced_path other (did.Replace path from) = path
replaced_path other done = other

abbrev is_written : Gave → Bool
is_written (gave.Written revision) = true
is_written other = false

-- a row that it replaced stands on an unsealing
abbrev pub IsKnown : Entry → Type 0
IsKnown e = (path : List ℕ) → IsReplaced path e → Reseals path e

module _ {L D : Type 0} (link : L → Link) (step : L → Exchange → L → Type 0) (left : D → Option (List ℕ))
    (count : D → ℕ) where
  -- a caller stays one, and each own entry that replaced a row stands on an unsealing still
  pub record Keeps (old new : Caller) : Type 0 where
    pub caller : IsCaller old → IsCaller new
    pub all : IsCaller old → All IsKnown old.mine → All IsKnown new.mine

  same_keeps : (old new : Caller) → new ≡ old → Keeps old new
  same_keeps old new same = subst (λ c. Keeps old c) (sym same)
      (record { caller = λ k. k; all = λ k h. h })

  none_keeps : (old new : Caller) → AddsNothing old new → Keeps old new
  none_keeps old new n = same_keeps old new n.same

  then_keeps : (a b c : Caller) → Keeps a b → Keeps b c → Keeps a c
  then_keeps a b c s t = record {
    caller = λ k. t.caller (s.caller k);
    all = λ k h. t.all (s.caller k) (s.all k h);
  }

  when_keeps : (old new : Caller) → (IsCaller old → Keeps old new) → Keeps old new
  when_keeps old new f = record { caller = λ k. (f k).caller k; all = λ k h. (f k).all k h }

  adds_keeps : (old new : Caller) (asked : Event) (given : Answer)
      → (a : AddsEntry old asked given new) → (IsCaller old → IsKnown a.entry) → Keeps old new
  adds_keeps old new asked given a own = record {
    caller = caller_next old new asked given a;
    all = λ k h. subst (λ (entries : List Entry). All IsKnown entries)
        (sym (ap (λ (c : Caller). c.mine) a.new_is))
        (All-append IsKnown old.mine (a.entry ∷ []) h
        (All-cons IsKnown a.entry [] (own k) (All-nil IsKnown)));
  }

  quiet_keeps : (old new : Caller) (asked : Event) (given : Answer)
      → is_replace (did_of asked) ≡ false → AddsEntry old asked given new → Keeps old new
  quiet_keeps old new asked given quiet a = adds_keeps old new asked given a
      (λ k path r. absurd (false≢true (sym quiet
      ∙ ap is_replace (sym a.records.did_is ∙ r.did_is))))

  -- ---- calls that hold a generation meanwhile

  quiet_reading : (old new : Caller) (made : Event) (given : Answer) → IsReading made given
      → AddsEntry old made given new → Keeps old new
  quiet_reading old new (event.Adopt replica) given r a =
      quiet_keeps old new (event.Adopt replica) given refl a
  quiet_reading old new (event.Fetch path) given r a =
      quiet_keeps old new (event.Fetch path) given refl a
  quiet_reading old new event.LetGo given r a = quiet_keeps old new event.LetGo given refl a
  quiet_reading old new other given r a = absurd r

  kept : KeptByEvents Keeps
  kept = record { same = same_keeps; both = then_keeps; reads = quiet_reading }

  held_keeps : {T : Type 0}
      → (Does : (number : ℕ) → Publication → Caller → Result T CallNo → Caller → Type 0)
      (replica : ℕ) (old new : Caller) (result : Result T CallNo)
      → HoldsMeanwhile Does replica old result new
      → ((number : ℕ) (p : Publication) (from : Caller) (done : Result T CallNo) (to : Caller)
      → IsCaller from → holding from.mine ≡ Some (number, p) → Does number p from done to
      → Keeps from to)
      → Keeps old new
  held_keeps {T} Does replica old new result h by =
      let first = quiet_keeps old h.adopted (event.Adopt replica) (answer.Adopted h.number h.p)
      refl h.adopts in
      when_keeps old new (λ k. then_keeps old h.adopted new first
      (then_keeps h.adopted h.acted new
      (by h.number h.p h.adopted h.done h.acted (first.caller k)
      (adopted_law old h.adopted replica h.number h.p h.adopts) h.does)
      (let_go_by kept {T = T} h.acted new h.done result h.lets_go)))

  -- ---- a put, a get, a delete, a leave

  puts_keep : (resource path plain : List ℕ) (p : Publication) (old new : Caller)
      (dice after : D) (result : Result ℕ CallNo)
      → Puts left count resource path plain p old dice result new after → Keeps old new
  puts_keep resource path plain p old new dice after (Ok revision) d =
      quiet_keeps old new (event.Put path resource plain d.stored) (answer.Written revision) refl
      d.put
  puts_keep resource path plain p old new dice after
      (Err (refusal.Value value.LooksEncrypted)) d = same_keeps old new d.1
  puts_keep resource path plain p old new dice after (Err (refusal.Value value.TooLarge)) d =
      same_keeps old new d.1
  puts_keep resource path plain p old new dice after (Err refusal.DiceFailed) d =
      same_keeps old new d.1
  puts_keep resource path plain p old new dice after (Err refusal.StoreFailed) d =
      quiet_keeps old new (event.Put path resource plain d.stored) answer.StoreFailed refl d.put
  puts_keep resource path plain p old new dice after (Err (refusal.StoreFull needed)) d =
      quiet_keeps old new (event.Put path resource plain d.stored) (answer.StoreFull needed) refl
      d.put
  puts_keep resource path plain p old new dice after (Err refusal.Spent) d =
      none_keeps old new d.nothing
  puts_keep resource path plain p old new dice after (Err refusal.NoMemory) (inl d) =
      same_keeps old new d.1
  puts_keep resource path plain p old new dice after (Err refusal.NoMemory) (inr d) =
      quiet_keeps old new (event.Put path resource plain d.stored) answer.NoMemory refl d.put
  puts_keep resource path plain p old new dice after (Err other) d = absurd d

  write_keeps : (resource path plain : List ℕ) (replica : ℕ) (old new : Caller)
      (dice after : D) (result : Result ℕ CallNo)
      → IsWrite left count resource path plain replica old dice result new after → Keeps old new
  write_keeps resource path plain replica old new dice after (Ok revision) (inl e) = absurd e
  write_keeps resource path plain replica old new dice after (Err why) (inl e) =
      early_by kept replica old new why e.0
  write_keeps resource path plain replica old new dice after result (inr h) = held_keeps
      (λ (number : ℕ) (p : Publication) (from : Caller) (done : Result ℕ CallNo) (to : Caller).
      Puts left count resource path plain p from dice done to after) replica old new result h
      (λ number p from done to k held d.
      puts_keep resource path plain p from to dice after done d)

  delete_keeps : (path : List ℕ) (old new : Caller) (result : Result (Option ℕ) CallNo)
      → IsDelete path old result new → Keeps old new
  delete_keeps path old new (Ok (Some revision)) d =
      quiet_keeps old new (event.Delete path) (answer.Written revision) refl d
  delete_keeps path old new (Ok None) d =
      quiet_keeps old new (event.Delete path) answer.Absent refl d
  delete_keeps path old new (Err refusal.StoreFailed) d =
      quiet_keeps old new (event.Delete path) answer.StoreFailed refl d
  delete_keeps path old new (Err (refusal.StoreFull needed)) d =
      quiet_keeps old new (event.Delete path) (answer.StoreFull needed) refl d
  delete_keeps path old new (Err refusal.Spent) d = none_keeps old new d
  delete_keeps path old new (Err refusal.NoMemory) (inl d) = same_keeps old new d
  delete_keeps path old new (Err refusal.NoMemory) (inr d) =
      quiet_keeps old new (event.Delete path) answer.NoMemory refl d
  delete_keeps path old new (Err other) d = absurd d

  leave_keeps : (named : ℕ) (old new : Caller) (result : Result (Option ℕ) CallNo)
      → IsLeave named old result new → Keeps old new
  leave_keeps named old new (Ok (Some number)) d =
      quiet_keeps old new (event.Leave named) (answer.Departed number) refl d
  leave_keeps named old new (Ok None) d =
      quiet_keeps old new (event.Leave named) (answer.Gone named) refl d
  leave_keeps named old new (Err refusal.Spent) d = none_keeps old new d
  leave_keeps named old new (Err other) d = absurd d

  -- ---- a reload, a join, a refresh

  brings_keep : (rows : List setting) (brings : Publication → Event)
      → ((p : Publication) → is_replace (did_of (brings p)) ≡ false) → (replica : ℕ)
      (old new : Caller) (olds news : List L) (dice after : D) (why : CallNo)
      → BringsBy link left count rows brings replica old olds dice why new news after
      → Keeps old new
  brings_keep rows brings quiet replica old new olds news dice after (refusal.PluginFailed name)
      b = same_keeps old new b.1
  brings_keep rows brings quiet replica old new olds news dice after refusal.DiceFailed b =
      same_keeps old new b.1
  brings_keep rows brings quiet replica old new olds news dice after
      (refusal.Unhealthy name field text) b = same_keeps old new b.1
  brings_keep rows brings quiet replica old new olds news dice after refusal.Gone b =
      quiet_keeps old new (brings b.p) (answer.Gone replica) (quiet b.p) b.brought
  brings_keep rows brings quiet replica old new olds news dice after refusal.Spent b =
      none_keeps old new b.1
  brings_keep rows brings quiet replica old new olds news dice after refusal.NoMemory (inl b) =
      same_keeps old new b.1
  brings_keep rows brings quiet replica old new olds news dice after refusal.NoMemory
      (inr (inl b)) = same_keeps old new b.1
  brings_keep rows brings quiet replica old new olds news dice after refusal.NoMemory
      (inr (inr b)) =
      quiet_keeps old new (brings b.p) answer.NoMemory (quiet b.p) b.brought
  brings_keep rows brings quiet replica old new olds news dice after other b = absurd b

  reload_keeps : (rows : List setting) (replica : ℕ) (old new : Caller) (olds news : List L)
      (dice after : D) (result : Result Loaded CallNo)
      → IsReload link left count rows replica old olds dice result new news after
      → Keeps old new
  reload_keeps rows replica old new olds news dice after (Ok (loaded.Generation number)) b =
      quiet_keeps old new (reload_of replica None b.p) (answer.Reloaded number) refl b.brought
  reload_keeps rows replica old new olds news dice after (Ok (loaded.Refused verdict)) b =
      quiet_keeps old new (reload_of replica None b.p) (answer.Refused verdict) refl b.brought
  reload_keeps rows replica old new olds news dice after (Err why) b = brings_keep rows
      (reload_of replica None) (λ p. refl) replica old new olds news dice after why b
  reload_keeps rows replica old new olds news dice after (Ok other) b = absurd b

  joins_keep : (rows : List setting) (replica : ℕ) (old new : Caller) (olds news : List L)
      (dice after : D) (why : CallNo)
      → IsJoin link left count rows replica old olds dice (Err why) new news after
      → Keeps old new
  joins_keep rows replica old new olds news dice after (refusal.PluginFailed name) b = brings_keep
      rows (event.Join replica) (λ p. refl) replica old new olds news dice after
      (refusal.PluginFailed name) b
  joins_keep rows replica old new olds news dice after refusal.DiceFailed b = brings_keep rows
      (event.Join replica) (λ p. refl) replica old new olds news dice after refusal.DiceFailed b
  joins_keep rows replica old new olds news dice after (refusal.Unhealthy name field text) b =
      brings_keep rows (event.Join replica) (λ p. refl) replica old new olds news dice after
      (refusal.Unhealthy name field text) b
  joins_keep rows replica old new olds news dice after refusal.Spent b = brings_keep rows
      (event.Join replica) (λ p. refl) replica old new olds news dice after refusal.Spent b
  joins_keep rows replica old new olds news dice after refusal.NoMemory b = brings_keep rows
      (event.Join replica) (λ p. refl) replica old new olds news dice after refusal.NoMemory b
  joins_keep rows replica old new olds news dice after other b = absurd b

  join_keeps : (rows : List setting) (replica : ℕ) (old new : Caller) (olds news : List L)
      (dice after : D) (result : Result Joining CallNo)
      → IsJoin link left count rows replica old olds dice result new news after
      → Keeps old new
  join_keeps rows replica old new olds news dice after (Ok (joining.Generation number)) b =
      quiet_keeps old new (event.Join replica b.p) (answer.Joined number) refl b.brought
  join_keeps rows replica old new olds news dice after (Ok (joining.Refused verdict)) b =
      quiet_keeps old new (event.Join replica b.p) (answer.Refused verdict) refl b.brought
  join_keeps rows replica old new olds news dice after (Ok (joining.Present number)) b =
      quiet_keeps old new (event.Join replica b.p) (answer.Present number) refl b.brought
  join_keeps rows replica old new olds news dice after (Err why) b =
      joins_keep rows replica old new olds news dice after why b

  refreshes_keep : (replica number : ℕ) (p : Publication) (old new : Caller)
      (olds news : List L) (dice after : D) (result : Result Loaded CallNo)
      → Refreshes link left count replica number p old olds dice result new news after
      → Keeps old new
  refreshes_keep replica number p old new olds news dice after (Ok (loaded.Unchanged same)) r =
      same_keeps old new r.2
  refreshes_keep replica number p old new olds news dice after (Ok (loaded.Generation made)) r =
      quiet_keeps old new (reload_of replica (Some number) r.brought.p) (answer.Reloaded made)
      refl r.brought.brought
  refreshes_keep replica number p old new olds news dice after (Ok (loaded.Moved current)) r =
      quiet_keeps old new (reload_of replica (Some number) r.brought.p) (answer.Moved current)
      refl r.brought.brought
  refreshes_keep replica number p old new olds news dice after (Ok (loaded.Refused verdict)) r =
      absurd r
  refreshes_keep replica number p old new olds news dice after (Err why) (inl r) =
      same_keeps old new r.1
  refreshes_keep replica number p old new olds news dice after (Err why) (inr r) =
      brings_keep p.rows (reload_of replica (Some number)) (λ q. refl) replica old new r.asked
      news dice after why r.brought

  refresh_keeps : (replica : ℕ) (old new : Caller) (olds news : List L) (dice after : D)
      (result : Result Loaded CallNo)
      → IsRefresh link left count replica old olds dice result new news after
      → Keeps old new
  refresh_keeps replica old new olds news dice after (Ok found) (inl e) = absurd e
  refresh_keeps replica old new olds news dice after (Err why) (inl e) =
      early_by kept replica old new why e.0
  refresh_keeps replica old new olds news dice after result (inr h) = held_keeps
      (λ (number : ℕ) (p : Publication) (from : Caller) (done : Result Loaded CallNo)
      (to : Caller). Refreshes link left count replica number p from olds dice done to news
      after × AskedOnly link (plugin_names p.seeds) olds news) replica old new result h
      (λ number p from done to k held d.
      refreshes_keep replica number p from to olds news dice after done d.0)

  -- ---- a rewrite

  module _ (number : ℕ) (p : Publication) (row : Row) (opened : Opened) (olds news : List L)
      (old new : Caller) (k : IsCaller old) (held : holding old.mine ≡ Some (number, p))
      (found : found_in old.mine ≡ Some row)
      (unseals : UnsealsBy link p.seeds (list_at p row.resource) row.path row.stored olds
      (Ok opened) news) where
    resealed : (stored : List ℕ) (revision : ℕ)
        → IsSealing p row.resource row.path opened.plain stored
        → (a : AddsEntry old (event.Replace row.path row.revision stored)
        (answer.Written revision) new)
        → Reseals row.path a.entry
    resealed stored revision sealing a =
        let asked = event.Replace row.path row.revision stored in
        let given = answer.Written revision in
        let s = replaced_is_live old.opening (old.seen ++ a.others) a.entry row.path row.revision
        revision (legal_now old new asked given a) a.records.did_is a.records.gave_is in
        let same = same_Some s.new.stored stored
        (sym (ap (option_map (λ (r : Row). r.stored)) s.written) ∙ a.records.stores) in record {
          p = p;
          old = row;
          new = s.new;
          opened = opened;
          envelope = unseals.envelope;
          held = (held_is_named old new asked given number p k a held).published;
          replaced = found_is_named old new row.path row.revision stored given row k a found refl;
          written = s.written;
          object = unseals.object;
          published = unseals.published;
          unsourced = unseals.unsourced;
          is = unseals.is;
          sealing = subst (λ v. IsSealing p row.resource row.path opened.plain v) (sym same)
              sealing;
        }

    unwritten : (stored : List ℕ) (given : Answer) → is_written (gave_of given) ≡ false
        → (a : AddsEntry old (event.Replace row.path row.revision stored) given new)
        → IsKnown a.entry
    unwritten stored given other a path r = absurd (false≢true (sym other
        ∙ ap is_written (sym a.records.gave_is ∙ r.gave_is)))

    replaced_known : (stored : List ℕ) (given : Answer)
        → IsSealing p row.resource row.path opened.plain stored
        → (a : AddsEntry old (event.Replace row.path row.revision stored) given new)
        → IsKnown a.entry
    replaced_known stored (answer.Written revision) sealing a = λ path r.
        subst (λ q. Reseals q a.entry)
        (ap (replaced_path path) (sym a.records.did_is ∙ r.did_is))
        (resealed stored revision sealing a)
    replaced_known stored other sealing a = unwritten stored other refl a

    reseals_keep : (sealed : Result (List ℕ) SealNo) (result : Result Step CallNo)
        → ResealsBy p row opened.plain sealed old result new → Keeps old new
    reseals_keep (Ok stored) result (inl r) =
        adds_keeps old new (event.Replace row.path row.revision stored) r.given r.replaces
        (λ k. replaced_known stored r.given r.sealing r.replaces)
    reseals_keep (Ok stored) result (inr n) = none_keeps old new n.0
    reseals_keep (Err why) result r = same_keeps old new r.1

    data_keeps : (stale : Bool) (dice after : D) (result : Result Step CallNo)
        → RewritesData left count p row opened.plain stale old dice result new after
        → Keeps old new
    data_keeps false dice after result r = same_keeps old new r.1
    data_keeps true dice after result (inl r) = reseals_keep r.sealed result r.reseals
    data_keeps true dice after result (inr c) = same_keeps old new c.1

  opens_keep : (number : ℕ) (p : Publication) (row : Row) (old new : Caller) (olds news : List L)
      (dice after : D) (result : Result Step CallNo) (opened : Result Opened UnsealNo)
      → IsCaller old → holding old.mine ≡ Some (number, p) → found_in old.mine ≡ Some row
      → UnsealsBy link p.seeds (list_at p row.resource) row.path row.stored olds opened news
      → RewritesBy left count p row opened old dice result new after → Keeps old new
  opens_keep number p row old new olds news dice after result (Ok opened) k held found u r =
      data_keeps number p row opened olds news old new k held found u opened.stale dice after
      result r
  opens_keep number p row old new olds news dice after result (Err why) k held found u r =
      same_keeps old new r.1

  rewrites_keep : (number : ℕ) (p : Publication) (row : Row) (old new : Caller)
      (olds news : List L) (dice after : D) (result : Result Step CallNo)
      → IsCaller old → holding old.mine ≡ Some (number, p) → found_in old.mine ≡ Some row
      → Rewrites link left count p row old olds dice result new news after → Keeps old new
  rewrites_keep number p row old new olds news dice after result k held found (inl o) =
      opens_keep number p row old new olds news dice after result o.opened k held found o.unseals
      o.rewrites
  rewrites_keep number p row old new olds news dice after result k held found (inr c) =
      same_keeps old new c.0.1

  none_found : (above : List ℕ) (old new : Caller) (result : Result Step CallNo)
      → FindsNone above old result new → Keeps old new
  none_found above old new (Ok taken_step.End) n =
      quiet_keeps old new (event.After above) answer.Absent refl n
  none_found above old new (Err refusal.Spent) n = none_keeps old new n
  none_found above old new (Err refusal.NoMemory) n =
      quiet_keeps old new (event.After above) answer.NoMemory refl n
  none_found above old new other n = absurd n

  steps_keep : (number : ℕ) (p : Publication) (above : List ℕ) (old new : Caller)
      (olds news : List L) (dice after : D) (result : Result Step CallNo)
      → IsCaller old → holding old.mine ≡ Some (number, p)
      → Steps link left count p above old olds dice result new news after → Keeps old new
  steps_keep number p above old new olds news dice after result k held (inl n) =
      none_found above old new result n.0
  steps_keep number p above old new olds news dice after result k held (inr f) =
      let first = quiet_keeps old f.found (event.After above) (answer.Found f.row) refl f.finds in
      then_keeps old f.found new first
      (rewrites_keep number p f.row f.found new olds news dice after result (first.caller k)
      (stays_law old f.found (event.After above) (answer.Found f.row) tt f.finds ∙ held)
      (next_law old f.found above f.row f.finds) f.rewrites)

  step_keeps : (replica : ℕ) (above : List ℕ) (old new : Caller) (olds news : List L)
      (dice after : D) (result : Result Step CallNo)
      → IsStep link left count replica above old olds dice result new news after
      → Keeps old new
  step_keeps replica above old new olds news dice after (Ok taken) (inl e) = absurd e
  step_keeps replica above old new olds news dice after (Err why) (inl e) =
      early_by kept replica old new why e.0
  step_keeps replica above old new olds news dice after result (inr h) = held_keeps
      (λ (number : ℕ) (p : Publication) (from : Caller) (done : Result Step CallNo) (to : Caller).
      Steps link left count p above from olds dice done to news after) replica old new
      result h (λ number p from done to k held d.
      steps_keep number p above from to olds news dice after done k held d)

  -- ---- each line

  line_keeps : (files : List SettingsFile) (replica : ℕ) (asked : ScriptLine)
      (old new : Workplace L D) (reply : Reply)
      → Does link left count files replica asked old reply new
      → Keeps old.caller new.caller
  line_keeps files replica (line.Put resource path plain) old new reply d = write_keeps resource
      path plain replica old.caller new.caller old.dice new.dice d.0 d.2
  line_keeps files replica (line.Get path) old new reply d =
      read_by kept link path replica old.caller new.caller old.links new.links d.0 d.2
  line_keeps files replica (line.Delete path) old new reply d =
      delete_keeps path old.caller new.caller d.0 d.2
  line_keeps files replica line.Rewrite old new reply d =
      drive_by kept link left count step_keeps replica [] old.caller new.caller old.links new.links
      old.dice new.dice d.0 d.2
  line_keeps files replica (line.Reload named file) old new reply (rows, read, inl none) =
      lacking_by kept old new none.1
  line_keeps files replica (line.Reload named file) old new reply (rows, read, inr d) =
      reload_keeps rows named old.caller new.caller old.links new.links old.dice new.dice d.0 d.2
  line_keeps files replica line.Refresh old new reply d = refresh_keeps replica old.caller
      new.caller old.links new.links old.dice new.dice d.0 d.2
  line_keeps files replica (line.Join named file) old new reply (rows, read, inl none) =
      lacking_by kept old new none.1
  line_keeps files replica (line.Join named file) old new reply (rows, read, inr d) =
      join_keeps rows named old.caller new.caller old.links new.links old.dice new.dice d.0 d.2
  line_keeps files replica (line.Leave named) old new reply d =
      leave_keeps named old.caller new.caller d.0 d.2

  pub run_keeps : (files : List SettingsFile) (replica : ℕ) (first : Workplace L D)
      (run : List LineDone) (last : Workplace L D)
      → DoesAll link step left count files replica first run last
      → Keeps first.caller last.caller
  run_keeps files replica first [] last same = lacking_by kept first last same
  run_keeps files replica first (done ∷ run) last all =
      then_keeps first.caller all.0.caller last.caller
      (line_keeps files replica done.line first all.0 (Ok done.reply) all.1.does)
      (run_keeps files replica all.0 run last all.2)
