-- What each entry of a line changes is what the line asks and its reply tells: by the relation of
-- the line's call.
use Rattle.std.specs.Prelude.{All}
use Rattle.std.proofs.Common.{◌≡◌, ℕ, Bool, true, false, List, [], ◌∷◌, ◌++◌, Option, None, Some, Result, Ok, Err, inl, inr, refl, ap, sym, subst, ◌∙◌, append-nil}
use Rattle.std.proofs.lemmas.Bool.{false≢true}
use Rattle.std.proofs.lemmas.List.{append_assoc, append_cancel_left}
use Rattle.std.proofs.lemmas.List.Elements.{All-append, All-cons, All-nil}
use Rattle.kr_config.specs.Kept.{ConfigEntry as setting}
use Rattle.kr_kms.specs.Calls.{Link}
use Rattle.kr_provider.specs.AskedLinks.{AskedOnly}
use Rattle.kr_provider.specs.Publication.{Publication}
use Rattle.kr_provider.specs.declared.refusal.Opened.{Opened}
use Rattle.kr_provider.specs.declared.refusal.SealNo.{SealNo}
use Rattle.kr_provider.specs.declared.refusal.UnsealNo.{UnsealNo}
use Rattle.kr_provider.specs.declared.refusal.ValueNo.TheVariants as value
use Rattle.kr_store.specs.declared.rows.Row.{Row}
use Rattle.kr_rollout.specs.declared.answer.Answer.{Answer}
use Rattle.kr_rollout.specs.declared.answer.Answer.TheVariants as answer
use Rattle.kr_history.specs.declared.call.CallNo.{CallNo}
use Rattle.kr_history.specs.declared.call.CallNo.TheVariants as refusal
use Rattle.kr_rollout.specs.declared.event.Event.{Event}
use Rattle.kr_rollout.specs.declared.event.Event.TheVariants as event
use Rattle.kr_rollout.specs.declared.line.Did.{Did}
use Rattle.kr_rollout.specs.declared.line.Did.TheVariants as did
use Rattle.kr_rollout.specs.declared.line.Gave.{Gave}
use Rattle.kr_rollout.specs.declared.opening.Entry.{Entry}
use Rattle.kr_history.specs.Acting.{AddsEntry, Caller, IsCaller}
use Rattle.kr_rollout.specs.Callers.{did_of, gave_of, holding}
use Rattle.kr_history.specs.Calls.{AddsNothing, LetsGo}
use Rattle.kr_history.specs.Parts.{Adds}
use Rattle.kr_history.proofs.Following.{adopted_law}
use Rattle.kr_history.proofs.HeldFacts.{held_is_named}
use Rattle.kr_history.proofs.Nexts.{caller_next}
use Rattle.kr_history.specs.declared.outcome.Joining.{Joining}
use Rattle.kr_history.specs.declared.outcome.Joining.TheVariants as joining
use Rattle.kr_fleet.specs.declared.outcome.Loaded.{Loaded}
use Rattle.kr_fleet.specs.declared.outcome.Loaded.TheVariants as loaded
use Rattle.kr_fleet.specs.LoadCalls.{BringsBy, IsJoin, IsRefresh, IsReload, Refreshes, plugin_names, reload_of}
use Rattle.kr_fleet.specs.SingleCalls.{IsDelete, IsLeave}
use Rattle.kr_fleet.specs.WriteCalls.{IsWrite, Puts}
use Rattle.kr_rewrite.specs.declared.outcome.Step.{Step}
use Rattle.kr_rewrite.specs.declared.outcome.Step.TheVariants as step
use Rattle.kr_rewrite.specs.Rewrites.{FindsNone, IsStep, ReplacesBy, ResealsBy, Rewrites, RewritesBy, RewritesData, Steps}
use Rattle.kr_script.specs.declared.script.ScriptLine.{ScriptLine}
use Rattle.kr_script.specs.declared.script.ScriptLine.TheVariants as line
use Rattle.kr_script.specs.declared.told.Told.{Told}
use Rattle.kr_workers.specs.declared.files.SettingsFile.{SettingsFile}
use Rattle.kr_workers.specs.Changes.{AllowsChange, MayChange}
use Rattle.kr_workers.specs.Files.{rows_at}
use Rattle.kr_workers.specs.Replies.{Reply, told_of_delete, told_of_join, told_of_leave, told_of_refresh, told_of_reload, told_of_write}
use Rattle.kr_workers.specs.ScriptLines.{Does, Workplace}
use Rattle.kr_workers.proofs.ByEvents.{IsSilent, KeptByEvents, drive_by, early_by, held_by, lacking_by, meanwhile_by, read_by, reading_silent}

-- ---- replies

abbrev pub reply_in : Told → Reply → Told
reply_in other (Ok reply) = reply
reply_in other (Err spent) = other

abbrev pub is_told : Reply → Bool
is_told (Ok reply) = true
is_told (Err spent) = false

-- what a call that let its generation go did is what it answers, as its reply is told
pub done_told : {T : Type 0} → (old new : Caller) (done result : Result T CallNo)
    (tell : Result T CallNo → Reply) (reply : Told) → Ok reply ≡ tell result
    → is_told (tell (Err refusal.Spent)) ≡ false → LetsGo old done result new
    → Ok reply ≡ tell done
done_told old new done result tell reply is spent (inl g) = is ∙ ap tell g.1
done_told old new done result tell reply is spent (inr n) =
    absurd (false≢true (sym spent ∙ ap is_told (sym (is ∙ ap tell n.1))))

-- ---- parts

-- what the caller adds is of this kind
pub record Makes (P : Entry → Type 0) (old new : Caller) : Type 0 where
  pub part : List Entry
  pub mine_is : new.mine ≡ old.mine ++ part
  pub all : All P part

module _ (P : Entry → Type 0) where
  pub same_makes : (old new : Caller) → new ≡ old → Makes P old new
  same_makes old new same = record {
    part = [];
    mine_is = ap (λ (c : Caller). c.mine) same ∙ sym (append-nil old.mine);
    all = All-nil P;
  }

  pub none_makes : (old new : Caller) → AddsNothing old new → Makes P old new
  none_makes old new n = same_makes old new n.same

  pub then_makes : (a b c : Caller) → Makes P a b → Makes P b c → Makes P a c
  then_makes a b c s t = record {
    part = s.part ++ t.part;
    mine_is = t.mine_is ∙ ap (λ (l : List Entry). l ++ t.part) s.mine_is
        ∙ append_assoc a.mine s.part t.part;
    all = All-append P s.part t.part s.all t.all;
  }

  pub entry_makes : (old new : Caller) (asked : Event) (given : Answer)
      → (a : AddsEntry old asked given new) → P a.entry → Makes P old new
  entry_makes old new asked given a own = record {
    part = a.entry ∷ [];
    mine_is = ap (λ (c : Caller). c.mine) a.new_is;
    all = All-cons P a.entry [] own (All-nil P);
  }

module _ {L D : Type 0} (link : L → Link) (left : D → Option (List ℕ))
    (count : D → ℕ) (settings_in : (file : List ℕ) → Option (List setting)) (own : ℕ)
    (asked : ScriptLine) (reply : Told) where
  abbrev pub OfLine : Entry → Type 0
  OfLine e = MayChange settings_in own asked reply e

  abbrev pub Changes : Gave → Did → (held : Option ℕ) → Option Publication → Type 0
  Changes given done held published =
      AllowsChange settings_in own asked reply given done held published

  abbrev pub Adding : (old new : Caller) → Type 0
  Adding old new = Makes OfLine old new

  event_makes : (old new : Caller) (made : Event) (given : Answer)
      → (a : AddsEntry old made given new)
      → Changes (gave_of given) (did_of made) a.entry.line.held a.entry.published
      → Adding old new
  event_makes old new made given a does = entry_makes OfLine old new made given a
      (subst (λ d. Changes a.entry.line.gave d a.entry.line.held a.entry.published)
      (sym a.records.did_is)
      (subst (λ g. Changes g (did_of made) a.entry.line.held a.entry.published)
      (sym a.records.gave_is) does))

  -- events that change nothing
  silent_changes : (given : Answer) → IsSilent given → (done : Did) (held : Option ℕ)
      (published : Option Publication) → Changes (gave_of given) done held published
  silent_changes (answer.Written revision) s done held published = absurd s
  silent_changes (answer.Reloaded number) s done held published = absurd s
  silent_changes (answer.Joined number) s done held published = absurd s
  silent_changes (answer.Departed number) s done held published = absurd s
  silent_changes other s done held published = tt

  kept : KeptByEvents Adding
  kept = record {
    same = same_makes OfLine;
    both = then_makes OfLine;
    reads = λ old new made given r a. event_makes old new made given a
        (silent_changes given (reading_silent made given r) (did_of made) a.entry.line.held
        a.entry.published);
  }

  -- ---- a put

  module _ (resource path plain : List ℕ) (is : asked ≡ line.Put resource path plain) where
    puts_make : (seat : ℕ) (p : Publication) (old new : Caller) (dice after : D)
        (result : Result ℕ CallNo) → Ok reply ≡ told_of_write seat result
        → Puts left count resource path plain p old dice result new after → Adding old new
    puts_make seat p old new dice after (Ok revision) tells d =
        event_makes old new (event.Put path resource plain d.stored) (answer.Written revision)
        d.put (is, ap (reply_in reply) tells)
    puts_make seat p old new dice after (Err (refusal.Value value.LooksEncrypted)) tells d =
        same_makes OfLine old new d.1
    puts_make seat p old new dice after (Err (refusal.Value value.TooLarge)) tells d =
        same_makes OfLine old new d.1
    puts_make seat p old new dice after (Err refusal.DiceFailed) tells d =
        same_makes OfLine old new d.1
    puts_make seat p old new dice after (Err refusal.StoreFailed) tells d =
        event_makes old new (event.Put path resource plain d.stored) answer.StoreFailed d.put tt
    puts_make seat p old new dice after (Err (refusal.StoreFull needed)) tells d =
        event_makes old new (event.Put path resource plain d.stored) (answer.StoreFull needed)
        d.put tt
    puts_make seat p old new dice after (Err refusal.Spent) tells d =
        none_makes OfLine old new d.nothing
    puts_make seat p old new dice after (Err refusal.NoMemory) tells (inl d) =
        same_makes OfLine old new d.1
    puts_make seat p old new dice after (Err refusal.NoMemory) tells (inr d) =
        event_makes old new (event.Put path resource plain d.stored) answer.NoMemory d.put tt
    puts_make seat p old new dice after (Err other) tells d = absurd d

    write_makes : (seat replica : ℕ) (old new : Caller) (dice after : D)
        (result : Result ℕ CallNo) → Ok reply ≡ told_of_write seat result
        → IsWrite left count resource path plain replica old dice result new after
        → Adding old new
    write_makes seat replica old new dice after (Ok revision) tells (inl e) = absurd e
    write_makes seat replica old new dice after (Err why) tells (inl e) =
        early_by kept replica old new why e.0
    write_makes seat replica old new dice after result tells (inr h) = held_by kept
        (λ (number : ℕ) (p : Publication) (from : Caller) (done : Result ℕ CallNo)
        (to : Caller). Puts left count resource path plain p from dice done to after) replica old
        new result h (puts_make seat h.p h.adopted h.acted dice after h.done
        (done_told {T = ℕ} h.acted new h.done result (told_of_write seat) reply tells refl
        h.lets_go) h.does)

  -- ---- a delete and a leave

  delete_makes : (path : List ℕ) → asked ≡ line.Delete path → (seat : ℕ) (old new : Caller)
      (result : Result (Option ℕ) CallNo) → Ok reply ≡ told_of_delete seat result
      → IsDelete path old result new → Adding old new
  delete_makes path is seat old new (Ok (Some revision)) tells d =
      event_makes old new (event.Delete path) (answer.Written revision) d
      (is, ap (reply_in reply) tells)
  delete_makes path is seat old new (Ok None) tells d =
      event_makes old new (event.Delete path) answer.Absent d tt
  delete_makes path is seat old new (Err refusal.StoreFailed) tells d =
      event_makes old new (event.Delete path) answer.StoreFailed d tt
  delete_makes path is seat old new (Err (refusal.StoreFull needed)) tells d =
      event_makes old new (event.Delete path) (answer.StoreFull needed) d tt
  delete_makes path is seat old new (Err refusal.Spent) tells d = none_makes OfLine old new d
  delete_makes path is seat old new (Err refusal.NoMemory) tells (inl d) =
      same_makes OfLine old new d
  delete_makes path is seat old new (Err refusal.NoMemory) tells (inr d) =
      event_makes old new (event.Delete path) answer.NoMemory d tt
  delete_makes path is seat old new (Err other) tells d = absurd d

  leave_makes : (named : ℕ) → asked ≡ line.Leave named → (seat : ℕ) (old new : Caller)
      (result : Result (Option ℕ) CallNo) → Ok reply ≡ told_of_leave seat result
      → IsLeave named old result new → Adding old new
  leave_makes named is seat old new (Ok (Some number)) tells d =
      event_makes old new (event.Leave named) (answer.Departed number) d
      (is, ap (reply_in reply) tells)
  leave_makes named is seat old new (Ok None) tells d =
      event_makes old new (event.Leave named) (answer.Gone named) d tt
  leave_makes named is seat old new (Err refusal.Spent) tells d = none_makes OfLine old new d
  leave_makes named is seat old new (Err other) tells d = absurd d

  -- ---- a reload, a join, a refresh

  brings_make : (rows : List setting) (brings : Publication → Event) (replica : ℕ)
      (old new : Caller) (olds news : List L) (dice after : D) (why : CallNo)
      → BringsBy link left count rows brings replica old olds dice why new news after
      → Adding old new
  brings_make rows brings replica old new olds news dice after (refusal.PluginFailed name)
      b = same_makes OfLine old new b.1
  brings_make rows brings replica old new olds news dice after refusal.DiceFailed b =
      same_makes OfLine old new b.1
  brings_make rows brings replica old new olds news dice after
      (refusal.Unhealthy name field text) b = same_makes OfLine old new b.1
  brings_make rows brings replica old new olds news dice after refusal.Gone b =
      event_makes old new (brings b.p) (answer.Gone replica) b.brought tt
  brings_make rows brings replica old new olds news dice after refusal.Spent b =
      none_makes OfLine old new b.1
  brings_make rows brings replica old new olds news dice after refusal.NoMemory (inl b) =
      same_makes OfLine old new b.1
  brings_make rows brings replica old new olds news dice after refusal.NoMemory
      (inr (inl b)) = same_makes OfLine old new b.1
  brings_make rows brings replica old new olds news dice after refusal.NoMemory
      (inr (inr b)) =
      event_makes old new (brings b.p) answer.NoMemory b.brought tt
  brings_make rows brings replica old new olds news dice after other b = absurd b

  module _ (rows : List setting) (named : ℕ) (file : List ℕ)
      (read : settings_in file ≡ Some rows) where
    rows_read : (p : Publication) → p.rows ≡ rows → settings_in file ≡ Some p.rows
    rows_read p same = read ∙ ap (λ (r : List setting). Some r) (sym same)

    reload_makes : asked ≡ line.Reload named file → (seat : ℕ) (old new : Caller)
        (olds news : List L) (dice after : D) (result : Result Loaded CallNo)
        → Ok reply ≡ told_of_reload seat result
        → IsReload link left count rows named old olds dice result new news after
        → Adding old new
    reload_makes is seat old new olds news dice after (Ok (loaded.Generation number)) tells b =
        event_makes old new (reload_of named None b.p) (answer.Reloaded number) b.brought
        (inl (record {
          file = file;
          asked_is = is;
          read = rows_read b.p b.publishes.0;
          expects = refl;
          tells = ap (reply_in reply) tells;
        }))
    reload_makes is seat old new olds news dice after (Ok (loaded.Refused verdict)) tells b =
        event_makes old new (reload_of named None b.p) (answer.Refused verdict) b.brought tt
    reload_makes is seat old new olds news dice after (Err why) tells b = brings_make rows
        (reload_of named None) named old new olds news dice after why b
    reload_makes is seat old new olds news dice after (Ok other) tells b = absurd b

    joins_make : (old new : Caller) (olds news : List L) (dice after : D) (why : CallNo)
        → IsJoin link left count rows named old olds dice (Err why) new news after
        → Adding old new
    joins_make old new olds news dice after (refusal.PluginFailed name) b = brings_make rows
        (event.Join named) named old new olds news dice after (refusal.PluginFailed name) b
    joins_make old new olds news dice after refusal.DiceFailed b = brings_make rows
        (event.Join named) named old new olds news dice after refusal.DiceFailed b
    joins_make old new olds news dice after (refusal.Unhealthy name field text) b =
        brings_make rows (event.Join named) named old new olds news dice after
        (refusal.Unhealthy name field text) b
    joins_make old new olds news dice after refusal.Spent b = brings_make rows
        (event.Join named) named old new olds news dice after refusal.Spent b
    joins_make old new olds news dice after refusal.NoMemory b = brings_make rows
        (event.Join named) named old new olds news dice after refusal.NoMemory b
    joins_make old new olds news dice after other b = absurd b

    join_makes : asked ≡ line.Join named file → (seat : ℕ) (old new : Caller)
        (olds news : List L) (dice after : D) (result : Result Joining CallNo)
        → Ok reply ≡ told_of_join seat result
        → IsJoin link left count rows named old olds dice result new news after
        → Adding old new
    join_makes is seat old new olds news dice after (Ok (joining.Generation number)) tells b =
        event_makes old new (event.Join named b.p) (answer.Joined number) b.brought (record {
          file = file;
          asked_is = is;
          read = rows_read b.p b.publishes.0;
          tells = ap (reply_in reply) tells;
        })
    join_makes is seat old new olds news dice after (Ok (joining.Refused verdict)) tells b =
        event_makes old new (event.Join named b.p) (answer.Refused verdict) b.brought tt
    join_makes is seat old new olds news dice after (Ok (joining.Present number)) tells b =
        event_makes old new (event.Join named b.p) (answer.Present number) b.brought tt
    join_makes is seat old new olds news dice after (Err why) tells b =
        joins_make old new olds news dice after why b

  module _ (is : asked ≡ line.Refresh) where
    refreshes_make : (seat number : ℕ) (p : Publication) (old new : Caller)
        (olds news : List L) (dice after : D) (result : Result Loaded CallNo) → IsCaller old
        → holding old.mine ≡ Some (number, p) → Ok reply ≡ told_of_refresh seat result
        → Refreshes link left count own number p old olds dice result new news after
        → Adding old new
    refreshes_make seat number p old new olds news dice after (Ok (loaded.Unchanged same)) k held
        tells r = same_makes OfLine old new r.2
    refreshes_make seat number p old new olds news dice after (Ok (loaded.Generation made)) k held
        tells r =
        let b = r.brought in
        let named = held_is_named old new (reload_of own (Some number) b.p) (answer.Reloaded made)
        number p k b.brought held in
        event_makes old new (reload_of own (Some number) b.p) (answer.Reloaded made) b.brought
        (inr (record {
          asked_is = is;
          replica_is = refl;
          expects = sym named.held;
          old = p;
          held_is = named.published;
          rows_are = b.publishes.0;
          tells = ap (reply_in reply) tells;
        }))
    refreshes_make seat number p old new olds news dice after (Ok (loaded.Moved current)) k held
        tells r = event_makes old new (reload_of own (Some number) r.brought.p)
        (answer.Moved current) r.brought.brought tt
    refreshes_make seat number p old new olds news dice after (Ok (loaded.Refused verdict)) k held
        tells r = absurd r
    refreshes_make seat number p old new olds news dice after (Err why) k held tells (inl r) =
        same_makes OfLine old new r.1
    refreshes_make seat number p old new olds news dice after (Err why) k held tells (inr r) =
        brings_make p.rows (reload_of own (Some number)) own old new r.asked news dice after why
        r.brought

    refresh_makes : (seat : ℕ) (old new : Caller) (olds news : List L) (dice after : D)
        (result : Result Loaded CallNo) → IsCaller old → Ok reply ≡ told_of_refresh seat result
        → IsRefresh link left count own old olds dice result new news after
        → Adding old new
    refresh_makes seat old new olds news dice after (Ok found) k tells (inl e) = absurd e
    refresh_makes seat old new olds news dice after (Err why) k tells (inl e) =
        early_by kept own old new why e.0
    refresh_makes seat old new olds news dice after result k tells (inr h) = held_by kept
        (λ (number : ℕ) (p : Publication) (from : Caller) (done : Result Loaded CallNo)
        (to : Caller). Refreshes link left count own number p from olds dice done to news
        after × AskedOnly link (plugin_names p.seeds) olds news) own old new result h
        (refreshes_make seat h.number h.p h.adopted h.acted olds news dice after h.done
        (caller_next old h.adopted (event.Adopt own) (answer.Adopted h.number h.p) h.adopts k)
        (adopted_law old h.adopted own h.number h.p h.adopts)
        (done_told {T = Loaded} h.acted new h.done result (told_of_refresh seat) reply tells refl
        h.lets_go) h.does.0)

  -- ---- a rewrite

  module _ (is : asked ≡ line.Rewrite) where
    replaces_change : (path : List ℕ) (from : ℕ) (given : Answer) (result : Result Step CallNo)
        (held : Option ℕ) (published : Option Publication) → ReplacesBy path given result
        → Changes (gave_of given) (did.Replace path from) held published
    replaces_change path from (answer.Written revision) result held published r = is
    replaces_change path from (answer.Reloaded number) result held published r = absurd r
    replaces_change path from (answer.Joined number) result held published r = absurd r
    replaces_change path from (answer.Departed number) result held published r = absurd r
    replaces_change path from other result held published r = tt

    reseals_make : (p : Publication) (row : Row) (plain : List ℕ)
        (sealed : Result (List ℕ) SealNo) (old new : Caller) (result : Result Step CallNo)
        → ResealsBy p row plain sealed old result new → Adding old new
    reseals_make p row plain (Ok stored) old new result (inl r) = event_makes old new
        (event.Replace row.path row.revision stored) r.given r.replaces
        (replaces_change row.path row.revision r.given result r.replaces.entry.line.held
        r.replaces.entry.published r.answers)
    reseals_make p row plain (Ok stored) old new result (inr n) = none_makes OfLine old new n.0
    reseals_make p row plain (Err why) old new result r = same_makes OfLine old new r.1

    data_make : (p : Publication) (row : Row) (plain : List ℕ) (stale : Bool)
        (old new : Caller) (dice after : D) (result : Result Step CallNo)
        → RewritesData left count p row plain stale old dice result new after → Adding old new
    data_make p row plain false old new dice after result r = same_makes OfLine old new r.1
    data_make p row plain true old new dice after result (inl r) =
        reseals_make p row plain r.sealed old new result r.reseals
    data_make p row plain true old new dice after result (inr c) = same_makes OfLine old new c.1

    opens_make : (p : Publication) (row : Row) (old new : Caller) (dice after : D)
        (result : Result Step CallNo) (opened : Result Opened UnsealNo)
        → RewritesBy left count p row opened old dice result new after → Adding old new
    opens_make p row old new dice after result (Ok opened) r =
        data_make p row opened.plain opened.stale old new dice after result r
    opens_make p row old new dice after result (Err why) r = same_makes OfLine old new r.1

    rewrites_make : (p : Publication) (row : Row) (old new : Caller) (olds news : List L)
        (dice after : D) (result : Result Step CallNo)
        → Rewrites link left count p row old olds dice result new news after
        → Adding old new
    rewrites_make p row old new olds news dice after result (inl o) =
        opens_make p row old new dice after result o.opened o.rewrites
    rewrites_make p row old new olds news dice after result (inr c) =
        same_makes OfLine old new c.0.1

    none_found : (above : List ℕ) (old new : Caller) (result : Result Step CallNo)
        → FindsNone above old result new → Adding old new
    none_found above old new (Ok step.End) n =
        event_makes old new (event.After above) answer.Absent n tt
    none_found above old new (Err refusal.Spent) n = none_makes OfLine old new n
    none_found above old new (Err refusal.NoMemory) n =
        event_makes old new (event.After above) answer.NoMemory n tt
    none_found above old new other n = absurd n

    steps_make : (p : Publication) (above : List ℕ) (old new : Caller) (olds news : List L)
        (dice after : D) (result : Result Step CallNo)
        → Steps link left count p above old olds dice result new news after
        → Adding old new
    steps_make p above old new olds news dice after result (inl n) =
        none_found above old new result n.0
    steps_make p above old new olds news dice after result (inr f) =
        then_makes OfLine old f.found new
        (event_makes old f.found (event.After above) (answer.Found f.row) f.finds tt)
        (rewrites_make p f.row f.found new olds news dice after result f.rewrites)

    step_makes : (replica : ℕ) (above : List ℕ) (old new : Caller) (olds news : List L)
        (dice after : D) (result : Result Step CallNo)
        → IsStep link left count replica above old olds dice result new news after
        → Adding old new
    step_makes replica above old new olds news dice after result = meanwhile_by kept
        ((news ≡ olds) × (after ≡ dice))
        (λ (number : ℕ) (p : Publication) (from : Caller) (done : Result Step CallNo)
        (to : Caller). Steps link left count p above from olds dice done to news after)
        replica old new result
        (λ h. steps_make h.p above h.adopted h.acted olds news dice after h.done h.does)

-- ---- each line

module _ {L D : Type 0} (link : L → Link) (left : D → Option (List ℕ))
    (count : D → ℕ) (files : List SettingsFile) (own : ℕ) (asked : ScriptLine) (reply : Told)
  where
    line_makes : (it : ScriptLine) → asked ≡ it → (old new : Workplace L D) → IsCaller old.caller
        → Does link left count files own it old (Ok reply) new
        → Makes (MayChange (rows_at files) own asked reply) old.caller new.caller
    line_makes (line.Put resource path plain) is old new k d = write_makes link left count
        (rows_at files) own asked reply resource path plain is old.caller.seat own old.caller
        new.caller old.dice new.dice d.0 d.1 d.2
    line_makes (line.Get path) is old new k d =
        read_by (kept link left count (rows_at files) own asked reply) link path own old.caller
        new.caller old.links new.links d.0 d.2
    line_makes (line.Delete path) is old new k d = delete_makes link left count
        (rows_at files) own asked reply path is old.caller.seat old.caller new.caller d.0 d.1 d.2
    line_makes line.Rewrite is old new k d =
        drive_by (kept link left count (rows_at files) own asked reply) link left count
        (step_makes link left count (rows_at files) own asked reply is) own [] old.caller new.caller
        old.links new.links old.dice new.dice d.0 d.2
    line_makes (line.Reload named file) is old new k (rows, read, inl none) = lacking_by
        (kept link left count (rows_at files) own asked reply) old new none.1
    line_makes (line.Reload named file) is old new k (rows, read, inr d) = reload_makes link left
        count (rows_at files) own asked reply rows named file read is old.caller.seat old.caller
        new.caller old.links new.links old.dice new.dice d.0 d.1 d.2
    line_makes line.Refresh is old new k d = refresh_makes link left count (rows_at files)
        own asked reply is old.caller.seat old.caller new.caller old.links new.links old.dice
        new.dice d.0 k d.1 d.2
    line_makes (line.Join named file) is old new k (rows, read, inl none) = lacking_by
        (kept link left count (rows_at files) own asked reply) old new none.1
    line_makes (line.Join named file) is old new k (rows, read, inr d) = join_makes link left
        count (rows_at files) own asked reply rows named file read is old.caller.seat old.caller
        new.caller old.links new.links old.dice new.dice d.0 d.1 d.2
    line_makes (line.Leave named) is old new k d = leave_makes link left count
        (rows_at files) own asked reply named is old.caller.seat old.caller new.caller d.0 d.1 d.2

    -- of what a line added each entry may be one of its
    pub made : (old new : Workplace L D) (part : List Entry) → IsCaller old.caller
        → Adds old.caller part new.caller
        → Does link left count files own asked old (Ok reply) new
        → All (MayChange (rows_at files) own asked reply) part
    made old new part k adds does =
        let m = line_makes asked refl old new k does in
        subst (λ (l : List Entry). All (MayChange (rows_at files) own asked reply) l)
        (append_cancel_left old.caller.mine m.part part
        (sym m.mine_is ∙ ap (λ (c : Caller). c.mine) adds.new_is)) m.all
