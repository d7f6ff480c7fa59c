-- Each reply has its cause, by the relation of its line's call: of calls that publish settings.
use Rattle.std.proofs.Common.{◌≡◌, ℕ, List, [], ◌∷◌, ◌++◌, Option, None, Some, Result, Ok, Err, inl, inr, refl, ap, sym, subst, ◌∙◌, arith}
use Rattle.std.proofs.lemmas.Bool.{false≢true}
use Rattle.std.proofs.lemmas.List.{append_assoc}
use Rattle.kr_config.specs.Kept.{ConfigEntry}
use Rattle.kr_kms.specs.Calls.{Link}
use Rattle.kr_kms.specs.declared.health.Field.{Field}
use Rattle.kr_provider.specs.Publication.{Publication}
use Rattle.kr_history.specs.declared.call.CallNo.{CallNo}
use Rattle.kr_history.specs.declared.call.CallNo.TheVariants as refusal
use Rattle.kr_rollout.specs.declared.answer.Answer.{Answer}
use Rattle.kr_rollout.specs.declared.answer.Answer.TheVariants as answer
use Rattle.kr_rollout.specs.declared.event.Event.{Event}
use Rattle.kr_rollout.specs.declared.event.Event.TheVariants as event
use Rattle.kr_rollout.specs.declared.line.Gave.{Gave}
use Rattle.kr_rollout.specs.declared.opening.Entry.{Entry}
use Rattle.kr_history.specs.Acting.{Caller}
use Rattle.kr_rollout.specs.Callers.{gave_of}
use Rattle.kr_history.specs.Calls.{LetsGo}
use Rattle.kr_history.specs.declared.outcome.Joining.{Joining}
use Rattle.kr_history.specs.declared.outcome.Joining.TheVariants as joining
use Rattle.kr_fleet.specs.declared.outcome.Loaded.{Loaded}
use Rattle.kr_fleet.specs.declared.outcome.Loaded.TheVariants as loaded
use Rattle.kr_fleet.specs.LoadCalls.{AreKeysSame, AsksInVain, BringsBy, IsJoin, IsRefresh, IsReload, Refreshes, RenewsTo, plugin_names, reload_of}
use Rattle.kr_provider.specs.AskedLinks.{AskedOnly}
use Rattle.kr_script.specs.declared.script.ScriptLine.{ScriptLine}
use Rattle.kr_script.specs.declared.script.ScriptLine.TheVariants as line
use Rattle.kr_script.specs.declared.told.Told.{Told}
use Rattle.kr_script.specs.declared.told.Told.TheVariants as told
use Rattle.kr_workers.specs.Causes.{AsksPlugins, DrawsBytes, IsDefined, OwnAdopted, OwnGave, TakesMemory, TellsAnswer}
use Rattle.kr_workers.specs.Replies.{told_of_join, told_of_refresh, told_of_reload}
use Rattle.kr_workers.specs.ScriptLines.{Workplace}
use Rattle.kr_workers.proofs.Causing.{Causes, HasCauseAt, caused_later, early_caused, held_caused, held_gave, is_done, own_gave, refused_caused, told_caused}

module _ {L D : Type 0} (link : L → Link) (left : D → Option (List ℕ))
    (count : D → ℕ) where
  -- what is published and brought, at lines that ask plugins, draw and may want memory, and that
  -- may tell an unhealthy plugin and a replica that isn't in
  record MayBringFile (asked : ScriptLine) : Type 0 where
    asks : AsksPlugins asked
    draws : DrawsBytes asked
    wants : TakesMemory asked
    gone : IsDefined asked told.Gone
    unhealthy : (name : List ℕ) (field : Field) (text : List ℕ)
        → IsDefined asked (told.Unhealthy name field text)

  brings_caused : (asked : ScriptLine) → MayBringFile asked → (rows : List ConfigEntry)
      (brings : Publication → Event) (replica : ℕ) (old new : Caller) (olds news : List L)
      (dice after : D) (why : CallNo)
      → BringsBy link left count rows brings replica old olds dice why new news after
      → Causes link count asked old olds dice why new news after
  brings_caused asked may rows brings replica old new olds news dice after
      (refusal.PluginFailed name) b = (may.asks, b.0.0)
  brings_caused asked may rows brings replica old new olds news dice after refusal.DiceFailed b =
      (may.draws, b.0.3)
  brings_caused asked may rows brings replica old new olds news dice after
      (refusal.Unhealthy name field text) b = (may.unhealthy name field text, b.0.1)
  brings_caused asked may rows brings replica old new olds news dice after refusal.Gone b = (
    may.gone,
    own_gave old new (brings b.p) (answer.Gone replica) (TellsAnswer told.Gone) b.brought
        (replica, refl),
  )
  brings_caused asked may rows brings replica old new olds news dice after refusal.Spent b = tt
  brings_caused asked may rows brings replica old new olds news dice after refusal.NoMemory b =
      may.wants
  brings_caused asked may rows brings replica old new olds news dice after other b = absurd b

  -- ---- a reload

  pub reload_caused : (named : ℕ) (file : List ℕ) (rows : List ConfigEntry) (old new : Workplace L D)
      (reply : Told) (result : Result Loaded CallNo)
      → Ok reply ≡ told_of_reload old.caller.seat result
      → IsReload link left count rows named old.caller old.links old.dice result new.caller
      new.links new.dice → HasCauseAt link count (line.Reload named file) old reply new
  reload_caused named file rows old new reply (Ok (loaded.Generation number)) is r = told_caused
      link count (line.Reload named file) old new reply (told.Reloaded number) is (
        tt,
        own_gave old.caller new.caller (reload_of named None r.p) (answer.Reloaded number)
            (TellsAnswer (told.Reloaded number)) r.brought refl,
      )
  reload_caused named file rows old new reply (Ok (loaded.Refused verdict)) is r = told_caused
      link count (line.Reload named file) old new reply (told.Refused verdict) is (
        tt,
        own_gave old.caller new.caller (reload_of named None r.p) (answer.Refused verdict)
            (TellsAnswer (told.Refused verdict)) r.brought refl,
      )
  reload_caused named file rows old new reply (Err why) is r =
      refused_caused link count (line.Reload named file) old new reply why is
      (brings_caused (line.Reload named file) (record {
        asks = tt;
        draws = tt;
        wants = tt;
        gone = tt;
        unhealthy = λ name field text. tt;
      }) rows (reload_of named None) named old.caller new.caller old.links new.links old.dice
      new.dice why r)
  reload_caused named file rows old new reply (Ok other) is r = absurd r

  -- ---- a join

  joins_caused : (named : ℕ) (file : List ℕ) (rows : List ConfigEntry) (old new : Caller)
      (olds news : List L) (dice after : D) (why : CallNo)
      → IsJoin link left count rows named old olds dice (Err why) new news after
      → Causes link count (line.Join named file) old olds dice why new news after
  joins_caused named file rows old new olds news dice after (refusal.PluginFailed name) b =
      (tt, b.0.0)
  joins_caused named file rows old new olds news dice after refusal.DiceFailed b = (tt, b.0.3)
  joins_caused named file rows old new olds news dice after (refusal.Unhealthy name field text) b =
      (tt, b.0.1)
  joins_caused named file rows old new olds news dice after refusal.Spent b = tt
  joins_caused named file rows old new olds news dice after refusal.NoMemory b = tt
  joins_caused named file rows old new olds news dice after other b = absurd b

  pub join_caused : (named : ℕ) (file : List ℕ) (rows : List ConfigEntry) (old new : Workplace L D)
      (reply : Told) (result : Result Joining CallNo)
      → Ok reply ≡ told_of_join old.caller.seat result
      → IsJoin link left count rows named old.caller old.links old.dice result new.caller
      new.links new.dice → HasCauseAt link count (line.Join named file) old reply new
  join_caused named file rows old new reply (Ok (joining.Generation number)) is j = told_caused
      link count (line.Join named file) old new reply (told.Joined number) is (
        tt,
        own_gave old.caller new.caller (event.Join named j.p) (answer.Joined number)
            (TellsAnswer (told.Joined number)) j.brought refl,
      )
  join_caused named file rows old new reply (Ok (joining.Refused verdict)) is j = told_caused
      link count (line.Join named file) old new reply (told.Refused verdict) is (
        tt,
        own_gave old.caller new.caller (event.Join named j.p) (answer.Refused verdict)
            (TellsAnswer (told.Refused verdict)) j.brought refl,
      )
  join_caused named file rows old new reply (Ok (joining.Present number)) is j = told_caused
      link count (line.Join named file) old new reply (told.Present number) is (
        tt,
        own_gave old.caller new.caller (event.Join named j.p) (answer.Present number)
            (TellsAnswer (told.Present number)) j.brought refl,
      )
  join_caused named file rows old new reply (Err why) is j =
      refused_caused link count (line.Join named file) old new reply why is
      (joins_caused named file rows old.caller new.caller old.links new.links old.dice new.dice
      why j)

  -- ---- a refresh

  -- the plugins' key ids couldn't be asked for
  vain_caused : (p : Publication) (old new : Caller) (olds news : List L) (dice after : D)
      (why : CallNo) → AsksInVain link olds p.seeds why news
      → Causes link count line.Refresh old olds dice why new news after
  vain_caused p old new olds news dice after (refusal.PluginFailed name) a = (tt, a.1)
  vain_caused p old new olds news dice after (refusal.Unhealthy name field text) a = (tt, a.1)
  vain_caused p old new olds news dice after refusal.NoMemory a = tt
  vain_caused p old new olds news dice after other a = absurd a

  refreshes_caused : (replica number : ℕ) (p : Publication) (old new : Caller)
      (olds news : List L) (dice after : D) (why : CallNo)
      → Refreshes link left count replica number p old olds dice (Err why) new news after
      → Causes link count line.Refresh old olds dice why new news after
  refreshes_caused replica number p old new olds news dice after why (inl a) =
      vain_caused p old new olds news dice after why a.0
  refreshes_caused replica number p old new olds news dice after why (inr r) =
      caused_later link count line.Refresh old new (plugin_names p.seeds) olds r.asked news dice
      dice after r.links (omega arith) why
      (brings_caused line.Refresh (record {
        asks = tt;
        draws = tt;
        wants = tt;
        gone = tt;
        unhealthy = λ name field text. tt;
      }) p.rows (reload_of replica (Some number)) replica old new r.asked news dice after why
      r.brought)

  refresh_ends : (replica : ℕ) (old new : Caller) (olds news : List L) (dice after : D)
      (why : CallNo)
      → IsRefresh link left count replica old olds dice (Err why) new news after
      → Causes link count line.Refresh old olds dice why new news after
  refresh_ends replica old new olds news dice after why (inl e) =
      early_caused link count line.Refresh tt tt replica old new olds news dice after why e.0
  refresh_ends replica old new olds news dice after why (inr h) =
      held_caused link count line.Refresh
      (λ (number : ℕ) (p : Publication) (from : Caller) (done : Result Loaded CallNo)
      (to : Caller). Refreshes link left count replica number p from olds dice done to news
      after × AskedOnly link (plugin_names p.seeds) olds news) replica old new olds news dice after
      why h
      (λ number p from to d.
      refreshes_caused replica number p from to olds news dice after why d.0)

  -- the configuration that was published anew was brought with this answer
  refresh_gave : (replica : ℕ) (old new : Caller) (olds news : List L) (dice after : D)
      (done : Loaded) (given : Answer) (Is : Gave → Type 0) → Is (gave_of given)
      → ((number : ℕ) (p : Publication) (from to : Caller)
      → Refreshes link left count replica number p from olds dice (Ok done) to news after
      → RenewsTo link left count replica number p from olds dice given to news after)
      → IsRefresh link left count replica old olds dice (Ok done) new news after
      → OwnGave old new.seen Is
  refresh_gave replica old new olds news dice after done given Is is renews (inl e) = absurd e
  refresh_gave replica old new olds news dice after done given Is is renews (inr h) = held_gave
      (λ (number : ℕ) (p : Publication) (from : Caller) (done : Result Loaded CallNo)
      (to : Caller). Refreshes link left count replica number p from olds dice done to news
      after × AskedOnly link (plugin_names p.seeds) olds news) replica old new (Ok done) Is refl h
      (λ number p from to d.
      let r = renews number p from to d.0 in
      own_gave from to (reload_of replica (Some number) r.brought.p) given Is r.brought.brought is)

  -- no key has changed, by the configuration that was adopted
  unchanged_caused : (replica : ℕ) (old new : Caller) (olds news : List L) (dice after : D)
      (number : ℕ) → IsRefresh link left count replica old olds dice
      (Ok (loaded.Unchanged number)) new news after
      → (p : Publication) × OwnAdopted old new.seen p × AreKeysSame link olds p.seeds
  unchanged_caused replica old new olds news dice after number (inl e) = absurd e
  unchanged_caused replica old new olds news dice after number (inr h) = go h.lets_go
    where
      go : LetsGo h.acted h.done (Ok (loaded.Unchanged number)) new
          → (p : Publication) × OwnAdopted old new.seen p × AreKeysSame link olds p.seeds
      go (inl g) =
          let d = subst (λ (d : Result Loaded CallNo). Refreshes link left count replica
          h.number h.p h.adopted olds dice d h.acted news after
          × AskedOnly link (plugin_names h.p.seeds) olds news) (sym g.1) h.does in
          let tail : List Entry = g.0.others ++ g.0.entry ∷ [] in (
            h.p,
            record {
              before = h.adopts.others;
              entry = h.adopts.entry;
              behind = tail;
              there = ap (λ (c : Caller). c.seen) g.0.new_is
                  ∙ append_assoc h.acted.seen g.0.others (g.0.entry ∷ [])
                  ∙ ap (λ l. l ++ tail) (ap (λ (c : Caller). c.seen) d.0.2
                  ∙ ap (λ (c : Caller). c.seen) h.adopts.new_is)
                  ∙ append_assoc (old.seen ++ h.adopts.others) (h.adopts.entry ∷ []) tail;
              own = h.adopts.records.seat_is;
              number = h.number;
              says = h.adopts.records.gave_is;
              published = h.adopts.records.shows;
            },
            d.0.1,
          )
      go (inr n) = absurd (false≢true (sym (ap is_done n.1)))

  pub refresh_caused : (replica : ℕ) (old new : Workplace L D) (reply : Told)
      (result : Result Loaded CallNo) → Ok reply ≡ told_of_refresh old.caller.seat result
      → IsRefresh link left count replica old.caller old.links old.dice result new.caller
      new.links new.dice → HasCauseAt link count line.Refresh old reply new
  refresh_caused replica old new reply (Ok (loaded.Generation number)) is r = told_caused
      link count line.Refresh old new reply (told.Refreshed number) is (
        tt,
        refresh_gave replica old.caller new.caller old.links new.links old.dice new.dice
            (loaded.Generation number) (answer.Reloaded number)
            (TellsAnswer (told.Refreshed number)) refl (λ n p from to d. d) r,
      )
  refresh_caused replica old new reply (Ok (loaded.Refused verdict)) is (inl e) = absurd e
  refresh_caused replica old new reply (Ok (loaded.Refused verdict)) is (inr h) =
      absurd (never_refused h.lets_go)
    where
      never_refused : LetsGo h.acted h.done (Ok (loaded.Refused verdict)) new.caller → ⊥
      never_refused (inl g) = (subst (λ (d : Result Loaded CallNo). Refreshes link left count
          replica h.number h.p h.adopted old.links old.dice d h.acted new.links new.dice
          × AskedOnly link (plugin_names h.p.seeds) old.links new.links) (sym g.1) h.does).0
      never_refused (inr n) = absurd (false≢true (sym (ap is_done n.1)))
  refresh_caused replica old new reply (Ok (loaded.Moved number)) is r = told_caused
      link count line.Refresh old new reply (told.Moved number) is (
        tt,
        refresh_gave replica old.caller new.caller old.links new.links old.dice new.dice
            (loaded.Moved number) (answer.Moved number) (TellsAnswer (told.Moved number)) refl
            (λ n p from to d. d) r,
      )
  refresh_caused replica old new reply (Ok (loaded.Unchanged number)) is r = told_caused
      link count line.Refresh old new reply told.Unchanged is
      (let u = unchanged_caused replica old.caller new.caller old.links new.links old.dice
      new.dice number r in (tt, u.0, u.1, u.2))
  refresh_caused replica old new reply (Err why) is r =
      refused_caused link count line.Refresh old new reply why is
      (refresh_ends replica old.caller new.caller old.links new.links old.dice new.dice why r)
