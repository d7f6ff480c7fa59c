-- How a call ends that a watch was asked of, from its plan on.
use Rattle.std.specs.Prelude.{IfSome, map}
use Rattle.std.proofs.Common.{◌≡◌, ℕ, ◌<◌, true, false, List, [], length, get_or, Option, None, Some, Result, Ok, Err, refl, sym, ◌∙◌, ap, subst, inl, inr, arith}
use Rattle.std.proofs.lemmas.List.Elements.{All-head}
use Rattle.std.specs.Prelude.{All}
use Rattle.kr_kms.specs.Calls.{Link}
use Rattle.kr_kms.specs.Exchanges.{Exchange}
use Rattle.kr_kms.specs.Opens.{OpenAll, Opens}
use Rattle.kr_provider.specs.Publication.{Publication, names_plugin}
use Rattle.kr_opening.specs.Replicas.{generations_from}
use Rattle.kr_opening.specs.declared.generation.Generation.{Generation}
use Rattle.kr_rollout.specs.Histories.{IsLegal}
use Rattle.kr_rollout.specs.declared.line.Line.{Line}
use Rattle.kr_rollout.specs.declared.opening.Entry.{Entry}
use Rattle.kr_rollout.specs.declared.opening.Opening.{Opening}
use Rattle.kr_history.specs.Honesty.{SeedsOpen}
use Rattle.kr_history.proofs.NoNames.{no_names_no_plugin}
use Rattle.kr_watch.specs.Changes.{changes_in, earlier_ones, revision_after}
use Rattle.kr_watch.specs.Laws.{AreLiveItems}
use Rattle.kr_watch.specs.Watches.{Follows, WatchState, newest_of}
use Rattle.kr_watch.proofs.ChangeLaws.{newest_is_last, none_is_missing}
use Rattle.kr_watch.proofs.ShownLaws.{shown_since_is_shown}
use Rattle.kr_workers.specs.Endings.{gravest_ending}
use Rattle.kr_workers.specs.declared.ending.Ending.{Ending}
use Rattle.kr_workers.specs.declared.worker.Worker as fleet_worker
use Rattle.kr_cmd_messages.specs.Receipts.{Receipt}
use Rattle.kr_cmd_messages.specs.declared.refusal.Stop.{Stop}
use Rattle.kr_cmd_messages.specs.declared.refusal.Stop.TheVariants.{Fault, NoMemory}
use Rattle.kr_cmd_messages.specs.declared.watch_words.WatchWords.{WatchWords}
use Rattle.kr_cmd_steps.specs.Environment.{Environment, step_state}
use Rattle.kr_cmd_steps.specs.Ran.{WroteNothing}
use Rattle.kr_cmd_steps.specs.inner.ProgramNames.{names_in}
use Rattle.kr_cmd_steps.specs.Steps.{hearing}
use Rattle.kr_cmd_steps.proofs.RunTo.{home_trans, stays_refl}
use Rattle.kr_cmd_fleet.specs.FleetFiles.{FleetPlan}
use Rattle.kr_cmd_fleet.specs.Fleets.{Begun, opening_of}
use Rattle.kr_cmd_fleet.specs.declared.fleet.Record.{Record}
use Rattle.kr_cmd_fleet.specs.StartExchanges.{OpenBy, WereAsked}
use Rattle.kr_cmd_fleet.specs.inner.Readings.{AreFirstItems}
use Rattle.kr_cmd_fleet.proofs.CallEnds.{IsPlanned, Leaves, Stopped, by_plan, from_plan, leaves_so}
use Rattle.kr_cmd_watch.specs.WatchTexts.{ahead_text, changes_text, gone_text}
use Rattle.kr_cmd_watch.specs.Watchings.{AreShown, DidWatch, Shows, ShowsHistory, WritesWatch, keep}
use Rattle.kr_cmd_watch.specs.inner.Followings.{AreOf, AreOfOne, IsText, ShowsState}
use Rattle.kr_cmd_watch.proofs.FirstShown.{first_agreed, first_bare, first_live}
use Rattle.kr_cmd_watch.proofs.SeededItems.{legal_front}

-- ---- what is shown

module _ (begun : Begun) (o : Opening) (history : List Entry)
    (legal : IsLegal o history) (watch : WatchState) (f : Follows begun.items o history watch) where
  same_oldest : watch.keep ≡ keep
      → watch.oldest ≡ revision_after (length o.rows) (earlier_ones keep (changes_in history))
  same_oldest kept = f.dropped
      ∙ ap (λ k. revision_after (length o.rows) (earlier_ones k (changes_in history))) kept

  same_newest : newest_of watch ≡ revision_after (length o.rows) (changes_in history)
  same_newest = newest_is_last begun.items o history watch f

  pub shows_so : watch.keep ≡ keep → (since : Option ℕ) (words : WatchWords) (ended : Ending)
      (text : List ℕ) (told : Ending) → ShowsState since words watch ended text told
      → Shows since words (length o.rows) history watch.items ended text told
  shows_so kept None words ended text told s = s
  shows_so kept (Some revision) words ended text told (inl (below, is, end)) =
      let e = same_oldest kept in
      inl (omega (arith, below, e), is ∙ ap gone_text e, end)
  shows_so kept (Some revision) words ended text told (inr (inl (above, is, end))) =
      let e = same_newest in
      inr (inl (omega (arith, above, e), is ∙ ap ahead_text e, end))
  shows_so kept (Some revision) words ended text told (inr (inr (old, new, is, end))) =
      let e = same_oldest kept in
      let g = same_newest in
      inr (inr (
        omega (arith, old, e),
        omega (arith, new, g),
        is ∙ ap changes_text
            (none_is_missing begun.items o history watch revision legal f old),
        end,
      ))

  module _ (es : List Exchange) (first : AreFirstItems es o.rows o.replicas begun.items) where
    seeds_open : (opens : Opens)
        → All (λ replica. IfSome replica (SeedsOpen opens)) o.replicas
        → OpenAll opens first.first.seeds
    seeds_open opens all = All-head (λ replica. IfSome replica (SeedsOpen opens))
        (Some first.first) first.others
        (subst (All (λ replica. IfSome replica (SeedsOpen opens))) first.replicas_are all)

    none_named : o.names ≡ [] → names_plugin first.first.rows ≡ false
    none_named none = subst (λ (rs : List (Option Publication)). (k : ℕ) (d : Generation)
        → k < length (generations_from 0 rs)
        → names_plugin (get_or (generations_from 0 rs) k d).published.rows ≡ false)
        first.replicas_are
        (no_names_no_plugin o [] (legal_front o history 0 legal) none) 0
        (record { replica = 0; published = first.first }) (omega arith)

    pub are_shown : OpenBy es o.replicas → (begun.plan.programs ≡ [] → o.names ≡ [])
        → AreShown es begun o history watch.items
    are_shown made names = record {
      since = f.shown;
      agreed = λ opens agree. shown_since_is_shown opens o history begun.items watch.items
          (first_agreed es o begun.items first opens agree
          (seeds_open opens (made opens agree))) f.shown;
      bare = λ none any. shown_since_is_shown any o history begun.items watch.items
          (first_bare es o begun.items first (none_named (names none)) any) f.shown;
    }

-- what was written of one thing is written of another that follows
pub writes_so : (P Q : List ℕ → Ending → Type 0) (output : Receipt) (result : Result Ending Stop)
    → ((text : List ℕ) (told : Ending) → P text told → Q text told)
    → WritesWatch P output result → WritesWatch Q output result
writes_so P Q output (Ok told) h (text, is, written) = (text, h text told is, written)
writes_so P Q output (Err (Fault object n)) h ((text, told, is, front), same, rose, now) =
    ((text, told, h text told is, front), same, rose, now)
writes_so P Q output (Err NoMemory) h w = w
writes_so P Q output (Err other) h w = absurd w

-- ---- the call

-- it stopped
pub watch_stopped : {T L D : Type 0} {link : L → Link} {step : L → Exchange → L → Type 0}
    {lent took : ℕ → L → Type 0} {left : D → Option (List ℕ)} {count : D → ℕ}
    {words : WatchWords} {old new : Environment} {output : Receipt} {stop : Stop}
    → Stopped T link step lent took left count words.fleet true old new output stop
    → DidWatch T link step lent took left count words old new output (Err stop)
watch_stopped s = record {
  home = s.home;
  exchanges = s.exchanges;
  heard = s.heard;
  asked = s.asked;
  did = inl s.before;
  came = s.came;
}

module _ (T : Type 0) {L D : Type 0} (link : L → Link)
    (step : L → Exchange → L → Type 0) (lent took : ℕ → L → Type 0)
    (left : D → Option (List ℕ)) (count : D → ℕ) (words : WatchWords) where
  -- the workers ran, and left this record
  pub record HasLeft (old new : Environment) (exchanges : List Exchange) (ran : Record) : Type 0 where
    pub plan : FleetPlan
    pub now : Environment
    pub file : List ℕ
    pub store : List ℕ
    pub made : IsPlanned words.fleet plan old now file store
    pub heard : new.heard ≡ hearing exchanges old.heard
    pub asked : WereAsked link lent took step exchanges old.world new.world
    pub leaves : Leaves T link step lent took left count true made new exchanges asked store ran

module _ {T L D : Type 0} {link : L → Link} {step : L → Exchange → L → Type 0}
    {lent took : ℕ → L → Type 0} {left : D → Option (List ℕ)} {count : D → ℕ}
    {words : WatchWords} {old new : Environment} {exchanges : List Exchange} {ran : Record}
    (went : HasLeft T link step lent took left count words old new exchanges ran) where
  l : Leaves T link step lent took left count true went.made new exchanges went.asked
      words.fleet.store ran
  l = leaves_so T link step lent took left count true went.made new exchanges went.asked ran
      went.leaves

  abbrev Opened : Opening
  Opened = opening_of words.fleet.store l.begun l.mid

  first : AreFirstItems exchanges Opened.rows Opened.replicas l.begun.items
  first = subst (λ es. AreFirstItems es Opened.rows Opened.replicas l.begun.items) l.begins.1
      (l.known refl)

  opens : OpenBy exchanges Opened.replicas
  opens = subst (λ es. OpenBy es Opened.replicas) l.begins.1 l.runs.made.opens

  are_of : AreOf ran.start.items.0 ran.start.revision ran.lines.0 Opened l.history
  are_of = record {
    legal = l.runs.one.legal;
    lines_are = l.lines;
    revision_is = l.revision_is;
    live = subst (AreLiveItems Opened) (sym l.items_are)
        (first_live exchanges Opened l.begun.items first);
  }

  handed : (lines : List Line) → lines ≡ ran.lines.0
      → AreOf ran.start.items.0 ran.start.revision lines Opened l.history
  handed lines same = subst (λ ls. AreOf ran.start.items.0 ran.start.revision ls Opened
      l.history) (sym same) are_of

  pub are_of_one : (lines : List Line) → lines ≡ ran.lines.0
      → AreOfOne ran.start.items.0 ran.start.revision lines
  are_of_one lines same = (Opened, l.history, handed lines same)

  ended_so : gravest_ending ran.replies.0
      ≡ gravest_ending (map (λ (w : fleet_worker.Worker T L D). w.told) l.ended)
  ended_so = ap gravest_ending l.replies

  starts : (output : Receipt) (result : Result Ending Stop)
      → WritesWatch (ShowsHistory words exchanges l.begun Opened l.history
      (gravest_ending (map (λ (w : fleet_worker.Worker T L D). w.told) l.ended))) output result
      → DidWatch T link step lent took left count words old new output result
  starts output result w =
      let all = from_plan T link step lent took left count true went.made new exchanges went.asked
      l.does in
      record {
        home = home_trans
            (by_plan T link step lent took left count true went.made new exchanges went.asked).home
            l.home;
        exchanges = exchanges;
        heard = went.heard;
        asked = went.asked;
        did = inr (
          record {
            begun = l.begun;
            mid = l.mid;
            reaches = all.ends (step_state old) (stays_refl old);
            since = all.home;
            exchanges = exchanges;
            heard = l.begins.0;
            history = l.history;
            ended = l.ended;
            runs = l.runs;
            writes = w;
            began = l.begins.2;
            made = l.begins.1;
          },
          refl,
        );
        came = (l.begins.3, l.begins.4);
      }

  -- and memory lacked for what is shown
  pub watch_lacks : {output : Receipt} → WroteNothing output
      → DidWatch T link step lent took left count words old new output (Err NoMemory)
  watch_lacks {output} idle = starts output (Err NoMemory) idle

  -- and what a watch showed was written
  pub watch_wrote : (lines : List Line) → lines ≡ ran.lines.0 → (watch : WatchState)
      → watch.keep ≡ keep → ((o : Opening) (history : List Entry)
      → AreOf ran.start.items.0 ran.start.revision lines o history
      → Follows ran.start.items.0 o history watch) → (ended : Ending)
      → ended ≡ gravest_ending ran.replies.0 → (text : List ℕ) (told : Ending)
      → ShowsState words.since words watch ended text told → {output : Receipt}
      {result : Result Ending Stop} → WritesWatch (IsText text told) output result
      → DidWatch T link step lent took left count words old new output result
  watch_wrote lines same watch kept follows ended end text told shows {output} {result} w =
      let f = subst (λ items. Follows items Opened l.history watch) l.items_are
      (follows Opened l.history (handed lines same)) in
      let legal = l.runs.one.legal in
      let has : ShowsHistory words exchanges l.begun Opened l.history
      (gravest_ending (map (λ (x : fleet_worker.Worker T L D). x.told) l.ended)) text told = (
        watch.items,
        are_shown l.begun Opened l.history legal watch f exchanges first opens
            (λ none. ap names_in none),
        shows_so l.begun Opened l.history legal watch f kept words.since words
            (gravest_ending (map (λ (x : fleet_worker.Worker T L D). x.told) l.ended)) text told
            (subst (λ e. ShowsState words.since words watch e text told)
            (end ∙ ended_so) shows),
      ) in
      starts output result (writes_so (IsText text told)
      (ShowsHistory words exchanges l.begun Opened l.history
      (gravest_ending (map (λ (x : fleet_worker.Worker T L D). x.told) l.ended))) output result
      (λ other end_of same. subst (λ x. ShowsHistory words exchanges l.begun Opened l.history
      (gravest_ending (map (λ (y : fleet_worker.Worker T L D). y.told) l.ended)) x end_of)
      (sym same.0) (subst (λ x. ShowsHistory words exchanges l.begun Opened l.history
      (gravest_ending (map (λ (y : fleet_worker.Worker T L D). y.told) l.ended)) text x)
      (sym same.1) has)) w)
