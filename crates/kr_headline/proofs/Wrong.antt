-- What no run with the headline prints.
use Rattle.std.specs.Prelude.{◌≢◌, All, Contains, map, ⊤}
use Rattle.std.specs.Option.{option_map}
use Rattle.std.proofs.Common.{◌≡◌, ℕ, ◌+◌, ◌≤◌, List, [], ◌∷◌, ◌++◌, length, Option, None, Some, ◌⊎◌, inl, inr, refl, ap, sym, subst, ◌∙◌, arith, append-nil}
use Rattle.std.proofs.lemmas.List.{append_assoc}
use Rattle.std.proofs.lemmas.Option.{none-some, same_Some}
use Rattle.kr_base.specs.Faults.{Rose}
use Rattle.kr_kms.specs.Calls.{Link}
use Rattle.kr_kms.specs.Exchanges.{Exchange}
use Rattle.kr_provider.specs.Reading.{Reading, data_of}
use Rattle.kr_rollout.specs.declared.line.Did.{Did}
use Rattle.kr_rollout.specs.declared.line.Did.TheVariants as did
use Rattle.kr_rollout.specs.declared.line.Gave.{Gave}
use Rattle.kr_rollout.specs.declared.line.Gave.TheVariants as gave
use Rattle.kr_rollout.specs.declared.opening.Entry.{Entry}
use Rattle.kr_history.specs.Contents.{deletes, last_change}
use Rattle.kr_script.specs.Fleets.{worker_of}
use Rattle.kr_script.specs.declared.script.ScriptLine.{ScriptLine}
use Rattle.kr_script.specs.declared.script.ScriptLine.TheVariants as line
use Rattle.kr_script.specs.declared.told.Told.{Told}
use Rattle.kr_script.specs.declared.told.Told.TheVariants as told
use Rattle.kr_workers.specs.Changes.{AllowsChange}
use Rattle.kr_workers.specs.Shapes.{HoldsOne, IsAlone}
use Rattle.kr_workers.specs.declared.worker.Worker as fleet_worker
use Rattle.kr_headline.specs.Consequences.{IsSupposed, WasPut}
use Rattle.kr_headline.specs.Headline.{Headline, IsOwn, IsTold, MayAnswer, Object, Run, Step, entries_of, own_entries, latest_revision, stands_at, store_faults}
use Rattle.kr_headline.specs.Fleets.{outside_of, run_in}
use Rattle.kr_headline.specs.WrongPages.{EachIsWrong, StandsInRun, WrongPages}
use Rattle.kr_headline.specs.Values.{sealed_values}
use Rattle.kr_headline.proofs.Consequences.{HasLine, got_is_put}
use Rattle.kr_headline.proofs.Contents.{by_change, data_from, data_in}
use Rattle.kr_headline.proofs.Folds.{reading_of, revision_from}
use Rattle.kr_headline.proofs.WrongFaults.{held_adopted, wrong_faults}
use Rattle.kr_headline.proofs.WrongRewrites.{wrong_rewrites}

abbrev bytes_in : Option Reading → List ℕ
bytes_in (Some (data_of bytes)) = bytes
bytes_in other = []

-- the member of a list of which all hold this
holds_of : {X : Type 0} (P : X → Type 0) (xs : List X) (x : X) → All P xs → Contains xs x → P x
holds_of P xs x all there = subst P there.2 (all there.0 x there.1)

module _ (run : Run) (h : Headline run) (made : All (HasLine run) h.steps) where
  answered : (front : List Entry) (done : Did) (given : Gave)
      → (s : StandsInRun run front done given) → MayAnswer run front s.entry done given
  answered front done given s = subst (λ d. MayAnswer run front s.entry d given) s.did_is
      (subst (λ g. MayAnswer run front s.entry s.entry.line.did g) s.gave_is
      (h.answers front s.entry s.rest s.there))

  -- what a step changed, by the line that it was done for
  changed : (step : Step) (done : Did) (given : Gave) (asked : ScriptLine) (reply : Told)
      → Contains h.steps step → step.entry.line.did ≡ done → step.entry.line.gave ≡ given
      → IsTold run step.entry.line.seat step.at asked reply
      → AllowsChange run.settings_in (run.replica_of step.entry.line.seat) asked reply given done
      step.entry.line.held step.entry.published
  changed step done given asked reply there did_is gave_is told_is =
      let l = holds_of (HasLine run) h.steps step made there in
      let settings = run.settings_in in
      let own = run.replica_of step.entry.line.seat in
      let held = step.entry.line.held in
      let published = step.entry.published in
      subst (λ d. AllowsChange settings own asked reply given d held published) did_is
      (subst (λ g. AllowsChange settings own asked reply g step.entry.line.did held published)
      gave_is
      (subst (λ (t : Told). AllowsChange settings own asked t step.entry.line.gave
      step.entry.line.did held published)
      (same_Some l.1 reply (sym l.2.1 ∙ told_is.1))
      (subst (λ (a : ScriptLine). AllowsChange settings own a l.1 step.entry.line.gave
      step.entry.line.did held published)
      (same_Some l.0 asked (sym l.2.0 ∙ told_is.0)) l.3)))

  three : (part : List Entry) (own : ℕ) (done : Did) (given : Gave)
      → HoldsOne own part done given → length part ≡ 3
  three part own done given o =
      ap length (o.part_is ∙ ap (λ (m : List Entry). o.adopt ∷ (m ++ o.let_go ∷ [])) o.is.mids_are)

  -- ---- want of memory

  abbrev first_gave : List Entry → Gave
  first_gave [] = gave.Nothing
  first_gave (e ∷ rest) = e.line.gave

  abbrev IsNothing : Gave → Type 0
  IsNothing gave.Nothing = ⊤
  IsNothing given = ⊥

  never_kept : (own number : ℕ) (path : List ℕ) (part : List Entry) (e : Entry) → part ≡ e ∷ []
      → e.line.gave ≡ gave.Adopted number
      → (part ≡ []) ⊎ IsAlone (did.Adopt own) gave.Nothing part
      ⊎ HoldsOne own part (did.Fetch path) gave.Nothing
      ⊎ ((revision : ℕ) × HoldsOne own part (did.Fetch path) (gave.Found revision)) → ⊥
  never_kept own number path part e one adopted (inl none) =
      let l = ap length (sym none ∙ one) in omega (arith, l)
  never_kept own number path part e one adopted (inr (inl a)) = subst IsNothing
      (sym (ap first_gave a.part_is ∙ a.is.gave_is) ∙ ap first_gave one ∙ adopted) tt
  never_kept own number path part e one adopted (inr (inr (inl o))) =
      let l = ap length one in let t = three part own (did.Fetch path) gave.Nothing o in
      omega (arith, l, t)
  never_kept own number path part e one adopted (inr (inr (inr o))) =
      let l = ap length one in let t = three part own (did.Fetch path) (gave.Found o.0) o.1 in
      omega (arith, l, t)

  -- ---- revisions rise

  answered_there : (front : List Entry) (e : Entry) (rest : List Entry)
      → run.history ≡ front ++ e ∷ rest → MayAnswer run front e e.line.did e.line.gave
  answered_there front e rest is = h.answers front e rest is

  latest_more : (now : ℕ) (front : List Entry) (e : Entry)
      → revision_from now (front ++ e ∷ []) ≡ latest_revision e.line.gave (revision_from now front)
  latest_more now [] e = refl
  latest_more now (x ∷ front) e = latest_more (latest_revision x.line.gave now) front e

  rises : (front : List Entry) (e : Entry) (done : Did) (given : Gave)
      → MayAnswer run front e done given
      → revision_from run.revision_at_start front
      ≤ latest_revision given (revision_from run.revision_at_start front)
  rises front e (did.Put path resource plain) (gave.Written revision) m = omega (arith, m)
  rises front e (did.Delete path) (gave.Written revision) m = let is = m.1 in omega (arith, is)
  rises front e (did.Replace path from) (gave.Written revision) m =
      let is = m.1 in omega (arith, is)
  rises front e done (gave.Written revision) m = absurd m
  rises front e done given m = omega arith

  written_next : (front : List Entry) (e : Entry) (done : Did) (revision : ℕ)
      → MayAnswer run front e done (gave.Written revision)
      → revision ≡ revision_from run.revision_at_start front + 1
  written_next front e (did.Put path resource plain) revision m = m
  written_next front e (did.Delete path) revision m = m.1
  written_next front e (did.Replace path from) revision m = m.1
  written_next front e done revision m = absurd m

  rises_along : (front mid rest : List Entry) → run.history ≡ front ++ (mid ++ rest)
      → revision_from run.revision_at_start front
      ≤ revision_from run.revision_at_start (front ++ mid)
  rises_along front [] rest is = subst (λ (l : List Entry).
      revision_from run.revision_at_start front ≤ revision_from run.revision_at_start l)
      (sym (append-nil front)) (omega arith)
  rises_along front (e ∷ mid) rest is =
      let one = rises front e e.line.did e.line.gave (answered_there front e (mid ++ rest) is) in
      let more = rises_along (front ++ e ∷ []) mid rest
      (is ∙ sym (append_assoc front (e ∷ []) (mid ++ rest))) in
      let same : revision_from run.revision_at_start ((front ++ e ∷ []) ++ mid)
      ≡ revision_from run.revision_at_start (front ++ e ∷ mid) =
      ap (revision_from run.revision_at_start) (append_assoc front (e ∷ []) mid) in
      omega (arith, one, more, same, latest_more run.revision_at_start front e)

  never_twice : (front mid rest : List Entry) (e again : Entry) (revision : ℕ)
      → run.history ≡ front ++ e ∷ (mid ++ again ∷ rest) → e.line.gave ≡ gave.Written revision
      → again.line.gave ≡ gave.Written revision → ⊥
  never_twice front mid rest e again revision is first second =
      let split : run.history ≡ (front ++ e ∷ []) ++ (mid ++ again ∷ rest) =
      is ∙ sym (append_assoc front (e ∷ []) (mid ++ again ∷ rest)) in
      let more = rises_along (front ++ e ∷ []) mid (again ∷ rest) split in
      let last = written_next ((front ++ e ∷ []) ++ mid) again again.line.did revision
      (subst (λ g. MayAnswer run ((front ++ e ∷ []) ++ mid) again again.line.did g) second
      (answered_there ((front ++ e ∷ []) ++ mid) again rest
      (split ∙ sym (append_assoc (front ++ e ∷ []) mid (again ∷ rest))))) in
      let here = latest_more run.revision_at_start front e
      ∙ ap (λ g. latest_revision g (revision_from run.revision_at_start front)) first in
      omega (arith, more, last, here)

  -- ---- faults

  store_failed : (front : List Entry) (e : Entry) (done : Did)
      → MayAnswer run front e done gave.StoreFailed → Rose (store_faults run front) e.line.faults
  store_failed front e (did.Put path resource plain) m = m
  store_failed front e (did.Delete path) m = m
  store_failed front e (did.Replace path from) m = m
  store_failed front e done m = absurd m

  -- ---- the sentence

  -- what is told are the data that stood there as the line fetched
  told_data : (worker at revision : ℕ) (path bytes other : List ℕ) (truth : run.Truths)
      (told_is : IsTold run worker at (line.Get path) (told.Got revision bytes))
      → run.PluginsUnwrapped truth path worker at
      (h.gets worker at path bytes revision told_is).fetch.entry
      → option_map (λ (it : Object). it.data_put) (stands_at run path
      (entries_of (h.gets worker at path bytes revision told_is).front)) ≡ Some (Some other)
      → other ≡ bytes
  told_data worker at revision path bytes other truth told_is unwrapped put_is =
      let f = h.gets worker at path bytes revision told_is in
      let put : f.object.data_put ≡ Some other = same_Some f.object.data_put (Some other)
      (ap (option_map (λ (it : Object). it.data_put)) (sym f.stands) ∙ put_is) in
      ap bytes_in (ap (λ those. reading_of those (run.read_at_start truth path)) (sym put)
      ∙ f.is truth unwrapped)

  never_unwritten : (worker at revision : ℕ) (path bytes : List ℕ) (truth : run.Truths)
      → IsTold run worker at (line.Get path) (told.Got revision bytes)
      → IsSupposed run h truth path worker at
      → run.read_at_start truth path ≢ Some (data_of bytes)
      → (WasPut run path bytes → ⊥) → ⊥
  never_unwritten worker at revision path bytes truth told_is supposed unread unput =
      by (got_is_put run h made worker at revision path bytes told_is truth supposed)
    where
      by : (run.read_at_start truth path ≡ Some (data_of bytes)) ⊎ WasPut run path bytes → ⊥
      by (inl read) = unread read
      by (inr put) = unput put

  -- what stands there has the data of the last change
  abbrev begun : (path : List ℕ) → Option Object
  begun path = option_map (λ revision. record { revision = revision; data_put = None })
      (run.stood_at_start path)

  never_deleted : (worker at revision : ℕ) (path bytes : List ℕ)
      → IsTold run worker at (line.Get path) (told.Got revision bytes)
      → ((front : List Step) (fetch : Step) (rest : List Step)
      → h.steps ≡ front ++ fetch ∷ rest → IsOwn worker at fetch
      → last_change (entries_of front) path ≡ Some deletes) → ⊥
  never_deleted worker at revision path bytes told_is each =
      let f = h.gets worker at path bytes revision told_is in
      none-some f.object.data_put (sym (data_from path (entries_of f.front) (begun path)
      ∙ ap (λ c. by_change c (data_in (begun path))) (each f.front f.fetch f.rest f.there f.own))
      ∙ ap data_in f.stands)

  pub wrong : WrongPages run h
  wrong = record {
    got_other = λ worker at revision path bytes other truth told_is each differ.
        let f = h.gets worker at path bytes revision told_is in
        let here = each f.front f.fetch f.rest f.there f.own f.fetches in
        differ (told_data worker at revision path bytes other truth told_is here.0 here.1);
    got_unwritten = never_unwritten;
    got_older = λ worker at revision path bytes last truth told_is each differ.
        let f = h.gets worker at path bytes revision told_is in
        let here = each f.front f.fetch f.rest f.there f.own f.fetches in
        differ (told_data worker at revision path bytes last truth told_is here.0
        (data_from path (entries_of f.front) (begun path)
        ∙ ap (λ c. by_change c (data_in (begun path))) here.1));
    got_deleted = never_deleted;
    found_nothing = λ front path revision s none. none-some revision
        (ap (option_map (λ (it : Object). it.revision)) (sym none)
        ∙ (answered front (did.Fetch path) (gave.Found revision) s).4);
    missed = λ front path s some. some (answered front (did.Fetch path) gave.Absent s);
    other_revision = λ front path revision object s stands other. other (same_Some object.revision
        revision (ap (option_map (λ (it : Object). it.revision)) (sym stands)
        ∙ (answered front (did.Fetch path) (gave.Found revision) s).4));
    written_twice = never_twice;
    wrote_untold = λ step path resource plain revision reply there did_is gave_is told_is other.
        other (changed step (did.Put path resource plain) (gave.Written revision)
        (line.Put resource path plain) reply there did_is gave_is told_is).1;
    left_elsewhere = λ step replica number asked reply there did_is gave_is told_is other.
        other (changed step (did.Leave replica) (gave.Departed number) asked reply there did_is
        gave_is told_is).0;
    put_twice = λ worker at path resource plain revision told_is other. other (three
        (own_entries h.steps worker at) (run.replica_of worker) (did.Put path resource plain)
        (gave.Written revision)
        (h.tells worker at (line.Put resource path plain) (told.Put revision) told_is));
    gone_in = λ front replica s inside.
        inside (answered front (did.Adopt replica) (gave.Gone replica) s).1;
    other_adopted = λ front replica number s other.
        other (answered front (did.Adopt replica) (gave.Adopted number) s).0;
    full_with_room = λ front path resource plain needed s room.
        let past = (answered front (did.Put path resource plain) (gave.StoreFull needed) s).0 in
        omega (arith, room, past);
    full_for_less = λ front path resource plain needed s less.
        less (answered front (did.Put path resource plain) (gave.StoreFull needed) s).1;
    no_store_failed = λ front done s none.
        none (store_failed front s.entry done (answered front done gave.StoreFailed s));
    no_plugin_failed = λ worker at path name told_is none. none
        (h.tells worker at (line.Get path) (told.FaultPlugin name) told_is).0;
    no_source_failed = λ worker at seat path resource plain told_is none. none
        (h.tells worker at (line.Put resource path plain) (told.FaultDice seat) told_is).1;
    was_healthy = λ worker at name field text told_is none. none
        (h.tells worker at line.Refresh (told.Unhealthy name field text) told_is).0;
    taken_up = λ front replica number p s none. none (subst (run.WouldStayReadable front) s.did_is
        (answered front (did.Reload replica p None) (gave.Reloaded number) s).3);
    refused_fit = λ front replica p verdict s fits.
        (answered front (did.Reload replica p None) (gave.Refused verdict) s).2
        (subst (run.WouldStayReadable front) (sym s.did_is) fits);
    old_number = λ front replica number p s other. other
        (answered front (did.Reload replica p None) (gave.Reloaded number) s).4;
    joined_old_number = λ front replica number p s other. other
        (answered front (did.Join replica p) (gave.Joined number) s).3;
    moved_to_own = λ front replica number p s.
        (answered front (did.Reload replica p (Some number)) (gave.Moved number) s).1 refl;
    unchanged_other = λ worker at told_is none.
        let t = h.tells worker at line.Refresh told.Unchanged told_is in
        none t.p (held_adopted h.steps worker at (run.replica_of worker) _ t) t.is.1;
    kept_hold = λ worker at number path e told_is one adopted. never_kept (run.replica_of worker)
        number path (own_entries h.steps worker at) e one adopted
        (h.tells worker at (line.Get path) told.Memory told_is);
    leave_memory = λ worker at replica told_is.
        h.tells worker at (line.Leave replica) told.Memory told_is;
    refresh_refused = λ worker at verdict told_is.
        h.tells worker at line.Refresh (told.Refused verdict) told_is;
  }

pub each_is_wrong : (T : Type 0) → {L D : Type 0} → (link : L → Link)
    (step : L → Exchange → L → Type 0) (count : D → ℕ) → EachIsWrong T link step count
each_is_wrong T {L} {D} link step count old new files o parts history h = (
  wrong (run_in sealed_values link step count old new files o parts history h) h.has.headline h.has.made,
  wrong_rewrites h.heard o files (map worker_of parts)
      (map (λ (worker : fleet_worker.Worker T L D). worker.told.0) new) history
      (outside_of link count h.benches h.exchanges) h.has.readings h.has.headline,
  wrong_faults link step count old new files o parts history h,
)
