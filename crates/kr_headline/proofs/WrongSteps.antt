-- What no line of a run does while it tells what it tells.
use Rattle.std.specs.Prelude.{◌&&◌, ◌==◌, ◌≢◌, All, Contains, cond, ⊤}
use Rattle.std.specs.List.{filter}
use Rattle.std.proofs.Common.{◌≡◌, ℕ, Bool, true, false, List, [], ◌∷◌, ◌++◌, map, Option, None, Some, inl, inr, refl, ap, sym, subst, ◌∙◌}
use Rattle.std.proofs.lemmas.Bool.{eq-eqb}
use Rattle.std.proofs.lemmas.List.{append_assoc}
use Rattle.std.proofs.lemmas.List.Elements.{All-cons, All-contains, All-head, All-nil, All-tail}
use Rattle.std.proofs.lemmas.Option.{same_Some}
use Rattle.kr_config.specs.Kept.{ConfigEntry as setting}
use Rattle.kr_kms.specs.Calls.{Link}
use Rattle.kr_kms.specs.Exchanges.{Exchange}
use Rattle.kr_kms.specs.declared.health.Field.{Field}
use Rattle.kr_provider.specs.Envelopes.{Envelope}
use Rattle.kr_provider.specs.Publication.{Publication}
use Rattle.kr_provider.specs.Reading.{Reading, data_of, refused}
use Rattle.kr_provider.specs.declared.refusal.ValueNo.{ValueNo}
use Rattle.kr_store.specs.declared.rows.Row.{Row}
use Rattle.kr_rewrite.specs.Drives.{path_of}
use Rattle.kr_rewrite.specs.declared.outcome.Step as met_row
use Rattle.kr_rewrite.specs.declared.outcome.Step.TheVariants as met
use Rattle.kr_rollout.specs.declared.line.Did.{Did}
use Rattle.kr_rollout.specs.declared.line.Did.TheVariants as did
use Rattle.kr_rollout.specs.declared.line.Gave.{Gave}
use Rattle.kr_rollout.specs.declared.line.Gave.TheVariants as gave
use Rattle.kr_rollout.specs.declared.opening.Entry.{Entry}
use Rattle.kr_rollout.specs.declared.opening.Opening.{Opening}
use Rattle.kr_script.specs.declared.script.Part.{Part}
use Rattle.kr_script.specs.declared.script.ScriptLine.TheVariants as line
use Rattle.kr_script.specs.declared.told.Told.{Told}
use Rattle.kr_script.specs.declared.told.Told.TheVariants as told
use Rattle.kr_workers.specs.RewriteParts.{IsFound, Meets, Walks}
use Rattle.kr_workers.specs.Shapes.{BringsRows, HoldsOne, JoinPart, ReloadPart}
use Rattle.kr_workers.specs.declared.files.SettingsFile.{SettingsFile}
use Rattle.kr_workers.specs.declared.worker.Worker.{Worker}
use Rattle.kr_headline.specs.Fleets.{FleetHeadline, Seals, run_in}
use Rattle.kr_headline.specs.Headline.{Finds, IsOwn, IsTold, Run, Step, entries_of, own_entries, stands_at}
use Rattle.kr_headline.specs.Sources.{HasSource}
use Rattle.kr_headline.specs.Values.{Values, sealed_values}
use Rattle.kr_headline.specs.WrongPages.{HasAdopted}
use Rattle.kr_headline.specs.WrongSteps.{EachStepIsWrong, WrongSteps}
use Rattle.kr_headline.proofs.WrongRewrites.{all_behind, all_front, all_mids}

-- ---- the steps of a line, among all

module _ (worker at : ℕ) (P : Entry → Type 0) where
  abbrev is_own : Step → Bool
  is_own step = step.entry.line.seat == worker && step.at == at

  -- what holds of all a line's entries holds of the entry of its step
  step_in : (front : List Step) (step : Step) (rest : List Step) → IsOwn worker at step
      → All P (own_entries (front ++ step ∷ rest) worker at) → P step.entry
  step_in [] step rest own all =
      let others = own_entries rest worker at in
      let is : is_own step ≡ true = ap (λ b. b && step.at == at)
      (eq-eqb step.entry.line.seat worker own.0) ∙ eq-eqb step.at at own.1 in
      All-head P step.entry others
      (subst (λ b. All P (entries_of (cond b (step ∷ filter is_own rest) (filter is_own rest)))) is
      all)
  step_in (x ∷ front) step rest own all = step_in front step rest own (by (is_own x) refl)
    where
      others : List Step
      others = filter is_own (front ++ step ∷ rest)

      by : (b : Bool) → is_own x ≡ b → All P (entries_of others)
      by true is = All-tail P x.entry (entries_of others)
          (subst (λ b. All P (entries_of (cond b (x ∷ others) others))) is all)
      by false is = subst (λ b. All P (entries_of (cond b (x ∷ others) others))) is all

  -- and what holds of all entries holds of the line's
  all_own : (steps : List Step) → All P (entries_of steps) → All P (own_entries steps worker at)
  all_own [] all = all
  all_own (x ∷ steps) all = by (is_own x) refl
      (all_own steps (All-tail P x.entry (entries_of steps) all))
    where
      others : List Step
      others = filter is_own steps

      by : (b : Bool) → is_own x ≡ b → All P (entries_of others)
          → All P (entries_of (cond (is_own x) (x ∷ others) others))
      by true is rest = subst (λ b. All P (entries_of (cond b (x ∷ others) others))) (sym is)
          (All-cons P x.entry (entries_of others) (All-head P x.entry (entries_of steps) all) rest)
      by false is rest =
          subst (λ b. All P (entries_of (cond b (x ∷ others) others))) (sym is) rest

-- each entry stands somewhere
abbrev Splits : List Entry → Entry → Type 0
Splits history e = (front : List Entry) × (rest : List Entry) × (history ≡ front ++ e ∷ rest)

splits_from : (history before xs : List Entry) → history ≡ before ++ xs → All (Splits history) xs
splits_from history before [] is = All-nil (Splits history)
splits_from history before (x ∷ xs) is = All-cons (Splits history) x xs (before, xs, is)
    (splits_from history (before ++ x ∷ []) xs (is ∙ sym (append_assoc before (x ∷ []) xs)))

-- ---- one step by what was adopted

abbrev IsAdopted : Gave → Type 0
IsAdopted (gave.Adopted number) = ⊤
IsAdopted given = ⊥

abbrev IsBetween : Did → Type 0
IsBetween (did.Adopt replica) = ⊥
IsBetween did.LetGo = ⊥
IsBetween done = ⊤

module _ (home : ℕ) (part : List Entry) (done : Did) (given : Gave)
    (o : HoldsOne home part done given) where
  each : (P : Entry → Type 0) → P o.adopt → P o.is.entry → P o.let_go → All P part
  each P first second third = subst (λ (l : List Entry). All P l)
      (sym (o.part_is ∙ ap (λ (m : List Entry). o.adopt ∷ (m ++ o.let_go ∷ [])) o.is.mids_are))
      (All-cons P o.adopt (o.is.entry ∷ (o.let_go ∷ [])) first
      (All-cons P o.is.entry (o.let_go ∷ []) second (All-cons P o.let_go [] third (All-nil P))))

  all_entries : IsBetween done → All (λ e. e.line.did ≡ done → e ≡ o.is.entry) part
  all_entries between = each (λ e. e.line.did ≡ done → e ≡ o.is.entry)
      (λ is. absurd (subst IsBetween (sym is ∙ o.adopts.did_is) between))
      (λ is. refl)
      (λ is. absurd (subst IsBetween (sym is ∙ o.lets_go.did_is) between))

  adopted_is : (IsAdopted given → ⊥) → (e : Entry) (number : ℕ) (p : Publication)
      → Contains part e → e.line.gave ≡ gave.Adopted number → e.published ≡ Some p → o.p ≡ p
  adopted_is other e number p there gave_is published = same_Some o.p p (sym
      (All-contains (λ e. (number : ℕ) → e.line.gave ≡ gave.Adopted number
      → e.published ≡ Some o.p) part e
      (each (λ e. (number : ℕ) → e.line.gave ≡ gave.Adopted number → e.published ≡ Some o.p)
      (λ n is. o.adopted)
      (λ n is. absurd (other (subst IsAdopted (sym (sym o.is.does.gave_is ∙ is)) tt)))
      (λ n is. absurd (subst IsAdopted (sym (sym o.lets_go.gave_is ∙ is)) tt)))
      there number gave_is) ∙ published)

  held_is : o.is.entry.published ≡ Some o.p
  held_is = (All-head (λ e. (e.line.held ≡ Some o.number) × (e.published ≡ Some o.p)) o.is.entry []
      (subst (λ (l : List Entry). All (λ e. (e.line.held ≡ Some o.number)
      × (e.published ≡ Some o.p)) l) o.is.mids_are o.hold)).1

-- ---- what is brought

abbrev rows_of : Did → Option (List setting)
rows_of (did.Reload replica p expect) = Some p.rows
rows_of (did.Join replica p) = Some p.rows
rows_of done = None

abbrev Brings : List setting → Entry → Type 0
Brings rows e = rows_of e.line.did ≡ Some rows

brought_rows : (brings : Publication → Did) (rows : List setting) (given : Gave)
    (part : List Entry) → ((p : Publication) → rows_of (brings p) ≡ Some p.rows)
    → BringsRows brings rows given part → All (Brings rows) part
brought_rows brings rows given part same b = subst (λ (l : List Entry). All (Brings rows) l)
    (sym b.brought.part_is) (All-cons (Brings rows) b.brought.entry []
    (ap rows_of b.brought.is.did_is ∙ same b.p ∙ ap Some b.rows_are) (All-nil (Brings rows)))

brought_none : (rows : List setting) (part : List Entry) → part ≡ [] → All (Brings rows) part
brought_none rows part none =
    subst (λ (l : List Entry). All (Brings rows) l) (sym none) (All-nil (Brings rows))

module _ (PluginFailed : (name : List ℕ) → Type 0) (SourceFailed : Type 0)
    (BreaksRule : (name : List ℕ) → Field → (text : List ℕ) → Type 0)
    (KeysAreSame KeyChanged : Publication → Type 0)
    (NamesPlugin : List setting → (name : List ℕ) → Type 0)
    (CannotBeSealed : Publication → (resource plain : List ℕ) → ValueNo → Type 0)
    (ReadBy : (name : List ℕ) → Publication → Row → Type 0)
    (RewriteDone : Told → Type 0) (worker home : ℕ) (part : List Entry) (replica : ℕ)
    (rows : List setting) where
  abbrev Reloads : Told → Type 0
  Reloads reply = ReloadPart PluginFailed SourceFailed BreaksRule KeysAreSame KeyChanged
      NamesPlugin CannotBeSealed ReadBy RewriteDone worker home part replica rows reply

  abbrev Joins : Told → Type 0
  Joins reply = JoinPart PluginFailed SourceFailed BreaksRule KeysAreSame KeyChanged NamesPlugin
      CannotBeSealed ReadBy RewriteDone worker home part replica rows reply

  by_reload : (given : Gave) → BringsRows (λ p. did.Reload replica p None) rows given part
      → All (Brings rows) part
  by_reload given b =
      brought_rows (λ p. did.Reload replica p None) rows given part (λ p. refl) b

  by_join : (given : Gave) → BringsRows (did.Join replica) rows given part
      → All (Brings rows) part
  by_join given b = brought_rows (did.Join replica) rows given part (λ p. refl) b

  reload_brings : (reply : Told) → Reloads reply → All (Brings rows) part
  reload_brings (told.Reloaded number) r = by_reload (gave.Reloaded number) r
  reload_brings (told.Refused verdict) r = by_reload (gave.Refused verdict) r
  reload_brings told.Gone r = by_reload (gave.Gone replica) r
  reload_brings told.Memory (inl none) = brought_none rows part none
  reload_brings told.Memory (inr r) = by_reload gave.Nothing r
  reload_brings (told.FaultPlugin name) r = brought_none rows part r.2
  reload_brings (told.FaultDice named) r = brought_none rows part r.2
  reload_brings (told.Unhealthy name field text) r = brought_none rows part r.2
  reload_brings reply r = absurd r

  join_brings : (reply : Told) → Joins reply → All (Brings rows) part
  join_brings (told.Joined number) r = by_join (gave.Joined number) r
  join_brings (told.Present number) r = by_join (gave.Present number) r
  join_brings (told.Refused verdict) r = by_join (gave.Refused verdict) r
  join_brings told.Memory (inl none) = brought_none rows part none
  join_brings told.Memory (inr r) = by_join gave.Nothing r
  join_brings (told.FaultPlugin name) r = brought_none rows part r.2
  join_brings (told.FaultDice named) r = brought_none rows part r.2
  join_brings (told.Unhealthy name field text) r = brought_none rows part r.2
  join_brings reply r = absurd r

-- ---- what a rewrite met

module _ (F S O : Publication → Row → Type 0) (path : List ℕ) (some : path ≢ []) where
  abbrev Misses : Entry → Type 0
  Misses e = (row : Row) → e.row ≡ Some row → row.path ≢ path

  -- an entry that found a row found it at the path that was met
  found_first : (above named : List ℕ) (revision : ℕ) (find : Entry) (Is : Row → Type 0)
      (more mids : List Entry) → IsFound above named revision find Is → mids ≡ find ∷ more
      → All Misses mids → named ≢ path
  found_first above named revision find Is more mids f mids_are all same =
      All-head Misses find more (subst (λ (l : List Entry). All Misses l) mids_are all) f.row
      f.row_is (f.path_is ∙ same)

  met_other : (p : Publication) (above : List ℕ) (taken : met_row.Step) (mids : List Entry)
      → Meets F S O p above taken mids → All Misses mids → path_of [] taken ≢ path
  met_other p above met.End mids m all = λ same. some (sym same)
  met_other p above (met.Rewritten named) mids m all = found_first above named m.1.revision m.1.find
      (S p) (m.1.replace ∷ []) mids m.1.finds m.1.mids_are all
  met_other p above (met.Changed named) mids m all = found_first above named m.1.revision m.1.find
      (S p) (m.1.replace ∷ []) mids m.1.finds m.1.mids_are all
  met_other p above (met.Fresh named) mids m all =
      found_first above named m.revision m.find (F p) [] mids m.finds m.mids_are all
  met_other p above (met.Left named) mids m all =
      found_first above named m.revision m.find (O p) [] mids m.finds m.mids_are all

  none_met : (home : ℕ) (above : List ℕ) (steps : List met_row.Step)
      (Ends : (above : List ℕ) → List Entry → Type 0) (part : List Entry)
      → Walks F S O home above steps Ends part → All Misses part
      → All (λ named. named ≢ path) (map (path_of []) steps)
  none_met home above [] Ends part w all = All-nil (λ named. named ≢ path)
  none_met home above (taken ∷ more) Ends part w all =
      let parts = subst (λ (l : List Entry). All Misses l) w.2 all in
      All-cons (λ named. named ≢ path) (path_of [] taken) (map (path_of []) more)
      (met_other w.3.p above taken w.3.mids w.3.is
      (all_mids Misses home w.0 _ w.3 (all_front Misses w.0 w.1 parts)))
      (none_met home (path_of above taken) more Ends w.1 w.4 (all_behind Misses w.0 w.1 parts))

-- ---- all of them

module _ {T L D : Type 0} (values : Values) (link : L → Link) (step : L → Exchange → L → Type 0)
    (count : D → ℕ) (old new : List (Worker T L D)) (files : List SettingsFile) (o : Opening)
    (parts : List Part) (history : List Entry)
    (h : FleetHeadline values link step count old new files o parts history) where
  abbrev run : Run
  run = run_in values link step count old new files o parts history h

  abbrev steps : List Step
  steps = h.has.headline.steps

  abbrev entries_at : (worker at : ℕ) → List Entry
  entries_at worker at = own_entries steps worker at

  -- what an own entry put is sealed by the configuration that it held
  sealed : (worker at revision : ℕ) (path resource plain : List ℕ) (e : Entry)
      → Contains (entries_at worker at) e → e.line.did ≡ did.Put path resource plain
      → e.line.gave ≡ gave.Written revision → Seals values o.format resource path plain e
  sealed worker at revision path resource plain e there did_is gave_is =
      let s = All-contains (Splits history) (entries_at worker at) e
      (all_own worker at (Splits history) steps (subst (λ (l : List Entry). All (Splits history) l)
      (sym h.has.headline.entries_are) (splits_from history [] history refl))) there in
      (h.has.follows s.0 e s.1 s.2).sealed path resource plain revision did_is gave_is

  never_sealed : (worker at revision : ℕ) (path resource plain : List ℕ) (p : Publication)
      (e : Entry) (row : Row)
      → IsTold run worker at (line.Put resource path plain) (told.Put revision)
      → HasAdopted steps worker at p → Contains (entries_at worker at) e
      → e.line.did ≡ did.Put path resource plain → e.row ≡ Some row
      → (values.Seals p resource path plain row.stored → ⊥) → ⊥
  never_sealed worker at revision path resource plain p e row told_is a there did_is row_is none =
      let home = run.replica_of worker in
      let part = entries_at worker at in
      let done = did.Put path resource plain in
      let given = gave.Written revision in
      let one : HoldsOne home part done given = h.has.headline.tells worker at
      (line.Put resource path plain) (told.Put revision) told_is in
      let e_is : e ≡ one.is.entry = All-contains (λ e. e.line.did ≡ done → e ≡ one.is.entry) part e
      (all_entries home part done given one tt) there did_is in
      let s = sealed worker at revision path resource plain e there did_is
      (ap (λ (x : Entry). x.line.gave) e_is ∙ one.is.does.gave_is) in
      let p_is : s.p ≡ p = same_Some s.p one.p (sym s.held
      ∙ ap (λ (x : Entry). x.published) e_is ∙ held_is home part done given one)
      ∙ adopted_is home part done given one (λ is. is) a.entry a.number p a.own a.gave_is
      a.adopted in
      let same : s.row ≡ row = same_Some s.row row (sym s.written ∙ row_is) in
      none (subst (λ (q : Publication). values.Seals q resource path plain row.stored) p_is
      (subst (λ (it : Row). values.Seals s.p resource path plain it.stored) same s.sealing))

  never_read : (worker at found revision : ℕ) (path : List ℕ) (reading : Reading) (p : Publication)
      (e : Entry) (row : Row)
      → HoldsOne (run.replica_of worker) (entries_at worker at) (did.Fetch path)
      (gave.Found found) → Finds run steps worker at path revision reading
      → HasAdopted steps worker at p → Contains (entries_at worker at) e
      → e.line.did ≡ did.Fetch path → e.row ≡ Some row
      → ((envelope : Envelope) → HasSource (h.heard worker) envelope p row
      → values.Reads envelope p row reading → ⊥) → ⊥
  never_read worker at found revision path reading p e row one f a there did_is row_is none =
      let home = run.replica_of worker in
      let part = entries_at worker at in
      let done = did.Fetch path in
      let given = gave.Found found in
      let all = all_entries home part done given one tt in
      let e_is : e ≡ one.is.entry =
      All-contains (λ e. e.line.did ≡ done → e ≡ one.is.entry) part e all there did_is in
      let f_is : f.fetch.entry ≡ one.is.entry =
      step_in worker at (λ e. e.line.did ≡ done → e ≡ one.is.entry) f.front f.fetch f.rest f.own
      (subst (λ (l : List Step). All (λ e. e.line.did ≡ done → e ≡ one.is.entry)
      (own_entries l worker at)) f.there all) f.fetches in
      let r = f.reads in
      let p_is : r.p ≡ p = same_Some r.p one.p (sym r.held
      ∙ ap (λ (x : Entry). x.published) f_is ∙ held_is home part done given one)
      ∙ adopted_is home part done given one (λ is. is) a.entry a.number p a.own a.gave_is
      a.adopted in
      let same : r.row ≡ row = same_Some r.row row (sym r.found
      ∙ ap (λ (x : Entry). x.row) (f_is ∙ sym e_is) ∙ row_is) in
      let envelope = h.has.readings.envelope_of worker at in
      none envelope
      (subst (λ (q : Publication). HasSource (h.heard worker) envelope q row) p_is
      (subst (λ (it : Row). HasSource (h.heard worker) envelope r.p it) same r.source))
      (subst (λ (q : Publication). values.Reads envelope q row reading) p_is
      (subst (λ (it : Row). values.Reads envelope r.p it reading) same r.is))

  -- an own entry brings these settings alone
  never_brought : (worker at : ℕ) (file : List ℕ) (rows : List setting) (p : Publication)
      (e : Entry) → run.settings_in file ≡ Some rows → All (Brings rows) (entries_at worker at)
      → Contains (entries_at worker at) e → rows_of e.line.did ≡ Some p.rows
      → run.settings_in file ≢ Some p.rows → ⊥
  never_brought worker at file rows p e rows_are all there did_is other = other (rows_are
      ∙ sym (All-contains (Brings rows) (entries_at worker at) e all there) ∙ did_is)

  never_passed : (worker at rewritten fresh changed left : ℕ) (path : List ℕ)
      → IsTold run worker at line.Rewrite (told.Rewritten rewritten fresh changed left)
      → (some : path ≢ []) → ((front : List Step) (taken : Step) (rest : List Step)
      → steps ≡ front ++ taken ∷ rest → IsOwn worker at taken
      → stands_at run path (entries_of front) ≢ None)
      → All (λ e. (row : Row) → e.row ≡ Some row → row.path ≢ path) (entries_at worker at) → ⊥
  never_passed worker at rewritten fresh changed left path told_is some stood all =
      let had = HasSource (h.heard worker) in
      let s = h.has.headline.tells worker at line.Rewrite
      (told.Rewritten rewritten fresh changed left) told_is in
      All-contains (λ named. named ≢ path) (map (path_of []) s.0) path
      (none_met (values.IsFresh had) (values.IsStale had) (values.IsLeft had) path some
      (run.replica_of worker) [] s.0 _ (entries_at worker at) s.1 all) (s.2 path some stood) refl

  pub wrong_steps : WrongSteps values link step count old new files o parts history h
  wrong_steps = record {
    sealed_by_other = never_sealed;
    read_by_other = λ worker at revision path bytes p e row told_is.
        never_read worker at revision revision path (data_of bytes) p e row
        (h.has.headline.tells worker at (line.Get path) (told.Got revision bytes) told_is)
        (h.has.headline.gets worker at path bytes revision told_is);
    refused_by_other = λ worker at path why p e row told_is a there did_is row_is none.
        let f = h.has.headline.refuses worker at path why told_is in
        let t = h.has.headline.tells worker at (line.Get path) (told.Value why) told_is in
        never_read worker at t.0 f.0 path (refused why) p e row t.1 f.1 a there did_is row_is none;
    reloads_other = λ worker at replica named file p expect e reply told_is there did_is other.
        let t = h.has.headline.tells worker at (line.Reload replica file) reply told_is in
        never_brought worker at file t.0 p e t.1 (reload_brings (run.PluginFailed worker at)
        (run.SourceFailed worker at) (run.BreaksRule worker at) (run.KeysAreSame worker at)
        (run.KeyChanged worker at) run.NamesPlugin run.CannotBeSealed run.ReadBy (λ reply. ⊤)
        worker (run.replica_of worker) (entries_at worker at) replica t.0 reply t.2) there
        (ap rows_of did_is) other;
    joins_other = λ worker at replica named file p e reply told_is there did_is other.
        let t = h.has.headline.tells worker at (line.Join replica file) reply told_is in
        never_brought worker at file t.0 p e t.1 (join_brings (run.PluginFailed worker at)
        (run.SourceFailed worker at) (run.BreaksRule worker at) (run.KeysAreSame worker at)
        (run.KeyChanged worker at) run.NamesPlugin run.CannotBeSealed run.ReadBy (λ reply. ⊤)
        worker (run.replica_of worker) (entries_at worker at) replica t.0 reply t.2) there
        (ap rows_of did_is) other;
    passed_by = never_passed;
  }

pub each_step_is_wrong : (T : Type 0) → {L D : Type 0} → (link : L → Link)
    (step : L → Exchange → L → Type 0) (count : D → ℕ) → EachStepIsWrong T link step count
each_step_is_wrong T link step count old new files o parts history h =
    wrong_steps sealed_values link step count old new files o parts history h
