-- What no line tells of plugins, by its own exchanges.
use Rattle.std.specs.Prelude.{All, Contains, slice_get, false}
use Rattle.std.proofs.Common.{◌≡◌, ℕ, ◌<◌, List, [], length, map, get_or, Option, refl, ap, sym, subst, ◌∙◌, arith}
use Rattle.std.proofs.lemmas.Bool.{false≢true}
use Rattle.std.proofs.lemmas.List.{get_or-map, length-map}
use Rattle.std.proofs.lemmas.List.Elements.{All-contains}
use Rattle.std.proofs.lemmas.Option.{slice_get-get_or}
use Rattle.kr_config.specs.Kept.{ConfigEntry as setting}
use Rattle.kr_kms.specs.Calls.{Link}
use Rattle.kr_kms.specs.Exchanges.{Exchange, asked_name, is_fault}
use Rattle.kr_kms.specs.declared.health.Field.{Field}
use Rattle.kr_provider.specs.Publication.{Publication}
use Rattle.kr_provider.specs.declared.refusal.ValueNo.{ValueNo}
use Rattle.kr_store.specs.declared.rows.Row.{Row}
use Rattle.kr_rollout.specs.declared.opening.Entry.{Entry}
use Rattle.kr_rollout.specs.declared.opening.Opening.{Opening}
use Rattle.kr_script.specs.Fleets.{Worker, worker_of}
use Rattle.kr_script.specs.declared.script.Part.{Part}
use Rattle.kr_script.specs.declared.script.ScriptLine.{ScriptLine}
use Rattle.kr_script.specs.declared.script.ScriptLine.TheVariants as line
use Rattle.kr_script.specs.declared.told.Told.{Told}
use Rattle.kr_script.specs.declared.told.Told.TheVariants as told
use Rattle.kr_workers.specs.Shapes.{HoldsPart, PartIs}
use Rattle.kr_workers.specs.declared.files.SettingsFile.{SettingsFile}
use Rattle.kr_workers.specs.declared.worker.Worker as fleet_worker
use Rattle.kr_headline.specs.Fleets.{FleetHeadline, run_in}
use Rattle.kr_headline.specs.Headline.{Run, Step, own_entries}
use Rattle.kr_headline.specs.Outside.{AsksOf}
use Rattle.kr_headline.specs.Values.{sealed_values}
use Rattle.kr_headline.proofs.Seats.{below_of, first_in}
use Rattle.kr_headline.specs.WrongPages.{HasAdopted, AreOfLine, WasTold, WrongFaults}

-- ---- a fault, and a status, have their cause in each line that tells them

module _ (P : (name : List ℕ) → Type 0) (D : Type 0)
    (B : (name : List ℕ) → Field → (text : List ℕ) → Type 0) (K G : Publication → Type 0)
    (N : List setting → (name : List ℕ) → Type 0)
    (U : Publication → (resource plain : List ℕ) → ValueNo → Type 0)
    (R : (name : List ℕ) → Publication → Row → Type 0) (W : Told → Type 0) (seat own : ℕ)
    (part : List Entry) (settings_in : (file : List ℕ) → Option (List setting)) where
  plugin_told : (name : List ℕ) → (W (told.FaultPlugin name) → P name) → (asked : ScriptLine)
      → PartIs P D B K G N U R W seat own part settings_in asked (told.FaultPlugin name) → P name
  plugin_told name rewrote (line.Get path) x = x.0
  plugin_told name rewrote line.Rewrite x = rewrote x
  plugin_told name rewrote (line.Reload replica file) x = x.2.0
  plugin_told name rewrote line.Refresh x = x.0
  plugin_told name rewrote (line.Join replica file) x = x.2.0
  plugin_told name rewrote other x = absurd x

  status_told : (name : List ℕ) (field : Field) (text : List ℕ)
      → (W (told.Unhealthy name field text) → ⊥) → (asked : ScriptLine)
      → PartIs P D B K G N U R W seat own part settings_in asked (told.Unhealthy name field text)
      → B name field text
  status_told name field text rewrote line.Rewrite x = absurd (rewrote x)
  status_told name field text rewrote (line.Reload replica file) x = x.2.0
  status_told name field text rewrote line.Refresh x = x.0
  status_told name field text rewrote (line.Join replica file) x = x.2.0
  status_told name field text rewrote other x = absurd x

-- ---- what is held meanwhile was adopted

pub held_adopted : (steps : List Step) (worker at own : ℕ)
    (Is : (p : Publication) → (number : ℕ) → (mids : List Entry) → Type 0)
    → (t : HoldsPart own (own_entries steps worker at) Is) → HasAdopted steps worker at t.p
held_adopted steps worker at own Is t = record {
  entry = t.adopt;
  number = t.number;
  own = subst (λ (l : List Entry). Contains l t.adopt) (sym t.part_is) (0, omega arith, refl);
  gave_is = t.adopts.gave_is;
  adopted = t.adopted;
}

-- ---- none is told elsewhere

module _ {T L D : Type 0} (link : L → Link) (step : L → Exchange → L → Type 0) (count : D → ℕ)
    (old new : List (fleet_worker.Worker T L D)) (files : List SettingsFile) (o : Opening) (parts : List Part)
    (history : List Entry)
    (h : FleetHeadline sealed_values link step count old new files o parts history) where
  abbrev run : Run
  run = run_in sealed_values link step count old new files o parts history h

  abbrev Answers : (name : List ℕ) → Exchange → Type 0
  Answers name exchange = asked_name exchange ≡ name → is_fault exchange ≡ false

  never_elsewhere : (worker at : ℕ) (name : List ℕ) → run.PluginFailed worker at name
      → ((exchanges : List Exchange) → AreOfLine link step count old new files o parts history h
      worker at exchanges → All (Answers name) exchanges) → ⊥
  never_elsewhere worker at name failed answered =
      let f = failed.has.1 in
      false≢true (sym (All-contains (Answers name) failed.asked f.0
      (answered failed.asked failed.asked_is) f.1 f.2) ∙ f.3)

  -- what the line asked
  asked_so : (worker at : ℕ) (asked : ScriptLine) (reply : Told) (its : List Exchange)
      → WasTold link step count old new files o parts history h worker at asked reply
      → AreOfLine link step count old new files o parts history h worker at its
      → AsksOf asked its
  asked_so worker at asked reply its told_is of_line =
      let workers : List Worker = map worker_of parts in
      let within_workers : worker < length workers =
      let l = below_of (map (λ (it : Worker). it.lines) workers) worker at asked told_is.0 in
      omega (arith, l, length-map workers (λ (it : Worker). it.lines)) in
      let within : worker < length parts = omega (arith, within_workers, length-map parts worker_of)
      in
      let in_old : worker < length old = omega (arith, within, h.whole) in
      let in_new : worker < length new = omega (arith, within, h.many) in
      let first = first_in parts worker within in
      let before = first_in old worker in_old in
      let after = first_in new worker in_new in
      let lines : get_or (map (λ (it : Worker). it.lines) workers) worker []
      ≡ (get_or parts worker first).lines.0 =
      get_or-map (λ (it : Worker). it.lines) workers worker (worker_of first) [] within_workers
      ∙ ap (λ (it : Worker). it.lines)
      (get_or-map worker_of parts worker first (worker_of first) within) in
      (h.benches_are worker (get_or parts worker first) (get_or old worker before)
      (get_or new worker after) (slice_get-get_or parts worker first within)
      (slice_get-get_or old worker before in_old) (slice_get-get_or new worker after in_new)).asks
      at asked its (ap (λ (l : List ScriptLine). slice_get l at) (sym lines) ∙ told_is.0) of_line

  pub wrong_faults : WrongFaults link step count old new files o parts history h
  wrong_faults = record {
    fault_elsewhere = λ worker at asked name told_is answered. never_elsewhere worker at name
        (plugin_told (run.PluginFailed worker at) (run.SourceFailed worker at)
        (run.BreaksRule worker at) (run.KeysAreSame worker at) (run.KeyChanged worker at)
        run.NamesPlugin run.CannotBeSealed run.ReadBy _ worker (run.replica_of worker) _
        run.settings_in name (λ rewrote. rewrote.0) asked
        (h.has.headline.tells worker at asked (told.FaultPlugin name) told_is)) answered;
    put_asked = λ worker at resource path plain exchanges reply told_is of_line some. some
        (asked_so worker at (line.Put resource path plain) reply exchanges told_is of_line);
    got_twice = λ worker at path exchanges reply told_is of_line two.
        let one = (asked_so worker at (line.Get path) reply exchanges told_is of_line).0 in
        omega (arith, one, two);
    unhealthy_elsewhere = λ worker at asked name field text told_is none.
        let b = status_told (run.PluginFailed worker at) (run.SourceFailed worker at)
        (run.BreaksRule worker at) (run.KeysAreSame worker at) (run.KeyChanged worker at)
        run.NamesPlugin run.CannotBeSealed run.ReadBy _ worker (run.replica_of worker) _
        run.settings_in name field text (λ rewrote. rewrote) asked
        (h.has.headline.tells worker at asked (told.Unhealthy name field text) told_is) in
        none b.asked b.asked_is b.has.1;
    refreshed_same = λ worker at number told_is none.
        let t = h.has.headline.tells worker at line.Refresh (told.Refreshed number) told_is in
        let own = run.replica_of worker in
        none t.p t.is.0.asked (held_adopted h.has.headline.steps worker at own _ t) t.is.0.asked_is
        t.is.0.has.1;
    unchanged_though = λ worker at told_is none.
        let t = h.has.headline.tells worker at line.Refresh told.Unchanged told_is in
        let own = run.replica_of worker in
        none t.p t.is.1.asked (held_adopted h.has.headline.steps worker at own _ t) t.is.1.asked_is
        t.is.1.has.1;
  }
