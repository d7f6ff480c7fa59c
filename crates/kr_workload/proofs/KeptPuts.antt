-- Each put of a load that was done has its row: a sealing of its data by the load's configurations.
use Rattle.std.specs.Prelude.{All, Contains, cond, ⊤}
use Rattle.std.specs.List.{find, slice_get, slice_index}
use Rattle.std.specs.Option.{option_map}
use Rattle.std.specs.Str.{bytes_eq}
use Rattle.std.proofs.Common.{◌≡◌, ℕ, zero, suc, ◌+◌, ◌<◌, Bool, true, false, List, [], ◌∷◌, ◌++◌, length, map, Option, None, Some, refl, ap, sym, subst, ◌∙◌, append-nil, arith}
use Rattle.std.proofs.lemmas.List.{append_assoc}
use Rattle.std.proofs.lemmas.List.Elements.{All-append, All-cons, All-head, All-nil, All-tail}
use Rattle.std.proofs.lemmas.Option.{none-some, same_Some, slice_get_within}
use Rattle.kr_base.specs.Lines.{of_seat}
use Rattle.kr_config.specs.Kept.{ConfigEntry, rows_of}
use Rattle.kr_kms.specs.Calls.{Link}
use Rattle.kr_kms.specs.Exchanges.{Exchange}
use Rattle.kr_provider.specs.Publication.{Publication}
use Rattle.kr_rollout.specs.Answers.{IsAnswer}
use Rattle.kr_opening.specs.Checks.{written_check}
use Rattle.kr_rollout.specs.Entries.{generation_named_in, published_at, seat_of}
use Rattle.kr_rollout.specs.Histories.{IsRun, state_from, state_of}
use Rattle.kr_rollout.specs.Openings.{start_of}
use Rattle.kr_opening.specs.Replicas.{generations_from, settings_of}
use Rattle.kr_rollout.specs.States.{State}
use Rattle.kr_rollout.specs.Steps.{IsStep, after, new_generation, new_generations, new_rows, put_row}
use Rattle.kr_rollout.specs.Writes.{WouldWrite, Writes}
use Rattle.kr_opening.specs.declared.generation.Generation.{Generation}
use Rattle.kr_rollout.specs.declared.line.Did.{Did}
use Rattle.kr_rollout.specs.declared.line.Did.TheVariants as did
use Rattle.kr_rollout.specs.declared.line.Gave.{Gave}
use Rattle.kr_rollout.specs.declared.line.Gave.TheVariants as gave
use Rattle.kr_rollout.specs.declared.opening.Entry.{Entry}
use Rattle.kr_rollout.specs.declared.opening.Opening.{Opening}
use Rattle.kr_script.specs.declared.script.Part.{Part}
use Rattle.kr_script.specs.declared.script.ScriptLine.{ScriptLine}
use Rattle.kr_script.specs.declared.told.Told.{Told}
use Rattle.kr_script.specs.declared.told.Told.TheVariants as told
use Rattle.kr_store.specs.Rows.{log_row_at, put_of, row_of}
use Rattle.kr_store.specs.declared.rows.LogRow.{LogRow}
use Rattle.kr_workers.specs.Files.{rows_at}
use Rattle.kr_workers.specs.Sentences.{Replies}
use Rattle.kr_workers.specs.declared.files.SettingsFile.{SettingsFile}
use Rattle.kr_workers.specs.declared.worker.Worker.{Worker}
use Rattle.kr_workers.proofs.Sentencing.{done_at}
use Rattle.kr_workers.proofs.HonestPlugins.{at_middle, step_there}
use Rattle.kr_workload.specs.KeptPuts.{HasRow, PutsAreKept}
use Rattle.kr_workload.specs.LoadRuns.{IsLoadRun, opening_rows}
use Rattle.kr_workload.specs.Loads.{configurations, named_configuration, object_path, plain_of}
use Rattle.kr_workload.specs.Loads as load
use Rattle.kr_workload.proofs.FullRuns.{four_parts, its_lines, its_part, now, of_four, run_of, was}
use Rattle.kr_workload.proofs.LineParts.{IsOf}
use Rattle.kr_workload.proofs.LoadHistories.{front_all, secrets}
use Rattle.kr_workload.proofs.LoadSeats.{entries_owned, entry_in, put_told}
use Rattle.kr_workload.proofs.PutParts.{HasWritten, TellsPut}
use Rattle.kr_workload.proofs.RunParts.{own_there, parted}

-- ---- the load's configurations

abbrev OfLoad : (seed : ℕ) → List ConfigEntry → Type 0
OfLoad seed rows = Contains (map (λ (q : List ℕ × List ConfigEntry). q.1) (configurations seed)) rows

abbrev LoadGeneration : (seed : ℕ) → Generation → Type 0
LoadGeneration seed g = OfLoad seed g.published.rows

-- what is brought is one of them
abbrev Brings : (seed : ℕ) → Did → Type 0
Brings seed (did.Reload replica p expect) = OfLoad seed p.rows
Brings seed (did.Join replica p) = ⊥
Brings seed other = ⊤

rows_among : (files : List SettingsFile) (name : List ℕ) (rows : List ConfigEntry)
    → rows_at files name ≡ Some rows
    → Contains (map (λ (q : List ℕ × List ConfigEntry). q.1) (map named_configuration files)) rows
rows_among [] name rows is = absurd (none-some rows is)
rows_among (file ∷ files) name rows is =
    by (bytes_eq file.name name) is (λ e. rows_among files name rows e)
  where
    by : (b : Bool) → option_map (λ (f : SettingsFile). rows_of f.settings.entries.0)
        (cond b (Some file) (find (λ (f : SettingsFile). bytes_eq f.name name) files)) ≡ Some rows
        → (rows_at files name ≡ Some rows
        → Contains (map (λ (q : List ℕ × List ConfigEntry). q.1) (map named_configuration files)) rows)
        → Contains (map (λ (q : List ℕ × List ConfigEntry). q.1) (map named_configuration (file ∷ files))) rows
    by true e again = (0, omega arith, same_Some (rows_of file.settings.entries.0) rows e)
    by false e again =
        let c = again e in (suc c.0, (let l = c.1 in omega (arith, l)), c.2)

brings_of : (seed : ℕ) (files : List SettingsFile) → map named_configuration files ≡ configurations seed
    → (asked : ScriptLine) (done : Did) → IsOf files asked done → Brings seed done
brings_of seed files are asked (did.Reload replica p expect) (named, file, line, found) =
    subst (λ fs. Contains (map (λ (q : List ℕ × List ConfigEntry). q.1) fs) p.rows) are
    (rows_among files file p.rows found)
brings_of seed files are asked (did.Join replica p) is = absurd is
brings_of seed files are asked other is = tt

-- ---- generations

new_of_load : (seed : ℕ) (done : Did) → Brings seed done
    → All (LoadGeneration seed) (new_generation done)
new_of_load seed (did.Reload replica p expect) b =
    All-cons (LoadGeneration seed) (record { replica = replica; published = p }) [] b
    (All-nil (LoadGeneration seed))
new_of_load seed (did.Join replica p) b = absurd b
new_of_load seed other b = All-nil (LoadGeneration seed)

module _ (P : Generation → Type 0) where
  if_new : (given : Gave) (done : Did) → All P (new_generation done)
      → All P (new_generations given done)
  if_new (gave.Reloaded number) done all = all
  if_new (gave.Joined number) done all = all
  if_new other done all = All-nil P

module _ (seed : ℕ) where
  generations_all : (st : State) (history : List Entry)
      → All (LoadGeneration seed) st.generations
      → All (λ (e : Entry). Brings seed e.line.did) history
      → All (LoadGeneration seed) (state_from st history).generations
  generations_all st [] all brings = all
  generations_all st (e ∷ history) all brings =
      let Is : Entry → Type 0 = λ x. Brings seed x.line.did in
      generations_all (after st e) history
      (All-append (LoadGeneration seed) st.generations
      (new_generations e.line.gave e.line.did) all (if_new (LoadGeneration seed) e.line.gave
      e.line.did (new_of_load seed e.line.did (All-head Is e history brings))))
      (All-tail Is e history brings)

  opening_all : (replica : ℕ) (replicas : List (Option Publication))
      → All (λ (rows : Option (List ConfigEntry)). (own : List ConfigEntry) → rows ≡ Some own → OfLoad seed own)
      (settings_of replicas) → All (LoadGeneration seed) (generations_from replica replicas)
  opening_all replica [] all = All-nil (LoadGeneration seed)
  opening_all replica (None ∷ replicas) all =
      let Is : Option (List ConfigEntry) → Type 0 =
      λ rows. (own : List ConfigEntry) → rows ≡ Some own → OfLoad seed own in
      opening_all (replica + 1) replicas (All-tail Is None (settings_of replicas) all)
  opening_all replica (Some p ∷ replicas) all =
      let Is : Option (List ConfigEntry) → Type 0 =
      λ rows. (own : List ConfigEntry) → rows ≡ Some own → OfLoad seed own in
      All-cons (LoadGeneration seed) (record { replica = replica; published = p })
      (generations_from (replica + 1) replicas)
      (All-head Is (Some p.rows) (settings_of replicas) all p.rows refl)
      (opening_all (replica + 1) replicas
      (All-tail Is (Some p.rows) (settings_of replicas) all))

  published_one : (generations : List Generation) (number : Option ℕ) (p : Publication)
      → All (LoadGeneration seed) generations → published_at generations number ≡ Some p
      → OfLoad seed p.rows
  published_one generations None p all is = absurd (none-some p is)
  published_one [] (Some number) p all is = absurd (none-some p is)
  published_one (g ∷ generations) (Some zero) p all is =
      subst (λ (q : Publication). OfLoad seed q.rows) (same_Some g.published p is)
      (All-head (LoadGeneration seed) g generations all)
  published_one (g ∷ generations) (Some (suc number)) p all is =
      published_one generations (Some number) p
      (All-tail (LoadGeneration seed) g generations all) is

-- ---- rows

rows_behind : (st : State) (history : List Entry)
    → (more : List LogRow) × ((state_from st history).rows ≡ st.rows ++ more)
rows_behind st [] = ([], sym (append-nil st.rows))
rows_behind st (e ∷ history) =
    let rest = rows_behind (after st e) history in
    let new = new_rows e.line.gave e.line.did e.row in
    (new ++ rest.0, rest.1 ∙ append_assoc st.rows new rest.0)

state_behind : (st : State) (front rest : List Entry)
    → state_from st (front ++ rest) ≡ state_from (state_from st front) rest
state_behind st [] rest = refl
state_behind st (e ∷ front) rest = state_behind (after st e) front rest

at_the_seam : (xs : List LogRow) (x : LogRow) (ys : List LogRow)
    → slice_get ((xs ++ x ∷ []) ++ ys) (length xs) ≡ Some x
at_the_seam [] x ys = refl
at_the_seam (z ∷ xs) x ys = at_the_seam xs x ys

-- ---- an entry that wrote

module _ (seed size worker number revision : ℕ) (o : Opening) (front : List Entry) (e : Entry)
    (rest : List Entry) (runs : IsRun o (start_of o) (front ++ e ∷ rest))
    (opening : All (LoadGeneration seed) (start_of o).generations)
    (brings : All (λ (x : Entry). Brings seed x.line.did) (front ++ e ∷ rest))
    (did_is : e.line.did ≡ did.Put (object_path worker number) secrets
    (plain_of seed size worker number)) (gave_is : e.line.gave ≡ gave.Written revision) where
  step : IsStep o (state_from (start_of o) front) e
  step = step_there o (start_of o) front e rest runs

  writes : Writes (gave.Written revision) o (state_from (start_of o) front) e
  writes = subst (λ g. Writes g o (state_from (start_of o) front) e) gave_is step.writes

  would : WouldWrite o.format (did.Put (object_path worker number) secrets
      (plain_of seed size worker number)) (state_from (start_of o) front).rows e.published
      writes.0
  would = subst (λ d. WouldWrite o.format d (state_from (start_of o) front).rows e.published
      writes.0) did_is writes.1

  answer : IsAnswer (did.Put (object_path worker number) secrets (plain_of seed size worker number))
      (gave.Written revision) (state_from (start_of o) front) e.line.held
  answer = subst (λ d. IsAnswer d (gave.Written revision) (state_from (start_of o) front)
      e.line.held) did_is (subst (λ g. IsAnswer e.line.did g (state_from (start_of o) front)
      e.line.held) gave_is step.answer)

  abbrev the_row : LogRow
  the_row = put_of (object_path worker number) secrets would.2.stored
      (written_check o.format would.0 secrets)

  added : new_rows e.line.gave e.line.did e.row ≡ the_row ∷ []
  added = (λ i. new_rows (gave_is i) (did_is i) e.row)
      ∙ ap put_row (writes.3 ∙ ap (λ (r : LogRow). row_of revision r.path r.change) would.2.row_is)

  rows_are : (state_of o (front ++ e ∷ rest)).rows
      ≡ ((state_from (start_of o) front).rows ++ the_row ∷ [])
      ++ (rows_behind (after (state_from (start_of o) front) e) rest).0
  rows_are = ap (λ (st : State). st.rows) (state_behind (start_of o) front (e ∷ rest))
      ∙ (rows_behind (after (state_from (start_of o) front) e) rest).1
      ∙ ap (λ l. ((state_from (start_of o) front).rows ++ l)
      ++ (rows_behind (after (state_from (start_of o) front) e) rest).0) added

  row_there : log_row_at (state_of o (front ++ e ∷ rest)).rows revision ≡ Some the_row
  row_there =
      let n = length (state_from (start_of o) front).rows in
      let is : revision ≡ suc n = (let r = answer.1 in omega (arith, r)) in
      ap (log_row_at (state_of o (front ++ e ∷ rest)).rows) is
      ∙ ap (λ rows. slice_get rows n) rows_are
      ∙ at_the_seam (state_from (start_of o) front).rows the_row
      (rows_behind (after (state_from (start_of o) front) e) rest).0

  of_load : OfLoad seed would.0.rows
  of_load =
      let Is : Entry → Type 0 = λ x. Brings seed x.line.did in
      let before = generations_all seed (start_of o) front opening
      (front_all Is front (e ∷ rest) brings) in
      let now = All-append (LoadGeneration seed) (state_from (start_of o) front).generations
      (new_generations e.line.gave e.line.did) before (if_new (LoadGeneration seed) e.line.gave
      e.line.did (new_of_load seed e.line.did (at_middle Is front e rest brings))) in
      published_one seed (after (state_from (start_of o) front) e).generations
      (generation_named_in e.line) would.0 now
      (sym (ap (λ (x : Entry). x.published) step.payload) ∙ would.1)

  has_row : HasRow seed size (state_of o (front ++ e ∷ rest)).rows worker number revision
  has_row = record {
    stored = would.2.stored;
    check = written_check o.format would.0 secrets;
    there = row_there;
    p = would.0;
    of_load = of_load;
    sealing = would.2.sealing;
  }

-- ---- a reply

module _ (T : Type 0) {L D : Type 0} (link : L → Link)
    (step : L → Exchange → L → Type 0)
    (left : D → Option (List ℕ)) (count : D → ℕ) (seed size : ℕ) (files : List SettingsFile)
    (history : List Entry) (o : Opening) (parts : List Part) (budgets : List ℕ)
    (old new : List (Worker T L D))
    (r : IsLoadRun link step left count seed size files history o parts budgets old new) where
  brought : (worker : ℕ) → worker < 4
      → All (λ (e : Entry). Brings seed e.line.did) (of_seat seat_of worker history)
  brought worker few =
      let part = its_part T link step left count seed size files history o parts budgets old
      new
      r worker few in
      let before = was T link step left count seed size files history o parts budgets old new
      r
      worker few in
      let after = now T link step left count seed size files history o parts budgets old new r
      worker few in
      entries_owned link step left count files history o seed size worker
      (slice_index budgets worker) part.x before.x.bench after.x.bench after.x.told.0
      (run_of T link step left count seed size files history o parts budgets old new r worker
      few).stands
      (its_lines T link step left count seed size files history o parts budgets old new r
      worker
      few) (Brings seed)
      (λ asked own done is. brings_of seed files r.files_are asked done is)

  all_brought : All (λ (e : Entry). Brings seed e.line.did) history
  all_brought = own_there (λ seat e. Brings seed e.line.did) history
      (of_four T link step left count seed size files history o parts budgets old new r)
      brought

  opening : All (LoadGeneration seed) (start_of o).generations
  opening = opening_all seed 0 o.replicas (subst
      (λ l. All (λ (rows : Option (List ConfigEntry)). (own : List ConfigEntry) → rows ≡ Some own
      → OfLoad seed own) l) (sym r.opens) both)
    where
      one : (own : List ConfigEntry) → Some (opening_rows seed) ≡ Some own → OfLoad seed own
      one own is = (0, omega arith, same_Some (opening_rows seed) own is)

      both : All (λ (rows : Option (List ConfigEntry)). (own : List ConfigEntry) → rows ≡ Some own
          → OfLoad seed own) (Some (opening_rows seed) ∷ (Some (opening_rows seed) ∷ []))
      both =
          let Is : Option (List ConfigEntry) → Type 0 =
          λ rows. (own : List ConfigEntry) → rows ≡ Some own → OfLoad seed own in
          All-cons Is (Some (opening_rows seed)) (Some (opening_rows seed) ∷ []) one
          (All-cons Is (Some (opening_rows seed)) [] one (All-nil Is))

  module _ (worker at number revision : ℕ)
      (rep : Replies parts new worker at (load.put_of seed size worker number)
      (told.Put revision)) where
    few : worker < 4
    few =
        let l = slice_get_within parts worker rep.part rep.part_is in
        let four = four_parts T link step left count seed size files history o parts budgets
        old
        new r in omega (arith, l, four)

    kept : HasRow seed size (state_of o history).rows worker number revision
    kept =
        let part = its_part T link step left count seed size files history o parts budgets old
        new r worker few in
        let before = was T link step left count seed size files history o parts budgets old
        new
        r worker few in
        let after = now T link step left count seed size files history o parts budgets old new
        r
        worker few in
        let stands = (run_of T link step left count seed size files history o parts budgets
        old
        new r worker few).stands in
        let lines = its_lines T link step left count seed size files history o parts budgets
        old
        new r worker few in
        let same_part : part.x ≡ rep.part =
        same_Some part.x rep.part (sym part.is ∙ rep.part_is) in
        let same_worker : after.x ≡ rep.worker =
        same_Some after.x rep.worker (sym after.is ∙ rep.worker_is) in
        let d = done_at stands.run at (load.put_of seed size worker number) (told.Put revision)
        (ap (λ l. slice_get l at) (stands.lines_are ∙ ap (λ (p : Part). p.lines.0) same_part)
        ∙ rep.line_is)
        (ap (λ l. slice_get l at) (sym stands.replies_are
        ∙ ap (λ (w : Worker T L D). w.told.0) same_worker) ∙ rep.reply_is) in
        let tells = put_told link step left count files history o seed size worker
        (slice_index budgets worker) part.x before.x.bench after.x.bench after.x.told.0 stands
        lines d.done d.there number d.line_is in
        let written : HasWritten secrets (object_path worker number)
        (plain_of seed size worker number) d.done.part revision =
        subst (λ (t : Told). TellsPut secrets (object_path worker number)
        (plain_of seed size worker number) d.done.part t) d.reply_is tells in
        let at_it = parted history written.entry
        (entry_in link step left count files history o seed size worker
        (slice_index budgets worker) part.x before.x.bench after.x.bench after.x.told.0 stands
        lines d.done d.there written.entry written.there) in
        subst (λ (l : List Entry). HasRow seed size (state_of o l).rows worker number revision)
        (sym at_it.is)
        (has_row seed size worker number revision o at_it.front written.entry at_it.rest
        (subst (IsRun o (start_of o)) at_it.is r.one.legal.runs) opening
        (subst (λ l. All (λ (e : Entry). Brings seed e.line.did) l) at_it.is all_brought)
        written.did_is written.gave_is)

pub puts_are_kept : (T : Type 0) → {L D : Type 0} → (link : L → Link)
    (step : L → Exchange → L → Type 0)
    (left : D → Option (List ℕ)) (count : D → ℕ) → PutsAreKept T link step left count
puts_are_kept T link step left count seed size files history o parts budgets old new r worker
    at
    number revision rep = kept T link step left count seed size files history o parts budgets
    old new r worker at number revision rep
