-- What a get of a legal history read is the content at its path, where plugins unwrapped what they
-- had wrapped.
use Rattle.std.specs.Prelude.{All}
use Rattle.std.proofs.Common.{◌≡◌, ℕ, suc, List, [], ◌∷◌, ◌++◌, None, Some, inl, inr, refl, ap, sym, subst, ◌∙◌, arith}
use Rattle.std.proofs.lemmas.List.{append_assoc}
use Rattle.std.proofs.lemmas.List.Elements.{All-nil, All-cons}
use Rattle.std.proofs.lemmas.Option.{same_Some}
use Rattle.kr_kms.specs.Opens.{Opens}
use Rattle.kr_provider.specs.Envelopes.{Envelope, IsEnvelopeOf}
use Rattle.kr_provider.specs.Publication.{Publication, list_at}
use Rattle.kr_provider.specs.Reading.{Reading, data_of, value_reading}
use Rattle.kr_store.specs.Rows.{live, row_of}
use Rattle.kr_store.specs.declared.rows.LogRow.{LogRow}
use Rattle.kr_store.specs.declared.rows.Row.{Row}
use Rattle.kr_opening.specs.Checks.{written_check}
use Rattle.kr_rollout.specs.Answers.{IsAnswer}
use Rattle.kr_rollout.specs.Histories.{IsLegal, IsRun, state_from, state_of}
use Rattle.kr_rollout.specs.Openings.{start_of}
use Rattle.kr_rollout.specs.States.{State}
use Rattle.kr_rollout.specs.Steps.{IsStep, KeepsRules, after}
use Rattle.kr_rollout.specs.Writes.{WouldWrite, Writes, file_size}
use Rattle.kr_rollout.specs.declared.line.Did.{Did}
use Rattle.kr_rollout.specs.declared.line.Did.TheVariants as did
use Rattle.kr_rollout.specs.declared.line.Gave.{Gave}
use Rattle.kr_rollout.specs.declared.line.Gave.TheVariants as gave
use Rattle.kr_rollout.specs.declared.opening.Entry.{Entry}
use Rattle.kr_rollout.specs.declared.opening.Opening.{Opening}
use Rattle.kr_rollout.proofs.Appending.{front_law}
use Rattle.kr_history.specs.Contents.{IsContent, last_change}
use Rattle.kr_history.specs.ContentLaws.{IsRowFor, NamesNoPlugin}
use Rattle.kr_history.specs.Honesty.{HonestBy, IsHonest, IsHonestAt, IsHonestEntry, WritesHonestly}
use Rattle.kr_history.proofs.FoundRows.{found_is_live, replaced_is_live}
use Rattle.kr_history.proofs.NoNames.{no_names_no_plugin}
use Rattle.kr_script.specs.Fleets.{Worker}
use Rattle.kr_script.specs.declared.told.Told.{Told}
use Rattle.kr_workers.specs.Heard.{AgreesWithHeard, Heard}
use Rattle.kr_workers.specs.Plugins.{IsReplaced}
use Rattle.kr_workers.specs.declared.files.SettingsFile.{SettingsFile}
use Rattle.kr_headline.specs.Fleets.{AreKnown, BroughtOpens, BroughtSeeds, Follows, Readings, Reseals, SealedBy, Seals, Unwraps}
use Rattle.kr_headline.specs.Values.{sealed_values}
use Rattle.kr_headline.proofs.Sourced.{IsSourced}
use Rattle.kr_headline.proofs.Unsealed.{SealedAnew}
use Rattle.kr_workers.proofs.HonestPlugins.{at_middle, step_there}

-- the seeds open of what an honest entry brought
pub brought_opens : (opens : Opens) (given : Gave) (done : Did) (e : Entry)
    → HonestBy given done opens e → BroughtOpens opens given done
brought_opens opens (gave.Reloaded generation) (did.Reload replica p expect) e h = h
brought_opens opens (gave.Joined generation) (did.Join replica p) e h = h
brought_opens opens given done e h = tt

-- an entry that keeps its rules brings the seeds of its plugins, and so does each of a run
brought_seeds : (o : Opening) (given : Gave) (done : Did) → KeepsRules done o
    → BroughtSeeds given done
brought_seeds o (gave.Reloaded generation) (did.Reload replica p expect) k =
    (λ name there. (k.1.0.names name).1 there, k.1.0.seeds)
brought_seeds o (gave.Joined generation) (did.Join replica p) k =
    (λ name there. (k.1.0.names name).1 there, k.1.0.seeds)
brought_seeds o given done k = tt

pub run_brings_seeds : (o : Opening) (st : State) (history : List Entry) → IsRun o st history
    → All (λ (e : Entry). BroughtSeeds e.line.gave e.line.did) history
run_brings_seeds o st [] r = All-nil (λ (e : Entry). BroughtSeeds e.line.gave e.line.did)
run_brings_seeds o st (e ∷ history) r =
    All-cons (λ (x : Entry). BroughtSeeds x.line.gave x.line.did) e history
    (brought_seeds o e.line.gave e.line.did r.0.rules)
    (run_brings_seeds o (after st e) history r.1)

-- ---- by a legal history

module _ (o : Opening) (history : List Entry) (legal : IsLegal o history) (front : List Entry)
    (e : Entry) (rest : List Entry) (is : history ≡ front ++ e ∷ rest) where
  pub legal_front : IsLegal o front
  legal_front = front_law o front (e ∷ rest) (subst (IsLegal o) is legal)

  pub legal_one : IsLegal o (front ++ e ∷ [])
  legal_one = front_law o (front ++ e ∷ []) rest
      (subst (IsLegal o) (is ∙ sym (append_assoc front (e ∷ []) rest)) legal)

  pub here : IsStep o (state_of o front) e
  here = step_there o (start_of o) front e rest
      (subst (λ (l : List Entry). IsRun o (start_of o) l) is legal.runs)

  -- the row that a Fetch found lives, at its path
  pub fetched_row : (path : List ℕ) (revision : ℕ) (row : Row) → e.line.did ≡ did.Fetch path
      → e.line.gave ≡ gave.Found revision → e.row ≡ Some row
      → (live (state_of o front).rows path ≡ Some row) × (row.path ≡ path)
      × (row.revision ≡ revision)
  fetched_row path revision row did_is gave_is row_is =
      let found = found_is_live o front e revision legal_one gave_is in
      let same : found.0 ≡ row = same_Some found.0 row (sym found.1 ∙ row_is) in
      let there = subst (λ d. IsRowFor d (state_of o front).rows found.0) did_is found.2 in
      let lives = there.0 ∙ ap (λ (r : Row). Some r) same in
      let answer = subst (λ g. IsAnswer (did.Fetch path) g (state_of o front) e.line.held) gave_is
      (subst (λ d. IsAnswer d e.line.gave (state_of o front) e.line.held) did_is here.answer) in (
        lives,
        ap (λ (r : Row). r.path) (sym same) ∙ there.1,
        ap (λ (r : Row). r.revision) (same_Some row answer.1 (sym lives ∙ answer.2)) ∙ answer.3,
      )

  -- what a line doesn't show
  sealed : (path resource plain : List ℕ) (revision : ℕ) (done : Did)
      → done ≡ did.Put path resource plain → (row : LogRow)
      → WouldWrite o.format done (state_of o front).rows e.published row
      → e.row ≡ row_of revision row.path row.change
      → Seals sealed_values o.format resource path plain e
  sealed path resource plain revision done is row would row_is =
      let w = subst (λ d. WouldWrite o.format d (state_of o front).rows e.published row) is would in
      record {
        p = w.0;
        row = record {
          path = path;
          resource = resource;
          revision = revision;
          stored = w.2.stored;
          check = written_check o.format w.0 resource;
        };
        held = w.1;
        written = row_is ∙ ap (λ (l : LogRow). row_of revision l.path l.change) w.2.row_is;
        path_is = refl;
        resource_is = refl;
        sealing = w.2.sealing;
        check_is = refl;
      }

  pub follows : Follows sealed_values o (state_of o front) e
  follows = record {
    held = here.held;
    named = here.payload;
    faults = here.faults;
    sealed = λ path resource plain revision did_is gave_is.
        let w = subst (λ g. Writes g o (state_of o front) e) gave_is here.writes in
        sealed path resource plain revision e.line.did did_is w.0 w.1 w.3;
    fits = λ revision gave_is.
        let w = subst (λ g. Writes g o (state_of o front) e) gave_is here.writes in
        (file_size o.format (state_of o front).rows w.0, (w.0, w.1, refl), w.2);
  }

  -- what was written in a row's place stands at its path, with the check of its writer
  anew_row : (path : List ℕ) (from revision : ℕ) → e.line.did ≡ did.Replace path from
      → e.line.gave ≡ gave.Written revision → (p : Publication) (old new : Row)
      → e.published ≡ Some p → live (state_of o front).rows path ≡ Some old → e.row ≡ Some new
      → (new.path ≡ path) × (new.check ≡ written_check o.format p old.resource)
  anew_row path from revision did_is gave_is p old new held lives written =
      let w = subst (λ g. Writes g o (state_of o front) e) gave_is here.writes in
      let r = subst (λ d. WouldWrite o.format d (state_of o front).rows e.published w.0) did_is
      w.1 in
      let row : Row = record {
        path = path;
        resource = r.1.resource;
        revision = revision;
        stored = r.5.sealed.stored;
        check = written_check o.format r.0 r.1.resource;
      } in
      let new_is : new ≡ row = same_Some new row (sym written ∙ w.3
      ∙ ap (λ (l : LogRow). row_of revision l.path l.change) r.5.sealed.row_is) in
      let p_is : r.0 ≡ p = same_Some r.0 p (sym r.2 ∙ held) in
      let old_is : r.1 ≡ old = same_Some r.1 old (sym r.3 ∙ lives) in (
        ap (λ (it : Row). it.path) new_is,
        ap (λ (it : Row). it.check) new_is
            ∙ (λ i. written_check o.format (p_is i) (old_is i).resource),
      )

  -- the row that was sealed anew lived at its path
  pub sealed_anew : (heard : Heard) (path : List ℕ) → IsReplaced path e → SealedAnew heard path e
      → Reseals sealed_values o.format heard path e
  sealed_anew heard path replaced r =
      let shown = replaced_is_live o front e path replaced.from replaced.revision legal_one
      replaced.did_is replaced.gave_is in
      let old_is : shown.old ≡ r.old =
      same_Some shown.old r.old (sym shown.replaced ∙ r.replaced) in
      let new_is : shown.new ≡ r.new = same_Some shown.new r.new (sym shown.written ∙ r.written) in
      let lives : live (state_of o front).rows path ≡ Some r.old =
      shown.was_live ∙ ap (λ (it : Row). Some it) old_is in
      let anew = anew_row path replaced.from replaced.revision replaced.did_is replaced.gave_is
      r.p r.old r.new r.held lives r.written in
      record {
        p = r.p;
        old = r.old;
        new = r.new;
        plain = r.plain;
        envelope = r.envelope;
        held = r.held;
        replaced = r.replaced;
        written = r.written;
        path_is = r.path_is;
        stays = anew.0;
        resource_is = ap (λ (it : Row). it.resource) (sym new_is) ∙ shown.resource_is
            ∙ ap (λ (it : Row). it.resource) old_is;
        reads = r.reads;
        source = r.source;
        sealing = r.sealing;
        check_is = anew.1;
      }

  -- a content that is known, where plugins are
  pub known_trusted : (heard : (worker : ℕ) → Heard) (opens : Opens) (path : List ℕ)
      → (((worker : ℕ) → AgreesWithHeard opens (heard worker)) → IsHonest opens o []
      → IsHonest opens o front) → (reading : Reading)
      → (NamesNoPlugin o front → IsContent opens o front path (Some reading))
      → (((worker : ℕ) → AgreesWithHeard opens (heard worker)) → IsHonest opens o front
      → IsContent opens o front path (Some reading))
      → AreKnown heard opens o → IsContent opens o front path (Some reading)
  known_trusted heard opens path honest reading bare agreed (inl none) =
      bare (no_names_no_plugin o front legal_front none)
  known_trusted heard opens path honest reading bare agreed (inr t) =
      agreed t.0 (honest t.0 (record {
        opening = t.1;
        entries = All-nil (IsHonestEntry opens);
      }))

-- ---- by what is supposed of plugins

module _ (heard : (worker : ℕ) → Heard) (o : Opening) (files : List SettingsFile)
    (workers : List Worker) (replies : List (List Told)) (history : List Entry)
    (readings : Readings sealed_values heard o files workers replies history) (opens : Opens)
    (path : List ℕ) (worker at : ℕ) (fetch : Entry)
    (u : Unwraps sealed_values heard o files workers replies history readings opens path worker at fetch) where
  sealed_honestly : (front : List Entry) (e : Entry) (since rest : List Entry)
      → history ≡ front ++ e ∷ (since ++ fetch ∷ rest) → last_change since path ≡ None
      → (given : Gave) (done : Did) → e.line.gave ≡ given
      → e.line.did ≡ done → SealedBy opens path e given done
      → WritesHonestly given done opens path e
  sealed_honestly front e since rest is last (gave.Written revision)
      (did.Put own resource plain) g d s = s
  sealed_honestly front e since rest is last (gave.Written revision) (did.Replace own from) g d s =
      λ same.
      let replaced : IsReplaced path e = record {
        from = from;
        revision = revision;
        did_is = d ∙ ap (λ (p : List ℕ). did.Replace p from) same;
        gave_is = g;
      } in
      let r = readings.reseals front e (since ++ fetch ∷ rest) path is replaced in record {
        keeps = record {
          p = r.p;
          old = r.old;
          new = r.new;
          plain = r.plain;
          held = r.held;
          replaced = r.replaced;
          written = r.written;
          reads = (
            r.envelope,
            u.resealed front e since rest is last replaced,
            subst (λ (q : List ℕ). value_reading r.envelope (list_at r.p r.old.resource) q
                r.old.stored ≡ data_of r.plain) r.path_is r.reads.reads,
          );
          sealing = r.sealing;
        };
        opens_it = s same r.old r.replaced r.p r.held;
      }
  sealed_honestly front e since rest is last given done g d s = tt

  -- what stood at the path before is honest
  honest_at : (front rest : List Entry) → history ≡ front ++ fetch ∷ rest
      → IsHonestAt opens path front
  honest_at front rest is = λ before e since split last.
      let there : history ≡ before ++ e ∷ (since ++ fetch ∷ rest) =
      is ∙ ap (λ (l : List Entry). l ++ fetch ∷ rest) split
      ∙ append_assoc before (e ∷ since) (fetch ∷ rest) in
      sealed_honestly before e since rest there last e.line.gave e.line.did refl refl
      (u.sealed before e since rest there last)

  pub unwraps_trusted : (front rest : List Entry) → history ≡ front ++ fetch ∷ rest
      → (reading : Reading) (r : IsSourced (heard worker) o path reading front fetch)
      → r.envelope ≡ readings.envelope_of worker at → IsContent opens o front path (Some reading)
  unwraps_trusted front rest is reading r same = r.by_any opens (honest_at front rest is)
      (subst (λ (v : Envelope). IsEnvelopeOf opens (list_at r.p r.row.resource) r.row.stored v)
      (sym same) (u.read r.p r.row r.held r.found))
