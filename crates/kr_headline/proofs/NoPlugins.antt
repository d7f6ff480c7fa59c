-- Of a path that needs no plugin nothing has to be supposed.
use Rattle.std.specs.Prelude.{All}
use Rattle.std.specs.List.{list_any}
use Rattle.std.proofs.Common.{◌≡◌, ℕ, false, List, ◌∷◌, ◌++◌, map, Option, Some, inr, refl, sym, subst}
use Rattle.std.proofs.lemmas.Bool.{false≢true}
use Rattle.kr_config.specs.Providers.{is_kms}
use Rattle.kr_config.specs.declared.who.Who.{Who}
use Rattle.kr_config.specs.declared.who.Who.TheVariants.{Kms}
use Rattle.kr_kms.specs.Calls.{Link}
use Rattle.kr_kms.specs.Exchanges.{Exchange}
use Rattle.kr_kms.specs.Opens.{Opens}
use Rattle.kr_kms.specs.declared.seeds.SeedRow.{SeedRow}
use Rattle.kr_provider.specs.Envelopes.{Envelope, HasEnvelope, IsEnvelopeOf}
use Rattle.kr_provider.specs.Publication.{SeedOpens, list_at}
use Rattle.kr_provider.specs.Readers.{reader_in, writer_of}
use Rattle.kr_provider.proofs.OneReading.{IsNoPlugin, no_plugin}
use Rattle.kr_rollout.specs.declared.line.Did.{Did}
use Rattle.kr_rollout.specs.declared.line.Did.TheVariants as did
use Rattle.kr_rollout.specs.declared.line.Gave.{Gave}
use Rattle.kr_rollout.specs.declared.line.Gave.TheVariants as gave
use Rattle.kr_rollout.specs.declared.opening.Entry.{Entry}
use Rattle.kr_rollout.specs.declared.opening.Opening.{Opening}
use Rattle.kr_script.specs.Fleets.{Worker, worker_of}
use Rattle.kr_script.specs.declared.told.Told.{Told}
use Rattle.kr_workers.specs.declared.files.SettingsFile.{SettingsFile}
use Rattle.kr_workers.specs.declared.worker.Worker as fleet_worker
use Rattle.kr_workers.specs.Heard.{Heard}
use Rattle.kr_workers.proofs.HonestPlugins.{at_middle}
use Rattle.kr_headline.specs.Consequences.{NothingSupposed, UsesNoPlugin}
use Rattle.kr_headline.specs.Fleets.{Readings, SealedBy, Unwraps, run_in}
use Rattle.kr_headline.specs.Headline.{entries_of}
use Rattle.kr_headline.specs.Values.{sealed_values}
use Rattle.kr_headline.proofs.Consequences.{there_in}

-- ---- a list with no plugin

seed_opens : (opens : Opens) (seeds : List SeedRow) (list : List Who)
    → list_any is_kms list ≡ false → SeedOpens opens seeds (writer_of list)
seed_opens opens seeds (Kms name ∷ rest) none = absurd (false≢true (sym none))
seed_opens opens seeds other none = tt

envelope_of_none : (opens : Opens) (reader : Option Who) (bytes : List ℕ) (v : Envelope)
    → IsNoPlugin reader → HasEnvelope opens reader bytes v
envelope_of_none opens (Some (Kms name)) bytes v n = absurd (false≢true (sym n))
envelope_of_none opens other bytes v n = tt

any_envelope_of : (opens : Opens) (list : List Who) (bytes : List ℕ) (v : Envelope)
    → list_any is_kms list ≡ false → IsEnvelopeOf opens list bytes v
any_envelope_of opens list bytes v none =
    envelope_of_none opens (reader_in list bytes) bytes v (no_plugin list bytes none)

-- ---- entries

sealed_by_none : (opens : Opens) (path : List ℕ) (e : Entry) (given : Gave) (done : Did)
    → UsesNoPlugin path e given done → SealedBy opens path e given done
sealed_by_none opens path e (gave.Written revision) (did.Put own resource plain) u =
    λ same p is. seed_opens opens p.seeds (list_at p resource) (u same p is)
sealed_by_none opens path e (gave.Written revision) (did.Replace own from) u =
    λ same old replaced p is.
    seed_opens opens p.seeds (list_at p old.resource) (u same old replaced p is)
sealed_by_none opens path e given done u = tt

module _ (heard : (worker : ℕ) → Heard) (o : Opening) (files : List SettingsFile)
    (workers : List Worker) (replies : List (List Told)) (history : List Entry)
    (readings : Readings sealed_values heard o files workers replies history) (path : List ℕ)
    (none : All (λ e. UsesNoPlugin path e e.line.gave e.line.did) history) (opens : Opens)
    (worker at : ℕ) where
  uses_none : (front : List Entry) (e : Entry) (rest : List Entry) → history ≡ front ++ e ∷ rest
      → UsesNoPlugin path e e.line.gave e.line.did
  uses_none front e rest is =
      at_middle (λ (x : Entry). UsesNoPlugin path x x.line.gave x.line.did) front e rest
      (subst (λ (l : List Entry).
      All (λ (x : Entry). UsesNoPlugin path x x.line.gave x.line.did) l) is none)

  unwraps_none : (front : List Entry) (e : Entry) (rest : List Entry) (revision : ℕ)
      → history ≡ front ++ e ∷ rest → e.line.did ≡ did.Fetch path
      → e.line.gave ≡ gave.Found revision
      → Unwraps sealed_values heard o files workers replies history readings opens path worker at e
  unwraps_none front e rest revision is fetches found = record {
    sealed = λ before x since behind there last. sealed_by_none opens path x x.line.gave
        x.line.did (uses_none before x (since ++ e ∷ behind) there);
    resealed = λ before x since behind there last replaced.
        let r = readings.reseals before x (since ++ e ∷ behind) path there replaced in
        any_envelope_of opens (list_at r.p r.old.resource) r.old.stored r.envelope
        (subst (λ d. UsesNoPlugin path x (gave.Written replaced.revision) d) replaced.did_is
        (subst (λ g. UsesNoPlugin path x g x.line.did) replaced.gave_is
        (uses_none before x (since ++ e ∷ behind) there)) refl r.old r.replaced r.p r.held);
    read = λ p row held row_is. any_envelope_of opens (list_at p row.resource) row.stored
        (readings.envelope_of worker at)
        (subst (λ d. UsesNoPlugin path e (gave.Found revision) d) fetches
        (subst (λ g. UsesNoPlugin path e g e.line.did) found (uses_none front e rest is)) refl row
        row_is p held);
  }

module _ (T : Type 0) {L D : Type 0} (link : L → Link) (step : L → Exchange → L → Type 0)
    (count : D → ℕ) where
  pub nothing_supposed : NothingSupposed T link step count
  nothing_supposed old new files o parts history h path none opens worker at front taken rest
      is own fetches revision found = inr (unwraps_none h.heard o files (map worker_of parts)
      (map (λ (worker : fleet_worker.Worker T L D). worker.told.0) new) history h.has.readings path
      none opens worker at (entries_of front) taken.entry (entries_of rest) revision
      (there_in (run_in sealed_values link step count old new files o parts history h) h.has.headline front taken
      rest is) fetches found)
