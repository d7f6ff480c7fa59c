-- What no run leaves behind in its store.
use Rattle.std.specs.Prelude.{All, Contains, count_by}
use Rattle.std.proofs.Common.{◌≡◌, ℕ, List, [], length, refl, ap, sym, subst, ◌∙◌}
use Rattle.std.proofs.lemmas.Option.{same_Some}
use Rattle.kr_kms.specs.Calls.{Link}
use Rattle.kr_kms.specs.Exchanges.{Exchange}
use Rattle.kr_kms.specs.Seeds.{IsSeedRow}
use Rattle.kr_kms.specs.Opens.{Opens, key_of}
use Rattle.kr_kms.specs.declared.seeds.SeedRow.{SeedRow}
use Rattle.kr_provider.specs.Publication.{Publication}
use Rattle.kr_provider.specs.Reading.{data_of}
use Rattle.kr_store.specs.declared.rows.Row.{Row}
use Rattle.kr_rollout.specs.declared.line.Did.TheVariants as did
use Rattle.kr_rollout.specs.declared.line.Gave.TheVariants as gave
use Rattle.kr_rollout.specs.declared.opening.Entry.{Entry}
use Rattle.kr_rollout.specs.declared.opening.Opening.{Opening}
use Rattle.kr_history.specs.Honesty.{SeedsOpen}
use Rattle.kr_rewrite.specs.Drives.{is_fresh, is_left}
use Rattle.kr_script.specs.declared.script.Part.{Part}
use Rattle.kr_script.specs.declared.script.ScriptLine.TheVariants as line
use Rattle.kr_script.specs.declared.told.Told.TheVariants as told
use Rattle.kr_workers.specs.Plugins.{IsReplaced}
use Rattle.kr_workers.specs.RewriteParts.{FindsNone}
use Rattle.kr_workers.specs.Shapes.{HoldsPart}
use Rattle.kr_workers.specs.declared.files.SettingsFile.{SettingsFile}
use Rattle.kr_workers.specs.declared.worker.Worker.{Worker}
use Rattle.kr_workers.proofs.HonestPlugins.{at_middle}
use Rattle.kr_headline.specs.Fleets.{AgreesWithAll, BroughtOpens, BroughtSeeds, FleetHeadline, HasSeeds, Reseals, Seals, run_in}
use Rattle.kr_headline.specs.Headline.{Run, own_entries}
use Rattle.kr_headline.specs.Sources.{HasSource}
use Rattle.kr_headline.specs.Values.{Values, sealed_values}
use Rattle.kr_headline.specs.WrongSeals as wrong
use Rattle.kr_headline.specs.WrongSeals.{EachSealIsWrong, WrongSeals}
use Rattle.kr_headline.proofs.Invented.{none_invented, other}
use Rattle.kr_headline.proofs.WrongRewrites.{none_by, none_fresh, none_left}

module _ {T L D : Type 0} (values : Values) (link : L → Link) (step : L → Exchange → L → Type 0)
    (count : D → ℕ) (old new : List (Worker T L D)) (files : List SettingsFile) (o : Opening)
    (parts : List Part) (history : List Entry)
    (h : FleetHeadline values link step count old new files o parts history) where
  abbrev Brought : Entry → Publication → Type 0
  Brought = wrong.Brought values link step count old new files o parts history h

  abbrev Wrote : Entry → Publication → Row → Type 0
  Wrote = wrong.Wrote values link step count old new files o parts history h

  abbrev run : Run
  run = run_in values link step count old new files o parts history h

  abbrev Fresh : (worker : ℕ) → Publication → Row → Type 0
  Fresh worker = values.IsFresh (HasSource (h.heard worker))

  abbrev Stale : (worker : ℕ) → Publication → Row → Type 0
  Stale worker = values.IsStale (HasSource (h.heard worker))

  abbrev Leaves : (worker : ℕ) → Publication → Row → Type 0
  Leaves worker = values.IsLeft (HasSource (h.heard worker))

  abbrev Ended : ℕ → (above : List ℕ) → List Entry → Type 0
  Ended worker above rest =
      HoldsPart (run.replica_of worker) rest (λ p number. FindsNone above)

  brought_opens : (opens : Opens) (e : Entry) (p : Publication) → Brought e p
      → AgreesWithAll h.heard opens o → SeedsOpen opens p
  brought_opens opens e p b agrees =
      subst (λ d. BroughtOpens opens (gave.Reloaded b.generation) d) b.did_is
      (subst (λ g. BroughtOpens opens g e.line.did) b.gave_is
      (at_middle (λ (x : Entry). BroughtOpens opens x.line.gave x.line.did) b.front e b.rest
      (subst (λ (l : List Entry). All (λ (x : Entry). BroughtOpens opens x.line.gave x.line.did) l)
      b.there (h.has.seeds opens agrees))))

  brought_seeds : (e : Entry) (p : Publication) → Brought e p → HasSeeds p
  brought_seeds e p b =
      subst (λ d. BroughtSeeds (gave.Reloaded b.generation) d) b.did_is
      (subst (λ g. BroughtSeeds g e.line.did) b.gave_is
      (at_middle (λ (x : Entry). BroughtSeeds x.line.gave x.line.did) b.front e b.rest
      (subst (λ (l : List Entry). All (λ (x : Entry). BroughtSeeds x.line.gave x.line.did) l)
      b.there h.has.published)))

  seed_is_whole : (e : Entry) (p : Publication) (row : SeedRow) → Brought e p
      → Contains p.seeds row → length row.seed ≡ 32
  seed_is_whole e p row b there =
      let its : IsSeedRow row = subst IsSeedRow there.2
      ((brought_seeds e p b).1 there.0 row there.1) in its.seed

  sealed : (e : Entry) (p : Publication) (row : Row) (path resource plain : List ℕ)
      (revision : ℕ) → Wrote e p row → e.line.did ≡ did.Put path resource plain
      → e.line.gave ≡ gave.Written revision → Seals values o.format resource path plain e
  sealed e p row path resource plain revision w did_is gave_is =
      (h.has.follows w.front e w.rest w.there).sealed path resource plain revision did_is gave_is

  resealed : (e : Entry) (p : Publication) (row : Row) (path : List ℕ) → Wrote e p row
      → IsReplaced path e → Reseals values o.format (h.heard e.line.seat) path e
  resealed e p row path w replaced =
      h.has.readings.reseals w.front e w.rest path w.there replaced

  pub wrong_seals : WrongSeals values link step count old new files o parts history h
  wrong_seals = record {
    unwrapped = λ opens e p b agrees shut. shut (brought_opens opens e p b agrees);
    invented = λ opens e p row b agrees there unheard.
        none_invented (key_of row) opens h.heard o unheard agrees p.seeds
        (brought_opens (other (key_of row) opens) e p b) row there refl;
    seedless = λ e p name b names none. none ((brought_seeds e p b).0 name names);
    other_length = λ e p row b there other. other (seed_is_whole e p row b there);
    other_check = λ e p row path resource plain revision w did_is gave_is other.
        let s = sealed e p row path resource plain revision w did_is gave_is in
        other (ap (λ (it : Row). it.check) (same_Some row s.row (sym w.written ∙ s.written))
        ∙ s.check_is
        ∙ ap (λ (q : Publication). values.check_of o.format q resource)
        (same_Some s.p p (sym s.held ∙ w.held)));
    other_check_anew = λ e p before row path w replaced before_is other.
        let r = resealed e p row path w replaced in
        let p_is = same_Some r.p p (sym r.held ∙ w.held) in
        let old_is = same_Some r.old before (sym r.replaced ∙ before_is) in
        other (ap (λ (it : Row). it.check) (same_Some row r.new (sym w.written ∙ r.written))
        ∙ r.check_is ∙ (λ i. values.check_of o.format (p_is i) (old_is i).resource));
    moved_elsewhere = λ e p row path w replaced other.
        let r = resealed e p row path w replaced in
        other (ap (λ (it : Row). it.path) (same_Some row r.new (sym w.written ∙ r.written))
        ∙ r.stays);
    other_data = λ e p before row path w replaced before_is none.
        let r = resealed e p row path w replaced in
        let p_is : r.p ≡ p = same_Some r.p p (sym r.held ∙ w.held) in
        let old_is : r.old ≡ before = same_Some r.old before (sym r.replaced ∙ before_is) in
        let new_is : r.new ≡ row = same_Some r.new row (sym r.written ∙ w.written) in
        none r.envelope r.plain
        (subst (λ (q : Publication). HasSource (h.heard e.line.seat) r.envelope q before) p_is
        (subst (λ (it : Row). HasSource (h.heard e.line.seat) r.envelope r.p it) old_is r.source))
        (subst (λ (q : Publication). values.Reads r.envelope q before (data_of r.plain)) p_is
        (subst (λ (it : Row). values.Reads r.envelope r.p it (data_of r.plain)) old_is r.reads))
        (subst (λ (q : Publication). values.Seals q before.resource path r.plain row.stored) p_is
        (subst (λ (it : Row). values.Seals r.p it.resource path r.plain row.stored) old_is
        (subst (λ (it : Row). values.Seals r.p r.old.resource path r.plain it.stored) new_is
        r.sealing)));
    left_readable = λ worker at rewritten fresh changed left told_is all some.
        let s = h.has.headline.tells worker at line.Rewrite
        (told.Rewritten rewritten fresh changed left) told_is in
        some (none_by left (count_by is_left s.0) s.6
        (none_left (Fresh worker) (Stale worker) (Leaves worker) (run.replica_of worker) [] s.0
        (Ended worker) (own_entries h.has.headline.steps worker at) s.1 all));
    fresh_unread = λ worker at rewritten fresh changed left told_is all some.
        let s = h.has.headline.tells worker at line.Rewrite
        (told.Rewritten rewritten fresh changed left) told_is in
        some (none_by fresh (count_by is_fresh s.0) s.4
        (none_fresh (Fresh worker) (Stale worker) (Leaves worker) (run.replica_of worker) [] s.0
        (Ended worker) (own_entries h.has.headline.steps worker at) s.1 all));
  }

pub each_seal_is_wrong : (T : Type 0) → {L D : Type 0} → (link : L → Link)
    (step : L → Exchange → L → Type 0) (count : D → ℕ) → EachSealIsWrong T link step count
each_seal_is_wrong T link step count old new files o parts history h =
    wrong_seals sealed_values link step count old new files o parts history h
