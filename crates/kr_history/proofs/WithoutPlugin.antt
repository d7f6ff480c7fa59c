-- Where no configuration names a plugin, each legal history is honest and contents are the same,
-- whatever sources open to.
use Rattle.std.proofs.Common.{◌≡◌, ℕ, zero, suc, ◌<◌, ◌+◌, false, List, [], ◌∷◌, ◌++◌, length, get_or, map, Contains, Option, None, Some, IfSome, refl, sym, ap, subst, ◌∙◌, arith}
use Rattle.std.specs.Prelude.{All}
use Rattle.std.specs.List.{slice_get, list_any}
use Rattle.std.specs.Option.{option_map}
use Rattle.std.proofs.lemmas.List.Elements.{All-nil, All-cons}
use Rattle.std.proofs.lemmas.Option.{none-some, same_Some, slice_get_within, get_or_from_slice_get}
use Rattle.kr_store.specs.declared.rows.LogRow.{LogRow}
use Rattle.kr_store.specs.declared.rows.Row as stored_row
use Rattle.kr_store.specs.Rows.{live, row_of}
use Rattle.kr_config.specs.declared.who.Who.{Who}
use Rattle.kr_config.specs.Kept.{ConfigEntry}
use Rattle.kr_config.specs.Lists.{list_of}
use Rattle.kr_config.specs.Providers.{is_kms}
use Rattle.kr_kms.specs.declared.seeds.SeedRow.{SeedRow}
use Rattle.kr_kms.specs.Opens.{Opens}
use Rattle.kr_provider.specs.Envelopes.{unknown}
use Rattle.kr_provider.specs.Publication.{Publication, IsPublished, list_at, names_plugin}
use Rattle.kr_provider.specs.Readers.{reader_in}
use Rattle.kr_provider.specs.Reading.{Reading, data_of, HasReading, HasSomeReading}
use Rattle.kr_provider.proofs.Lists.{no_names}
use Rattle.kr_provider.proofs.OneReading as readings
use Rattle.kr_provider.proofs.WithoutPlugins.{none_listed}
use Rattle.kr_opening.specs.declared.generation.Generation.{Generation}
use Rattle.kr_rollout.specs.declared.line.Did.{Did}
use Rattle.kr_rollout.specs.declared.line.Did.TheVariants.{Replace, Reload, Join}
use Rattle.kr_rollout.specs.declared.line.Gave.{Gave}
use Rattle.kr_rollout.specs.declared.line.Gave.TheVariants.{Adopted, Written, Reloaded, Joined}
use Rattle.kr_rollout.specs.declared.opening.Entry.{Entry}
use Rattle.kr_rollout.specs.declared.opening.Opening.{Opening}
use Rattle.kr_opening.specs.Checks.{written_check}
use Rattle.kr_rollout.specs.Entries.{published_at, generation_named_by}
use Rattle.kr_rollout.specs.States.{State}
use Rattle.kr_rollout.specs.Openings.{first_of, start_of, IsAdmitted}
use Rattle.kr_opening.specs.Replicas.{first_rows, settings_of, generations_from, IsFirstIn}
use Rattle.kr_rollout.specs.Steps.{IsStep, after, new_generations, put_row}
use Rattle.kr_rollout.specs.Histories.{state_from, state_of, IsRun}
use Rattle.kr_history.specs.Contents.{ContentChange, puts, deletes, last_change, OpeningContent, ContentBy}
use Rattle.kr_history.specs.Honesty.{SeedsOpen, KeepsData, IsHonestEntry}
use Rattle.kr_history.specs.ContentLaws.{NamesNoPlugin, HonestWithoutPlugin, ContentWithoutPlugin}
use Rattle.kr_history.proofs.Effects.{entry_with, replaced_row}
use Rattle.kr_history.proofs.Sound.{get_new, old_more}
use Rattle.kr_history.proofs.ContentSteps.{put_row_at}

-- ---- configurations

in_map : {X Y : Type 0} (f : X → Y) (xs : List X) (k : ℕ) (d : X) → k < length xs
    → Contains (map f xs) (f (get_or xs k d))
in_map f [] k d l = absurd (omega arith)
in_map f (x ∷ xs) zero d l = (0, omega arith, refl)
in_map f (x ∷ xs) (suc k) d l =
    let r = in_map f xs k d (omega arith) in (suc r.0, omega (arith, r.1), r.2)

-- one that names no plugin has no seeds
no_seeds : (opens : Opens) (p : Publication) → IsPublished p → names_plugin p.rows ≡ false
    → SeedsOpen opens p
no_seeds opens p k none = λ i d l.
    (let c = (k.names (get_or p.seeds i d).name).0
    (in_map (λ (row : SeedRow). row.name) p.seeds i d l) in
    absurd (omega (
      arith,
      c.1,
      ap (λ (names : List (List ℕ)). length names)
          (no_names p.rows none),
    )))

-- and reads whatever sources open to
pub some_reads : (opens : Opens) (list : List Who) (path bytes : List ℕ) (reading : Reading)
    → list_any is_kms list ≡ false → HasSomeReading list path bytes reading
    → HasReading opens list path bytes reading
some_reads opens list path bytes reading none r =
    (readings.without_plugin opens list path bytes reading none).1
    (readings.any_envelope (reader_in list bytes) path bytes unknown r.0
    (readings.no_plugin list bytes none) ∙ r.2)

any_opens : (opens others : Opens) (list : List Who) (path bytes : List ℕ) (reading : Reading)
    → list_any is_kms list ≡ false → HasReading opens list path bytes reading
    → HasReading others list path bytes reading
any_opens opens others list path bytes reading none r =
    (readings.without_plugin others list path bytes reading none).1
    ((readings.without_plugin opens list path bytes reading none).0 r)

-- ---- generations

abbrev AreWithout : List Generation → Type 0
AreWithout generations = (number : ℕ) (g : Generation) → slice_get generations number ≡ Some g
    → names_plugin g.published.rows ≡ false

published_without : (generations : List Generation) (number : Option ℕ) (p : Publication)
    → AreWithout generations → published_at generations number ≡ Some p
    → names_plugin p.rows ≡ false
published_without generations None p n e = absurd (none-some p e)
published_without generations (Some number) p n e = by (slice_get generations number) refl e
  where
    by : (x : Option Generation) → slice_get generations number ≡ x
        → option_map (λ (g : Generation). g.published) x ≡ Some p → names_plugin p.rows ≡ false
    by None is e = absurd (none-some p e)
    by (Some g) is e = subst (λ (q : Publication). names_plugin q.rows ≡ false)
        (same_Some g.published p e) (n number g is)

generations_stay : (st : State) (history : List Entry) (number : ℕ) (g : Generation)
    → slice_get st.generations number ≡ Some g
    → slice_get (state_from st history).generations number ≡ Some g
generations_stay st [] number g e = e
generations_stay st (first ∷ history) number g e =
    generations_stay (after st first) history number g
    (old_more st.generations (new_generations first.line.gave first.line.did) number g e)

-- ---- one entry

module _ (opens : Opens) (o : Opening) (st : State) (seat : ℕ) (held : Option ℕ) (faults : ℕ)
    (published : Option Publication) (row replaced : Option stored_row.Row) where
  abbrev entry : Did → Gave → Entry
  entry did gave = entry_with seat held faults published row replaced did gave

  honest_given : (replica : ℕ) (p : Publication) → IsPublished p
      → AreWithout (st.generations ++ record { replica = replica; published = p } ∷ [])
      → SeedsOpen opens p
  honest_given replica p k n = no_seeds opens p k
      (n (length st.generations) (record { replica = replica; published = p })
      (get_new st.generations (record { replica = replica; published = p })))

  honest_replace : (path : List ℕ) (from revision : ℕ)
      → IsStep o st (entry (Replace path from) (Written revision))
      → AreWithout (st.generations ++ [])
      → KeepsData opens path (entry (Replace path from) (Written revision))
  honest_replace path from revision s n =
      let w = s.writes in
      let p = w.1.0 in
      let old = w.1.1 in
      let anew = w.1.5 in
      let check = written_check o.format p old.resource in
      let none = published_without (st.generations ++ [])
      (generation_named_by held (Written revision)) p n
      (sym (ap (λ (e : Entry). e.published) s.payload) ∙ w.1.2) in
      record {
        p = p;
        old = old;
        new = put_row_at revision path old.resource anew.sealed.stored check;
        plain = anew.plain;
        held = w.1.2;
        replaced = ap (λ (e : Entry). e.replaced) s.payload
            ∙ replaced_row st.rows (put_row row) path from old w.1.3 w.1.4;
        written = w.3
            ∙ ap (λ (r : LogRow). row_of revision r.path r.change) anew.sealed.row_is;
        reads = some_reads opens (list_at p old.resource) path old.stored (data_of anew.plain)
            (none_listed p.rows old.resource none) anew.reads;
        sealing = anew.sealed.sealing;
      }

  honest_by : (did : Did) (gave : Gave) → IsStep o st (entry did gave)
      → AreWithout (after st (entry did gave)).generations
      → IsHonestEntry opens (entry did gave)
  honest_by did (Adopted number) s n = tt
  honest_by (Replace path from) (Written revision) s n = honest_replace path from revision s n
  honest_by (Reload replica p expect) (Reloaded number) s n = honest_given replica p s.rules.1.0 n
  honest_by (Join replica p) (Joined number) s n = honest_given replica p s.rules.1.0 n
  honest_by did other s n = tt

-- ---- histories

honest_run : (opens : Opens) (o : Opening) (st : State) (history : List Entry)
    → IsRun o st history → AreWithout (state_from st history).generations
    → All (IsHonestEntry opens) history
honest_run opens o st [] r n = All-nil (IsHonestEntry opens)
honest_run opens o st (e ∷ history) r n = All-cons (IsHonestEntry opens) e history
    (honest_by opens o st e.line.seat e.line.held e.line.faults e.published e.row e.replaced
    e.line.did e.line.gave r.0
    (λ number g is. n number g (generations_stay (after st e) history number g is)))
    (honest_run opens o (after st e) history r.1 n)

opening_honest : (opens : Opens) (names : List (List ℕ)) (k : ℕ)
    (rs : List (Option Publication)) → All (λ replica. IfSome replica (IsAdmitted names)) rs
    → AreWithout (generations_from k rs) → All (λ replica. IfSome replica (SeedsOpen opens)) rs
opening_honest opens names k [] all n = All-nil (λ replica. IfSome replica (SeedsOpen opens))
opening_honest opens names k (None ∷ rs) all n =
    All-cons (λ replica. IfSome replica (SeedsOpen opens)) None rs tt
    (opening_honest opens names (k + 1) rs (λ i d l. all (suc i) d (omega arith)) n)
opening_honest opens names k (Some p ∷ rs) all n =
    All-cons (λ replica. IfSome replica (SeedsOpen opens)) (Some p) rs
    (no_seeds opens p (all 0 None (omega arith)).0
    (n 0 (record { replica = k; published = p }) refl))
    (opening_honest opens names (k + 1) rs (λ i d l. all (suc i) d (omega arith))
    (λ number g is. n (suc number) g is))

are_without : (o : Opening) (history : List Entry) → NamesNoPlugin o history
    → AreWithout (state_of o history).generations
are_without o history n number g is =
    subst (λ (x : Generation). names_plugin x.published.rows ≡ false)
    (get_or_from_slice_get (state_of o history).generations number g g is)
    (n number g (slice_get_within (state_of o history).generations number g is))

start_without : (o : Opening) (history : List Entry) → NamesNoPlugin o history
    → AreWithout (start_of o).generations
start_without o history n number g is =
    are_without o history n number g (generations_stay (start_of o) history number g is)

pub honest_without_plugin : HonestWithoutPlugin
honest_without_plugin opens o history l n = record {
  opening = opening_honest opens o.names 0 o.replicas l.opens.admitted
      (start_without o history n);
  entries = honest_run opens o (start_of o) history l.runs (are_without o history n);
}

first_without : (rs : List (Option Publication)) → IsFirstIn rs
    → AreWithout (generations_from 0 rs) → names_plugin (first_rows (settings_of rs)) ≡ false
first_without [] f n = absurd f
first_without (None ∷ rs) f n = refl
first_without (Some p ∷ rs) f n = n 0 (record { replica = 0; published = p }) refl

opening_by_any : (opens others : Opens) (first : List ConfigEntry) (path : List ℕ)
    (row : Option stored_row.Row) (content : Option Reading) → names_plugin first ≡ false
    → OpeningContent opens first path row content → OpeningContent others first path row content
opening_by_any opens others first path None content none c = c
opening_by_any opens others first path (Some row) content none c = (
  c.0,
  any_opens opens others (list_of first row.resource) path row.stored c.0
      (none_listed first row.resource none) c.1,
  c.2,
)

content_by_any : (change : Option ContentChange) (opens others : Opens) (o : Opening)
    (path : List ℕ) (content : Option Reading) → names_plugin (first_of o) ≡ false
    → ContentBy change opens o path content → ContentBy change others o path content
content_by_any (Some (puts plain)) opens others o path content none c = c
content_by_any (Some deletes) opens others o path content none c = c
content_by_any None opens others o path content none c =
    opening_by_any opens others (first_of o) path (live o.rows path) content none c

pub content_without_plugin : ContentWithoutPlugin
content_without_plugin opens others o history path content l n c =
    content_by_any (last_change history path) opens others o path content
    (first_without o.replicas l.opens.first (start_without o history n)) c
