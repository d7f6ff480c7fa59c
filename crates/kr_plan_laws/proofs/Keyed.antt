-- Under which keys of plugins values are stored: a sealing is under those of its configuration, a
-- value that isn't stale too, and each entry keeps it.
use Rattle.std.proofs.Common.{◌≡◌, ℕ, ◌≤◌, ◌+◌, ◌⊎◌, Bool, true, false, List, [], ◌∷◌, ◌++◌, length, Option, None, Some, IsSome, Result, Ok, Err, refl, sym, ap, subst, ◌∙◌, inl, inr, arith}
use Rattle.std.specs.Prelude.{◌&&◌, ◌||◌, not, if◌then◌else◌}
use Rattle.std.specs.Option.{option_map}
use Rattle.std.specs.Str.{bytes_eq}
use Rattle.std.proofs.lemmas.Bool.{and_parts}
use Rattle.std.proofs.lemmas.Option.{none-some, same_Some}
use Rattle.std.proofs.lemmas.Slice.Eq.{bytes_eq-Decides}
use Rattle.kr_kms.specs.Seeds.{IsSeedRow}
use Rattle.kr_kms.specs.declared.seeds.SeedRow.{SeedRow}
use Rattle.kr_envelope.specs.declared.object.EncryptedObject.{EncryptedObject}
use Rattle.kr_envelope.specs.declared.object.ObjectNo.{ObjectNo}
use Rattle.kr_envelope.specs.declared.object.ObjectNo.TheVariants.{NoMemory}
use Rattle.kr_envelope.specs.declared.prefix.Kind.TheVariants as kind
use Rattle.kr_envelope.specs.Canonical.{canonical}
use Rattle.kr_envelope.specs.Limits.{ReadsMessage}
use Rattle.kr_envelope.specs.Prefixes.{prefix}
use Rattle.kr_envelope.proofs.OneReading.{one_reading}
use Rattle.kr_store.specs.declared.rows.LogRow.{LogRow}
use Rattle.kr_store.specs.declared.rows.Row.{Row}
use Rattle.kr_store.specs.Rows.{live, row_of}
use Rattle.kr_config.specs.declared.class.Class.TheVariants.{Exact}
use Rattle.kr_config.specs.declared.who.Who.{Who}
use Rattle.kr_config.specs.declared.who.Who.TheVariants.{Identity, Aescbc, Aesgcm, Kms}
use Rattle.kr_config.specs.Kept.{ConfigEntry}
use Rattle.kr_config.specs.Lists.{list_of}
use Rattle.kr_provider.specs.Envelopes.{Envelope, HasObject, IsObjectOf, sealed_object}
use Rattle.kr_provider.specs.Publication.{Publication, IsPublished, seed_of, list_at, writer_at}
use Rattle.kr_provider.specs.Readers.{is_reader, reader_in, writer_of}
use Rattle.kr_provider.specs.Reading.{is_current, is_rotated, is_seed, is_stale}
use Rattle.kr_provider.specs.Sealing.{IsBytes, IsSealing, draw_size, value_by}
use Rattle.kr_provider.proofs.SealedReads.{behind, value_is}
use Rattle.kr_provider.proofs.SealedSizes.{data_fits, found, of_all, written}
use Rattle.kr_judge.specs.Verdicts.{first}
use Rattle.kr_opening.specs.Checks.{written_check}
use Rattle.kr_opening.proofs.Needing.{own_path}
use Rattle.kr_opening.proofs.Passing.{class_some}
use Rattle.kr_rollout.specs.declared.line.Did.{Did}
use Rattle.kr_rollout.specs.declared.line.Did.TheVariants.{Adopt, Fetch, After, Put, Delete, Replace, LetGo, Reload, Join, Leave}
use Rattle.kr_rollout.specs.declared.line.Gave.{Gave}
use Rattle.kr_rollout.specs.declared.line.Gave.TheVariants.{Adopted, Found, Absent, Written, Changed, Released, Reloaded, Joined, Refused, Moved, Present, Departed, Gone, StoreFailed, StoreFull, Nothing}
use Rattle.kr_rollout.specs.declared.opening.Entry.{Entry}
use Rattle.kr_rollout.specs.declared.opening.Opening.{Opening}
use Rattle.kr_rollout.specs.Openings.{start_of}
use Rattle.kr_rollout.specs.Histories.{state_from, state_of, IsRun, IsLegal}
use Rattle.kr_rollout.specs.States.{State}
use Rattle.kr_rollout.specs.Steps.{IsStep, after, put_row}
use Rattle.kr_rollout.specs.Written.{IsWritten, path_written}
use Rattle.kr_history.proofs.ContentSteps.{live_put, live_deleted, put_row_at}
use Rattle.kr_history.proofs.Effects.{Holds, entry_with, holds, effect_of}
use Rattle.kr_history.proofs.Fitting.{sound_after, legal_sound}
use Rattle.kr_history.proofs.HeldFacts.{of_number}
use Rattle.kr_history.proofs.Sound.{IsSound, contains_at}
use Rattle.kr_plan_laws.specs.LiveStates.{IsLiveBy}
use Rattle.kr_plan_laws.specs.Refreshed.{Keys, UsesKeys, LiveUse, BringsUsing, AllUse, IsUnder, IsUnderAt, KeysStay}
use Rattle.kr_plan_laws.specs.Settled.{LiveWrite, AllWrite}
use Rattle.kr_plan_laws.proofs.Lives.{IsBrought, live_by_after}
use Rattle.kr_plan_laws.proofs.PathRows.{rows_step}
use Rattle.kr_plan_laws.proofs.Runs.{run_parts, more_state, legal_front}
use Rattle.kr_plan_laws.proofs.Settling.{write_after, front_writes}

-- ---- a sealing

sealed_under : (keys : Keys) (p : Publication) (resource path plain stored : List ℕ)
    → IsPublished p → UsesKeys keys p → IsSealing p resource path plain stored
    → IsUnder keys (writer_at p resource) stored
sealed_under keys p resource path plain stored published uses s =
    by (writer_at p resource) s.fits
    (value_is p.seeds (writer_at p resource) path plain s.drawn stored s.is)
  where
    fits : length plain ≤ 2097152
    fits = data_fits p.seeds (writer_at p resource) path plain s.drawn stored s.is

    by_row : (name : List ℕ) (row : Option SeedRow) → seed_of name p.seeds ≡ row
        → IsBytes 44 s.drawn
        → option_map (λ own. prefix kind.Kms name
        ++ canonical (sealed_object own path plain s.drawn)) row ≡ Some stored
        → (object : EncryptedObject) → IsObjectOf name stored (Ok object)
        → object.key_id ≡ keys name
    by_row name None f drawn e object is = absurd cc
    by_row name (Some row) f drawn e object is =
        let there = (found (λ (r : SeedRow). bytes_eq r.name name) p.seeds row f).1 in
        let sealed = sealed_object row path plain s.drawn in
        let spelled : ReadsMessage (canonical sealed) (Ok object) =
        subst (λ bytes. ReadsMessage bytes (Ok object))
        (behind kind.Kms name (canonical sealed) stored e) is.0 in
        same_key name row sealed object f refl
        ((written row path plain s.drawn (of_all IsSeedRow p.seeds row published.seeds there) fits drawn).1
        (Ok object) spelled)
      where
        same_key : (name : List ℕ) (row : SeedRow) (sealed object : EncryptedObject)
            → seed_of name p.seeds ≡ Some row → sealed.key_id ≡ row.key_id
            → (◌≡◌ {A = Result EncryptedObject ObjectNo} (Ok object) (Ok sealed))
            ⊎ (◌≡◌ {A = Result EncryptedObject ObjectNo} (Ok object) (Err NoMemory))
            → object.key_id ≡ keys name
        same_key name row sealed object f of (inl e) =
            let same : object ≡ sealed = cc in
            ap (λ (x : EncryptedObject). x.key_id) same ∙ of ∙ uses name row f
        same_key name row sealed object f of (inr e) = absurd cc

    by : (who : Who) → IsBytes (draw_size who) s.drawn
        → value_by p.seeds who path plain s.drawn ≡ Some stored → IsUnder keys who stored
    by Identity drawn e = tt
    by (Aescbc name secret) drawn e = tt
    by (Aesgcm name secret) drawn e = tt
    by (Kms name) drawn e = by_row name (seed_of name p.seeds) refl drawn e

-- ---- a value that isn't stale

-- by the configuration, with the object that it holds
abbrev pub NotStale : Publication → Row → Type 0
NotStale p row = (envelope : Envelope)
    × HasObject (reader_in (list_at p row.resource) row.stored) row.stored envelope.object
    × (is_stale envelope p.seeds (list_at p row.resource) row.stored ≡ false)

stale_parts : (reads rotated : Bool) → (not reads || rotated) ≡ false
    → (reads ≡ true) × (rotated ≡ false)
stale_parts true rotated e = (refl, e)
stale_parts false rotated e = absurd cc

current_key : (keys : Keys) (name stored : List ℕ) (seed : Option SeedRow)
    (answer : Result EncryptedObject ObjectNo)
    → ((row : SeedRow) → seed ≡ Some row → row.key_id ≡ keys name)
    → not (is_current seed answer) ≡ false → IsObjectOf name stored answer
    → (object : EncryptedObject) → IsObjectOf name stored (Ok object) → object.key_id ≡ keys name
current_key keys name stored None answer uses e has object is = absurd cc
current_key keys name stored (Some row) (Err why) uses e has object is = absurd cc
current_key keys name stored (Some row) (Ok own) uses e has object is =
    let both = and_parts (bytes_eq own.key_id row.key_id) (is_seed own.kind)
    (unless_not (bytes_eq own.key_id row.key_id && is_seed own.kind) e) in
    same (one_reading _ (Ok object) (Ok own) is.0 has.0)
    ∙ (bytes_eq-Decides own.key_id row.key_id).0 both.0 ∙ uses row refl
  where
    unless_not : (b : Bool) → not b ≡ false → b ≡ true
    unless_not true e = refl
    unless_not false e = absurd cc

    same : (◌≡◌ {A = Result EncryptedObject ObjectNo} (Ok object) (Err NoMemory))
        ⊎ ((◌≡◌ {A = Result EncryptedObject ObjectNo} (Ok own) (Err NoMemory))
        ⊎ (◌≡◌ {A = Result EncryptedObject ObjectNo} (Ok object) (Ok own)))
        → object.key_id ≡ own.key_id
    same (inl e) = absurd cc
    same (inr (inl e)) = absurd cc
    same (inr (inr e)) =
        let is_own : object ≡ own = cc in ap (λ (x : EncryptedObject). x.key_id) is_own

fresh_by : (keys : Keys) (p : Publication) (list : List Who) (stored : List ℕ) (envelope : Envelope)
    → UsesKeys keys p → HasObject (reader_in list stored) stored envelope.object
    → (is_reader stored (writer_of list) ≡ true)
    → is_rotated envelope p.seeds (writer_of list) ≡ false → IsUnder keys (writer_of list) stored
fresh_by keys p [] stored envelope uses has reads rotated = tt
fresh_by keys p (own ∷ list) stored envelope uses has reads rotated =
    by own (subst (λ w. HasObject w stored envelope.object)
    (ap (λ b. if b then Some own else reader_in list stored) reads) has) rotated
  where
    by : (who : Who) → HasObject (Some who) stored envelope.object
        → is_rotated envelope p.seeds who ≡ false → IsUnder keys who stored
    by Identity has rotated = tt
    by (Aescbc name secret) has rotated = tt
    by (Aesgcm name secret) has rotated = tt
    by (Kms name) has rotated = current_key keys name stored (seed_of name p.seeds)
        envelope.object (uses name) rotated has

pub fresh_under : (keys : Keys) (p : Publication) (row : Row) → UsesKeys keys p → NotStale p row
    → IsUnder keys (writer_at p row.resource) row.stored
fresh_under keys p row uses (envelope, has, stale) =
    let parts = stale_parts (is_reader row.stored (writer_at p row.resource))
    (is_rotated envelope p.seeds (writer_at p row.resource)) stale in
    fresh_by keys p (list_at p row.resource) row.stored envelope uses has parts.0 parts.1

-- ---- by the writer of the settings

first_same : (a b : List Who) → 1 ≤ length a → first a ≡ first b → writer_of a ≡ writer_of b
first_same [] b l e = absurd (omega (arith, l))
first_same (who ∷ a) [] l e = absurd (none-some who (sym e))
first_same (who ∷ a) (other ∷ b) l e = same_Some who other e

module _ (o : Opening) (st : State) (sound : IsSound o st) (keys : Keys) (to : List ConfigEntry)
    (write : LiveWrite to st) (used : LiveUse keys st) where
  published_by : (p : Publication) → IsLiveBy st p → IsPublished p
  published_by p lives =
      let f = of_number st.generations lives.0 p lives.2 in
      subst IsPublished f.is (sound.kept lives.0 f.g f.there)

  -- a live configuration's writer is that of the settings
  pub writer_is : (p : Publication) → IsLiveBy st p → (resource : List ℕ)
      → writer_at p resource ≡ writer_of (list_of to resource)
  writer_is p lives resource = first_same (list_at p resource) (list_of to resource)
      (class_some p.rows (published_by p lives).kept (Exact resource))
      (write p.rows
      (lives.0, lives.1, ap (option_map (λ (q : Publication). q.rows)) lives.2) (Exact resource))

  held_by_one : (seat : ℕ) (p : Publication) → Holds st seat p → IsLiveBy st p
  held_by_one seat p h = (h.number, inr (contains_at st.held seat h.number h.held), h.published)

  pub live_under : (p : Publication) → IsLiveBy st p → (row : Row) → NotStale p row
      → IsUnder keys (writer_of (list_of to row.resource)) row.stored
  live_under p lives row fresh = subst (λ w. IsUnder keys w row.stored)
      (writer_is p lives row.resource) (fresh_under keys p row (used p lives) fresh)

  -- ---- an entry that writes

  abbrev Under : List LogRow → List ℕ → Type 0
  Under rows path = (row : Row) → live rows path ≡ Some row
      → IsUnder keys (writer_of (list_of to row.resource)) row.stored

  module _ (seat : ℕ) (held : Option ℕ) (faults : ℕ) (published : Option Publication)
      (row replaced : Option Row) where
    abbrev entry : Did → Gave → Entry
    entry did gave = entry_with seat held faults published row replaced did gave

    value_under : (did : Did) (revision : ℕ) (p : Publication)
        (path resource plain stored : List ℕ) (next : Row)
        → IsStep o st (entry did (Written revision)) → IsSome held → published ≡ Some p
        → IsSealing p resource path plain stored → row ≡ Some next → next.path ≡ path
        → next.resource ≡ resource → next.stored ≡ stored → Under (st.rows ++ put_row row) path
    value_under did revision p path resource plain stored next s some p_is sealing row_is path_is
        resource_is stored_is own at =
        let h = holds o st seat held faults published row replaced did revision p s some p_is in
        let lives = held_by_one seat p h in
        let is = sealed_under keys p resource path plain stored (published_by p lives)
        (used p lives) sealing in
        let under = subst (λ w. IsUnder keys w stored) (writer_is p lives resource) is in
        let put = live_put st.rows next.path next.resource next.stored path next.check
        (ap (λ q. bytes_eq q path) path_is ∙ own_path path) in
        let same = same_Some (put_row_at (1 + length st.rows) next.path next.resource next.stored
        next.check) own (sym put ∙ ap (λ x. live (st.rows ++ put_row x) path) (sym row_is) ∙ at) in
        subst (λ (x : Row). IsUnder keys (writer_of (list_of to x.resource)) x.stored) same
        (subst (λ v. IsUnder keys (writer_of (list_of to next.resource)) v) (sym stored_is)
        (subst (λ v. IsUnder keys (writer_of (list_of to v)) stored) (sym resource_is) under))

    under_by : (did : Did) (gave : Gave) → IsStep o st (entry did gave) → IsWritten gave
        → Under (after st (entry did gave)).rows (path_written did)
    under_by (Put path resource plain) (Written revision) s w =
        let p = s.writes.1.0 in
        let sealed = s.writes.1.2 in
        value_under (Put path resource plain) revision p path resource plain sealed.stored (record {
          path = path;
          resource = resource;
          revision = revision;
          stored = sealed.stored;
          check = written_check o.format p resource;
        }) s s.answer.0 s.writes.1.1 sealed.sealing
        (s.writes.3 ∙ ap (λ (r : LogRow). row_of revision r.path r.change) sealed.row_is) refl refl
        refl
    under_by (Replace path from) (Written revision) s w =
        let p = s.writes.1.0 in
        let old = s.writes.1.1 in
        let anew = s.writes.1.5 in
        let sealed = anew.sealed in
        value_under (Replace path from) revision p path old.resource anew.plain sealed.stored
        (record {
          path = path;
          resource = old.resource;
          revision = revision;
          stored = sealed.stored;
          check = written_check o.format p old.resource;
        }) s s.answer.0 s.writes.1.2 sealed.sealing
        (s.writes.3 ∙ ap (λ (r : LogRow). row_of revision r.path r.change) sealed.row_is) refl refl
        refl
    under_by (Delete path) (Written revision) s w =
        λ own at. absurd (none-some own (sym (live_deleted st.rows path path (own_path path)) ∙ at))
    under_by did (Adopted number) s w = absurd w
    under_by did (Found revision) s w = absurd w
    under_by did Absent s w = absurd w
    under_by did (Changed revision) s w = absurd w
    under_by did Released s w = absurd w
    under_by did (Reloaded number) s w = absurd w
    under_by did (Joined number) s w = absurd w
    under_by did (Refused verdict) s w = absurd w
    under_by did (Moved number) s w = absurd w
    under_by did (Present number) s w = absurd w
    under_by did (Departed number) s w = absurd w
    under_by did (Gone replica) s w = absurd w
    under_by did StoreFailed s w = absurd w
    under_by did (StoreFull needed) s w = absurd w
    under_by did Nothing s w = absurd w
    under_by other another s w = absurd s.answer

  pub wrote_under : (e : Entry) → IsStep o st e → IsWritten e.line.gave
      → IsUnderAt keys to (after st e) (path_written e.line.did)
  wrote_under e s w = under_by e.line.seat e.line.held e.line.faults e.published e.row e.replaced
      e.line.did e.line.gave s w

  -- ---- what an entry brings

  brought_use : (did : Did) (p : Publication) → BringsUsing keys did → IsBrought did p
      → UsesKeys keys p
  brought_use (Reload replica own expect) p b is = subst (UsesKeys keys) is b
  brought_use (Join replica own) p b is = subst (UsesKeys keys) is b
  brought_use (Adopt replica) p b is = absurd is
  brought_use (Fetch path) p b is = absurd is
  brought_use (After path) p b is = absurd is
  brought_use (Put path resource plain) p b is = absurd is
  brought_use (Delete path) p b is = absurd is
  brought_use (Replace path revision) p b is = absurd is
  brought_use LetGo p b is = absurd is
  brought_use (Leave replica) p b is = absurd is

  pub use_after : (e : Entry) → IsStep o st e → BringsUsing keys e.line.did
      → LiveUse keys (after st e)
  use_after e step brings p lives = elim (live_by_after o st sound e step p lives) [
    | inl before ↦ used p before
    | inr brought ↦ brought_use e.line.did p brings brought
  ]

-- ---- many entries

-- all that holds at a moment and of what comes
pub record GoesOnSo (o : Opening) (keys : Keys) (to : List ConfigEntry) (st : State)
    (more : List Entry) : Type 0 where
  pub sound : IsSound o st
  pub run : IsRun o st more
  pub write : LiveWrite to st
  pub all_write : AllWrite to more
  pub used : LiveUse keys st
  pub all_use : AllUse keys more

next_so : (o : Opening) (keys : Keys) (to : List ConfigEntry) (st : State) (e : Entry)
    (more : List Entry) → GoesOnSo o keys to st (e ∷ more) → GoesOnSo o keys to (after st e) more
next_so o keys to st e more g = record {
  sound = sound_after o st g.sound e (effect_of o st e (g.run).0);
  run = (g.run).1;
  write = write_after o st g.sound to g.write e (g.run).0 (g.all_write).0;
  all_write = (g.all_write).1;
  used = use_after o st g.sound keys to g.write g.used e (g.run).0 (g.all_use).0;
  all_use = (g.all_use).1;
}

pub so_on : (o : Opening) (keys : Keys) (to : List ConfigEntry) (st : State)
    (front more : List Entry) → GoesOnSo o keys to st (front ++ more)
    → GoesOnSo o keys to (state_from st front) more
so_on o keys to st [] more g = g
so_on o keys to st (e ∷ front) more g =
    so_on o keys to (after st e) front more (next_so o keys to st e (front ++ more) g)

all_use_front : (keys : Keys) (front more : List Entry) → AllUse keys (front ++ more)
    → AllUse keys front
all_use_front keys [] more all = tt
all_use_front keys (e ∷ front) more all = (all.0, all_use_front keys front more all.1)

pub so_front : (o : Opening) (keys : Keys) (to : List ConfigEntry) (st : State)
    (front more : List Entry) → GoesOnSo o keys to st (front ++ more)
    → GoesOnSo o keys to st front
so_front o keys to st front more g = record {
  sound = g.sound;
  run = (run_parts o st front more g.run).0;
  write = g.write;
  all_write = front_writes to front more g.all_write;
  used = g.used;
  all_use = all_use_front keys front more g.all_use;
}

-- the row of a path stays, or its value is under the keys
pub stays_or_under : (o : Opening) (keys : Keys) (to : List ConfigEntry) (path : List ℕ)
    (st : State) (more : List Entry) → GoesOnSo o keys to st more
    → (live (state_from st more).rows path ≡ live st.rows path)
    ⊎ IsUnderAt keys to (state_from st more) path
stays_or_under o keys to path st [] g = inl refl
stays_or_under o keys to path st (e ∷ more) g =
    let next = next_so o keys to st e more g in
    let rest = stays_or_under o keys to path (after st e) more next in
    elim (rows_step o st e path (g.run).0) [
      | inl same ↦ elim rest [
        | inl kept ↦ inl (kept ∙ same)
        | inr under ↦ inr under
      ]
      | inr wrote ↦ elim rest [
        | inl kept ↦ inr (λ row at. subst (IsUnderAt keys to (after st e)) wrote.1
            (wrote_under o st g.sound keys to g.write g.used e (g.run).0 wrote.0) row
            (sym kept ∙ at))
        | inr under ↦ inr under
      ]
    ]

pub under_stays : (o : Opening) (keys : Keys) (to : List ConfigEntry) (path : List ℕ) (st : State)
    (more : List Entry) → GoesOnSo o keys to st more → IsUnderAt keys to st path
    → IsUnderAt keys to (state_from st more) path
under_stays o keys to path st more g under =
    elim (stays_or_under o keys to path st more g) [
      | inl same ↦ (λ row at. under row (sym same ∙ at))
      | inr kept ↦ kept
    ]

pub goes_from : (o : Opening) (history more : List Entry) (keys : Keys) (to : List ConfigEntry)
    → IsLegal o (history ++ more) → LiveWrite to (state_of o history) → AllWrite to more
    → LiveUse keys (state_of o history) → AllUse keys more
    → GoesOnSo o keys to (state_of o history) more
goes_from o history more keys to l write all used uses = record {
  sound = legal_sound o history (legal_front o history more l);
  run = (run_parts o (start_of o) history more l.runs).1;
  write = write;
  all_write = all;
  used = used;
  all_use = uses;
}

pub keys_stay : KeysStay
keys_stay o history more keys to path l write all used uses under =
    subst (λ (s : State). IsUnderAt keys to s path) (sym (more_state (start_of o) history more))
    (under_stays o keys to path (state_of o history) more
    (goes_from o history more keys to l write all used uses) under)
