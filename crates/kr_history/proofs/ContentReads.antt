-- A live row reads as the content of its path, by each list that has the provider it needs.
use Rattle.std.proofs.Common.{◌≡◌, ℕ, suc, ◌≤◌, ◌+◌, Bool, true, false, cond, List, [], ◌∷◌, ◌++◌, length, Contains, Option, None, Some, IsSome, refl, sym, ap, subst, ◌∙◌, arith, append-nil, IsTrue}
use Rattle.std.specs.Prelude.{◌↔◌, ◌&&◌, nat_le, if◌then◌else◌, All, find}
use Rattle.std.specs.List.{slice_get}
use Rattle.std.specs.Option.{option_map}
use Rattle.std.specs.Str.{bytes_eq}
use Rattle.std.proofs.lemmas.Bool.Decides.{nat_tests}
use Rattle.std.proofs.lemmas.List.{append_assoc}
use Rattle.std.proofs.lemmas.Option.{none-some, same_Some}
use Rattle.kr_store.specs.declared.format.Check.{Check}
use Rattle.kr_store.specs.declared.rows.LogRow.{LogRow}
use Rattle.kr_store.specs.declared.rows.Change.{Change}
use Rattle.kr_store.specs.declared.rows.Change.TheVariants as change
use Rattle.kr_store.specs.declared.rows.Row as stored_row
use Rattle.kr_store.specs.Rows.{latest, live, live_row, row_of, put_of, delete_of}
use Rattle.kr_store.proofs.Places.{live_at_revision}
use Rattle.kr_config.specs.declared.who.Who.{Who}
use Rattle.kr_config.specs.declared.who.Who.TheVariants.{Kms}
use Rattle.kr_config.specs.Kept.{ConfigEntry, keeps, keeps_providers}
use Rattle.kr_config.specs.Lists.{list_of}
use Rattle.kr_kms.specs.declared.seeds.SeedRow.{SeedRow}
use Rattle.kr_kms.specs.Opens.{Opens, OpenAll, key_of}
use Rattle.kr_provider.specs.Envelopes.{Envelope, HasEnvelope}
use Rattle.kr_provider.specs.Publication.{Publication, IsPublished, SeedOpens, list_at, writer_at}
use Rattle.kr_provider.specs.Readers.{reader_in, is_reader}
use Rattle.kr_provider.specs.Reading.{Reading, data_of, reader_reading, HasReading}
use Rattle.kr_provider.specs.Sealing.{IsSealing}
use Rattle.kr_provider.proofs.Lists.{listed}
use Rattle.kr_provider.proofs.Rivals.{one_reader}
use Rattle.kr_provider.proofs.Sealings.{sealing_reads}
use Rattle.kr_judge.specs.declared.need.Need.{Need}
use Rattle.kr_judge.specs.Boards.{AreByPath, need_at, set_need, drop_need}
use Rattle.kr_judge.proofs.Needs.{sorted_set, sorted_drop, set_at, drop_at_path}
use Rattle.kr_opening.specs.declared.generation.Generation.{Generation}
use Rattle.kr_rollout.specs.declared.opening.Entry.{Entry}
use Rattle.kr_rollout.specs.declared.opening.Opening.{Opening}
use Rattle.kr_rollout.specs.States.{State, IsLive}
use Rattle.kr_rollout.specs.Openings.{first_of, start_of, IsOpening}
use Rattle.kr_opening.specs.Needs.{provider_of, need_of, needs_of}
use Rattle.kr_rollout.specs.Steps.{IsStep, after}
use Rattle.kr_rollout.specs.Histories.{state_from, state_of, IsRun, IsLegal}
use Rattle.kr_history.specs.Contents.{puts, deletes, change_at, OpeningContent, ContentBy, IsContent}
use Rattle.kr_history.specs.Honesty.{IsHonestAt, WritesHonestly}
use Rattle.kr_history.specs.ContentLaws.{LiveReads}
use Rattle.kr_opening.proofs.Needing as needing
use Rattle.kr_history.proofs.Effects.{Effect, stays, adopts, lets_go, leaves, gives, puts_value, deletes_row, replaces_value, Holds, SealsAnew, need_by, with_value, effect_of}
use Rattle.kr_history.proofs.Sound.{IsSound, rows_of_number}
use Rattle.kr_history.proofs.Fitting.{held_live, sound_after, start_sound}
use Rattle.kr_history.proofs.ContentSteps.{change_kept, change_made, live_elsewhere, live_deleted, live_put, put_row_at, one_path, one_content}

-- ---- lists and seeds

at_least : (n : ℕ) → 1 ≤ n → nat_le 1 n ≡ true
at_least n l = grind (arith, nat_tests)

pub list_keeps : (rows : List ConfigEntry) → IsTrue (keeps rows) → (resource : List ℕ)
    → IsTrue (keeps_providers (list_of rows resource))
list_keeps rows k resource =
    let l = listed rows resource k in
    let some = at_least (length (list_of rows resource)) l.some in
    (λ i. some i && l.providers i && l.stand i)

-- what a search finds is there and passes
pub found : {X : Type 0} (test : X → Bool) (xs : List X) (x : X) → find test xs ≡ Some x
    → (test x ≡ true) × Contains xs x
found test [] x e = absurd (none-some x e)
found test (y ∷ ys) x e = by (test y) refl e (found test ys x)
  where
    by : (b : Bool) → test y ≡ b → cond b (Some y) (find test ys) ≡ Some x
        → (find test ys ≡ Some x → (test x ≡ true) × Contains ys x)
        → (test x ≡ true) × Contains (y ∷ ys) x
    by true t e more =
        let same = same_Some y x e in (ap test (sym same) ∙ t, (0, omega arith, same))
    by false t e more = let c = more e in (c.0, (suc c.1.0, omega (arith, c.1.1), c.1.2))

one_of : {X : Type 0} (P : X → Type 0) (xs : List X) (x : X) → All P xs → Contains xs x → P x
one_of P xs x a c = subst P c.2 (a c.0 x c.1)

pub seed_opens : (opens : Opens) (seeds : List SeedRow) (who : Who) → OpenAll opens seeds
    → SeedOpens opens seeds who
seed_opens opens seeds (Kms name) a = λ row is.
    one_of (λ (r : SeedRow). opens (key_of r) ≡ Some r.seed) seeds row a
    (found (λ (r : SeedRow). bytes_eq r.name name) seeds row is).1
seed_opens opens seeds other a = tt

-- ---- what a live row reads as

pub record ReadsAt (opens : Opens) (o : Opening) (needs : List Need) (history : List Entry)
    (path : List ℕ) (row : stored_row.Row) : Type 0 where
  pub who : Who
  pub need : need_at needs path ≡ Some (record {
    path = path;
    resource = row.resource;
    who = who;
  })
  pub by_each : (list : List Who) → IsTrue (keeps_providers list) → Contains list who
      → (reading : Reading) → HasReading opens list path row.stored reading
      ↔ IsContent opens o history path (Some reading)

abbrev pub AllRead : Opens → Opening → State → List Entry → List ℕ → Type 0
AllRead opens o st history path = (row : stored_row.Row) → live st.rows path ≡ Some row
    → ReadsAt opens o st.needs history path row

module _ (opens : Opens) (o : Opening) (history : List Entry) (e : Entry) (path : List ℕ) where
  -- where the entry doesn't change the path's content, nor its need
  reads_kept : (needs next : List Need) (row : stored_row.Row)
      → change_at e.line.gave e.line.did path ≡ None → need_at next path ≡ need_at needs path
      → ReadsAt opens o needs history path row
      → ReadsAt opens o next (history ++ e ∷ []) path row
  reads_kept needs next row quiet same r = record {
    who = r.who;
    need = same ∙ r.need;
    by_each = λ list k c reading.
        subst (λ l. HasReading opens list path row.stored reading
        ↔ ContentBy l opens o path (Some reading)) (sym (change_kept history e path quiet))
        (r.by_each list k c reading);
  }

  -- a value that was sealed anew
  module _ (p : Publication) (published : IsPublished p) (resource plain stored : List ℕ)
      (opened : SeedOpens opens p.seeds (writer_at p resource))
      (sealing : IsSealing p resource path plain stored) where
    reads_sealed : (next : List Need) (row : stored_row.Row) → row.resource ≡ resource
        → row.stored ≡ stored → need_at next path ≡ Some (need_by p path resource)
        → IsContent opens o (history ++ e ∷ []) path (Some (data_of plain))
        → ReadsAt opens o next (history ++ e ∷ []) path row
    reads_sealed next row resource_is stored_is need content = record {
      who = writer_at p resource;
      need = need ∙ ap (λ r. Some (record {
        path = path;
        resource = r;
        who = writer_at p resource;
      })) (sym resource_is);
      by_each = λ list k c reading.
          let s = sealing_reads opens p list resource path plain stored reading published opened k c
          sealing in (
            (λ reads. subst (λ x. IsContent opens o (history ++ e ∷ []) path (Some x))
                (sym (s.0 (subst (λ v. HasReading opens list path v reading) stored_is reads)))
                content),
            (λ other. subst (λ v. HasReading opens list path v reading) (sym stored_is)
                (s.1 (same_Some reading (data_of plain)
                (one_content opens o (history ++ e ∷ []) path (Some reading)
                (Some (data_of plain)) other content)))),
          );
    }

-- ---- the opening

same_readers : (opens : Opens) (list others : List Who) (path bytes : List ℕ) (reading : Reading)
    → reader_in list bytes ≡ reader_in others bytes → HasReading opens list path bytes reading
    → HasReading opens others path bytes reading
same_readers opens list others path bytes reading same r =
    subst (λ reader. (envelope : Envelope) × HasEnvelope opens reader bytes envelope
    × (reader_reading envelope reader path bytes ≡ reading)) same r

pub same_needs : (needs : List Need) (path : List ℕ)
    → need_at needs path ≡ needing.need_at needs path
same_needs [] path = refl
same_needs (need ∷ needs) path =
    ap (λ rest. if bytes_eq need.path path then Some need else rest) (same_needs needs path)

-- what a live row of the opening needs
pub row_needed : (first : List ConfigEntry) (rows : List LogRow) (path : List ℕ) (row : stored_row.Row)
    (who : Who) → live rows path ≡ Some row
    → provider_of first row.resource row.stored ≡ Some who
    → needing.needed first (needing.last_row rows path)
    ≡ Some (record { path = row.path; resource = row.resource; who = who })
row_needed first rows path row who is provider = by (latest rows path) is
  where
    of_change : (n : ℕ) (own : List ℕ) (c : Change) → row_of n own c ≡ Some row
        → need_of first own c
        ≡ Some (record { path = row.path; resource = row.resource; who = who })
    of_change n own change.Delete e = absurd (none-some row e)
    of_change n own (change.Put resource stored check) e =
        let same = same_Some (record {
          path = own;
          resource = resource;
          revision = n;
          stored = stored;
          check = check;
        }) row e in
        ap (λ (r : stored_row.Row). option_map (λ who. record {
          path = r.path;
          resource = r.resource;
          who = who;
        }) (provider_of first r.resource r.stored)) same
        ∙ ap (option_map (λ who. record {
          path = row.path;
          resource = row.resource;
          who = who;
        })) provider

    by : (l : Option (ℕ × LogRow)) → live_row l ≡ Some row
        → needing.needed first (option_map (λ found. found.1) l)
        ≡ Some (record { path = row.path; resource = row.resource; who = who })
    by None e = absurd (none-some row e)
    by (Some at) e = of_change at.0 at.1.path at.1.change e

pub some_who : (x : Option Who) → IsSome x → (who : Who) × (x ≡ Some who)
some_who None s = absurd (none_is s)
  where
    none_is : IsSome {T = Who} None → ⊥
    none_is e = cc
some_who (Some who) s = (who, refl)

opening_reads : (opens : Opens) (o : Opening) (path : List ℕ) → IsOpening o
    → AllRead opens o (start_of o) [] path
opening_reads opens o path opening row is =
    let who = some_who (provider_of (first_of o) row.resource row.stored)
    (opening.readable path row is) in
    let path_is = (live_at_revision o.rows path row is).1 in
    let passes = (found (is_reader row.stored) (list_of (first_of o) row.resource) who.0 who.1).0
    in
    record {
      who = who.0;
      need = same_needs (needs_of (first_of o) o.rows) path
          ∙ needing.needs_found (first_of o) o.rows path
          ∙ row_needed (first_of o) o.rows path row who.0 is who.1
          ∙ ap (λ q. Some (record { path = q; resource = row.resource; who = who.0 })) path_is;
      by_each = λ list k c reading.
          let same = one_reader row.stored list who.0 k passes c ∙ sym who.1 in
          let first = list_of (first_of o) row.resource in
          subst (λ l. HasReading opens list path row.stored reading
          ↔ OpeningContent opens (first_of o) path l (Some reading)) (sym is) (
            (λ reads. (
              reading,
              same_readers opens list first path row.stored reading same reads,
              refl,
            )),
            (λ content. subst (HasReading opens list path row.stored)
                (sym (same_Some reading content.0 content.2))
                (same_readers opens first list path row.stored content.0 (sym same) content.1)),
          );
    }

-- ---- one entry

-- what holds behind a history: a path's row is read where what stands there is honest
pub record IsRead (opens : Opens) (o : Opening) (st : State) (history : List Entry)
    : Type 0 where
  pub sound : IsSound o st
  pub sorted : AreByPath st.needs
  pub reads : (path : List ℕ) → IsHonestAt opens path history → AllRead opens o st history path

held_published : (o : Opening) (st : State) (seat : ℕ) (p : Publication) → IsSound o st
    → Holds st seat p → IsPublished p
held_published o st seat p sound h = by (slice_get st.generations h.number) refl h.published
  where
    by : (x : Option Generation) → slice_get st.generations h.number ≡ x
        → option_map (λ (g : Generation). g.published) x ≡ Some p → IsPublished p
    by None is e = absurd (none-some p e)
    by (Some g) is e = subst IsPublished (same_Some g.published p e) (sound.kept h.number g is)

-- ---- what stands at a path, with one more entry

module _ (opens : Opens) (history : List Entry) (e : Entry) (path : List ℕ)
    (at : IsHonestAt opens path (history ++ e ∷ [])) where
  honest_last : WritesHonestly e.line.gave e.line.did opens path e
  honest_last = at history e [] refl refl

  honest_before : change_at e.line.gave e.line.did path ≡ None → IsHonestAt opens path history
  honest_before quiet front x rest is none = at front x (rest ++ e ∷ [])
      (ap (λ l. l ++ e ∷ []) is ∙ append_assoc front (x ∷ rest) (e ∷ []))
      (change_kept rest e path quiet ∙ none)

pub need_there : (needs : List Need) (path : List ℕ) (need : Need) → need_at needs path ≡ Some need
    → Contains needs need
need_there needs path need e = (found (λ (n : Need). bytes_eq n.path path) needs need e).1

module _ (opens : Opens) (o : Opening) (st : State) (history : List Entry)
    (r : IsRead opens o st history) (e : Entry) where
  abbrev next_history : List Entry
  next_history = history ++ e ∷ []

  -- a state with the same rows and needs
  all_kept : (next : State) → next.rows ≡ st.rows → next.needs ≡ st.needs → (path : List ℕ)
      → IsHonestAt opens path next_history → change_at e.line.gave e.line.did path ≡ None
      → AllRead opens o next next_history path
  all_kept next rows needs path at quiet row is =
      reads_kept opens o history e path st.needs next.needs row quiet
      (ap (λ n. need_at n path) needs)
      (r.reads path (honest_before opens history e path at quiet) row
      (ap (λ x. live x path) (sym rows) ∙ is))

  -- a value that was put or sealed anew at its path, elsewhere all is as before
  module _ (p : Publication) (own resource stored : List ℕ) (check : Option Check) (count : ℕ)
    where
      value_elsewhere : (path : List ℕ) → IsHonestAt opens path next_history
          → bytes_eq own path ≡ false
          → change_at e.line.gave e.line.did path ≡ None
          → AllRead opens o (with_value st p own resource stored check count) next_history path
      value_elsewhere path at other quiet row is =
          reads_kept opens o history e path st.needs
          (set_need st.needs (need_by p own resource)) row quiet
          (set_at st.needs (need_by p own resource) path
          ∙ ap (λ b. if b then Some (need_by p own resource) else need_at st.needs path) other)
          (r.reads path (honest_before opens history e path at quiet) row
          (sym (live_elsewhere st.rows (put_of own resource stored check) path other) ∙ is))

      value_here : (plain path : List ℕ) → IsPublished p
          → SeedOpens opens p.seeds (writer_at p resource) → IsSealing p resource own plain stored
          → bytes_eq own path ≡ true
          → IsContent opens o next_history path (Some (data_of plain))
          → AllRead opens o (with_value st p own resource stored check count) next_history path
      value_here plain path published opened sealing same content row is =
          let path_is = one_path own path same in
          let row_is = same_Some (put_row_at (1 + length st.rows) own resource stored check) row
          (sym (live_put st.rows own resource stored path check same) ∙ is) in
          reads_sealed opens o history e path p published resource plain stored opened
          (subst (λ q. IsSealing p resource q plain stored) path_is sealing)
          (set_need st.needs (need_by p own resource)) row
          (sym (ap (λ (x : stored_row.Row). x.resource) row_is))
          (sym (ap (λ (x : stored_row.Row). x.stored) row_is))
          (set_at st.needs (need_by p own resource) path
          ∙ ap (λ b. if b then Some (need_by p own resource) else need_at st.needs path) same
          ∙ ap (λ q. Some (need_by p q resource)) path_is)
          content

  -- a row that is replaced read as its content
  was_content : (path stored : List ℕ) (old : stored_row.Row) (p : Publication)
      → IsHonestAt opens path history → live st.rows path ≡ Some old → IsLive st p.rows
      → IsPublished p → (anew : SealsAnew opens p path old stored)
      → IsContent opens o history path (Some (data_of anew.plain))
  was_content path stored old p honest is lives published anew =
      let at = r.reads path honest old is in
      let need : Need = record { path = path; resource = old.resource; who = at.who } in
      (at.by_each (list_at p old.resource) (list_keeps p.rows published.kept old.resource)
      (r.sound.fit.stored p.rows need lives (need_there st.needs path need at.need))
      (data_of anew.plain)).0 anew.reads

  reads_after : Effect o st e → (path : List ℕ) → IsHonestAt opens path next_history
      → AllRead opens o (after st e) next_history path
  reads_after (stays quiet is) path at =
      all_kept (after st e) (ap (λ (s : State). s.rows) is) (ap (λ (s : State). s.needs) is) path
      at (quiet path)
  reads_after (adopts replica number current quiet is) path at =
      all_kept (after st e) (ap (λ (s : State). s.rows) is) (ap (λ (s : State). s.needs) is) path
      at (quiet path)
  reads_after (lets_go quiet is) path at =
      all_kept (after st e) (ap (λ (s : State). s.rows) is) (ap (λ (s : State). s.needs) is) path
      at (quiet path)
  reads_after (leaves replica quiet is) path at =
      all_kept (after st e) (ap (λ (s : State). s.rows) is) (ap (λ (s : State). s.needs) is) path
      at (quiet path)
  reads_after (gives replica p l published pass gave quiet is) path at =
      all_kept (after st e) (ap (λ (s : State). s.rows) is) (ap (λ (s : State). s.needs) is) path
      at (quiet path)
  reads_after (puts_value own resource plain stored p check h sealing opened changes is) path at =
      subst (λ (s : State). AllRead opens o s next_history path) (sym is)
      (by (bytes_eq own path) refl (changes path))
    where
      by : (b : Bool) → bytes_eq own path ≡ b
          → change_at e.line.gave e.line.did path
          ≡ (if bytes_eq own path then Some (puts plain) else None)
          → AllRead opens o (with_value st p own resource stored check e.line.faults) next_history
          path
      by true same c =
          let made = change_made history e path (puts plain)
          (c ∙ ap (λ b. if b then Some (puts plain) else None) same) in
          value_here p own resource stored check e.line.faults plain path
          (held_published o st e.line.seat p r.sound h)
          (opened opens (subst (λ q. WritesHonestly e.line.gave e.line.did opens q e)
          (sym (one_path own path same)) (honest_last opens history e path at))) sealing same
          (subst (λ x. ContentBy x opens o path (Some (data_of plain))) (sym made) refl)
      by false other c =
          value_elsewhere p own resource stored check e.line.faults path at other
          (c ∙ ap (λ b. if b then Some (puts plain) else None) other)
  reads_after (deletes_row own was changes is) path at =
      subst (λ (s : State). AllRead opens o s next_history path) (sym is)
      (by (bytes_eq own path) refl (changes path))
    where
      next : State
      next = record st {
        needs = drop_need st.needs own;
        rows = st.rows ++ delete_of own ∷ [];
        count = e.line.faults;
      }

      by : (b : Bool) → bytes_eq own path ≡ b
          → change_at e.line.gave e.line.did path
          ≡ (if bytes_eq own path then Some deletes else None)
          → AllRead opens o next next_history path
      by true same c row row_is = absurd (none-some row
          (sym (live_deleted st.rows own path same) ∙ row_is))
      by false other c row row_is =
          let quiet = c ∙ ap (λ b. if b then Some deletes else None) other in
          reads_kept opens o history e path st.needs (drop_need st.needs own) row quiet
          (drop_at_path st.needs own path r.sorted
          ∙ ap (λ b. if b then None else need_at st.needs path) other)
          (r.reads path (honest_before opens history e path at quiet) row
          (sym (live_elsewhere st.rows (delete_of own) path other) ∙ row_is))
  reads_after (replaces_value own stored old p check h was sealed gave quiet is) path at =
      subst (λ (s : State). AllRead opens o s next_history path) (sym is)
      (by (bytes_eq own path) refl)
    where
      by : (b : Bool) → bytes_eq own path ≡ b
          → AllRead opens o (with_value st p own old.resource stored check e.line.faults)
          next_history path
      by true same =
          let published = held_published o st e.line.seat p r.sound h in
          let back = sym (one_path own path same) in
          let g = gave opens (subst (λ q. WritesHonestly e.line.gave e.line.did opens q e) back
          (honest_last opens history e path at)) in
          let anew = g.0 in
          let before = was_content own stored old p (subst (λ q. IsHonestAt opens q history) back
          (honest_before opens history e path at (quiet path))) was
          (held_live st e.line.seat p h) published anew in
          value_here p own old.resource stored check e.line.faults anew.plain path published g.1
          anew.sealing same
          (subst (λ x. ContentBy x opens o path (Some (data_of anew.plain)))
          (sym (change_kept history e path (quiet path)))
          (subst (λ q. IsContent opens o history q (Some (data_of anew.plain)))
          (one_path own path same) before))
      by false other =
          value_elsewhere p own old.resource stored check e.line.faults path at other (quiet path)

  sorted_after : Effect o st e → AreByPath (after st e).needs
  sorted_after (stays quiet is) = subst (λ (s : State). AreByPath s.needs) (sym is) r.sorted
  sorted_after (adopts replica number at quiet is) =
      subst (λ (s : State). AreByPath s.needs) (sym is) r.sorted
  sorted_after (lets_go quiet is) = subst (λ (s : State). AreByPath s.needs) (sym is) r.sorted
  sorted_after (leaves replica quiet is) =
      subst (λ (s : State). AreByPath s.needs) (sym is) r.sorted
  sorted_after (gives replica p l published pass gave quiet is) =
      subst (λ (s : State). AreByPath s.needs) (sym is) r.sorted
  sorted_after (puts_value own resource plain stored p check h sealing opened changes is) =
      subst (λ (s : State). AreByPath s.needs) (sym is)
      (sorted_set st.needs (need_by p own resource) r.sorted)
  sorted_after (deletes_row own was changes is) =
      subst (λ (s : State). AreByPath s.needs) (sym is) (sorted_drop st.needs own r.sorted)
  sorted_after (replaces_value own stored old p check h was sealed gave quiet is) =
      subst (λ (s : State). AreByPath s.needs) (sym is)
      (sorted_set st.needs (need_by p own old.resource) r.sorted)

  read_after : IsStep o st e → IsRead opens o (after st e) next_history
  read_after s =
      let effect = effect_of o st e s in
      record {
        sound = sound_after o st r.sound e effect;
        sorted = sorted_after effect;
        reads = λ path. reads_after effect path;
      }

-- ---- histories

read_run : (opens : Opens) (o : Opening) (st : State) (before history : List Entry)
    → IsRead opens o st before → IsRun o st history
    → IsRead opens o (state_from st history) (before ++ history)
read_run opens o st before [] r run =
    subst (λ h. IsRead opens o st h) (sym (append-nil before)) r
read_run opens o st before (e ∷ history) r run =
    subst (λ h. IsRead opens o (state_from (after st e) history) h)
    (append_assoc before (e ∷ []) history)
    (read_run opens o (after st e) (before ++ e ∷ []) history
    (read_after opens o st before r e run.0) run.1)

pub history_read : (opens : Opens) (o : Opening) (history : List Entry) → IsLegal o history
    → IsRead opens o (state_of o history) history
history_read opens o history l = read_run opens o (start_of o) [] history (record {
  sound = start_sound o l.opens l.fit;
  sorted = needing.needs_sorted (first_of o) o.rows;
  reads = λ path at. opening_reads opens o path l.opens;
}) l.runs

pub live_reads : LiveReads
live_reads opens o history path row rows reading l honest is lives =
    let st = state_of o history in
    let r = history_read opens o history l in
    let at = r.reads path honest row is in
    let need : Need = record { path = path; resource = row.resource; who = at.who } in
    let g = rows_of_number st.generations lives.0 rows lives.2 in
    let k = subst (λ x. IsTrue (keeps x)) g.2 (r.sound.kept lives.0 g.0 g.1).kept in
    at.by_each (list_of rows row.resource) (list_keeps rows k row.resource)
    (r.sound.fit.stored rows need lives (need_there st.needs path need at.need)) reading
