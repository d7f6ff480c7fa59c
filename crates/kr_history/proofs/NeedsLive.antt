-- What is needed is what lives: the provider that reads the path's live row.
use Rattle.std.proofs.Common.{◌≡◌, ℕ, Bool, true, false, List, [], ◌∷◌, ◌++◌, Option, None, Some, refl, sym, ap, subst, ◌∙◌, IsTrue}
use Rattle.std.specs.Prelude.{if◌then◌else◌}
use Rattle.std.specs.Option.{option_map}
use Rattle.std.specs.Str.{bytes_eq}
use Rattle.std.proofs.lemmas.Option.{none-some}
use Rattle.kr_store.specs.declared.format.Check.{Check}
use Rattle.kr_store.specs.declared.rows.LogRow.{LogRow}
use Rattle.kr_store.specs.declared.rows.Change.{Change}
use Rattle.kr_store.specs.declared.rows.Change.TheVariants as change
use Rattle.kr_store.specs.declared.rows.Row as stored_row
use Rattle.kr_store.specs.Rows.{latest, live, live_row, row_of, put_of, delete_of}
use Rattle.kr_store.proofs.Places.{live_at_revision}
use Rattle.kr_config.specs.Kept.{ConfigEntry, keeps}
use Rattle.kr_config.specs.Lists.{list_of}
use Rattle.kr_provider.specs.Publication.{Publication, writer_at}
use Rattle.kr_provider.specs.Readers.{is_reader}
use Rattle.kr_provider.specs.Sealing.{IsSealing}
use Rattle.kr_provider.proofs.Rivals.{one_reader}
use Rattle.kr_provider.proofs.SealedReads.{value_is, is_read}
use Rattle.kr_judge.specs.declared.need.Need.{Need}
use Rattle.kr_judge.specs.Boards.{AreByPath, need_at, set_need, drop_need}
use Rattle.kr_judge.proofs.Needs.{sorted_set, sorted_drop, set_at, drop_at_path}
use Rattle.kr_rollout.specs.declared.opening.Entry.{Entry}
use Rattle.kr_rollout.specs.declared.opening.Opening.{Opening}
use Rattle.kr_rollout.specs.States.{State}
use Rattle.kr_rollout.specs.Openings.{first_of, start_of, IsOpening}
use Rattle.kr_opening.specs.Needs.{provider_of, need_of, needs_of}
use Rattle.kr_rollout.specs.Steps.{after}
use Rattle.kr_rollout.specs.Histories.{state_from, state_of, IsRun, IsLegal}
use Rattle.kr_history.specs.FitLaws.{IsNeedOf, NeedsAreLive, LiveIsReadable}
use Rattle.kr_opening.proofs.Needing as needing
use Rattle.kr_history.proofs.Effects.{Effect, stays, adopts, lets_go, leaves, gives, puts_value, deletes_row, replaces_value, need_by, with_value, effect_of}
use Rattle.kr_history.proofs.Sound.{rows_of_number}
use Rattle.kr_history.proofs.Fitting.{legal_sound}
use Rattle.kr_history.proofs.ContentSteps.{live_elsewhere, live_deleted, live_put, one_path}
use Rattle.kr_history.proofs.ContentReads.{found, same_needs, row_needed, some_who, list_keeps, need_there}

-- needs are in the order of their paths, and each is that of its path's live row
pub record AreNeeded (st : State) : Type 0 where
  pub sorted : AreByPath st.needs
  pub each : (path : List ℕ) → IsNeedOf path (live st.rows path) (need_at st.needs path)

-- ---- the opening

none_needed : (first : List ConfigEntry) (rows : List LogRow) (path : List ℕ) → live rows path ≡ None
    → needing.needed first (needing.last_row rows path) ≡ None
none_needed first rows path is = by (latest rows path) is
  where
    of_change : (n : ℕ) (own : List ℕ) (c : Change) → row_of n own c ≡ None
        → need_of first own c ≡ None
    of_change n own change.Delete e = refl
    of_change n own (change.Put resource stored check) e = absurd (none-some _ (sym e))

    by : (l : Option (ℕ × LogRow)) → live_row l ≡ None
        → needing.needed first (option_map (λ found. found.1) l) ≡ None
    by None e = refl
    by (Some at) e = of_change at.0 at.1.path at.1.change e

opening_need : (o : Opening) (path : List ℕ) → IsOpening o
    → IsNeedOf path (live o.rows path) (need_at (needs_of (first_of o) o.rows) path)
opening_need o path opening = by (live o.rows path) refl
  where
    need_is : need_at (needs_of (first_of o) o.rows) path
        ≡ needing.needed (first_of o) (needing.last_row o.rows path)
    need_is = same_needs (needs_of (first_of o) o.rows) path
        ∙ needing.needs_found (first_of o) o.rows path

    by : (l : Option stored_row.Row) → live o.rows path ≡ l
        → IsNeedOf path l (need_at (needs_of (first_of o) o.rows) path)
    by None is = need_is ∙ none_needed (first_of o) o.rows path is
    by (Some row) is =
        let who = some_who (provider_of (first_of o) row.resource row.stored)
        (opening.readable path row is) in
        let path_is = (live_at_revision o.rows path row is).1 in (
          who.0,
          need_is ∙ row_needed (first_of o) o.rows path row who.0 is who.1
              ∙ ap (λ q. Some (record { path = q; resource = row.resource; who = who.0 }))
              path_is,
          (found (is_reader row.stored) (list_of (first_of o) row.resource) who.0 who.1).0,
        )

-- ---- one entry

sealing_reader : (p : Publication) (resource path plain stored : List ℕ)
    → IsSealing p resource path plain stored
    → is_reader stored (writer_at p resource) ≡ true
sealing_reader p resource path plain stored s =
    is_read p.seeds (writer_at p resource) path plain s.drawn stored
    (value_is p.seeds (writer_at p resource) path plain s.drawn stored s.is)

module _ (st : State) (n : AreNeeded st) where
  needed_value : (p : Publication) (own resource plain stored : List ℕ) (check : Option Check)
      (count : ℕ) → IsSealing p resource own plain stored
      → AreNeeded (with_value st p own resource stored check count)
  needed_value p own resource plain stored check count sealing = record {
    sorted = sorted_set st.needs (need_by p own resource) n.sorted;
    each = λ path. by path (bytes_eq own path) refl;
  }
    where
      by : (path : List ℕ) (b : Bool) → bytes_eq own path ≡ b
          → IsNeedOf path (live (st.rows ++ put_of own resource stored check ∷ []) path)
          (need_at (set_need st.needs (need_by p own resource)) path)
      by path true same =
          let path_is = one_path own path same in
          subst (λ l. IsNeedOf path l (need_at (set_need st.needs (need_by p own resource)) path))
          (sym (live_put st.rows own resource stored path check same)) (
            writer_at p resource,
            set_at st.needs (need_by p own resource) path
                ∙ ap (λ b. if b then Some (need_by p own resource) else need_at st.needs path)
                same
                ∙ ap (λ q. Some (need_by p q resource)) path_is,
            sealing_reader p resource own plain stored sealing,
          )
      by path false other =
          subst (λ l. IsNeedOf path l (need_at (set_need st.needs (need_by p own resource)) path))
          (sym (live_elsewhere st.rows (put_of own resource stored check) path other))
          (subst (IsNeedOf path (live st.rows path))
          (sym (set_at st.needs (need_by p own resource) path
          ∙ ap (λ b. if b then Some (need_by p own resource) else need_at st.needs path) other))
          (n.each path))

  needed_deleted : (own : List ℕ) (count : ℕ) → AreNeeded (record st {
    needs = drop_need st.needs own;
    rows = st.rows ++ delete_of own ∷ [];
    count = count;
  })
  needed_deleted own count = record {
    sorted = sorted_drop st.needs own n.sorted;
    each = λ path. by path (bytes_eq own path) refl;
  }
    where
      by : (path : List ℕ) (b : Bool) → bytes_eq own path ≡ b
          → IsNeedOf path (live (st.rows ++ delete_of own ∷ []) path)
          (need_at (drop_need st.needs own) path)
      by path true same =
          subst (λ l. IsNeedOf path l (need_at (drop_need st.needs own) path))
          (sym (live_deleted st.rows own path same))
          (drop_at_path st.needs own path n.sorted
          ∙ ap (λ b. if b then None else need_at st.needs path) same)
      by path false other =
          subst (λ l. IsNeedOf path l (need_at (drop_need st.needs own) path))
          (sym (live_elsewhere st.rows (delete_of own) path other))
          (subst (IsNeedOf path (live st.rows path))
          (sym (drop_at_path st.needs own path n.sorted
          ∙ ap (λ b. if b then None else need_at st.needs path) other))
          (n.each path))

  needed_same : (next : State) → next.rows ≡ st.rows → next.needs ≡ st.needs → AreNeeded next
  needed_same next rows needs = record {
    sorted = subst AreByPath (sym needs) n.sorted;
    each = λ path. subst (λ m. IsNeedOf path (live next.rows path) (need_at m path)) (sym needs)
        (subst (λ r. IsNeedOf path (live r path) (need_at st.needs path)) (sym rows)
        (n.each path));
  }

  needed_after : (o : Opening) (e : Entry) → Effect o st e → AreNeeded (after st e)
  needed_after o e (stays quiet is) =
      needed_same (after st e) (ap (λ (s : State). s.rows) is) (ap (λ (s : State). s.needs) is)
  needed_after o e (adopts replica number at quiet is) =
      needed_same (after st e) (ap (λ (s : State). s.rows) is) (ap (λ (s : State). s.needs) is)
  needed_after o e (lets_go quiet is) =
      needed_same (after st e) (ap (λ (s : State). s.rows) is) (ap (λ (s : State). s.needs) is)
  needed_after o e (leaves replica quiet is) =
      needed_same (after st e) (ap (λ (s : State). s.rows) is) (ap (λ (s : State). s.needs) is)
  needed_after o e (gives replica p l published pass gave quiet is) =
      needed_same (after st e) (ap (λ (s : State). s.rows) is) (ap (λ (s : State). s.needs) is)
  needed_after o e (puts_value own resource plain stored p check h sealing opened changes is) =
      subst AreNeeded (sym is)
      (needed_value p own resource plain stored check e.line.faults sealing)
  needed_after o e (deletes_row own was changes is) =
      subst AreNeeded (sym is) (needed_deleted own e.line.faults)
  needed_after o e (replaces_value own stored old p check h was sealed gave quiet is) =
      subst AreNeeded (sym is)
      (needed_value p own old.resource sealed.plain stored check e.line.faults sealed.sealing)

-- ---- histories

needed_run : (o : Opening) (st : State) (history : List Entry) → AreNeeded st
    → IsRun o st history → AreNeeded (state_from st history)
needed_run o st [] n r = n
needed_run o st (e ∷ history) n r =
    needed_run o (after st e) history (needed_after st n o e (effect_of o st e r.0)) r.1

pub needed_of : (o : Opening) (history : List Entry) → IsLegal o history
    → AreNeeded (state_of o history)
needed_of o history l = needed_run o (start_of o) history (record {
  sorted = needing.needs_sorted (first_of o) o.rows;
  each = λ path. opening_need o path l.opens;
}) l.runs

pub needs_are_live : NeedsAreLive
needs_are_live o history path l = (needed_of o history l).each path

pub live_is_readable : LiveIsReadable
live_is_readable o history path row rows l is lives =
    let st = state_of o history in
    let sound = legal_sound o history l in
    let n = subst (λ r. IsNeedOf path r (need_at st.needs path)) is
    (needs_are_live o history path l) in
    let need : Need = record { path = path; resource = row.resource; who = n.0 } in
    let g = rows_of_number st.generations lives.0 rows lives.2 in
    let k = subst (λ x. IsTrue (keeps x)) g.2 (sound.kept lives.0 g.0 g.1).kept in (
      n.0,
      n.1,
      one_reader row.stored (list_of rows row.resource) n.0 (list_keeps rows k row.resource) n.2
          (sound.fit.stored rows need lives (need_there st.needs path need n.1)),
    )
