-- Contents and rows, one entry at a time.
use Rattle.std.proofs.Common.{◌≡◌, ℕ, suc, ◌+◌, Bool, true, false, List, [], ◌∷◌, ◌++◌, length, Option, None, Some, refl, sym, ap, subst, ◌∙◌, arith, append-nil}
use Rattle.std.proofs.lemmas.List.{append_assoc}
use Rattle.std.specs.Prelude.{◌↔◌, if◌then◌else◌}
use Rattle.std.specs.Str.{bytes_eq}
use Rattle.std.proofs.lemmas.Option.{none-some}
use Rattle.std.proofs.lemmas.Slice.Eq.{bytes_eq-Decides}
use Rattle.kr_store.specs.declared.format.Check.{Check}
use Rattle.kr_store.specs.declared.rows.LogRow.{LogRow}
use Rattle.kr_store.specs.declared.rows.Row as stored_row
use Rattle.kr_store.specs.Rows.{later, latest_from, latest, live, live_row, put_of, delete_of}
use Rattle.kr_config.specs.Kept.{ConfigEntry}
use Rattle.kr_kms.specs.Opens.{Opens}
use Rattle.kr_provider.specs.Reading.{Reading, data_of}
use Rattle.kr_provider.proofs.OneReading as readings
use Rattle.kr_rollout.specs.declared.opening.Entry.{Entry}
use Rattle.kr_rollout.specs.declared.opening.Opening.{Opening}
use Rattle.kr_rollout.specs.States.{State}
use Rattle.kr_rollout.specs.Openings.{first_of, start_of}
use Rattle.kr_rollout.specs.Steps.{after}
use Rattle.kr_rollout.specs.Histories.{state_from, IsRun}
use Rattle.kr_history.specs.Contents.{ContentChange, puts, deletes, change_at, last_change, OpeningContent, ContentBy, IsContent}
use Rattle.kr_history.specs.ContentLaws.{OneContent, NothingIsAbsent}
use Rattle.kr_history.proofs.Effects.{Effect, stays, adopts, lets_go, leaves, gives, puts_value, deletes_row, replaces_value, effect_of}

-- ---- what comes later

later_none : {X : Type 0} (a : Option X) → later a None ≡ a
later_none None = refl
later_none (Some x) = refl

later_later : {X : Type 0} (a b c : Option X) → later (later a b) c ≡ later a (later b c)
later_later None b c = refl
later_later (Some x) b c = refl

pub change_more : (history : List Entry) (e : Entry) (path : List ℕ)
    → last_change (history ++ e ∷ []) path
    ≡ later (change_at e.line.gave e.line.did path) (last_change history path)
change_more [] e path = sym (later_none (change_at e.line.gave e.line.did path))
change_more (first ∷ history) e path =
    ap (λ l. later l (change_at first.line.gave first.line.did path))
    (change_more history e path)
    ∙ later_later (change_at e.line.gave e.line.did path) (last_change history path)
    (change_at first.line.gave first.line.did path)

pub change_kept : (history : List Entry) (e : Entry) (path : List ℕ)
    → change_at e.line.gave e.line.did path ≡ None
    → last_change (history ++ e ∷ []) path ≡ last_change history path
change_kept history e path n = change_more history e path
    ∙ ap (λ c. later c (last_change history path)) n

pub change_made : (history : List Entry) (e : Entry) (path : List ℕ) (c : ContentChange)
    → change_at e.line.gave e.line.did path ≡ Some c
    → last_change (history ++ e ∷ []) path ≡ Some c
change_made history e path c n = change_more history e path
    ∙ ap (λ x. later x (last_change history path)) n

-- ---- rows

abbrev own_row : ℕ → LogRow → Bool → Option (ℕ × LogRow)
own_row k row b = if b then Some (k, row) else None

latest_more : (k : ℕ) (rows : List LogRow) (row : LogRow) (path : List ℕ)
    → latest_from k (rows ++ row ∷ []) path
    ≡ later (own_row (k + length rows) row (bytes_eq row.path path)) (latest_from k rows path)
latest_more k [] row path = sym (later_none (own_row (k + 0) row (bytes_eq row.path path))
    ∙ ap (λ n. own_row n row (bytes_eq row.path path)) (omega arith))
latest_more k (first ∷ rows) row path =
    let size : k + 1 + length rows ≡ k + suc (length rows) = omega arith in
    ap (λ l. later l (own_row k first (bytes_eq first.path path)))
    (latest_more (k + 1) rows row path)
    ∙ later_later (own_row (k + 1 + length rows) row (bytes_eq row.path path))
    (latest_from (k + 1) rows path) (own_row k first (bytes_eq first.path path))
    ∙ ap (λ n. later (own_row n row (bytes_eq row.path path))
    (latest_from k (first ∷ rows) path)) size

abbrev live_by : LogRow → ℕ → Bool → Option (ℕ × LogRow) → Option stored_row.Row
live_by row k b before = live_row (later (own_row k row b) before)

live_more : (rows : List LogRow) (row : LogRow) (path : List ℕ)
    → live (rows ++ row ∷ []) path
    ≡ live_by row (1 + length rows) (bytes_eq row.path path) (latest rows path)
live_more rows row path = ap live_row (latest_more 1 rows row path)

pub live_elsewhere : (rows : List LogRow) (row : LogRow) (path : List ℕ)
    → bytes_eq row.path path ≡ false → live (rows ++ row ∷ []) path ≡ live rows path
live_elsewhere rows row path e = live_more rows row path
    ∙ ap (λ b. live_by row (1 + length rows) b (latest rows path)) e

pub live_deleted : (rows : List LogRow) (path own : List ℕ) → bytes_eq path own ≡ true
    → live (rows ++ delete_of path ∷ []) own ≡ None
live_deleted rows path own e = live_more rows (delete_of path) own
    ∙ ap (λ b. live_by (delete_of path) (1 + length rows) b (latest rows own)) e

abbrev pub put_row_at : ℕ → (path resource stored : List ℕ) → Option Check → stored_row.Row
put_row_at revision path resource stored check = record {
  path = path;
  resource = resource;
  revision = revision;
  stored = stored;
  check = check;
}

pub live_put : (rows : List LogRow) (path resource stored own : List ℕ) (check : Option Check)
    → bytes_eq path own ≡ true
    → live (rows ++ put_of path resource stored check ∷ []) own
    ≡ Some (put_row_at (1 + length rows) path resource stored check)
live_put rows path resource stored own check e =
    live_more rows (put_of path resource stored check) own
    ∙ ap (λ b. live_by (put_of path resource stored check) (1 + length rows) b
    (latest rows own)) e

pub one_path : (a b : List ℕ) → bytes_eq a b ≡ true → a ≡ b
one_path a b e = (bytes_eq-Decides a b).0 e

-- ---- one content

opening_once : (opens : Opens) (first : List ConfigEntry) (path : List ℕ) (row : Option stored_row.Row)
    (a b : Option Reading)
    → OpeningContent opens first path row a → OpeningContent opens first path row b → a ≡ b
opening_once opens first path None a b x y = x ∙ sym y
opening_once opens first path (Some row) a b x y =
    x.2 ∙ ap Some (readings.one_reading opens _ path row.stored x.0 y.0 x.1 y.1) ∙ sym y.2

content_once : (change : Option ContentChange) (opens : Opens) (o : Opening) (path : List ℕ)
    (a b : Option Reading)
    → ContentBy change opens o path a → ContentBy change opens o path b → a ≡ b
content_once (Some (puts plain)) opens o path a b x y = x ∙ sym y
content_once (Some deletes) opens o path a b x y = x ∙ sym y
content_once None opens o path a b x y =
    opening_once opens (first_of o) path (live o.rows path) a b x y

pub one_content : OneContent
one_content opens o history path a b x y = content_once (last_change history path) opens o path a b
    x y

-- ---- nothing

-- there is nothing where no row is live
abbrev IsAlike : Opens → Opening → List LogRow → List Entry → List ℕ → Type 0
IsAlike opens o rows history path = IsContent opens o history path None ↔ (live rows path ≡ None)

alike_opening : (opens : Opens) (first : List ConfigEntry) (path : List ℕ) (row : Option stored_row.Row)
    → OpeningContent opens first path row None ↔ (row ≡ None)
alike_opening opens first path None = ((λ x. refl), (λ x. refl))
alike_opening opens first path (Some row) = (
  (λ x. absurd (none-some x.0 x.2)),
  (λ x. absurd (none-some row (sym x))),
)

module _ (opens : Opens) (o : Opening) (history : List Entry) (e : Entry) (path : List ℕ) where
  alike_kept : (rows next : List LogRow) → change_at e.line.gave e.line.did path ≡ None
      → live next path ≡ live rows path → IsAlike opens o rows history path
      → IsAlike opens o next (history ++ e ∷ []) path
  alike_kept rows next n same a =
      subst (λ l. ContentBy l opens o path None ↔ (live next path ≡ None))
      (sym (change_kept history e path n))
      (subst (λ r. IsContent opens o history path None ↔ (r ≡ None)) (sym same) a)

  alike_put : (next : List LogRow) (plain : List ℕ) (row : stored_row.Row)
      → change_at e.line.gave e.line.did path ≡ Some (puts plain) → live next path ≡ Some row
      → IsAlike opens o next (history ++ e ∷ []) path
  alike_put next plain row c is =
      subst (λ l. ContentBy l opens o path None ↔ (live next path ≡ None))
      (sym (change_made history e path (puts plain) c)) (
        (λ x. absurd (none-some (data_of plain) x)),
        (λ x. absurd (none-some row (sym x ∙ is))),
      )

  alike_deleted : (next : List LogRow) → change_at e.line.gave e.line.did path ≡ Some deletes
      → live next path ≡ None → IsAlike opens o next (history ++ e ∷ []) path
  alike_deleted next c is =
      subst (λ l. ContentBy l opens o path None ↔ (live next path ≡ None))
      (sym (change_made history e path deletes c)) ((λ x. is), (λ x. refl))

  -- a row that is replaced was live
  alike_replaced : (rows next : List LogRow) (old new : stored_row.Row)
      → change_at e.line.gave e.line.did path ≡ None → live rows path ≡ Some old
      → live next path ≡ Some new → IsAlike opens o rows history path
      → IsAlike opens o next (history ++ e ∷ []) path
  alike_replaced rows next old new n was is a =
      subst (λ l. ContentBy l opens o path None ↔ (live next path ≡ None))
      (sym (change_kept history e path n)) (
        (λ x. absurd (none-some old (sym (a.0 x) ∙ was))),
        (λ x. absurd (none-some new (sym x ∙ is))),
      )

module _ (opens : Opens) (o : Opening) (st : State) (history : List Entry) (e : Entry)
    (path : List ℕ) (a : IsAlike opens o st.rows history path) where
  abbrev Next : List LogRow → Type 0
  Next rows = IsAlike opens o rows (history ++ e ∷ []) path

  alike_same : (next : State) → next.rows ≡ st.rows → after st e ≡ next
      → change_at e.line.gave e.line.did path ≡ None → Next (after st e).rows
  alike_same next rows is n = alike_kept opens o history e path st.rows (after st e).rows n
      (ap (λ (s : State). live s.rows path) is ∙ ap (λ r. live r path) rows) a

  alike_after : Effect o st e → Next (after st e).rows
  alike_after (stays quiet is) = alike_same _ refl is (quiet path)
  alike_after (adopts replica number at quiet is) = alike_same _ refl is (quiet path)
  alike_after (lets_go quiet is) = alike_same _ refl is (quiet path)
  alike_after (leaves replica quiet is) = alike_same _ refl is (quiet path)
  alike_after (gives replica p l published pass honest quiet is) =
      alike_same _ refl is (quiet path)
  alike_after (puts_value own resource plain stored p check h sealing opened changes is) =
      subst (λ (s : State). Next s.rows) (sym is)
      (by (bytes_eq own path) refl (changes path))
    where
      next : List LogRow
      next = st.rows ++ put_of own resource stored check ∷ []

      by : (b : Bool) → bytes_eq own path ≡ b
          → change_at e.line.gave e.line.did path
          ≡ (if bytes_eq own path then Some (puts plain) else None) → Next next
      by true same c = alike_put opens o history e path next plain
          (put_row_at (1 + length st.rows) own resource stored check)
          (c ∙ ap (λ b. if b then Some (puts plain) else None) same)
          (live_put st.rows own resource stored path check same)
      by false other c = alike_kept opens o history e path st.rows next
          (c ∙ ap (λ b. if b then Some (puts plain) else None) other)
          (live_elsewhere st.rows (put_of own resource stored check) path other) a
  alike_after (deletes_row own live_is changes is) =
      subst (λ (s : State). Next s.rows) (sym is)
      (by (bytes_eq own path) refl (changes path))
    where
      next : List LogRow
      next = st.rows ++ delete_of own ∷ []

      by : (b : Bool) → bytes_eq own path ≡ b
          → change_at e.line.gave e.line.did path
          ≡ (if bytes_eq own path then Some deletes else None) → Next next
      by true same c = alike_deleted opens o history e path next
          (c ∙ ap (λ b. if b then Some deletes else None) same)
          (live_deleted st.rows own path same)
      by false other c = alike_kept opens o history e path st.rows next
          (c ∙ ap (λ b. if b then Some deletes else None) other)
          (live_elsewhere st.rows (delete_of own) path other) a
  alike_after (replaces_value own stored old p check h was sealed honest quiet is) =
      subst (λ (s : State). Next s.rows) (sym is) (by (bytes_eq own path) refl)
    where
      next : List LogRow
      next = st.rows ++ put_of own old.resource stored check ∷ []

      by : (b : Bool) → bytes_eq own path ≡ b → Next next
      by true same = alike_replaced opens o history e path st.rows next old
          (put_row_at (1 + length st.rows) own old.resource stored check) (quiet path)
          (ap (live st.rows) (sym (one_path own path same)) ∙ was)
          (live_put st.rows own old.resource stored path check same) a
      by false other = alike_kept opens o history e path st.rows next (quiet path)
          (live_elsewhere st.rows (put_of own old.resource stored check) path other) a

alike_run : (opens : Opens) (o : Opening) (st : State) (before history : List Entry)
    (path : List ℕ) → IsAlike opens o st.rows before path → IsRun o st history
    → IsAlike opens o (state_from st history).rows (before ++ history) path
alike_run opens o st before [] path a r =
    subst (λ h. IsAlike opens o st.rows h path) (sym (append-nil before)) a
alike_run opens o st before (e ∷ history) path a r =
    subst (λ h. IsAlike opens o (state_from (after st e) history).rows h path)
    (append_assoc before (e ∷ []) history)
    (alike_run opens o (after st e) (before ++ e ∷ []) history path
    (alike_after opens o st before e path a (effect_of o st e r.0)) r.1)

pub nothing_is_absent : NothingIsAbsent
nothing_is_absent opens o history path l =
    alike_run opens o (start_of o) [] history path
    (alike_opening opens (first_of o) path (live o.rows path)) l.runs
