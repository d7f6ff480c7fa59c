-- Going through the live rows by paths: what stands on the board, and that the walk ends.
use Rattle.std.proofs.Common.{◌≡◌, ◌≢◌, ℕ, zero, suc, ◌<◌, ◌≤◌, ◌+◌, Bool, true, false, cond, List, [], ◌∷◌, ◌++◌, get_or, count_by, is_some, Option, None, Some, Ok, Err, IsSome, refl, sym, ap, subst, ◌∙◌, arith, ◌⊎◌, inl, inr}
use Rattle.std.specs.Prelude.{if◌then◌else◌}
use Rattle.std.specs.List.{slice_get}
use Rattle.std.specs.Option.{option_map}
use Rattle.std.specs.Str.{bytes_eq}
use Rattle.std.specs.Ordering.{is_lt, ordering_reverse}
use Rattle.std.proofs.lemmas.Bool.{both_ways}
use Rattle.std.specs.declared.cmp.Ordering.{Ordering}
use Rattle.std.specs.declared.cmp.Ordering.TheVariants.{Less, Equal, Greater}
use Rattle.std.proofs.lemmas.Cmp.{nat_list_cmp_total}
use Rattle.std.proofs.lemmas.List.Sums.{sum_by-cons}
use Rattle.std.proofs.lemmas.Option.{none-some, same_Some}
use Rattle.kr_base.specs.Rules.{IsPath}
use Rattle.kr_config.specs.Lists.{list_of}
use Rattle.kr_kms.proofs.Lent.{found_at, no_place}
use Rattle.kr_provider.specs.Readers.{is_reader, reader_in, reader_place}
use Rattle.kr_store.specs.declared.format.Format.{Format}
use Rattle.kr_store.specs.declared.rows.LogRow.{LogRow}
use Rattle.kr_store.specs.declared.rows.Row as stored_row
use Rattle.kr_store.specs.declared.rows.Change.{Change}
use Rattle.kr_store.specs.declared.rows.Change.TheVariants as change
use Rattle.kr_store.specs.Rows.{latest, live, live_row, row_of, AllFollow, AreRows}
use Rattle.kr_store.specs.Stores.{IsNext}
use Rattle.kr_config.specs.declared.who.Who.{Who}
use Rattle.kr_config.specs.Kept.{ConfigEntry}
use Rattle.kr_config.specs.Nexts.{name_cmp}
use Rattle.kr_judge.specs.declared.need.Need.{Need}
use Rattle.kr_judge.specs.Boards.{AreByPath, BoardState, set_need}
use Rattle.kr_judge.proofs.Needs.{sorted_nil, sorted_set}
use Rattle.kr_opening.specs.declared.opening_board.StartNo.{StartNo}
use Rattle.kr_opening.specs.declared.opening_board.StartNo.TheVariants.{Stray, NoMemory}
use Rattle.kr_opening.specs.Checks.{keeps_check}
use Rattle.kr_opening.specs.inner.OpeningBoards.{IsStrayOf, Notes, NotesAll, first_other, no_other}
use Rattle.kr_opening.specs.Needs.{provider_of, need_of, needs_of, HasNoStray, IsOtherSecret}
use Rattle.kr_opening.specs.Starts.{IsStray, IsLeastStray, IsLeastOther}
use Rattle.kr_opening.proofs.LastRows.{last_at}
use Rattle.kr_opening.proofs.Needing.{need_at, set_found, equal_by, same_path, own_path, last_row, needed, needs_found, needs_sorted, same_needs}

-- what a live row needs
abbrev pub live_need : List ConfigEntry → stored_row.Row → Option Need
live_need first row = option_map (λ who. record {
  path = row.path;
  resource = row.resource;
  who =
      who;
}) (provider_of first row.resource row.stored)

-- the live rows up to a path are noted, and no path is that has no live row
pub record AreNoted (first : List ConfigEntry) (rows : List LogRow) (after : List ℕ)
    (needs : List Need) : Type 0 where
  pub sorted : AreByPath needs
  pub here : (path : List ℕ) (row : stored_row.Row) → live rows path ≡ Some row
      → name_cmp after path ≢ Less
      → (need_at needs path ≡ live_need first row)
      × IsSome (provider_of first row.resource row.stored)
  pub none : (path : List ℕ) → live rows path ≡ None → need_at needs path ≡ None

-- ---- paths of rows

follows_at : (format : Format) (before rows : List LogRow) (place : ℕ) (row : LogRow)
    → AllFollow format before rows
    → slice_get rows place ≡ Some row → IsPath row.path
follows_at format before [] place row f e = absurd (none-some row e)
follows_at format before (first ∷ rows) zero row f e =
    subst (λ (r : LogRow). IsPath r.path) (same_Some first row e) f.0.path
follows_at format before (first ∷ rows) (suc place) row f e =
    follows_at format (before ++ first ∷ []) rows place row f.1 e

pub path_of_live : (format : Format) (rows : List LogRow) (path : List ℕ) (row : stored_row.Row)
    → AreRows format rows
    → live rows path ≡ Some row → IsPath path
path_of_live format rows path row f e = by (latest rows path) refl e
  where
    by : (l : Option (ℕ × LogRow)) → latest rows path ≡ l → live_row l ≡ Some row → IsPath path
    by None is e = absurd (none-some row e)
    by (Some found) is e =
        let a = last_at 1 rows path found is in
        subst IsPath (same_path found.1.path path a.same)
        (follows_at format [] rows a.place found.1 f a.is)

no_empty_path : IsPath [] → ⊥
no_empty_path p = omega (arith, p.0)

not_above_empty : (path : List ℕ) → name_cmp [] path ≢ Less → path ≡ []
not_above_empty [] n = refl
not_above_empty (byte ∷ path) n = absurd (n refl)

-- ---- the walk

pub noted_begin : (format : Format) (first : List ConfigEntry) (rows : List LogRow) → AreRows format rows
    → AreNoted first rows [] []
noted_begin format first rows f = record {
  sorted = sorted_nil;
  here = λ path row e n. absurd (no_empty_path
      (subst IsPath (not_above_empty path n) (path_of_live format rows path row f e)));
  none = λ path e. refl;
}

some_live : (rows : List LogRow) (path : List ℕ) (row : stored_row.Row) → live rows path ≡ Some row
    → IsSome (live rows path)
some_live rows path row e = ap is_some e

-- between the row before and this one there is no live row
between : (rows : List LogRow) (after path : List ℕ) (row own : stored_row.Row)
    → IsNext rows after (Some row) → live rows path ≡ Some own
    → name_cmp row.path path ≢ Less → bytes_eq row.path path ≡ false → name_cmp after path ≢ Less
between rows after path row own next e n h l = by (name_cmp path row.path) refl
  where
    by : (r : Ordering) → name_cmp path row.path ≡ r → ⊥
    by Less c = next.2 path (some_live rows path own e) l c
    by Equal c =
        let same : bytes_eq row.path path ≡ true =
        subst (λ q. bytes_eq row.path q ≡ true)
        (sym (same_path path row.path (equal_by path row.path c))) (own_path row.path) in
        both_ways (bytes_eq row.path path) h same
    by Greater c = n (nat_list_cmp_total.antisymm row.path path ∙ ap ordering_reverse c)

module _ (first : List ConfigEntry) (rows : List LogRow) (after : List ℕ) (needs : List Need)
    (row : stored_row.Row) (who : Who) where
  set_at : (path : List ℕ) (v : Bool) → bytes_eq row.path path ≡ v
      → need_at (set_need needs (record { path = row.path; resource = row.resource; who = who }))
      path ≡ (if v then Some (record { path = row.path; resource = row.resource; who = who })
      else need_at needs path)
  set_at path v h = set_found needs (record { path = row.path; resource = row.resource; who = who })
      path
      ∙ ap (λ b. if b then Some (record { path = row.path; resource = row.resource; who = who })
      else need_at needs path) h

  here_more : AreNoted first rows after needs → IsNext rows after (Some row)
      → provider_of first row.resource row.stored ≡ Some who
      → (path : List ℕ) (own : stored_row.Row) → live rows path ≡ Some own
      → name_cmp row.path path ≢ Less → (v : Bool) → bytes_eq row.path path ≡ v
      → (need_at (set_need needs (record { path = row.path; resource = row.resource; who = who }))
      path ≡ live_need first own)
      × IsSome (provider_of first own.resource own.stored)
  here_more noted next is path own e n true h =
      let same : row ≡ own = same_Some row own (sym next.1
      ∙ ap (live rows) (same_path row.path path h) ∙ e) in
      subst (λ (r : stored_row.Row). (need_at
      (set_need needs (record { path = row.path; resource = row.resource; who = who })) path
      ≡ live_need first r)
      × IsSome (provider_of first r.resource r.stored)) same (
        set_at path true h ∙ sym (ap (option_map
            (λ w. record { path = row.path; resource = row.resource; who = w })) is),
        ap is_some is,
      )
  here_more noted next is path own e n false h =
      let old = noted.here path own e (between rows after path row own next e n h) in
      (set_at path false h ∙ old.0, old.1)

  none_more : AreNoted first rows after needs → IsNext rows after (Some row) → (path : List ℕ)
      → live rows path ≡ None → (v : Bool) → bytes_eq row.path path ≡ v
      → need_at (set_need needs (record { path = row.path; resource = row.resource; who = who }))
      path ≡ None
  none_more noted next path e true h = absurd
      (none-some row (sym e ∙ ap (live rows) (sym (same_path row.path path h)) ∙ next.1))
  none_more noted next path e false h = set_at path false h ∙ noted.none path e

pub noted_more : (first : List ConfigEntry) (rows : List LogRow) (after : List ℕ) (needs : List Need)
    (row : stored_row.Row) (who : Who) → AreNoted first rows after needs
    → IsNext rows after (Some row) → provider_of first row.resource row.stored ≡ Some who
    → AreNoted first rows row.path (set_need needs
    (record { path = row.path; resource = row.resource; who = who }))
noted_more first rows after needs row who noted next is = record {
  sorted = sorted_set needs (record { path = row.path; resource = row.resource; who = who })
      noted.sorted;
  here = λ path own e n. here_more first rows after needs row who noted next is path own e n
      (bytes_eq row.path path) refl;
  none = λ path e. none_more first rows after needs row who noted next path e
      (bytes_eq row.path path) refl;
}

-- a row without a provider is the first such one
pub stray_next : (first : List ConfigEntry) (rows : List LogRow) (after : List ℕ) (needs : List Need)
    (row : stored_row.Row) → AreNoted first rows after needs
    → IsNext rows after (Some row) → provider_of first row.resource row.stored ≡ None
    → IsLeastStray first rows row.path
stray_next first rows after needs row noted next none = record {
  stray = (row, next.1, none);
  least = λ lesser stray l. missing lesser stray
      (λ c. next.2 lesser (some_live rows lesser stray.0 stray.1) c l);
}
  where
    missing : (lesser : List ℕ) → IsStray first rows lesser → name_cmp after lesser ≢ Less → ⊥
    missing lesser stray n =
        let old = noted.here lesser stray.0 stray.1 n in
        let both : is_some (provider_of first stray.0.resource stray.0.stored) ≡ false =
        ap is_some stray.2 in
        both_ways (is_some (provider_of first stray.0.resource stray.0.stored)) both old.1

-- what the last row of a path needs is what its live row needs
live_last : (first : List ConfigEntry) (rows : List LogRow) (path : List ℕ) (row : stored_row.Row)
    → live rows path ≡ Some row → needed first (last_row rows path) ≡ live_need first row
live_last first rows path row e = by (latest rows path) e
  where
    put : (n : ℕ) (path : List ℕ) (c : Change) → row_of n path c ≡ Some row
        → need_of first path c ≡ live_need first row
    put n path (change.Put resource stored check) e = ap (live_need first) (same_Some _ row e)
    put n path change.Delete e = absurd (none-some row e)

    by : (l : Option (ℕ × LogRow)) → live_row l ≡ Some row
        → needed first (option_map (λ found. found.1) l) ≡ live_need first row
    by None e = absurd (none-some row e)
    by (Some found) e = put found.0 found.1.path found.1.change e

dead_last : (first : List ConfigEntry) (rows : List LogRow) (path : List ℕ) → live rows path ≡ None
    → needed first (last_row rows path) ≡ None
dead_last first rows path e = by (latest rows path) e
  where
    put : (n : ℕ) (path : List ℕ) (c : Change) → row_of n path c ≡ None
        → need_of first path c ≡ None
    put n path (change.Put resource stored check) e = absurd (none-some _ (sym e))
    put n path change.Delete e = refl

    by : (l : Option (ℕ × LogRow)) → live_row l ≡ None
        → needed first (option_map (λ found. found.1) l) ≡ None
    by None e = refl
    by (Some found) e = put found.0 found.1.path found.1.change e

option_cases : {X : Type 0} (o : Option X) → (o ≡ None) ⊎ ((x : X) × (o ≡ Some x))
option_cases None = inl refl
option_cases (Some x) = inr (x, refl)

all_up : (rows : List LogRow) (after path : List ℕ) (row : stored_row.Row) → IsNext rows after None
    → live rows path ≡ Some row → name_cmp after path ≢ Less
all_up rows after path row next e = next path (some_live rows path row e)

-- after the last live row all are noted
pub noted_end : (first : List ConfigEntry) (rows : List LogRow) (after : List ℕ) (needs : List Need)
    → AreNoted first rows after needs → IsNext rows after None
    → HasNoStray first rows × (needs ≡ needs_of first rows)
noted_end first rows after needs noted next = (
  λ path row e. (noted.here path row e (all_up rows after path row next e)).1,
  same_needs needs (needs_of first rows) noted.sorted (needs_sorted first rows)
      (λ path. at path (option_cases (live rows path)) ∙ sym (needs_found first rows path)),
)
  where
    at : (path : List ℕ) → (live rows path ≡ None) ⊎
        ((row : stored_row.Row) × (live rows path ≡ Some row))
        → need_at needs path ≡ needed first (last_row rows path)
    at path (inl e) = noted.none path e ∙ sym (dead_last first rows path e)
    at path (inr f) = (noted.here path f.0 f.1 (all_up rows after path f.0 next f.1)).0
        ∙ sym (live_last first rows path f.0 f.1)

-- ---- the measure: how many rows have a greater path

abbrev pub left_after : List ℕ → List LogRow → ℕ
left_after after rows = count_by (λ row. is_lt (name_cmp after row.path)) rows

module _ {X : Type 0} (p q : X → Bool) (fewer : (x : X) → q x ≡ true → p x ≡ true) where
  unit_le : (x : X) → cond (q x) 1 0 ≤ cond (p x) 1 0
  unit_le x = by (q x) refl
    where
      by : (v : Bool) → q x ≡ v → cond v 1 0 ≤ cond (p x) 1 0
      by true e = subst (λ b. 1 ≤ cond b 1 0) (sym (fewer x e)) (omega arith)
      by false e = omega arith

  -- one element more
  counts_more : (x : X) (xs : List X)
      → (count_by q (x ∷ xs) ≡ cond (q x) 1 0 + count_by q xs)
      × (count_by p (x ∷ xs) ≡ cond (p x) 1 0 + count_by p xs)
  counts_more x xs =
      (sum_by-cons (λ y. cond (q y) 1 0) x xs, sum_by-cons (λ y. cond (p y) 1 0) x xs)

  count_le : (xs : List X) → count_by q xs ≤ count_by p xs
  count_le [] = omega arith
  count_le (x ∷ xs) =
      let more = counts_more x xs in omega (arith, more.0, more.1, unit_le x, count_le xs)

  pub count_less : (xs : List X) (i : ℕ) (x : X) → slice_get xs i ≡ Some x → p x ≡ true
      → q x ≡ false → count_by q xs < count_by p xs
  count_less [] i x e h n = absurd (none-some x e)
  count_less (y ∷ ys) zero x e h n =
      let s : y ≡ x = same_Some y x e in
      let a = ap {B = ℕ} (λ b. cond b 1 0) (ap p s ∙ h) in
      let b = ap {B = ℕ} (λ b. cond b 1 0) (ap q s ∙ n) in
      let more = counts_more y ys in omega (arith, more.0, more.1, a, b, count_le ys)
  count_less (y ∷ ys) (suc i) x e h n =
      let more = counts_more y ys in
      omega (arith, more.0, more.1, unit_le y, count_less ys i x e h n)

pub lt_is : (a b : List ℕ) → is_lt (name_cmp a b) ≡ true → name_cmp a b ≡ Less
lt_is a b e = by (name_cmp a b) e
  where
    by : (r : Ordering) → is_lt r ≡ true → r ≡ Less
    by Less e = refl
    by Equal e = cc
    by Greater e = cc

pub itself : (path : List ℕ) → is_lt (name_cmp path path) ≡ false
itself path = by (name_cmp path path) (nat_list_cmp_total.antisymm path path)
  where
    by : (r : Ordering) → r ≡ ordering_reverse r → is_lt r ≡ false
    by Less e = cc
    by Equal e = refl
    by Greater e = refl

pub goes_on : (rows : List LogRow) (after : List ℕ) (row : stored_row.Row)
    → IsNext rows after (Some row) → left_after row.path rows < left_after after rows
goes_on rows after row next = by (latest rows row.path) refl next.1
  where
    further : (other : LogRow) → is_lt (name_cmp row.path other.path) ≡ true
        → is_lt (name_cmp after other.path) ≡ true
    further other e = ap is_lt (nat_list_cmp_total.trans after row.path other.path next.0
        (lt_is row.path other.path e))

    by : (l : Option (ℕ × LogRow)) → latest rows row.path ≡ l → live_row l ≡ Some row
        → left_after row.path rows < left_after after rows
    by None is e = absurd (none-some row e)
    by (Some found) is e =
        let a = last_at 1 rows row.path found is in
        let p : found.1.path ≡ row.path = same_path found.1.path row.path a.same in
        count_less (λ r. is_lt (name_cmp after r.path))
        (λ r. is_lt (name_cmp row.path r.path)) further rows a.place found.1 a.is
        (ap (λ q. is_lt (name_cmp after q)) p ∙ ap is_lt next.0)
        (ap (λ q. is_lt (name_cmp row.path q)) p ∙ itself row.path)

-- ---- the reader of a value, by its place

pub reader_is : (first : List ConfigEntry) (list : List Who) (resource bytes : List ℕ) (place : ℕ)
    (who : Who) → list ≡ list_of first resource → reader_place list bytes ≡ Some place
    → who ≡ get_or list place who → provider_of first resource bytes ≡ Some who
reader_is first list resource bytes place who l e is = ap (λ ws. reader_in ws bytes) (sym l)
    ∙ found_at (is_reader bytes) list place who e is

pub reader_none : (first : List ConfigEntry) (list : List Who) (resource bytes : List ℕ)
    → list ≡ list_of first resource → reader_place list bytes ≡ None
    → provider_of first resource bytes ≡ None
reader_none first list resource bytes l e = ap (λ ws. reader_in ws bytes) (sym l)
    ∙ no_place (is_reader bytes) list e

-- what is said of a row that has no provider
pub note_stray : (first : List ConfigEntry) (row : stored_row.Row) (b : BoardState) (path : List ℕ)
    (why : StartNo) → IsStrayOf path why → path ≡ row.path
    → provider_of first row.resource row.stored ≡ None
    → Notes first row b b (Err why)
note_stray first row b path (Stray own) s e none = (s ∙ e, none)
note_stray first row b path NoMemory s e none = tt
note_stray first row b path other s e none = absurd s

-- ---- the first other secret

-- up to a path no live row has another secret, or this one is the first that has
abbrev pub AreKept : List ConfigEntry → List LogRow → List ℕ → Option (List ℕ) → Type 0
AreKept first rows after None = (path : List ℕ) → IsOtherSecret first rows path
    → name_cmp after path ≢ Less → ⊥
AreKept first rows after (Some path) = IsLeastOther first rows path

pub kept_begin : (format : Format) (first : List ConfigEntry) (rows : List LogRow) → AreRows format rows
    → AreKept first rows [] None
kept_begin format first rows f path other n = no_empty_path
    (subst IsPath (not_above_empty path n) (path_of_live format rows path other.0 f other.2))

module _ (first : List ConfigEntry) (rows : List LogRow) (after : List ℕ) (row : stored_row.Row)
    (who : Who) (next : IsNext rows after (Some row))
    (is : provider_of first row.resource row.stored ≡ Some who) where
  -- a row that has its provider's check isn't one with another secret
  own_kept : keeps_check row.check who ≡ true → IsOtherSecret first rows row.path → ⊥
  own_kept kept other =
      let same : row ≡ other.0 = same_Some row other.0 (sym next.1 ∙ other.2) in
      let writers : who ≡ other.1 = same_Some who other.1 (sym is
      ∙ ap (λ (r : stored_row.Row). provider_of first r.resource r.stored) same ∙ other.3) in
      both_ways (keeps_check other.0.check other.1) other.4
      (subst (λ (r : stored_row.Row). keeps_check r.check other.1 ≡ true) same
      (subst (λ w. keeps_check row.check w ≡ true) writers kept))

  kept_more : keeps_check row.check who ≡ true → AreKept first rows after None
      → AreKept first rows row.path None
  kept_more kept old path other n = by (bytes_eq row.path path) refl
    where
      by : (v : Bool) → bytes_eq row.path path ≡ v → ⊥
      by true h = own_kept kept
          (subst (λ p. IsOtherSecret first rows p) (sym (same_path row.path path h)) other)
      by false h = old path other (between rows after path row other.0 next other.2 n h)

  other_next : keeps_check row.check who ≡ false → AreKept first rows after None
      → IsLeastOther first rows row.path
  other_next kept old = record {
    other = (row, who, next.1, is, kept);
    least = λ lesser other l. old lesser other
        (λ c. next.2 lesser (some_live rows lesser other.0 other.2) c l);
  }

  pub kept_step : (found : Option (List ℕ)) (kept : Bool) → kept ≡ keeps_check row.check who
      → AreKept first rows after found → AreKept first rows row.path (first_other found kept row.path)
  kept_step (Some path) kept e old = old
  kept_step None true e old = kept_more (sym e) old
  kept_step None false e old = other_next (sym e) old

-- after the last live row
pub kept_end : (first : List ConfigEntry) (rows : List LogRow) (after : List ℕ) (found : Option (List ℕ))
    (start now : BoardState) → AreKept first rows after found → IsNext rows after None
    → HasNoStray first rows → now ≡ record start { needs = needs_of first rows }
    → NotesAll first rows start now (no_other found)
kept_end first rows after None start now kept next none e = (
  none,
  λ path other. kept path other (all_up rows after path other.0 next other.2),
  e,
)
kept_end first rows after (Some path) start now kept next none e = (none, kept)

-- why the walk ends before its end
pub note_stops : (first : List ConfigEntry) (rows : List LogRow) (start now next : BoardState)
    (after asked : List ℕ) (row seen : stored_row.Row) (why : StartNo)
    → AreNoted first rows after now.needs → IsNext rows asked (Some row) → asked ≡ after
    → seen ≡ row → Notes first seen now next (Err why) → NotesAll first rows start next (Err why)
note_stops first rows start now next after asked row seen (Stray path) noted is asked_is seen_is n =
    let m = subst (λ (r : stored_row.Row). Notes first r now next (Err (Stray path))) seen_is n in
    subst (λ p. IsLeastStray first rows p) (sym m.0)
    (stray_next first rows after now.needs row noted
    (subst (λ p. IsNext rows p (Some row)) asked_is is) m.1)
note_stops first rows start now next after asked row seen NoMemory noted is asked_is seen_is n = tt
note_stops first rows start now next after asked row seen other noted is asked_is seen_is n = absurd n

-- ---- the loop

-- what the board has so far, and where another secret was found first
abbrev pub IsWalked : List ConfigEntry → List LogRow → BoardState → List ℕ → BoardState
    → Option (List ℕ) → Type 0
IsWalked first rows start after now found = AreNoted first rows after now.needs
    × (now ≡ record start { needs = now.needs }) × AreKept first rows after found

pub walk_step : (first : List ConfigEntry) (rows : List LogRow) (start now next : BoardState)
    (after path asked shown : List ℕ) (row seen : stored_row.Row) (kept : Bool)
    (found other : Option (List ℕ)) → IsWalked first rows start after now found
    → IsNext rows asked (Some row) → asked ≡ after → seen ≡ row
    → Notes first seen now next (Ok kept) → other ≡ first_other found kept shown
    → shown ≡ row.path → path ≡ row.path → IsWalked first rows start path next other
walk_step first rows start now next after path asked shown row seen kept found other walked is
    asked_is seen_is notes other_is shown_is path_is =
    let n = subst (λ (r : stored_row.Row). Notes first r now next (Ok kept)) seen_is notes in
    let here = subst (λ p. IsNext rows p (Some row)) asked_is is in
    let needs = set_need now.needs (record { path = row.path; resource = row.resource; who = n.0 })
    in
    let needs_is : next.needs ≡ needs = ap (λ (b : BoardState). b.needs) n.3 in
    let more = noted_more first rows after now.needs row n.0 walked.0 here n.1 in (
      subst (λ p. AreNoted first rows p next.needs) (sym path_is)
          (subst (λ m. AreNoted first rows row.path m) (sym needs_is) more),
      n.3 ∙ ap (λ (b : BoardState). record b { needs = needs }) walked.1
          ∙ ap (λ m. record start { needs = m }) (sym needs_is),
      subst (λ p. AreKept first rows p other) (sym path_is)
          (subst (AreKept first rows row.path)
          (sym (other_is ∙ ap (first_other found kept) shown_is))
          (kept_step first rows after row n.0 here n.1 found kept n.2 walked.2)),
    )
