-- Needs by their paths: what is found at a path, and that needs in order with the same finds are
-- the same.
use Rattle.std.proofs.Common.{◌≡◌, ℕ, ◌+◌, Bool, true, false, List, [], ◌∷◌, map, is_some, Option, None, Some, refl, sym, ap, subst, ◌∙◌}
use Rattle.std.specs.Prelude.{if◌then◌else◌}
use Rattle.std.specs.List.{AllByRecursion}
use Rattle.std.specs.List.Sorted.{IsStrictlySortedBy}
use Rattle.std.specs.Option.{option_map}
use Rattle.std.specs.Str.{bytes_eq}
use Rattle.std.specs.Ordering.{match_ordering, ordering_reverse, is_eq}
use Rattle.std.specs.declared.cmp.Ordering.{Ordering}
use Rattle.std.specs.declared.cmp.Ordering.TheVariants.{Less, Equal, Greater}
use Rattle.std.proofs.lemmas.Map.Text.{is_eq-slice_cmp}
use Rattle.std.proofs.lemmas.Slice.Eq.{bytes_eq-Decides}
use Rattle.std.proofs.lemmas.Cmp.{nat_list_cmp_total}
use Rattle.std.proofs.lemmas.Option.{none-some, same_Some}
use Rattle.kr_store.specs.declared.rows.LogRow.{LogRow}
use Rattle.kr_store.specs.declared.rows.Change.{Change}
use Rattle.kr_store.specs.declared.rows.Change.TheVariants as change
use Rattle.kr_store.specs.Rows.{later, latest_from, latest}
use Rattle.kr_config.specs.declared.who.Who.{Who}
use Rattle.kr_config.specs.Kept.{ConfigEntry}
use Rattle.kr_config.specs.Nexts.{name_cmp}
use Rattle.kr_judge.specs.declared.need.Need.{Need}
use Rattle.kr_judge.specs.Boards.{AreByPath, set_need}
use Rattle.kr_judge.proofs.Needs.{sorted_nil, sorted_set}
use Rattle.kr_opening.specs.Needs.{provider_of, need_of, with_need, needs_of}

-- the need of a path
abbrev pub need_at : List Need → List ℕ → Option Need
need_at [] path = None
need_at (need ∷ needs) path = if bytes_eq need.path path then Some need else need_at needs path

pub same_path : (a b : List ℕ) → bytes_eq a b ≡ true → a ≡ b
same_path a b h = (bytes_eq-Decides a b).0 h

pub own_path : (a : List ℕ) → bytes_eq a a ≡ true
own_path a = (bytes_eq-Decides a a).1 refl

-- the order and the test
pub equal_by : (a b : List ℕ) → name_cmp a b ≡ Equal → bytes_eq a b ≡ true
equal_by a b h = sym (is_eq-slice_cmp a b) ∙ ap is_eq h

pub unequal_less : (a b : List ℕ) → name_cmp a b ≡ Less → bytes_eq b a ≡ false
unequal_less a b h = sym (is_eq-slice_cmp b a)
    ∙ ap is_eq (nat_list_cmp_total.antisymm b a ∙ ap ordering_reverse h)

unequal_greater : (a b : List ℕ) → name_cmp a b ≡ Greater → bytes_eq b a ≡ false
unequal_greater a b h = sym (is_eq-slice_cmp b a)
    ∙ ap is_eq (nat_list_cmp_total.antisymm b a ∙ ap ordering_reverse h)

-- ---- a need that is set

abbrev either : {X : Type 0} → Bool → X → X → X
either b x y = if b then x else y

pub set_found : (needs : List Need) (need : Need) (path : List ℕ)
    → need_at (set_need needs need) path ≡ (if bytes_eq need.path path then Some need else need_at
    needs path)
set_found [] need path = refl
set_found (own ∷ needs) need path = by (name_cmp need.path own.path) refl
    (set_found needs need path)
  where
    twice : (b : Bool) → bytes_eq own.path path ≡ b → bytes_eq need.path path ≡ b
        → need_at (need ∷ needs) path ≡ (if bytes_eq need.path path then Some need else need_at
        (own ∷ needs) path)
    twice true o n = ap (λ b. either b (Some need) (need_at needs path)) n
        ∙ sym (ap (λ b. either b (Some need) (need_at (own ∷ needs) path)) n)
    twice false o n = ap (λ b. either b (Some need) (need_at needs path)) n
        ∙ sym (ap (λ b. either b (Some need) (need_at (own ∷ needs) path)) n
        ∙ ap (λ b. either b (Some own) (need_at needs path)) o)

    further : (b c : Bool) → bytes_eq own.path path ≡ b → bytes_eq need.path path ≡ c
        → (bytes_eq own.path need.path ≡ false)
        → need_at (set_need needs need) path ≡
        (if bytes_eq need.path path then Some need else need_at needs path)
        → need_at (own ∷ set_need needs need) path
        ≡ (if bytes_eq need.path path then Some need else need_at (own ∷ needs) path)
    further true true o n apart rest =
        let same : own.path ≡ need.path = same_path own.path path o
        ∙ sym (same_path need.path path n) in
        let clash : bytes_eq own.path need.path ≡ true =
        subst (λ p. bytes_eq own.path p ≡ true) same (own_path own.path) in cc
    further true false o n apart rest = ap (λ b. either b (Some own)
        (need_at (set_need needs need) path)) o
        ∙ sym (ap (λ b. either b (Some need) (need_at (own ∷ needs) path)) n
        ∙ ap (λ b. either b (Some own) (need_at needs path)) o)
    further false true o n apart rest = ap (λ b. either b (Some own)
        (need_at (set_need needs need) path)) o ∙ rest
        ∙ ap (λ b. either b (Some need) (need_at needs path)) n
        ∙ sym (ap (λ b. either b (Some need) (need_at (own ∷ needs) path)) n)
    further false false o n apart rest = ap
        (λ b. either b (Some own) (need_at (set_need needs need) path)) o ∙ rest
        ∙ ap (λ b. either b (Some need) (need_at needs path)) n
        ∙ sym (ap (λ b. either b (Some need) (need_at (own ∷ needs) path)) n
        ∙ ap (λ b. either b (Some own) (need_at needs path)) o)

    by : (r : Ordering) → name_cmp need.path own.path ≡ r
        → need_at (set_need needs need) path ≡
        (if bytes_eq need.path path then Some need else need_at needs path)
        → need_at (match_ordering r (need ∷ own ∷ needs) (need ∷ needs) (own ∷ set_need needs need))
        path
        ≡ (if bytes_eq need.path path then Some need else need_at (own ∷ needs) path)
    by Less h rest = refl
    by Equal h rest = twice (bytes_eq need.path path)
        (ap (λ p. bytes_eq p path) (sym (same_path need.path own.path
        (equal_by need.path own.path h)))) refl
    by Greater h rest = further (bytes_eq own.path path) (bytes_eq need.path path) refl refl
        (unequal_greater need.path own.path h) rest

-- ---- needs in order are known by what is found

abbrev Above : List ℕ → List Need → Type 0
Above path needs = AllByRecursion (λ other. name_cmp path other ≡ Less)
    (map (λ need. need.path) needs)

none_above : (path : List ℕ) (needs : List Need) → Above path needs → need_at needs path ≡ None
none_above path [] all = refl
none_above path (need ∷ needs) all = ap (λ b. either b (Some need) (need_at needs path))
    (unequal_less path need.path all.0) ∙ none_above path needs all.1

above_further : (path other : List ℕ) (needs : List Need) → name_cmp path other ≡ Less
    → Above other needs → Above path needs
above_further path other [] h all = tt
above_further path other (own ∷ needs) h all =
    (nat_list_cmp_total.trans path other own.path h all.0, above_further path other needs h all.1)

first_found : (need : Need) (needs : List Need) → need_at (need ∷ needs) need.path ≡ Some need
first_found need needs = ap (λ b. either b (Some need) (need_at needs need.path))
    (own_path need.path)

-- the needs behind the first one
rest_found : (need : Need) (needs : List Need) (path : List ℕ) → bytes_eq need.path path ≡ false
    → need_at (need ∷ needs) path ≡ need_at needs path
rest_found need needs path e = ap (λ b. either b (Some need) (need_at needs path)) e

lesser_first : (a b : Need) (xs ys : List Need) → name_cmp a.path b.path ≡ Less → Above b.path ys
    → need_at (b ∷ ys) a.path ≡ need_at (a ∷ xs) a.path → ⊥
lesser_first a b xs ys h above e = none-some a
    (sym (rest_found b ys a.path (unequal_less a.path b.path h)
    ∙ none_above a.path ys (above_further a.path b.path ys h above)) ∙ e ∙ first_found a xs)

pub same_needs : (xs ys : List Need) → AreByPath xs → AreByPath ys
    → ((path : List ℕ) → need_at xs path ≡ need_at ys path) → xs ≡ ys
unfolding IsStrictlySortedBy
same_needs [] [] s t e = refl
same_needs [] (b ∷ ys) s t e = absurd (none-some b (e b.path ∙ first_found b ys))
same_needs (a ∷ xs) [] s t e = absurd (none-some a (sym (e a.path) ∙ first_found a xs))
same_needs (a ∷ xs) (b ∷ ys) s t e = by (name_cmp a.path b.path) refl (same_needs xs ys s.1 t.1)
  where
    tail : a ≡ b → (path : List ℕ) → (v : Bool) → bytes_eq a.path path ≡ v
        → need_at xs path ≡ need_at ys path
    tail same path true h =
        let p : a.path ≡ path = same_path a.path path h in
        subst (λ q. need_at xs q ≡ need_at ys q) p
        (none_above a.path xs s.0 ∙ sym (subst (λ (n : Need). need_at ys n.path ≡ None) (sym same)
        (none_above b.path ys t.0)))
    tail same path false h = sym (rest_found a xs path h) ∙ e path
        ∙ rest_found b ys path (subst (λ (n : Need). bytes_eq n.path path ≡ false) same h)

    by : (r : Ordering) → name_cmp a.path b.path ≡ r
        → (((path : List ℕ) → need_at xs path ≡ need_at ys path) → xs ≡ ys) → a ∷ xs ≡ b ∷ ys
    by Less h again = absurd (lesser_first a b xs ys h t.0 (sym (e a.path)))
    by Greater h again = absurd (lesser_first b a ys xs (nat_list_cmp_total.antisymm b.path a.path
        ∙ ap ordering_reverse h) s.0 (e b.path))
    by Equal h again =
        let p : a.path ≡ b.path = same_path a.path b.path (equal_by a.path b.path h) in
        let same : a ≡ b = same_Some a b (sym (first_found a xs) ∙ e a.path
        ∙ subst (λ q. need_at (b ∷ ys) q ≡ Some b) (sym p) (first_found b ys)) in
        let rest = again (λ path. tail same path (bytes_eq a.path path) refl) in
        (λ i. same i ∷ rest i)

-- ---- the needs of rows

-- the last row of a path, whatever its number
abbrev pub last_row : List LogRow → List ℕ → Option LogRow
last_row rows path = option_map (λ found. found.1) (latest rows path)

-- what a path needs
abbrev pub needed : List ConfigEntry → Option LogRow → Option Need
needed first None = None
needed first (Some row) = need_of first row.path row.change

abbrev later_row : Option LogRow → Bool → LogRow → Option LogRow
later_row (Some found) b row = Some found
later_row None b row = if b then Some row else None

-- numbers don't matter
numberless : (k : ℕ) (rows : List LogRow) (path : List ℕ)
    → option_map (λ (found : ℕ × LogRow). found.1) (latest_from k rows path) ≡ last_row rows path
numberless k [] path = refl
numberless k (row ∷ rows) path = step k ∙ ap (λ l. later_row l (bytes_eq row.path path) row)
    (numberless (k + 1) rows path)
    ∙ sym (step 1 ∙ ap (λ l. later_row l (bytes_eq row.path path) row) (numberless 2 rows path))
  where
    by : (k : ℕ) (l : Option (ℕ × LogRow)) (b : Bool)
        → option_map (λ (found : ℕ × LogRow). found.1) (later l (if b then Some (k, row) else None))
        ≡ later_row (option_map (λ found. found.1) l) b row
    by k (Some found) b = refl
    by k None true = refl
    by k None false = refl

    step : (k : ℕ) → option_map (λ (found : ℕ × LogRow). found.1) (latest_from k (row ∷ rows) path)
        ≡ later_row (option_map (λ found. found.1) (latest_from (k + 1) rows path))
        (bytes_eq row.path path) row
    step k = by k (latest_from (k + 1) rows path) (bytes_eq row.path path)

last_step : (row : LogRow) (rows : List LogRow) (path : List ℕ)
    → last_row (row ∷ rows) path ≡ later_row (last_row rows path) (bytes_eq row.path path) row
last_step row rows path = by (latest_from 2 rows path) (bytes_eq row.path path)
    ∙ ap (λ l. later_row l (bytes_eq row.path path) row) (numberless 2 rows path)
  where
    by : (l : Option (ℕ × LogRow)) (b : Bool)
        → option_map (λ (found : ℕ × LogRow). found.1) (later l (if b then Some (1, row) else None))
        ≡ later_row (option_map (λ found. found.1) l) b row
    by (Some found) b = refl
    by None true = refl
    by None false = refl

some_last : (rows : List LogRow) (path : List ℕ) (v : Bool) → is_some (latest rows path) ≡ v
    → is_some (last_row rows path) ≡ v
some_last rows path v e = by (latest rows path) e
  where
    by : (l : Option (ℕ × LogRow)) → is_some l ≡ v
        → is_some (option_map (λ (found : ℕ × LogRow). found.1) l) ≡ v
    by (Some found) e = e
    by None e = e

need_path : (first : List ConfigEntry) (path : List ℕ) (c : Change) (need : Need)
    → need_of first path c ≡ Some need → need.path ≡ path
need_path first path (change.Put resource stored check) need e = by (provider_of first resource stored) e
  where
    by : (who : Option Who) → option_map (λ who. record {
      path = path;
      resource = resource;
      who =
          who;
    }) who ≡ Some need → need.path ≡ path
    by (Some who) e = sym (ap (λ (n : Need). n.path) (same_Some _ need e))
    by None e = absurd (none-some need e)
need_path first path change.Delete need e = absurd (none-some need e)

with_found : (o : Option Need) (needs : List Need) (own path : List ℕ)
    → ((need : Need) → o ≡ Some need → need.path ≡ own)
    → need_at needs own ≡ None → need_at (with_need o needs) path
    ≡ (if bytes_eq own path then o else need_at needs path)
with_found None needs own path at none = by (bytes_eq own path) refl
  where
    by : (v : Bool) → bytes_eq own path ≡ v
        → need_at needs path ≡ (if v then None else need_at needs path)
    by true h = subst (λ p. need_at needs p ≡ None) (same_path own path h) none
    by false h = refl
with_found (Some need) needs own path at none = set_found needs need path
    ∙ ap (λ p. either (bytes_eq p path) (Some need) (need_at needs path)) (at need refl)

pub needs_found : (first : List ConfigEntry) (rows : List LogRow) (path : List ℕ)
    → need_at (needs_of first rows) path ≡ needed first (last_row rows path)
needs_found first [] path = refl
needs_found first (row ∷ rows) path = by (is_some (latest rows row.path)) refl
    (needs_found first rows) ∙ sym (ap (needed first) (last_step row rows path))
  where
    here : (l : Option LogRow) → is_some l ≡ true
        → needed first l ≡ needed first (later_row l (bytes_eq row.path path) row)
    here (Some found) e = refl
    here None e = cc

    elsewhere : (l : Option LogRow) → needed first l ≡ needed first (later_row l false row)
    elsewhere (Some found) = refl
    elsewhere None = refl

    none_is : (l : Option LogRow) → is_some l ≡ false → l ≡ None
    none_is (Some found) e = cc
    none_is None e = refl

    superseded : (v : Bool) → bytes_eq row.path path ≡ v → is_some (last_row rows row.path) ≡ true
        → needed first (last_row rows path) ≡ needed first (later_row (last_row rows path) v row)
    superseded true h e = subst (λ p. needed first (last_row rows p)
        ≡ needed first (later_row (last_row rows p) true row)) (same_path row.path path h)
        (stands (last_row rows row.path) e)
      where
        stands : (l : Option LogRow) → is_some l ≡ true
            → needed first l ≡ needed first (later_row l true row)
        stands (Some found) e = refl
        stands None e = cc
    superseded false h e = elsewhere (last_row rows path)

    last : (v : Bool) → bytes_eq row.path path ≡ v → is_some (last_row rows row.path) ≡ false
        → (if v then need_of first row.path row.change else needed first (last_row rows path))
        ≡ needed first (later_row (last_row rows path) v row)
    last true h e = sym (ap (λ l. needed first (later_row l true row))
        (ap (last_row rows) (sym (same_path row.path path h)) ∙ none_is (last_row rows row.path) e))
    last false h e = elsewhere (last_row rows path)

    by : (v : Bool) → is_some (latest rows row.path) ≡ v
        → ((p : List ℕ) → need_at (needs_of first rows) p ≡ needed first (last_row rows p))
        → need_at (if v then needs_of first rows else with_need (need_of first row.path row.change)
        (needs_of first rows)) path
        ≡ needed first (later_row (last_row rows path) (bytes_eq row.path path) row)
    by true e again = again path ∙ superseded (bytes_eq row.path path) refl
        (some_last rows row.path true e)
    by false e again =
        with_found (need_of first row.path row.change) (needs_of first rows) row.path path
        (need_path first row.path row.change)
        (again row.path ∙ ap (needed first) (none_is (last_row rows row.path)
        (some_last rows row.path false e)))
        ∙ ap (λ r. either (bytes_eq row.path path) (need_of first row.path row.change) r)
        (again path)
        ∙ last (bytes_eq row.path path) refl (some_last rows row.path false e)

with_sorted : (o : Option Need) (needs : List Need) → AreByPath needs
    → AreByPath (with_need o needs)
with_sorted None needs s = s
with_sorted (Some need) needs s = sorted_set needs need s

pub needs_sorted : (first : List ConfigEntry) (rows : List LogRow) → AreByPath (needs_of first rows)
needs_sorted first [] = sorted_nil
needs_sorted first (row ∷ rows) = by (is_some (latest rows row.path)) (needs_sorted first rows)
  where
    by : (v : Bool) → AreByPath (needs_of first rows)
        → AreByPath (if v then needs_of first rows else with_need
        (need_of first row.path row.change) (needs_of first rows))
    by true s = s
    by false s = with_sorted (need_of first row.path row.change) (needs_of first rows) s
