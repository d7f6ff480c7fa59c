-- Listings: the live rows by their paths, and how many they are.
use Rattle.std.proofs.Common.{◌≡◌, ℕ, suc, zero, ◌⊎◌, ◌-◌, ◌<◌, true, false, cond, List, [], ◌∷◌, length, map, get_or, Option, None, Some, is_some, IsSome, refl, sym, ◌∙◌, ap, subst, arith, inl, inr, All, Contains}
use Rattle.std.specs.Ordering.{nat_cmp, is_eq, ordering_reverse}
use Rattle.std.specs.declared.cmp.Ordering.{Ordering}
use Rattle.std.specs.declared.cmp.Ordering.TheVariants.{Less, Equal, Greater}
use Rattle.std.specs.Cmp.Lexicographic.{slice_cmp}
use Rattle.std.specs.List.{AllByRecursion}
use Rattle.std.specs.List.Sorted.{IsStrictlySortedBy}
use Rattle.std.specs.Option.{unwrap_or}
use Rattle.std.specs.Map.{keys_of, lookup}
use Rattle.std.proofs.lemmas.Cmp.{nat_list_cmp_total}
use Rattle.std.proofs.lemmas.List.{length-map, get_or-map}
use Rattle.std.proofs.lemmas.List.Elements.{All-map, All-cons, All-nil, All-head, All-tail, All-contains, Contains-append_right}
use Rattle.std.proofs.lemmas.Map.Lookups.{exact_bytes}
use Rattle.std.proofs.lemmas.Map.Views.{All-after_first}
use Rattle.std.proofs.lemmas.Map.Keys.{sorted_tail}
use Rattle.std.proofs.lemmas.Option.{same_Some, none-some}
use Rattle.kr_base.specs.Rules.{IsPath}
use Rattle.kr_store.specs.declared.format.Format.{Format}
use Rattle.kr_store.specs.declared.index.Index.{Index}
use Rattle.kr_store.specs.declared.rows.Row.{Row}
use Rattle.kr_store.specs.declared.rows.LogRow.{LogRow}
use Rattle.kr_store.specs.Rows.{latest, live, live_row, AreRows}
use Rattle.kr_store.specs.Stores.{IsListing, IsLiveCount}
use Rattle.kr_store.specs.Laws.{OneListing, FollowEachOther, NextsAreListing}
use Rattle.kr_store.specs.inner.Index.{IsIndexOf, live_at, gone_at}
use Rattle.kr_paths.specs.Paths as paths
use Rattle.kr_store.proofs.Entries.{found_at}
use Rattle.kr_store.proofs.Indexes.{some_live}
use Rattle.kr_store.proofs.Places.{live_at_revision, found_in, follows_at}
use Rattle.kr_store.proofs.Written.{was_live}

abbrev pub path_cmp : List ℕ → List ℕ → Ordering
path_cmp = slice_cmp nat_cmp

pub contains_mapped : {X Y : Type 0} (f : X → Y) (xs : List X) (x : X) → Contains xs x
    → Contains (map f xs) (f x)
contains_mapped f xs x c = (
  c.0,
  omega (arith, c.1, length-map xs f),
  get_or-map f xs c.0 x (f x) c.1 ∙ ap f c.2,
)

-- rows in order, with the same rows in them, are the same

abbrev pub paths_of : List Row → List (List ℕ)
paths_of listing = map (λ row. row.path) listing

abbrev pub AreSorted : List Row → Type 0
AreSorted listing = IsStrictlySortedBy path_cmp (paths_of listing)

pub both_less : (p q : List ℕ) → path_cmp p q ≡ Less → path_cmp q p ≡ Less → ⊥
both_less p q l m =
    let x : Less ≡ Greater = sym l ∙ nat_list_cmp_total.antisymm p q ∙ ap ordering_reverse m in cc

-- a row behind the first one has a greater path
pub first_below : (x : Row) (more : List Row) (row : Row) → AreSorted (x ∷ more) → Contains more row
    → path_cmp x.path row.path ≡ Less
first_below x more row s c =
    All-contains (λ q. path_cmp x.path q ≡ Less) (paths_of more) row.path
    (All-after_first path_cmp x.path (paths_of more) s)
    (contains_mapped (λ (r : Row). r.path) more row c)

contains_by : (x : Row) (more : List Row) (row : Row) (k : ℕ) → k < length (x ∷ more)
    → get_or (x ∷ more) k row ≡ row → (x ≡ row) ⊎ Contains more row
contains_by x more row zero l e = inl e
contains_by x more row (suc k) l e = inr (k, omega (arith, l), e)

contains_cases : (x : Row) (more : List Row) (row : Row) → Contains (x ∷ more) row
    → (x ≡ row) ⊎ Contains more row
contains_cases x more row c = contains_by x more row c.0 c.1 c.2

heads_same : (x y : Row) (xs ys : List Row) → AreSorted (x ∷ xs) → AreSorted (y ∷ ys)
    → Contains (y ∷ ys) x → Contains (x ∷ xs) y → x ≡ y
heads_same x y xs ys s t c d = elim (contains_cases y ys x c) [
  | inl e ↦ sym e
  | inr m ↦ elim (contains_cases x xs y d) [
    | inl e ↦ e
    | inr n ↦ absurd (both_less x.path y.path (first_below x xs y s n) (first_below y ys x t m))
  ]
]

rest_has : (x y : Row) (xs ys : List Row) → AreSorted (x ∷ xs) → x ≡ y
    → ((row : Row) → Contains (x ∷ xs) row → Contains (y ∷ ys) row)
    → (row : Row) → Contains xs row → Contains ys row
rest_has x y xs ys s e h row c =
    elim (contains_cases y ys row (h row (Contains-append_right (x ∷ []) xs row c))) [
      | inl same ↦
          let l : path_cmp x.path x.path ≡ Less =
          subst (λ (r : Row). path_cmp x.path r.path ≡ Less) (sym (e ∙ same))
          (first_below x xs row s c) in
          absurd (both_less x.path x.path l l)
      | inr m ↦ m
    ]

none_in : (row : Row) → Contains [] row → ⊥
none_in row c = absurd (omega (arith, c.1))

same_rows : (xs ys : List Row) → AreSorted xs → AreSorted ys
    → ((row : Row) → Contains xs row → Contains ys row)
    → ((row : Row) → Contains ys row → Contains xs row) → xs ≡ ys
same_rows [] [] s t f g = refl
same_rows [] (y ∷ ys) s t f g = absurd (none_in y (g y (0, omega arith, refl)))
same_rows (x ∷ xs) [] s t f g = absurd (none_in x (f x (0, omega arith, refl)))
same_rows (x ∷ xs) (y ∷ ys) s t f g =
    let head = heads_same x y xs ys s t (f x (0, omega arith, refl))
    (g y (0, omega arith, refl)) in
    let tail = same_rows xs ys (sorted_tail path_cmp x.path (paths_of xs) s)
    (sorted_tail path_cmp y.path (paths_of ys) t) (rest_has x y xs ys s head f)
    (rest_has y x ys xs t (sym head) g) in
    λ i. head i ∷ tail i

is_whole : (rows : List LogRow) (listing other : List Row) → IsListing rows listing
    → IsListing rows other → (row : Row) → Contains listing row → Contains other row
is_whole rows listing other i j row c =
    j.whole row.path row
    (All-contains (λ (r : Row). live rows r.path ≡ Some r) listing row i.are_live c)

pub listing_once : OneListing
listing_once rows listing other i j = same_rows listing other i.sorted j.sorted
    (is_whole rows listing other i j) (is_whole rows other listing j i)

-- rows that follow each other are a listing

-- those that follow are above what is below the first path
above : (rows : List LogRow) (path z : List ℕ) (listing : List Row)
    → FollowEachOther rows path listing
    → ((q : List ℕ) → path_cmp path q ≡ Less → path_cmp z q ≡ Less)
    → AllByRecursion (λ q. path_cmp z q ≡ Less) (map (λ row. row.path) listing)
above rows path z [] f below = tt
above rows path z (row ∷ more) f below = (
  below row.path f.0.0,
  above rows row.path z more f.1
      (λ q l. below q (nat_list_cmp_total.trans path row.path q f.0.0 l)),
)

sorted : (rows : List LogRow) (path : List ℕ) (listing : List Row)
    → FollowEachOther rows path listing
    → IsStrictlySortedBy path_cmp (map (λ row. row.path) listing)
unfolding IsStrictlySortedBy
sorted rows path [] f = tt
sorted rows path (row ∷ more) f =
    (above rows row.path row.path more f.1 (λ q l. l), sorted rows row.path more f.1)

all_live : (rows : List LogRow) (path : List ℕ) (listing : List Row)
    → FollowEachOther rows path listing → All (λ row. live rows row.path ≡ Some row) listing
all_live rows path [] f = All-nil (λ (row : Row). live rows row.path ≡ Some row)
all_live rows path (row ∷ more) f =
    All-cons (λ (row : Row). live rows row.path ≡ Some row) row more f.0.1
    (all_live rows row.path more f.1)

is_there : (rows : List LogRow) (path : List ℕ) (row : Row) → live rows path ≡ Some row
    → IsSome (live rows path)
is_there rows path row e = ap is_some e

finds : (rows : List LogRow) (path : List ℕ) (listing : List Row)
    → FollowEachOther rows path listing → (q : List ℕ) (row : Row) → live rows q ≡ Some row
    → path_cmp path q ≡ Less → Contains listing row
finds rows path [] f q row e l = absurd (f q (is_there rows q row e) l)
finds rows path (first ∷ more) f q row e l =
    by (path_cmp first.path q) refl (finds rows first.path more f.1 q row e)
  where
    by : (o : Ordering) → path_cmp first.path q ≡ o
        → (path_cmp first.path q ≡ Less → Contains more row) → Contains (first ∷ more) row
    by Less c again = Contains-append_right (first ∷ []) more row (again c)
    by Equal c again =
        let same : first ≡ row = same_Some first row
        (sym f.0.1 ∙ ap (live rows) (exact_bytes first.path q c) ∙ e) in
        (0, omega arith, same)
    by Greater c again =
        absurd (f.0.2 q (is_there rows q row e) l
        (nat_list_cmp_total.antisymm q first.path ∙ ap ordering_reverse c))

pub no_empty_path : (format : Format) (rows : List LogRow) (row : Row) → AreRows format rows
    → live rows [] ≡ Some row → ⊥
no_empty_path format rows row a e = by (latest rows []) refl e
  where
    by : (found : Option (ℕ × LogRow)) → latest rows [] ≡ found → live_row found ≡ Some row → ⊥
    by None r e = absurd (none-some row e)
    by (Some found) r e =
        let s = found_in 1 rows [] found r in
        let path : IsPath [] = subst IsPath s.path_is
        (follows_at format [] rows (found.0 - 1) found.1 a s.item).path in
        absurd (omega (arith, path.0))

pub nexts_are_listing : NextsAreListing
nexts_are_listing format rows listing a f = record {
  sorted = sorted rows [] listing f;
  are_live = all_live rows [] listing f;
  whole = λ path row e. by path row e;
}
  where
    by : (path : List ℕ) (row : Row) → live rows path ≡ Some row → Contains listing row
    by [] row e = absurd (no_empty_path format rows row a e)
    by (x ∷ xs) row e = finds rows [] listing f (x ∷ xs) row e refl

-- the index as a listing

abbrev nothing : Row
nothing = record { path = []; resource = []; revision = 0; stored = []; check = None }

some_is : (found : Option Row) → IsSome found → found ≡ Some (unwrap_or found nothing)
some_is None s = cc
some_is (Some row) s = refl

abbrev row_for : List LogRow → List ℕ × ℕ → Row
row_for rows entry = unwrap_or (live rows entry.0) nothing

abbrev IsLiveEntry : List LogRow → List ℕ × ℕ → Type 0
IsLiveEntry rows entry = live rows entry.0 ≡ Some (row_for rows entry)

-- a row that is found has the path
entry_path : (rows : List LogRow) (entry : List ℕ × ℕ) → IsLiveEntry rows entry
    → (row_for rows entry).path ≡ entry.0
entry_path rows entry e = (live_at_revision rows entry.0 (row_for rows entry) e).1

paths_are : (rows : List LogRow) (entries : List (List ℕ × ℕ))
    → All (IsLiveEntry rows) entries
    → map (λ row. row.path) (map (row_for rows) entries) ≡ keys_of entries
paths_are rows [] all = refl
paths_are rows (entry ∷ more) all =
    let first = entry_path rows entry (All-head (IsLiveEntry rows) entry more all) in
    let rest = paths_are rows more (All-tail (IsLiveEntry rows) entry more all) in
    λ i. first i ∷ rest i

abbrev HasEntry : List (List ℕ × ℕ) → List ℕ → Type 0
HasEntry entries path =
    (entry : List ℕ × ℕ) × Contains entries entry × (entry.0 ≡ path)

looked_further : (entry : List ℕ × ℕ) (more : List (List ℕ × ℕ)) (path : List ℕ)
    → HasEntry more path → HasEntry (entry ∷ more) path
looked_further entry more path h =
    (h.0, Contains-append_right (entry ∷ []) more h.0 h.1, h.2)

looked_up : (entries : List (List ℕ × ℕ)) (path : List ℕ) (v : ℕ)
    → lookup (λ k. is_eq (path_cmp path k)) entries ≡ Some v
    → HasEntry entries path
looked_up [] path v e = absurd (none-some v e)
looked_up (entry ∷ more) path v e =
    by (path_cmp path entry.0) refl e (looked_up more path v)
  where
    by : (o : Ordering) → path_cmp path entry.0 ≡ o
        → cond (is_eq (path_cmp path entry.0)) (Some entry.1)
        (lookup (λ k. is_eq (path_cmp path k)) more) ≡ Some v
        → (lookup (λ k. is_eq (path_cmp path k)) more ≡ Some v
        → HasEntry more path) → HasEntry (entry ∷ more) path
    by Equal c e again =
        (entry, (0, omega arith, refl), sym (exact_bytes path entry.0 c))
    by Less c e again = looked_further entry more path (again (sym (ap (λ (o : Ordering).
        cond (is_eq o) (Some entry.1)
        (lookup (λ k. is_eq (path_cmp path k)) more)) c) ∙ e))
    by Greater c e again = looked_further entry more path (again (sym (ap (λ (o : Ordering).
        cond (is_eq o) (Some entry.1)
        (lookup (λ k. is_eq (path_cmp path k)) more)) c) ∙ e))

some_of : (found : Option ℕ) (lives : Option Row) (row : Row) → is_some found ≡ is_some lives
    → lives ≡ Some row → (v : ℕ) × (found ≡ Some v)
some_of None lives row s e = let x : false ≡ true = s ∙ ap is_some e in cc
some_of (Some v) lives row s e = (v, refl)

-- the index has as many live entries as rows are live
pub counted : (rows : List LogRow) (index : Index) → IsIndexOf rows index
    → paths.AreSorted index.live → IsLiveCount rows (length index.live)
counted rows index i o =
    let entries = index.live in
    let all : All (IsLiveEntry rows) entries = λ k d l.
    some_is (live rows (get_or entries k d).0)
    (was_live rows index (get_or entries k d).0 (get_or entries k d).1 i
    (found_at entries k d o l)) in (
      map (row_for rows) entries,
      record {
        sorted = subst (IsStrictlySortedBy path_cmp) (sym (paths_are rows entries all))
            o;
        are_live = All-map (λ (row : Row). live rows row.path ≡ Some row) (row_for rows) entries
            (λ k d l. ap (live rows) (entry_path rows (get_or entries k d) (all k d l))
            ∙ all k d l);
        whole = λ path row e.
            let v = some_of (live_at index path) (live rows path) row
            (some_live (latest rows path) (live_at index path) (gone_at index path) (i path)) e in
            let found = looked_up entries path v.0 v.1 in
            subst (λ z. Contains (map (row_for rows) entries) z)
            (ap (λ (o : Option Row). unwrap_or o nothing) (ap (live rows) found.2 ∙ e))
            (contains_mapped (row_for rows) entries found.0 found.1);
      },
      sym (length-map entries (row_for rows)),
    )
