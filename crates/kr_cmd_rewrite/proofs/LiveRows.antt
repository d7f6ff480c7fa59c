-- The live rows by their paths, and what a row at one path leaves of those above it.
use Rattle.std.proofs.Common.{◌≡◌, ℕ, ◌+◌, Bool, true, false, List, [], ◌∷◌, ◌++◌, map, Option, None, Some, is_some, IsSome, refl, sym, ◌∙◌, ap, subst, arith, All, Contains, zero, suc}
use Rattle.std.specs.Prelude.{get_or, if◌then◌else◌}
use Rattle.std.specs.Cmp.Lexicographic.{slice_cmp}
use Rattle.std.specs.List.Sorted.{IsStrictlySortedBy}
use Rattle.std.specs.Ordering.{is_eq, nat_cmp, ordering_reverse}
use Rattle.std.specs.Str.{bytes_eq}
use Rattle.std.specs.declared.cmp.Ordering.{Ordering}
use Rattle.std.specs.declared.cmp.Ordering.TheVariants.{Less, Equal, Greater}
use Rattle.std.proofs.lemmas.Cmp.{nat_list_cmp_total}
use Rattle.std.proofs.lemmas.List.Elements.{All-head, All-tail, Contains-get_or}
use Rattle.std.proofs.lemmas.Map.Keys.{sorted_tail}
use Rattle.std.proofs.lemmas.Map.Text.{is_eq-slice_cmp}
use Rattle.std.proofs.lemmas.Option.{same_Some}
use Rattle.std.proofs.lemmas.Slice.Eq.{bytes_eq-Decides}
use Rattle.kr_store.specs.declared.format.Format.{Format}
use Rattle.kr_store.specs.declared.rows.LogRow.{LogRow}
use Rattle.kr_store.specs.declared.rows.Row.{Row}
use Rattle.kr_store.specs.Rows.{AreRows, later, latest_from, live, live_row}
use Rattle.kr_store.specs.Stores.{IsListing, IsNext}
use Rattle.kr_store.specs.Laws.{FollowEachOther}
use Rattle.kr_store.proofs.Places.{live_at_revision}
use Rattle.kr_store.proofs.Listings.{both_less, first_below, no_empty_path}

abbrev path_cmp : List ℕ → List ℕ → Ordering
path_cmp = slice_cmp nat_cmp

not_below_itself : (path : List ℕ) → path_cmp path path ≡ Less → ⊥
not_below_itself path l = both_less path path l l

equal_paths : (a b : List ℕ) → path_cmp a b ≡ Equal → a ≡ b
equal_paths a b h = (bytes_eq-Decides a b).0 (sym (is_eq-slice_cmp a b) ∙ ap is_eq h)

-- ---- a listing is the rows by what comes next

module _ (rows : List LogRow) where
  -- all live rows above are in the list
  abbrev AreAbove : (above : List ℕ) → List Row → Type 0
  AreAbove above listing = (q : List ℕ) (row : Row) → live rows q ≡ Some row
      → path_cmp above q ≡ Less → Contains listing row

  some_row : (q : List ℕ) (found : Option Row) → live rows q ≡ found → IsSome (live rows q)
      → (row : Row) × (live rows q ≡ Some row)
  some_row q None e s = absurd (let none : false ≡ true = sym (ap is_some e) ∙ s in cc)
  some_row q (Some row) e s = (row, e)

  follows : (above : List ℕ) (listing : List Row)
      → IsStrictlySortedBy path_cmp (map (λ row. row.path) listing)
      → All (λ row. live rows row.path ≡ Some row) listing
      → All (λ row. path_cmp above row.path ≡ Less) listing → AreAbove above listing
      → FollowEachOther rows above listing
  follows above [] sorted lives higher whole =
      λ q some less. let found = some_row q (live rows q) refl some in
      absurd (omega (arith, (whole q found.0 found.1 less).1))
  follows above (row ∷ more) sorted lives higher whole =
      let is : live rows row.path ≡ Some row =
      All-head (λ (r : Row). live rows r.path ≡ Some r) row more lives in
      let up : path_cmp above row.path ≡ Less =
      All-head (λ (r : Row). path_cmp above r.path ≡ Less) row more higher in
      let below : (other : Row) → Contains more other → path_cmp row.path other.path ≡ Less =
      λ other c. first_below row more other sorted c in (
        (up, is, λ q some less lesser. least q less lesser (some_row q (live rows q) refl some)),
        follows row.path more (sorted_tail path_cmp row.path (map (λ (r : Row). r.path) more)
            sorted)
            (All-tail (λ (r : Row). live rows r.path ≡ Some r) row more lives)
            (λ k d within. below (get_or more k d) (Contains-get_or more k d within))
            (λ q other live less. rest q other live less up),
      )
    where
      least : (q : List ℕ) → path_cmp above q ≡ Less → path_cmp q row.path ≡ Less
          → (found : Row) × (live rows q ≡ Some found) → ⊥
      least q less lesser (found, is) = at (whole q found is less)
        where
          path_is : found.path ≡ q
          path_is = (live_at_revision rows q found is).1

          at : Contains (row ∷ more) found → ⊥
          at (zero, within, e) = not_below_itself q
              (subst (λ n. path_cmp q n ≡ Less) (ap (λ (r : Row). r.path) e ∙ path_is) lesser)
          at (suc k, within, e) = both_less row.path q
              (subst (λ n. path_cmp row.path n ≡ Less) path_is
              (first_below row more found sorted (k, omega (arith, within), e))) lesser

      rest : (q : List ℕ) (other : Row) → live rows q ≡ Some other → path_cmp row.path q ≡ Less
          → path_cmp above row.path ≡ Less → Contains more other
      rest q other is less up =
          at (whole q other is (nat_list_cmp_total.trans above row.path q up less))
        where
          at : Contains (row ∷ more) other → Contains more other
          at (zero, within, e) = absurd (not_below_itself q
              (subst (λ n. path_cmp n q ≡ Less)
              (ap (λ (r : Row). r.path) e ∙ (live_at_revision rows q other is).1) less))
          at (suc k, within, e) = (k, omega (arith, within), e)

-- no live row has the empty path, and every other is above it
pub listing_follows : (format : Format) (rows : List LogRow) (listing : List Row)
    → AreRows format rows → IsListing rows listing → FollowEachOther rows [] listing
listing_follows format rows listing are l =
    follows rows [] listing l.sorted l.are_live
    (λ k d within. higher (get_or listing k d) (l.are_live k d within))
    (λ q row is less. l.whole q row is)
  where
    higher : (row : Row) → live rows row.path ≡ Some row → path_cmp [] row.path ≡ Less
    higher row is = at row.path is
      where
        at : (path : List ℕ) → live rows path ≡ Some row → path_cmp [] path ≡ Less
        at [] is = absurd (no_empty_path format rows row are is)
        at (x ∷ xs) is = refl

-- ---- one more row at a path

other_from : (k : ℕ) (rows : List LogRow) (row : LogRow) (q : List ℕ)
    → bytes_eq row.path q ≡ false → latest_from k (rows ++ row ∷ []) q ≡ latest_from k rows q
other_from k [] row q f = ap (λ b. if b then Some (k, row) else None) f
other_from k (first ∷ rows) row q f =
    ap (λ l. later l (if bytes_eq first.path q then Some (k, first) else None))
    (other_from (k + 1) rows row q f)

live_other : (rows : List LogRow) (row : LogRow) (q : List ℕ) → bytes_eq row.path q ≡ false
    → live (rows ++ row ∷ []) q ≡ live rows q
live_other rows row q f = ap live_row (other_from 1 rows row q f)

apart : (path q : List ℕ) → path_cmp path q ≡ Less → bytes_eq path q ≡ false
apart path q less = by (bytes_eq path q) refl
  where
    by : (b : Bool) → bytes_eq path q ≡ b → bytes_eq path q ≡ false
    by false e = e
    by true e = absurd (not_below_itself path
        (subst (λ n. path_cmp path n ≡ Less) (sym ((bytes_eq-Decides path q).0 e)) less))

-- what follows above stays
pub still_follows : (rows : List LogRow) (row : LogRow) (above : List ℕ) (listing : List Row)
    → ((q : List ℕ) → path_cmp above q ≡ Less → path_cmp row.path q ≡ Less)
    → FollowEachOther rows above listing
    → FollowEachOther (rows ++ row ∷ []) above listing
still_follows rows row above [] higher f = λ q some less.
    f q (subst (λ l. IsSome l) (live_other rows row q (apart row.path q (higher q less))) some) less
still_follows rows row above (next ∷ listing) higher f = (
  (
    f.0.0,
    live_other rows row next.path (apart row.path next.path (higher next.path f.0.0)) ∙ f.0.1,
    λ q some less. f.0.2 q
        (subst (λ l. IsSome l) (live_other rows row q (apart row.path q (higher q less))) some)
        less,
  ),
  still_follows rows row next.path listing
      (λ q less. higher q (nat_list_cmp_total.trans above next.path q f.0.0 less)) f.1,
)

-- ---- what is next is one

pub one_next : (rows : List LogRow) (above : List ℕ) (row other : Row)
    → IsNext rows above (Some row) → IsNext rows above (Some other) → row ≡ other
one_next rows above row other a b = by (path_cmp row.path other.path) refl
  where
    by : (o : Ordering) → path_cmp row.path other.path ≡ o → row ≡ other
    by Less c = absurd (b.2 row.path (ap is_some a.1) a.0 c)
    by Equal c = same_Some row other
        (sym a.1 ∙ ap (live rows) (equal_paths row.path other.path c) ∙ b.1)
    by Greater c = absurd (a.2 other.path (ap is_some b.1) b.0
        (nat_list_cmp_total.antisymm other.path row.path ∙ ap ordering_reverse c))

pub none_next : (rows : List LogRow) (above : List ℕ) (row : Row)
    → IsNext rows above (Some row) → IsNext rows above None → ⊥
none_next rows above row a n = n row.path (ap is_some a.1) a.0
