-- What a pool keeps where a page is taken, written and given back.
use Rattle.std.proofs.Common.{◌≡◌, ℕ, zero, suc, add-one, ◌+◌, ◌<◌, ◌≤◌, List, [], ◌∷◌, ◌++◌, Bool, false, true, ◌||◌, length, nat_eq, slice_index_or, replicate, refl, sym, ap, ◌∙◌, inl, inr, arith, get_or-set_other, get_or-set_same}
use Rattle.std.specs.Cmp.{nat_eq_equiv}
use Rattle.std.specs.List.{list_any, range_with_len}
use Rattle.std.proofs.lemmas.List.{length-set, length_push, get_or_append_left, get_or_push, get_or-replicate, length-replicate}
use Rattle.std.proofs.lemmas.List.Elements.{All-push}
use Rattle.std.proofs.lemmas.List.Folds.{list_any_none, list_any_at, list_any-append}
use Rattle.std.proofs.lemmas.List.FromFn.{get_or-range_with_len, length-range_with_len}
use Rattle.std.proofs.lemmas.Bool.{cases_eq, ne_eqb}
use Rattle.std.proofs.lemmas.Bool.Decides.{Decides-eqb}
use Rattle.std.proofs.lemmas.Map.Keys.{IsDistinct-push, IsDistinct-from_apart, apart_from_distinct}
use Rattle.std.proofs.lemmas.Map.Steps.{length-le_from_distinct_below}
use Rattle.std.proofs.lemmas.Map.Views.{Contains-from_any}
use Rattle.kr_pages.specs.Pool.{IsPool, Pool, Takes, is_free, with_free, with_words, page_words, zero_page}

-- no more pages are free than there are
pub free-le : (pool : Pool) → IsPool pool → length pool.free ≤ length pool.pages
free-le pool is = length-le_from_distinct_below pool.free (length pool.pages) is.distinct (λ q found.
    let at = Contains-from_any {eq = nat_eq} (λ x y. (Decides-eqb x y).0) q pool.free found in
    let below : slice_index_or pool.free at.0 q < length pool.pages = is.below at.0 q at.1 in
    rw at.2 at below)

-- another page keeps its words
still : (pages : List (List ℕ)) (number k : ℕ) (words : List ℕ) → (k ≡ number → words ≡ zero_page) → number < length pages
    → slice_index_or pages k [] ≡ zero_page → page_words (with_words (record { pages = pages; free = [] }) number words) k ≡ zero_page
still pages number k words zeroed below e = elim (cases_eq k number) [
  | inl same ↦ rw same (get_or-set_same pages number words [] below) ∙ zeroed same
  | inr other ↦ get_or-set_other pages number k words [] other ∙ e
]

-- a page that comes back, whose words are zero by then
pub IsPool-with_free : (pool : Pool) (number : ℕ) → IsPool pool → number < length pool.pages → is_free pool number ≡ false → IsPool (with_free pool number)
IsPool-with_free pool number is below out =
    let size : length (with_free pool number).pages ≡ length pool.pages = length-set pool.pages number zero_page in record {
      distinct = IsDistinct-push nat_eq_equiv pool.free number is.distinct out;
      below = rw size (All-push (λ k. k < length pool.pages) pool.free number is.below below);
      zero = All-push (λ k. page_words (with_free pool number) k ≡ zero_page) pool.free number
          (λ k d lt. still pool.pages number _ zero_page (λ _. refl) below (is.zero k d lt)) (get_or-set_same pool.pages number zero_page [] below);
    }

-- the other pages are free or out as before
pub is_free-with_free : (pool : Pool) (number k : ℕ) → (k ≡ number → ⊥) → is_free (with_free pool number) k ≡ is_free pool k
is_free-with_free pool number k other =
    list_any-append (nat_eq k) pool.free (number ∷ []) ∙ rw (ne_eqb k number other) (nothing (is_free pool k))
  where
    nothing : (a : Bool) → (a || (false || false)) ≡ a
    nothing true = refl
    nothing false = refl

-- there is room for the number of a page that comes back
pub free-lt : (pool : Pool) (number : ℕ) → IsPool pool → number < length pool.pages → is_free pool number ≡ false → length pool.free < length pool.pages
free-lt pool number is below out =
    omega (arith, free-le (with_free pool number) (IsPool-with_free pool number is below out), length_push pool.free number, length-set pool.pages number zero_page)

-- the number at a place, and the last one
push_front : (free : List ℕ) (number k d : ℕ) → k < length free → slice_index_or (free ++ number ∷ []) k d ≡ slice_index_or free k d
push_front free number k d lt = get_or_append_left free (number ∷ []) d k lt

-- where the last free page is taken, the others stay free, distinct and zero
pub IsPool-taken : (pages : List (List ℕ)) (free : List ℕ) (number : ℕ) → IsPool (record { pages = pages; free = free ++ number ∷ [] }) → IsPool (record { pages = pages; free = free })
IsPool-taken pages free number is = record {
  distinct = IsDistinct-from_apart nat_eq free (λ i j d lt within.
      rw (push_front free number i d (omega arith), push_front free number j d within) at (apart_from_distinct nat_eq (free ++ number ∷ []) i j d is.distinct lt (omega (arith, length_push free number))));
  below = λ k d lt. rw (push_front free number k d lt) at (is.below k d (omega (arith, length_push free number)));
  zero = λ k d lt. rw (push_front free number k d lt) at (is.zero k d (omega (arith, length_push free number)));
}

or_true : (a : Bool) → (a || (true || false)) ≡ true
or_true true = refl
or_true false = refl

or_false : (a b : Bool) → (a || b) ≡ false → a ≡ false
or_false true b h = h
or_false false b h = refl

pub Takes-last : (pages : List (List ℕ)) (free : List ℕ) (number : ℕ) → IsPool (record { pages = pages; free = free ++ number ∷ [] })
    → Takes (record { pages = pages; free = free ++ number ∷ [] }) (record { pages = pages; free = free }) number
Takes-last pages free number is =
    let last : slice_index_or (free ++ number ∷ []) (length free) 0 ≡ number = get_or_push free number 0 (length free) refl in
    let size : length (free ++ number ∷ []) ≡ length free + 1 = length_push free number in record {
      pages = refl;
      free = refl;
      below = rw last at (is.below (length free) 0 (omega arith));
      zero = rw last at (is.zero (length free) 0 (omega arith));
      was = list_any-append (nat_eq number) free (number ∷ []) ∙ rw (nat_eq_equiv.refl number) (or_true (is_free (record { pages = pages; free = free }) number));
      others = λ k none. or_false _ _ (sym (list_any-append (nat_eq k) free (number ∷ [])) ∙ none);
      out = list_any_none (nat_eq number) free (λ k d lt.
          nat_eq_equiv.symm number (slice_index_or free k d)
          ∙ rw (push_front free number k d lt, get_or_push free number d (length free) refl) at (apart_from_distinct nat_eq (free ++ number ∷ []) k (length free) d is.distinct lt (omega arith)));
    }

-- one more number
numbers_from : (a n : ℕ) → range_with_len a n ++ (a + n) ∷ [] ≡ range_with_len a (suc n)
numbers_from a zero =
    let e : a + 0 ≡ a = omega arith in
    rw e refl
numbers_from a (suc n) =
    let e : a + suc n ≡ a + 1 + n = omega arith in
    ap (λ xs. a ∷ xs) (rw e (numbers_from (a + 1) n))

pub numbers_more : (n : ℕ) → range_with_len 0 n ++ n ∷ [] ≡ range_with_len 0 (n + 1)
numbers_more n =
    let e : 0 + n ≡ n = omega arith in
    rw add-one (rw e at (numbers_from 0 n))

-- a pool of which all is free
pub IsPool-new : (n : ℕ) → IsPool (record { pages = replicate n zero_page; free = range_with_len 0 n })
IsPool-new n =
    let size : length (range_with_len 0 n) ≡ n = length-range_with_len 0 n in
    let pages : length (replicate n zero_page) ≡ n = length-replicate n zero_page in record {
      distinct = IsDistinct-from_apart nat_eq (range_with_len 0 n) (λ i j d lt within.
          rw (get_or-range_with_len 0 n i d (omega arith), get_or-range_with_len 0 n j d (omega arith)) (ne_eqb _ _ (omega arith)));
      below = λ k d lt. rw (get_or-range_with_len 0 n k d (omega arith)) (omega arith);
      zero = λ k d lt. rw (get_or-range_with_len 0 n k d (omega arith)) (get_or-replicate n (0 + k) zero_page [] (omega arith));
    }

-- words written into a page that is out
pub IsPool-with_words : (pool : Pool) (number : ℕ) (words : List ℕ) → IsPool pool → number < length pool.pages → is_free pool number ≡ false → IsPool (with_words pool number words)
IsPool-with_words pool number words is below out =
    let size : length (with_words pool number words).pages ≡ length pool.pages = length-set pool.pages number words in record {
      distinct = is.distinct;
      below = rw size is.below;
      zero = λ k d lt. still pool.pages number _ words (λ same. absurd (is_out k d lt same)) below (is.zero k d lt);
    }
  where
    is_out : (k d : ℕ) → k < length pool.free → slice_index_or pool.free k d ≡ number → ⊥
    is_out k d lt same =
        let found : list_any (nat_eq number) pool.free ≡ true = list_any_at (nat_eq number) pool.free k d lt ((Decides-eqb number _).1 (sym same)) in
        cc
