-- Pages that are taken from the last on and given back in the other order.
use Rattle.std.proofs.Common.{◌≡◌, ℕ, suc, ◌+◌, ◌-◌, ◌<◌, ◌≤◌, List, [], ◌∷◌, ◌++◌, false, true, length, nat_eq, slice_index_or, refl, sym, ap, ◌∙◌, inl, inr, arith, get_or-set_other, get_or-set_same}
use Rattle.std.specs.Prelude.{map, not, replicate, take}
use Rattle.std.specs.List.{list_any, range_with_len}
use Rattle.std.proofs.lemmas.List.{length-set, length_push, length-replicate, get_or_append_left, get_or_push, map-append, take-append-le}
use Rattle.std.proofs.lemmas.List.Folds.{list_any_none, list_any_at}
use Rattle.std.proofs.lemmas.List.FromFn.{get_or-range_with_len, length-range_with_len}
use Rattle.std.proofs.lemmas.Bool.{cases_lt, ne_eqb}
use Rattle.std.proofs.lemmas.Bool.Decides.{Decides-eqb}
use Rattle.std.proofs.lemmas.Map.Keys.{IsDistinct-from_apart}
use Rattle.std.proofs.Math.Seq.{take-length}
use Rattle.kr_aes.specs.KeyExpansion.{padded_schedule}
use Rattle.kr_pages.specs.Pool.{IsPool, Pool, Takes, is_free, with_free, with_words, page_words, zero_page}
use Rattle.kr_pages.proofs.Pools.{IsPool-with_words, numbers_more}
use Rattle.kr_provider.specs.KeyPages.{HoldKeys, KeyPages, words_out, size_of}
use Rattle.kr_provider.specs.inner.Stack.{IsStack}

-- ---- which pages are free

free_at : (pages : KeyPages) (i d : ℕ) → IsStack pages → i < length pages.pool.free
    → slice_index_or pages.pool.free i d ≡ i
free_at pages i d is lt = ap (λ l. slice_index_or l i d) is.free
    ∙ get_or-range_with_len 0 (length pages.pool.free) i d lt ∙ omega arith

free_below : (pages : KeyPages) (number : ℕ) → IsStack pages → number < length pages.pool.free
    → is_free pages.pool number ≡ true
free_below pages number is lt = list_any_at (nat_eq number) pages.pool.free number 0 lt
    ((Decides-eqb number _).1 (sym (free_at pages number 0 is lt)))

pub out_from : (pages : KeyPages) (number : ℕ) → IsStack pages → length pages.pool.free ≤ number
    → is_free pages.pool number ≡ false
out_from pages number is le = list_any_none (nat_eq number) pages.pool.free
    (λ k d lt. ne_eqb number _ (let e = free_at pages k d is lt in omega (arith, e, lt, le)))

pub place_out : (pages : KeyPages) (i d : ℕ) → IsStack pages → i < length pages.out
    → is_free pages.pool (slice_index_or pages.out i d) ≡ false
place_out pages i d is lt = out_from pages (slice_index_or pages.out i d) is
    (let p = is.places i d lt in omega (arith, p, is.count, lt))

pub place_below : (pages : KeyPages) (i d : ℕ) → IsStack pages → i < length pages.out
    → slice_index_or pages.out i d < size_of pages
place_below pages i d is lt = let p = is.places i d lt in omega (arith, p)

-- ---- a page more, and one less

map_same : {X Y : Type 0} (f g : X → Y) (xs : List X)
    → ((i : ℕ) (d : X) → i < length xs → f (slice_index_or xs i d) ≡ g (slice_index_or xs i d))
    → map f xs ≡ map g xs
map_same f g [] h = refl
map_same f g (x ∷ xs) h = ap (λ l. f x ∷ l) (map_same f g xs
    (λ i d lt. h (suc i) d (omega (arith, lt)))) ∙ ap (λ y. y ∷ map g xs) (h 0 x (omega arith))

front : (xs ys : List ℕ) (n : ℕ) → n ≡ length xs → take n (xs ++ ys) ≡ xs
front xs ys n e = ap (λ k. take k (xs ++ ys)) e ∙ take-append-le (length xs) xs ys (omega arith)
    ∙ take-length xs

-- what is left of the numbers after the last
left_free : (free : List ℕ) (number n : ℕ) → free ++ number ∷ [] ≡ range_with_len 0 (n + 1)
    → length free ≡ n → (free ≡ range_with_len 0 n) × (number ≡ n)
left_free free number n e long =
    let all : free ++ number ∷ [] ≡ range_with_len 0 n ++ n ∷ [] = e ∙ sym (numbers_more n) in (
      sym (front free (number ∷ []) n (sym long)) ∙ ap (take n) all
          ∙ front (range_with_len 0 n) (n ∷ []) n (sym (length-range_with_len 0 n)),
      sym (get_or_push free number 0 n long) ∙ ap (λ l. slice_index_or l n 0) all
          ∙ get_or_push (range_with_len 0 n) n 0 n (length-range_with_len 0 n),
    )

-- the counts and numbers of a page that was taken
record Taken (old : KeyPages) (pool : Pool) (number : ℕ) : Type 0 where
  size : length pool.pages ≡ size_of old
  one : length pool.free + 1 ≡ length old.pool.free
  free : pool.free ≡ range_with_len 0 (length pool.free)
  last : number ≡ length pool.free

taken : (old : KeyPages) (pool : Pool) (number : ℕ) → IsStack old → Takes old.pool pool number
    → Taken old pool number
taken old pool number is t =
    let one : length pool.free + 1 ≡ length old.pool.free =
    sym (ap (λ (l : List ℕ). length l) t.free ∙ length_push pool.free number) in
    let parts = left_free pool.free number (length pool.free)
    (sym t.free ∙ is.free ∙ ap (range_with_len 0) (sym one)) refl in record {
      size = ap (λ (l : List (List ℕ)). length l) t.pages;
      one = one;
      free = parts.0;
      last = parts.1;
    }

abbrev with_page : KeyPages → Pool → ℕ → List ℕ → KeyPages
with_page old pool number words = record {
  pool = with_words pool number words;
  out =
      old.out ++ number ∷ [];
}

pub IsStack-with_page : (old : KeyPages) (pool : Pool) (number : ℕ) (words : List ℕ) → IsStack old
    → IsPool pool → Takes old.pool pool number → IsStack (with_page old pool number words)
IsStack-with_page old pool number words is isp t =
    let was = taken old pool number is t in
    let size : length (with_words pool number words).pages ≡ length pool.pages =
    length-set pool.pages number words in
    let long = length_push old.out number in record {
      pool = IsPool-with_words pool number words isp (omega (arith, was.size, t.below)) t.out;
      count = omega (arith, size, was.size, was.one, long, is.count);
      free = was.free;
      places = λ i d lt. elim (cases_lt i (length old.out)) [
        | inl less ↦ (let e = get_or_append_left old.out (number ∷ []) d i less in
            let p = is.places i d less in omega (arith, e, p, size, was.size))
        | inr more ↦ (let same : length old.out ≡ i = omega (arith, more, lt, long) in
            let e = get_or_push old.out number d i same in
            omega (arith, e, same, size, was.size, was.one, was.last, is.count))
      ];
    }

pub words_out-with_page : (old : KeyPages) (pool : Pool) (number : ℕ) (words : List ℕ) → IsStack old
    → Takes old.pool pool number → words_out (with_page old pool number words)
    ≡ words_out old ++ words ∷ []
words_out-with_page old pool number words is t =
    let was = taken old pool number is t in
    let inside : number < length pool.pages = omega (arith, was.size, t.below) in
    map-append (page_words (with_words pool number words)) old.out (number ∷ [])
    ∙ ap (λ w. map (page_words (with_words pool number words)) old.out ++ w ∷ [])
    (get_or-set_same pool.pages number words [] inside)
    ∙ ap (λ l. l ++ words ∷ []) (map_same (page_words (with_words pool number words))
    (page_words old.pool) old.out (λ i d lt.
    get_or-set_other pool.pages number (slice_index_or old.out i d) words []
    (let p = is.places i d lt in omega (arith, p, was.last, was.one, is.count, lt))
    ∙ ap (λ l. slice_index_or l (slice_index_or old.out i d) []) t.pages))

abbrev without_page : Pool → List ℕ → ℕ → KeyPages
without_page pool rest number = record { pool = with_free pool number; out = rest }

pub IsStack-without_page : (pool : Pool) (rest : List ℕ) (number : ℕ)
    → IsStack (record { pool = pool; out = rest ++ number ∷ [] }) → IsPool (with_free pool number)
    → IsStack (without_page pool rest number)
IsStack-without_page pool rest number is isp =
    let size : length (with_free pool number).pages ≡ length pool.pages =
    length-set pool.pages number zero_page in
    let long = length_push rest number in
    let more = length_push pool.free number in
    let e = get_or_push rest number 0 (length rest) refl in
    let p = is.places (length rest) 0 (omega (arith, long)) in
    let last : number ≡ length pool.free = omega (arith, e, p, is.count, long) in record {
      pool = isp;
      count = omega (arith, size, long, more, is.count);
      free = ap (λ n. pool.free ++ n ∷ []) last ∙ ap (λ l. l ++ length pool.free ∷ []) is.free
          ∙ numbers_more (length pool.free) ∙ ap (range_with_len 0) (sym more);
      places = λ i d lt. (let f = get_or_append_left rest (number ∷ []) d i lt in
          let q = is.places i d (omega (arith, long, lt)) in omega (arith, f, q, size));
    }

pub last_out : (pool : Pool) (rest : List ℕ) (number : ℕ)
    → IsStack (record { pool = pool; out = rest ++ number ∷ [] }) → is_free pool number ≡ false
last_out pool rest number is = ap (is_free pool)
    (sym (get_or_push rest number 0 (length rest) refl))
    ∙ place_out (record { pool = pool; out = rest ++ number ∷ [] }) (length rest) 0 is
    (let long = length_push rest number in omega (arith, long))

-- ---- what a stack holds

pub holds : (secrets : List (List ℕ)) (pages : KeyPages) → IsStack pages
    → words_out pages ≡ map padded_schedule secrets → HoldKeys secrets pages
holds secrets pages is h = record {
  pool = is.pool;
  distinct = IsDistinct-from_apart nat_eq pages.out
      (λ i j d lt within. ne_eqb _ _ (let p = is.places i d (omega (arith, lt, within)) in
      let q = is.places j d within in omega (arith, p, q, lt)));
  below = λ k d lt. place_below pages k d is lt;
  held = h;
  free = λ number lt. elim (cases_lt number (length pages.pool.free)) [
    | inl less ↦ free_below pages number is less ∙ sym (ap not (not_out number less))
    | inr more ↦ out_from pages number is more ∙ sym (ap not (is_out number lt more))
  ];
  others = λ number lt none. elim (cases_lt number (length pages.pool.free)) [
    | inl less ↦ ap (page_words pages.pool) (sym (free_at pages number 0 is less))
        ∙ is.pool.zero number 0 less
    | inr more ↦ absurd (let found = is_out number lt more in cc)
  ];
}
  where
    not_out : (number : ℕ) → number < length pages.pool.free
        → list_any (nat_eq number) pages.out ≡ false
    not_out number less = list_any_none (nat_eq number) pages.out
        (λ k d lt. ne_eqb number _ (let p = is.places k d lt in
        omega (arith, p, is.count, less, lt)))

    is_out : (number : ℕ) → number < size_of pages → length pages.pool.free ≤ number
        → list_any (nat_eq number) pages.out ≡ true
    is_out number lt more =
        let k : ℕ = size_of pages - (number + 1) in
        let within : k < length pages.out = omega (arith, lt, more, is.count) in
        let p = is.places k 0 within in
        list_any_at (nat_eq number) pages.out k 0 within
        ((Decides-eqb number _).1 (omega (arith, p, lt)))

-- where no page is out there is no key
pub nothing_held : (pages : KeyPages) → IsStack pages → pages.out ≡ [] → HoldKeys [] pages
nothing_held pages is none = holds [] pages is
    (ap (λ (l : List ℕ). map (λ number. page_words pages.pool number) l) none)

-- a stack of which nothing is taken
pub IsStack-free_pages : (pages : KeyPages) → IsPool pages.pool → (n : ℕ)
    → pages.pool.pages ≡ replicate n zero_page → pages.pool.free ≡ range_with_len 0 n
    → pages.out ≡ [] → IsStack pages
IsStack-free_pages pages isp n p f o =
    let size = ap (λ (l : List (List ℕ)). length l) p ∙ length-replicate n zero_page in
    let long = ap (λ (l : List ℕ). length l) f ∙ length-range_with_len 0 n in
    let none : length pages.out ≡ 0 = ap (λ (l : List ℕ). length l) o in record {
      pool = isp;
      count = omega (arith, size, long, none);
      free = f ∙ ap (range_with_len 0) (sym long);
      places = λ i d lt. absurd (omega (arith, none, lt));
    }
