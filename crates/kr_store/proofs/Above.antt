-- The entry with the least key above a path, among those in order.
use Rattle.std.proofs.Common.{◌≡◌, ℕ, Bool, true, false, cond, List, [], ◌∷◌, None, Some, refl, sym, ◌∙◌, ap, subst, inl, inr, ◌⊎◌}
use Rattle.std.specs.declared.cmp.Ordering.{Ordering}
use Rattle.std.specs.declared.cmp.Ordering.TheVariants.{Less, Equal, Greater}
use Rattle.std.specs.Ordering.{nat_cmp, is_lt, is_eq}
use Rattle.std.specs.Cmp.{IsTotalOrder}
use Rattle.std.specs.Cmp.Lexicographic.{slice_cmp, nat_list_cmp_total}
use Rattle.std.specs.List.{AllByRecursion, filter}
use Rattle.std.specs.List.Sorted.{IsStrictlySortedBy}
use Rattle.std.specs.Map.{keys_of, lookup}
use Rattle.std.proofs.lemmas.Map.Text.{is_eq-slice_cmp}
use Rattle.std.proofs.lemmas.Slice.Eq.{bytes_eq-Decides}
use Rattle.kr_store.proofs.Indexes.{bool_cases}

abbrev compare : List ℕ → List ℕ → Ordering
compare = slice_cmp nat_cmp

total : IsTotalOrder (slice_cmp nat_cmp)
total = nat_list_cmp_total

less_lt : (r : Ordering) → r ≡ Less → is_lt r ≡ true
less_lt r e = ap is_lt e

lt_less : (r : Ordering) → is_lt r ≡ true → r ≡ Less
lt_less Less e = refl
lt_less Equal e = cc
lt_less Greater e = cc

less_not_eq : (r : Ordering) → r ≡ Less → is_eq r ≡ false
less_not_eq r e = ap is_eq e

to_false : (b : Bool) → (b ≡ true → ⊥) → b ≡ false
to_false true h = absurd (h refl)
to_false false h = refl

-- a path above p isn't one that p is not below
apart : (p q k : List ℕ) → compare p q ≡ Less → is_lt (compare p k) ≡ false
    → is_eq (compare q k) ≡ false
apart p q k l n = to_false (is_eq (compare q k)) (λ e.
    let same : q ≡ k = (bytes_eq-Decides q k).0 (sym (is_eq-slice_cmp q k) ∙ e) in
    let x : false ≡ true = sym n ∙ ap (λ z. is_lt (compare p z)) (sym same)
    ∙ less_lt (compare p q) l in cc)

same_at : (k : List ℕ) → is_eq (compare k k) ≡ true
same_at k = is_eq-slice_cmp k k ∙ (bytes_eq-Decides k k).1 refl

module _ {K : Type 0} (b : K → List ℕ) where
  abbrev at : List ℕ → K → Bool
  at q k = is_eq (compare q (b k))

  abbrev above : List ℕ → K × ℕ → Bool
  above p e = is_lt (compare p (b e.0))

  -- a path below a first key is below all
  below_all : (q k : List ℕ) (es : List (K × ℕ)) → compare q k ≡ Less → AllByRecursion
      (λ y. compare k (b y) ≡ Less) (keys_of es) → lookup (at q) es ≡ None
  below_all q k [] l all = refl
  below_all q k (e ∷ es) l all =
      ap (λ t. cond t (Some e.1) (lookup (at q) es)) (less_not_eq (compare q (b e.0))
      (total.trans q k (b e.0) l all.0)) ∙ below_all q k es l all.1

  pub none_above : (p : List ℕ) (es : List (K × ℕ)) → filter (above p) es ≡ [] → (q : List ℕ)
      → compare p q ≡ Less → lookup (at q) es ≡ None
  none_above p [] f q l = refl
  none_above p (e ∷ es) f q l = by (bool_cases (is_lt (compare p (b e.0)))) (none_above p es)
    where
      by : (is_lt (compare p (b e.0)) ≡ true) ⊎ (is_lt (compare p (b e.0)) ≡ false)
          → (filter (above p) es ≡ [] → (q : List ℕ) → compare p q ≡ Less
          → lookup (at q) es ≡ None) → lookup (at q) (e ∷ es) ≡ None
      by (inl t) again = let x : e ∷ filter (above p) es ≡ [] = sym
          (ap (λ z. cond z (e ∷ filter (above p) es) (filter (above p) es)) t)
          ∙ f in cc
      by (inr n) again =
          let rest : filter (above p) es ≡ [] = sym
          (ap (λ z. cond z (e ∷ filter (above p) es) (filter (above p) es)) n)
          ∙ f in
          ap (λ z. cond z (Some e.1) (lookup (at q) es)) (apart p q (b e.0) l n) ∙ again rest q l

  -- the first above p
  pub record IsFirst (p : List ℕ) (es : List (K × ℕ)) (first : K × ℕ) : Type 0 where
    pub above_it : compare p (b first.0) ≡ Less
    pub has : lookup (at (b first.0)) es ≡ Some first.1
    pub least : (q : List ℕ) → compare p q ≡ Less → compare q (b first.0) ≡ Less
        → lookup (at q) es ≡ None

  abbrev head_or : K × ℕ → List (K × ℕ) → K × ℕ
  head_or d [] = d
  head_or d (x ∷ xs) = x

  pub first_above : (p : List ℕ) (es : List (K × ℕ)) (first : K × ℕ) (rest : List (K × ℕ))
      → IsStrictlySortedBy (λ x y. compare (b x) (b y)) (keys_of es)
      → filter (above p) es ≡ first ∷ rest → IsFirst p es first
  unfolding IsStrictlySortedBy
  first_above p [] first rest s f = cc
  first_above p (e ∷ es) first rest s f = by (bool_cases (is_lt (compare p (b e.0)))) s
      (first_above p es first rest)
    where
      by : (is_lt (compare p (b e.0)) ≡ true) ⊎ (is_lt (compare p (b e.0)) ≡ false)
          → IsStrictlySortedBy (λ x y. compare (b x) (b y)) (keys_of (e ∷ es))
          → (IsStrictlySortedBy (λ x y. compare (b x) (b y)) (keys_of es)
          → filter (above p) es ≡ first ∷ rest → IsFirst p es first) → IsFirst p (e ∷ es) first
      by (inl t) s again =
          let x : e ∷ filter (above p) es ≡ first ∷ rest = sym
          (ap (λ z. cond z (e ∷ filter (above p) es) (filter (above p) es)) t)
          ∙ f in
          let same : e ≡ first = ap (head_or e) x in
          subst (λ (z : K × ℕ). IsFirst p (e ∷ es) z) same (record {
            above_it = lt_less (compare p (b e.0)) t;
            has = ap (λ z. cond z (Some e.1) (lookup (at (b e.0)) es)) (same_at (b e.0));
            least = λ q l m. ap (λ z. cond z (Some e.1) (lookup (at q) es))
                (less_not_eq (compare q (b e.0)) m) ∙ below_all q (b e.0) es m s.0;
          })
      by (inr n) s again =
          let x : filter (above p) es ≡ first ∷ rest = sym
          (ap (λ z. cond z (e ∷ filter (above p) es) (filter (above p) es)) n)
          ∙ f in
          let i = again s.1 x in
          record {
            above_it = i.above_it;
            has = ap (λ z. cond z (Some e.1) (lookup (at (b first.0)) es))
                (apart p (b first.0) (b e.0) i.above_it n) ∙ i.has;
            least = λ q l m. ap (λ z. cond z (Some e.1) (lookup (at q) es)) (apart p q (b e.0) l n)
                ∙ i.least q l m;
          }
