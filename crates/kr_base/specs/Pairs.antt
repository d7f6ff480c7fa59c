-- Pairs of a key and a value, each key once.
use Rattle.std.specs.Prelude.{◌≡◌, ℕ, ◌&&◌, ◌++◌, Bool, true, nat_eq, refl, List}
use Rattle.std.specs.Ordering.{nat_cmp}
use Rattle.std.specs.Cmp.Lexicographic.{slice_cmp, pointwise, pointwise_decides, bytes_decides, lists_equiv, nat_list_eq_equiv}
use Rattle.std.specs.Bool.{Decides}
use Rattle.std.specs.Hash as fed
use Rattle.std.specs.Hash.{HashWrites}
use Rattle.std.proofs.Common.{subst}
use Rattle.std.specs.Cmp.{IsEquivalence, and_equiv, on_equiv, first_so, second_so}
use Rattle.std.specs.List.Sorted.{IsStrictlySortedBy}
use Rattle.std.specs.Map.{keys_of}
use Rattle.std.specs.BTreeMap.{insert_entry}

abbrev pub Pairs : Type 0
Pairs = List (List ℕ × List ℕ)

-- the keys ascend by their bytes
abbrev pub IsSortedByKey : Pairs → Type 0
IsSortedByKey pairs = IsStrictlySortedBy (slice_cmp nat_cmp) (keys_of pairs)

-- the pairs with this value at the key: a key that is there takes it, a new one goes to its place
abbrev pub with_pair : Pairs → List ℕ → List ℕ → Pairs
with_pair pairs key value = insert_entry (slice_cmp nat_cmp) pairs key value

abbrev pub pair_eq : List ℕ × List ℕ → List ℕ × List ℕ → Bool
pair_eq a b = pointwise nat_eq a.0 b.0 && pointwise nat_eq a.1 b.1

-- whether the pairs are the same, as a test
abbrev pub pairs_eq : Pairs → Pairs → Bool
pairs_eq = pointwise pair_eq

-- the tests say exactly that they are the same
pair_decides : (a b : List ℕ × List ℕ) → Decides (pair_eq a b) (a ≡ b)
pair_decides a b = (
  λ h i. (
    (bytes_decides a.0 b.0).0 (first_so _ _ h) i,
    (bytes_decides a.1 b.1).0 (second_so _ _ h) i,
  ),
  λ e. subst (λ p. pair_eq a p ≡ true) e
      (λ i. (bytes_decides a.0 a.0).1 refl i && (bytes_decides a.1 a.1).1 refl i),
)

pub pairs_decide : (a b : Pairs) → Decides (pairs_eq a b) (a ≡ b)
pairs_decide = pointwise_decides pair_decides

-- the test of them is an equivalence
pub pairs_equiv : IsEquivalence pairs_eq
pairs_equiv = lists_equiv (and_equiv (on_equiv (λ pair. pair.0) nat_list_eq_equiv)
    (on_equiv (λ pair. pair.1) nat_list_eq_equiv))

-- what a hasher is fed of them
abbrev pub fed_by : Pairs → HashWrites
fed_by pairs = fed.slice (λ pair. fed.str pair.0 ++ fed.slice fed.u8 pair.1) pairs
