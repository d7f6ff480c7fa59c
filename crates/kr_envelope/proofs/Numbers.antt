-- The shortest varint of a number, group by group, and that it is one.
use Rattle.std.proofs.Common.{◌≡◌, ℕ, zero, suc, ◌+◌, ◌/◌, ◌%◌, ◌^◌, ◌<◌, ◌≤◌, List, [], ◌∷◌, ◌++◌, length, drop, get_or, add-one, Bool, true, false, refl, sym, ◌∙◌, ap, subst, arith, append_assoc}
use Rattle.std.specs.Prelude.{nat_lt}
use Rattle.std.proofs.Math.Nat.{pow-suc}
use Rattle.std.proofs.lemmas.Bool.Decides.{nat_tests}
use Rattle.kr_envelope.specs.Wire.{AreGroups, number, IsVarint}
use Rattle.std.specs.List.{flat_map, All}
use Rattle.std.specs.Str.{IsUtf8}
use Rattle.std.specs.Prelude.{nat_eq}
use Rattle.std.proofs.lemmas.List.{get_or_default, append-nil, drop_all}
use Rattle.std.proofs.Math.Seq.{drop-cons}
use Rattle.kr_base.specs.Limits.{pairs_size}
use Rattle.kr_base.specs.Pairs.{Pairs}
use Rattle.kr_envelope.specs.Canonical.{groups, shortest, pair_field}

-- what is written so far, and the number that is left
pub record Shortens (start out : List ℕ) (n rest : ℕ) : Type 0 where
  pub left : ℕ
  pub small : rest < 128 ^ suc left
  pub text : out ++ groups left rest ≡ start ++ shortest n

last : (left n : ℕ) → n < 128 → groups left n ≡ n ∷ []
last zero n h = refl
last (suc left) n h = grind (arith, nat_tests)

more : (left n : ℕ) → 128 ≤ n → groups (suc left) n ≡ (n % 128 + 128) ∷ groups left (n / 128)
more left n h = grind (arith, nat_tests)

pub shorten_begun : (start : List ℕ) (n : ℕ) → n < 2 ^ 64 → Shortens start start n n
unfolding shortest
shorten_begun start n h = record { left = 9; small = omega arith; text = refl }

pub shorten_more : (start out : List ℕ) (n rest : ℕ) → Shortens start out n rest → 128 ≤ rest → Shortens start (out ++ (rest % 128 + 128) ∷ []) n (rest / 128)
shorten_more start out n rest s h = by s.left s.small s.text
  where
    by : (left : ℕ) → rest < 128 ^ suc left → out ++ groups left rest ≡ start ++ shortest n → Shortens start (out ++ (rest % 128 + 128) ∷ []) n (rest / 128)
    by zero small text = absurd (omega arith)
    by (suc left) small text = record {
      left = left;
      small = omega (arith, pow-suc 128 (suc left));
      text = append_assoc out ((rest % 128 + 128) ∷ []) (groups left (rest / 128)) ∙ ap (λ l. out ++ l) (sym (more left rest h)) ∙ text;
    }

pub shorten_ended : (start out : List ℕ) (n rest : ℕ) → Shortens start out n rest → rest < 128 → out ++ rest ∷ [] ≡ start ++ shortest n
shorten_ended start out n rest s h = ap (λ l. out ++ l) (sym (last s.left rest h)) ∙ s.text

-- how many groups small numbers need
pub one_group : (n : ℕ) → n < 128 → length (shortest n) ≡ 1
unfolding shortest
one_group n h = ap length (last 9 n h)

pub two_groups : (n : ℕ) → 128 ≤ n → n < 16384 → length (shortest n) ≡ 2
unfolding shortest
two_groups n l h = ap length (more 8 n l) ∙ ap (λ k. suc (length k)) (last 8 (n / 128) (omega arith))

pub three_groups : (n : ℕ) → 16384 ≤ n → n < 2097152 → length (shortest n) ≡ 3
unfolding shortest
three_groups n l h = ap length (more 8 n (omega arith)) ∙ ap (λ k. suc (length k)) (more 7 (n / 128) (omega arith)) ∙ ap (λ k. suc (suc (length k))) (last 7 (n / 128 / 128) (omega arith))

-- the groups are a varint of the number
groups_are : (left n : ℕ) → n < 128 ^ suc left → AreGroups (groups left n) × (length (groups left n) ≤ suc left) × (number (groups left n) ≡ n)
groups_are zero n h = (omega arith, omega arith, omega arith)
groups_are (suc left) n h = by (nat_lt n 128) refl (groups_are left (n / 128) (omega (arith, pow-suc 128 (suc left))))
  where
    cons_are : (byte : ℕ) (bytes : List ℕ) → 128 ≤ byte → AreGroups bytes → AreGroups (byte ∷ bytes)
    cons_are byte [] l g = absurd g
    cons_are byte (next ∷ bytes) l g = (l, g)

    by : (b : Bool) → nat_lt n 128 ≡ b → AreGroups (groups left (n / 128)) × (length (groups left (n / 128)) ≤ suc left) × (number (groups left (n / 128)) ≡ n / 128)
        → AreGroups (groups (suc left) n) × (length (groups (suc left) n) ≤ suc (suc left)) × (number (groups (suc left) n) ≡ n)
    by true e rest =
        let low : n < 128 = grind (arith, nat_tests) in
        let is : groups (suc left) n ≡ n ∷ [] = last (suc left) n low in
        (subst AreGroups (sym is) low, omega (arith, ap length is), ap number is ∙ omega arith)
    by false e rest =
        let high : 128 ≤ n = grind (arith, nat_tests) in
        let is = more left n high in
        (subst AreGroups (sym is) (cons_are (n % 128 + 128) (groups left (n / 128)) (omega arith) rest.0), omega (arith, ap length is, rest.1), ap number is ∙ omega (arith, rest.2))

pub shortest_is : (n : ℕ) → n < 2 ^ 64 → IsVarint (shortest n) n
unfolding shortest
shortest_is n h =
    let are = groups_are 9 n (omega arith) in
    record { groups = are.0; short = are.1; value = sym are.2; fits = h }

-- annotations that are written so far, and that their keys are text
pub record Pushes (start out : List ℕ) (pairs : Pairs) (i : ℕ) : Type 0 where
  pub text : out ++ flat_map pair_field (drop i pairs) ≡ start ++ flat_map pair_field pairs
  pub keys : (k : ℕ) (d : List ℕ × List ℕ) → k < i → IsUtf8 (get_or pairs k d).0

pub push_begun : (start : List ℕ) (pairs : Pairs) → Pushes start start pairs 0
push_begun start pairs = record { text = refl; keys = λ k d h. absurd (omega arith) }

pub push_more : (start out after : List ℕ) (pairs : Pairs) (i : ℕ) (e : List ℕ × List ℕ) → Pushes start out pairs i → i < length pairs → e ≡ get_or pairs i e → after ≡ out ++ pair_field e → IsUtf8 e.0 → Pushes start after pairs (i + 1)
push_more start out after pairs i e s h is a u = record {
  text = ap (λ l. l ++ flat_map pair_field (drop (i + 1) pairs)) a ∙ append_assoc out (pair_field e) (flat_map pair_field (drop (i + 1) pairs))
      ∙ ap (λ p. out ++ (pair_field p ++ flat_map pair_field (drop (i + 1) pairs))) is
      ∙ ap (λ n. out ++ (pair_field (get_or pairs i e) ++ flat_map pair_field (drop n pairs))) (add-one i)
      ∙ ap (λ l. out ++ flat_map pair_field l) (sym (drop-cons pairs i e h)) ∙ s.text;
  keys = λ k d l. by k d (nat_eq k i) refl l;
}
  where
    by : (k : ℕ) (d : List ℕ × List ℕ) (b : Bool) → nat_eq k i ≡ b → k < i + 1 → IsUtf8 (get_or pairs k d).0
    by k d true q l =
        let same : k ≡ i = grind (arith, nat_tests) in
        subst (λ (p : List ℕ × List ℕ). IsUtf8 p.0) (is ∙ get_or_default pairs i e d h ∙ ap (λ n. get_or pairs n d) (sym same)) u
    by k d false q l = s.keys k d (grind (arith, nat_tests))

pub push_ended : (start out : List ℕ) (pairs : Pairs) (i : ℕ) → Pushes start out pairs i → length pairs ≤ i → (out ≡ start ++ flat_map pair_field pairs) × All (λ pair. IsUtf8 pair.0) pairs
push_ended start out pairs i s h =
    (sym (append-nil out) ∙ ap (λ l. out ++ flat_map pair_field l) (sym (drop_all i pairs h)) ∙ s.text, λ k d l. s.keys k d (omega arith))

-- a pair by its parts
pub paired : (a b : List ℕ) (p : List ℕ × List ℕ) (l : List ℕ) → a ≡ p.0 → b ≡ p.1 → l ++ pair_field (a, b) ≡ l ++ pair_field p
paired a b p l e f = ap (λ x. l ++ pair_field (x, b)) e ∙ ap (λ x. l ++ pair_field (p.0, x)) f

pub size_at : (pairs : Pairs) (i : ℕ) (d : List ℕ × List ℕ) → i < length pairs → length (get_or pairs i d).0 + length (get_or pairs i d).1 ≤ pairs_size pairs
size_at [] i d h = absurd (omega arith)
size_at (pair ∷ pairs) zero d h = omega arith
size_at (pair ∷ pairs) (suc i) d h = omega (arith, size_at pairs i d (omega arith))
