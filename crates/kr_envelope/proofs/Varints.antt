-- The varint that bytes begin with: there is at most one, and it ends at the first byte below 128.
use Rattle.std.proofs.Common.{◌≡◌, ℕ, zero, suc, ◌+◌, ◌-◌, ◌*◌, ◌%◌, ◌^◌, ◌<◌, ◌≤◌, List, [], ◌∷◌, ◌++◌, length, take, drop, get_or, Some, None, sym, ◌∙◌, ap, subst, arith, add-one}
use Rattle.std.specs.Prelude.{position, cond, nat_lt, not}
use Rattle.std.specs.List.{position_or_len}
use Rattle.std.proofs.lemmas.List.{length-append, length-take, append_cancel_left, take-append-drop}
use Rattle.std.proofs.lemmas.List.Quantifiers.{position-Some}
use Rattle.std.proofs.lemmas.Bool.Decides.{nat_tests}
use Rattle.std.proofs.Math.Seq.{take-append_seam, drop-cons}
use Rattle.kr_envelope.specs.Wire.{BeginsSpelled, AreGroups, number, IsVarint}

-- the number from a group on, by the group and those behind it
pub number_drop : (bytes : List ℕ) (i : ℕ) → i < length bytes → number (drop i bytes) ≡ get_or bytes i 0 % 128 + 128 * number (drop (suc i) bytes)
number_drop bytes i h = ap number (drop-cons bytes i 0 h)

pub number_tail : (bytes : List ℕ) (i : ℕ) → number (drop i bytes) ≤ number bytes
number_tail (byte ∷ bytes) (suc i) = omega (arith, number_tail bytes i)
number_tail [] zero = omega arith
number_tail other another = omega arith

pub number_past : (bytes : List ℕ) (i : ℕ) → 0 < i → i ≤ length bytes → 2 ^ 57 ≤ number (drop i bytes) → 2 ^ 64 ≤ number bytes
number_past bytes zero p h l = absurd (omega arith)
number_past bytes (suc i) p h l = omega (arith, number_drop bytes i (omega arith), number_tail bytes i)

stops : (byte n : ℕ) → byte < 128 → cond (not (nat_lt byte 128)) (1 + n) 0 ≡ 0
stops byte n h = grind (arith, nat_tests)

goes_on : (byte n : ℕ) → 128 ≤ byte → cond (not (nat_lt byte 128)) (1 + n) 0 ≡ 1 + n
goes_on byte n h = grind (arith, nat_tests)

-- the groups of a number end at the first byte below 128
groups_end : (groups rest : List ℕ) → AreGroups groups → position_or_len (λ byte. nat_lt byte 128) (groups ++ rest) + 1 ≡ length groups
groups_end [] rest g = absurd g
groups_end (byte ∷ []) rest g = ap (λ n. n + 1) (stops byte (position_or_len (λ byte. nat_lt byte 128) rest) g)
groups_end (byte ∷ next ∷ bytes) rest g =
    let more = groups_end (next ∷ bytes) rest g.1 in
    let here = goes_on byte (position_or_len (λ byte. nat_lt byte 128) (next ∷ bytes ++ rest)) g.0 in
    omega (arith, more, here)

-- and such a byte ends groups
pub groups_take : (bytes : List ℕ) (i : ℕ) → i < length bytes → get_or bytes i 0 < 128 → ((k : ℕ) → k < i → 128 ≤ get_or bytes k 0) → AreGroups (take (suc i) bytes)
groups_take (byte ∷ bytes) zero h l m = l
groups_take (byte ∷ next ∷ bytes) (suc i) h l m = (m 0 (omega arith), groups_take (next ∷ bytes) i (omega arith) l (λ k c. m (suc k) (omega arith)))
groups_take other i h l m = absurd (omega arith)

below_some : (i n : ℕ) → i < n → cond (nat_lt i n) (Some i) None ≡ Some i
below_some i n h = grind (arith, nat_tests)

-- where the varint at the front ends
pub varint_end : (bytes : List ℕ) (n : ℕ) (rest : List ℕ) → (s : BeginsSpelled IsVarint bytes n rest) → position (λ byte. nat_lt byte 128) bytes ≡ Some (length s.0 - 1)
varint_end bytes n rest s =
    let end = groups_end s.0 rest s.1.groups in
    let at : position_or_len (λ byte. nat_lt byte 128) bytes ≡ length s.0 - 1 = ap (position_or_len (λ byte. nat_lt byte 128)) s.2 ∙ omega (arith, end) in
    let size : length bytes ≡ length s.0 + length rest = ap length s.2 ∙ length-append s.0 rest in
    below_some (position_or_len (λ byte. nat_lt byte 128) bytes) (length bytes) (omega (arith, at, end, size)) ∙ ap Some at

pub some_groups : (groups : List ℕ) → AreGroups groups → 1 ≤ length groups
some_groups [] g = absurd g
some_groups (byte ∷ bytes) g = omega arith

-- its groups, by their end
pub varint_groups : (bytes : List ℕ) (n : ℕ) (rest : List ℕ) (last : ℕ) → (s : BeginsSpelled IsVarint bytes n rest) → position (λ byte. nat_lt byte 128) bytes ≡ Some last → (length s.0 ≡ last + 1) × (s.0 ≡ take (last + 1) bytes)
varint_groups bytes n rest last s e =
    let end = varint_end bytes n rest s in
    let same : last ≡ length s.0 - 1 = cc in
    let some : 1 ≤ length s.0 = some_groups s.0 s.1.groups in
    let long : length s.0 ≡ last + 1 = omega arith in
    (long, sym (take-append_seam s.0 rest) ∙ ap (take (length s.0)) (sym s.2) ∙ ap (λ i. take i bytes) long)

-- what is found at the front is a varint
pub varint_found : (bytes front rest : List ℕ) (last value : ℕ) → position (λ byte. nat_lt byte 128) bytes ≡ Some last → last < 10 → front ≡ take (last + 1) bytes → rest ≡ drop (last + 1) bytes → value ≡ number front → value < 2 ^ 64
    → BeginsSpelled IsVarint bytes value rest
varint_found bytes front rest last value e l f r v b =
    let found = position-Some (λ byte. nat_lt byte 128) bytes last 0 e in
    let taken : front ≡ take (suc last) bytes = f ∙ ap (λ i. take i bytes) (add-one last) in (
      front,
      record {
        groups = subst AreGroups (sym taken) (groups_take bytes last found.0 (grind (arith, nat_tests, found.1)) (λ k h. let g = found.2 k h in grind (arith, nat_tests)));
        short = omega (arith, ap length taken, length-take (suc last) bytes);
        value = v;
        fits = b;
      },
      sym (take-append-drop (last + 1) bytes) ∙ ap (λ l. l ++ drop (last + 1) bytes) (sym f) ∙ ap (λ l. front ++ l) (sym r),
    )

-- and is the only one
pub one_varint : (bytes : List ℕ) (n m : ℕ) (rest tail : List ℕ) → BeginsSpelled IsVarint bytes n rest → BeginsSpelled IsVarint bytes m tail → (n ≡ m) × (rest ≡ tail)
one_varint bytes n m rest tail s t =
    let groups = varint_groups bytes n rest (length t.0 - 1) s (varint_end bytes m tail t) in
    let others = varint_groups bytes m tail (length t.0 - 1) t (varint_end bytes m tail t) in
    let fronts : s.0 ≡ t.0 = groups.1 ∙ sym others.1 in (
      s.1.value ∙ ap number fronts ∙ sym t.1.value,
      append_cancel_left s.0 rest tail (sym s.2 ∙ t.2 ∙ ap (λ l. l ++ tail) (sym fronts)),
    )
