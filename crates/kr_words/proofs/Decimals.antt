-- What `parse` reads of a number in decimal digits.
use Rattle.std.proofs.Common.{◌≡◌, ◌≢◌, ℕ, ◌<◌, ◌≤◌, ◌^◌, ◌⊎◌, ◌∙◌, List, [], ◌∷◌, length, get_or}
use Rattle.std.proofs.Common.{Option, Result, Ok, Err, MatchOption, refl, sym, inl, inr, arith}
use Rattle.std.proofs.Common.{subst, ◌+◌, ◌*◌, Bool, IsTrue, ◌↔◌, not, true, false, eqb, codes}
use Rattle.std.proofs.Common.{zero, suc, ap}
use Rattle.std.specs.Char.{digit_value, IsAsciiDigit}
use Rattle.std.specs.Cmp.Lexicographic.{pointwise}
use Rattle.std.proofs.lemmas.Bool.Decides.{nat_tests}
use Rattle.std.proofs.lemmas.Slice.Eq.{bytes_eq-Decides}
use Rattle.std.specs.Result.{result_ok}
use Rattle.std.specs.Int.{IsInRange}
use Rattle.std.specs.Str.Parse.{digits_value, digits_value_after, ParsesUnsigned}
use Rattle.std.proofs.lemmas.Str.Parse.{IsNumeralModel, numerals_by_value, tells_by_index}
use Rattle.std.proofs.lemmas.Str.Parse.{parse_plain}
use Rattle.std.specs.Fmt.{decimal}
use Rattle.std.proofs.lemmas.List.Elements.{All-from_get_or}
use Rattle.std.proofs.lemmas.Fmt.{decimal_digit, decimal-digits_value, decimal_nonempty}
use Rattle.std.proofs.lemmas.Fmt.{digits_decimal, digits_value-decimal, first_decimal}
use Rattle.kr_words.specs.Numerals.{IsNumeral, IsDecimal}

abbrev AreDigits : List ℕ → Type 0
AreDigits text = (i : ℕ) → i < length text → IsInRange 48 57 (get_or text i 0)

own : IsNumeralModel AreDigits (digits_value 10)
own = numerals_by_value AreDigits tells_by_index

unsigned : (text : List ℕ) → IsNumeral text → get_or text 0 0 ≢ 43
unsigned text h e = omega (arith, h.1 0 0 (omega arith))

large : (text : List ℕ) (n : ℕ) → IsDecimal text n → (digits_value 10 text < 2 ^ 64 → ⊥)
    → 2 ^ 64 ≤ n
large text n d none = grind (arith, d.1, none)

parsed : {E : Type 0} (text : List ℕ) (r : Result ℕ E) → IsNumeral text
    → ParsesUnsigned 64 10 text r
    → MatchOption (result_ok r) ((n : ℕ) → IsDecimal text n → 2 ^ 64 ≤ n) (λ n. IsDecimal text n)
parsed {E} text (Ok x) h p = let q = parse_plain own {E = E} 64 text (Ok x) p (unsigned text h) in
    (h, sym q.1)
parsed {E} text (Err e) h p =
    λ n d. large text n d (λ small.
    parse_plain own {E = E} 64 text (Err e) p (unsigned text h)
    (λ i lt. h.1 i 0 lt, omega (arith, h.0), small))

pub number_parsed : {E : Type 0} (text : List ℕ) (r : Result ℕ E) (o : Option ℕ) → IsNumeral text
    → ParsesUnsigned 64 10 text r → o ≡ result_ok r
    → MatchOption o ((n : ℕ) → IsDecimal text n → 2 ^ 64 ≤ n) (λ n. IsDecimal text n)
number_parsed text r o h p e =
    subst (λ o. MatchOption o ((n : ℕ) → IsDecimal text n → 2 ^ 64 ≤ n) (λ n. IsDecimal text n))
    (sym e) (parsed text r h p)

single : (text : List ℕ) → IsNumeral text → get_or text 0 0 ≡ 48 → length text ≡ 1
single text h e = elim h.2 [
  | inl ne ↦ absurd (ne e)
  | inr zero_text ↦ subst (λ t. length t ≡ 1) (sym zero_text) refl
]

to_decimal : (text : List ℕ) (n : ℕ) → n < 2 ^ 64 → IsDecimal text n → text ≡ decimal n
to_decimal text n small d =
    sym (decimal-digits_value own text (λ i lt. d.0.1 i 0 lt) (omega (arith, d.0.0))
    (single text d.0) (omega (arith, d.1))) ∙ ap decimal d.1

shortest : (n : ℕ) → n < 2 ^ 64 → (get_or (decimal n) 0 0 ≢ 48) ⊎ (decimal n ≡ codes "0")
shortest zero small = inr (decimal_digit 0 (omega arith))
shortest (suc n) small = inl (λ e. omega (arith, first_decimal (suc n) (omega arith) small, e))

from_decimal : (text : List ℕ) (n : ℕ) → n < 2 ^ 64 → text ≡ decimal n → IsDecimal text n
from_decimal text n small e =
    subst (λ t. IsDecimal t n) (sym e) (
      (
        omega (arith, decimal_nonempty n small),
        All-from_get_or IsAsciiDigit (decimal n) 0 (digits_decimal own n small),
        shortest n small,
      ),
      digits_value-decimal own n small,
    )

-- below 2^64 a number is written as std writes it
pub written : (text : List ℕ) (n : ℕ) → n < 2 ^ 64 → IsDecimal text n ↔ (text ≡ decimal n)
written text n small = (to_decimal text n small, from_decimal text n small)

after_ge : (n : ℕ) (text : List ℕ) → n ≤ digits_value_after 10 n text
after_ge n [] = omega arith
after_ge n (c ∷ text) = omega (arith, after_ge (n * 10 + digit_value c) text)

digit_some : (c : ℕ) → IsAsciiDigit c → c ≢ 48 → 1 ≤ digit_value c
digit_some c d ne = grind (arith, nat_tests)

positive : (text : List ℕ) → IsNumeral text → (text ≡ codes "0" → ⊥) → 1 ≤ digits_value 10 text
positive [] h some = absurd (omega (arith, h.0))
positive (c ∷ text) h some = elim h.2 [
  | inl ne ↦ (let d = digit_some c (h.1 0 0 (omega arith)) ne in
      omega (arith, d, after_ge (0 * 10 + digit_value c) text))
  | inr zero_text ↦ absurd (some zero_text)
]

zero_not : (text : List ℕ) (n : ℕ) → text ≡ codes "0" → IsDecimal text n → 1 ≤ n → ⊥
zero_not text n e d some = let f : digits_value 10 text ≡ 0 =
    subst (λ t. digits_value 10 t ≡ 0) (sym e) refl in omega (arith, f, d.1, some)

not_zero : (text : List ℕ) (t r : Bool) → r ≡ not t → (t ≡ true → text ≡ codes "0")
    → (text ≡ codes "0" → t ≡ true) → IsNumeral text
    → IsTrue r ↔ ((n : ℕ) × IsDecimal text n × (1 ≤ n))
not_zero text true r e f g h = (λ s. cc, λ w. absurd (zero_not text w.0 (f refl) w.1 w.2))
not_zero text false r e f g h =
    (λ s. (digits_value 10 text, (h, refl), positive text h (λ z. let b = g z in cc)), λ w. e)

pub size_is : (text : List ℕ) (r : Bool) → r ≡ not (pointwise eqb text (codes "0")) → IsNumeral text
    → IsTrue r ↔ ((n : ℕ) × IsDecimal text n × (1 ≤ n))
size_is text r e h = let d = bytes_eq-Decides text (codes "0") in
    not_zero text (pointwise eqb text (codes "0")) r e d.0 d.1 h
