-- Lists, the entries of a seat, and what lines and replies tell.
use Rattle.std.specs.Prelude.{cond, slice_get}
use Rattle.std.proofs.Common.{◌≡◌, ℕ, zero, suc, ◌+◌, ◌<◌, ◌≤◌, ◌==◌, List, [], ◌∷◌, ◌++◌, length, get_or, Option, None, Some, refl, ap, ◌∙◌, arith}
use Rattle.std.proofs.lemmas.Bool.{eq-eqb}
use Rattle.std.proofs.lemmas.List.Elements.{filter-append}
use Rattle.std.proofs.lemmas.Option.{none-some}
use Rattle.kr_base.specs.Lines.{of_seat}
use Rattle.kr_provider.specs.Reading.{Reading, data_of, refused}
use Rattle.kr_rollout.specs.Entries.{seat_of}
use Rattle.kr_rollout.specs.declared.opening.Entry.{Entry}
use Rattle.kr_script.specs.declared.script.ScriptLine.{ScriptLine}
use Rattle.kr_script.specs.declared.script.ScriptLine.TheVariants as line
use Rattle.kr_script.specs.declared.told.Told.{Told}
use Rattle.kr_script.specs.declared.told.Told.TheVariants as told

-- ---- lists

pub first_in : {X : Type 0} (xs : List X) (n : ℕ) → n < length xs → X
first_in [] n l = absurd (omega (arith, l))
first_in (x ∷ xs) n l = x

-- a place that has something is below
pub below_of : {X : Type 0} (xss : List (List X)) (i n : ℕ) (x : X)
    → slice_get (get_or xss i []) n ≡ Some x → i < length xss
below_of [] i n x is = absurd (none-some x is)
below_of (xs ∷ xss) zero n x is = omega arith
below_of (xs ∷ xss) (suc i) n x is = let l = below_of xss i n x is in omega (arith, l)

pub past_end : {X : Type 0} (xss : List (List X)) (i : ℕ) → length xss ≤ i → get_or xss i [] ≡ []
past_end [] i past = refl
past_end (xs ∷ xss) zero past = absurd (omega (arith, past))
past_end (xs ∷ xss) (suc i) past = past_end xss i (omega (arith, past))

pub plus_one : (n : ℕ) → suc n ≡ n + 1
plus_one n = omega arith

pub some_below : {X : Type 0} (xs : List X) (i : ℕ) (x : X) → slice_get xs i ≡ Some x
    → i < length xs
some_below [] i x is = absurd (none-some x is)
some_below (y ∷ xs) zero x is = omega arith
some_below (y ∷ xs) (suc i) x is = let l = some_below xs i x is in omega (arith, l)

-- ---- the entries of a seat

pub split_own : (seat : ℕ) (front : List Entry) (e : Entry) (rest : List Entry) → seat_of e ≡ seat
    → of_seat seat_of seat (front ++ e ∷ rest)
    ≡ of_seat seat_of seat front ++ e ∷ of_seat seat_of seat rest
split_own seat front e rest same =
    filter-append (λ (x : Entry). seat_of x == seat) front (e ∷ rest)
    ∙ ap (λ b. of_seat seat_of seat front
    ++ cond b (e ∷ of_seat seat_of seat rest) (of_seat seat_of seat rest))
    (eq-eqb (seat_of e) seat same)

-- ---- readings of replies

abbrev pub reading_in : Told → Option Reading
reading_in (told.Got revision bytes) = Some (data_of bytes)
reading_in (told.Value why) = Some (refused why)
reading_in reply = None

abbrev pub revision_in : Told → Option ℕ
revision_in (told.Got revision bytes) = Some revision
revision_in reply = None

abbrev pub path_in : ScriptLine → Option (List ℕ)
path_in (line.Get path) = Some path
path_in asked = None
