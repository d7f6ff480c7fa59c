-- Going through the classes in their order, with the loss of the least generation so far.
use Rattle.std.proofs.Common.{◌≡◌, ℕ, ◌<◌, ◌≤◌, ◌+◌, Bool, true, false, List, [], ◌∷◌, ◌++◌, Option, None, Some, length, map, refl, sym, ap, ◌∙◌, arith}
use Rattle.std.specs.Prelude.{cond, nat_lt, if◌then◌else◌, ⊤}
use Rattle.std.specs.List.{filter, flat_map, cons_option, AllByRecursion}
use Rattle.std.specs.Option.{option_map}
use Rattle.std.proofs.lemmas.Bool.{lt-ltb}
use Rattle.kr_config.specs.declared.class.Class.{Class}
use Rattle.kr_config.specs.declared.who.Who.{Who}
use Rattle.kr_config.specs.Kept.{ConfigEntry}
use Rattle.kr_config.specs.Lists.{class_list}
use Rattle.kr_config.specs.Nexts.{IsNextClass}
use Rattle.kr_judge.specs.declared.judging.Writer.{Writer}
use Rattle.kr_judge.specs.declared.judging.Writer.TheVariants.{Other, New}
use Rattle.kr_judge.specs.Boards.{GenerationState}
use Rattle.kr_judge.specs.Providers.{unread_writer}
use Rattle.kr_judge.specs.Verdicts.{with_numbers, is_other, others, judged_classes, lost_writers, unread_writers, first}
use Rattle.kr_judge.specs.inner.Losses.{Loss, losses_at, losses_by, losses_on, losses, nearer}
use Rattle.kr_judge.proofs.Tables.{rest_after, next_step, next_none, table_sorted}

-- numbers ascend
abbrev Others : Type 0
Others = List (ℕ × GenerationState)

abbrev AreLater : ℕ → Others → Type 0
AreLater number all = AllByRecursion (λ (other : ℕ × GenerationState). number < other.0) all

abbrev Ascend : Others → Type 0
Ascend [] = ⊤
Ascend (other ∷ all) = AreLater other.0 all × Ascend all

later_numbers : (number next : ℕ) (test : ℕ × GenerationState → Bool) (generations : List GenerationState) → number < next → AreLater number (filter test (with_numbers next generations))
later_numbers number next test [] h = tt
later_numbers number next test (g ∷ gs) h = by (test (next, g)) (later_numbers number (next + 1) test gs (omega (arith, h)))
  where
    by : (v : Bool) → AreLater number (filter test (with_numbers (next + 1) gs)) → AreLater number (cond v ((next, g) ∷ filter test (with_numbers (next + 1) gs)) (filter test (with_numbers (next + 1) gs)))
    by true rest = (h, rest)
    by false rest = rest

numbers_ascend : (next : ℕ) (test : ℕ × GenerationState → Bool) (generations : List GenerationState) → Ascend (filter test (with_numbers next generations))
numbers_ascend next test [] = tt
numbers_ascend next test (g ∷ gs) = by (test (next, g)) (numbers_ascend (next + 1) test gs)
  where
    by : (v : Bool) → Ascend (filter test (with_numbers (next + 1) gs)) → Ascend (cond v ((next, g) ∷ filter test (with_numbers (next + 1) gs)) (filter test (with_numbers (next + 1) gs)))
    by true rest = (later_numbers next (next + 1) test gs (omega arith), rest)
    by false rest = rest

others_ascend : (replica : ℕ) (generations : List GenerationState) → Ascend (others replica generations)
unfolding others
others_ascend replica generations = numbers_ascend 0 (λ n. is_other replica n.1) generations

-- of two losses
nearer_none : (best : Option Loss) → nearer best None ≡ best
nearer_none None = refl
nearer_none (Some x) = refl

not_less : (a b : ℕ) → b ≤ a → nat_lt a b ≡ false
not_less a b h = grind (arith, h)

nearer_joined : (a b c : Option Loss) → nearer (nearer a b) c ≡ nearer a (nearer b c)
nearer_joined None b c = refl
nearer_joined (Some x) None c = refl
nearer_joined (Some x) (Some y) None = nearer_none (nearer (Some x) (Some y))
nearer_joined (Some x) (Some y) (Some z) = by (nat_lt y.0 x.0) refl (nat_lt z.0 y.0) refl (nat_lt z.0 x.0) refl
  where
    by : (p : Bool) → nat_lt y.0 x.0 ≡ p → (q : Bool) → nat_lt z.0 y.0 ≡ q → (r : Bool) → nat_lt z.0 x.0 ≡ r → nearer (if p then Some y else Some x) (Some z) ≡ nearer (Some x) (if q then Some z else Some y)
    by true e true f true g = ap (λ (v : Bool). if v then Some z else Some y) f ∙ sym (ap (λ (v : Bool). if v then Some z else Some x) g)
    by true e true f false g = absurd (grind (arith, e, f, g))
    by true e false f r g = ap (λ (v : Bool). if v then Some z else Some y) f ∙ sym (ap (λ (v : Bool). if v then Some y else Some x) e)
    by false e true f r g = refl
    by false e false f true g = absurd (grind (arith, e, f, g))
    by false e false f false g = ap (λ (v : Bool). if v then Some z else Some x) g ∙ sym (ap (λ (v : Bool). if v then Some y else Some x) e)

-- the losses at one class, and at those after it
abbrev on : Writer → List Class → List ConfigEntry → Others → List Loss
on writer classes rows all = flat_map (losses_by writer classes rows) all

-- what one generation loses at a class
abbrev at_one : Writer → Class → List ConfigEntry → List ConfigEntry → Option Who
at_one Other class own new = unread_writer (class_list own class) (class_list new class)
at_one New class own new = unread_writer (class_list new class) (class_list own class)

by_class : (writer : Writer) (class : Class) (classes : List Class) (rows : List ConfigEntry) (other : ℕ × GenerationState)
    → losses_by writer (class ∷ classes) rows other ≡ cons_option (option_map (λ who. (other.0, class, who)) (at_one writer class other.1.rows rows)) (losses_by writer classes rows other)
by_class Other class classes rows other = by (at_one Other class other.1.rows rows)
  where
    by : (o : Option Who) → map (λ lost. (other.0, lost.0, lost.1)) (cons_option (option_map (λ who. (class, who)) o) (losses_at Other classes other.1.rows rows)) ≡ cons_option (option_map (λ who. (other.0, class, who)) o) (losses_by Other classes rows other)
    by None = refl
    by (Some who) = refl
by_class New class classes rows other = by (at_one New class other.1.rows rows)
  where
    by : (o : Option Who) → map (λ lost. (other.0, lost.0, lost.1)) (cons_option (option_map (λ who. (class, who)) o) (losses_at New classes other.1.rows rows)) ≡ cons_option (option_map (λ who. (other.0, class, who)) o) (losses_by New classes rows other)
    by None = refl
    by (Some who) = refl

nothing_by : (writer : Writer) (rows : List ConfigEntry) (other : ℕ × GenerationState) → losses_by writer [] rows other ≡ []
nothing_by Other rows other = refl
nothing_by New rows other = refl

nothing_on : (writer : Writer) (rows : List ConfigEntry) (all : Others) → on writer [] rows all ≡ []
nothing_on writer rows [] = refl
nothing_on writer rows (other ∷ all) = ap (λ l. l ++ on writer [] rows all) (nothing_by writer rows other) ∙ nothing_on writer rows all

-- a loss is of its generation, or of a later one
own_first : (number : ℕ) (found : List (Class × Who)) (rest : List Loss) (loss : Loss) → first (map (λ lost. (number, lost.0, lost.1)) found ++ rest) ≡ Some loss → ((x : Loss) → first rest ≡ Some x → number < x.0) → number ≤ loss.0
own_first number [] rest loss e later = (let h : number < loss.0 = later loss e in omega (arith, h))
own_first number (f ∷ fs) rest loss e later = (let same : (number, f.0, f.1) ≡ loss = cc in omega (arith, ap (λ (l : Loss). l.0) same))

later_first : (writer : Writer) (classes : List Class) (rows : List ConfigEntry) (number : ℕ) (all : Others) → AreLater number all → (x : Loss) → first (on writer classes rows all) ≡ Some x → number < x.0
later_first writer classes rows number [] later x e = cc
later_first writer classes rows number (other ∷ all) later x e = by (losses_at writer classes other.1.rows rows) e (later_first writer classes rows number all later.1 x)
  where
    by : (found : List (Class × Who)) → first (map (λ lost. (other.0, lost.0, lost.1)) found ++ on writer classes rows all) ≡ Some x → (first (on writer classes rows all) ≡ Some x → number < x.0) → number < x.0
    by [] k rest = rest k
    by (f ∷ fs) k rest = (let same : (other.0, f.0, f.1) ≡ x = cc in omega (arith, ap (λ (l : Loss). l.0) same, later.0))

-- the first at a class and those after it is the nearer of both
one_class : (writer : Writer) (class : Class) (classes : List Class) (rows : List ConfigEntry) (all : Others) → Ascend all
    → first (on writer (class ∷ classes) rows all) ≡ nearer (first (on writer (class ∷ []) rows all)) (first (on writer classes rows all))
one_class writer class classes rows [] ascend = refl
one_class writer class classes rows (other ∷ all) ascend =
    ap (λ l. first (l ++ on writer (class ∷ classes) rows all)) (by_class writer class classes rows other)
    ∙ by (at_one writer class other.1.rows rows) (losses_at writer classes other.1.rows rows) (one_class writer class classes rows all ascend.1)
    ∙ ap (λ l. nearer (first (l ++ on writer (class ∷ []) rows all)) (first (on writer classes rows (other ∷ all)))) (ap (cons_option (option_map (λ who. (other.0, class, who)) (at_one writer class other.1.rows rows))) (sym (nothing_by writer rows other)) ∙ sym (by_class writer class [] rows other))
  where
    numbered : List (Class × Who) → List Loss
    numbered found = map (λ lost. (other.0, lost.0, lost.1)) found

    by : (o : Option Who) (found : List (Class × Who)) → first (on writer (class ∷ classes) rows all) ≡ nearer (first (on writer (class ∷ []) rows all)) (first (on writer classes rows all))
        → first (cons_option (option_map (λ who. (other.0, class, who)) o) (numbered found) ++ on writer (class ∷ classes) rows all)
        ≡ nearer (first (cons_option (option_map (λ who. (other.0, class, who)) o) [] ++ on writer (class ∷ []) rows all)) (first (numbered found ++ on writer classes rows all))
    by (Some who) found rest = stays (first (numbered found ++ on writer classes rows all)) refl
      where
        stays : (v : Option Loss) → first (numbered found ++ on writer classes rows all) ≡ v → Some (other.0, class, who) ≡ nearer (Some (other.0, class, who)) v
        stays None e = refl
        stays (Some x) e = sym (ap (λ (v : Bool). if v then Some x else Some (other.0, class, who)) (not_less x.0 other.0 (own_first other.0 found (on writer classes rows all) x e (later_first writer classes rows other.0 all ascend.0))))
    by None [] rest = rest
    by None (f ∷ fs) rest = comes (first (on writer (class ∷ []) rows all)) refl
      where
        comes : (v : Option Loss) → first (on writer (class ∷ []) rows all) ≡ v → Some (other.0, f.0, f.1) ≡ nearer v (Some (other.0, f.0, f.1))
        comes None e = refl
        comes (Some x) e = sym (ap (λ (v : Bool). if v then Some (other.0, f.0, f.1) else Some x) (lt-ltb other.0 x.0 (later_first writer (class ∷ []) rows other.0 all ascend.0 x e)))

all_losses : (writer : Writer) (replica : ℕ) (rows : List ConfigEntry) (generations : List GenerationState) → losses writer replica rows generations ≡ losses_on writer (judged_classes rows generations) replica rows generations
unfolding lost_writers unread_writers
all_losses Other replica rows generations = refl
all_losses New replica rows generations = refl

-- the nearest so far and what is left of the classes decide
pub record AreNearest (writer : Writer) (replica : ℕ) (rows : List ConfigEntry) (generations : List GenerationState) (after : Option Class) (best : Option Loss) : Type 0 where
  pub first_is : first (losses writer replica rows generations) ≡ nearer best (first (losses_on writer (rest_after after (judged_classes rows generations)) replica rows generations))

pub nearest_begin : (writer : Writer) (replica : ℕ) (rows : List ConfigEntry) (generations : List GenerationState) → AreNearest writer replica rows generations None None
nearest_begin writer replica rows generations = record { first_is = ap (first {X = Loss}) (all_losses writer replica rows generations) }

pub nearest_more : (writer : Writer) (replica : ℕ) (rows : List ConfigEntry) (generations : List GenerationState) (after : Option Class) (class : Class) (best found new : Option Loss) → AreNearest writer replica rows generations after best
    → IsNextClass (judged_classes rows generations) after (Some class) → found ≡ first (losses_on writer (class ∷ []) replica rows generations) → new ≡ nearer best found → AreNearest writer replica rows generations (Some class) new
nearest_more writer replica rows generations after class best found new before next at e =
    let classes : List Class = judged_classes rows generations in
    let left : Option Loss = first (losses_on writer (rest_after (Some class) classes) replica rows generations) in record {
      first_is = before.first_is ∙ ap (λ l. nearer best (first (losses_on writer l replica rows generations))) (next_step classes after class (table_sorted _) next)
          ∙ ap (nearer best) (one_class writer class (rest_after (Some class) classes) rows (others replica generations) (others_ascend replica generations))
          ∙ sym (nearer_joined best (first (losses_on writer (class ∷ []) replica rows generations)) left)
          ∙ ap (λ f. nearer (nearer best f) left) (sym at) ∙ ap (λ b. nearer b left) (sym e);
    }

pub nearest_end : (writer : Writer) (replica : ℕ) (rows : List ConfigEntry) (generations : List GenerationState) (after : Option Class) (best : Option Loss) → AreNearest writer replica rows generations after best
    → IsNextClass (judged_classes rows generations) after None → best ≡ first (losses writer replica rows generations)
nearest_end writer replica rows generations after best before next =
    sym (before.first_is ∙ ap (λ l. nearer best (first (losses_on writer l replica rows generations))) (next_none (judged_classes rows generations) after next)
    ∙ ap (λ l. nearer best (first l)) (nothing_on writer rows (others replica generations)) ∙ nearer_none best)

pub left_smaller : (rows : List ConfigEntry) (generations : List GenerationState) (after : Option Class) (class : Class) → IsNextClass (judged_classes rows generations) after (Some class)
    → length (rest_after (Some class) (judged_classes rows generations)) < length (rest_after after (judged_classes rows generations))
left_smaller rows generations after class next =
    let e : length (rest_after after (judged_classes rows generations)) ≡ length (class ∷ rest_after (Some class) (judged_classes rows generations))
    = ap (length {A = Class}) (next_step (judged_classes rows generations) after class (table_sorted _) next) in
    omega (arith, e)
