-- What steps over told files, tapes and statuses have in common: links, seeds, and what is read of
-- a tape go one way.
use Rattle.std.proofs.Common.{◌≡◌, ℕ, suc, List, [], ◌∷◌, Option, None, Some, Ok, Err, Contains, map, refl, sym, ◌∙◌, ap, subst, arith}
use Rattle.std.specs.Prelude.{Result, IsSome}
use Rattle.kr_kms.specs.Health.{breach_in}
use Rattle.kr_kms.specs.declared.health.Field.{Field}
use Rattle.kr_kms.specs.declared.plugin.Wrapped.{Wrapped}
use Rattle.kr_kms.specs.declared.seeds.SeedRow.{SeedRow}
use Rattle.kr_cmd_steps.specs.Phases.{by_result}
use Rattle.kr_kms.specs.declared.plugin.Status.{Status}
use Rattle.kr_cmd_steps.specs.Plugins.{borrow_links_of, make_seeds, seed_row, unless_breach, wrap_seed}
use Rattle.kr_cmd_steps.specs.Steps.{Steps, load, take_input, borrow_dice, borrow_tape, read_tape, write_row, keep_rows, settle, give_back, draw, borrow_link, ask_status, wrap, unwrap, note, find, refuse, give, and_then, StepState, with_dice, or_empty}
use Rattle.kr_cmd_steps.specs.declared.programs.Program.{Program}
use Rattle.kr_cmd_messages.specs.declared.refusal.Refusal.{Refusal}
use Rattle.kr_cmd_messages.specs.declared.refusal.Outcome.{Outcome}
use Rattle.kr_cmd_laws.proofs.OnePoint.{IsSettled}

-- ---- links and seeds

module _ (next : Steps Outcome) (first : ℕ × List ℕ → Option Status)
    (go_on : (l r : StepState) → l.links ≡ first → r.links ≡ first → IsSettled next next l r) where
  pub settled_links_of : (seat : ℕ) (programs : List Program) (l r : StepState) → l.links ≡ first
      → r.links ≡ first → IsSettled (borrow_links_of seat programs next)
      (borrow_links_of seat programs next) l r
  settled_links_of seat [] l r x y = go_on l r x y
  settled_links_of seat (program ∷ programs) l r x y = settled_links_of seat programs _ _ x y

-- what follows the first two follows the second of them
pub regroup : {A B C : Type 0} (first : Steps A) (f : A → Steps B) (g : B → Steps C)
    → and_then (and_then first f) g ≡ and_then first (λ x. and_then (f x) g)
regroup (load name next) f g = λ i. load name (λ bytes. regroup (next bytes) f g i)
regroup (take_input limit long next) f g =
    λ i. take_input limit long (λ bytes. regroup (next bytes) f g i)
regroup (borrow_dice seat next) f g = λ i. borrow_dice seat (regroup next f g i)
regroup (borrow_tape name access absent next) f g =
    λ i. borrow_tape name access absent (regroup next f g i)
regroup (read_tape object name next) f g =
    λ i. read_tape object name (λ bytes. regroup (next bytes) f g i)
regroup (write_row object name store row next) f g =
    λ i. write_row object name store row (regroup next f g i)
regroup (keep_rows name store next) f g = λ i. keep_rows name store (regroup next f g i)
regroup (settle object name next) f g = λ i. settle object name (regroup next f g i)
regroup (draw seat size next) f g = λ i. draw seat size (λ bytes. regroup (next bytes) f g i)
regroup (borrow_link seat plugin program next) f g =
    λ i. borrow_link seat plugin program (regroup next f g i)
regroup (ask_status seat plugin next) f g =
    λ i. ask_status seat plugin (λ status. regroup (next status) f g i)
regroup (wrap seat plugin plain next) f g =
    λ i. wrap seat plugin plain (λ wrapped. regroup (next wrapped) f g i)
regroup (unwrap seat key next) f g = λ i. unwrap seat key (λ bytes. regroup (next bytes) f g i)
regroup (give_back name next) f g = λ i. give_back name (regroup next f g i)
regroup (note text next) f g = λ i. note text (regroup next f g i)
regroup (find B P next) f g = λ i. find B P (λ b. regroup (next b) f g i)
regroup (refuse why) f g = refl
regroup (give x) f g = refl

abbrev names_made : List SeedRow → List (List ℕ)
names_made seeds = map (λ row. row.name) seeds

abbrev more_seeds : List (List ℕ) → SeedRow → Steps (List SeedRow)
more_seeds names row = and_then (make_seeds names) (λ rows. give (row ∷ rows))

pub settled_seeds : (names : List (List ℕ)) (left right : StepState) → right.links ≡ left.links
    → ((plugin : List ℕ) → Contains names plugin → IsSome (left.links (0, plugin)))
    → (next more : List SeedRow → Steps Outcome)
    → ((a b : List SeedRow) (l r : StepState) → names_made a ≡ names → names_made b ≡ names
    → l.links ≡ left.links → r.links ≡ left.links → IsSettled (next a) (more b) l r)
    → IsSettled (and_then (make_seeds names) next) (and_then (make_seeds names) more) left right
settled_seeds [] left right same told next more f = f [] [] left right refl refl refl same
settled_seeds (name ∷ names) left right same told next more f = (
  told name (0, omega arith, refl),
  ap (λ t. t (0, name)) same,
  λ status h k. by_breach (λ x y u v l r al ar. settled_seeds names l r (ar ∙ sym al)
      (λ plugin c. subst (λ (t : ℕ × List ℕ → Option Status). IsSome (t (0, plugin))) (sym al)
      (told plugin (suc c.0, omega (arith, c.1), c.2)))
      (λ rows. next (seed_row name x u ∷ rows)) (λ rows. more (seed_row name y v ∷ rows))
      (λ a b l r e g. λ s t. f (seed_row name x u ∷ a) (seed_row name y v ∷ b) l r
      (ap (λ n. name ∷ n) e) (ap (λ n. name ∷ n) g) (s ∙ al) (t ∙ al))) (breach_in status)
      (record left { heard = h }) (record right { heard = k }) refl same,
)
  where
    after : (a b : SeedRow) (l r : StepState)
        → IsSettled (and_then (make_seeds names) (λ rows. next (a ∷ rows)))
        (and_then (make_seeds names) (λ rows. more (b ∷ rows))) l r
        → IsSettled (and_then (more_seeds names a) next) (and_then (more_seeds names b) more) l r
    after a b l r s =
        subst (λ steps. IsSettled steps (and_then (more_seeds names b) more) l r)
        (sym (regroup (make_seeds names) (λ rows. give (a ∷ rows)) next))
        (subst (λ steps. IsSettled (and_then (make_seeds names) (λ rows. next (a ∷ rows))) steps
        l r) (sym (regroup (make_seeds names) (λ rows. give (b ∷ rows)) more)) s)

    by_breach : ((x y : List ℕ) (u v : Wrapped) (l r : StepState) → l.links ≡ left.links
        → r.links ≡ left.links
        → IsSettled (and_then (make_seeds names) (λ rows. next (seed_row name x u ∷ rows)))
        (and_then (make_seeds names) (λ rows. more (seed_row name y v ∷ rows))) l r)
        → (breach : Option (Field × List ℕ)) (l r : StepState) → l.links ≡ left.links
        → r.links ≡ left.links → IsSettled
        (and_then (and_then (unless_breach name breach (wrap_seed name)) (more_seeds names)) next)
        (and_then (and_then (unless_breach name breach (wrap_seed name)) (more_seeds names)) more)
        l r
    by_breach others (Some breach) l r al ar = refl
    by_breach others None l r al ar = λ x y rx ry p q. λ u v within short h k.
        after (seed_row name x u) (seed_row name y v) (record (with_dice 0 rx l) { heard = h })
        (record (with_dice 0 ry r) { heard = k }) (others x y u v _ _ al ar)

-- what was read is one thing, from which the first steps go on, and then the others
pub settled_pair : {A B : Type 0} (left right : StepState) (a b : Result A Refusal) (f : A → Steps B)
    (g : B → Steps Outcome) → a ≡ b
    → ((x : A) → IsSettled (and_then (f x) g) (and_then (f x) g) left right)
    → IsSettled (and_then (and_then (by_result a) f) g) (and_then (and_then (by_result b) f) g)
    left right
settled_pair {A} left right a b f g e s =
    subst (λ r. IsSettled (and_then (and_then (by_result a) f) g)
    (and_then (and_then (by_result r) f) g) left right) e (by_cases a)
  where
    by_cases : (r : Result A Refusal) → IsSettled (and_then (and_then (by_result r) f) g)
        (and_then (and_then (by_result r) f) g) left right
    by_cases (Ok x) = s x
    by_cases (Err why) = refl

-- a tape that is told is told when it may be made
pub told_or_empty : (told : Option (Option (List ℕ))) → IsSome told → IsSome (or_empty told)
told_or_empty None t = absurd cc
told_or_empty (Some None) t = refl
told_or_empty (Some (Some bytes)) t = refl
