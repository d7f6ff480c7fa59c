-- That there are no more generations than replicas and configurations that seats may bring.
use Rattle.std.proofs.Common.{◌≡◌, ℕ, zero, suc, ◌<◌, ◌≤◌, ◌+◌, ◌==◌, ◌⊎◌, cond, List, [], ◌∷◌, ◌++◌, length, get_or, Option, None, Some, refl, sym, ap, subst, ◌∙◌, arith, inl, inr, length-append}
use Rattle.std.specs.Prelude.{sum}
use Rattle.std.proofs.lemmas.Bool.{cases_eq, eq-eqb, ne_eqb}
use Rattle.std.proofs.lemmas.List.Sums.{sum_by-cons}
use Rattle.std.proofs.lemmas.List.Elements.{filter-append}
use Rattle.kr_base.specs.Lines.{of_seat}
use Rattle.kr_provider.specs.Publication.{Publication}
use Rattle.kr_rollout.specs.declared.event.Event.{Event}
use Rattle.kr_rollout.specs.declared.event.Event.TheVariants as event
use Rattle.kr_rollout.specs.declared.line.Did.{Did}
use Rattle.kr_rollout.specs.declared.line.Did.TheVariants.{Adopt}
use Rattle.kr_rollout.specs.declared.line.Gave.{Gave}
use Rattle.kr_rollout.specs.declared.line.Gave.TheVariants.{Reloaded, Joined}
use Rattle.kr_rollout.specs.declared.opening.Entry.{Entry}
use Rattle.kr_rollout.specs.declared.opening.Opening.{Opening}
use Rattle.kr_rollout.specs.Entries.{seat_of}
use Rattle.kr_rollout.specs.States.{State}
use Rattle.kr_rollout.specs.Openings.{start_of, room_of}
use Rattle.kr_opening.specs.Replicas.{generations_from}
use Rattle.kr_rollout.specs.Steps.{after, new_generation, new_generations}
use Rattle.kr_rollout.specs.Histories.{state_from, state_of, IsRun, IsLegal}
use Rattle.kr_rollout.specs.Callers.{brings_settings, reloads_in, did_of, Allows, MayAsk}
use Rattle.kr_rollout.specs.inner.Rollouts.{KeepsBudgets}

-- ---- what seats brought

pub reloads_more : (own more : List Entry)
    → reloads_in (own ++ more) ≡ reloads_in own + reloads_in more
reloads_more [] more = omega arith
reloads_more (e ∷ own) more = omega (arith, reloads_more own more)

-- what an entry counts
abbrev counts : Entry → ℕ
counts e = cond (brings_settings e.line.did) 1 0

own_at : (k : ℕ) (e : Entry) (history : List Entry) → e.line.seat ≡ k
    → reloads_in (of_seat seat_of k (e ∷ history))
    ≡ counts e + reloads_in (of_seat seat_of k history)
own_at k e history same = ap (λ b. reloads_in
    (cond b (e ∷ of_seat seat_of k history) (of_seat seat_of k history)))
    (eq-eqb e.line.seat k same)

other_at : (k : ℕ) (e : Entry) (history : List Entry) → (e.line.seat ≡ k → ⊥)
    → reloads_in (of_seat seat_of k (e ∷ history)) ≡ reloads_in (of_seat seat_of k history)
other_at k e history other = ap (λ b. reloads_in
    (cond b (e ∷ of_seat seat_of k history) (of_seat seat_of k history)))
    (ne_eqb e.line.seat k other)

-- what the seats from k on brought, as many as there are budgets
abbrev by_seats : ℕ → List ℕ → List Entry → ℕ
by_seats k [] history = 0
by_seats k (budget ∷ budgets) history =
    reloads_in (of_seat seat_of k history) + by_seats (k + 1) budgets history

none_brought : (k : ℕ) (budgets : List ℕ) → by_seats k budgets [] ≡ 0
none_brought k [] = refl
none_brought k (budget ∷ budgets) = omega (arith, none_brought (k + 1) budgets)

before : (k : ℕ) (budgets : List ℕ) (e : Entry) (history : List Entry) → e.line.seat < k
    → by_seats k budgets (e ∷ history) ≡ by_seats k budgets history
before k [] e history l = refl
before k (budget ∷ budgets) e history l = omega (
  arith,
  other_at k e history (λ s. omega (arith, s, l)),
  before (k + 1) budgets e history (omega (arith, l)),
)

above : (k n : ℕ) → k ≤ n → (n ≡ k → ⊥) → k + 1 ≤ n
above zero zero l d = absurd (d refl)
above zero (suc n) l d = omega arith
above (suc k) zero l d = absurd (omega (arith, l))
above (suc k) (suc n) l d = omega (arith, above k n (omega (arith, l)) (λ e. d (ap suc e)))

counted : (k : ℕ) (budgets : List ℕ) (e : Entry) (history : List Entry) → k ≤ e.line.seat
    → e.line.seat < k + length budgets
    → by_seats k budgets (e ∷ history) ≡ counts e + by_seats k budgets history
counted k [] e history a b = absurd (omega (arith, a, b))
counted k (budget ∷ budgets) e history a b =
    by (cases_eq e.line.seat k) (counted (k + 1) budgets e history)
  where
    by : (e.line.seat ≡ k) ⊎ (e.line.seat ≡ k → ⊥)
        → (k + 1 ≤ e.line.seat → e.line.seat < k + 1 + length budgets
        → by_seats (k + 1) budgets (e ∷ history) ≡ counts e + by_seats (k + 1) budgets history)
        → by_seats k (budget ∷ budgets) (e ∷ history)
        ≡ counts e + by_seats k (budget ∷ budgets) history
    by (inl same) again = omega (
      arith,
      own_at k e history same,
      before (k + 1) budgets e history (omega (arith, same)),
    )
    by (inr other) again = omega (
      arith,
      other_at k e history other,
      again (above k e.line.seat a other) (omega (arith, b)),
    )

-- each entry of a run is of a seat that has a budget
brought : (o : Opening) (st : State) (history : List Entry) → IsRun o st history
    → by_seats 0 o.reloads history ≡ reloads_in history
brought o st [] r = none_brought 0 o.reloads
brought o st (e ∷ history) r = omega (
  arith,
  counted 0 o.reloads e history (omega arith) (omega (arith, r.0.seat)),
  brought o (after st e) history r.1,
)

-- ---- within budgets

module _ (history : List Entry) where
  abbrev Within : ℕ → List ℕ → Type 0
  Within k budgets = (i : ℕ) → reloads_in (of_seat seat_of (k + i) history) ≤ get_or budgets i 0

  at_first : (k n : ℕ) → reloads_in (of_seat seat_of (k + 0) history) ≤ n
      → reloads_in (of_seat seat_of k history) ≤ n
  at_first k n l = subst (λ s. reloads_in (of_seat seat_of s history) ≤ n)
      (let e : k + 0 ≡ k = omega arith in e) l

  further : (k budget : ℕ) (budgets : List ℕ) → Within k (budget ∷ budgets)
      → Within (k + 1) budgets
  further k budget budgets each i =
      subst (λ s. reloads_in (of_seat seat_of s history) ≤ get_or budgets i 0)
      (let e : k + suc i ≡ k + 1 + i = omega arith in e) (each (suc i))

  at_most : (k : ℕ) (budgets : List ℕ) → Within k budgets → by_seats k budgets history ≤ sum budgets
  at_most k [] each = omega arith
  at_most k (budget ∷ budgets) each = omega (
    arith,
    at_first k budget (each 0),
    at_most (k + 1) budgets (further k budget budgets each),
    sum_by-cons (λ (n : ℕ). n) budget budgets,
  )

  less : (k : ℕ) (budgets : List ℕ) (place : ℕ) → Within k budgets → place < length budgets
      → reloads_in (of_seat seat_of (k + place) history) + 1 ≤ get_or budgets place 0
      → by_seats k budgets history < sum budgets
  less k [] place each l m = absurd (omega (arith, l))
  less k (budget ∷ budgets) zero each l m =
      let own : reloads_in (of_seat seat_of k history) + 1 ≤ budget =
      subst (λ s. reloads_in (of_seat seat_of s history) + 1 ≤ budget)
      (let e : k + 0 ≡ k = omega arith in e) m in
      omega (
        arith,
        own,
        at_most (k + 1) budgets (further k budget budgets each),
        sum_by-cons (λ (n : ℕ). n) budget budgets,
      )
  less k (budget ∷ budgets) (suc place) each l m = omega (
    arith,
    at_first k budget (each 0),
    less (k + 1) budgets place (further k budget budgets each) (omega (arith, l))
        (subst (λ s. reloads_in (of_seat seat_of s history) + 1 ≤ get_or budgets place 0)
        (let e : k + suc place ≡ k + 1 + place = omega arith in e) m),
    sum_by-cons (λ (n : ℕ). n) budget budgets,
  )

-- ---- generations

given : (did : Did) → length (new_generation did) ≤ cond (brings_settings did) 1 0
given (Adopt replica) = omega arith
given other = omega arith

none_new : (n : ℕ) → 0 ≤ n
none_new n = omega arith

grown : (gave : Gave) (did : Did)
    → length (new_generations gave did) ≤ cond (brings_settings did) 1 0
grown (Reloaded number) did = given did
grown (Joined number) did = given did
grown other did = none_new _

generations_within : (st : State) (history : List Entry)
    → length (state_from st history).generations ≤ length st.generations + reloads_in history
generations_within st [] = omega arith
generations_within st (e ∷ history) = omega (
  arith,
  generations_within (after st e) history,
  grown e.line.gave e.line.did,
  length-append st.generations (new_generations e.line.gave e.line.did),
)

opening_few : (k : ℕ) (rs : List (Option Publication)) → length (generations_from k rs) ≤ length rs
opening_few k [] = omega arith
opening_few k (None ∷ rs) = omega (arith, opening_few (k + 1) rs)
opening_few k (Some p ∷ rs) = omega (arith, opening_few (k + 1) rs)

-- where a seat may bring one more, there is room for one more generation
pub room_for : (o : Opening) (history : List Entry) (seat : ℕ) → IsLegal o history
    → KeepsBudgets o history → seat < length o.reloads
    → reloads_in (of_seat seat_of seat history) < get_or o.reloads seat 0
    → length (state_of o history).generations < room_of o
room_for o history seat legal budgets l m = omega (
  arith,
  generations_within (start_of o) history,
  opening_few 0 o.replicas,
  brought o (start_of o) history legal.runs,
  less history 0 o.reloads seat
      (λ i. subst (λ s. reloads_in (of_seat seat_of s history) ≤ get_or o.reloads i 0)
      (let e : i ≡ 0 + i = omega arith in e) (budgets i)) l
      (subst (λ s. reloads_in (of_seat seat_of s history) + 1 ≤ get_or o.reloads seat 0)
      (let e : seat ≡ 0 + seat = omega arith in e) (omega (arith, m))),
)

-- ---- one more entry

pub may_bring : (o : Opening) (seat : ℕ) (own : List Entry) (asked : Event)
    → reloads_in own ≤ get_or o.reloads seat 0 → Allows o seat own asked
    → reloads_in own + cond (brings_settings (did_of asked)) 1 0 ≤ get_or o.reloads seat 0
may_bring o seat own (event.Reload replica p expect) b a = omega (arith, a.2)
may_bring o seat own (event.Join replica p) b a = omega (arith, a.2)
may_bring o seat own other b a = omega (arith, b)

pub budgets_more : (o : Opening) (history : List Entry) (e : Entry) (seat : ℕ) (asked : Event)
    → KeepsBudgets o history → MayAsk o seat (of_seat seat_of seat history) asked
    → e.line.seat ≡ seat → e.line.did ≡ did_of asked → KeepsBudgets o (history ++ e ∷ [])
budgets_more o history e seat asked budgets may seat_is did_is place = by (cases_eq e.line.seat place)
  where
    parts : reloads_in (of_seat seat_of place (history ++ e ∷ []))
        ≡ reloads_in (of_seat seat_of place history)
        + reloads_in (of_seat seat_of place (e ∷ []))
    parts = ap reloads_in (filter-append (λ (x : Entry). seat_of x == place) history (e ∷ []))
        ∙ reloads_more (of_seat seat_of place history) (of_seat seat_of place (e ∷ []))

    one : counts e ≡ cond (brings_settings (did_of asked)) 1 0
    one = ap {B = ℕ} (λ d. cond (brings_settings d) 1 0) did_is

    by : (e.line.seat ≡ place) ⊎ (e.line.seat ≡ place → ⊥)
        → reloads_in (of_seat seat_of place (history ++ e ∷ [])) ≤ get_or o.reloads place 0
    by (inl same) =
        let own : reloads_in (of_seat seat_of place history)
        + cond (brings_settings (did_of asked)) 1 0 ≤ get_or o.reloads place 0 =
        subst (λ s. reloads_in (of_seat seat_of s history)
        + cond (brings_settings (did_of asked)) 1 0 ≤ get_or o.reloads s 0)
        (sym seat_is ∙ same)
        (may_bring o seat (of_seat seat_of seat history) asked (budgets seat) may.allowed) in
        omega (arith, parts, own_at place e [] same, one, own)
    by (inr other) = omega (arith, parts, other_at place e [] other, budgets place)
