-- The entries of one line are its part.
use Rattle.std.specs.Prelude.{◌&&◌, drop}
use Rattle.std.specs.List.{filter}
use Rattle.std.proofs.Common.{◌≡◌, ℕ, zero, suc, ◌+◌, ◌<◌, ◌≤◌, ◌==◌, Bool, true, false, cond, List, [], ◌∷◌, ◌++◌, length, map, get_or, refl, ap, sym, ◌∙◌, arith, append-nil, eqb-true}
use Rattle.std.proofs.lemmas.Bool.{eq-eqb}
use Rattle.kr_base.specs.Lines.{of_seat}
use Rattle.kr_rollout.specs.declared.opening.Entry.{Entry}
use Rattle.kr_rollout.specs.Entries.{seat_of}
use Rattle.kr_workers.specs.Runs.{LineDone, entries_in}
use Rattle.kr_headline.specs.Headline.{Step, entries_of, own_entries}
use Rattle.kr_headline.proofs.Marks.{many_of, mark, marks, place_of}
use Rattle.kr_headline.proofs.Places.{places, places_many}

-- ---- entries by their places

module _ (at : ℕ) where
  -- those whose place is this one
  abbrev pub pick : List ℕ → List Entry → List Entry
  pick [] xs = []
  pick (n ∷ ns) [] = []
  pick (n ∷ ns) (x ∷ xs) = cond (n == at) (x ∷ pick ns xs) (pick ns xs)

  pick_none : (ns : List ℕ) → pick ns [] ≡ []
  pick_none [] = refl
  pick_none (n ∷ ns) = refl

  pick_part : (n : ℕ) (b : Bool) → (n == at) ≡ b → (part : List Entry) (ns : List ℕ)
      (xs : List Entry) → pick (map (λ (e : Entry). n) part ++ ns) (part ++ xs)
      ≡ cond b (part ++ pick ns xs) (pick ns xs)
  pick_part n true is [] ns xs = refl
  pick_part n false is [] ns xs = refl
  pick_part n true is (x ∷ part) ns xs =
      let rest = pick (map (λ (e : Entry). n) part ++ ns) (part ++ xs) in
      ap (λ c. cond c (x ∷ rest) rest) is
      ∙ ap (λ (l : List Entry). x ∷ l) (pick_part n true is part ns xs)
  pick_part n false is (x ∷ part) ns xs =
      let rest = pick (map (λ (e : Entry). n) part ++ ns) (part ++ xs) in
      ap (λ c. cond c (x ∷ rest) rest) is ∙ pick_part n false is part ns xs

  other_place : (n : ℕ) → (n ≡ at → ⊥) → (n == at) ≡ false
  other_place n other = by (n == at) refl
    where
      by : (b : Bool) → (n == at) ≡ b → (n == at) ≡ false
      by true is = absurd (other (eqb-true n at is))
      by false is = is

  pick_past : (n : ℕ) (run : List LineDone) → at < n → pick (places n run) (entries_in run) ≡ []
  pick_past n [] past = refl
  pick_past n (done ∷ run) past =
      pick_part n false (other_place n (λ same. omega (arith, past, same))) done.part
      (places (suc n) run) (entries_in run)
      ∙ pick_past (suc n) run (omega (arith, past))

  pub pick_done : (n : ℕ) (ahead : List LineDone) (done : LineDone) (behind : List LineDone)
      → n + length ahead ≡ at
      → pick (places n (ahead ++ done ∷ behind)) (entries_in (ahead ++ done ∷ behind))
      ≡ done.part
  pick_done n [] done behind is =
      let here : n ≡ at = omega (arith, is) in
      pick_part n true (eq-eqb n at here) done.part (places (suc n) behind) (entries_in behind)
      ∙ ap (λ (l : List Entry). done.part ++ l) (pick_past (suc n) behind (omega (arith, here)))
      ∙ append-nil done.part
  pick_done n (first ∷ ahead) done behind is =
      pick_part n false (other_place n (λ same. omega (arith, is, same))) first.part
      (places (suc n) (ahead ++ done ∷ behind)) (entries_in (ahead ++ done ∷ behind))
      ∙ pick_done (suc n) ahead done behind (omega (arith, is))

drop_head : (xs : List ℕ) (n : ℕ) → n < length xs → drop n xs ≡ get_or xs n 0 ∷ drop (suc n) xs
drop_head [] n within = absurd (omega (arith, within))
drop_head (x ∷ xs) zero within = refl
drop_head (x ∷ xs) (suc n) within = drop_head xs n (omega (arith, within))

-- ---- the steps of a line

abbrev is_own : (worker at : ℕ) → Step → Bool
is_own worker at step = step.entry.line.seat == worker && step.at == at

map_cond : (b : Bool) (step : Step) (steps : List Step)
    → entries_of (cond b (step ∷ steps) steps)
    ≡ cond b (step.entry ∷ entries_of steps) (entries_of steps)
map_cond true step steps = refl
map_cond false step steps = refl

module _ (runs : ℕ → List LineDone) (worker at : ℕ) where
  abbrev all_places : List ℕ
  all_places = places 0 (runs worker)

  abbrev own_many : List Entry → ℕ
  own_many front = length (of_seat seat_of worker front)

  own_marks : (front rest : List Entry) → own_many front + own_many rest ≤ length all_places
      → own_entries (marks runs front rest) worker at
      ≡ pick at (drop (own_many front) all_places) (of_seat seat_of worker rest)
  own_marks front [] few = sym (pick_none at (drop (own_many front) all_places))
  own_marks front (e ∷ rest) few = by (seat_of e == worker) refl
      (own_marks (front ++ e ∷ []) rest)
    where
      others : List Step
      others = filter (is_own worker at) (marks runs (front ++ e ∷ []) rest)

      own_rest : List Entry
      own_rest = of_seat seat_of worker rest

      by : (b : Bool) → (seat_of e == worker) ≡ b
          → (own_many (front ++ e ∷ []) + own_many rest ≤ length all_places
          → own_entries (marks runs (front ++ e ∷ []) rest) worker at
          ≡ pick at (drop (own_many (front ++ e ∷ [])) all_places) own_rest)
          → own_entries (marks runs front (e ∷ rest)) worker at
          ≡ pick at (drop (own_many front) all_places) (of_seat seat_of worker (e ∷ rest))
      by false test again =
          let single : of_seat seat_of worker (e ∷ []) ≡ [] = ap (λ c. cond c (e ∷ []) []) test in
          let both : own_many (front ++ e ∷ []) ≡ own_many front =
          many_of runs worker front (e ∷ []) ∙ ap (λ (l : List Entry). own_many front + length l)
          single ∙ omega arith in
          let less : own_many (e ∷ rest) ≡ own_many rest =
          ap (λ c. length (cond c (e ∷ own_rest) own_rest)) test in
          ap (λ c. entries_of (cond (c && place_of runs front e == at) (mark runs front e ∷ others)
          others)) test
          ∙ again (omega (arith, few, both, less))
          ∙ ap (λ n. pick at (drop n all_places) own_rest) both
          ∙ sym (ap (λ c. pick at (drop (own_many front) all_places)
          (cond c (e ∷ own_rest) own_rest)) test)
      by true test again =
          let seat : seat_of e ≡ worker = eqb-true (seat_of e) worker test in
          let single : of_seat seat_of worker (e ∷ []) ≡ e ∷ [] =
          ap (λ c. cond c (e ∷ []) []) test in
          let both : own_many (front ++ e ∷ []) ≡ suc (own_many front) =
          many_of runs worker front (e ∷ []) ∙ ap (λ (l : List Entry). own_many front + length l)
          single ∙ omega arith in
          let more : own_many (e ∷ rest) ≡ suc (own_many rest) =
          ap (λ c. length (cond c (e ∷ own_rest) own_rest)) test in
          let place : place_of runs front e ≡ get_or all_places (own_many front) 0 =
          ap (λ n. get_or (places 0 (runs n)) (length (of_seat seat_of n front)) 0) seat in
          let its : entries_of others
          ≡ pick at (drop (suc (own_many front)) all_places) own_rest =
          again (omega (arith, few, both, more))
          ∙ ap (λ n. pick at (drop n all_places) own_rest) both in
          ap (λ c. entries_of (cond (c && place_of runs front e == at) (mark runs front e ∷ others)
          others)) test
          ∙ map_cond (place_of runs front e == at) (mark runs front e) others
          ∙ ap (λ n. cond (n == at) (e ∷ entries_of others) (entries_of others)) place
          ∙ ap (λ (l : List Entry). cond (get_or all_places (own_many front) 0 == at) (e ∷ l) l) its
          ∙ sym (ap (λ ns. pick at ns (e ∷ own_rest))
          (drop_head all_places (own_many front) (omega (arith, few, more))))
          ∙ sym (ap (λ c. pick at (drop (own_many front) all_places)
          (cond c (e ∷ own_rest) own_rest)) test)

  -- so are those of a line that was done
  pub own_part : (history : List Entry) (ahead : List LineDone) (done : LineDone)
      (behind : List LineDone) → runs worker ≡ ahead ++ done ∷ behind → length ahead ≡ at
      → entries_in (runs worker) ≡ of_seat seat_of worker history
      → own_entries (marks runs [] history) worker at ≡ done.part
  own_part history ahead done behind run_is place parts_are =
      own_marks [] history (omega (arith, places_many 0 (runs worker), ap length parts_are))
      ∙ ap (pick at all_places) (sym parts_are)
      ∙ ap (λ (r : List LineDone). pick at (places 0 r) (entries_in r)) run_is
      ∙ pick_done at 0 ahead done behind (omega (arith, place))
