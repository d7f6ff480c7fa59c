-- The lines of a history, each with the place of the line that it was added for.
use Rattle.std.specs.Prelude.{All}
use Rattle.std.proofs.Common.{◌≡◌, ℕ, suc, ◌+◌, ◌<◌, ◌≤◌, ◌==◌, cond, List, [], ◌∷◌, ◌++◌, length, get_or, refl, ap, sym, subst, ◌∙◌, arith, length-append, append-nil}
use Rattle.std.proofs.lemmas.Bool.{eq-eqb}
use Rattle.std.proofs.lemmas.List.{append_assoc}
use Rattle.std.proofs.lemmas.List.Elements.{All-cons, All-nil, filter-append}
use Rattle.kr_base.specs.Lines.{of_seat}
use Rattle.kr_rollout.specs.declared.opening.Entry.{Entry}
use Rattle.kr_rollout.specs.Entries.{seat_of}
use Rattle.kr_workers.specs.Runs.{LineDone, entries_in}
use Rattle.kr_headline.specs.Headline.{KeepLineOrder, Step, entries_of}
use Rattle.kr_headline.proofs.Places.{ascend_at, places, places_ascend, places_many}

module _ (runs : ℕ → List LineDone) where
  abbrev pub place_of : (front : List Entry) → (e : Entry) → ℕ
  place_of front e = get_or (places 0 (runs (seat_of e)))
      (length (of_seat seat_of (seat_of e) front)) 0

  abbrev pub mark : (front : List Entry) → (e : Entry) → Step
  mark front e = record { entry = e; at = place_of front e }

  abbrev pub marks : (front rest : List Entry) → List Step
  marks front [] = []
  marks front (e ∷ rest) = mark front e ∷ marks (front ++ e ∷ []) rest

  pub entries_stay : (front rest : List Entry) → entries_of (marks front rest) ≡ rest
  entries_stay front [] = refl
  entries_stay front (e ∷ rest) = ap (λ l. e ∷ l) (entries_stay (front ++ e ∷ []) rest)

  pub marks_many : (front rest : List Entry) → length (marks front rest) ≡ length rest
  marks_many front [] = refl
  marks_many front (e ∷ rest) = ap suc (marks_many (front ++ e ∷ []) rest)

  pub marks_split : (front a : List Entry) (e : Entry) (b : List Entry)
      → marks front (a ++ e ∷ b)
      ≡ marks front a ++ mark (front ++ a) e ∷ marks ((front ++ a) ++ e ∷ []) b
  marks_split front [] e b =
      ap (λ (f : List Entry). mark f e ∷ marks (f ++ e ∷ []) b) (sym (append-nil front))
  marks_split front (x ∷ a) e b = ap (λ l. mark front x ∷ l)
      (marks_split (front ++ x ∷ []) a e b
      ∙ ap (λ (f : List Entry). marks (front ++ x ∷ []) a ++ mark f e ∷ marks (f ++ e ∷ []) b)
      (append_assoc front (x ∷ []) a))

  -- what holds of each entry's mark holds of all
  pub all_marks : (P : Step → Type 0) (front rest : List Entry)
      → ((a : List Entry) (e : Entry) (b : List Entry) → rest ≡ a ++ e ∷ b
      → P (mark (front ++ a) e)) → All P (marks front rest)
  all_marks P front [] each = All-nil P
  all_marks P front (e ∷ rest) each =
      All-cons P (mark front e) (marks (front ++ e ∷ []) rest)
      (subst (λ (f : List Entry). P (mark f e)) (append-nil front) (each [] e rest refl))
      (all_marks P (front ++ e ∷ []) rest (λ a x b is.
      subst (λ (f : List Entry). P (mark f x)) (sym (append_assoc front (e ∷ []) a))
      (each (e ∷ a) x b (ap (λ (l : List Entry). e ∷ l) is))))

  -- ---- in order

  pub one_there : (seat : ℕ) (e : Entry) (rest : List Entry) → seat_of e ≡ seat
      → 0 < length (of_seat seat_of seat (e ∷ rest))
  one_there seat e rest same =
      let is : length (of_seat seat_of seat (e ∷ rest))
      ≡ suc (length (of_seat seat_of seat rest)) =
      ap (λ c. length (cond c (e ∷ of_seat seat_of seat rest) (of_seat seat_of seat rest)))
      (eq-eqb (seat_of e) seat same) in omega (arith, is)

  pub many_of : (seat : ℕ) (xs ys : List Entry) → length (of_seat seat_of seat (xs ++ ys))
      ≡ length (of_seat seat_of seat xs) + length (of_seat seat_of seat ys)
  many_of seat xs ys = ap length (filter-append (λ (x : Entry). seat_of x == seat) xs ys)
      ∙ length-append (of_seat seat_of seat xs) (of_seat seat_of seat ys)

  module _ (history : List Entry)
      (own : (a : List Entry) (e : Entry) (b : List Entry) → history ≡ a ++ e ∷ b
      → entries_in (runs (seat_of e)) ≡ of_seat seat_of (seat_of e) history) where
    later_place : (front : List Entry) (e : Entry) (more : List Entry) (next : Entry)
        (rest : List Entry) → history ≡ ((front ++ e ∷ []) ++ more) ++ next ∷ rest
        → history ≡ front ++ e ∷ (more ++ next ∷ rest) → seat_of next ≡ seat_of e
        → place_of front e ≤ place_of ((front ++ e ∷ []) ++ more) next
    later_place front e more next rest is first same =
        let seat = seat_of e in
        let before = (front ++ e ∷ []) ++ more in
        let counts : length (of_seat seat_of seat before)
        ≡ length (of_seat seat_of seat (front ++ e ∷ [])) + length (of_seat seat_of seat more) =
        many_of seat (front ++ e ∷ []) more in
        let those : length (of_seat seat_of seat (front ++ e ∷ []))
        ≡ length (of_seat seat_of seat front) + length (of_seat seat_of seat (e ∷ [])) =
        many_of seat front (e ∷ []) in
        let all : length (of_seat seat_of seat history)
        ≡ length (of_seat seat_of seat before) + length (of_seat seat_of seat (next ∷ rest)) =
        ap (λ (l : List Entry). length (of_seat seat_of seat l)) is
        ∙ many_of seat before (next ∷ rest) in
        let its : length (entries_in (runs seat)) ≡ length (of_seat seat_of seat history) =
        ap length (own front e (more ++ next ∷ rest) first) in
        let many : length (places 0 (runs seat)) ≡ length (entries_in (runs seat)) =
        places_many 0 (runs seat) in
        let some = one_there seat next rest same in
        subst (λ s. place_of front e ≤ get_or (places 0 (runs s))
        (length (of_seat seat_of s before)) 0) (sym same)
        (ascend_at (places 0 (runs seat)) (places_ascend 0 (runs seat))
        (length (of_seat seat_of seat front)) (length (of_seat seat_of seat before))
        (omega (arith, counts, those)) (omega (arith, all, its, many, some)))

    pub marks_in_order : (front rest : List Entry) → history ≡ front ++ rest
        → KeepLineOrder (marks front rest)
    marks_in_order front [] is = tt
    marks_in_order front (e ∷ rest) is = (
      all_marks (λ (next : Step). next.entry.line.seat ≡ e.line.seat → place_of front e ≤ next.at)
          (front ++ e ∷ []) rest (λ more next b split same.
          let first : history ≡ front ++ e ∷ (more ++ next ∷ b) =
          is ∙ ap (λ (l : List Entry). front ++ e ∷ l) split in
          later_place front e more next b (first ∙ sym
          (append_assoc (front ++ e ∷ []) more (next ∷ b)
          ∙ append_assoc front (e ∷ []) (more ++ next ∷ b))) first same),
      marks_in_order (front ++ e ∷ []) rest (is ∙ sym (append_assoc front (e ∷ []) rest)),
    )
