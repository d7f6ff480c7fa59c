-- The lines of the output can be told apart.
use Rattle.std.proofs.Common.{◌≡◌, ℕ, ◌+◌, ◌%◌, ◌^◌, ◌<◌, ◌≤◌, true, List}
use Rattle.std.proofs.Common.{[], ◌∷◌, ◌++◌, length, refl, sym, ap, ◌∙◌, arith, codes}
use Rattle.std.specs.Prelude.{◌==◌, not, decimal, ⊤}
use Rattle.std.specs.List.{list_all}
use Rattle.std.proofs.lemmas.Bool.{and_parts}
use Rattle.std.proofs.lemmas.Fmt.{decimal_by_steps}
use Rattle.kr_rollout.specs.declared.line.Line.{Line}
use Rattle.kr_script.specs.Fleets.{Fleet}
use Rattle.kr_script.specs.Output.{journal_texts, all_texts, lines_text}
use Rattle.kr_script.specs.Output.{output_texts, seat_worker, event_text, two}
use Rattle.kr_script.specs.Laws.{is_one_line, ToldApart}

heads : {T : Type 0} {x y : T} {xs ys : List T} → x ∷ xs ≡ y ∷ ys → x ≡ y
heads e = cc

tails : {T : Type 0} {x y : T} {xs ys : List T} → x ∷ xs ≡ y ∷ ys → xs ≡ ys
tails e = cc

no_lf : (rest : List ℕ) → is_one_line (10 ∷ rest) ≡ true → ⊥
no_lf rest e = cc

is_lf : (b : ℕ) (rest : List ℕ) → 10 ≡ b → is_one_line (b ∷ rest) ≡ true → ⊥
is_lf b rest e h = no_lf rest (ap (λ x. is_one_line (x ∷ rest)) e ∙ h)

-- two lines before an LF
cut_once : (a b u v : List ℕ) → is_one_line a ≡ true → is_one_line b ≡ true
    → a ++ 10 ∷ u ≡ b ++ 10 ∷ v → (a ≡ b) × (u ≡ v)
cut_once [] [] u v ha hb e = (refl, tails e)
cut_once [] (y ∷ b) u v ha hb e = absurd (is_lf y b (heads e) hb)
cut_once (x ∷ a) [] u v ha hb e = absurd (is_lf x a (sym (heads e)) ha)
cut_once (x ∷ a) (y ∷ b) u v ha hb e =
    let first = heads e in
    let more = cut_once a b u v (and_parts (not (x == 10)) (is_one_line a) ha).1
    (and_parts (not (y == 10)) (is_one_line b) hb).1 (tails e) in
    (ap (λ l. x ∷ l) more.0 ∙ ap (λ z. z ∷ b) first, more.1)

no_end : (y : List ℕ) (rest : List ℕ) → [] ≡ y ++ 10 ∷ rest → ⊥
no_end [] rest e = cc
no_end (b ∷ y) rest e = cc

same_texts : (xs ys : List (List ℕ)) → list_all is_one_line xs ≡ true
    → list_all is_one_line ys ≡ true → lines_text xs ≡ lines_text ys → xs ≡ ys
same_texts [] [] hx hy e = refl
same_texts [] (y ∷ ys) hx hy e = absurd (no_end y (lines_text ys) e)
same_texts (x ∷ xs) [] hx hy e = absurd (no_end x (lines_text xs) (sym e))
same_texts (x ∷ xs) (y ∷ ys) hx hy e =
    let px = and_parts (is_one_line x) (list_all is_one_line xs) hx in
    let py = and_parts (is_one_line y) (list_all is_one_line ys) hy in
    let cut = cut_once x y (lines_text xs) (lines_text ys) px.0 py.0 e in
    ap (λ l. x ∷ l) (same_texts xs ys px.1 py.1 cut.1) ∙ ap (λ l. l ∷ ys) cut.0

-- ---- the parts

-- none of the texts is this one
abbrev IsNot : List ℕ → List (List ℕ) → Type 0
IsNot word [] = ⊤
IsNot word (x ∷ xs) = (x ≡ word → ⊥) × IsNot word xs

cut_texts : (word : List ℕ) (xs ys u v : List (List ℕ)) → IsNot word xs → IsNot word ys
    → xs ++ word ∷ u ≡ ys ++ word ∷ v → (xs ≡ ys) × (u ≡ v)
cut_texts word [] [] u v nx ny e = (refl, tails e)
cut_texts word [] (y ∷ ys) u v nx ny e = absurd (ny.0 (sym (heads e)))
cut_texts word (x ∷ xs) [] u v nx ny e = absurd (nx.0 (heads e))
cut_texts word (x ∷ xs) (y ∷ ys) u v nx ny e =
    let more = cut_texts word xs ys u v nx.1 ny.1 (tails e) in
    (ap (λ l. x ∷ l) more.0 ∙ ap (λ l. l ∷ ys) (heads e), more.1)

no_more : (word : List ℕ) (ys : List (List ℕ)) → [] ≡ ys ++ word ∷ [] → ⊥
no_more word [] e = cc
no_more word (y ∷ ys) e = cc

cut_last : (word : List ℕ) (xs ys : List (List ℕ)) → xs ++ word ∷ [] ≡ ys ++ word ∷ [] → xs ≡ ys
cut_last word [] [] e = refl
cut_last word [] (y ∷ ys) e = absurd (no_more word ys (tails e))
cut_last word (x ∷ xs) [] e = absurd (no_more word xs (sym (tails e)))
cut_last word (x ∷ xs) (y ∷ ys) e =
    ap (λ l. x ∷ l) (cut_last word xs ys (tails e)) ∙ ap (λ l. l ∷ ys) (heads e)

-- a number begins with a digit
record BeginsLow (text : List ℕ) : Type 0 where
  first : ℕ
  rest : List ℕ
  split : text ≡ first ∷ rest
  low : first < 58

begins_low : (n : ℕ) → n < 2 ^ 64 → BeginsLow (decimal n)
begins_low n h = decimal_by_steps (λ _ ds. BeginsLow ds)
    (λ k low. record { first = 48 + k; rest = []; split = refl; low = omega (arith, low) })
    (λ k ds high b. record {
      first = b.first;
      rest = b.rest ++ (48 + k % 10) ∷ [];
      split = ap (λ l. l ++ (48 + k % 10) ∷ []) b.split;
      low = b.low;
    }) n h

not_replies : (digits rest : List ℕ) → BeginsLow digits
    → digits ++ rest ≡ codes "replies" → ⊥
not_replies digits rest b e =
    let same : b.first ≡ 114 = heads (sym (ap (λ l. l ++ rest) b.split) ∙ e) in
    let low = b.low in omega (arith, same, low)

no_replies : (fleet : Fleet) (n : ℕ) (lines : List Line) → n + length lines ≤ 2 ^ 64
    → IsNot (codes "replies") (journal_texts fleet n lines)
no_replies fleet n [] h = tt
no_replies fleet n (line ∷ lines) h = (
  λ e. not_replies (decimal n) (codes " " ++ two (seat_worker fleet.workers line.seat)
      (event_text fleet.replicas line.did line.gave)) (begins_low n (omega (arith, h))) e,
  no_replies fleet (n + 1) lines (omega (arith, h)),
)

pub told_apart : ToldApart
told_apart fleet one other told more hone hother lone lother e =
    let same = tails (same_texts (output_texts fleet one told) (output_texts fleet other more)
    lone lother e) in
    let parts = cut_texts (codes "replies") (journal_texts fleet 0 one)
    (journal_texts fleet 0 other) (all_texts 0 told fleet.workers ++ codes "end" ∷ [])
    (all_texts 0 more fleet.workers ++ codes "end" ∷ [])
    (no_replies fleet 0 one (omega (arith, hone)))
    (no_replies fleet 0 other (omega (arith, hother))) same in (
      parts.0,
      cut_last (codes "end") (all_texts 0 told fleet.workers)
          (all_texts 0 more fleet.workers) parts.1,
    )
