-- The words of a line, cut at a space, and the lines of a text, cut at an LF.
use Rattle.std.proofs.Common.{◌≡◌, ℕ, ◌+◌, ◌-◌, ◌<◌, ◌≤◌, Bool, true, false, List, [], ◌∷◌, ◌++◌}
use Rattle.std.proofs.Common.{length, take, drop, refl, sym, ap, ◌∙◌, subst, arith, get_or, add-one}
use Rattle.std.proofs.Common.{Contains, All, inl, inr}
use Rattle.std.specs.Prelude.{◌==◌, not, if◌then◌else◌}
use Rattle.std.specs.List.{filter, slice_split, onto_first, position_or_len, before_first}
use Rattle.std.specs.List.{after_first}
use Rattle.std.specs.Str.Lines.{lines, lines_of_parts, strip_carriage_return}
use Rattle.std.proofs.Math.Seq.{drop-cons}
use Rattle.std.proofs.lemmas.Bool.{cases_lt, eq-eqb, ne_eqb, both_ways}
use Rattle.std.proofs.lemmas.List.{take-append-drop, get_or_default, take_all, length-drop}
use Rattle.std.proofs.lemmas.List.Sums.{fails_before_first}
use Rattle.std.proofs.lemmas.List.Splits.{slice_split_none, slice_split_at, slice_split_first}
use Rattle.kr_script.specs.Rows.{words_of, is_full}
use Rattle.kr_script.specs.inner.Reading.{words_at_end, words_before}

none_passes : (c : ℕ) (text : List ℕ) → (Contains text c → ⊥)
    → All (λ byte. (byte == c) ≡ false) text
none_passes c text none k d h =
    ne_eqb (get_or text k d) c (λ e. none (k, h, get_or_default text k c d h ∙ e))

passes_within : (c : ℕ) (text : List ℕ) → Contains text c
    → position_or_len (λ byte. byte == c) text < length text
passes_within c text (k, h, e) =
    elim (cases_lt k (position_or_len (λ byte. byte == c) text)) [
      | inl before ↦ absurd (both_ways (get_or text k 0 == c)
          (fails_before_first (λ byte. byte == c) text k 0 before)
          (eq-eqb (get_or text k 0) c (get_or_default text k 0 c h ∙ e)))
      | inr behind ↦ omega (arith, h, behind)
    ]

pub words_uncut : (text : List ℕ) → (Contains text 0x20 → ⊥) → words_of text ≡ words_at_end text
words_uncut text none =
    ap (filter is_full) (slice_split_none (λ byte. byte == 0x20) text (none_passes 0x20 text none))

pub words_cut : (text front rest : List ℕ) → Contains text 0x20
    → front ≡ before_first (λ byte. byte == 0x20) text
    → rest ≡ after_first (λ byte. byte == 0x20) text
    → words_of text ≡ words_before front (words_of rest)
words_cut text front rest has f r =
    ap (filter is_full) (slice_split_first (λ byte. byte == 0x20) text 0
    (passes_within 0x20 text has))
    ∙ ap (λ a. words_before a (words_of (after_first (λ byte. byte == 0x20) text))) (sym f)
    ∙ ap (λ b. words_before front (words_of b)) (sym r)

-- what was passed over changes no word

pub words_here : (word : List ℕ) (row : List (List ℕ)) → (length word ≡ 0 → ⊥)
    → words_before word row ≡ word ∷ row
words_here word row full =
    ap (λ t. if t then word ∷ row else row) (full_is word full)
  where
    full_is : (word : List ℕ) → (length word ≡ 0 → ⊥) → is_full word ≡ true
    full_is [] h = absurd (h refl)
    full_is (b ∷ bs) h = let f : (length (b ∷ bs) == 0) ≡ false
        = ne_eqb (length (b ∷ bs)) 0 h in ap not f

pub words_there : (word : List ℕ) (row : List (List ℕ)) → length word ≡ 0
    → words_before word row ≡ row
words_there [] row e = refl
words_there (b ∷ bs) row e = absurd (omega (arith, e))

-- lines

parts_some : (bs : List ℕ) → (first : List ℕ) × (more : List (List ℕ))
    × (slice_split (λ byte. byte == 10) bs ≡ first ∷ more)
parts_some [] = ([], [], refl)
parts_some (b ∷ bs) = by (b == 10) (parts_some bs)
  where
    by : (t : Bool) → (first : List ℕ) × (more : List (List ℕ))
        × (slice_split (λ byte. byte == 10) bs ≡ first ∷ more)
        → (first : List ℕ) × (more : List (List ℕ))
        × ((if t then [] ∷ slice_split (λ byte. byte == 10) bs
        else onto_first b (slice_split (λ byte. byte == 10) bs)) ≡ first ∷ more)
    by true (first, more, e) = ([], slice_split (λ byte. byte == 10) bs, refl)
    by false (first, more, e) = (b ∷ first, more, ap (onto_first b) e)

lines_cons : (front : List ℕ) (parts : List (List ℕ)) (first : List ℕ) (more : List (List ℕ))
    → parts ≡ first ∷ more
    → lines_of_parts (front ∷ parts) ≡ strip_carriage_return front ∷ lines_of_parts parts
lines_cons front parts first more e =
    ap (λ ps. lines_of_parts (front ∷ ps)) e
    ∙ ap (λ ps. strip_carriage_return front ∷ lines_of_parts ps) (sym e)

pub line_at : (bs : List ℕ) (i : ℕ) (line : List ℕ) → i < length bs
    → (get_or bs i 0 == 10) ≡ true → All (λ b. (b == 10) ≡ false) (take i bs)
    → line ≡ strip_carriage_return (take i bs)
    → lines bs ≡ line ∷ lines (take (length bs - (i + 1)) (drop (i + 1) bs))
line_at bs i line h e none is =
    let byte = get_or bs i 0 in
    let rest = drop (i + 1) bs in
    let split : bs ≡ take i bs ++ byte ∷ rest = sym (take-append-drop i bs)
    ∙ ap (λ l. take i bs ++ l) (rw add-one (drop-cons bs i 0 h)) in
    let (first, more, parts) = parts_some rest in
    let long = length-drop (i + 1) bs in
    ap lines split
    ∙ ap lines_of_parts (slice_split_at (λ b. b == 10) (take i bs) byte rest none e)
    ∙ lines_cons (take i bs) (slice_split (λ b. b == 10) rest) first more parts
    ∙ ap (λ l. l ∷ lines rest) (sym is)
    ∙ ap (λ l. line ∷ lines l) (sym (take_all (length bs - (i + 1)) rest (omega (arith, long))))

pub line_last : (bs : List ℕ) (i : ℕ) → (length bs == 0) ≡ false → length bs ≤ i
    → All (λ b. (b == 10) ≡ false) (take i bs) → lines bs ≡ bs ∷ []
line_last bs i some end none =
    ap lines_of_parts (slice_split_none (λ b. b == 10) bs
    (subst (All (λ b. (b == 10) ≡ false)) (take_all i bs end) none))
    ∙ ap (λ t. if t then [] else bs ∷ []) some
