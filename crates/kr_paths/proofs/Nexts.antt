-- The first entry above a path.
use Rattle.std.proofs.Common.{◌≡◌, ℕ, zero, suc, ◌<◌, ◌≤◌, ◌+◌, Bool, true, false, List, [], ◌∷◌, ◌++◌, length, get_or, drop, Option, None, Some, refl, sym, ap, subst, ◌∙◌, arith}
use Rattle.std.specs.Prelude.{cond}
use Rattle.std.specs.List.{AllByRecursion, filter}
use Rattle.std.specs.Ordering.{is_lt}
use Rattle.std.specs.declared.cmp.Ordering.{Ordering}
use Rattle.std.specs.declared.cmp.Ordering.TheVariants.{Equal}
use Rattle.std.proofs.lemmas.List.{drop_more, drop_all}
use Rattle.std.proofs.Math.Seq.{drop-append_seam}
use Rattle.kr_paths.specs.Paths.{path_cmp, AreSorted, first, is_behind, successor}
use Rattle.kr_paths.specs.inner.Parts.{Entries, joined, AreParts, AllBelow, AllAbove, Begins, IsCut, IsPartFor}
use Rattle.kr_paths.proofs.Orders.{itself, above_behind, sorted_back}
use Rattle.kr_paths.proofs.Joins.{joined_append}

none_behind : (path : List ℕ) (xs ys : Entries) → AllBelow path xs → filter (is_behind path) (xs ++ ys) ≡ filter (is_behind path) ys
none_behind path [] ys b = refl
none_behind path (x ∷ xs) ys b = ap (λ r. cond (is_lt r) (x ∷ filter (is_behind path) (xs ++ ys)) (filter (is_behind path) (xs ++ ys))) b.0 ∙ none_behind path xs ys b.1

all_behind : (path : List ℕ) (ys : Entries) → AllAbove path ys → filter (is_behind path) ys ≡ ys
all_behind path [] a = refl
all_behind path (y ∷ ys) a = ap (λ r. cond (is_lt r) (y ∷ filter (is_behind path) ys) (filter (is_behind path) ys)) a.0 ∙ ap (λ l. y ∷ l) (all_behind path ys a.1)

past_itself : (path : List ℕ) (n : ℕ) (ys : Entries) → filter (is_behind path) ((path, n) ∷ ys) ≡ filter (is_behind path) ys
past_itself path n ys = ap (λ r. cond (is_lt r) ((path, n) ∷ filter (is_behind path) ys) (filter (is_behind path) ys)) (itself path)

past_seam : (front : Entries) (e : List ℕ × ℕ) (rest : Entries) → drop (suc (length front)) (front ++ e ∷ rest) ≡ rest
past_seam [] e rest = refl
past_seam (x ∷ xs) e rest = past_seam xs e rest

fits : (front : Entries) (e : List ℕ × ℕ) (rest : Entries) → length front < length (front ++ e ∷ rest)
fits [] e rest = omega arith
fits (x ∷ xs) e rest = (let more : length xs < length (xs ++ e ∷ rest) = fits xs e rest in omega (arith, more))

-- ---- in a part

pub there_fits : (path : List ℕ) (es : Entries) (at : ℕ) → IsCut path es at (Begins path) → at < length es
there_fits path es at cut = subst (λ n. n < length es) cut.3 (subst (λ l. length cut.0 < length l) (sym (cut.2 ∙ ap (λ l. cut.0 ++ l) cut.5.2)) (fits cut.0 (path, cut.5.0) cut.5.1))

pub after_there : (path : List ℕ) (es : Entries) (at : ℕ) → AreSorted es → IsCut path es at (Begins path) → first (drop (at + 1) es) ≡ successor path es
after_there path es at sorted cut =
    let all : es ≡ cut.0 ++ (path, cut.5.0) ∷ cut.5.1 = cut.2 ∙ ap (λ l. cut.0 ++ l) cut.5.2 in
    let place : at + 1 ≡ suc (length cut.0) = omega (arith, cut.3) in
    let above : AllAbove path cut.5.1 = above_behind path (path, cut.5.0) cut.5.1 (sorted_back cut.0 ((path, cut.5.0) ∷ cut.5.1) (subst AreSorted all sorted)) (itself path) in
    ap first (ap (λ n. drop n es) place ∙ ap (drop (suc (length cut.0))) all ∙ past_seam cut.0 (path, cut.5.0) cut.5.1
    ∙ sym (ap (filter (is_behind path)) all ∙ none_behind path cut.0 ((path, cut.5.0) ∷ cut.5.1) cut.4 ∙ past_itself path cut.5.0 cut.5.1 ∙ all_behind path cut.5.1 above))

pub after_gap : (path : List ℕ) (es : Entries) (at : ℕ) → IsCut path es at (AllAbove path) → first (drop at es) ≡ successor path es
after_gap path es at cut =
    ap first (ap (λ n. drop n es) (sym cut.3) ∙ ap (drop (length cut.0)) cut.2 ∙ drop-append_seam cut.0 cut.1
    ∙ sym (ap (filter (is_behind path)) cut.2 ∙ none_behind path cut.0 cut.1 cut.4 ∙ all_behind path cut.1 cut.5))

-- ---- among the parts

filter_append : (p : List ℕ × ℕ → Bool) (xs ys : Entries) → filter p (xs ++ ys) ≡ filter p xs ++ filter p ys
filter_append p [] ys = refl
filter_append p (x ∷ xs) ys = by (p x) (filter_append p xs ys)
  where
    by : (v : Bool) → filter p (xs ++ ys) ≡ filter p xs ++ filter p ys → cond v (x ∷ filter p (xs ++ ys)) (filter p (xs ++ ys)) ≡ cond v (x ∷ filter p xs) (filter p xs) ++ filter p ys
    by true rest = ap (λ l. x ∷ l) rest
    by false rest = rest

behind_all : (path : List ℕ) (parts : List Entries) (at : ℕ) (part : IsPartFor path parts at) → filter (is_behind path) (joined parts) ≡ filter (is_behind path) part.own ++ joined part.behind
behind_all path parts at part =
    ap (filter (is_behind path)) (ap joined part.parts_are ∙ joined_append part.before (part.own ∷ part.behind))
    ∙ none_behind path (joined part.before) (part.own ++ joined part.behind) part.below
    ∙ filter_append (is_behind path) part.own (joined part.behind)
    ∙ ap (λ l. filter (is_behind path) part.own ++ l) (all_behind path (joined part.behind) part.above)

first_of : (xs ys : Entries) (e : List ℕ × ℕ) → Some e ≡ first xs → Some e ≡ first (xs ++ ys)
first_of [] ys e h = cc
first_of (x ∷ xs) ys e h = h

first_none : (xs ys : Entries) → None ≡ first xs → first ys ≡ first (xs ++ ys)
first_none [] ys h = refl
first_none (x ∷ xs) ys h = cc

pub next_own : (path : List ℕ) (parts : List Entries) (at : ℕ) (part : IsPartFor path parts at) (e : List ℕ × ℕ) → Some e ≡ successor path part.own → Some e ≡ successor path (joined parts)
next_own path parts at part e h = first_of (filter (is_behind path) part.own) (joined part.behind) e h ∙ ap first (sym (behind_all path parts at part))

behind_is : (before : List Entries) (own : Entries) (behind : List Entries) → drop (suc (length before)) (before ++ own ∷ behind) ≡ behind
behind_is [] own behind = refl
behind_is (x ∷ xs) own behind = behind_is xs own behind

pub next_part : (path : List ℕ) (parts : List Entries) (at : ℕ) (part : IsPartFor path parts at) → None ≡ successor path part.own → first (joined (drop (at + 1) parts)) ≡ successor path (joined parts)
next_part path parts at part h =
    let place : at + 1 ≡ suc (length part.before) = omega (arith, part.place) in
    ap (λ l. first (joined l)) (ap (λ n. drop n parts) place ∙ ap (drop (suc (length part.before))) part.parts_are ∙ behind_is part.before part.own part.behind)
    ∙ first_none (filter (is_behind path) part.own) (joined part.behind) h ∙ ap first (sym (behind_all path parts at part))

-- ---- the first of parts

pub first_part : (part : Entries) (parts : List Entries) → 0 < length part → first part ≡ first (joined (part ∷ parts))
first_part [] parts h = absurd (omega arith)
first_part (e ∷ es) parts h = refl

some_part : (parts : List Entries) (at : ℕ) (d : Entries) → AllByRecursion (λ p. 0 < length p) parts → at < length parts → 0 < length (get_or parts at d)
some_part [] at d all h = absurd (omega arith)
some_part (p ∷ ps) zero d all h = all.0
some_part (p ∷ ps) (suc at) d all h = some_part ps at d all.1 (omega arith)

pub first_from : (parts : List Entries) (at : ℕ) (own : Entries) → AllByRecursion (λ p. 0 < length p) parts → at < length parts → own ≡ get_or parts at own → first own ≡ first (joined (drop at parts))
first_from parts at own all h is =
    ap first is ∙ first_part (get_or parts at own) (drop (at + 1) parts) (some_part parts at own all h) ∙ ap (λ l. first (joined l)) (sym (drop_more parts at own h))

pub first_past : (parts : List Entries) (at : ℕ) → length parts ≤ at → None ≡ first (joined (drop at parts))
first_past parts at h = sym (ap (λ l. first (joined l)) (drop_all at parts h))
