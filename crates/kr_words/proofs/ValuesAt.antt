-- The steps of a loop that counts down to the option of a name with a number.
use Rattle.std.proofs.Common.{◌≡◌, ℕ, ◌+◌, ◌-◌, ◌<◌, ◌≤◌, List, [], ◌∷◌, length, get_or, drop, Bool}
use Rattle.std.proofs.Common.{true, false, cond, Some, None, slice_get, refl, sym, ap, ◌∙◌, arith}
use Rattle.std.proofs.Common.{zero, suc, add-one}
use Rattle.std.proofs.Math.Seq.{drop-cons}
use Rattle.std.proofs.lemmas.List.{drop_all}
use Rattle.kr_words.specs.Options.{is_named, values_of}

-- the values of a first option and of those behind it
split : (name : List ℕ) (x : List ℕ × List ℕ) (rest : List (List ℕ × List ℕ)) (b : Bool)
    → is_named name x ≡ b
    → values_of (x ∷ rest) name ≡ cond b (x.1 ∷ values_of rest name) (values_of rest name)
split name x rest true e = rw e refl
split name x rest false e = rw e refl

opened : (options : List (List ℕ × List ℕ)) (i : ℕ) (x : List ℕ × List ℕ) → i < length options
    → x ≡ get_or options i x → drop i options ≡ x ∷ drop (i + 1) options
opened options i x h is = rw add-one
    (drop-cons options i x h ∙ ap (λ y. y ∷ drop (suc i) options) (sym is))

pub values_open : (options : List (List ℕ × List ℕ)) (name : List ℕ) (i : ℕ) (x : List ℕ × List ℕ)
    (b : Bool) → i < length options → x ≡ get_or options i x → is_named name x ≡ b
    → values_of (drop i options) name
    ≡ cond b (x.1 ∷ values_of (drop (i + 1) options) name)
    (values_of (drop (i + 1) options) name)
values_open options name i x b h is e =
    ap (λ o. values_of o name) (opened options i x h is) ∙ split name x (drop (i + 1) options) b e

-- the value is this option's
pub found_here : (options : List (List ℕ × List ℕ)) (name : List ℕ) (i number left : ℕ)
    (x : List ℕ × List ℕ) → slice_get (values_of options name) number
    ≡ slice_get (values_of (drop i options) name) left
    → i < length options → x ≡ get_or options i x → is_named name x ≡ true → left ≡ 0
    → Some x.1 ≡ slice_get (values_of options name) number
found_here options name i number left x inv h is e z =
    sym (inv ∙ ap (λ n. slice_get (values_of (drop i options) name) n) z
    ∙ ap (λ vs. slice_get vs 0) (values_open options name i x true h is e))

one_less : (v : List ℕ) (vs : List (List ℕ)) (left : ℕ) → (left ≡ 0 → ⊥)
    → slice_get (v ∷ vs) left ≡ slice_get vs (left - 1)
one_less v vs zero some = absurd (some refl)
one_less v vs (suc left) some = ap (λ n. slice_get vs n) (omega arith)

-- the value is further behind
pub counted_on : (options : List (List ℕ × List ℕ)) (name : List ℕ) (i number left : ℕ)
    (x : List ℕ × List ℕ) → slice_get (values_of options name) number
    ≡ slice_get (values_of (drop i options) name) left
    → i < length options → x ≡ get_or options i x → is_named name x ≡ true → (left ≡ 0 → ⊥)
    → slice_get (values_of options name) number
    ≡ slice_get (values_of (drop (i + 1) options) name) (left - 1)
counted_on options name i number left x inv h is e some =
    inv ∙ ap (λ vs. slice_get vs left) (values_open options name i x true h is e)
    ∙ one_less x.1 (values_of (drop (i + 1) options) name) left some

pub passed_over : (options : List (List ℕ × List ℕ)) (name : List ℕ) (i number left : ℕ)
    (x : List ℕ × List ℕ) → slice_get (values_of options name) number
    ≡ slice_get (values_of (drop i options) name) left
    → i < length options → x ≡ get_or options i x → is_named name x ≡ false
    → slice_get (values_of options name) number
    ≡ slice_get (values_of (drop (i + 1) options) name) left
passed_over options name i number left x inv h is e =
    inv ∙ ap (λ vs. slice_get vs left) (values_open options name i x false h is e)

none_behind : (left : ℕ) (vs : List (List ℕ)) → vs ≡ [] → slice_get vs left ≡ None
none_behind left vs e = rw e refl

-- no such option is there
pub none_left_over : (options : List (List ℕ × List ℕ)) (name : List ℕ) (i number left : ℕ)
    → slice_get (values_of options name) number ≡ slice_get (values_of (drop i options) name) left
    → length options ≤ i → None ≡ slice_get (values_of options name) number
none_left_over options name i number left inv h =
    sym (inv ∙ none_behind left (values_of (drop i options) name)
    (ap (λ o. values_of o name) (drop_all i options h)))
