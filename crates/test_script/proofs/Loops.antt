-- Texts that are written one behind another.
use Rattle.std.proofs.Common.{◌≡◌, ℕ, ◌+◌, ◌<◌, ◌≤◌, List, [], ◌∷◌, ◌++◌, length, take, map, refl, Result, Ok, Err, IfOk}
use Rattle.std.proofs.Common.{sym, ap, ◌∙◌, get_or}
use Rattle.std.specs.Prelude.{if◌then◌else◌}
use Rattle.std.specs.Result.{is_ok}
use Rattle.std.specs.List.{flat_map}
use Rattle.std.proofs.lemmas.List.{append_assoc, append-nil, take_more, take_all}
use Rattle.std.proofs.lemmas.List.Concat.{flat_map-append}

pub texts_more : {X : Type 0} (f : X → List ℕ) (xs : List X) (i : ℕ) (x : X)
    (before now text : List ℕ) → now ≡ before ++ flat_map f (take i xs) → i < length xs
    → x ≡ get_or xs i x → text ≡ now ++ f x → text ≡ before ++ flat_map f (take (i + 1) xs)
texts_more f xs i x before now text inv h is e =
    e ∙ ap (λ l. l ++ f x) inv ∙ append_assoc before (flat_map f (take i xs)) (f x)
    ∙ ap (λ l. before ++ l)
    (ap (λ l. flat_map f (take i xs) ++ l) (sym (append-nil (f x)))
    ∙ sym (flat_map-append f (take i xs) (x ∷ []))
    ∙ ap (flat_map f) (ap (λ y. take i xs ++ y ∷ []) is ∙ sym (take_more xs i x h)))

pub texts_end : {X : Type 0} (f : X → List ℕ) (xs : List X) (i : ℕ) (before now : List ℕ)
    → now ≡ before ++ flat_map f (take i xs) → length xs ≤ i → now ≡ before ++ flat_map f xs
texts_end f xs i before now inv h = inv ∙ ap (λ l. before ++ flat_map f l) (take_all i xs h)

pub mapped : {X Y : Type 0} (f : Y → List ℕ) (g : X → Y) (xs : List X)
    → flat_map (λ x. f (g x)) xs ≡ flat_map f (map g xs)
mapped f g [] = refl
mapped f g (x ∷ xs) = ap (λ l. f (g x) ++ l) (mapped f g xs)

-- a text of three pieces
pub joined : {T E : Type 0} (r : Result T E) (a w t e b d o : List ℕ) → b ≡ a ++ w → d ≡ b ++ t
    → o ≡ (if is_ok r then d ++ e else d) → IfOk r (λ done. o ≡ a ++ (w ++ (t ++ e)))
joined (Ok x) a w t e b d o p q h =
    h ∙ ap (λ l. l ++ e) (q ∙ ap (λ l. l ++ t) p) ∙ append_assoc (a ++ w) t e
    ∙ append_assoc a w (t ++ e)
joined (Err x) a w t e b d o p q h = tt
