-- What is found for a page, and the last of some items.
use Rattle.std.proofs.Common.{◌≡◌, ℕ, zero, suc, ◌<◌, ◌-◌, List, [], ◌∷◌, ◌++◌, length, get_or, take, drop, Option, None, Some, refl, sym, ap, ◌∙◌, arith}
use Rattle.std.specs.Prelude.{filter}
use Rattle.std.specs.List.{last_or}
use Rattle.std.specs.Option.{option_map}
use Rattle.kr_watch.specs.declared.item.Item.{Item}
use Rattle.kr_watch.specs.Pages.{has_resource}

abbrev path_of : Item → List ℕ
path_of item = item.path

abbrev pub last_path : List Item → Option (List ℕ)
last_path items = option_map path_of (last_or None items)

-- ---- by what is still to be looked at

-- those of the resource among the items are the found ones, and those of the resource that are left
abbrev pub AreFound : (resource : List ℕ) → (all found left : List Item) → Type 0
AreFound resource all found left =
    filter (has_resource resource) all ≡ found ++ filter (has_resource resource) left

-- ---- parts

pub parted : (items : List Item) (place : ℕ) (x d : Item) → place < length items
    → get_or items place d ≡ x → items ≡ take place items ++ x ∷ drop (suc place) items
parted [] place x d l is = absurd (omega (arith, l))
parted (y ∷ items) zero x d l is = ap (λ z. z ∷ items) is
parted (y ∷ items) (suc place) x d l is =
    ap (λ l. y ∷ l) (parted items place x d (omega (arith, l)) is)

-- ---- the last of some items

pub last_push : (o : Option Item) (items : List Item) (x : Item)
    → last_or o (items ++ x ∷ []) ≡ Some x
last_push o [] x = refl
last_push o (y ∷ items) x = last_push (Some y) items x

pub last_is : (o : Option Item) (items : List Item) (d : Item) → 0 < length items
    → last_or o items ≡ Some (get_or items (length items - 1) d)
last_is o [] d l = absurd (omega (arith, l))
last_is o (x ∷ []) d l = refl
last_is o (x ∷ (y ∷ more)) d l =
    let place : suc (suc (length more)) - 1 ≡ suc (suc (length more) - 1) = omega arith in
    last_is (Some x) (y ∷ more) d (omega arith)
    ∙ sym (ap (λ n. Some (get_or (x ∷ (y ∷ more)) n d)) place)
