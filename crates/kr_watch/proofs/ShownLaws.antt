-- What follows from what is shown.
use Rattle.std.proofs.Common.{◌≡◌, ◌≢◌, ℕ, zero, suc, ◌<◌, Bool, true, false, List, [], ◌∷◌, length, get_or, Option, None, Some, refl, sym, ap, ◌∙◌, subst, arith}
use Rattle.std.specs.List.{AllByRecursion}
use Rattle.std.specs.Option.{option_and_then}
use Rattle.std.specs.Str.{bytes_eq}
use Rattle.std.specs.declared.cmp.Ordering.TheVariants.{Less}
use Rattle.std.proofs.lemmas.Option.{none-some}
use Rattle.kr_kms.specs.Opens.{Opens}
use Rattle.kr_provider.specs.Reading.{Reading, data_of}
use Rattle.kr_store.specs.Rows.{later, live}
use Rattle.kr_store.specs.declared.rows.Row.{Row}
use Rattle.kr_rollout.specs.Histories.{state_of}
use Rattle.kr_rollout.specs.Openings.{first_of}
use Rattle.kr_rollout.specs.declared.opening.Opening.{Opening}
use Rattle.kr_history.specs.Contents.{ContentChange, puts, deletes, last_change, IsContent, ContentBy, OpeningContent}
use Rattle.kr_history.proofs.ContentSteps.{one_content}
use Rattle.kr_watch.specs.declared.item.Item.{Item}
use Rattle.kr_watch.specs.Changes.{revision_after}
use Rattle.kr_watch.specs.Laws.{AreApart, OneShown, PutsAll, SeedsFollow, SeedsStand, ShownSinceIsShown}
use Rattle.kr_watch.specs.Shown.{IsItemFor, item_at, plain_at, plain_in, plain_then}
use Rattle.kr_watch.proofs.Items.{NoneHas, none_there, own_item}
use Rattle.kr_watch.proofs.KeptChanges.{kept_stays, none_dropped}
use Rattle.kr_watch.proofs.Orders.{IsBelow, Rise, above_apart, all_weaker, below_itself, below_trans, equal_paths, path_cmp, rise, same_path, to_false}

-- ---- one list

-- where items in order have the same item of each path they are the same
abbrev SameItems : List Item → List Item → Type 0
SameItems xs ys = (path : List ℕ) → item_at xs path ≡ item_at ys path

own_there : (x : Item) (xs : List Item) → item_at (x ∷ xs) x.path ≡ Some x
own_there x xs = ap (λ b. own_item b x (item_at xs x.path)) (equal_paths x.path x.path refl)

-- an item behind the first one is above it
found_above : (x : Item) (xs : List Item) (path : List ℕ) (item : Item)
    → AllByRecursion (IsBelow x) xs → item_at xs path ≡ Some item → path_cmp x.path path ≡ Less
found_above x [] path item h e = absurd (none-some item e)
found_above x (y ∷ xs) path item h e =
    by (bytes_eq y.path path) refl (found_above x xs path item h.1)
  where
    by : (b : Bool) → bytes_eq y.path path ≡ b
        → (item_at xs path ≡ Some item → path_cmp x.path path ≡ Less)
        → path_cmp x.path path ≡ Less
    by true same again = subst (λ p. path_cmp x.path p ≡ Less) (same_path y.path path same) h.0
    by false other again =
        again (sym (ap (λ b. own_item b y (item_at xs path)) other) ∙ e)

-- the first items are the same
first_same : (x y : Item) (xs ys : List Item) → Rise (x ∷ xs) → Rise (y ∷ ys)
    → SameItems (x ∷ xs) (y ∷ ys) → x ≡ y
first_same x y xs ys r t s =
    by (bytes_eq y.path x.path) refl (bytes_eq x.path y.path) refl
  where
    in_ys : own_item (bytes_eq y.path x.path) y (item_at ys x.path) ≡ Some x
    in_ys = sym (s x.path) ∙ own_there x xs

    in_xs : own_item (bytes_eq x.path y.path) x (item_at xs y.path) ≡ Some y
    in_xs = s y.path ∙ own_there y ys

    by : (b : Bool) → bytes_eq y.path x.path ≡ b → (c : Bool) → bytes_eq x.path y.path ≡ c
        → x ≡ y
    by true e c f = let is : Some y ≡ Some x =
        sym (ap (λ b. own_item b y (item_at ys x.path)) e) ∙ in_ys in cc
    by false e true f = let is : Some x ≡ Some y =
        sym (ap (λ b. own_item b x (item_at xs y.path)) f) ∙ in_xs in cc
    by false e false f =
        let l = found_above y ys x.path x t.0
        (sym (ap (λ b. own_item b y (item_at ys x.path)) e) ∙ in_ys) in
        let m = found_above x xs y.path y r.0
        (sym (ap (λ b. own_item b x (item_at xs y.path)) f) ∙ in_xs) in
        absurd (below_itself x.path (below_trans x.path y.path x.path m l))

rest_same : (x : Item) (xs ys : List Item) → AllByRecursion (IsBelow x) xs
    → AllByRecursion (IsBelow x) ys → SameItems (x ∷ xs) (x ∷ ys) → SameItems xs ys
rest_same x xs ys h k s path = by (bytes_eq x.path path) refl
  where
    none_of : (zs : List Item) → AllByRecursion (IsBelow x) zs → x.path ≡ path
        → item_at zs path ≡ None
    none_of zs a e = subst (λ p. item_at zs p ≡ None) e (none_there x.path zs
        (all_weaker (IsBelow x) (λ y. bytes_eq y.path x.path ≡ false)
        (λ y l. above_apart x.path y.path l) zs a))

    by : (b : Bool) → bytes_eq x.path path ≡ b → item_at xs path ≡ item_at ys path
    by true same = none_of xs h (same_path x.path path same)
        ∙ sym (none_of ys k (same_path x.path path same))
    by false other = sym (ap (λ b. own_item b x (item_at xs path)) other) ∙ s path
        ∙ ap (λ b. own_item b x (item_at ys path)) other

same_items : (xs ys : List Item) → Rise xs → Rise ys → SameItems xs ys → xs ≡ ys
same_items [] [] r t s = refl
same_items [] (y ∷ ys) r t s = absurd (none-some y (s y.path ∙ own_there y ys))
same_items (x ∷ xs) [] r t s = absurd (none-some x (sym (s x.path) ∙ own_there x xs))
same_items (x ∷ xs) (y ∷ ys) r t s =
    let head = first_same x y xs ys r t s in
    let below : AllByRecursion (IsBelow x) ys =
    subst (λ z. AllByRecursion (IsBelow z) ys) (sym head) t.0 in
    let tail = same_items xs ys r.1 t.1 (rest_same x xs ys r.0 below
    (subst (λ z. SameItems (x ∷ xs) (z ∷ ys)) (sym head) s)) in
    λ i. head i ∷ tail i

item_once : (path : List ℕ) (row : Option Row) (plain : Option (List ℕ)) (a b : Option Item)
    → IsItemFor path row plain a → IsItemFor path row plain b → a ≡ b
item_once path None plain a b h k = h ∙ sym k
item_once path (Some row) plain a b h k = h ∙ sym k

pub one_shown : OneShown
one_shown opens o history items others h k =
    same_items items others (rise items h.in_order) (rise others k.in_order) (λ path.
    let a = h.each path in
    let b = k.each path in
    let same = one_content opens o history path a.0 b.0 a.1 b.1 in
    item_once path (live (state_of o history).rows path) (plain_in b.0) (item_at items path)
    (item_at others path)
    (subst (λ c. IsItemFor path (live (state_of o history).rows path) (plain_in c)
    (item_at items path)) same a.2) b.2)

-- ---- by the opening's items

-- what the opening's item has is the content
first_plain : (path : List ℕ) (row : Option Row) (content : Option Reading) (item : Option Item)
    → (row ≡ None → content ≡ None) → IsItemFor path row (plain_in content) item
    → option_and_then (λ (i : Item). i.plain) item ≡ plain_in content
first_plain path None content item none is =
    ap (option_and_then (λ (i : Item). i.plain)) is ∙ sym (ap plain_in (none refl))
first_plain path (Some row) content item none is =
    ap (option_and_then (λ (i : Item). i.plain)) is

none_content : (opens : Opens) (o : Opening) (path : List ℕ) (content : Option Reading)
    → IsContent opens o [] path content → live o.rows path ≡ None → content ≡ None
none_content opens o path content is none =
    subst (λ r. OpeningContent opens (first_of o) path r content) none is

-- the content behind a change, and the data of it
then_content : (opens : Opens) (o : Opening) (path : List ℕ) (change : Option ContentChange)
    (first : Option Reading) → IsContent opens o [] path first
    → (content : Option Reading) × ContentBy change opens o path content
    × (plain_then change (plain_in first) ≡ plain_in content)
then_content opens o path (Some (puts plain)) first is = (Some (data_of plain), refl, refl)
then_content opens o path (Some deletes) first is = (None, refl, refl)
then_content opens o path None first is = (first, is, refl)

pub shown_since_is_shown : ShownSinceIsShown
shown_since_is_shown opens o history first items f s = record {
  in_order = s.in_order;
  each = λ path.
      let begun = f.each path in
      let now = then_content opens o path (last_change history path) begun.0 begun.1 in
      let plain : plain_at first path ≡ plain_in begun.0 =
      first_plain path (live o.rows path) begun.0 (item_at first path)
      (none_content opens o path begun.0 begun.1) begun.2 in (
        now.0,
        now.1,
        subst (λ p. IsItemFor path (live (state_of o history).rows path) p (item_at items path))
            (ap (plain_then (last_change history path)) plain ∙ now.2) (s.each path),
      );
}

-- ---- items that are handed in

tail_apart : (x : Item) (xs : List Item) → AreApart (x ∷ xs) → AreApart xs
tail_apart x xs a i j d l m = a (suc i) (suc j) d (omega (arith, l)) (omega (arith, m))

head_apart : (x : Item) (xs : List Item) → AreApart (x ∷ xs) → NoneHas x.path xs
head_apart x [] a = tt
head_apart x (y ∷ xs) a = (
  to_false (bytes_eq y.path x.path)
      (λ e. a 0 1 x (omega arith) (omega arith) (sym (same_path y.path x.path e))),
  head_apart x xs (λ i j d l m. without (i) (j) d l m),
)
  where
    without : (i j : ℕ) (d : Item) → i < j → j < length (x ∷ xs)
        → (get_or (x ∷ xs) i d).path ≢ (get_or (x ∷ xs) j d).path
    without zero zero d l m = absurd (omega (arith, l))
    without zero (suc j) d l m = a 0 (suc (suc j)) d (omega arith) (omega (arith, m))
    without (suc i) zero d l m = absurd (omega (arith, l))
    without (suc i) (suc j) d l m =
        a (suc (suc i)) (suc (suc j)) d (omega (arith, l)) (omega (arith, m))

stands_then : (old seeds new : List Item) (path : List ℕ) → AreApart seeds
    → PutsAll old seeds new → item_at new path ≡ later (item_at seeds path) (item_at old path)
stands_then old [] new path a p = ap (λ l. item_at l path) p
stands_then old (x ∷ seeds) new path a (next, put, rest) =
    stands_then next seeds new path (tail_apart x seeds a) rest
    ∙ by (bytes_eq x.path path) refl
  where
    by : (b : Bool) → bytes_eq x.path path ≡ b
        → later (item_at seeds path) (item_at next path)
        ≡ later (own_item (bytes_eq x.path path) x (item_at seeds path)) (item_at old path)
    by true same =
        ap (λ o. later o (item_at next path)) (subst (λ p. item_at seeds p ≡ None)
        (same_path x.path path same) (none_there x.path seeds (head_apart x seeds a)))
        ∙ put path ∙ ap (λ b. own_item b x (item_at old path)) same
        ∙ sym (ap (λ b. later (own_item b x (item_at seeds path)) (item_at old path)) same)
    by false other =
        ap (later (item_at seeds path)) (put path
        ∙ ap (λ b. own_item b x (item_at old path)) other)
        ∙ sym (ap (λ b. later (own_item b x (item_at seeds path)) (item_at old path)) other)

later_none : (o : Option Item) → later o None ≡ o
later_none None = refl
later_none (Some x) = refl

pub seeds_stand : SeedsStand
seeds_stand seeds items path a p =
    stands_then [] seeds items path a p ∙ later_none (item_at seeds path)

pub seeds_follow : SeedsFollow
seeds_follow o seeds items keep l p s = record {
  shown = record {
    in_order = s;
    each = λ path. subst (IsItemFor path (live o.rows path) (plain_at seeds path))
        (sym (seeds_stand seeds items path l.apart p)) (l.each path);
  };
  kept = sym (kept_stays keep [] (omega arith));
  dropped = sym (ap (revision_after (length o.rows)) (none_dropped keep [] (omega arith)));
}
