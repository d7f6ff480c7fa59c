-- Pages that are taken one after another.
use Rattle.std.proofs.Common.{◌≡◌, ℕ, suc, ◌<◌, ◌≤◌, ◌+◌, ◌-◌, Bool, true, false, cond, List, [], ◌∷◌, ◌++◌, length, get_or, take, drop, Option, None, Some, refl, sym, ap, ◌∙◌, subst, arith, append-nil, length-append, All, count_by}
use Rattle.std.specs.Prelude.{◌&&◌, nat_lt, if◌then◌else◌, filter}
use Rattle.std.specs.List.{AllByRecursion}
use Rattle.std.specs.Option.{option_map}
use Rattle.std.specs.Ordering.{is_lt}
use Rattle.std.specs.Str.{bytes_eq}
use Rattle.std.specs.declared.cmp.Ordering.TheVariants.{Less}
use Rattle.std.proofs.lemmas.Bool.{ltb-false, ltb-true}
use Rattle.std.proofs.lemmas.List.{append_assoc, length-take-le, take_all, take_at}
use Rattle.std.proofs.lemmas.List.Elements.{All-head, All-tail, filter-append}
use Rattle.std.proofs.lemmas.List.Sums.{sum_by-append, sum_by-cons}
use Rattle.std.proofs.lemmas.Option.{none-some}
use Rattle.kr_watch.specs.declared.item.Item.{Item}
use Rattle.kr_watch.specs.declared.page.Listing.{Listing}
use Rattle.kr_watch.specs.Laws.{IsThere, PagesAreAll, PagesHaveEach}
use Rattle.kr_watch.specs.Pages.{AreTaken, IsFirstOf, Taken, is_above, has_resource, items_above, items_taken}
use Rattle.kr_watch.specs.Shown.{item_at}
use Rattle.kr_watch.proofs.Items.{NoneHas, all_rest, before_apart, behind_apart, no_rest, own_item, path_found}
use Rattle.kr_watch.proofs.Orders.{IsBelow, Rise, above_behind, above_less, all_append, all_back, all_front, all_weaker, below_apart, below_itself, below_trans, equal_paths, less_above, lt_less, path_cmp, rise, rise_back, rise_front, same_path, to_false}
use Rattle.kr_watch.proofs.PageFacts.{last_path, last_push, parted}

-- ---- filters

abbrev kept_by : Bool → Item → List Item → List Item
kept_by b x xs = cond b (x ∷ xs) xs

filters_turned : (p q : Item → Bool) (xs : List Item)
    → filter p (filter q xs) ≡ filter q (filter p xs)
filters_turned p q [] = refl
filters_turned p q (x ∷ xs) = by (p x) refl (q x) refl (filters_turned p q xs)
  where
    by : (a : Bool) → p x ≡ a → (b : Bool) → q x ≡ b
        → filter p (filter q xs) ≡ filter q (filter p xs)
        → filter p (kept_by (q x) x (filter q xs)) ≡ filter q (kept_by (p x) x (filter p xs))
    by true e true f again =
        ap (λ b. filter p (kept_by b x (filter q xs))) f
        ∙ ap (λ a. kept_by a x (filter p (filter q xs))) e ∙ ap (λ l. x ∷ l) again
        ∙ sym (ap (λ a. filter q (kept_by a x (filter p xs))) e
        ∙ ap (λ b. kept_by b x (filter q (filter p xs))) f)
    by true e false f again =
        ap (λ b. filter p (kept_by b x (filter q xs))) f ∙ again
        ∙ sym (ap (λ a. filter q (kept_by a x (filter p xs))) e
        ∙ ap (λ b. kept_by b x (filter q (filter p xs))) f)
    by false e true f again =
        ap (λ b. filter p (kept_by b x (filter q xs))) f
        ∙ ap (λ a. kept_by a x (filter p (filter q xs))) e ∙ again
        ∙ sym (ap (λ a. filter q (kept_by a x (filter p xs))) e)
    by false e false f again =
        ap (λ b. filter p (kept_by b x (filter q xs))) f ∙ again
        ∙ sym (ap (λ a. filter q (kept_by a x (filter p xs))) e)

-- a test that passes only where another one does
filter_inside : (p q : Item → Bool) → ((x : Item) → p x ≡ true → q x ≡ true)
    → (xs : List Item) → filter p (filter q xs) ≡ filter p xs
filter_inside p q h [] = refl
filter_inside p q h (x ∷ xs) = by (q x) refl (filter_inside p q h xs)
  where
    by : (b : Bool) → q x ≡ b → filter p (filter q xs) ≡ filter p xs
        → filter p (kept_by (q x) x (filter q xs)) ≡ kept_by (p x) x (filter p xs)
    by true e again = ap (λ b. filter p (kept_by b x (filter q xs))) e
        ∙ ap (λ l. kept_by (p x) x l) again
    by false e again = ap (λ b. filter p (kept_by b x (filter q xs))) e ∙ again
        ∙ sym (ap (λ a. kept_by a x (filter p xs)) (to_false (p x)
        (λ t. let z : false ≡ true = sym e ∙ h x t in cc)))

all_filtered : (P : Item → Type 0) (p : Item → Bool) (xs : List Item) → AllByRecursion P xs
    → AllByRecursion P (filter p xs)
all_filtered P p [] h = tt
all_filtered P p (x ∷ xs) h = by (p x) (all_filtered P p xs h.1)
  where
    by : (b : Bool) → AllByRecursion P (filter p xs)
        → AllByRecursion P (kept_by b x (filter p xs))
    by true again = (h.0, again)
    by false again = again

rise_filtered : (p : Item → Bool) (xs : List Item) → Rise xs → Rise (filter p xs)
rise_filtered p [] r = tt
rise_filtered p (x ∷ xs) r = by (p x) (rise_filtered p xs r.1)
  where
    by : (b : Bool) → Rise (filter p xs) → Rise (kept_by b x (filter p xs))
    by true again = (all_filtered (IsBelow x) p xs r.0, again)
    by false again = again

passes : (p : Item → Bool) (xs : List Item) → AllByRecursion (λ x. p x ≡ true) (filter p xs)
passes p [] = tt
passes p (x ∷ xs) = by (p x) refl (passes p xs)
  where
    by : (b : Bool) → p x ≡ b → AllByRecursion (λ y. p y ≡ true) (filter p xs)
        → AllByRecursion (λ y. p y ≡ true) (kept_by b x (filter p xs))
    by true e again = (e, again)
    by false e again = again

-- ---- those above a path

pub rise_above : (items : List Item) (resource after : List ℕ) → Rise items
    → Rise (items_above items resource after)
rise_above items resource after r =
    rise_filtered (has_resource resource) (filter (is_above after) items)
    (rise_filtered (is_above after) items r)

are_above : (items : List Item) (resource after : List ℕ)
    → AllByRecursion (λ x. is_above after x ≡ true) (items_above items resource after)
are_above items resource after = all_filtered (λ x. is_above after x ≡ true) (has_resource resource)
    (filter (is_above after) items) (passes (is_above after) items)

-- those above one of some items in order are those behind it
above_one : (front : List Item) (x : Item) (back : List Item) → Rise (front ++ x ∷ back)
    → filter (is_above x.path) (front ++ x ∷ back) ≡ back
above_one front x back r =
    let not_itself : is_above x.path x ≡ false = to_false (is_above x.path x)
    (λ e. below_itself x.path (above_less x.path x e)) in
    filter-append (is_above x.path) front (x ∷ back)
    ∙ ap (λ l. l ++ filter (is_above x.path) (x ∷ back))
    (no_rest x.path front (all_weaker (λ y. IsBelow y x) (λ y. is_above x.path y ≡ false)
    (λ y l. to_false (is_above x.path y) (λ e. below_itself x.path
    (below_trans x.path y.path x.path (above_less x.path y e) l))) front
    (rise_front front x back r)))
    ∙ ap (λ b. kept_by b x (filter (is_above x.path) back)) not_itself
    ∙ all_rest x.path back (all_weaker (IsBelow x) (λ y. is_above x.path y ≡ true)
    (λ y l. less_above x.path y l) back (rise_back front x back r))

-- the rest behind the last item of a page are those behind its path
pub rest_behind : (items : List Item) (resource after : List ℕ) (front : List Item) (x : Item)
    (back : List Item) → Rise items → items_above items resource after ≡ front ++ x ∷ back
    → items_above items resource x.path ≡ back
rest_behind items resource after front x back r e =
    let above : is_above after x ≡ true = (all_back (λ y. is_above after y ≡ true) front
    (x ∷ back) (subst (λ l. AllByRecursion (λ y. is_above after y ≡ true) l) e
    (are_above items resource after))).0 in
    ap (filter (has_resource resource)) (sym (filter_inside (is_above x.path) (is_above after)
    (λ y t. above_behind after x above y (above_less x.path y t)) items))
    ∙ filters_turned (has_resource resource) (is_above x.path) (filter (is_above after) items)
    ∙ ap (filter (is_above x.path)) e
    ∙ above_one front x back (subst Rise e (rise_above items resource after r))

-- ---- a page and what stands behind it

-- a page has all items, or its last item is the one at this place and more stand behind it
pub data PageCase (limit : ℕ) (items : List Item) (page : Listing) : Type 0 where
  whole : page.items.0 ≡ items → page.next ≡ None → PageCase limit items page
  full : (front : List Item) (x : Item) (back : List Item) → items ≡ front ++ x ∷ back
      → length front + 1 ≡ limit → page.items.0 ≡ front ++ x ∷ []
      → page.next ≡ Some x.path → PageCase limit items page

some_item : (items : List Item) (n : ℕ) → n < length items → Item
some_item [] n l = absurd (omega (arith, l))
some_item (x ∷ items) n l = x

push_there : (front : List Item) (x : Item) (back : List Item) (n : ℕ) → length front + 1 ≡ n
    → take n (front ++ x ∷ back) ≡ front ++ x ∷ []
push_there front x back n e =
    ap (take n) (sym (append_assoc front (x ∷ []) back))
    ∙ take_at (front ++ x ∷ []) back n (omega (arith, length-append front (x ∷ []), e))

pub page_case : (limit : ℕ) (items : List Item) (page : Listing) → 1 ≤ limit
    → IsFirstOf limit items page → PageCase limit items page
page_case limit items page some is = by (nat_lt limit (length items)) refl
  where
    by : (b : Bool) → nat_lt limit (length items) ≡ b → PageCase limit items page
    by false e =
        let few : length items ≤ limit = ltb-false limit (length items) e in
        whole (is.items_are ∙ take_all limit items few)
        (is.next_is ∙ ap (λ b. if b then last_path (take limit items) else None) e)
    by true e =
        let many : limit < length items = ltb-true limit (length items) e in
        let place = limit - 1 in
        let within : place < length items = omega (arith, many, some) in
        let d = some_item items place within in
        let x = get_or items place d in
        let parts = parted items place x d within refl in
        let front = take place items in
        let size : length front + 1 ≡ limit =
        omega (arith, length-take-le place items (omega (arith, within)), some) in
        let page_is : take limit items ≡ front ++ x ∷ [] =
        ap (take limit) parts ∙ push_there front x (drop (suc place) items) limit size in
        full front x (drop (suc place) items) parts size (is.items_are ∙ page_is)
        (is.next_is ∙ ap (λ b. if b then last_path (take limit items) else None) e
        ∙ ap last_path page_is ∙ ap (option_map (λ (y : Item). y.path)) (last_push None front x))

-- ---- while nothing changes

none_more : (resource : List ℕ) (more : List Taken) → AreTaken resource None more → more ≡ []
none_more resource [] t = refl
none_more resource (taken ∷ more) t = absurd t

next_taken : (resource : List ℕ) (next : Option (List ℕ)) (path : List ℕ) (more : List Taken)
    → next ≡ Some path → AreTaken resource next more → AreTaken resource (Some path) more
next_taken resource next path more e t = subst (λ n. AreTaken resource n more) e t

pub pages_are_all : PagesAreAll
pages_are_all resource after items [] t same = absurd t
pages_are_all resource after items (taken ∷ more) t same =
    let own : taken.items ≡ items = All-head (λ (x : Taken). x.items ≡ items) taken more same in
    let rest = All-tail (λ (x : Taken). x.items ≡ items) taken more same in
    let xs = items_above items resource after in
    let is : IsFirstOf taken.limit xs taken.page =
    subst (λ l. IsFirstOf taken.limit (items_above l resource after) taken.page) own t.2 in
    let r : Rise items = subst Rise own (rise taken.items t.0) in
    by r (page_case taken.limit xs taken.page t.1 is) t.3
    (λ path n. pages_are_all resource path items more n rest)
  where
    by : Rise items
        → PageCase taken.limit (items_above items resource after) taken.page
        → AreTaken resource taken.page.next more
        → ((path : List ℕ) → AreTaken resource (Some path) more
        → items_taken more ≡ items_above items resource path)
        → taken.page.items.0 ++ items_taken more ≡ items_above items resource after
    by r (whole all none) n again =
        let last : more ≡ [] = none_more resource more
        (subst (λ o. AreTaken resource o more) none n) in
        ap (λ l. taken.page.items.0 ++ items_taken l) last
        ∙ append-nil taken.page.items.0 ∙ all
    by r (full front x back parts size page next) n again =
        ap (λ l. taken.page.items.0 ++ l)
        (again x.path (next_taken resource taken.page.next x.path more next n)
        ∙ rest_behind items resource after front x back r parts)
        ∙ ap (λ l. l ++ back) page ∙ append_assoc front (x ∷ []) back ∙ sym parts

-- ---- how often a path is on pages

abbrev has : (path : List ℕ) → Item → Bool
has path item = bytes_eq item.path path

abbrev times : (path : List ℕ) → List Item → ℕ
times path items = count_by (has path) items

times_append : (path : List ℕ) (xs ys : List Item)
    → times path (xs ++ ys) ≡ times path xs + times path ys
times_append path xs ys = sum_by-append (λ item. cond (has path item) 1 0) xs ys

times_none : (path : List ℕ) (xs : List Item) → NoneHas path xs → times path xs ≡ 0
times_none path [] h = refl
times_none path (x ∷ xs) h =
    sum_by-cons (λ item. cond (has path item) 1 0) x xs
    ∙ ap (λ b. cond b 1 0 + times path xs) h.0
    ∙ (let rest = times_none path xs h.1 in omega (arith, rest))

times_one : (path : List ℕ) (front : List Item) (x : Item) (back : List Item)
    → NoneHas path front → x.path ≡ path → NoneHas path back
    → times path (front ++ x ∷ back) ≡ 1
times_one path front x back h e k =
    let own = sum_by-cons (λ item. cond (has path item) 1 0) x back in
    let here : cond (has path x) 1 0 ≡ 1 =
    ap {B = ℕ} (λ b. cond b 1 0) (equal_paths x.path path e) in
    omega (
      arith,
      times_append path front (x ∷ back),
      times_none path front h,
      own,
      here,
      times_none path back k,
    )

-- none of those above a path has one that isn't above it
none_of_them : (path after : List ℕ) (xs : List Item) → is_lt (path_cmp after path) ≡ false
    → AllByRecursion (λ x. is_above after x ≡ true) xs → NoneHas path xs
none_of_them path after xs n h = all_weaker (λ x. is_above after x ≡ true)
    (λ x. bytes_eq x.path path ≡ false)
    (λ x a. to_false (bytes_eq x.path path) (λ e.
    let z : false ≡ true = sym n
    ∙ ap (λ p. is_lt (path_cmp after p)) (sym (same_path x.path path e)) ∙ a in cc)) xs h

-- the pages behind this path don't reach the other one
abbrev IsPassed : (path : List ℕ) → Option (List ℕ) → Type 0
IsPassed path None = Unit {0}
IsPassed path (Some after) = is_lt (path_cmp after path) ≡ false

-- it isn't above a path that is above one that it isn't above
passed_on : (path after next : List ℕ) → is_lt (path_cmp after path) ≡ false
    → path_cmp after next ≡ Less → is_lt (path_cmp next path) ≡ false
passed_on path after next n l = to_false (is_lt (path_cmp next path)) (λ e.
    let z : false ≡ true = sym n ∙ ap is_lt (below_trans after next path l
    (lt_less (path_cmp next path) e)) in cc)

none_front : (path : List ℕ) (front : List Item) (x : Item) (back : List Item)
    → NoneHas path (front ++ x ∷ back) → NoneHas path (front ++ x ∷ [])
none_front path front x back h =
    let P : Item → Type 0 = λ y. bytes_eq y.path path ≡ false in
    all_append P front (x ∷ []) (all_front P front (x ∷ back) h)
    ((all_back P front (x ∷ back) h).0, tt)

never : (resource path : List ℕ) (next : Option (List ℕ)) (pages : List Taken)
    → IsPassed path next → AreTaken resource next pages → times path (items_taken pages) ≡ 0
never resource path None [] p t = refl
never resource path (Some after) (taken ∷ more) p t =
    let xs = items_above taken.items resource after in
    by (page_case taken.limit xs taken.page t.1 t.2)
    (λ q. never resource path taken.page.next more q t.3)
  where
    xs : List Item
    xs = items_above taken.items resource after

    above : AllByRecursion (λ x. is_above after x ≡ true) xs
    above = are_above taken.items resource after

    by : PageCase taken.limit xs taken.page
        → (IsPassed path taken.page.next → times path (items_taken more) ≡ 0)
        → times path (taken.page.items.0 ++ items_taken more) ≡ 0
    by (whole all none) again =
        let here = times_none path taken.page.items.0
        (subst (NoneHas path) (sym all) (none_of_them path after xs p above)) in
        let rest = again (subst (IsPassed path) (sym none) tt) in
        omega (arith, times_append path taken.page.items.0 (items_taken more), here, rest)
    by (full front x back parts size page next) again =
        let none = subst (NoneHas path) parts (none_of_them path after xs p above) in
        let here = times_none path taken.page.items.0 (subst (NoneHas path) (sym page)
        (none_front path front x back none)) in
        let own : is_above after x ≡ true = (all_back (λ y. is_above after y ≡ true) front
        (x ∷ back) (subst (λ l. AllByRecursion (λ y. is_above after y ≡ true) l) parts
        above)).0 in
        let rest = again (subst (IsPassed path) (sym next)
        (passed_on path after x.path p (above_less after x own))) in
        omega (arith, times_append path taken.page.items.0 (items_taken more), here, rest)
never resource path other another p t = absurd t

-- ---- an item that stands there at each page

-- it is among those of its resource above a path that it is above
pub data Among (path : List ℕ) (items : List Item) : Type 0 where
  among : (front : List Item) (item : Item) (back : List Item) → items ≡ front ++ item ∷ back
      → item.path ≡ path → Among path items

among_filtered : (path : List ℕ) (p : Item → Bool) (items : List Item) (item : Item)
    → item_at items path ≡ Some item → p item ≡ true → Among path (filter p items)
among_filtered path p [] item e t = absurd (none-some item e)
among_filtered path p (x ∷ items) item e t =
    by (bytes_eq x.path path) refl (λ f. among_filtered path p items item f t)
  where
    behind : (b : Bool) → Among path (filter p items)
        → Among path (kept_by b x (filter p items))
    behind true (among front own back parts is) =
        among (x ∷ front) own back (ap (λ l. x ∷ l) parts) is
    behind false a = a

    by : (b : Bool) → bytes_eq x.path path ≡ b
        → (item_at items path ≡ Some item → Among path (filter p items))
        → Among path (kept_by (p x) x (filter p items))
    by true same again =
        let own : Some x ≡ Some item = sym (ap (λ b. own_item b x (item_at items path)) same)
        ∙ e in
        let is : x ≡ item = cc in
        let pass : p x ≡ true = ap p is ∙ t in
        among [] x (filter p items) (ap (λ b. kept_by b x (filter p items)) pass)
        (same_path x.path path same)
    by false different again = behind (p x) (again
        (sym (ap (λ b. own_item b x (item_at items path)) different) ∙ e))

both_pass : (p q : Item → Bool) (items : List Item)
    → filter p (filter q items) ≡ filter (λ x. q x && p x) items
both_pass p q [] = refl
both_pass p q (x ∷ items) = by (q x) (both_pass p q items)
  where
    by : (b : Bool) → filter p (filter q items) ≡ filter (λ y. q y && p y) items
        → filter p (kept_by b x (filter q items))
        ≡ kept_by (b && p x) x (filter (λ y. q y && p y) items)
    by true again = ap (λ l. kept_by (p x) x l) again
    by false again = again

found_among : (path resource after : List ℕ) (items : List Item) (item : Item)
    → item_at items path ≡ Some item → item.resource ≡ resource → path_cmp after path ≡ Less
    → Among path (items_above items resource after)
found_among path resource after items item e own l =
    let above : is_above after item ≡ true = less_above after item
    (subst (λ p. path_cmp after p ≡ Less) (sym (path_found items path item e)) l) in
    let mine : has_resource resource item ≡ true = equal_paths item.resource resource own in
    subst (Among path) (sym (both_pass (has_resource resource) (is_above after) items))
    (among_filtered path (λ x. is_above after x && has_resource resource x) items item e
    ((λ i. above i && has_resource resource item) ∙ mine))

-- ---- once

times_among : (path : List ℕ) (xs : List Item) → Rise xs → Among path xs → times path xs ≡ 1
times_among path xs r (among front item back parts is) =
    let whole : Rise (front ++ item ∷ back) = subst Rise parts r in
    ap (times path) parts
    ∙ times_one path front item back
    (subst (λ p. NoneHas p front) is (before_apart front item back whole)) is
    (subst (λ p. NoneHas p back) is (behind_apart front item back whole))

-- none up to an item has a path above it
none_up_to : (path : List ℕ) (front : List Item) (x : Item) (back : List Item)
    → Rise (front ++ x ∷ back) → path_cmp x.path path ≡ Less → NoneHas path (front ++ x ∷ [])
none_up_to path front x back r l =
    let P : Item → Type 0 = λ y. bytes_eq y.path path ≡ false in
    all_append P front (x ∷ [])
    (all_weaker (λ y. IsBelow y x) P
    (λ y m. below_apart y.path path (below_trans y.path x.path path m l)) front
    (rise_front front x back r))
    (below_apart x.path path l, tt)

pub once : (resource path after : List ℕ) (pages : List Taken) → path_cmp after path ≡ Less
    → AreTaken resource (Some after) pages → All (IsThere resource path) pages
    → times path (items_taken pages) ≡ 1
once resource path after [] l t there = absurd t
once resource path after (taken ∷ more) l t there =
    by (page_case taken.limit xs taken.page t.1 t.2)
    (λ next m. once resource path next more m)
  where
    xs : List Item
    xs = items_above taken.items resource after

    r : Rise xs
    r = rise_above taken.items resource after (rise taken.items t.0)

    it : IsThere resource path taken
    it = All-head (IsThere resource path) taken more there

    rest : All (IsThere resource path) more
    rest = All-tail (IsThere resource path) taken more there

    in_all : times path xs ≡ 1
    in_all = times_among path xs r
        (found_among path resource after taken.items it.0 it.1 it.2 l)

    sum : times path (taken.page.items.0 ++ items_taken more)
        ≡ times path taken.page.items.0 + times path (items_taken more)
    sum = times_append path taken.page.items.0 (items_taken more)

    by_next : (front : List Item) (x : Item) (back : List Item) → xs ≡ front ++ x ∷ back
        → taken.page.items.0 ≡ front ++ x ∷ [] → taken.page.next ≡ Some x.path → (b : Bool)
        → is_lt (path_cmp x.path path) ≡ b
        → ((next : List ℕ) → path_cmp next path ≡ Less → AreTaken resource (Some next) more
        → All (IsThere resource path) more → times path (items_taken more) ≡ 1)
        → times path (taken.page.items.0 ++ items_taken more) ≡ 1
    by_next front x back parts page next true e again =
        let whole : Rise (front ++ x ∷ back) = subst Rise parts r in
        let behind = lt_less (path_cmp x.path path) e in
        let here = times_none path taken.page.items.0 (subst (NoneHas path) (sym page)
        (none_up_to path front x back whole behind)) in
        let later = again x.path behind
        (next_taken resource taken.page.next x.path more next t.3) rest in
        omega (arith, sum, here, later)
    by_next front x back parts page next false e again =
        let whole : Rise (front ++ x ∷ back) = subst Rise parts r in
        let none_behind = times_none path back (none_of_them path x.path back e
        (all_weaker (IsBelow x) (λ y. is_above x.path y ≡ true)
        (λ y m. less_above x.path y m) back (rise_back front x back whole))) in
        let split : times path (front ++ x ∷ back)
        ≡ times path (front ++ x ∷ []) + times path back =
        ap (times path) (sym (append_assoc front (x ∷ []) back))
        ∙ times_append path (front ++ x ∷ []) back in
        let here : times path taken.page.items.0 ≡ 1 =
        ap (times path) page
        ∙ (let all = sym (ap (times path) parts) ∙ in_all in
        omega (arith, all, split, none_behind)) in
        let later = never resource path taken.page.next more
        (subst (IsPassed path) (sym next) e) t.3 in
        omega (arith, sum, here, later)

    by : PageCase taken.limit xs taken.page
        → ((next : List ℕ) → path_cmp next path ≡ Less → AreTaken resource (Some next) more
        → All (IsThere resource path) more → times path (items_taken more) ≡ 1)
        → times path (taken.page.items.0 ++ items_taken more) ≡ 1
    by (whole all none) again =
        let here = ap (times path) all ∙ in_all in
        let later = never resource path taken.page.next more
        (subst (IsPassed path) (sym none) tt) t.3 in
        omega (arith, sum, here, later)
    by (full front x back parts size page next) again =
        by_next front x back parts page next (is_lt (path_cmp x.path path)) refl again

below_some : (path : List ℕ) → 1 ≤ length path → path_cmp [] path ≡ Less
below_some [] l = absurd (omega (arith, l))
below_some (byte ∷ bytes) l = refl

pub pages_have_each : PagesHaveEach
pages_have_each resource path pages is t there =
    once resource path [] pages (below_some path is.0) t there
