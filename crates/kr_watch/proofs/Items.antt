-- The items of paths in lists that are in order.
use Rattle.std.proofs.Common.{◌≡◌, ℕ, Bool, true, false, cond, List, [], ◌∷◌, ◌++◌, Option, None, Some, refl, sym, ap, ◌∙◌, subst}
use Rattle.std.specs.Prelude.{if◌then◌else◌, filter}
use Rattle.std.specs.List.{AllByRecursion}
use Rattle.std.specs.Str.{bytes_eq}
use Rattle.std.proofs.lemmas.Option.{none-some}
use Rattle.kr_watch.specs.declared.item.Item.{Item}
use Rattle.kr_watch.specs.Pages.{is_above}
use Rattle.kr_watch.specs.Shown.{ChangesItem, item_at}
use Rattle.kr_watch.proofs.Orders.{AreAbove, AreUpTo, IsBelow, Rise, above_apart, all_weaker, below_apart, equal_paths, rise_back, rise_front, same_path, to_false}

abbrev pub own_item : Bool → Item → Option Item → Option Item
own_item b item more = if b then Some item else more

-- ---- where none stands

-- none of the items has the path
abbrev pub NoneHas : (path : List ℕ) → List Item → Type 0
NoneHas path items = AllByRecursion (λ item. bytes_eq item.path path ≡ false) items

pub none_there : (path : List ℕ) (items : List Item) → NoneHas path items
    → item_at items path ≡ None
none_there path [] h = refl
none_there path (x ∷ items) h =
    ap (λ b. own_item b x (item_at items path)) h.0 ∙ none_there path items h.1

pub none_has : (path : List ℕ) (items : List Item) → item_at items path ≡ None
    → NoneHas path items
none_has path [] e = tt
none_has path (x ∷ items) e = by (bytes_eq x.path path) refl (none_has path items)
  where
    by : (b : Bool) → bytes_eq x.path path ≡ b
        → (item_at items path ≡ None → NoneHas path items) → NoneHas path (x ∷ items)
    by true same again = absurd (none-some x (sym e
        ∙ ap (λ b. own_item b x (item_at items path)) same))
    by false other again = (
      other,
      again
          (sym (ap (λ b. own_item b x (item_at items path)) other) ∙ e),
    )

-- ---- an item between others

pub item_behind : (front back : List Item) (path : List ℕ) → NoneHas path front
    → item_at (front ++ back) path ≡ item_at back path
item_behind [] back path h = refl
item_behind (x ∷ front) back path h =
    ap (λ b. own_item b x (item_at (front ++ back) path)) h.0 ∙ item_behind front back path h.1

pub item_between : (front : List Item) (item : Item) (back : List Item) (other : List ℕ)
    → NoneHas item.path front
    → item_at (front ++ item ∷ back) other
    ≡ own_item (bytes_eq item.path other) item (item_at (front ++ back) other)
item_between [] item back other h = refl
item_between (x ∷ front) item back other h =
    by (bytes_eq x.path other) refl (item_between front item back other h.1)
  where
    rest : Option Item
    rest = item_at (front ++ back) other

    by : (b : Bool) → bytes_eq x.path other ≡ b
        → item_at (front ++ item ∷ back) other ≡ own_item (bytes_eq item.path other) item rest
        → own_item (bytes_eq x.path other) x (item_at (front ++ item ∷ back) other)
        ≡ own_item (bytes_eq item.path other) item (own_item (bytes_eq x.path other) x rest)
    by true same again =
        let apart : bytes_eq item.path other ≡ false = to_false (bytes_eq item.path other) (λ e.
        let z : false ≡ true = sym h.0 ∙ equal_paths x.path item.path
        (same_path x.path other same ∙ sym (same_path item.path other e)) in cc) in
        ap (λ b. own_item b x (item_at (front ++ item ∷ back) other)) same
        ∙ sym (ap (λ b. own_item b item (own_item (bytes_eq x.path other) x rest)) apart
        ∙ ap (λ b. own_item b x rest) same)
    by false different again =
        ap (λ b. own_item b x (item_at (front ++ item ∷ back) other)) different
        ∙ again
        ∙ sym (ap (λ b. own_item (bytes_eq item.path other) item (own_item b x rest)) different)

-- ---- changes

pub put_over : (front : List Item) (old item : Item) (back : List Item)
    → NoneHas item.path front → old.path ≡ item.path
    → ChangesItem item.path (Some item) (front ++ old ∷ back) (front ++ item ∷ back)
put_over front old item back h e other =
    item_between front item back other h ∙ by (bytes_eq item.path other) refl
  where
    more : Option Item
    more = item_at (front ++ back) other

    was : item_at (front ++ old ∷ back) other ≡ own_item (bytes_eq old.path other) old more
    was = item_between front old back other (subst (λ p. NoneHas p front) (sym e) h)

    by : (b : Bool) → bytes_eq item.path other ≡ b
        → own_item (bytes_eq item.path other) item more
        ≡ own_item (bytes_eq item.path other) item (item_at (front ++ old ∷ back) other)
    by true same = ap (λ b. own_item b item more) same
        ∙ sym (ap (λ b. own_item b item (item_at (front ++ old ∷ back) other)) same)
    by false different = ap (λ b. own_item b item more) different
        ∙ sym (ap (λ b. own_item b item (item_at (front ++ old ∷ back) other)) different
        ∙ was ∙ ap (λ p. own_item (bytes_eq p other) old more) e
        ∙ ap (λ b. own_item b old more) different)

pub taken_away : (front : List Item) (x : Item) (back : List Item) → NoneHas x.path front
    → NoneHas x.path back → ChangesItem x.path None (front ++ x ∷ back) (front ++ back)
taken_away front x back h k other = by (bytes_eq x.path other) refl
  where
    by : (b : Bool) → bytes_eq x.path other ≡ b → item_at (front ++ back) other
        ≡ (if bytes_eq x.path other then None else item_at (front ++ x ∷ back) other)
    by true same =
        subst (λ p. item_at (front ++ back) p ≡ None) (same_path x.path other same)
        (item_behind front back x.path h ∙ none_there x.path back k)
        ∙ sym (ap (λ b. if b then None else item_at (front ++ x ∷ back) other) same)
    by false different =
        sym (item_between front x back other h
        ∙ ap (λ b. own_item b x (item_at (front ++ back) other)) different)
        ∙ sym (ap (λ b. if b then None else item_at (front ++ x ∷ back) other) different)

-- where no item stands at the path, taking it away changes nothing
pub nothing_there : (path : List ℕ) (items : List Item) → item_at items path ≡ None
    → ChangesItem path None items items
nothing_there path items e other = by (bytes_eq path other) refl
  where
    by : (b : Bool) → bytes_eq path other ≡ b
        → item_at items other ≡ (if bytes_eq path other then None else item_at items other)
    by true same = subst (λ p. item_at items p ≡ None) (same_path path other same) e
        ∙ sym (ap (λ b. if b then None else item_at items other) same)
    by false different = sym (ap (λ b. if b then None else item_at items other) different)

-- an item that is found has the path
pub path_found : (items : List Item) (path : List ℕ) (item : Item)
    → item_at items path ≡ Some item → item.path ≡ path
path_found [] path item e = absurd (none-some item e)
path_found (x ∷ items) path item e = by (bytes_eq x.path path) refl (path_found items path item)
  where
    by : (b : Bool) → bytes_eq x.path path ≡ b
        → (item_at items path ≡ Some item → item.path ≡ path) → item.path ≡ path
    by true same again =
        let own : Some x ≡ Some item = sym (ap (λ b. own_item b x (item_at items path)) same)
        ∙ e in
        let is : x ≡ item = cc in
        ap (λ (y : Item). y.path) (sym is) ∙ same_path x.path path same
    by false different again = again
        (sym (ap (λ b. own_item b x (item_at items path)) different) ∙ e)

-- ---- by the order

-- what stands before an item has another path, and so has what stands behind it
pub before_apart : (front : List Item) (x : Item) (back : List Item) → Rise (front ++ x ∷ back)
    → NoneHas x.path front
before_apart front x back r = all_weaker (λ y. IsBelow y x) (λ y. bytes_eq y.path x.path ≡ false)
    (λ y l. below_apart y.path x.path l) front (rise_front front x back r)

pub behind_apart : (front : List Item) (x : Item) (back : List Item) → Rise (front ++ x ∷ back)
    → NoneHas x.path back
behind_apart front x back r = all_weaker (IsBelow x) (λ y. bytes_eq y.path x.path ≡ false)
    (λ y l. above_apart x.path y.path l) back (rise_back front x back r)

-- ---- those above a path

pub no_rest : (path : List ℕ) (items : List Item) → AreUpTo path items
    → filter (is_above path) items ≡ []
no_rest path [] u = refl
no_rest path (x ∷ items) u =
    ap (λ b. cond b (x ∷ filter (is_above path) items) (filter (is_above path) items)) u.0
    ∙ no_rest path items u.1

pub all_rest : (path : List ℕ) (items : List Item) → AreAbove path items
    → filter (is_above path) items ≡ items
all_rest path [] a = refl
all_rest path (x ∷ items) a =
    ap (λ b. cond b (x ∷ filter (is_above path) items) (filter (is_above path) items)) a.0
    ∙ ap (λ l. x ∷ l) (all_rest path items a.1)
