-- Objects that go out and come back, by their keys.
use Rattle.std.proofs.Common.{◌≡◌, ◌≢◌, ℕ, zero, suc, Some, None, Option, ◌+◌, ◌<◌, ◌==◌, List, [], ◌∷◌, ◌++◌, length, get_or, Bool, true, false, cond, zero-add, refl, sym, ◌∙◌, ap, subst, arith}
use Rattle.std.specs.Prelude.{count_by, find, position, slice_get, nat_lt, ◌&&◌, IfSome, IsSome, is_some, option_map, option_and_then}
use Rattle.std.specs.Bool.{Decides}
use Rattle.std.specs.List.{remove, position_or_len}
use Rattle.std.specs.Option.{option_map_or}
use Rattle.std.specs.Str.{bytes_eq}
use Rattle.std.proofs.lemmas.Bool.Decides.{Decides-eqb, nat_tests}
use Rattle.std.proofs.lemmas.List.Folds.{find_at}
use Rattle.std.proofs.lemmas.List.Quantifiers.{position-Some}
use Rattle.std.proofs.lemmas.List.Sums.{sum_by-remove, sum_by-append}
use Rattle.std.proofs.lemmas.Option.{slice_get-get_or}
use Rattle.std.proofs.lemmas.Slice.Eq.{bytes_eq-Decides}
use Rattle.kr_kms.specs.Calls.{Link}
use Rattle.kr_kms.specs.MemWorld.{ShelfState, LinkShelf, link_key, place_of, objects_by}
use Rattle.kr_kms.specs.Outside.{at_key, HandsOut, TakesBack, same_seat, same_name, same_link, link_at}

-- ---- the first place of a test

pub place_found : {X : Type 0} (p : X → Bool) (xs : List X) (i : ℕ) → position p xs ≡ Some i
    → find p xs ≡ slice_get xs i
place_found p xs i e = find_at p xs ∙ ap (slice_get xs)
    (same (nat_lt (position_or_len p xs) (length xs)) (position_or_len p xs) e)
  where
    same : (b : Bool) (n : ℕ) → cond b (Some n) None ≡ Some i → n ≡ i
    same true n e = cc
    same false n e = absurd (cc)

beyond : {X : Type 0} (xs : List X) (i : ℕ) → (i < length xs → ⊥) → slice_get xs i ≡ None
beyond [] i n = refl
beyond (x ∷ xs) zero n = absurd (n (omega arith))
beyond (x ∷ xs) (suc i) n = beyond xs i (λ lt. n (omega (arith, lt)))

-- there is none where the test has no place
pub no_place : {X : Type 0} (p : X → Bool) (xs : List X) → position p xs ≡ None → find p xs ≡ None
no_place p xs e = find_at p xs ∙ beyond xs (position_or_len p xs)
    (λ lt. within (position_or_len p xs) (length xs) lt
    (outside (nat_lt (position_or_len p xs) (length xs)) (position_or_len p xs) e))
  where
    outside : (b : Bool) (n : ℕ) → cond b (Some n) None ≡ None → b ≡ false
    outside true n e = absurd (cc)
    outside false n e = refl

    within : (n m : ℕ) → n < m → nat_lt n m ≡ false → ⊥
    within n m lt f = grind (arith, nat_tests)

-- what stands there is found
pub found_at : {X : Type 0} (p : X → Bool) (xs : List X) (at : ℕ) (x : X)
    → position p xs ≡ Some at → x ≡ get_or xs at x → find p xs ≡ Some x
found_at p xs at x e is = let found = position-Some p xs at x e in
    place_found p xs at e ∙ slice_get-get_or xs at x found.0 ∙ ap (λ w. Some w) (sym is)

-- a place is one of the list
pub place_within : {X : Type 0} (p : X → Bool) (xs : List X) (place : Option ℕ)
    → place ≡ position p xs → IfSome place (λ at. at < length xs)
place_within p xs None e = tt
place_within p [] (Some at) e = absurd (cc)
place_within p (x ∷ xs) (Some at) e = (position-Some p (x ∷ xs) at x (sym e)).0

find-remove : {X : Type 0} (p : X → Bool) (xs : List X) (at : ℕ) (d : X) → at < length xs
    → p (get_or xs at d) ≡ false → find p (remove xs at) ≡ find p xs
find-remove p [] at d h e = absurd (omega arith)
find-remove p (x ∷ xs) zero d h e = sym (ap (λ q. cond q (Some x) (find p xs)) e)
find-remove p (x ∷ xs) (suc at) d h e =
    ap (λ r. cond (p x) (Some x) r) (find-remove p xs at d (omega (arith, h)) e)

-- ---- how many pass a test

abbrev one_if : {X : Type 0} → (X → Bool) → X → ℕ
one_if p x = cond (p x) 1 0

pub count-remove : {X : Type 0} (p : X → Bool) (xs : List X) (at : ℕ) (d : X) → at < length xs
    → count_by p (remove xs at) + one_if p (get_or xs at d) ≡ count_by p xs
count-remove p xs at d h = sum_by-remove (one_if p) xs at d h

pub count-end : {X : Type 0} (p : X → Bool) (xs : List X) (x : X)
    → count_by p (xs ++ x ∷ []) ≡ count_by p xs + one_if p x
count-end p xs x = sum_by-append (one_if p) xs (x ∷ [])
    ∙ ap (λ n. count_by p xs + n) (zero-add (one_if p x))

pub some_counted : {X : Type 0} (p : X → Bool) (xs : List X) (at : ℕ) → position p xs ≡ Some at
    → 0 < count_by p xs
some_counted p [] at e = absurd (cc)
some_counted p (x ∷ xs) at e =
    let found = position-Some p (x ∷ xs) at x e in
    omega (arith, count-remove p (x ∷ xs) at x found.0, ap {B = ℕ} (λ q. cond q 1 0) found.1)

pub none_counted : {X : Type 0} (p : X → Bool) (xs : List X) → find p xs ≡ None → count_by p xs ≡ 0
none_counted p [] e = refl
none_counted p (x ∷ xs) e = sum_by-append (one_if p) (x ∷ []) xs
    ∙ by (p x) (λ f. none_counted p xs f) e
  where
    by : (q : Bool) → (find p xs ≡ None → count_by p xs ≡ 0) → cond q (Some x) (find p xs) ≡ None
        → (0 + cond q 1 0) + count_by p xs ≡ 0
    by true rest e = absurd (cc)
    by false rest e = zero-add (count_by p xs) ∙ rest e

-- where a test has a place, what passes it is found
first_there : {X Y : Type 0} (f : X → Y) (p : X → Bool) (xs : List X) (at : ℕ)
    → position p xs ≡ Some at → IsSome (option_map f (find p xs))
first_there f p [] at e = absurd (cc)
first_there f p (x ∷ xs) at e =
    let found = position-Some p (x ∷ xs) at x e in
    subst (λ o. IsSome (option_map f o))
    (sym (place_found p (x ∷ xs) at e ∙ slice_get-get_or (x ∷ xs) at x found.0)) refl

-- ---- a place that was looked for in a list that is lent

-- a key that was told is the one that is meant, and what was lent is the list
pub placed_by : {X Y : Type 0} (p : Y → X → Bool) {said key : Y} {seen xs : List X}
    {place : Option ℕ} → place ≡ position (p said) seen → said ≡ key → seen ≡ xs
    → position (p key) xs ≡ place
placed_by p {said = said} {xs = xs} first same is =
    sym (first ∙ ap (λ l. position (p said) l) is ∙ ap (λ k. position (p k) xs) same)

pub placed : {X : Type 0} (p : X → Bool) {seen xs : List X} {place : Option ℕ}
    → place ≡ position p seen → seen ≡ xs → position p xs ≡ place
placed p first is = sym (first ∙ ap (λ l. position p l) is)

-- none is given where there is no place, and what stands at the place where there is one
pub none_given : {X Y : Type 0} (f : X → Y) (p : X → Bool) {seen xs : List X}
    → None ≡ position p seen → seen ≡ xs → option_map f (find p xs) ≡ None
none_given f p {xs = xs} first is = ap (option_map f) (no_place p xs (placed p first is))

pub one_given : {X Y : Type 0} (f : X → Y) (p : X → Bool) {seen xs : List X} {at : ℕ} {x : X}
    → Some at ≡ position p seen → seen ≡ xs → x ≡ get_or xs at x
    → option_map f (find p xs) ≡ Some (f x)
one_given f p {xs = xs} {at = at} {x = x} first is lent =
    ap (option_map f) (found_at p xs at x (placed p first is) lent)

pub some_given : {X Y : Type 0} (f : X → Y) (p : X → Bool) {seen xs : List X} {at : ℕ}
    → Some at ≡ position p seen → seen ≡ xs → IsSome (option_map f (find p xs))
some_given f p {xs = xs} {at = at} first is = first_there f p xs at (placed p first is)

-- where it stands, but there is no room to lend it
pub not_lent : {X Y : Type 0} (f : X → Y) (p : X → Bool) {seen xs : List X} {at n : ℕ}
    → Some at ≡ position p seen → seen ≡ xs → IsSome (option_map f (find p xs)) × (n ≡ n)
not_lent f p first is = (some_given f p first is, refl)

-- one of which some are out has a place there
pub not_taken : {X : Type 0} (p : X → Bool) (xs : List X) → position p xs ≡ None
    → 0 < count_by p xs → ⊥
not_taken p xs none out = omega (arith, none_counted p xs (no_place p xs none), out)

-- whether a test has a place says whether any passes it
module _ {X : Type 0} (p : X → Bool) {seen xs : List X} {place : Option ℕ} {there : Bool}
    (first : place ≡ position p seen) (is : seen ≡ xs) (told : there ≡ is_some place) where
  pub none_out : there ≡ false → count_by p xs ≡ 0
  none_out f = by place (placed p first is) (sym told ∙ f)
    where
      by : (place : Option ℕ) → position p xs ≡ place → is_some place ≡ false → count_by p xs ≡ 0
      by None e f = none_counted p xs (no_place p xs e)
      by (Some at) e f = absurd (cc)

  pub some_out : there ≡ true → 0 < count_by p xs
  some_out t = by place (placed p first is) (sym told ∙ t)
    where
      by : (place : Option ℕ) → position p xs ≡ place → is_some place ≡ true → 0 < count_by p xs
      by None e t = absurd (cc)
      by (Some at) e t = some_counted p xs at e

-- a name that has no place among those that are out is out no time
pub name_free : (name : List ℕ) {seen xs : List (List ℕ)} {place : Option ℕ} {there : Bool}
    → place ≡ position (λ o. same_name o name) seen → seen ≡ xs → there ≡ is_some place
    → there ≡ false → count_by (λ o. same_name o name) xs ≡ 0
name_free name first is told = none_out (λ o. same_name o name) first is told

-- ---- the tests of keys

pub seats_decide : (a b : ℕ) → Decides (same_seat a b) (a ≡ b)
seats_decide a b = Decides-eqb a b

pub names_decide : (a b : List ℕ) → Decides (same_name a b) (a ≡ b)
names_decide a b = bytes_eq-Decides a b

pub links_decide : (a b : ℕ × List ℕ) → Decides (same_link a b) (a ≡ b)
links_decide a b =
    let seats = Decides-eqb a.0 b.0 in
    let names = bytes_eq-Decides a.1 b.1 in (
      λ t. same a b (seats.0 (both_first (a.0 == b.0) (bytes_eq a.1 b.1) t))
          (names.0 (both_last (a.0 == b.0) (bytes_eq a.1 b.1) t)),
      λ e. both (a.0 == b.0) (bytes_eq a.1 b.1) (seats.1 (ap (λ k. k.0) e)) (names.1 (ap (λ k. k.1) e)),
    )
  where
    same : (x y : ℕ × List ℕ) → x.0 ≡ y.0 → x.1 ≡ y.1 → x ≡ y
    same x y p q = λ i. (p i, q i)

    both_first : (p q : Bool) → p && q ≡ true → p ≡ true
    both_first true q t = refl
    both_first false q t = absurd (cc)

    both_last : (p q : Bool) → p && q ≡ true → q ≡ true
    both_last true q t = t
    both_last false q t = absurd (cc)

    both : (p q : Bool) → p ≡ true → q ≡ true → p && q ≡ true
    both true q s t = t
    both false q s t = absurd (cc)

-- the key stands at its place
pub key_stands : {K : Type 0} (same : K → K → Bool)
    → ((a b : K) → Decides (same a b) (a ≡ b)) → (out : List K) (at : ℕ) (key : K)
    → position (λ o. same o key) out ≡ Some at → get_or out at key ≡ key
key_stands same decides out at key place =
    (decides (get_or out at key) key).0 (position-Some (λ o. same o key) out at key place).1

-- ---- what is lent

abbrev pub of_key : {K T : Type 0} → (K → K → Bool) → (T → K) → K → T → Bool
of_key same key_of key item = same (key_of item) key

module _ {K T V : Type 0} (same : K → K → Bool) (key_of : T → K) (told : Option T → V)
    (count : T → ℕ) (decides : (a b : K) → Decides (same a b) (a ≡ b)) where
  differs : (a key other : K) → a ≡ key → other ≢ key → same a other ≡ false
  differs a key other e n = by (same a other) (λ t. n (sym ((decides a other).0 t) ∙ e))
    where
      by : (q : Bool) → (q ≡ true → ⊥) → q ≡ false
      by true none = absurd (none refl)
      by false none = refl

  -- the first of the key goes out, by a copy of the key
  pub lent : (old new : ShelfState K T) (at : ℕ) (key : K) {said : K} (item : T) {n : ℕ}
      → place_of same key_of old.items key ≡ Some at → item ≡ get_or old.items at item
      → new ≡ record { items = remove old.items at; out = old.out ++ said ∷ [] } → said ≡ key
      → n ≡ count item
      → HandsOut same (objects_by same key_of told count old)
      (objects_by same key_of told count new) key n
  lent old new at key item {n = n} place is gone copied counted =
      let found = position-Some (of_key same key_of key) old.items at item place in
      let it_is : key_of (get_or old.items at item) ≡ key =
      (decides (key_of (get_or old.items at item)) key).0 found.1 in
      let stays : (other : K) → other ≢ key
      → find (of_key same key_of other) (remove old.items at) ≡ find (of_key same key_of other) old.items =
      λ other n. find-remove (of_key same key_of other) old.items at item found.0
      (differs (key_of (get_or old.items at item)) key other it_is n) in
      subst (λ s. HandsOut same (objects_by same key_of told count old)
      (objects_by same key_of told count s) key n)
      ((λ i. record { items = remove old.items at; out = old.out ++ sym copied i ∷ [] }) ∙ sym gone)
      (record {
        count_is = counted ∙ ap (λ f. option_map_or count f 0)
            (sym (found_at (of_key same key_of key) old.items at item place is));
        out = λ other. count-end (λ o. same o other) old.out key;
        handed = refl;
        told = λ other n. ap told (stays other n);
        faults = λ other n. ap (λ f. option_map_or count f 0) (stays other n);
      })

  -- a new one of the key goes out, by a copy of the key
  pub made : (old new : ShelfState K T) (key : K) {said : K} {n : ℕ}
      → place_of same key_of old.items key ≡ None
      → new ≡ record { items = old.items; out = old.out ++ said ∷ [] } → said ≡ key → n ≡ 0
      → HandsOut same (objects_by same key_of told count old)
      (objects_by same key_of told count new) key n
  made old new key {n = n} place gone copied none =
      subst (λ s. HandsOut same (objects_by same key_of told count old)
      (objects_by same key_of told count s) key n)
      ((λ i. record { items = old.items; out = old.out ++ sym copied i ∷ [] }) ∙ sym gone) (record {
        count_is = none ∙ ap (λ f. option_map_or count f 0)
            (sym (no_place (of_key same key_of key) old.items place));
        out = λ other. count-end (λ o. same o other) old.out key;
        handed = refl;
        told = λ other n. refl;
        faults = λ other n. refl;
      })

  -- what comes back is the first of its key
  pub returned_first : (items : List T) (key : K) (item : T) → key_of item ≡ key
      → find (of_key same key_of key) (item ∷ items) ≡ Some item
  returned_first items key item e =
      ap (λ q. cond q (Some item) (find (of_key same key_of key) items)) ((decides (key_of item) key).1 e)

  pub returned : (old new : ShelfState K T) (at : ℕ) (key : K) (item : T) → key_of item ≡ key
      → position (λ o. same o key) old.out ≡ Some at
      → new ≡ record { items = item ∷ old.items; out = remove old.out at }
      → TakesBack same (objects_by same key_of told count old)
      (objects_by same key_of told count new) key (count item)
  returned old new at key item e place back =
      let found = position-Some (λ o. same o key) old.out at key place in
      let stays : (other : K) → other ≢ key
      → find (of_key same key_of other) (item ∷ old.items) ≡ find (of_key same key_of other) old.items =
      λ other n. ap (λ q. cond q (Some item) (find (of_key same key_of other) old.items))
      (differs (key_of item) key other e n) in
      subst (λ s. TakesBack same (objects_by same key_of told count old)
      (objects_by same key_of told count s) key (count item)) (sym back) (record {
        count_is = ap (λ f. option_map_or count f 0) (returned_first old.items key item e);
        out = λ other. ap (λ k. count_by (λ o. same o other) (remove old.out at) + at_key same k 1 other)
            (sym (key_stands same decides old.out at key place)) ∙ count-remove (λ o. same o other) old.out at key found.0;
        handed = refl;
        told = λ other n. ap told (stays other n);
        faults = λ other n. ap (λ f. option_map_or count f 0) (stays other n);
      })

-- one that is kept with its key comes back, in the place of the key by which it was out
pub returned_keyed : {K U V : Type 0} (same : K → K → Bool) (told : Option (K × U) → V)
    (count : K × U → ℕ) (decides : (a b : K) → Decides (same a b) (a ≡ b))
    (old new : ShelfState K (K × U)) (at : ℕ) (key : K) {given : U} (item : U) → given ≡ item
    → position (λ o. same o key) old.out ≡ Some at
    → new ≡ record { items = (get_or old.out at key, given) ∷ old.items; out = remove old.out at }
    → TakesBack same (objects_by same (λ entry. entry.0) told count old)
    (objects_by same (λ entry. entry.0) told count new) key (count (key, item))
returned_keyed same told count decides old new at key item is place back =
    returned same (λ entry. entry.0) told count decides old new at key (key, item) refl place
    (back ∙ (λ i. record {
      items = (key_stands same decides old.out at key place i, is i) ∷ old.items;
      out = remove old.out at;
    }))

-- a link is what the world told of it
pub link_is : {L : Type 0} (link : L → Link) (shelf : LinkShelf L) (at seat : ℕ) (plugin : List ℕ)
    (given : ℕ × L) → place_of same_link (link_key link) shelf.items (seat, plugin) ≡ Some at
    → given ≡ get_or shelf.items at given
    → link given.1 ≡ link_at (objects_by same_link (link_key link)
    (option_and_then (λ entry. (link entry.1).status)) (λ entry. (link entry.1).count) shelf)
    seat plugin
link_is link shelf at seat plugin given place is =
    let test : _ → Bool = λ entry. same_link (link_key link entry) (seat, plugin) in
    let found = found_at test shelf.items at given place is in
    let passes : test given ≡ true =
    ap test is ∙ (position-Some test shelf.items at given place).1 in
    let name = (links_decide (link_key link given) (seat, plugin)).0 passes in
    λ i. record {
      name = (name i).1;
      count = option_map_or (λ entry. (link entry.1).count) (sym found i) 0;
      status = option_and_then (λ entry. (link entry.1).status) (sym found i);
    }
