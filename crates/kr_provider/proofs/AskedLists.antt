-- Links of a list that are asked one after another.
use Rattle.std.proofs.Common.{◌≡◌, ℕ, zero, suc, ◌+◌, ◌≤◌, Bool, true, false, List, [], ◌∷◌, ◌++◌, take, drop, set, get_or, drop-cons, take-append-drop, refl, sym, ◌∙◌, ap, subst, arith, Contains}
use Rattle.std.specs.Prelude.{cond, find, position, Option, Some, None}
use Rattle.std.specs.List.{IsDistinct}
use Rattle.std.specs.Str.{bytes_eq}
use Rattle.std.proofs.lemmas.List.{drop-set, take-set}
use Rattle.std.proofs.lemmas.List.Elements.{Contains-append_right}
use Rattle.std.proofs.lemmas.List.Quantifiers.{position-Some}
use Rattle.std.proofs.lemmas.Slice.Eq.{bytes_eq-Decides}
use Rattle.kr_base.specs.Faults.{Rose}
use Rattle.kr_base.specs.Told.{Agrees}
use Rattle.kr_config.specs.Kept.{ConfigEntry}
use Rattle.kr_kms.specs.Calls.{Link, IsSameLink}
use Rattle.kr_kms.specs.Health.{HasBreach}
use Rattle.kr_kms.specs.declared.health.Field.{Field}
use Rattle.kr_provider.specs.AskedLinks.{AskedOnly, AsksOne, FaultRose, HasLinkWith}
use Rattle.kr_provider.specs.Names.{AreDistinct, HasLinks, names_of}

pub same_itself : (l : Link) → IsSameLink l l
same_itself l = record { name = refl; status = refl; later = omega arith }

pub same_then : (a b c : Link) → IsSameLink a b → IsSameLink b c → IsSameLink a c
same_then a b c s t = record {
  name = t.name ∙ s.name;
  status = t.status ∙ s.status;
  later = omega (arith, s.later, t.later);
}

pub rose_from : (a b c : ℕ) → a ≤ b → Rose b c → Rose a c
rose_from a b c h r = grind arith

-- a broken rule is one of the told status, which stays
pub breach_back : (breach : Option (Field × List ℕ)) (a b : Link) → IsSameLink a b
    → HasBreach b breach → HasBreach a breach
breach_back breach a b s h = (h.0, subst (λ told. Agrees told h.0) s.status h.1, h.2)

module _ {L : Type 0} (link : L → Link) (names : List (List ℕ)) where
  pub asked_none : (xs : List L) → AskedOnly link names xs xs
  asked_none [] = tt
  asked_none (x ∷ xs) = (same_itself (link x), λ n. refl, asked_none xs)

  pub asked_at : (front behind : List L) (x y : L) → Contains names (link x).name
      → IsSameLink (link x) (link y) → AskedOnly link names (front ++ x ∷ behind)
      (front ++ y ∷ behind)
  asked_at [] behind x y c s = (s, λ n. absurd (n c), asked_none behind)
  asked_at (z ∷ front) behind x y c s = (
    same_itself (link z),
    λ n.
        refl,
    asked_at front behind x y c s,
  )

  pub asked_then : (xs ys zs : List L) → AskedOnly link names xs ys → AskedOnly link names ys zs
      → AskedOnly link names xs zs
  asked_then [] [] [] a b = tt
  asked_then [] [] (z ∷ zs) a b = b
  asked_then (x ∷ xs) (y ∷ ys) [] a b = absurd b
  asked_then (x ∷ xs) (y ∷ ys) (z ∷ zs) a b = (
    same_then (link x) (link y) (link z) a.0 b.0,
    λ n. b.1 (λ c. n (subst (Contains names) a.0.name c)) ∙ a.1 n,
    asked_then xs ys zs a.2 b.2,
  )
  asked_then other another zs a b = absurd a

  pub names_stay : (xs ys : List L) → AskedOnly link names xs ys
      → names_of link ys ≡ names_of link xs
  names_stay [] [] a = refl
  names_stay (x ∷ xs) (y ∷ ys) a = ap (λ n. n ∷ names_of link ys) a.0.name
      ∙ ap (λ l. (link x).name ∷ l) (names_stay xs ys a.2)
  names_stay other another a = absurd a

  pub distinct_stay : (xs ys : List L) → AskedOnly link names xs ys → AreDistinct link xs
      → AreDistinct link ys
  distinct_stay xs ys a d = subst (IsDistinct bytes_eq) (sym (names_stay xs ys a)) d

  pub links_stay : (xs ys : List L) (rows : List ConfigEntry) → AskedOnly link names xs ys
      → HasLinks (names_of link xs) rows → HasLinks (names_of link ys) rows
  links_stay xs ys rows a h = λ name c. subst (λ l. Contains l name) (sym (names_stay xs ys a))
      (h name c)

  -- the link that became this one
  pub twin : (xs ys : List L) (y : L) → AskedOnly link names xs ys → Contains ys y
      → (x : L) × Contains xs x × IsSameLink (link x) (link y)
  twin [] [] y a c = absurd (omega (arith, c.1))
  twin (x ∷ xs) (z ∷ zs) y a (zero, lt, e) = (
    x,
    (0, omega arith, refl),
    subst
        (λ l. IsSameLink (link x) (link l)) e a.0,
  )
  twin (x ∷ xs) (z ∷ zs) y a (suc k, lt, e) =
      let t = twin xs zs y a.2 (k, omega (arith, lt), e) in
      (t.0, (suc t.1.0, omega (arith, t.1.1), t.1.2), t.2)
  twin other another y a c = absurd a

  -- what a link has that was asked, it had before, where that goes by what stays
  pub had : (name : List ℕ) (Has : Link → Type 0) (xs ys : List L)
      → ((a b : Link) → IsSameLink a b → Has b → Has a) → AskedOnly link names xs ys
      → HasLinkWith link name Has ys → HasLinkWith link name Has xs
  had name Has xs ys back a h = let t = twin xs ys h.it a h.there in record {
    it = t.0;
    there = t.1;
    named = sym t.2.name ∙ h.named;
    has = back (link t.0) (link h.it) t.2 h.has;
  }

  -- a count that rose later rose
  pub rose_later : (name : List ℕ) (xs ys zs : List L) → AskedOnly link names xs ys
      → FaultRose link name ys zs → FaultRose link name xs zs
  rose_later name xs ys zs a f = let t = twin xs ys f.old a f.old_there in record {
    old = t.0;
    new = f.new;
    old_there = t.1;
    new_there = f.new_there;
    old_named = sym t.2.name ∙ f.old_named;
    new_named = f.new_named;
    rose = rose_from (link t.0).count (link f.old).count (link f.new).count t.2.later f.rose;
  }

-- ---- one link

mid_there : {L : Type 0} (front behind : List L) (x : L) → Contains (front ++ x ∷ behind) x
mid_there front behind x = Contains-append_right front (x ∷ behind) x (0, omega arith, refl)

module _ {L : Type 0} (link : L → Link) (name : List ℕ) (Asks : L → L
    → Type 0) (xs ys : List L) where
  pub asked_one : (names : List (List ℕ)) → AsksOne link name Asks xs ys → Contains names name
      → AskedOnly link names xs ys
  asked_one names a c =
      let at = asked_at link names a.front a.behind a.old a.new
      (subst (Contains names) (sym a.named) c) a.same in
      let P : List L → Type 0 = λ l. AskedOnly link names l ys in
      let Q : List L → Type 0 = λ l. AskedOnly link names (a.front ++ a.old ∷ a.behind) l in
      subst P (sym a.olds_are) (subst Q (sym a.news_are) at)

  pub asked_alone : AsksOne link name Asks xs ys → AskedOnly link (name ∷ []) xs ys
  asked_alone a = asked_one (name ∷ []) a (0, omega arith, refl)

  pub has_at : (Has : Link → Type 0) (a : AsksOne link name Asks xs ys) → Has (link a.old)
      → HasLinkWith link name Has xs
  has_at Has a h = record {
    it = a.old;
    there = subst (λ l. Contains l a.old) (sym a.olds_are) (mid_there a.front a.behind a.old);
    named = a.named;
    has = h;
  }

  pub rose_at : (a : AsksOne link name Asks xs ys) → Rose (link a.old).count (link a.new).count
      → FaultRose link name xs ys
  rose_at a r = record {
    old = a.old;
    new = a.new;
    old_there = subst (λ l. Contains l a.old) (sym a.olds_are) (mid_there a.front a.behind a.old);
    new_there = subst (λ l. Contains l a.new) (sym a.news_are) (mid_there a.front a.behind a.new);
    old_named = a.named;
    new_named = a.same.name ∙ a.named;
    rose = r;
  }

-- ---- a link at a place

-- a name that is there is found
pub place_there : {L : Type 0} (link : L → Link) (name : List ℕ) (xs : List L)
    → Contains (names_of link xs) name
    → find (λ l. bytes_eq (link l).name name) xs ≡ None → ⊥
place_there link name [] c e = omega (arith, c.1)
place_there {L} link name (x ∷ xs) c e =
    at (bytes_eq (link x).name name) refl (place_there link name xs) c e
  where
    at : (b : Bool) → bytes_eq (link x).name name ≡ b
        → (Contains (names_of link xs) name
        → find (λ l. bytes_eq (link l).name name) xs ≡ None → ⊥)
        → Contains (names_of link (x ∷ xs)) name
        → cond b (Some x) (find (λ l. bytes_eq (link l).name name) xs) ≡ None → ⊥
    at true t more c e = cc
    at false t more (zero, lt, is) e =
        let same = (bytes_eq-Decides (link x).name name).1 is in cc
    at false t more (suc k, lt, is) e = more (k, omega (arith, lt), is) e

pub place_named : {L : Type 0} (link : L → Link) (name : List ℕ) (xs : List L) (at : ℕ) (x : L)
    → position (λ l. bytes_eq (link l).name name) xs ≡ Some at → x ≡ get_or xs at x
    → (link x).name ≡ name
place_named link name xs at x p is =
    let place = position-Some (λ l. bytes_eq (link l).name name) xs at x p in
    (bytes_eq-Decides (link x).name name).0
    (ap (λ z. bytes_eq (link z).name name) is ∙ place.1)

-- what the link at the place has
pub place_has : {L : Type 0} (link : L → Link) (name : List ℕ) (Has : Link → Type 0) (xs : List L)
    (at : ℕ) (x : L) → position (λ l. bytes_eq (link l).name name) xs ≡ Some at
    → x ≡ get_or xs at x → Has (link x) → HasLinkWith link name Has xs
place_has link name Has xs at x p is has = record {
  it = x;
  there = (at, (position-Some (λ l. bytes_eq (link l).name name) xs at x p).0, sym is);
  named = place_named link name xs at x p is;
  has = has;
}

pub asks_at : {L : Type 0} (link : L → Link) (name : List ℕ) (Asks : L → L
    → Type 0) (xs ys : List L)
    (at : ℕ) (x y : L) → position (λ l. bytes_eq (link l).name name) xs ≡ Some at
    → x ≡ get_or xs at x → ys ≡ set xs at y → IsSameLink (link x) (link y) → Asks x y
    → AsksOne link name Asks xs ys
asks_at link name Asks xs ys at x y p is put same asks =
    let place = position-Some (λ l. bytes_eq (link l).name name) xs at x p in
    let one : suc at ≡ at + 1 = omega arith in record {
      front = take at xs;
      behind = drop (at + 1) xs;
      old = x;
      new = y;
      olds_are = sym (take-append-drop at xs) ∙ ap (λ l. take at xs ++ l)
          (drop-cons xs at x place.0 ∙ (λ i. sym is i ∷ drop (one i) xs));
      news_are = put ∙ sym (take-append-drop at (set xs at y))
          ∙ (λ i. take-set xs at y i ++ drop-set xs at y place.0 i);
      named = place_named link name xs at x p is;
      same = same;
      asks = asks;
    }
