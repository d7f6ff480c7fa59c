-- The changes that are kept, and those before them.
use Rattle.std.proofs.Common.{◌≡◌, ℕ, zero, suc, ◌<◌, ◌≤◌, ◌+◌, ◌-◌, true, false, cond, List, [], ◌∷◌, ◌++◌, length, get_or, take, drop, Option, None, Some, refl, sym, ap, ◌∙◌, arith, length-append, ◌⊎◌, inl, inr}
use Rattle.std.specs.Prelude.{nat_lt}
use Rattle.std.specs.List.{cons_option, filter_map}
use Rattle.std.specs.Option.{option_to_list}
use Rattle.std.proofs.lemmas.List.{append_assoc, drop_all, length-drop, take-append-drop}
use Rattle.std.proofs.lemmas.List.Elements.{filter-append, filter_map-append}
use Rattle.std.proofs.lemmas.Bool.{le-ltb, lt-ltb}
use Rattle.kr_watch.specs.declared.change.ObjectChange.{ObjectChange}
use Rattle.kr_watch.specs.Changes.{FollowOn, changes_above, earlier_ones, last_ones, revision_after}

-- ---- revisions

pub revision_append : (revision : ℕ) (xs ys : List ObjectChange)
    → revision_after revision (xs ++ ys) ≡ revision_after (revision_after revision xs) ys
revision_append revision [] ys = refl
revision_append revision (x ∷ xs) ys = revision_append x.revision xs ys

pub follow_append : (revision : ℕ) (xs ys : List ObjectChange) → FollowOn revision xs
    → FollowOn (revision_after revision xs) ys → FollowOn revision (xs ++ ys)
follow_append revision [] ys h k = k
follow_append revision (x ∷ xs) ys h k = (h.0, follow_append x.revision xs ys h.1 k)

pub follow_front : (revision : ℕ) (xs ys : List ObjectChange) → FollowOn revision (xs ++ ys)
    → FollowOn revision xs
follow_front revision [] ys h = tt
follow_front revision (x ∷ xs) ys h = (h.0, follow_front x.revision xs ys h.1)

pub revision_counts : (revision : ℕ) (changes : List ObjectChange) → FollowOn revision changes
    → revision_after revision changes ≡ revision + length changes
revision_counts revision [] h = omega arith
revision_counts revision (x ∷ xs) h =
    let rest = revision_counts x.revision xs h.1 in omega (arith, rest, h.0)

-- the last one has the newest revision
pub newest_is_last : (revision : ℕ) (changes : List ObjectChange) (d : ObjectChange) → 0 < length changes
    → revision_after revision changes ≡ (get_or changes (length changes - 1) d).revision
newest_is_last revision [] d l = absurd (omega (arith, l))
newest_is_last revision (x ∷ []) d l = refl
newest_is_last revision (x ∷ (y ∷ more)) d l =
    let place : suc (suc (length more)) - 1 ≡ suc (suc (length more) - 1) = omega arith in
    newest_is_last x.revision (y ∷ more) d (omega arith)
    ∙ sym (ap (λ n. (get_or (x ∷ (y ∷ more)) n d).revision) place)

-- ---- the last ones of more

drop_past : {A : Type 0} (ys zs : List A) (n : ℕ) → drop (length ys + n) (ys ++ zs) ≡ drop n zs
drop_past [] zs n = ap (λ k. drop k zs) (let e : 0 + n ≡ n = omega arith in e)
drop_past (y ∷ ys) zs n =
    ap (λ k. drop k (y ∷ (ys ++ zs)))
    (let e : suc (length ys) + n ≡ suc (length ys + n) = omega arith in e)
    ∙ drop_past ys zs n

take_past : {A : Type 0} (ys zs : List A) (n : ℕ)
    → take (length ys + n) (ys ++ zs) ≡ ys ++ take n zs
take_past [] zs n = ap (λ k. take k zs) (let e : 0 + n ≡ n = omega arith in e)
take_past (y ∷ ys) zs n =
    ap (λ k. take k (y ∷ (ys ++ zs)))
    (let e : suc (length ys) + n ≡ suc (length ys + n) = omega arith in e)
    ∙ ap (λ l. y ∷ l) (take_past ys zs n)

module _ {A : Type 0} (keep : ℕ) where
  -- what is kept is all, or as many as may be
  abbrev pub IsFull : (front xs : List A) → Type 0
  IsFull front xs = (front ≡ []) ⊎ (length xs ≡ keep)

  pub parts_of : (all : List A) → earlier_ones keep all ++ last_ones keep all ≡ all
  parts_of all = take-append-drop (length all - keep) all

  pub kept_length : (all : List A) → length (last_ones keep all) ≤ keep
  kept_length all = omega (arith, length-drop (length all - keep) all)

  -- where as many are kept as may be, one more puts the first of them out
  full_places : (front xs : List A) (x : A) → length xs ≡ keep
      → (length (xs ++ x ∷ []) - keep ≡ 1)
      × (length (front ++ (xs ++ x ∷ [])) - keep ≡ length front + 1)
  full_places front xs x full =
      let behind = length-append xs (x ∷ []) in
      let all = length-append front (xs ++ x ∷ []) in
      (omega (arith, behind, full), omega (arith, all, behind, full))

  -- the last ones of what is kept with one more are those of all with it
  last_more : (front xs : List A) (x : A) → IsFull front xs
      → last_ones keep (front ++ (xs ++ x ∷ [])) ≡ last_ones keep (xs ++ x ∷ [])
  last_more front xs x (inl none) =
      ap (λ (f : List A). last_ones keep (f ++ (xs ++ x ∷ []))) none
  last_more front xs x (inr full) =
      let p = full_places front xs x full in
      ap (λ n. drop n (front ++ (xs ++ x ∷ []))) p.1
      ∙ drop_past front (xs ++ x ∷ []) 1
      ∙ sym (ap (λ n. drop n (xs ++ x ∷ [])) p.0)

  -- and those before them are those before all that was kept, and what is dropped now
  earlier_more : (front xs : List A) (x : A) → IsFull front xs
      → earlier_ones keep (front ++ (xs ++ x ∷ []))
      ≡ front ++ earlier_ones keep (xs ++ x ∷ [])
  earlier_more front xs x (inl none) =
      ap (λ (f : List A). earlier_ones keep (f ++ (xs ++ x ∷ []))) none
      ∙ sym (ap (λ (f : List A). f ++ earlier_ones keep (xs ++ x ∷ [])) none)
  earlier_more front xs x (inr full) =
      let p = full_places front xs x full in
      ap (λ n. take n (front ++ (xs ++ x ∷ []))) p.1
      ∙ take_past front (xs ++ x ∷ []) 1
      ∙ sym (ap (λ n. front ++ take n (xs ++ x ∷ [])) p.0)

  is_full : (all : List A) → IsFull (earlier_ones keep all) (last_ones keep all)
  is_full all = by (length all - keep) refl
    where
      by : (n : ℕ) → length all - keep ≡ n → IsFull (earlier_ones keep all) (last_ones keep all)
      by zero e = inl (ap (λ k. take k all) e)
      by (suc n) e = inr (omega (arith, length-drop (length all - keep) all, e))

  pub kept_next : (all : List A) (x : A)
      → last_ones keep (last_ones keep all ++ x ∷ []) ≡ last_ones keep (all ++ x ∷ [])
  kept_next all x =
      sym (last_more (earlier_ones keep all) (last_ones keep all) x (is_full all))
      ∙ ap (last_ones keep) (sym (append_assoc (earlier_ones keep all) (last_ones keep all)
      (x ∷ [])) ∙ ap (λ l. l ++ x ∷ []) (parts_of all))

  pub dropped_next : (all : List A) (x : A)
      → earlier_ones keep all ++ earlier_ones keep (last_ones keep all ++ x ∷ [])
      ≡ earlier_ones keep (all ++ x ∷ [])
  dropped_next all x =
      sym (earlier_more (earlier_ones keep all) (last_ones keep all) x (is_full all))
      ∙ ap (earlier_ones keep) (sym (append_assoc (earlier_ones keep all) (last_ones keep all)
      (x ∷ [])) ∙ ap (λ l. l ++ x ∷ []) (parts_of all))

  -- nothing is dropped of what is kept
  pub kept_stays : (xs : List A) → length xs ≤ keep → last_ones keep xs ≡ xs
  kept_stays xs few = ap (λ n. drop n xs) (let e : length xs - keep ≡ 0 = omega (arith, few) in e)

  pub none_dropped : (xs : List A) → length xs ≤ keep → earlier_ones keep xs ≡ []
  none_dropped xs few = ap (λ n. take n xs)
      (let e : length xs - keep ≡ 0 = omega (arith, few) in e)

  -- one too many: the first one goes
  pub first_goes : (x : A) (xs : List A) → length (x ∷ xs) ≡ keep + 1
      → (last_ones keep (x ∷ xs) ≡ xs) × (earlier_ones keep (x ∷ xs) ≡ x ∷ [])
  first_goes x xs many =
      let e : length (x ∷ xs) - keep ≡ suc 0 = omega (arith, many) in (
        ap (λ n. drop n (x ∷ xs)) e,
        ap (λ n. take n (x ∷ xs)) e,
      )

-- ---- those above a revision

all_above : (revision from : ℕ) (changes : List ObjectChange) → FollowOn from changes
    → revision ≤ from → changes_above revision changes ≡ changes
all_above revision from [] f l = refl
all_above revision from (x ∷ xs) f l =
    let above : nat_lt revision x.revision ≡ true = lt-ltb revision x.revision
    (omega (arith, l, f.0)) in
    ap (λ b. cond b (x ∷ changes_above revision xs) (changes_above revision xs)) above
    ∙ ap (λ l. x ∷ l) (all_above revision x.revision xs f.1 (omega (arith, l, f.0)))

below : (m n : ℕ) → n ≤ m → nat_lt m n ≡ false
below m n h = le-ltb m n h

-- they stand from the place that the revision tells
pub above_from_place : (revision from : ℕ) (changes : List ObjectChange) → FollowOn from changes
    → from ≤ revision → drop (revision - from) changes ≡ changes_above revision changes
above_from_place revision from [] f l = drop_all (revision - from) [] (omega arith)
above_from_place revision from (x ∷ xs) f l =
    by (revision - from) refl (above_from_place revision x.revision xs f.1)
  where
    by : (n : ℕ) → revision - from ≡ n
        → (x.revision ≤ revision
        → drop (revision - x.revision) xs ≡ changes_above revision xs)
        → drop (revision - from) (x ∷ xs) ≡ changes_above revision (x ∷ xs)
    by zero e again = ap (λ k. drop k (x ∷ xs)) e
        ∙ sym (all_above revision from (x ∷ xs) f (omega (arith, l, e)))
    by (suc n) e again =
        let under : nat_lt revision x.revision ≡ false = below revision x.revision
        (omega (arith, f.0, e)) in
        let here : revision - x.revision ≡ n = omega (arith, f.0, e) in
        ap (λ k. drop k (x ∷ xs)) e
        ∙ ap (λ k. drop k xs) (sym here)
        ∙ again (omega (arith, f.0, e))
        ∙ sym (ap (λ b. cond b (x ∷ changes_above revision xs) (changes_above revision xs))
        under)

-- none of those before is above
none_above : (revision from : ℕ) (changes : List ObjectChange) → FollowOn from changes
    → revision_after from changes ≤ revision → changes_above revision changes ≡ []
none_above revision from [] f l = refl
none_above revision from (x ∷ xs) f l =
    let counts = revision_counts x.revision xs f.1 in
    let under : nat_lt revision x.revision ≡ false = below revision x.revision
    (omega (arith, l, counts)) in
    ap (λ b. cond b (x ∷ changes_above revision xs) (changes_above revision xs)) under
    ∙ none_above revision x.revision xs f.1 l

pub kept_above : (revision from : ℕ) (front kept : List ObjectChange) → FollowOn from front
    → revision_after from front ≤ revision
    → changes_above revision kept ≡ changes_above revision (front ++ kept)
kept_above revision from front kept f l =
    sym (filter-append (λ (change : ObjectChange). nat_lt revision change.revision) front kept
    ∙ ap (λ xs. xs ++ changes_above revision kept) (none_above revision from front f l))

-- ---- a history with one more entry

pub mapped_more : {X Y : Type 0} (h : X → Option Y) (xs : List X) (x : X)
    → filter_map h (xs ++ x ∷ []) ≡ filter_map h xs ++ option_to_list (h x)
mapped_more {X} {Y} h xs x = filter_map-append h xs (x ∷ [])
    ∙ ap (λ l. filter_map h xs ++ l) (by (h x))
  where
    by : (o : Option Y) → cons_option o [] ≡ option_to_list o
    by None = refl
    by (Some y) = refl
