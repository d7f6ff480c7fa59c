-- The parts of a map one after another, and what a change of one part makes of all.
use Rattle.std.proofs.Common.{◌≡◌, ℕ, suc, ◌<◌, ◌≤◌, ◌+◌, Bool, true, false, List, [], ◌∷◌, ◌++◌, length, get_or, take, drop, Some, None, refl, sym, ap, subst, ◌∙◌, arith}
use Rattle.std.specs.Prelude.{not, slice_set, IsSome, Result, Ok, Err, OnOk, OnErr}
use Rattle.std.specs.List.{AllByRecursion, insert, remove}
use Rattle.std.specs.Map.{lookup, remove_entry}
use Rattle.std.specs.BTreeMap.{insert_entry, is_at}
use Rattle.std.proofs.lemmas.List.{append_assoc, take-append-drop, drop_more, length-take-le, length-drop}
use Rattle.std.proofs.Math.Seq.{drop-append_seam, take-append_seam, get_or-append_seam, set-append_seam}
use Rattle.kr_paths.specs.Paths.{path_cmp, AreSorted}
use Rattle.kr_paths.specs.declared.spot.Spot.{Spot}
use Rattle.kr_paths.specs.inner.Parts.{Entries, joined, AreParts, AllBelow, AllAbove, Begins, IsPartFor, IsSpot, Stands, with_number}
use Rattle.kr_paths.proofs.Orders.{all_append, found_here, found_none, put_here, put_new, gone_here, gone_none, sorted_put, sorted_gone}

pub joined_append : (xs ys : List Entries) → joined (xs ++ ys) ≡ joined xs ++ joined ys
joined_append [] ys = refl
joined_append (x ∷ xs) ys = ap (λ l. x ++ l) (joined_append xs ys) ∙ sym (append_assoc x (joined xs) (joined ys))

regroup : (a b c d : Entries) → a ++ ((b ++ c) ++ d) ≡ (a ++ b) ++ (c ++ d)
regroup a b c d = ap (λ l. a ++ l) (append_assoc b c d) ∙ sym (append_assoc a b (c ++ d))

-- a part in its two halves, between the others
pub laid : (before behind : List Entries) (own front others : Entries) → own ≡ front ++ others → joined (before ++ own ∷ behind) ≡ (joined before ++ front) ++ (others ++ joined behind)
laid before behind own front others is = joined_append before (own ∷ behind) ∙ ap (λ o. joined before ++ (o ++ joined behind)) is ∙ regroup (joined before) front others (joined behind)

module _ (P : Entries → Type 0) where
  pub all_swap : (before : List Entries) (own other : Entries) (behind : List Entries) → AllByRecursion P (before ++ own ∷ behind) → P other → AllByRecursion P (before ++ other ∷ behind)
  all_swap [] own other behind all p = (p, all.1)
  all_swap (x ∷ xs) own other behind all p = (all.0, all_swap xs own other behind all.1 p)

  pub all_out : (before : List Entries) (own : Entries) (behind : List Entries) → AllByRecursion P (before ++ own ∷ behind) → AllByRecursion P (before ++ behind)
  all_out [] own behind all = all.1
  all_out (x ∷ xs) own behind all = (all.0, all_out xs own behind all.1)

  pub all_two : (before : List Entries) (own one two : Entries) (behind : List Entries) → AllByRecursion P (before ++ own ∷ behind) → P one → P two → AllByRecursion P (before ++ one ∷ two ∷ behind)
  all_two [] own one two behind all p q = (p, (q, all.1))
  all_two (x ∷ xs) own one two behind all p q = (all.0, all_two xs own one two behind all.1 p q)

-- ---- the part of the path

pub own_at : (path : List ℕ) (parts : List Entries) (at : ℕ) (part : IsPartFor path parts at) (d : Entries) → get_or parts at d ≡ part.own
own_at path parts at part d = ap (λ l. get_or l at d) part.parts_are ∙ ap (λ n. get_or (part.before ++ part.own ∷ part.behind) n d) (sym part.place) ∙ get_or-append_seam part.before part.own part.behind d

pub own_set : (path : List ℕ) (parts : List Entries) (at : ℕ) (part : IsPartFor path parts at) (other : Entries) → slice_set parts at other ≡ part.before ++ other ∷ part.behind
own_set path parts at part other = ap (λ l. slice_set l at other) part.parts_are ∙ ap (λ n. slice_set (part.before ++ part.own ∷ part.behind) n other) (sym part.place) ∙ set-append_seam part.before part.own part.behind other

length_seam : (before : List Entries) (own : Entries) (behind : List Entries) → length before < length (before ++ own ∷ behind)
length_seam [] own behind = omega arith
length_seam (x ∷ xs) own behind = (let rest : length xs < length (xs ++ own ∷ behind) = length_seam xs own behind in omega arith)

pub own_within : (path : List ℕ) (parts : List Entries) (at : ℕ) → IsPartFor path parts at → at < length parts
own_within path parts at part = subst (λ n. n < length parts) part.place (subst (λ l. length part.before < length l) (sym part.parts_are) (length_seam part.before part.own part.behind))

pub all_of : (path : List ℕ) (parts : List Entries) (spot : Spot) (is : IsSpot path parts spot) → joined parts ≡ (joined is.0.before ++ is.1.0) ++ (is.1.1 ++ joined is.0.behind)
all_of path parts spot is = ap joined is.0.parts_are ∙ laid is.0.before is.0.behind is.0.own is.1.0 is.1.1 is.1.2

pub below_all : (path : List ℕ) (parts : List Entries) (spot : Spot) (is : IsSpot path parts spot) → AllBelow path (joined is.0.before ++ is.1.0)
below_all path parts spot is = all_append _ (joined is.0.before) is.1.0 is.0.below is.1.4

-- ---- what is found

pub spot_found : (path : List ℕ) (parts : List Entries) (spot : Spot) (d : Entries) → IsSpot path parts spot → spot.there ≡ true → Some (get_or (get_or parts spot.part d) spot.place ([], 0)).1 ≡ lookup (is_at (path_cmp path)) (joined parts)
spot_found path parts spot d is there =
    let begins : Begins path is.1.1 = subst (λ v. Stands v path is.1.1) there is.1.5 in
    let own : get_or (get_or parts spot.part d) spot.place ([], 0) ≡ (path, begins.0) =
    ap (λ l. get_or l spot.place ([], 0)) (own_at path parts spot.part is.0 d ∙ is.1.2 ∙ ap (λ l. is.1.0 ++ l) begins.2)
    ∙ ap (λ n. get_or (is.1.0 ++ (path, begins.0) ∷ begins.1) n ([], 0)) (sym is.1.3)
    ∙ get_or-append_seam is.1.0 (path, begins.0) begins.1 ([], 0) in
    ap (λ e. Some e.1) own
    ∙ sym (found_here path (joined is.0.before ++ is.1.0) (begins.1 ++ joined is.0.behind) begins.0 (below_all path parts spot is))
    ∙ sym (ap (lookup (is_at (path_cmp path))) (all_of path parts spot is ∙ ap (λ l. (joined is.0.before ++ is.1.0) ++ (l ++ joined is.0.behind)) begins.2))

above_all : (path : List ℕ) (parts : List Entries) (spot : Spot) (is : IsSpot path parts spot) → spot.there ≡ false → AllAbove path (is.1.1 ++ joined is.0.behind)
above_all path parts spot is there = all_append _ is.1.1 (joined is.0.behind) (subst (λ v. Stands v path is.1.1) there is.1.5) is.0.above

pub spot_none : (path : List ℕ) (parts : List Entries) (spot : Spot) → IsSpot path parts spot → spot.there ≡ false → lookup (is_at (path_cmp path)) (joined parts) ≡ None
spot_none path parts spot is there = ap (lookup (is_at (path_cmp path))) (all_of path parts spot is) ∙ found_none path (joined is.0.before ++ is.1.0) (is.1.1 ++ joined is.0.behind) (below_all path parts spot is) (above_all path parts spot is there)

pub spot_kept : (path : List ℕ) (parts : List Entries) (spot : Spot) → IsSpot path parts spot → spot.there ≡ false → remove_entry (is_at (path_cmp path)) (joined parts) ≡ joined parts
spot_kept path parts spot is there = ap (remove_entry (is_at (path_cmp path))) (all_of path parts spot is) ∙ gone_none path (joined is.0.before ++ is.1.0) (is.1.1 ++ joined is.0.behind) (below_all path parts spot is) (above_all path parts spot is there) ∙ sym (all_of path parts spot is)

front_fits : (front others : Entries) → length front ≤ length (front ++ others)
front_fits [] others = omega arith
front_fits (x ∷ xs) others = (let rest : length xs ≤ length (xs ++ others) = front_fits xs others in omega arith)

-- the place in the part is there
pub place_fits : (path : List ℕ) (parts : List Entries) (spot : Spot) (d : Entries) → IsSpot path parts spot → spot.place ≤ length (get_or parts spot.part d)
place_fits path parts spot d is = subst (λ l. spot.place ≤ length l) (sym (own_at path parts spot.part is.0 d ∙ is.1.2)) (subst (λ n. n ≤ length (is.1.0 ++ is.1.1)) is.1.3 (front_fits is.1.0 is.1.1))

entry_fits : (front : Entries) (e : List ℕ × ℕ) (rest : Entries) → length front < length (front ++ e ∷ rest)
entry_fits [] e rest = omega arith
entry_fits (x ∷ xs) e rest = (let more : length xs < length (xs ++ e ∷ rest) = entry_fits xs e rest in omega arith)

pub place_there : (path : List ℕ) (parts : List Entries) (spot : Spot) (d : Entries) → IsSpot path parts spot → spot.there ≡ true → spot.place < length (get_or parts spot.part d)
place_there path parts spot d is there =
    let begins : Begins path is.1.1 = subst (λ v. Stands v path is.1.1) there is.1.5 in
    subst (λ l. spot.place < length l) (sym (own_at path parts spot.part is.0 d ∙ is.1.2 ∙ ap (λ l. is.1.0 ++ l) begins.2)) (subst (λ n. n < length (is.1.0 ++ (path, begins.0) ∷ begins.1)) is.1.3 (entry_fits is.1.0 (path, begins.0) begins.1))

-- ---- what is put

-- the parts with another in the place of the path's
pub changed : (path : List ℕ) (parts : List Entries) (at : ℕ) (part : IsPartFor path parts at) (other : Entries) → AreParts parts → 0 < length other → AreSorted (joined (slice_set parts at other)) → AreParts (slice_set parts at other)
changed path parts at part other are some sorted = (
  subst (AllByRecursion (λ p. 0 < length p)) (sym (own_set path parts at part other))
      (all_swap (λ p. 0 < length p) part.before part.own other part.behind (subst (AllByRecursion (λ p. 0 < length p)) part.parts_are are.0) some),
  sorted,
)

numbered : (path : List ℕ) (parts : List Entries) (spot : Spot) (d : Entries) (number : ℕ) (is : IsSpot path parts spot) (begins : Begins path is.1.1) → with_number (get_or parts spot.part d) spot.place number ≡ is.1.0 ++ (path, number) ∷ begins.1
numbered path parts spot d number is begins =
    ap (λ l. with_number l spot.place number) (own_at path parts spot.part is.0 d ∙ is.1.2 ∙ ap (λ l. is.1.0 ++ l) begins.2)
    ∙ ap (λ n. with_number (is.1.0 ++ (path, begins.0) ∷ begins.1) n number) (sym is.1.3)
    ∙ ap (λ e. slice_set (is.1.0 ++ (path, begins.0) ∷ begins.1) (length is.1.0) (e.0, number)) (get_or-append_seam is.1.0 (path, begins.0) begins.1 ([], 0))
    ∙ set-append_seam is.1.0 (path, begins.0) begins.1 (path, number)

pub put_there : (path : List ℕ) (parts : List Entries) (spot : Spot) (d : Entries) (number : ℕ) → IsSpot path parts spot → spot.there ≡ true
    → joined (slice_set parts spot.part (with_number (get_or parts spot.part d) spot.place number)) ≡ insert_entry path_cmp (joined parts) path number
put_there path parts spot d number is there =
    let begins : Begins path is.1.1 = subst (λ v. Stands v path is.1.1) there is.1.5 in
    ap joined (own_set path parts spot.part is.0 (with_number (get_or parts spot.part d) spot.place number))
    ∙ laid is.0.before is.0.behind _ is.1.0 ((path, number) ∷ begins.1) (numbered path parts spot d number is begins)
    ∙ sym (put_here path (joined is.0.before ++ is.1.0) (begins.1 ++ joined is.0.behind) begins.0 number (below_all path parts spot is))
    ∙ ap (λ l. insert_entry path_cmp l path number) (sym (all_of path parts spot is ∙ ap (λ l. (joined is.0.before ++ is.1.0) ++ (l ++ joined is.0.behind)) begins.2))

inserted : (path : List ℕ) (parts : List Entries) (spot : Spot) (d : Entries) (number : ℕ) (is : IsSpot path parts spot) → insert (get_or parts spot.part d) spot.place (path, number) ≡ is.1.0 ++ (path, number) ∷ is.1.1
inserted path parts spot d number is =
    ap (λ l. insert l spot.place (path, number)) (own_at path parts spot.part is.0 d ∙ is.1.2)
    ∙ ap (λ n. insert (is.1.0 ++ is.1.1) n (path, number)) (sym is.1.3)
    ∙ ap (λ l. l ++ (path, number) ∷ drop (length is.1.0) (is.1.0 ++ is.1.1)) (take-append_seam is.1.0 is.1.1)
    ∙ ap (λ l. is.1.0 ++ (path, number) ∷ l) (drop-append_seam is.1.0 is.1.1)

pub put_fresh : (path : List ℕ) (parts : List Entries) (spot : Spot) (d : Entries) (number : ℕ) → IsSpot path parts spot → spot.there ≡ false
    → joined (slice_set parts spot.part (insert (get_or parts spot.part d) spot.place (path, number))) ≡ insert_entry path_cmp (joined parts) path number
put_fresh path parts spot d number is there =
    ap joined (own_set path parts spot.part is.0 (insert (get_or parts spot.part d) spot.place (path, number)))
    ∙ laid is.0.before is.0.behind _ is.1.0 ((path, number) ∷ is.1.1) (inserted path parts spot d number is)
    ∙ sym (put_new path (joined is.0.before ++ is.1.0) (is.1.1 ++ joined is.0.behind) number (below_all path parts spot is) (above_all path parts spot is there))
    ∙ ap (λ l. insert_entry path_cmp l path number) (sym (all_of path parts spot is))

longer : (front : Entries) (e : List ℕ × ℕ) (rest : Entries) → 0 < length (front ++ e ∷ rest)
longer [] e rest = omega arith
longer (x ∷ xs) e rest = omega arith

pub there_parts : (path : List ℕ) (parts : List Entries) (spot : Spot) (d : Entries) (number : ℕ) → IsSpot path parts spot → spot.there ≡ true → AreParts parts
    → AreParts (slice_set parts spot.part (with_number (get_or parts spot.part d) spot.place number))
there_parts path parts spot d number is there are =
    let begins : Begins path is.1.1 = subst (λ v. Stands v path is.1.1) there is.1.5 in
    changed path parts spot.part is.0 _ are (subst (λ l. 0 < length l) (sym (numbered path parts spot d number is begins)) (longer is.1.0 (path, number) begins.1))
    (subst AreSorted (sym (put_there path parts spot d number is there)) (sorted_put (joined parts) path number are.1))

pub fresh_parts : (path : List ℕ) (parts : List Entries) (spot : Spot) (d : Entries) (number : ℕ) → IsSpot path parts spot → spot.there ≡ false → AreParts parts
    → AreParts (slice_set parts spot.part (insert (get_or parts spot.part d) spot.place (path, number)))
fresh_parts path parts spot d number is there are =
    changed path parts spot.part is.0 _ are (subst (λ l. 0 < length l) (sym (inserted path parts spot d number is)) (longer is.1.0 (path, number) is.1.1))
    (subst AreSorted (sym (put_fresh path parts spot d number is there)) (sorted_put (joined parts) path number are.1))

-- ---- what is taken away

taken : (path : List ℕ) (parts : List Entries) (spot : Spot) (d : Entries) (is : IsSpot path parts spot) (begins : Begins path is.1.1) → remove (get_or parts spot.part d) spot.place ≡ is.1.0 ++ begins.1
taken path parts spot d is begins =
    ap (λ l. remove l spot.place) (own_at path parts spot.part is.0 d ∙ is.1.2 ∙ ap (λ l. is.1.0 ++ l) begins.2)
    ∙ ap (λ n. remove (is.1.0 ++ (path, begins.0) ∷ begins.1) n) (sym is.1.3)
    ∙ ap (λ l. l ++ drop (suc (length is.1.0)) (is.1.0 ++ (path, begins.0) ∷ begins.1)) (take-append_seam is.1.0 ((path, begins.0) ∷ begins.1))
    ∙ ap (λ l. is.1.0 ++ l) (past_seam is.1.0 (path, begins.0) begins.1)
  where
    past_seam : (front : Entries) (e : List ℕ × ℕ) (rest : Entries) → drop (suc (length front)) (front ++ e ∷ rest) ≡ rest
    past_seam [] e rest = refl
    past_seam (x ∷ xs) e rest = past_seam xs e rest

pub take_there : (path : List ℕ) (parts : List Entries) (spot : Spot) (d : Entries) → IsSpot path parts spot → spot.there ≡ true
    → joined (slice_set parts spot.part (remove (get_or parts spot.part d) spot.place)) ≡ remove_entry (is_at (path_cmp path)) (joined parts)
take_there path parts spot d is there =
    let begins : Begins path is.1.1 = subst (λ v. Stands v path is.1.1) there is.1.5 in
    ap joined (own_set path parts spot.part is.0 (remove (get_or parts spot.part d) spot.place))
    ∙ laid is.0.before is.0.behind _ is.1.0 begins.1 (taken path parts spot d is begins)
    ∙ sym (gone_here path (joined is.0.before ++ is.1.0) (begins.1 ++ joined is.0.behind) begins.0 (below_all path parts spot is))
    ∙ ap (remove_entry (is_at (path_cmp path))) (sym (all_of path parts spot is ∙ ap (λ l. (joined is.0.before ++ is.1.0) ++ (l ++ joined is.0.behind)) begins.2))

pub taken_parts : (path : List ℕ) (parts : List Entries) (spot : Spot) (d : Entries) → IsSpot path parts spot → spot.there ≡ true → AreParts parts → 0 < length (remove (get_or parts spot.part d) spot.place)
    → AreParts (slice_set parts spot.part (remove (get_or parts spot.part d) spot.place))
taken_parts path parts spot d is there are some = changed path parts spot.part is.0 _ are some (subst AreSorted (sym (take_there path parts spot d is there)) (sorted_gone (joined parts) (is_at (path_cmp path)) are.1))

-- an empty part goes
removed : (before : List Entries) (own : Entries) (behind : List Entries) → remove (before ++ own ∷ behind) (length before) ≡ before ++ behind
removed [] own behind = refl
removed (x ∷ xs) own behind = ap (λ l. x ∷ l) (removed xs own behind)

nothing : (es : Entries) → length es ≡ 0 → es ≡ []
nothing [] h = refl
nothing (e ∷ es) h = absurd (omega arith)

out_is : (path : List ℕ) (parts : List Entries) (at : ℕ) (part : IsPartFor path parts at) (other : Entries) → remove (slice_set parts at other) at ≡ part.before ++ part.behind
out_is path parts at part other = ap (λ l. remove l at) (own_set path parts at part other) ∙ ap (remove (part.before ++ other ∷ part.behind)) (sym part.place) ∙ removed part.before other part.behind

pub out_joined : (path : List ℕ) (parts : List Entries) (spot : Spot) (other : Entries) → IsSpot path parts spot → length other ≡ 0 → joined (remove (slice_set parts spot.part other) spot.part) ≡ joined (slice_set parts spot.part other)
out_joined path parts spot other is none =
    ap joined (out_is path parts spot.part is.0 other) ∙ joined_append is.0.before is.0.behind
    ∙ sym (ap joined (own_set path parts spot.part is.0 other) ∙ joined_append is.0.before (other ∷ is.0.behind) ∙ ap (λ o. joined is.0.before ++ (o ++ joined is.0.behind)) (nothing other none))

pub out_parts : (path : List ℕ) (parts : List Entries) (spot : Spot) (d : Entries) → IsSpot path parts spot → spot.there ≡ true → AreParts parts → length (remove (get_or parts spot.part d) spot.place) ≡ 0
    → AreParts (remove (slice_set parts spot.part (remove (get_or parts spot.part d) spot.place)) spot.part)
out_parts path parts spot d is there are none = (
  subst (AllByRecursion (λ p. 0 < length p)) (sym (out_is path parts spot.part is.0 _)) (all_out (λ p. 0 < length p) is.0.before is.0.own is.0.behind (subst (AllByRecursion (λ p. 0 < length p)) is.0.parts_are are.0)),
  subst AreSorted (sym (out_joined path parts spot _ is none ∙ take_there path parts spot d is there)) (sorted_gone (joined parts) (is_at (path_cmp path)) are.1),
)

-- a part as it is
pub same_set : (path : List ℕ) (parts : List Entries) (at : ℕ) (part : IsPartFor path parts at) (own : Entries) → own ≡ get_or parts at own → slice_set parts at own ≡ parts
same_set path parts at part own is = own_set path parts at part own ∙ ap (λ o. part.before ++ o ∷ part.behind) (is ∙ own_at path parts at part own) ∙ sym part.parts_are

-- ---- what a call leaves where it is done, and where it isn't
module _ {X E : Type 0} where
  pub on_ok : {A B : Type 0} (result : Result X E) → (A → B) → OnOk result A → OnOk result B
  on_ok (Ok x) f a = f a
  on_ok (Err e) f a = tt

  pub either_way : {Y : Type 0} {one other left : Y} (P : Y → Type 0) (result : Result X E) → OnOk result (left ≡ one) → OnErr result (left ≡ other) → P one → P other → P left
  either_way P (Ok x) done kept p q = subst P (sym done) p
  either_way P (Err e) done kept p q = subst P (sym kept) q

-- ---- a part in two

two_joined : (before : List Entries) (own : Entries) (half : ℕ) (behind : List Entries) → joined (before ++ take half own ∷ drop half own ∷ behind) ≡ joined (before ++ own ∷ behind)
two_joined before own half behind =
    joined_append before (take half own ∷ drop half own ∷ behind) ∙ ap (λ l. joined before ++ l) (sym (append_assoc (take half own) (drop half own) (joined behind)) ∙ ap (λ l. l ++ joined behind) (take-append-drop half own))
    ∙ sym (joined_append before (own ∷ behind))

insert_after : (before : List Entries) (one two : Entries) (behind : List Entries) → insert (before ++ one ∷ behind) (suc (length before)) two ≡ before ++ one ∷ two ∷ behind
insert_after [] one two behind = refl
insert_after (x ∷ xs) one two behind = ap (λ l. x ∷ l) (insert_after xs one two behind)

around : (parts : List Entries) (at : ℕ) (own : Entries) → at < length parts → own ≡ get_or parts at own → parts ≡ take at parts ++ own ∷ drop (at + 1) parts
around parts at own h is = sym (take-append-drop at parts) ∙ ap (λ l. take at parts ++ l) (drop_more parts at own h ∙ ap (λ o. o ∷ drop (at + 1) parts) (sym is))

set_around : (before behind : List Entries) (at : ℕ) (parts : List Entries) (own other : Entries) → parts ≡ before ++ own ∷ behind → length before ≡ at → slice_set parts at other ≡ before ++ other ∷ behind
set_around before behind at parts own other is place = ap (λ l. slice_set l at other) is ∙ ap (λ n. slice_set (before ++ own ∷ behind) n other) (sym place) ∙ set-append_seam before own behind other

pub halved : (parts new : List Entries) (at half : ℕ) (own left rest : Entries) → at < length parts → own ≡ get_or parts at own → left ≡ take half own → rest ≡ drop half own → new ≡ insert (slice_set parts at left) (at + 1) rest
    → new ≡ take at parts ++ take half own ∷ drop half own ∷ drop (at + 1) parts
halved parts new at half own left rest h is l r n =
    let place : length (take at parts) ≡ at = length-take-le at parts (omega arith) in
    let next : at + 1 ≡ suc (length (take at parts)) = omega (arith, place) in
    n ∙ ap (λ x. insert (slice_set parts at x) (at + 1) rest) l ∙ ap (λ x. insert (slice_set parts at (take half own)) (at + 1) x) r
    ∙ ap (λ x. insert x (at + 1) (drop half own)) (set_around (take at parts) (drop (at + 1) parts) at parts own (take half own) (around parts at own h is) place)
    ∙ ap (λ x. insert (take at parts ++ take half own ∷ drop (at + 1) parts) x (drop half own)) next
    ∙ insert_after (take at parts) (take half own) (drop half own) (drop (at + 1) parts)

pub halved_joined : (parts new : List Entries) (at half : ℕ) (own : Entries) → at < length parts → own ≡ get_or parts at own → new ≡ take at parts ++ take half own ∷ drop half own ∷ drop (at + 1) parts → joined new ≡ joined parts
halved_joined parts new at half own h is n = ap joined n ∙ two_joined (take at parts) own half (drop (at + 1) parts) ∙ ap joined (sym (around parts at own h is))

pub halved_parts : (parts new : List Entries) (at half : ℕ) (own : Entries) → at < length parts → own ≡ get_or parts at own → new ≡ take at parts ++ take half own ∷ drop half own ∷ drop (at + 1) parts → 1 ≤ half → half < length own → AreParts parts → AreParts new
halved_parts parts new at half own h is n low high are = (
  subst (AllByRecursion (λ p. 0 < length p)) (sym n)
      (all_two (λ p. 0 < length p) (take at parts) own (take half own) (drop half own) (drop (at + 1) parts) (subst (AllByRecursion (λ p. 0 < length p)) (around parts at own h is) are.0)
      (omega (arith, length-take-le half own (omega arith))) (omega (arith, length-drop half own))),
  subst AreSorted (sym (halved_joined parts new at half own h is n)) are.1,
)

-- ---- whether a path is there

pub there_if : (path : List ℕ) (parts : List Entries) (spot : Spot) → IsSpot path parts spot → IsSome (lookup (is_at (path_cmp path)) (joined parts)) → spot.there ≡ true
there_if path parts spot is some = by spot.there refl
  where
    by : (v : Bool) → spot.there ≡ v → v ≡ true
    by true h = refl
    by false h = absurd (let no_one : IsSome {T = ℕ} None = subst IsSome (spot_none path parts spot is h) some in cc)

pub not_both : (v : Bool) → v ≡ true → v ≡ false → ⊥
not_both v t f = (let clash : true ≡ false = sym t ∙ f in cc)

pub not_so : (v : Bool) → not v ≡ true → v ≡ false
not_so true h = cc
not_so false h = refl

pub so : (v : Bool) → not v ≡ false → v ≡ true
so true h = refl
so false h = cc

-- ---- how many

longer_by : (xs : Entries) (e : List ℕ × ℕ) (ys : Entries) → length (xs ++ e ∷ ys) ≡ length (xs ++ ys) + 1
longer_by [] e ys = omega arith
longer_by (x ∷ xs) e ys = (let rest : length (xs ++ e ∷ ys) ≡ length (xs ++ ys) + 1 = longer_by xs e ys in omega (arith, rest))

pub put_length : (path : List ℕ) (parts : List Entries) (spot : Spot) (number : ℕ) → IsSpot path parts spot → spot.there ≡ false → length (insert_entry path_cmp (joined parts) path number) ≡ length (joined parts) + 1
put_length path parts spot number is there =
    ap length (ap (λ l. insert_entry path_cmp l path number) (all_of path parts spot is)
    ∙ put_new path (joined is.0.before ++ is.1.0) (is.1.1 ++ joined is.0.behind) number (below_all path parts spot is) (above_all path parts spot is there))
    ∙ longer_by (joined is.0.before ++ is.1.0) (path, number) (is.1.1 ++ joined is.0.behind)
    ∙ ap (λ (l : Entries). length l + 1) (sym (all_of path parts spot is))

pub same_length : (path : List ℕ) (parts : List Entries) (spot : Spot) (number : ℕ) → IsSpot path parts spot → spot.there ≡ true → length (insert_entry path_cmp (joined parts) path number) ≡ length (joined parts)
same_length path parts spot number is there =
    let begins : Begins path is.1.1 = subst (λ v. Stands v path is.1.1) there is.1.5 in
    let all : joined parts ≡ (joined is.0.before ++ is.1.0) ++ ((path, begins.0) ∷ begins.1 ++ joined is.0.behind) = all_of path parts spot is ∙ ap (λ l. (joined is.0.before ++ is.1.0) ++ (l ++ joined is.0.behind)) begins.2 in
    ap length (ap (λ l. insert_entry path_cmp l path number) all ∙ put_here path (joined is.0.before ++ is.1.0) (begins.1 ++ joined is.0.behind) begins.0 number (below_all path parts spot is))
    ∙ longer_by (joined is.0.before ++ is.1.0) (path, number) (begins.1 ++ joined is.0.behind)
    ∙ sym (longer_by (joined is.0.before ++ is.1.0) (path, begins.0) (begins.1 ++ joined is.0.behind))
    ∙ ap length (sym all)

pub gone_length : (path : List ℕ) (parts : List Entries) (spot : Spot) → IsSpot path parts spot → spot.there ≡ true → length (remove_entry (is_at (path_cmp path)) (joined parts)) + 1 ≡ length (joined parts)
gone_length path parts spot is there =
    let begins : Begins path is.1.1 = subst (λ v. Stands v path is.1.1) there is.1.5 in
    let all : joined parts ≡ (joined is.0.before ++ is.1.0) ++ ((path, begins.0) ∷ begins.1 ++ joined is.0.behind) = all_of path parts spot is ∙ ap (λ l. (joined is.0.before ++ is.1.0) ++ (l ++ joined is.0.behind)) begins.2 in
    ap (λ (l : Entries). length l + 1) (ap (remove_entry (is_at (path_cmp path))) all ∙ gone_here path (joined is.0.before ++ is.1.0) (begins.1 ++ joined is.0.behind) begins.0 (below_all path parts spot is))
    ∙ sym (longer_by (joined is.0.before ++ is.1.0) (path, begins.0) (begins.1 ++ joined is.0.behind))
    ∙ ap length (sym all)

-- ---- what a call leaves of a map

pub there_kept : (path : List ℕ) (parts : List Entries) (spot : Spot) (d : Entries) (number count : ℕ) → IsSpot path parts spot → spot.there ≡ true → AreParts parts → count ≡ length (joined parts)
    → AreParts (slice_set parts spot.part (with_number (get_or parts spot.part d) spot.place number)) × (count ≡ length (joined (slice_set parts spot.part (with_number (get_or parts spot.part d) spot.place number))))
there_kept path parts spot d number count is there are n = (
  there_parts path parts spot d number is there are,
  n ∙ sym (ap length (put_there path parts spot d number is there) ∙ same_length path parts spot number is there),
)

pub still_new : (path : List ℕ) (old new : List Entries) (was spot : Spot) → IsSpot path old was → was.there ≡ false → joined new ≡ joined old → IsSpot path new spot → spot.there ≡ false
still_new path old new was spot before absent same is = by spot.there refl
  where
    by : (v : Bool) → spot.there ≡ v → v ≡ false
    by false h = refl
    by true h = absurd (let clash : Some (get_or (get_or new spot.part []) spot.place ([], 0)).1 ≡ None = spot_found path new spot [] is h ∙ ap (lookup (is_at (path_cmp path))) same ∙ spot_none path old was before absent in cc)
