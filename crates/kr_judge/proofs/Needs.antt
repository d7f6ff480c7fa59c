-- Needs stay in the order of their paths, and what is needed at a path.
use Rattle.std.proofs.Common.{◌≡◌, ℕ, Bool, true, false, List, [], ◌∷◌, None, Some, map, refl, sym, ap, subst, ◌∙◌}
use Rattle.std.specs.Prelude.{if◌then◌else◌, cond}
use Rattle.std.specs.List.{AllByRecursion}
use Rattle.std.specs.List.Sorted.{IsStrictlySortedBy}
use Rattle.std.specs.Str.{bytes_eq}
use Rattle.std.specs.Ordering.{match_ordering, ordering_reverse, is_eq}
use Rattle.std.proofs.lemmas.Map.Text.{is_eq-slice_cmp}
use Rattle.std.proofs.lemmas.Slice.Eq.{bytes_eq-Decides}
use Rattle.std.specs.declared.cmp.Ordering.{Ordering}
use Rattle.std.specs.declared.cmp.Ordering.TheVariants.{Less, Equal, Greater}
use Rattle.std.proofs.lemmas.Cmp.{nat_list_cmp_total, tied_itself}
use Rattle.kr_config.specs.Nexts.{name_cmp}
use Rattle.kr_judge.specs.declared.need.Need.{Need}
use Rattle.kr_judge.specs.Boards.{AreByPath, need_at, set_need, drop_need}
use Rattle.kr_judge.specs.Laws.{StaySorted, SetAtPath, DropAtPath}

-- the order of paths
pub equal_paths : (a b : List ℕ) → name_cmp a b ≡ Equal → a ≡ b
equal_paths a b h = (bytes_eq-Decides a b).0 (sym (is_eq-slice_cmp a b) ∙ ap is_eq h)

abbrev Above : List ℕ → List Need → Type 0
Above path needs = AllByRecursion (λ other. name_cmp path other ≡ Less) (map (λ need. need.path) needs)

above_set : (path : List ℕ) (needs : List Need) (need : Need) → Above path needs → name_cmp path need.path ≡ Less → Above path (set_need needs need)
above_set path [] need all h = (h, tt)
above_set path (own ∷ needs) need all h = by (name_cmp need.path own.path) (above_set path needs need all.1 h)
  where
    by : (r : Ordering) → Above path (set_need needs need) → Above path (match_ordering r (need ∷ own ∷ needs) (need ∷ needs) (own ∷ set_need needs need))
    by Less rest = (h, all)
    by Equal rest = (h, all.1)
    by Greater rest = (all.0, rest)

above_further : (path other : List ℕ) (needs : List Need) → name_cmp path other ≡ Less → Above other needs → Above path needs
above_further path other [] h all = tt
above_further path other (own ∷ needs) h all = (nat_list_cmp_total.trans path other own.path h all.0, above_further path other needs h all.1)

above_same : (path other : List ℕ) (needs : List Need) → path ≡ other → Above other needs → Above path needs
above_same path other needs e all = subst (λ p. Above p needs) (sym e) all

set_sorted : (needs : List Need) (need : Need) → AreByPath needs → AreByPath (set_need needs need)
unfolding IsStrictlySortedBy
set_sorted [] need s = (tt, tt)
set_sorted (own ∷ needs) need s = by (name_cmp need.path own.path) refl (set_sorted needs need s.1)
  where
    by : (r : Ordering) → name_cmp need.path own.path ≡ r → AreByPath (set_need needs need) → AreByPath (match_ordering r (need ∷ own ∷ needs) (need ∷ needs) (own ∷ set_need needs need))
    by Less h rest = ((h, above_further need.path own.path needs h s.0), s)
    by Equal h rest = (above_same need.path own.path needs (equal_paths need.path own.path h) s.0, s.1)
    by Greater h rest = (above_set own.path needs need s.0 (nat_list_cmp_total.antisymm own.path need.path ∙ ap ordering_reverse h), rest)

above_drop : (path : List ℕ) (needs : List Need) (gone : List ℕ) → Above path needs → Above path (drop_need needs gone)
above_drop path [] gone all = tt
above_drop path (own ∷ needs) gone all = by (bytes_eq own.path gone) (above_drop path needs gone all.1)
  where
    by : (v : Bool) → Above path (drop_need needs gone) → Above path (if v then needs else own ∷ drop_need needs gone)
    by true rest = all.1
    by false rest = (all.0, rest)

drop_sorted : (needs : List Need) (path : List ℕ) → AreByPath needs → AreByPath (drop_need needs path)
unfolding IsStrictlySortedBy
drop_sorted [] path s = tt
drop_sorted (own ∷ needs) path s = by (bytes_eq own.path path) (drop_sorted needs path s.1)
  where
    by : (v : Bool) → AreByPath (drop_need needs path) → AreByPath (if v then needs else own ∷ drop_need needs path)
    by true rest = s.1
    by false rest = (above_drop own.path needs path s.0, rest)

pub sorted_nil : AreByPath []
unfolding IsStrictlySortedBy
sorted_nil = tt

pub sorted_set : (needs : List Need) (need : Need) → AreByPath needs → AreByPath (set_need needs need)
sorted_set needs need s = set_sorted needs need s

pub sorted_drop : (needs : List Need) (path : List ℕ) → AreByPath needs → AreByPath (drop_need needs path)
sorted_drop needs path s = drop_sorted needs path s

pub stay_sorted : StaySorted
stay_sorted needs s = (λ need. set_sorted needs need s, λ path. drop_sorted needs path s)

-- what is needed at a path
unlike : (a b path : List ℕ) → name_cmp a b ≡ Greater → bytes_eq b path ≡ true → bytes_eq a path ≡ false
unlike a b path h e = by (bytes_eq a path) refl
  where
    by : (v : Bool) → bytes_eq a path ≡ v → v ≡ false
    by false k = refl
    by true k = absurd (
        let same : a ≡ b = (bytes_eq-Decides a path).0 k ∙ sym ((bytes_eq-Decides b path).0 e) in
        let greater : name_cmp b b ≡ Greater = subst (λ p. name_cmp p b ≡ Greater) same h in
        let equal : name_cmp b b ≡ Equal = tied_itself nat_list_cmp_total b in
        let clash : Equal ≡ Greater = sym equal ∙ greater in cc
        )

pub set_at : SetAtPath
set_at [] need path = refl
set_at (own ∷ needs) need path = by (name_cmp need.path own.path) refl (bytes_eq need.path path) refl (bytes_eq own.path path) refl (set_at needs need path)
  where
    by : (r : Ordering) → name_cmp need.path own.path ≡ r → (v : Bool) → bytes_eq need.path path ≡ v → (w : Bool) → bytes_eq own.path path ≡ w
        → need_at (set_need needs need) path ≡ (if bytes_eq need.path path then Some need else need_at needs path)
        → need_at (match_ordering r (need ∷ own ∷ needs) (need ∷ needs) (own ∷ set_need needs need)) path
        ≡ (if bytes_eq need.path path then Some need else need_at (own ∷ needs) path)
    by Less h v e w k rest = refl
    by Equal h true e w k rest = ap (λ t. cond t (Some need) (need_at needs path)) e ∙ sym (ap (λ t. cond t (Some need) (need_at (own ∷ needs) path)) e)
    by Equal h false e w k rest =
        let other : bytes_eq own.path path ≡ false = subst (λ p. bytes_eq p path ≡ false) (equal_paths need.path own.path h) e in
        ap (λ t. cond t (Some need) (need_at needs path)) e ∙ sym (ap (λ t. cond t (Some need) (need_at (own ∷ needs) path)) e ∙ ap (λ t. cond t (Some own) (need_at needs path)) other)
    by Greater h v e true k rest =
        let other : bytes_eq need.path path ≡ false = unlike need.path own.path path h k in
        ap (λ t. cond t (Some own) (need_at (set_need needs need) path)) k
        ∙ sym (ap (λ t. cond t (Some need) (need_at (own ∷ needs) path)) other ∙ ap (λ t. cond t (Some own) (need_at needs path)) k)
    by Greater h v e false k rest =
        ap (λ t. cond t (Some own) (need_at (set_need needs need) path)) k ∙ rest
        ∙ sym (ap (λ o. cond (bytes_eq need.path path) (Some need) o) (ap (λ t. cond t (Some own) (need_at needs path)) k))

-- above a path nothing is needed at it
none_above : (path : List ℕ) (needs : List Need) → Above path needs → need_at needs path ≡ None
none_above path [] all = refl
none_above path (own ∷ needs) all = ap (λ t. cond t (Some own) (need_at needs path)) (apart_less path own.path all.0) ∙ none_above path needs all.1
  where
    apart_less : (a b : List ℕ) → name_cmp a b ≡ Less → bytes_eq b a ≡ false
    apart_less a b h = by (bytes_eq b a) refl
      where
        by : (v : Bool) → bytes_eq b a ≡ v → v ≡ false
        by false k = refl
        by true k = absurd (
            let less : name_cmp a a ≡ Less = subst (λ p. name_cmp a p ≡ Less) ((bytes_eq-Decides b a).0 k) h in
            let equal : name_cmp a a ≡ Equal = tied_itself nat_list_cmp_total a in
            let clash : Equal ≡ Less = sym equal ∙ less in cc
            )

pub drop_at_path : DropAtPath
unfolding IsStrictlySortedBy
drop_at_path [] gone path s = by (bytes_eq gone path)
  where
    by : (v : Bool) → need_at [] path ≡ (if v then None else need_at [] path)
    by true = refl
    by false = refl
drop_at_path (own ∷ needs) gone path s = by (bytes_eq own.path gone) refl (bytes_eq gone path) refl (bytes_eq own.path path) refl (drop_at_path needs gone path s.1)
  where
    by : (u : Bool) → bytes_eq own.path gone ≡ u → (v : Bool) → bytes_eq gone path ≡ v → (w : Bool) → bytes_eq own.path path ≡ w
        → need_at (drop_need needs gone) path ≡ (if bytes_eq gone path then None else need_at needs path)
        → need_at (if u then needs else own ∷ drop_need needs gone) path ≡ (if bytes_eq gone path then None else need_at (own ∷ needs) path)
    by true h true e w k rest =
        let same : own.path ≡ path = (bytes_eq-Decides own.path gone).0 h ∙ (bytes_eq-Decides gone path).0 e in
        subst (λ p. need_at needs p ≡ None) same (none_above own.path needs s.0) ∙ sym (ap (λ t. cond t None (need_at (own ∷ needs) path)) e)
    by true h false e w k rest =
        let other : bytes_eq own.path path ≡ false = subst (λ p. bytes_eq p path ≡ false) (sym ((bytes_eq-Decides own.path gone).0 h)) e in
        sym (ap (λ t. cond t None (need_at (own ∷ needs) path)) e ∙ ap (λ t. cond t (Some own) (need_at needs path)) other)
    by false h v e false k rest = ap (λ t. cond t (Some own) (need_at (drop_need needs gone) path)) k ∙ rest
        ∙ sym (ap (λ o. cond (bytes_eq gone path) None o) (ap (λ t. cond t (Some own) (need_at needs path)) k))
    by false h true e true k rest = absurd (
        let same : own.path ≡ gone = (bytes_eq-Decides own.path path).0 k ∙ sym ((bytes_eq-Decides gone path).0 e) in
        let clash : true ≡ false = sym ((bytes_eq-Decides own.path gone).1 same) ∙ h in cc
        )
    by false h false e true k rest = ap (λ t. cond t (Some own) (need_at (drop_need needs gone) path)) k
        ∙ sym (ap (λ t. cond t None (need_at (own ∷ needs) path)) e ∙ ap (λ t. cond t (Some own) (need_at needs path)) k)
