-- Searches by halves: in a part, and among the parts.
use Rattle.std.proofs.Common.{◌≡◌, ℕ, zero, suc, ◌<◌, ◌≤◌, ◌+◌, ◌-◌, Bool, true, false, List, [], ◌∷◌, ◌++◌, length, get_or, take, drop, refl, sym, ap, subst, ◌∙◌, arith}
use Rattle.std.specs.Prelude.{Ok, Err}
use Rattle.std.specs.List.{AllByRecursion}
use Rattle.std.specs.Ordering.{is_lt}
use Rattle.std.specs.declared.cmp.Ordering.{Ordering}
use Rattle.std.specs.declared.cmp.Ordering.TheVariants.{Less, Equal, Greater}
use Rattle.std.proofs.lemmas.List.{append_assoc, take-append-drop, length-take-le, drop_more, take_more, drop_all}
use Rattle.kr_paths.specs.Paths.{path_cmp, AreSorted}
use Rattle.kr_paths.specs.inner.Parts.{Entries, joined, AreParts, AllBelow, AllAbove, is_above, IsFound, IsPartFor}
use Rattle.kr_paths.proofs.Orders.{same, all_below, all_above, all_append, sorted_back, sorted_front}
use Rattle.kr_paths.proofs.Joins.{joined_append}

-- ---- in a part

pub record Looks (path : List ℕ) (es : Entries) (low high : ℕ) : Type 0 where
  pub sorted : AreSorted es
  pub ordered : low ≤ high
  pub within : high ≤ length es
  pub below : AllBelow path (take low es)
  pub above : AllAbove path (drop high es)

pub looks_begin : (path : List ℕ) (es : Entries) → AreSorted es → Looks path es 0 (length es)
looks_begin path es sorted = record {
  sorted = sorted;
  ordered = omega arith;
  within = omega arith;
  below = tt;
  above = subst (AllAbove path) (sym (drop_all (length es) es (omega arith))) tt;
}

parted : (es : Entries) (middle : ℕ) (d : List ℕ × ℕ) → middle < length es → es ≡ take middle es ++ get_or es middle d ∷ drop (middle + 1) es
parted es middle d h = sym (take-append-drop middle es) ∙ ap (λ l. take middle es ++ l) (drop_more es middle d h)

pub looks_less : (path : List ℕ) (es : Entries) (low high middle : ℕ) (d : List ℕ × ℕ) → Looks path es low high → low ≤ middle → middle < high → path_cmp path (get_or es middle d).0 ≡ Less → Looks path es low middle
looks_less path es low high middle d l h m less = record {
  sorted = l.sorted;
  ordered = h;
  within = omega (arith, l.within);
  below = l.below;
  above = subst (AllAbove path) (sym (drop_more es middle d (omega (arith, l.within)))) (all_above path (get_or es middle d) (drop (middle + 1) es) (sorted_back (take middle es) _ (subst AreSorted (parted es middle d (omega (arith, l.within))) l.sorted)) less);
}

not_less : (r : Ordering) → r ≡ Greater → r ≡ Less → ⊥
not_less r g l = (let clash : Greater ≡ Less = sym g ∙ l in cc)

pub looks_greater : (path : List ℕ) (es : Entries) (low high middle : ℕ) (d : List ℕ × ℕ) → Looks path es low high → low ≤ middle → middle < high → path_cmp path (get_or es middle d).0 ≡ Greater → Looks path es (middle + 1) high
looks_greater path es low high middle d l h m greater = record {
  sorted = l.sorted;
  ordered = omega arith;
  within = l.within;
  below = subst (AllBelow path) (sym (take_more es middle d (omega (arith, l.within))))
      (all_append _ (take middle es) (get_or es middle d ∷ [])
      (all_below path (take middle es) (get_or es middle d) (drop (middle + 1) es) (subst AreSorted (parted es middle d (omega (arith, l.within))) l.sorted) (not_less _ greater)) (greater, tt));
  above = l.above;
}

equal_not_less : (r : Ordering) → r ≡ Equal → r ≡ Less → ⊥
equal_not_less r e l = (let clash : Equal ≡ Less = sym e ∙ l in cc)

pub looks_equal : (path : List ℕ) (es : Entries) (low high middle : ℕ) (d : List ℕ × ℕ) → Looks path es low high → low ≤ middle → middle < high → path_cmp path (get_or es middle d).0 ≡ Equal → IsFound path es (Ok middle)
looks_equal path es low high middle d l h m equal = (
  take middle es,
  drop middle es,
  sym (take-append-drop middle es),
  length-take-le middle es (omega (arith, l.within)),
  all_below path (take middle es) (get_or es middle d) (drop (middle + 1) es) (subst AreSorted (parted es middle d (omega (arith, l.within))) l.sorted) (equal_not_less _ equal),
  (
    (get_or es middle d).1,
    drop (middle + 1) es,
    drop_more es middle d (omega (arith, l.within)) ∙ ap (λ p. (p, (get_or es middle d).1) ∷ drop (middle + 1) es) (sym (same path (get_or es middle d).0 equal)),
  ),
)

pub looks_end : (path : List ℕ) (es : Entries) (low high : ℕ) → Looks path es low high → high ≤ low → IsFound path es (Err low)
looks_end path es low high l h = (
  take low es,
  drop low es,
  sym (take-append-drop low es),
  length-take-le low es (omega (arith, l.within, l.ordered)),
  l.below,
  subst (λ n. AllAbove path (drop n es)) (omega (arith, l.ordered)) l.above,
)

-- ---- among the parts

pub record Seeks (path : List ℕ) (parts : List Entries) (low high : ℕ) : Type 0 where
  pub are : AreParts parts
  pub ordered : low < high
  pub within : high ≤ length parts
  pub below : AllBelow path (joined (take low parts))
  pub above : AllAbove path (joined (drop high parts))

pub seeks_begin : (path : List ℕ) (parts : List Entries) → AreParts parts → 0 < length parts → Seeks path parts 0 (length parts)
seeks_begin path parts are some = record {
  are = are;
  ordered = some;
  within = omega arith;
  below = tt;
  above = subst (λ l. AllAbove path (joined l)) (sym (drop_all (length parts) parts (omega arith))) tt;
}

apart : (parts : List Entries) (middle : ℕ) (d : Entries) → middle < length parts → joined parts ≡ joined (take middle parts) ++ (get_or parts middle d ++ joined (drop (middle + 1) parts))
apart parts middle d h = ap joined (sym (take-append-drop middle parts)) ∙ joined_append (take middle parts) (drop middle parts) ∙ ap (λ l. joined (take middle parts) ++ joined l) (drop_more parts middle d h)

is_less : (r : Ordering) → is_lt r ≡ true → r ≡ Less
is_less Less h = refl
is_less Equal h = cc
is_less Greater h = cc

isnt_less : (r : Ordering) → is_lt r ≡ false → r ≡ Less → ⊥
isnt_less Less h e = cc
isnt_less Equal h e = cc
isnt_less Greater h e = cc

begins_above : (path : List ℕ) (own rest : Entries) → AreSorted (own ++ rest) → is_above path own ≡ true → AllAbove path (own ++ rest)
begins_above path [] rest sorted above = cc
begins_above path (e ∷ es) rest sorted above = all_above path e (es ++ rest) sorted (is_less _ above)

begins_below : (path : List ℕ) (xs own rest : Entries) → 0 < length own → AreSorted (xs ++ (own ++ rest)) → is_above path own ≡ false → AllBelow path xs
begins_below path xs [] rest some sorted above = absurd (omega arith)
begins_below path xs (e ∷ es) rest some sorted above = all_below path xs e (es ++ rest) sorted (isnt_less _ above)

part_at : (P : Entries → Type 0) (parts : List Entries) (at : ℕ) (d : Entries) → AllByRecursion P parts → at < length parts → P (get_or parts at d)
part_at P [] at d all h = absurd (omega arith)
part_at P (p ∷ ps) zero d all h = all.0
part_at P (p ∷ ps) (suc at) d all h = part_at P ps at d all.1 (omega arith)

pub seeks_above : (path : List ℕ) (parts : List Entries) (low high middle : ℕ) (d : Entries) → Seeks path parts low high → low < middle → middle < high → is_above path (get_or parts middle d) ≡ true → Seeks path parts low middle
seeks_above path parts low high middle d s h m above = record {
  are = s.are;
  ordered = h;
  within = omega (arith, s.within);
  below = s.below;
  above = subst (λ l. AllAbove path (joined l)) (sym (drop_more parts middle d (omega (arith, s.within))))
      (begins_above path (get_or parts middle d) (joined (drop (middle + 1) parts)) (sorted_back (joined (take middle parts)) _ (subst AreSorted (apart parts middle d (omega (arith, s.within))) s.are.1)) above);
}

pub seeks_other : (path : List ℕ) (parts : List Entries) (low high middle : ℕ) (d : Entries) → Seeks path parts low high → low < middle → middle < high → is_above path (get_or parts middle d) ≡ false → Seeks path parts middle high
seeks_other path parts low high middle d s h m above = record {
  are = s.are;
  ordered = m;
  within = s.within;
  below = begins_below path (joined (take middle parts)) (get_or parts middle d) (joined (drop (middle + 1) parts)) (part_at (λ p. 0 < length p) parts middle d s.are.0 (omega (arith, s.within)))
      (subst AreSorted (apart parts middle d (omega (arith, s.within))) s.are.1) above;
  above = s.above;
}

pub seeks_end : (path : List ℕ) (parts : List Entries) (low high : ℕ) → Seeks path parts low high → high - low ≤ 1 → IsPartFor path parts low
seeks_end path parts low high s h = record {
  before = take low parts;
  own = get_or parts low [];
  behind = drop (low + 1) parts;
  parts_are = sym (take-append-drop low parts) ∙ ap (λ l. take low parts ++ l) (drop_more parts low [] (omega (arith, s.within, s.ordered)));
  place = length-take-le low parts (omega (arith, s.within, s.ordered));
  below = s.below;
  above = subst (λ n. AllAbove path (joined (drop n parts))) (omega (arith, h, s.ordered)) s.above;
}

-- the entries of a part ascend
pub part_sorted : (path : List ℕ) (parts : List Entries) (at : ℕ) (part : IsPartFor path parts at) → AreParts parts → AreSorted part.own
part_sorted path parts at part are = sorted_front part.own (joined part.behind) (sorted_back (joined part.before) (part.own ++ joined part.behind) (subst AreSorted (ap joined part.parts_are ∙ joined_append part.before (part.own ∷ part.behind)) are.1))
