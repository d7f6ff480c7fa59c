-- Changes of the pairs that no path, or one path, is concerned by.
use Rattle.std.proofs.Common.{◌≡◌, ℕ, zero, suc, ◌<◌, Bool, true, false, List, [], ◌∷◌, ◌++◌, length, get_or, set, Result, Ok, Err, OnOk, refl, sym, ap, subst, ◌∙◌, arith}
use Rattle.std.specs.Prelude.{◌==◌, if◌then◌else◌}
use Rattle.std.proofs.Math.Seq.{map-set_same}
use Rattle.std.proofs.lemmas.List.{map-set, length-map, get_or-set_same, get_or-set_other}
use Rattle.std.proofs.lemmas.Bool.Decides.{Decides-eqb}
use Rattle.kr_config.specs.declared.who.Who.{Who}
use Rattle.kr_judge.specs.declared.pair.Pair.{Pair}
use Rattle.kr_judge.specs.inner.Places.{label_at, paths_at}
use Rattle.kr_judge.specs.inner.Indexes.{labels_of, kept_paths, AreAsBefore, IsChangedAt, MovesUnless, IsMoved}

paths_replaced : (pairs : List Pair) (at : ℕ) (new : Pair) → paths_at pairs at ≡ [] → new.paths ≡ [] → (place : ℕ) → paths_at (set pairs at new) place ≡ paths_at pairs place
paths_replaced (p ∷ ps) zero new h e zero = e ∙ sym h
paths_replaced (p ∷ ps) (suc at) new h e (suc place) = paths_replaced ps at new h e place
paths_replaced other at new h e place = refl

labels_replaced : (pairs : List Pair) (at : ℕ) (new : Pair) → paths_at pairs at ≡ [] → (place : ℕ) → (paths_at pairs place ≡ [] → ⊥) → label_at (set pairs at new) place ≡ label_at pairs place
labels_replaced (p ∷ ps) zero new h zero some = absurd (some h)
labels_replaced (p ∷ ps) (suc at) new h (suc place) some = labels_replaced ps at new h place some
labels_replaced other at new h place some = refl

pub replaced : (pairs : List Pair) (at : ℕ) (new : Pair) → paths_at pairs at ≡ [] → new.paths ≡ [] → AreAsBefore pairs (set pairs at new)
replaced pairs at new h e = record { paths = paths_replaced pairs at new h e; labels = labels_replaced pairs at new h }

pub label_set : (pairs : List Pair) (at : ℕ) (new : Pair) → at < length pairs → label_at (set pairs at new) at ≡ (new.resource, new.who)
label_set [] at new h = absurd (omega (arith, h))
label_set (p ∷ ps) zero new h = refl
label_set (p ∷ ps) (suc at) new h = label_set ps at new (omega (arith, h))

pub label_last : (pairs : List Pair) (new : Pair) → label_at (pairs ++ new ∷ []) (length pairs) ≡ (new.resource, new.who)
label_last [] new = refl
label_last (p ∷ ps) new = label_last ps new

pub label_here : (pairs : List Pair) (at : ℕ) (own : Pair) → at < length pairs → own ≡ get_or pairs at own → label_at pairs at ≡ (own.resource, own.who)
label_here [] at own h is = absurd (omega (arith, h))
label_here (p ∷ ps) zero own h is = ap (λ q. (q.resource, q.who)) (sym is)
label_here (p ∷ ps) (suc at) own h is = label_here ps at own (omega (arith, h)) is

pub paths_here : (pairs : List Pair) (at : ℕ) (own : Pair) → at < length pairs → own ≡ get_or pairs at own → paths_at pairs at ≡ own.paths
paths_here [] at own h is = absurd (omega (arith, h))
paths_here (p ∷ ps) zero own h is = ap (λ q. q.paths) (sym is)
paths_here (p ∷ ps) (suc at) own h is = paths_here ps at own (omega (arith, h)) is

-- one pair's paths change
pub labels_same : (pairs : List Pair) (at : ℕ) (own new : Pair) → own ≡ get_or pairs at own → new.resource ≡ own.resource → new.who ≡ own.who → labels_of (set pairs at new) ≡ labels_of pairs
labels_same pairs at own new is r w = map-set_same (λ (p : Pair). (p.resource, p.who)) pairs at new own (ap (λ x. (x, new.who)) r ∙ ap (λ x. (own.resource, x)) w ∙ ap (λ (p : Pair). (p.resource, p.who)) is)

pub paths_same : (pairs : List Pair) (at : ℕ) (own new : Pair) → own ≡ get_or pairs at own → new.paths ≡ own.paths → kept_paths (set pairs at new) ≡ kept_paths pairs
paths_same pairs at own new is e = map-set_same (λ (p : Pair). p.paths) pairs at new own (e ∙ ap (λ (p : Pair). p.paths) is)

paths_changed : (change : List (List ℕ) → List (List ℕ)) (pairs : List Pair) (at : ℕ) (own new : Pair) → own ≡ get_or pairs at own → at < length pairs → new.paths ≡ change own.paths
    → (other : ℕ) → paths_at (set pairs at new) other ≡ (if at == other then change (paths_at pairs other) else paths_at pairs other)
paths_changed change pairs at own new is h e other = by (at == other) refl
  where
    whole : kept_paths (set pairs at new) ≡ set (kept_paths pairs) at new.paths
    whole = map-set (λ (p : Pair). p.paths) pairs at new

    by : (v : Bool) → (at == other) ≡ v → paths_at (set pairs at new) other ≡ (if v then change (paths_at pairs other) else paths_at pairs other)
    by true q = ap (λ l. get_or l other []) whole ∙ subst (λ n. get_or (set (kept_paths pairs) at new.paths) n [] ≡ change (paths_at pairs n)) ((Decides-eqb at other).0 q)
        (get_or-set_same (kept_paths pairs) at new.paths [] (omega (arith, h, length-map pairs (λ (p : Pair). p.paths))) ∙ e ∙ ap change (sym (paths_here pairs at own h is)))
    by false q = ap (λ l. get_or l other []) whole ∙ get_or-set_other (kept_paths pairs) at other new.paths [] (λ k. (let clash : true ≡ false = sym ((Decides-eqb at other).1 (sym k)) ∙ q in cc))

pub changed : (change : List (List ℕ) → List (List ℕ)) (pairs : List Pair) (at : ℕ) (own new : Pair) → own ≡ get_or pairs at own → at < length pairs → new.resource ≡ own.resource → new.who ≡ own.who → new.paths ≡ change own.paths
    → IsChangedAt change at pairs (set pairs at new)
changed change pairs at own new is h r w e = record { labels = labels_same pairs at own new is r w; paths = paths_changed change pairs at own new is h e }

pub put_changed : {T E : Type 0} (result : Result T E) (change : List (List ℕ) → List (List ℕ)) (pairs : List Pair) (at : ℕ) (own new : Pair) → own ≡ get_or pairs at own → at < length pairs → new.resource ≡ own.resource → new.who ≡ own.who
    → OnOk result (new.paths ≡ change own.paths) → OnOk result (IsChangedAt change at pairs (set pairs at new))
put_changed (Ok x) change pairs at own new is h r w e = changed change pairs at own new is h r w e
put_changed (Err x) change pairs at own new is h r w e = tt

pub label_put : (pairs : List Pair) (at : ℕ) (new : Pair) (resource : List ℕ) (who : Who) → at < length pairs → new.resource ≡ resource → new.who ≡ who → label_at (set pairs at new) at ≡ (resource, who)
label_put pairs at new resource who h r w = label_set pairs at new h ∙ ap (λ x. (x, new.who)) r ∙ ap (λ x. (resource, x)) w

-- a change at one pair, where it isn't the other
pub as_it_is : (change : List (List ℕ) → List (List ℕ)) (own place : ℕ) (pairs : List Pair) → (own == place) ≡ true → IsMoved change own place pairs pairs
as_it_is change own place pairs h = subst (λ v. MovesUnless v change own pairs pairs) (sym h) refl

pub as_other : (change : List (List ℕ) → List (List ℕ)) (own place : ℕ) (old new : List Pair) → (own == place) ≡ false → IsChangedAt change own old new → IsMoved change own place old new
as_other change own place old new h c = subst (λ v. MovesUnless v change own old new) (sym h) c
