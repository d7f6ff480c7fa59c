-- A replica has at most one current generation.
use Rattle.std.proofs.Common.{◌≡◌, ℕ, zero, suc, ◌≤◌, ◌+◌, Bool, true, false, List, [], ◌∷◌, ◌++◌, length, refl, ap, subst, sym, ◌∙◌, arith}
use Rattle.std.specs.Prelude.{◌==◌, ◌&&◌, not, cond}
use Rattle.std.specs.List.{filter}
use Rattle.std.proofs.lemmas.Bool.Decides.{Decides-eqb}
use Rattle.std.proofs.lemmas.List.{length-append}
use Rattle.std.proofs.lemmas.List.Elements.{filter-append}
use Rattle.kr_config.specs.Kept.{ConfigEntry}
use Rattle.kr_judge.specs.Boards.{GenerationState, left_by, without_current, added_generation, given_to, is_replica_current, held_more, held_less, changed_at, HasOneCurrent}

abbrev currents : ℕ → List GenerationState → ℕ
currents replica generations = length (filter (is_replica_current replica) generations)

pub one_nil : HasOneCurrent []
unfolding HasOneCurrent
one_nil replica = omega arith

fewer : (replica gone : ℕ) (generations : List GenerationState) → currents replica (without_current gone generations) ≤ currents replica generations
fewer replica gone [] = omega arith
fewer replica gone (g ∷ gs) = by g.current (g.replica == gone) (g.replica == replica) (fewer replica gone gs)
  where
    by : (current left own : Bool) → currents replica (without_current gone gs) ≤ currents replica gs
        → length (cond ((current && not left) && own) (left_by gone g ∷ filter (is_replica_current replica) (without_current gone gs)) (filter (is_replica_current replica) (without_current gone gs)))
        ≤ length (cond (current && own) (g ∷ filter (is_replica_current replica) gs) (filter (is_replica_current replica) gs))
    by true true true h = omega (arith, h)
    by true true false h = h
    by true false true h = omega (arith, h)
    by true false false h = h
    by false left own h = h

none : (gone : ℕ) (generations : List GenerationState) → filter (is_replica_current gone) (without_current gone generations) ≡ []
none gone [] = refl
none gone (g ∷ gs) = by g.current (g.replica == gone) (none gone gs)
  where
    by : (current left : Bool) → filter (is_replica_current gone) (without_current gone gs) ≡ []
        → cond ((current && not left) && left) (left_by gone g ∷ filter (is_replica_current gone) (without_current gone gs)) (filter (is_replica_current gone) (without_current gone gs)) ≡ []
    by true true h = h
    by true false h = h
    by false left h = h

pub one_left : (gone : ℕ) (generations : List GenerationState) → HasOneCurrent generations → HasOneCurrent (without_current gone generations)
unfolding HasOneCurrent
one_left gone generations one replica = omega (arith, fewer replica gone generations, one replica)

with_new : (replica : ℕ) (generations : List GenerationState) (new : GenerationState) (other : ℕ) (v : Bool) → is_replica_current other new ≡ v
    → currents other (without_current replica generations ++ new ∷ []) ≡ currents other (without_current replica generations) + length (cond v (new ∷ []) [])
with_new replica generations new other v e = ap length (filter-append (is_replica_current other) (without_current replica generations) (new ∷ []))
    ∙ length-append (filter (is_replica_current other) (without_current replica generations)) (filter (is_replica_current other) (new ∷ []))
    ∙ ap (λ t. currents other (without_current replica generations) + length (cond t (new ∷ []) [])) e

still_one : (replica : ℕ) (generations : List GenerationState) (new : GenerationState) → new.current ≡ true → new.replica ≡ replica → currents replica generations ≤ 1 → (other : ℕ) → currents other generations ≤ 1
    → currents other (without_current replica generations ++ new ∷ []) ≤ 1
still_one replica generations new current own one other less = by (new.replica == other) refl
  where
    is : is_replica_current other new ≡ (new.replica == other)
    is = ap (λ v. v && (new.replica == other)) current

    by : (v : Bool) → (new.replica == other) ≡ v → currents other (without_current replica generations ++ new ∷ []) ≤ 1
    by true e =
        let same : replica ≡ other = sym own ∙ (Decides-eqb new.replica other).0 e in
        let gone : filter (is_replica_current other) (without_current replica generations) ≡ [] = subst (λ r. filter (is_replica_current other) (without_current r generations) ≡ []) (sym same) (none other generations) in
        omega (arith, with_new replica generations new other true (is ∙ e), ap length gone)
    by false e = omega (arith, with_new replica generations new other false (is ∙ e), fewer other replica generations, less)

pub one_added : (replica : ℕ) (generations all : List GenerationState) (rows : List ConfigEntry) → HasOneCurrent generations
    → all ≡ given_to replica rows generations → HasOneCurrent all
unfolding HasOneCurrent
one_added replica generations all rows one is = subst HasOneCurrent (sym is)
    (λ other. still_one replica generations (added_generation replica rows) refl refl (one replica) other (one other))

same_end : (u v : Bool) (x y : GenerationState) (xs ys : List GenerationState) → u ≡ v → length xs ≡ length ys → length (cond u (x ∷ xs) xs) ≡ length (cond v (y ∷ ys) ys)
same_end true true x y xs ys e h = omega (arith, h)
same_end true false x y xs ys e h = cc
same_end false true x y xs ys e h = cc
same_end false false x y xs ys e h = h

changed : (change : GenerationState → GenerationState) (replica : ℕ) → ((g : GenerationState) → is_replica_current replica (change g) ≡ is_replica_current replica g) → (number : ℕ) (generations : List GenerationState)
    → currents replica (changed_at change number generations) ≡ currents replica generations
changed change replica same number [] = refl
changed change replica same zero (g ∷ gs) = same_end (is_replica_current replica (change g)) (is_replica_current replica g) (change g) g (filter (is_replica_current replica) gs) (filter (is_replica_current replica) gs) (same g) refl
changed change replica same (suc number) (g ∷ gs) = same_end (is_replica_current replica g) (is_replica_current replica g) g g (filter (is_replica_current replica) (changed_at change number gs)) (filter (is_replica_current replica) gs) refl (changed change replica same number gs)

pub one_held : (number : ℕ) (generations : List GenerationState) → HasOneCurrent generations → HasOneCurrent (changed_at held_more number generations)
unfolding HasOneCurrent
one_held number generations one replica = omega (arith, changed held_more replica (λ g. refl) number generations, one replica)

pub one_released : (number : ℕ) (generations : List GenerationState) → HasOneCurrent generations → HasOneCurrent (changed_at held_less number generations)
unfolding HasOneCurrent
one_released number generations one replica = omega (arith, changed held_less replica (λ g. refl) number generations, one replica)
