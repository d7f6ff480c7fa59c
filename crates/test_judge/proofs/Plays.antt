-- A board with one more generation.
use Rattle.std.proofs.Common.{◌≡◌, ℕ, zero, suc, ◌+◌, Bool, true, false, List, [], ◌∷◌, ◌++◌, length, refl, sym, ap, subst, ◌∙◌, arith}
use Rattle.std.specs.Prelude.{◌==◌, ◌&&◌, ◌||◌, IsTrue}
use Rattle.std.specs.List.{list_any}
use Rattle.std.proofs.lemmas.List.{length-append, length-map}
use Rattle.std.proofs.lemmas.Bool.Decides.{Decides-eqb}
use Rattle.kr_judge.specs.Boards.{GenerationState, is_live, left_by, without_current, is_replica_current, changed_at, MayHold}

pub length_added : (replica : ℕ) (gs : List GenerationState) (new : GenerationState) (n : ℕ) → length gs ≡ n → length (without_current replica gs ++ new ∷ []) ≡ n + 1
length_added replica gs new n h = omega (arith, h, length-append (without_current replica gs) (new ∷ []), length-map gs (left_by replica))

pub length_left : (replica : ℕ) (gs : List GenerationState) (n : ℕ) → length gs ≡ n → length (without_current replica gs) ≡ n
length_left replica gs n h = length-map gs (left_by replica) ∙ h

pub length_held : (change : GenerationState → GenerationState) (at : ℕ) (gs : List GenerationState) (n : ℕ) → length gs ≡ n → length (changed_at change at gs) ≡ n
length_held change at gs n h = same at gs ∙ h
  where
    same : (i : ℕ) (all : List GenerationState) → length (changed_at change i all) ≡ length all
    same i [] = refl
    same zero (g ∷ rest) = refl
    same (suc i) (g ∷ rest) = ap suc (same i rest)

-- the new one is its replica's current one
pub may_hold : (replica number : ℕ) (gs : List GenerationState) (new : GenerationState) → number ≡ length gs → is_live new ≡ true → new.holders ≡ 0 → MayHold number (without_current replica gs ++ new ∷ [])
may_hold replica number gs new is live none = subst (λ n. MayHold n (without_current replica gs ++ new ∷ [])) (sym is) (at gs)
  where
    at : (all : List GenerationState) → MayHold (length all) (without_current replica all ++ new ∷ [])
    at [] = (live, omega (arith, none))
    at (g ∷ rest) = at rest

pub has_current : (replica : ℕ) (gs : List GenerationState) (new : GenerationState) → new.replica ≡ replica → new.current ≡ true → IsTrue (list_any (is_replica_current replica) (without_current replica gs ++ new ∷ []))
has_current replica [] new own current = ap (λ v. v || false) (ap (λ c. c && (new.replica == replica)) current ∙ (Decides-eqb new.replica replica).1 own)
has_current replica (g ∷ gs) new own current = or_true (is_replica_current replica (left_by replica g)) (has_current replica gs new own current)
  where
    or_true : (u : Bool) {v : Bool} → v ≡ true → (u || v) ≡ true
    or_true true h = refl
    or_true false h = h
