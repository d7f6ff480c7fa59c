-- Changes of one generation.
use Rattle.std.proofs.Common.{◌≡◌, ℕ, zero, suc, ◌<◌, ◌+◌, ◌^◌, Bool, List, [], ◌∷◌, length, get_or, set, refl, sym, ap, subst, ◌∙◌, arith}
use Rattle.std.specs.Prelude.{IsTrue}
use Rattle.std.specs.List.{slice_get}
use Rattle.std.specs.Option.{IsSomeAnd}
use Rattle.kr_judge.specs.declared.generation.JudgedGeneration.{JudgedGeneration}
use Rattle.kr_judge.specs.Boards.{GenerationState, changed_at, held_more, held_less, MayHold, IsHeld, is_live}
use Rattle.kr_judge.specs.inner.Lives.{uncurrent}
use Rattle.kr_judge.specs.inner.Views.{generation_of, generations_of}

changed : (change : GenerationState → GenerationState) (generations : List JudgedGeneration) (i : ℕ) (g new : JudgedGeneration) → i < length generations → g ≡ get_or generations i g → generation_of new ≡ change (generation_of g)
    → generations_of (set generations i new) ≡ changed_at change i (generations_of generations)
changed change [] i g new h is e = absurd (omega arith)
changed change (k ∷ ks) zero g new h is e = ap (λ x. x ∷ generations_of ks) (e ∙ ap (λ y. change (generation_of y)) is)
changed change (k ∷ ks) (suc i) g new h is e = ap (λ l. generation_of k ∷ l) (changed change ks i g new (omega arith) is e)

is_there : (P : GenerationState → Type 0) (generations : List JudgedGeneration) (i : ℕ) → IsSomeAnd (slice_get (generations_of generations) i) P → i < length generations
is_there P [] i h = absurd h
is_there P (k ∷ ks) zero h = omega arith
is_there P (k ∷ ks) (suc i) h = let l : i < length ks = is_there P ks i h in omega arith

as_there : (P : GenerationState → Type 0) (generations : List JudgedGeneration) (i : ℕ) (g : JudgedGeneration) → IsSomeAnd (slice_get (generations_of generations) i) P → g ≡ get_or generations i g → P (generation_of g)
as_there P [] i g h is = absurd h
as_there P (k ∷ ks) zero g h is = subst (λ y. P (generation_of y)) (sym is) h
as_there P (k ∷ ks) (suc i) g h is = as_there P ks i g h is

abbrev MayBeHeld : GenerationState → Type 0
MayBeHeld generation = IsTrue (is_live generation) × (generation.holders + 1 < 2 ^ 32)

abbrev HasHolders : GenerationState → Type 0
HasHolders generation = 0 < generation.holders

pub hold_there : (generations : List JudgedGeneration) (i : ℕ) → MayHold i (generations_of generations) → i < length generations
hold_there generations i h = is_there MayBeHeld generations i h

pub hold_fits : (generations : List JudgedGeneration) (i : ℕ) (g : JudgedGeneration) → MayHold i (generations_of generations) → g ≡ get_or generations i g → g.holders + 1 < 2 ^ 32
hold_fits generations i g h is = (as_there MayBeHeld generations i g h is).1

pub hold_set : (generations : List JudgedGeneration) (i : ℕ) (g : JudgedGeneration) → MayHold i (generations_of generations) → g ≡ get_or generations i g
    → generations_of (set generations i (record g { holders = g.holders + 1 })) ≡ changed_at held_more i (generations_of generations)
hold_set generations i g h is = changed held_more generations i g (record g { holders = g.holders + 1 }) (hold_there generations i h) is refl

pub release_there : (generations : List JudgedGeneration) (i : ℕ) → IsHeld i (generations_of generations) → i < length generations
release_there generations i h = is_there HasHolders generations i h

pub release_some : (generations : List JudgedGeneration) (i : ℕ) (g : JudgedGeneration) → IsHeld i (generations_of generations) → g ≡ get_or generations i g → 0 < g.holders
release_some generations i g h is = as_there HasHolders generations i g h is

pub less_set : (generations : List JudgedGeneration) (i : ℕ) (g new : JudgedGeneration) → i < length generations → g ≡ get_or generations i g → generation_of new ≡ held_less (generation_of g)
    → generations_of (set generations i new) ≡ changed_at held_less i (generations_of generations)
less_set generations i g new h is e = changed held_less generations i g new h is e

pub uncurrent_set : (generations : List JudgedGeneration) (i : ℕ) (g new : JudgedGeneration) → i < length generations → g ≡ get_or generations i g → generation_of new ≡ uncurrent (generation_of g)
    → generations_of (set generations i new) ≡ changed_at uncurrent i (generations_of generations)
uncurrent_set generations i g new h is e = changed uncurrent generations i g new h is e

-- whether it is still live is told of the generation at its place
still : (P : GenerationState → Type 0) (generations : List JudgedGeneration) (i : ℕ) (g : JudgedGeneration) → i < length generations → g ≡ get_or generations i g → P (generation_of g) → IsSomeAnd (slice_get (generations_of generations) i) P
still P [] i g h is p = absurd (omega (arith, h))
still P (k ∷ ks) zero g h is p = subst (λ x. P (generation_of x)) is p
still P (k ∷ ks) (suc i) g h is p = still P ks i g (omega (arith, h)) is p

pub still_held : (generations : List JudgedGeneration) (i : ℕ) (g : JudgedGeneration) (v : Bool) → i < length generations → g ≡ get_or generations i g → v ≡ is_live (held_less (generation_of g))
    → IsSomeAnd (slice_get (generations_of generations) i) (λ x. v ≡ is_live (held_less x))
still_held generations i g v h is e = still (λ x. v ≡ is_live (held_less x)) generations i g h is e

pub still_left : (generations : List JudgedGeneration) (i : ℕ) (g : JudgedGeneration) (v : Bool) → i < length generations → g ≡ get_or generations i g → v ≡ is_live (uncurrent (generation_of g))
    → IsSomeAnd (slice_get (generations_of generations) i) (λ x. v ≡ is_live (uncurrent x))
still_left generations i g v h is e = still (λ x. v ≡ is_live (uncurrent x)) generations i g h is e
