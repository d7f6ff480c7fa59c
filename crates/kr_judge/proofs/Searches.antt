-- Going through the live generations.
use Rattle.std.proofs.Common.{◌≡◌, ℕ, zero, suc, ◌<◌, ◌≤◌, ◌+◌, true, false, List, [], ◌∷◌, length, get_or, drop, Some, refl, ap, subst, ◌∙◌, arith}
use Rattle.std.specs.Prelude.{cond}
use Rattle.std.specs.List.{filter, slice_get}
use Rattle.std.specs.Option.{IsSomeAnd}
use Rattle.std.proofs.lemmas.List.{length-map}
use Rattle.kr_judge.specs.declared.generation.JudgedGeneration.{JudgedGeneration}
use Rattle.kr_judge.specs.Boards.{GenerationState, is_replica_current}
use Rattle.kr_judge.specs.inner.Views.{generation_of, generations_of}
use Rattle.kr_judge.specs.Scans.{live_from, live_numbers}
use Rattle.kr_judge.proofs.Parts.{drop_end}
use Rattle.kr_judge.proofs.Lives.{live_within, live_step, none_current}

-- the generation at a place, as contracts see it
pub shown_at : (generations : List JudgedGeneration) (i : ℕ) (g : JudgedGeneration) → i < length generations → g ≡ get_or generations i g → Some (generation_of g) ≡ slice_get (generations_of generations) i
shown_at [] i g h is = absurd (omega (arith, h))
shown_at (k ∷ ks) zero g h is = ap (λ x. Some (generation_of x)) is
shown_at (k ∷ ks) (suc i) g h is = shown_at ks i g (omega (arith, h)) is

some_at : (P : GenerationState → Type 0) (gs : List GenerationState) (i : ℕ) (g : GenerationState) → Some g ≡ slice_get gs i → P g → IsSomeAnd (slice_get gs i) P
some_at P gs i g h p = subst (λ o. IsSomeAnd o P) h p

-- none of the live ones before the place is the replica's current one
pub record AreSearched (replica : ℕ) (generations : List GenerationState) (j : ℕ) : Type 0 where
  pub rest : filter (λ n. is_replica_current replica n.1) (live_from 0 generations) ≡ filter (λ n. is_replica_current replica n.1) (drop j (live_from 0 generations))

pub search_begin : (replica : ℕ) (generations : List GenerationState) → AreSearched replica generations 0
search_begin replica generations = record { rest = refl }

pub search_within : (generations : List JudgedGeneration) (live : List ℕ) (j n : ℕ) → live ≡ live_numbers (generations_of generations) → j < length live → n ≡ get_or live j 0 → n < length generations
search_within generations live j n e h is =
    let within : n < length (generations_of generations) = live_within (generations_of generations) j n (subst (λ l. j < length l) e h) (is ∙ ap (λ l. get_or l j 0) e) in
    omega (arith, within, length-map generations generation_of)

pub search_more : (replica : ℕ) (generations : List JudgedGeneration) (live : List ℕ) (j n : ℕ) (g : JudgedGeneration) → AreSearched replica (generations_of generations) j → live ≡ live_numbers (generations_of generations)
    → j < length live → n ≡ get_or live j 0 → g ≡ get_or generations n g → is_replica_current replica (generation_of g) ≡ false → AreSearched replica (generations_of generations) (j + 1)
search_more replica generations live j n g before e h is own not_it = record {
  rest = before.rest
      ∙ ap (filter (λ m. is_replica_current replica m.1)) (live_step (generations_of generations) j n (generation_of g) (subst (λ l. j < length l) e h) (is ∙ ap (λ l. get_or l j 0) e) (shown_at generations n g (search_within generations live j n e h is) own))
      ∙ ap (λ v. cond v ((n, generation_of g) ∷ filter (λ m. is_replica_current replica m.1) (drop (j + 1) (live_from 0 (generations_of generations)))) (filter (λ m. is_replica_current replica m.1) (drop (j + 1) (live_from 0 (generations_of generations))))) not_it;
}

pub search_found : (replica : ℕ) (generations : List JudgedGeneration) (live : List ℕ) (j n : ℕ) (g : JudgedGeneration) → live ≡ live_numbers (generations_of generations)
    → j < length live → n ≡ get_or live j 0 → g ≡ get_or generations n g → is_replica_current replica (generation_of g) ≡ true → IsSomeAnd (slice_get (generations_of generations) n) (λ x. is_replica_current replica x ≡ true)
search_found replica generations live j n g e h is own it = some_at (λ x. is_replica_current replica x ≡ true) (generations_of generations) n (generation_of g) (shown_at generations n g (search_within generations live j n e h is) own) it

pub search_end : (replica : ℕ) (generations : List GenerationState) (live : List ℕ) (j : ℕ) → AreSearched replica generations j → live ≡ live_numbers generations → length live ≤ j → filter (is_replica_current replica) generations ≡ []
search_end replica generations live j before e h = none_current replica generations (before.rest ∙ ap (filter (λ n. is_replica_current replica n.1))
    (drop_end (live_from 0 generations) j (omega (arith, h, ap length e, length-map (live_from 0 generations) (λ n. n.0)))))

pub current_there : (replica : ℕ) (generations : List JudgedGeneration) (n : ℕ) → IsSomeAnd (slice_get (generations_of generations) n) (λ x. is_replica_current replica x ≡ true) → n < length generations
current_there replica [] n h = absurd h
current_there replica (g ∷ gs) zero h = omega arith
current_there replica (g ∷ gs) (suc n) h = (let l : n < length gs = current_there replica gs n h in omega (arith, l))
