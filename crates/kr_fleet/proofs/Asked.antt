-- Links of a list that are asked, by more names.
use Rattle.std.proofs.Common.{ℕ, List, [], ◌∷◌}
use Rattle.std.specs.Prelude.{Contains}
use Rattle.kr_kms.specs.Calls.{Link}
use Rattle.kr_provider.specs.AskedLinks.{AskedOnly}

pub asked_among : {L : Type 0} (link : L → Link) (names more : List (List ℕ)) (olds news : List L)
    → ((name : List ℕ) → Contains names name → Contains more name)
    → AskedOnly link names olds news → AskedOnly link more olds news
asked_among link names more [] [] t a = tt
asked_among link names more (x ∷ xs) (y ∷ ys) t a =
    (a.0, λ none. a.1 (λ c. none (t (link x).name c)), asked_among link names more xs ys t a.2)
asked_among link names more other another t a = absurd a
