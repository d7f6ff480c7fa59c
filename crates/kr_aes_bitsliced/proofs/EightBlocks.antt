-- Eight blocks, one by one.
use Rattle.std.proofs.Common.{◌≡◌, ℕ, ◌<◌, ◌∙◌, List, [], length, get_or, map, ap, sym, arith}
use Rattle.kr_aes_bitsliced.specs.declared.planes.Planes.{Planes}
use Rattle.kr_aes_bitsliced.specs.inner.Planes.{sliced_block}
use Rattle.std.proofs.lemmas.List.{ext_get_or, get_or-map, length-map}

-- blocks that are each made of the one at the same place
map_of_eight : (f : List ℕ → List ℕ) (blocks made : List (List ℕ))
    → length blocks ≡ 8 → length made ≡ 8
    → ((b : ℕ) → b < 8 → get_or made b [] ≡ f (get_or blocks b [])) → made ≡ map f blocks
map_of_eight f blocks made blocks_size made_size each =
    ext_get_or [] made (map f blocks) (made_size ∙ sym blocks_size ∙ sym (length-map blocks f))
    (λ b lt. each b (omega arith) ∙ sym (get_or-map f blocks b [] [] (omega arith)))

-- blocks that went through planes, on which each was ciphered
pub through_planes : (f : List ℕ → List ℕ) (blocks made : List (List ℕ)) (sliced ciphered : Planes)
    → length blocks ≡ 8 → length made ≡ 8
    → ((b : ℕ) → b < 8 → sliced_block sliced b ≡ get_or blocks b [])
    → ((b : ℕ) → b < 8 → sliced_block ciphered b ≡ f (sliced_block sliced b))
    → ((b : ℕ) → b < 8 → get_or made b [] ≡ sliced_block ciphered b) → made ≡ map f blocks
through_planes f blocks made sliced ciphered blocks_size made_size into each back =
    map_of_eight f blocks made blocks_size made_size
    (λ b lt. back b lt ∙ each b lt ∙ ap f (into b lt))
