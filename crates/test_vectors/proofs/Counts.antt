-- As many words as strings that they stand for.
use Rattle.std.proofs.Common.{◌≡◌, ℕ, List, [], ◌∷◌, Bor, length, map, refl, sym, ◌∙◌, arith}
use Rattle.std.proofs.lemmas.List.{length-map}
use Rattle.test_vectors.specs.Words.{StandFor}

length-StandFor : (words strings : List (List ℕ)) → StandFor words strings → length words ≡ length strings
length-StandFor [] [] a = refl
length-StandFor [] (bytes ∷ rest) a = absurd a
length-StandFor (word ∷ words) [] a = absurd a
length-StandFor (word ∷ words) (bytes ∷ rest) a = let before = length-StandFor words rest a.1 in omega arith

pub count : (operands : List (Bor (List ℕ))) (strings : List (List ℕ)) → StandFor (map (λ word. word.now) operands) strings → length operands ≡ length strings
count operands strings a =
    sym (length-map operands (λ (word : Bor (List ℕ)). word.now)) ∙ length-StandFor (map (λ (word : Bor (List ℕ)). word.now) operands) strings a
