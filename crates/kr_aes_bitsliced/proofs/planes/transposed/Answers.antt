use Rattle.std.proofs.Common.{ℕ, List, [], ◌∷◌, get_or}
use Rattle.kr_aes_bitsliced.specs.inner.Planes.{plane}
use Rattle.kr_aes_bitsliced.proofs.Transposed.{by_digits, transposed_bits}
use Rattle.kr_aes_bitsliced.proofs.planes.transposed.Goals as goal

pub returns : goal.returns
returns c =
    let ones : ℕ → List ℕ = λ k. get_or
    (c.exchanged.result.0 ∷ c.exchanged.result.1 ∷
    c.exchanged-2.result.0 ∷ c.exchanged-2.result.1 ∷
    c.exchanged-3.result.0 ∷ c.exchanged-3.result.1 ∷
    c.exchanged-4.result.0 ∷ c.exchanged-4.result.1 ∷ [])
    k [] in
    let twos : ℕ → List ℕ = λ k. get_or
    (c.exchanged-5.result.0 ∷ c.exchanged-6.result.0 ∷
    c.exchanged-5.result.1 ∷ c.exchanged-6.result.1 ∷
    c.exchanged-7.result.0 ∷ c.exchanged-8.result.0 ∷
    c.exchanged-7.result.1 ∷ c.exchanged-8.result.1 ∷ [])
    k [] in
    let fours : ℕ → List ℕ = λ k. get_or
    (c.exchanged-9.result.0 ∷ c.exchanged-10.result.0 ∷
    c.exchanged-11.result.0 ∷ c.exchanged-12.result.0 ∷
    c.exchanged-9.result.1 ∷ c.exchanged-10.result.1 ∷
    c.exchanged-11.result.1 ∷ c.exchanged-12.result.1 ∷ [])
    k [] in
    transposed_bits (plane c.args.planes) ones twos fours
    (by_digits _ c.exchanged.ensures c.exchanged-2.ensures
    c.exchanged-3.ensures c.exchanged-4.ensures)
    (by_digits _ c.exchanged-5.ensures c.exchanged-6.ensures
    c.exchanged-7.ensures c.exchanged-8.ensures)
    (by_digits _ c.exchanged-9.ensures c.exchanged-10.ensures
    c.exchanged-11.ensures c.exchanged-12.ensures)
