-- Each byte is read from the first of the two copies.
use Rattle.std.proofs.Common.{[], ◌∷◌, rules}
use Rattle.std.proofs.lemmas.Simd.{pick_l_left}
use Rattle.kr_aes_bitsliced.proofs.planes.by_rows.Goals as goal

pub returns : goal.returns
returns c =
    pick_l_left 0 c.args.bytes c.args.bytes 16
    (0 ∷ 4 ∷ 8 ∷ 12 ∷ 1 ∷ 5 ∷ 9 ∷ 13 ∷ 2 ∷ 6 ∷ 10 ∷ 14 ∷ 3 ∷ 7 ∷ 11 ∷ 15 ∷ []) (search rules) tt
