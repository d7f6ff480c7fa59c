use Rattle.std.proofs.Common.{ℕ, List, ◌∷◌, [], bit_xor, slice_index, refl, ap, ◌∙◌, arith}
use Rattle.std.specs.Int.{w32, from_be_bytes}
use Rattle.kr_aes.specs.Cipher.{word_byte}
use Rattle.kr_aes.proofs.ColumnWords.{IsKeyed-xor, bytes4-lt, word_byte-from_be_bytes}
use Rattle.kr_aes.proofs.columns.keyed.Goals as goal

pub returns : goal.returns
returns c =
    let bytes : List ℕ = c.args.a ∷ c.args.b ∷ c.args.c ∷ c.args.d ∷ [] in
    λ row lt. ap (λ (w : ℕ). word_byte (bit_xor w c.args.key) row) c.from_be_bytes.ensures
    ∙ IsKeyed-xor (slice_index bytes) (from_be_bytes w32 bytes) c.args.key (λ row lt. word_byte-from_be_bytes bytes refl
    (bytes4-lt c.args.a c.args.b c.args.c c.args.d (omega arith) (omega arith) (omega arith) (omega arith)) row) row lt
