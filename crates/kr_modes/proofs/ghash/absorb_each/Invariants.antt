use Rattle.std.proofs.Common.{◌≡◌, ℕ}
use Rattle.kr_modes.specs.Blocks.{blocks}
use Rattle.kr_modes.specs.Gcm.{zero_padded}
use Rattle.kr_modes.specs.Ghash.{ghash_blocks}
use Rattle.kr_modes.specs.inner.Tables.{IsTableOf, polynomial_of}
use Rattle.kr_modes.proofs.Hashes.{hashed_from}
use Rattle.kr_modes.proofs.ghash.absorb_each.Given as goal

abbrev pub invariant-loop-index : goal.invariant-loop-index
invariant-loop-index l =
    (subkey : ℕ) → IsTableOf l.products subkey
    → hashed_from subkey (polynomial_of l.value) l.bytes l.index ≡ ghash_blocks subkey (polynomial_of l.start) (blocks (zero_padded l.bytes))
