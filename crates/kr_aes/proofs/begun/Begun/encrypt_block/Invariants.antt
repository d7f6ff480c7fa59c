use Rattle.std.proofs.Common.{◌≡◌, ◌-◌, [], ◌∷◌, ◌++◌}
use Rattle.kr_aes.specs.Cipher.{after_rounds}
use Rattle.kr_aes.specs.inner.Columns.{block_of_columns}
use Rattle.kr_aes.proofs.begun.Begun.encrypt_block.Given as goal

abbrev pub invariant-loop-round : goal.invariant-loop-round
invariant-loop-round l =
    block_of_columns l.state ≡ after_rounds l.self.words (l.self.front ++ l.last ∷ []) (l.round - 1)
