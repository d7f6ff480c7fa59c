-- The value of each pair so far has bytes below 256.
use Rattle.std.proofs.Common.{ℕ, ◌<◌, List, get_or}
use Rattle.std.specs.Prelude.{All}
use Rattle.kr_kms_wire.proofs.members.tell_values.Given as goal

abbrev pub invariant-loop-pair : goal.invariant-loop-pair
invariant-loop-pair l =
    (k : ℕ) → k < l.pair-index → (d : List ℕ × List ℕ)
    → All (λ byte. byte < 256) (get_or l.pairs k d).1
