-- Each key so far is a text.
use Rattle.std.proofs.Common.{ℕ, ◌<◌, List, get_or}
use Rattle.std.specs.Str.{IsUtf8}
use Rattle.kr_kms.proofs.seeds.tell_texts.Given as goal

abbrev pub invariant-loop-pair : goal.invariant-loop-pair
invariant-loop-pair l =
    (k : ℕ) → k < l.pair-index → (d : List ℕ × List ℕ) → IsUtf8 (get_or l.pairs k d).0
