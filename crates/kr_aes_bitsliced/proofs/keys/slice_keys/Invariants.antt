use Rattle.std.proofs.Common.{length, ◌≡◌, ℕ, ◌<◌, get_or}
use Rattle.kr_aes_bitsliced.specs.declared.planes.Planes.{Planes}
use Rattle.kr_aes_bitsliced.specs.KeyPlanes.{round_planes}
use Rattle.kr_aes_bitsliced.proofs.keys.slice_keys.Given as goal

abbrev pub invariant-loop-round : goal.invariant-loop-round
invariant-loop-round l = record {
  size : length l.keys ≡ 15;
  done : (k : ℕ) (other : Planes) → k < l.round → get_or l.keys k other ≡ round_planes l.words k;
}
