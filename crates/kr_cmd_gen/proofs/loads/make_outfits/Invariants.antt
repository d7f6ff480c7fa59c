-- `make_outfits`: so many seats have theirs, and there is room for the others.
use Rattle.std.proofs.Common.{◌≡◌, ◌+◌, ◌≤◌, map}
use Rattle.std.specs.List.{range_with_len}
use Rattle.kr_workload.specs.Streams.{worker_dice}
use Rattle.kr_cmd_gen.specs.inner.LoadOutcomes.{AreBare, sources_in}
use Rattle.kr_cmd_gen.proofs.loads.make_outfits.Given as goal

abbrev pub invariant-loop-seat : goal.invariant-loop-seat
invariant-loop-seat g l =
    (sources_in l.outfits.0 ≡ map (worker_dice l.seed) (range_with_len 0 l.seat))
    × AreBare l.outfits.0 × (4 ≤ l.seat + l.outfits.1)
