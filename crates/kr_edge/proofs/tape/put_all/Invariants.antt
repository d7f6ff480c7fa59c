-- So many bytes stand at the place, no length was asked for, and no write failed.
use Rattle.std.proofs.Common.{◌≡◌, ◌-◌, ◌≤◌, length}
use Rattle.kr_edge.specs.inner.Stops.{WasInterrupted}
use Rattle.kr_edge.proofs.Pieces.{IsPut}
use Rattle.kr_edge.proofs.tape.put_all.Given as goal

abbrev pub invariant-loop-done : goal.invariant-loop-done
invariant-loop-done g l = record {
  within : l.done ≤ length l.bytes;
  put : IsPut (g.F.PlacedFile.told l.initial.file) (g.F.PlacedFile.told l.file) l.at l.done l.bytes;
  lengths : g.F.PlacedFile.lengths l.file ≡ g.F.PlacedFile.lengths l.initial.file;
  later : WasInterrupted 0 (g.F.PlacedFile.stops l.initial.file) (g.F.PlacedFile.stops l.file);
}

abbrev pub decreases-loop-done : goal.decreases-loop-done
decreases-loop-done g l = length l.bytes - l.done
