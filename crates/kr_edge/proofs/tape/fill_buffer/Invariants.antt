-- The buffer keeps its length, what was filled are bytes of the file, and no read failed.
use Rattle.std.proofs.Common.{◌≡◌, ◌-◌, ◌≤◌, length}
use Rattle.kr_edge.specs.Placed.{NoneFailed}
use Rattle.kr_edge.specs.inner.Stops.{WasInterrupted}
use Rattle.kr_edge.proofs.Pieces.{IsFilled}
use Rattle.kr_edge.proofs.tape.fill_buffer.Given as goal

abbrev pub invariant-loop-filled : goal.invariant-loop-filled
invariant-loop-filled g l = record {
  same : length l.into ≡ length l.initial.into;
  within : l.filled ≤ length l.into;
  told : g.F.PlacedFile.told l.file ≡ g.F.PlacedFile.told l.initial.file;
  read : IsFilled (g.F.PlacedFile.told l.initial.file) l.at l.filled l.into;
  later : WasInterrupted 0 (g.F.PlacedFile.stops l.initial.file) (g.F.PlacedFile.stops l.file);
  calm : NoneFailed (g.F.PlacedFile.stops l.initial.file) (g.F.PlacedFile.stops l.file);
}

abbrev pub decreases-loop-filled : goal.decreases-loop-filled
decreases-loop-filled g l = length l.into - l.filled
