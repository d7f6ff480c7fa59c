-- The file is as it was, and was interrupted each time.
use Rattle.std.proofs.Common.{◌≡◌, length}
use Rattle.kr_edge.specs.Placed.{NoneFailed}
use Rattle.kr_edge.specs.inner.Stops.{WasInterrupted}
use Rattle.kr_edge.proofs.tape.read_again.Given as goal

abbrev pub invariant-loop : goal.invariant-loop
invariant-loop g l = record {
  same : length l.into ≡ length l.initial.into;
  told : g.F.PlacedFile.told l.file ≡ g.F.PlacedFile.told l.initial.file;
  stopped : WasInterrupted l.counter (g.F.PlacedFile.stops l.initial.file)
      (g.F.PlacedFile.stops l.file);
  calm : NoneFailed (g.F.PlacedFile.stops l.initial.file) (g.F.PlacedFile.stops l.file);
}
