-- The file is as it was, and was interrupted each time.
use Rattle.std.proofs.Common.{◌≡◌}
use Rattle.kr_edge.specs.inner.Stops.{WasInterrupted}
use Rattle.kr_edge.proofs.tape.write_again.Given as goal

abbrev pub invariant-loop : goal.invariant-loop
invariant-loop g l = record {
  told : g.F.PlacedFile.told l.file ≡ g.F.PlacedFile.told l.initial.file;
  lengths : g.F.PlacedFile.lengths l.file ≡ g.F.PlacedFile.lengths l.initial.file;
  stopped : WasInterrupted l.counter (g.F.PlacedFile.stops l.initial.file)
      (g.F.PlacedFile.stops l.file);
}
