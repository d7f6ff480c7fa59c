-- No LF stands before this place.
use Rattle.kr_keywrap.specs.inner.Lines.{IsUnbroken}
use Rattle.kr_keywrap.proofs.pending.place_of_break.Given as goal

abbrev pub invariant-loop-place : goal.invariant-loop-place
invariant-loop-place l = IsUnbroken l.bytes l.place
