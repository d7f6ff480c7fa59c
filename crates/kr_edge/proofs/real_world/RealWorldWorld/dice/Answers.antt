-- A random source is refused for a fault alone.
use Rattle.std.proofs.Common.{inl, refl}
use Rattle.kr_edge.proofs.real_world.RealWorldWorld.dice.Goals as goal

pub returns-then-at-ge-SEATS-clause-refusals : goal.returns-then-at-ge-SEATS-clause-refusals
returns-then-at-ge-SEATS-clause-refusals g c = inl refl

pub returns-in-None-clause-refusals : goal.returns-in-None-clause-refusals
returns-in-None-clause-refusals g c = inl refl
