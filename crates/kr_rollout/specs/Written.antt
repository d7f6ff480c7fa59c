-- What a line that wrote a row did at its path.
use Rattle.std.specs.Prelude.{◌≡◌, ℕ, List, [], ⊤}
use Rattle.kr_rollout.specs.declared.line.Did.{Did}
use Rattle.kr_rollout.specs.declared.line.Did.TheVariants.{Put, Delete, Replace}
use Rattle.kr_rollout.specs.declared.line.Effect.{Effect}
use Rattle.kr_rollout.specs.declared.line.Effect.TheVariants as wrote
use Rattle.kr_rollout.specs.declared.line.Gave.{Gave}
use Rattle.kr_rollout.specs.declared.line.Gave.TheVariants.{Written}

-- a row was written
abbrev pub IsWritten : Gave → Type 0
IsWritten (Written revision) = ⊤
IsWritten gave = ⊥

-- the path at which an event writes; empty for one that writes none
abbrev pub path_written : Did → List ℕ
path_written (Put path resource plain) = path
path_written (Delete path) = path
path_written (Replace path revision) = path
path_written did = []

-- a Put puts its data for its resource, a Delete takes away what was there; by all else the data
-- stay
abbrev pub IsEffect : Did → Effect → Type 0
IsEffect (Put path resource plain) (wrote.Put own bytes) =
    (own.now ≡ resource) × (bytes.now ≡ plain)
IsEffect (Put path resource plain) told = ⊥
IsEffect (Delete path) wrote.Delete = ⊤
IsEffect (Delete path) told = ⊥
IsEffect did wrote.Replace = ⊤
IsEffect did told = ⊥
