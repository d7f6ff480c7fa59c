-- What plugins told a worker in a run, and what agrees with it.
use Rattle.std.specs.Prelude.{◌≡◌, ℕ, List, []}
use Rattle.kr_base.specs.Walks.{Walk}
use Rattle.kr_kms.specs.Cache.{AreOpenBy}
use Rattle.kr_kms.specs.Exchanges.{AgreeAll, Exchange}
use Rattle.kr_kms.specs.Opens.{Opens}
use Rattle.kr_kms.specs.declared.seeds.SeedKey.{SeedKey}
use Rattle.kr_provider.specs.AskedLinks.{Among}
use Rattle.kr_provider.specs.BenchState.{BenchState}

-- the unwrapped seeds that its bench had kept before, and all that its plugins were asked in
-- the run and answered, in order
pub record Heard : Type 0 where
  pub kept : List (SeedKey × List ℕ)
  pub exchanges : List Exchange

-- of no worker
abbrev pub unheard : Heard
unheard = record { kept = []; exchanges = [] }

-- with all of it these openings agree: by them whatever a plugin wrapped is what it was given
-- to wrap, and whatever one unwrapped is what it answered
pub record AgreesWithHeard (opens : Opens) (heard : Heard) : Type 0 where
  pub kept : AreOpenBy opens heard.kept
  pub answers : AgreeAll opens heard.exchanges

-- what was heard is a worker's: its bench kept these seeds before, and by just these exchanges its
-- links came to be those of afterwards
pub record WasHeard {L D : Type 0} (step : L → Exchange → L → Type 0) (heard : Heard)
    (old new : BenchState L D) : Type 0 where
  pub kept : heard.kept ≡ old.cache.rows
  pub walk : Walk (Among step) old.links heard.exchanges new.links
