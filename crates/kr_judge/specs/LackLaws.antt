-- Laws of the verdict: what it refuses, and what it lets pass.
use Rattle.std.specs.Prelude.{◌≡◌, ◌≢◌, ◌↔◌, ℕ, List}
use Rattle.kr_config.specs.Kept.{ConfigEntry}
use Rattle.kr_judge.specs.declared.need.Need.{Need}
use Rattle.kr_judge.specs.declared.verdict.Verdict.TheVariants.{Pass}
use Rattle.kr_judge.specs.Boards.{GenerationState, given_to}
use Rattle.kr_judge.specs.Lacks.{LacksProvider, IsNeeded, IsLiveIn, IsLiveBeside}
use Rattle.kr_judge.specs.LiveFits.{AreFit}
use Rattle.kr_judge.specs.Verdicts.{verdict_of}

-- it refuses exactly the settings after which one would lack a provider
abbrev pub RefusesExactly : Type 0
RefusesExactly = (needs : List Need) (generations : List GenerationState) (replica : ℕ)
    (rows : List ConfigEntry) → (verdict_of needs generations replica rows ≢ Pass)
    ↔ LacksProvider (IsNeeded needs) (IsLiveBeside replica generations) rows

-- where the others fit, it passes exactly where all that is live fits once the replica has them
abbrev pub PassesWhereAllFit : Type 0
PassesWhereAllFit = (needs : List Need) (generations : List GenerationState) (replica : ℕ)
    (rows : List ConfigEntry) → AreFit (IsLiveBeside replica generations) needs
    → (verdict_of needs generations replica rows ≡ Pass)
    ↔ AreFit (IsLiveIn (given_to replica rows generations)) needs
