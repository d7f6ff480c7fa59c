-- What follows from a load's relation for readers: what its status comes from.
use Rattle.std.specs.Prelude.{ℕ, List, IsSome, Result}
use Rattle.kr_kms.specs.Calls.{Link}
use Rattle.kr_kms.specs.Exchanges.{Exchange}
use Rattle.kr_workers.specs.declared.ending.Ending.{Ending}
use Rattle.kr_workload.specs.Streams.{StreamState}
use Rattle.kr_cmd_steps.specs.Environment.{Environment}
use Rattle.kr_cmd_fleet.specs.Causes.{Causes, NoneRose}
use Rattle.kr_cmd_gen.specs.FullLoads.{IsBlank, IsFullLoad, KeepsPuts}
use Rattle.kr_cmd_gen.specs.GeneratedLoads.{StartsLoad, load_steps, with_sources, with_streams}
use Rattle.kr_cmd_messages.specs.Receipts.{Receipt}
use Rattle.kr_cmd_messages.specs.declared.load_words.LoadWords.{LoadWords}
use Rattle.kr_cmd_messages.specs.declared.refusal.Stop.{Stop}

-- the steps up to the workers go by nothing else that the world tells
abbrev pub TellsTape : LoadWords → Environment → Type 0
TellsTape words old = IsSome (old.world.tapes.told words.store)

module _ (T : Type 0) {L : Type 0} (link : L → Link)
    (step : L → Exchange → L → Type 0) (words : LoadWords)
    (old new : Environment) (output errors : Receipt) where
  abbrev pub HasStarted : List StreamState → Result Ending Stop → Type 0
  HasStarted sources result = StartsLoad T link step words sources old new output result

  pub record LoadReadings (status : ℕ) : Type 0 where
    pub sources : List StreamState
    pub causes : Causes (load_steps words) words.store (HasStarted sources)
        (with_streams words.seed old)
        (with_sources sources new) output errors (TellsTape words old) status
    -- over a store that is told to have no rows, where no count rose, all was put and got, and
    -- told; or memory lacked
    pub complete : IsBlank words old → NoneRose old new output errors
        → IsFullLoad words output errors status
    -- each put that was done has its row, a sealing of its data by a configuration of the load
    pub kept : (result : Result Ending Stop) → (s : HasStarted sources result)
        → KeepsPuts T link step words sources old new output result s
