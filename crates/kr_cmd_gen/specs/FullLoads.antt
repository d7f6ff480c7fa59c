-- What a load keeps of its puts, and how one over a store without rows ends where no count rises.
use Rattle.std.specs.Prelude.{◌≡◌, ℕ, ◌⊎◌, List, [], Result}
use Rattle.std.specs.Io.KnownBytes.{Appends}
use Rattle.kr_kms.specs.Calls.{Link}
use Rattle.kr_kms.specs.Exchanges.{Exchange}
use Rattle.kr_workload.specs.FullLoads.{IsFull}
use Rattle.kr_workload.specs.KeptPuts.{HasRow}
use Rattle.kr_workload.specs.Loads.{put_of}
use Rattle.kr_workload.specs.Streams.{StreamState}
use Rattle.kr_rollout.specs.Histories.{state_of}
use Rattle.kr_script.specs.declared.told.Told.TheVariants as told
use Rattle.kr_workers.specs.Sentences.{Replies}
use Rattle.kr_workers.specs.declared.ending.Ending.{Ending}
use Rattle.kr_cmd_steps.specs.Environment.{Environment}
use Rattle.kr_cmd_fleet.specs.FleetReady.{TellsStore}
use Rattle.kr_cmd_fleet.specs.Fleets.{opening_of}
use Rattle.kr_cmd_gen.specs.GeneratedLoads.{StartsLoad}
use Rattle.kr_cmd_steps.specs.Ran.{WroteNothing}
use Rattle.kr_cmd_messages.specs.Receipts.{Receipt}
use Rattle.kr_cmd_steps.specs.StoreFiles.{Stored}
use Rattle.kr_cmd_messages.specs.declared.load_words.LoadWords.{LoadWords}
use Rattle.kr_cmd_messages.specs.declared.refusal.Stop.{Stop}

-- the store's tape is told, and holds no rows, or is absent
abbrev pub IsBlank : LoadWords → Environment → Type 0
IsBlank words old =
    (stored : Stored) × TellsStore old words.store stored × (stored.rows ≡ [])

-- each object was put and got, and just the summary was written, which the seed and the size alone
-- decide; or memory lacked
abbrev pub IsFullLoad : LoadWords → (output errors : Receipt) → ℕ → Type 0
IsFullLoad words output errors status = ((status ≡ 0) × WroteNothing errors
    × (text : List ℕ) × IsFull words.seed words.size text × Appends output.old output.new text)
    ⊎ (status ≡ 5)

-- each put that a worker replied to be done has its row behind the workers, a sealing of its data
abbrev pub KeepsPuts : (T : Type 0) → {L : Type 0} → (link : L → Link)
    (step : L → Exchange → L → Type 0)
    → (words : LoadWords) → (sources : List StreamState) → (old new : Environment)
    → (output : Receipt) → (result : Result Ending Stop)
    → StartsLoad T link step words sources old new output result → Type 0
KeepsPuts T link step words sources old new output result s = (worker at number revision : ℕ)
    → Replies s.runs.parts s.ended worker at (put_of words.seed words.size worker number)
    (told.Put revision)
    → HasRow words.seed words.size
    (state_of (opening_of words.store s.begun s.mid) s.history).rows worker number revision
