-- No fault is hidden: what failed while a line was done, its reply names, and it failed once.
use Rattle.std.specs.Prelude.{◌≡◌, ℕ, true, false, List, [], ◌∷◌, ◌++◌, All, Option}
use Rattle.kr_base.specs.Faults.{counted}
use Rattle.kr_kms.specs.Calls.{Link}
use Rattle.kr_kms.specs.Exchanges.{Exchange, asked_name, is_fault}
use Rattle.kr_script.specs.declared.told.Told.{Told}
use Rattle.kr_script.specs.declared.told.Told.TheVariants as told
use Rattle.kr_workers.specs.declared.files.SettingsFile.{SettingsFile}
use Rattle.kr_workers.specs.Causes.{names_dice}
use Rattle.kr_workers.specs.Runs.{IsDone, LineDone}
use Rattle.kr_workers.specs.ScriptLines.{Workplace}

-- no plugin failed
abbrev pub AreCalm : List Exchange → Type 0
AreCalm exchanges = All (λ exchange. is_fault exchange ≡ false) exchanges

-- the plugin of this name failed, at the last exchange, and none before
abbrev pub EndInFault : (name : List ℕ) → List Exchange → Type 0
EndInFault name exchanges = (front : List Exchange) × (last : Exchange)
    × (exchanges ≡ front ++ last ∷ []) × AreCalm front × (asked_name last ≡ name)
    × (is_fault last ≡ true)

-- a plugin failed where the reply names it, and else none
abbrev pub TellsPlugins : Told → List Exchange → Type 0
TellsPlugins (told.FaultPlugin name) exchanges = EndInFault name exchanges
TellsPlugins reply exchanges = AreCalm exchanges

-- so it is of each line that was done; and the count of the seat's random source rose by one where
-- the reply names that, and else not at all. Behind a fault the line drew and asked nothing more
abbrev pub LinesTellFaults : {L D : Type 0} → (L → Link) → (L → Exchange → L → Type 0)
    → (D → Option (List ℕ)) → (D → ℕ) → List SettingsFile → Type 0
LinesTellFaults {L} {D} link step left count files = (replica : ℕ) (old new : Workplace L D)
    (done : LineDone) → IsDone link step left count files replica old done new
    → (count new.dice ≡ counted (names_dice done.reply) (count old.dice))
    × TellsPlugins done.reply done.exchanges
