-- What follows from the relation of a load.
use Rattle.std.specs.Prelude.{ℕ, ◌≤◌}
use Rattle.kr_kms.specs.Calls.{Link}
use Rattle.kr_kms.specs.Exchanges.{Exchange}
use Rattle.kr_cmd_steps.specs.Environment.{Environment}
use Rattle.kr_cmd_gen.specs.GeneratedLoads.{RanLoad}
use Rattle.kr_cmd_gen.specs.LoadHeadlines.{LoadHeadline}
use Rattle.kr_cmd_gen.specs.LoadReadings.{LoadReadings}
use Rattle.kr_cmd_messages.specs.Receipts.{Receipt}
use Rattle.kr_cmd_messages.specs.declared.load_words.LoadWords.{LoadWords}

-- the size of a load is within its limit
abbrev pub LoadsAreRead : (T : Type 0) → {L : Type 0} → (L → Link)
    → (L → Exchange → L → Type 0) → Type 0
LoadsAreRead T link step = (words : LoadWords) (old new : Environment)
    (output errors : Receipt) (status : ℕ) → words.size ≤ 10000
    → RanLoad T link step words old new output errors status
    → LoadReadings T link step words old new output errors status

abbrev pub LoadsHaveHeadlines : (T : Type 0) → {L : Type 0} → (L → Link)
    → (L → Exchange → L → Type 0) → Type 0
LoadsHaveHeadlines T link step = (words : LoadWords) (old new : Environment)
    (output errors : Receipt) (status : ℕ)
    → RanLoad T link step words old new output errors status
    → LoadHeadline T link step words old new output errors status
