-- By how much the count of faults of configurations rises at one that is read.
use Rattle.std.proofs.Common.{◌≡◌, ℕ, List, Result, Ok, Err, refl, ◌∙◌, ap}
use Rattle.std.specs.Prelude.{Bool, false}
use Rattle.kr_base.specs.Faults.{counted, tells_fault}
use Rattle.kr_config.specs.declared.settings.Settings.{Settings}
use Rattle.kr_cmd_steps.specs.inner.Counting.{is_fault}
use Rattle.kr_cmd_steps.specs.inner.Phases.{ReadsRows}
use Rattle.kr_cmd_messages.specs.declared.refusal.Stop.{Stop}
use Rattle.kr_cmd_messages.specs.declared.refusal.Stop.TheVariants.{Words, Refused, Fault, NoMemory}

-- bytes that are read tell no fault
calm : (bytes : List ℕ) (result : Result Settings Stop) → ReadsRows bytes result
    → false ≡ tells_fault is_fault result
calm bytes (Ok settings) r = refl
calm bytes (Err (Words why)) r = refl
calm bytes (Err (Refused why)) r = refl
calm bytes (Err (Fault object count)) r = absurd r
calm bytes (Err NoMemory) r = refl

pub read_counted : (before now : ℕ) (bytes : List ℕ) (result : Result Settings Stop)
    → now ≡ before → ReadsRows bytes result → now ≡ counted (tells_fault is_fault result) before
read_counted before now bytes result same r =
    same ∙ ap (λ failed. counted failed before) (calm bytes result r)
