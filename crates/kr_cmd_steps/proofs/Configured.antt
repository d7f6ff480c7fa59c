-- A command goes on from its configuration and the programs of its plugins.
use Rattle.std.proofs.Common.{◌≡◌, ℕ, List, [], Option, Result, Ok, Err, inl, inr, ap}
use Rattle.kr_config.specs.Kept.{ConfigEntry, rows_of}
use Rattle.kr_config.specs.declared.settings.Settings.{Settings}
use Rattle.kr_kms.specs.Calls.{Link}
use Rattle.kr_kms.specs.Exchanges.{Exchange}
use Rattle.kr_kms.specs.Outside.{Outside}
use Rattle.kr_cmd_steps.specs.Environment.{Environment, with_exchanges, with_world}
use Rattle.kr_cmd_steps.specs.Heard.{Heard}
use Rattle.kr_cmd_steps.specs.Phases.{configuration, input_of, linking_programs}
use Rattle.kr_cmd_steps.specs.Steps.{Steps, and_then}
use Rattle.kr_cmd_steps.specs.declared.programs.Program.{Program}
use Rattle.kr_cmd_steps.specs.inner.Lent.{with_told_input}
use Rattle.kr_cmd_steps.specs.inner.Phases.{Does, HasPrograms}
use Rattle.kr_cmd_messages.specs.declared.command.Direction.{Direction}
use Rattle.kr_cmd_messages.specs.declared.refusal.Outcome.{Outcome}
use Rattle.kr_cmd_messages.specs.declared.refusal.Stop.{Stop}
use Rattle.kr_cmd_steps.proofs.RunTo.{goes_on, stops}
use Rattle.kr_cmd_steps.proofs.HeardLinks.{nothing_does}
use Rattle.kr_cmd_steps.proofs.Links.{LinksOf}

module _ (name : List ℕ) (options : List (List ℕ × List ℕ)) (old new : Outside)
    (next : List ConfigEntry → List Program → Steps Outcome) where
  abbrev with_rows : List ConfigEntry → Steps Outcome
  with_rows rows = and_then (linking_programs options rows) (next rows)

  -- they are there, and these steps do the rest
  pub configured : (settings : Settings) (programs : List Program)
      → HasPrograms old new name options (Ok (settings, programs)) → (a : Environment)
      → {behind : Environment} {result : Result Outcome Stop}
      → Does (next (rows_of settings.entries.0) programs) (with_world new a) behind result
      → Does (and_then (configuration name) with_rows) (with_world old a) behind result
  configured settings programs (is, linked) a rest =
      let rows = rows_of settings.entries.0 in
      goes_on (configuration name) with_rows rows (is a)
      (goes_on (linking_programs options rows) (next rows) programs (linked (with_world new a)) rest)

  -- one of the two isn't there
  pub unconfigured : (stop : Stop) → HasPrograms old new name options (Err stop) → (a : Environment)
      → Does (and_then (configuration name) with_rows) (with_world old a) (with_world new a)
      (Err stop)
  unconfigured stop (inl is) a = stops (configuration name) with_rows stop (is a)
  unconfigured stop (inr (rows, is, lacks)) a =
      goes_on (configuration name) with_rows rows (is a)
      (stops (linking_programs options rows) (next rows) stop (lacks (with_world new a)))

  -- and no link was lent
  pub unconfigured_heard : {L : Type 0} (link : L → Link) (lent took : ℕ → L → Type 0)
      (step : L → Exchange → L → Type 0) → new.links ≡ old.links → (stop : Stop)
      → HasPrograms old new name options (Err stop)
      → Heard link lent took step 0 old new [] [] (λ es. (a : Environment)
      → Does (and_then (configuration name) with_rows) (with_world old a)
      (with_world new (with_exchanges es a)) (Err stop))
  unconfigured_heard link lent took step links stop has = nothing_does link lent took step 0
      (ap (λ (o : LinksOf). o.handed) links) [] (λ a. with_world old a) (λ a. with_world new a)
      (unconfigured stop has)

-- ---- then the input is taken

module _ (name : List ℕ) (options : List (List ℕ × List ℕ)) (old new : Outside)
    (direction : Direction) (next : List ConfigEntry → List Program → List ℕ → Steps Outcome)
    (left : Option (List ℕ)) (count : ℕ) where
  abbrev with_input : List ConfigEntry → List Program → Steps Outcome
  with_input rows programs = and_then (input_of direction) (next rows programs)

  abbrev from_input : List ConfigEntry → Steps Outcome
  from_input rows = and_then (linking_programs options rows) (with_input rows)

  -- it was taken so far
  abbrev Takes : Option (List ℕ) → ℕ → Result (List ℕ) Stop → Type 0
  Takes left' count' result = (a : Environment) → Does (input_of direction)
      (with_told_input left count a) (with_told_input left' count' a) result

  -- it is there, and these steps do the rest
  pub fed : (settings : Settings) (programs : List Program) (bytes : List ℕ)
      {left' : Option (List ℕ)} {count' : ℕ}
      → HasPrograms old new name options (Ok (settings, programs)) → Takes left' count' (Ok bytes)
      → (a : Environment) → {behind : Environment} {result : Result Outcome Stop}
      → Does (next (rows_of settings.entries.0) programs bytes)
      (with_world new (with_told_input left' count' a)) behind result
      → Does (and_then (configuration name) from_input)
      (with_told_input left count (with_world old a)) behind result
  fed settings programs bytes has takes a rest =
      configured name options old new with_input settings programs has (with_told_input left count a)
      (goes_on (input_of direction) (next (rows_of settings.entries.0) programs) bytes
      (takes (with_world new a)) rest)

  module _ {L : Type 0} (link : L → Link) (lent took : ℕ → L → Type 0)
      (step : L → Exchange → L → Type 0) (links : new.links ≡ old.links) (stop : Stop) where
    -- from there to here nothing was asked of a link
    abbrev EndsAt : Option (List ℕ) → ℕ → Type 0
    EndsAt left' count' = Heard link lent took step 0 old new [] [] (λ es. (a : Environment)
        → Does (and_then (configuration name) from_input)
        (with_told_input left count (with_world old a))
        (with_told_input left' count' (with_world new (with_exchanges es a))) (Err stop))

    pub unconfigured_input : HasPrograms old new name options (Err stop) → EndsAt left count
    unconfigured_input has = nothing_does link lent took step 0
        (ap (λ (o : LinksOf). o.handed) links) []
        (λ a. with_told_input left count (with_world old a))
        (λ a. with_told_input left count (with_world new a))
        (λ a. unconfigured name options old new with_input stop has (with_told_input left count a))

    pub unfed : (settings : Settings) (programs : List Program)
        → HasPrograms old new name options (Ok (settings, programs)) → (left' : Option (List ℕ))
        (count' : ℕ) → Takes left' count' (Err stop) → EndsAt left' count'
    unfed settings programs has left' count' takes = nothing_does link lent took step 0
        (ap (λ (o : LinksOf). o.handed) links) []
        (λ a. with_told_input left count (with_world old a))
        (λ a. with_told_input left' count' (with_world new a))
        (λ a. configured name options old new with_input settings programs has (with_told_input left count a)
        (stops (input_of direction) (next (rows_of settings.entries.0) programs) stop
        (takes (with_world new a))))
