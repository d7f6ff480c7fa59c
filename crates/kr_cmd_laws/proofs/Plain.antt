-- Steps that read files, tapes and the input alone. So they write no tape (`ReadOnly`), ask no plugin
-- (`OnlyAsks`), and what they find is one thing (`GoAlike`): for a command of such steps this is the
-- one proof.
use Rattle.std.proofs.Common.{◌≡◌, ℕ, List, [], ◌∷◌, ◌++◌, Option, Some, Result, Ok, Err, refl, sym, ◌∙◌, ap}
use Rattle.kr_config.specs.Kept.{ConfigEntry}
use Rattle.kr_kms.specs.declared.world.Access.{Access}
use Rattle.kr_kms.specs.declared.world.Access.TheVariants.{ToRead}
use Rattle.kr_store.specs.declared.rows.LogRow.{LogRow}
use Rattle.kr_cmd_messages.specs.Command.{reload_file, reload_in, reload_number, replica_names}
use Rattle.kr_cmd_messages.specs.declared.command.Command.{Command}
use Rattle.kr_cmd_messages.specs.declared.command.Command.TheVariants.{Check, Convert, Get, Inspect, Judge, Migrate, Plan, Put, Rewrite, Rows, Verify}
use Rattle.kr_cmd_messages.specs.declared.refusal.Object.{Object}
use Rattle.kr_cmd_messages.specs.declared.refusal.Object.TheVariants.{Store}
use Rattle.kr_cmd_messages.specs.declared.refusal.Refusal.{Refusal}
use Rattle.kr_cmd_steps.proofs.OneVerdict.{one_judged}
use Rattle.kr_cmd_steps.specs.Check.{listing}
use Rattle.kr_cmd_steps.specs.Commands.{steps}
use Rattle.kr_cmd_steps.specs.Configuration.{IsConfiguration}
use Rattle.kr_cmd_steps.specs.Inspect.{Inspects}
use Rattle.kr_cmd_steps.specs.Judgements.{IsJudged}
use Rattle.kr_cmd_steps.specs.Phases.{by_result, configuration, show, silently, stored_on, with_memory}
use Rattle.kr_cmd_steps.specs.PlanLines.{ShowsPlan}
use Rattle.kr_cmd_steps.specs.RowLines.{ShowsRows}
use Rattle.kr_cmd_steps.specs.Steps.{Steps, load, take_input, borrow_tape, read_tape, give_back, find, refuse, give, and_then}
use Rattle.kr_cmd_steps.specs.StoreFiles.{IsStored}
use Rattle.kr_cmd_steps.specs.StoreSteps.{configurations, judgement_on, judging_at, judging_by, telling}
use Rattle.kr_cmd_laws.proofs.Listed.{one_shown, one_stored}
use Rattle.kr_cmd_laws.proofs.Once.{one_configuration, one_inspection}
use Rattle.kr_cmd_laws.proofs.Planned.{one_plan}

-- the tape is only read
abbrev pub IsRead : Access → Type 1
IsRead ToRead = Unit {1}
IsRead access = Unit {1} → ⊥

abbrev pub IsPlain : {A : Type 0} → Steps A → Type 1
IsPlain (load name next) = (bytes : Option (List ℕ)) → IsPlain (next bytes)
IsPlain (take_input limit long next) = (bytes : List ℕ) → IsPlain (next bytes)
IsPlain (borrow_tape name access absent next) = IsRead access × IsPlain next
IsPlain (read_tape object name next) = (bytes : List ℕ) → IsPlain (next bytes)
IsPlain (give_back name next) = IsPlain next
IsPlain (find B P next) =
    ((b c : B) → P b → P c → next b ≡ next c) × ((b : B) → IsPlain (next b))
IsPlain (refuse why) = Unit {1}
IsPlain (give x) = Unit {1}
IsPlain next = Unit {1} → ⊥

-- ---- one behind another, and phases

plain_then : {A B : Type 0} (others : A → Steps B) → ((x : A) → IsPlain (others x))
    → (first : Steps A) → IsPlain first → IsPlain (and_then first others)
plain_then others on (load name next) p = λ bytes. plain_then others on (next bytes) (p bytes)
plain_then others on (take_input limit long next) p =
    λ bytes. plain_then others on (next bytes) (p bytes)
plain_then others on (borrow_tape name access absent next) p =
    (p.0, plain_then others on next p.1)
plain_then others on (read_tape object name next) p =
    λ bytes. plain_then others on (next bytes) (p bytes)
plain_then others on (give_back name next) p = plain_then others on next p
plain_then others on (find D P next) p = (
  λ b c x y. ap (λ s. and_then s others) (p.0 b c x y),
  λ b. plain_then others on (next b) (p.1 b),
)
plain_then others on (refuse why) p = tt
plain_then others on (give x) p = on x
plain_then others on next p = absurd (p tt)

found : {A B : Type 0} (Is : B → Type 0) (next : B → Steps A)
    → ((a b : B) → Is a → Is b → a ≡ b) → ((b : B) → IsPlain (next b)) → IsPlain (find B Is next)
found Is next once on = (λ a b x y. ap next (once a b x y), on)

result : {A : Type 0} (r : Result A Refusal) → IsPlain (by_result r)
result (Ok x) = tt
result (Err why) = tt

remembered : {A : Type 0} (next : Steps A) → IsPlain next → IsPlain (with_memory next)
remembered next p = (λ a b x y. refl, λ b. p)

shown : (Is : Result (List ℕ) Refusal → Type 0)
    → ((a b : Result (List ℕ) Refusal) → Is a → Is b → a ≡ b) → IsPlain (show Is)
shown Is once = found Is (λ r. and_then (by_result r) (λ text. give (silently text))) once
    (λ r. plain_then (λ text. give (silently text)) (λ text. tt) (by_result r) (result r))

configured : (name : List ℕ) → IsPlain (configuration name)
configured name = λ bytes. found (IsConfiguration name bytes) by_result
    (one_configuration name bytes) result

stored : (object : Object) (name : List ℕ) → IsPlain (stored_on object name)
stored object name = λ bytes. found (IsStored bytes) by_result (one_stored bytes) result

loaded : (names : List (List ℕ)) (read : List (Option (List ConfigEntry)))
    → IsPlain (configurations read names)
loaded [] read = remembered (give read) tt
loaded (name ∷ names) read = plain_then (λ rows. configurations (read ++ Some rows ∷ []) names)
    (λ rows. loaded names (read ++ Some rows ∷ [])) (configuration name) (configured name)

judged : (options : List (List ℕ × List ℕ)) (held : List LogRow)
    → IsPlain (judging_by options held)
judged options held =
    let file = reload_file (reload_in options) in
    let replica = reload_number (reload_in options) in
    plain_then (λ replicas. and_then (configuration file) (judging_at held replicas replica))
    (λ replicas. plain_then (judging_at held replicas replica)
    (λ rows. plain_then telling (λ verdict. remembered _ tt) (judgement_on held replicas replica rows)
    (found (IsJudged held replicas replica rows) by_result (one_judged held replicas replica rows)
    result))
    (configuration file) (configured file))
    (configurations [] (replica_names options)) (loaded (replica_names options) [])

-- ---- commands

-- the others write a tape or ask plugins
abbrev pub ReadsAlone : Command → Type 0
ReadsAlone (Convert words) = ⊥
ReadsAlone (Put words store) = ⊥
ReadsAlone (Get words) = ⊥
ReadsAlone (Verify words) = ⊥
ReadsAlone (Migrate words) = ⊥
ReadsAlone (Rewrite words) = ⊥
ReadsAlone command = Unit {0}

pub plain : (command : Command) → ReadsAlone command → IsPlain (steps command)
plain (Check config resource) r = plain_then
    (λ rows. show (λ shown. shown ≡ Ok (listing rows resource)))
    (λ rows. shown (λ shown. shown ≡ Ok (listing rows resource)) (λ a b x y. x ∙ sym y))
    (configuration config) (configured config)
plain (Plan words) r = plain_then
    (λ from. and_then (configuration words.to) (λ to. show (ShowsPlan words from to)))
    (λ from. plain_then (λ to. show (ShowsPlan words from to))
    (λ to. shown (ShowsPlan words from to) (one_plan words from to)) (configuration words.to)
    (configured words.to)) (configuration words.from) (configured words.from)
plain Inspect r = λ bytes. shown (Inspects bytes) (one_inspection bytes)
plain (Rows store) r = (
  tt,
  plain_then (λ held. show (ShowsRows held.rows))
      (λ held. shown (ShowsRows held.rows) (one_shown held.rows)) (stored_on Store store)
      (stored Store store),
)
plain (Judge words) r = (
  tt,
  plain_then (λ held. judging_by words.options held.rows)
      (λ held. judged words.options held.rows) (stored_on Store words.store)
      (stored Store words.store),
)
plain command r = absurd r
