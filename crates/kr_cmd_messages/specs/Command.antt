-- The commands that are done alone, and the words that mean them.
use Rattle.std.specs.Prelude.{◌≡◌, ℕ, List, [], codes, Option, Some, None, if◌then◌else◌}
use Rattle.std.specs.Str.{bytes_eq}
use Rattle.kr_words.specs.Grammar.{Means, HasFewReplicas, HasManyReplicas, IsAboveSize}
use Rattle.kr_words.specs.Grammar.{IsAbovePage, IsWithinPage, IsWithinSize}
use Rattle.std.specs.Str.Parse.{digits_value}
use Rattle.kr_words.specs.Options.{value_of, values_of}
use Rattle.kr_words.specs.Rules.{before_equals, after_equals}
use Rattle.kr_words.specs.declared.command.Verb.{Verb}
use Rattle.kr_words.specs.declared.command.Verb.TheVariants as verbs
use Rattle.kr_cmd_messages.specs.declared.command.Command.TheVariants.{Verify}
use Rattle.kr_cmd_messages.specs.declared.command.Command.{Command}
use Rattle.kr_cmd_messages.specs.declared.command.Command.TheVariants.{Convert, Check, Inspect, Put, Get, Migrate, Rows, Judge, Plan, Rewrite}
use Rattle.kr_cmd_messages.specs.declared.command.ShownSettings.{ShownSettings}
use Rattle.kr_cmd_messages.specs.declared.command.ShownSettings.TheVariants.{Wide, Turned}
use Rattle.kr_cmd_messages.specs.declared.command.Direction.{Direction}
use Rattle.kr_cmd_messages.specs.declared.command.Direction.TheVariants.{Encrypt, Decrypt}
use Rattle.kr_cmd_messages.specs.declared.refusal.BadWords.{BadWords}
use Rattle.kr_cmd_messages.specs.declared.refusal.BadWords.TheVariants.{Usage, Replicas, Size, Page}

-- a command of an object wants three of the options; more of them name programs
abbrev pub conversion_command : Direction → (options : List (List ℕ × List ℕ))
    → (config resource path : Option (List ℕ)) → Option Command
conversion_command direction options None resource path = None
conversion_command direction options (Some config) None path = None
conversion_command direction options (Some config) (Some resource) None = None
conversion_command direction options (Some config) (Some resource) (Some path) =
    Some (Convert (record {
      direction = direction;
      config = config;
      resource = resource;
      path = path;
      options = options;
    }))

abbrev pub check_command : (config resource : Option (List ℕ)) → Option Command
check_command None resource = None
check_command (Some config) resource = Some (Check config resource)

abbrev pub put_command : (options : List (List ℕ × List ℕ))
    → (config store resource path : Option (List ℕ)) → Option Command
put_command options None store resource path = None
put_command options (Some config) None resource path = None
put_command options (Some config) (Some store) None path = None
put_command options (Some config) (Some store) (Some resource) None = None
put_command options (Some config) (Some store) (Some resource) (Some path) =
    Some (Put (record {
      direction = Encrypt;
      config = config;
      resource = resource;
      path = path;
      options = options;
    }) store)

abbrev pub lookup_command : (options : List (List ℕ × List ℕ))
    → (config store path : Option (List ℕ))
    → Option Command
lookup_command options None store path = None
lookup_command options (Some config) None path = None
lookup_command options (Some config) (Some store) None = None
lookup_command options (Some config) (Some store) (Some path) =
    Some (Get (record { config = config; store = store; path = path; options = options }))

abbrev pub verification_command : (options : List (List ℕ × List ℕ))
    → (config store : Option (List ℕ)) → Option Command
verification_command options None store = None
verification_command options (Some config) None = None
verification_command options (Some config) (Some store) =
    Some (Verify (record { config = config; store = store; options = options }))

-- a store isn't migrated into itself
abbrev pub migration_command : (config store to : Option (List ℕ)) → Option Command
migration_command None store to = None
migration_command (Some config) None to = None
migration_command (Some config) (Some store) None = None
migration_command (Some config) (Some store) (Some to) = if bytes_eq store to then None
    else Some (Migrate (record { config = config; store = store; to = to }))

abbrev pub listing_command : (store : Option (List ℕ)) → Option Command
listing_command None = None
listing_command (Some store) = Some (Rows store)

-- ---- judge

-- the files of the replicas
abbrev pub replica_names : (options : List (List ℕ × List ℕ)) → List (List ℕ)
replica_names options = values_of options (codes "replica")

-- the replica that is to be reloaded, and its new file: `N=FILE`
abbrev pub reload_in : (options : List (List ℕ × List ℕ)) → Option (List ℕ)
reload_in options = value_of options (codes "reload")

abbrev pub reload_number : (reload : Option (List ℕ)) → ℕ
reload_number None = 0
reload_number (Some reload) = digits_value 10 (before_equals reload)

abbrev pub reload_file : (reload : Option (List ℕ)) → List ℕ
reload_file None = []
reload_file (Some reload) = after_equals reload

abbrev pub judgement_command : (options : List (List ℕ × List ℕ)) → (store : Option (List ℕ))
    → Option Command
judgement_command options None = None
judgement_command options (Some store) = Some (Judge (record { store = store; options = options }))

-- ---- plan

-- its settings that are named are shown in place of the moves
abbrev pub shown_word : List ℕ → ShownSettings
shown_word text = if bytes_eq text (codes "wide") then Wide else Turned

abbrev pub shown_option : (show : Option (List ℕ)) → Option ShownSettings
shown_option None = None
shown_option (Some text) = Some (shown_word text)

abbrev pub planning_command : (from to replicas show : Option (List ℕ)) → Option Command
planning_command None to replicas show = None
planning_command (Some from) None replicas show = None
planning_command (Some from) (Some to) None show = None
planning_command (Some from) (Some to) (Some replicas) show = Some (Plan (record {
  from = from;
  to = to;
  replicas = digits_value 10 replicas;
  shown = shown_option show;
}))

abbrev pub rewriting_command : (options : List (List ℕ × List ℕ)) → (config store : Option (List ℕ))
    → Option Command
rewriting_command options None store = None
rewriting_command options (Some config) None = None
rewriting_command options (Some config) (Some store) =
    Some (Rewrite (record { config = config; store = store; options = options }))

-- the command of a verb with its options, where it is one that is done alone
abbrev pub verb_command : Verb → List (List ℕ × List ℕ) → Option Command
verb_command verbs.Encrypt options =
    conversion_command Encrypt options (value_of options (codes "config"))
    (value_of options (codes "resource")) (value_of options (codes "path"))
verb_command verbs.Decrypt options =
    conversion_command Decrypt options (value_of options (codes "config"))
    (value_of options (codes "resource")) (value_of options (codes "path"))
verb_command verbs.Check options =
    check_command (value_of options (codes "config")) (value_of options (codes "resource"))
verb_command verbs.Inspect options = Some Inspect
verb_command verbs.Put options =
    put_command options (value_of options (codes "config")) (value_of options (codes "store"))
    (value_of options (codes "resource")) (value_of options (codes "path"))
verb_command verbs.Get options =
    lookup_command options (value_of options (codes "config")) (value_of options (codes "store"))
    (value_of options (codes "path"))
verb_command verbs.Verify options =
    verification_command options (value_of options (codes "config"))
    (value_of options (codes "store"))
verb_command verbs.Migrate options =
    migration_command (value_of options (codes "config")) (value_of options (codes "store"))
    (value_of options (codes "to"))
verb_command verbs.Rows options = listing_command (value_of options (codes "store"))
verb_command verbs.Judge options = judgement_command options (value_of options (codes "store"))
verb_command verbs.Plan options =
    planning_command (value_of options (codes "from")) (value_of options (codes "to"))
    (value_of options (codes "replicas")) (value_of options (codes "show"))
verb_command verbs.Rewrite options =
    rewriting_command options (value_of options (codes "config")) (value_of options (codes "store"))
verb_command other options = None

-- the words mean the command, and no limit of the command line is passed
pub record Asks (words : List (List ℕ)) (command : Command) : Type 0 where
  pub verb : Verb
  pub options : List (List ℕ × List ℕ)
  pub means : Means words verb options
  pub few : HasFewReplicas options
  pub small : IsWithinSize options
  pub page : IsWithinPage options
  pub is : verb_command verb options ≡ Some command

-- the words mean no command that is done alone: none at all, a fleet, a watch or a load, which
-- `FleetAsked`, `WatchAsked` and `LoadAsked` have, or a migration of a store to itself. A size that
-- is too large is a limit, and so are pages of too many items
abbrev pub AskNothing : List (List ℕ) → Type 0
AskNothing words = (verb : Verb) (options : List (List ℕ × List ℕ)) → Means words verb options
    → (verb_command verb options ≡ None) × (IsAboveSize options → ⊥) × (IsAbovePage options → ⊥)

-- the words mean a command that has too many replicas
abbrev pub AskReplicas : List (List ℕ) → Type 0
AskReplicas words = (verb : Verb) × (options : List (List ℕ × List ℕ)) × Means words verb options
    × HasManyReplicas options

-- the words mean a command whose size is too large
abbrev pub AskSize : List (List ℕ) → Type 0
AskSize words = (verb : Verb) × (options : List (List ℕ × List ℕ)) × Means words verb options
    × HasFewReplicas options × IsAboveSize options

-- the words mean a command whose pages have too many items
abbrev pub AskPage : List (List ℕ) → Type 0
AskPage words = (verb : Verb) × (options : List (List ℕ × List ℕ)) × Means words verb options
    × HasFewReplicas options × IsWithinSize options × IsAbovePage options

-- the words stop so before anything is done
abbrev pub AskBadly : BadWords → List (List ℕ) → Type 0
AskBadly Usage words = AskNothing words
AskBadly Replicas words = AskReplicas words
AskBadly Size words = AskSize words
AskBadly Page words = AskPage words
