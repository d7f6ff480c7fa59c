-- The words that ask for a fleet.
use Rattle.std.specs.Prelude.{◌≡◌, ℕ, List, codes, Some}
use Rattle.kr_words.specs.Grammar.{HasFewReplicas, IsWithinPage, IsWithinSize, Means}
use Rattle.kr_words.specs.Options.{value_of}
use Rattle.kr_words.specs.declared.command.Verb.TheVariants as verbs
use Rattle.kr_cmd_messages.specs.LoadAsked.{AskNoLoad}
use Rattle.kr_cmd_messages.specs.WatchAsked.{AskNoWatch}
use Rattle.kr_cmd_messages.specs.declared.fleet_words.FleetWords.{FleetWords}

-- the words are those of `fleet`; its options name the fleet file and the store
pub record AsksFleet (words : List (List ℕ)) (asked : FleetWords) : Type 0 where
  pub means : Means words verbs.Fleet asked.options
  pub few : HasFewReplicas asked.options
  pub small : IsWithinSize asked.options
  pub page : IsWithinPage asked.options
  pub file : value_of asked.options (codes "file") ≡ Some asked.file
  pub store : value_of asked.options (codes "store") ≡ Some asked.store

abbrev pub AskNoFleet : List (List ℕ) → Type 0
AskNoFleet words = (asked : FleetWords) → AsksFleet words asked → ⊥

-- they ask for no fleet, no load and no watch, so nothing waits
abbrev pub AskAlone : List (List ℕ) → Type 0
AskAlone words = AskNoFleet words × AskNoLoad words × AskNoWatch words
