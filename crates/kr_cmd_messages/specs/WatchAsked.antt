-- The words that ask for a watch.
use Rattle.std.specs.Prelude.{◌≡◌, ℕ, List, codes, Option, None, Some}
use Rattle.kr_words.specs.Arguments.{IsNumberAt}
use Rattle.kr_words.specs.Grammar.{HasFewReplicas, IsWithinPage, IsWithinSize, Means}
use Rattle.kr_words.specs.Options.{value_of}
use Rattle.kr_words.specs.declared.command.Verb.TheVariants as verbs
use Rattle.kr_cmd_messages.specs.declared.watch_words.WatchWords.{WatchWords}

-- changes since this revision are asked for, or none
abbrev pub IsSince : List (List ℕ × List ℕ) → Option ℕ → Type 0
IsSince options None = value_of options (codes "since") ≡ None
IsSince options (Some revision) = IsNumberAt options (codes "since") revision

-- the words are those of `watch`; its options name the fleet file and the store, and say what is to
-- be shown
pub record AsksWatch (words : List (List ℕ)) (asked : WatchWords) : Type 0 where
  pub means : Means words verbs.Watch asked.fleet.options
  pub few : HasFewReplicas asked.fleet.options
  pub small : IsWithinSize asked.fleet.options
  pub page : IsWithinPage asked.fleet.options
  pub file : value_of asked.fleet.options (codes "file") ≡ Some asked.fleet.file
  pub store : value_of asked.fleet.options (codes "store") ≡ Some asked.fleet.store
  pub resource : value_of asked.fleet.options (codes "resource") ≡ Some asked.resource
  pub limit : IsNumberAt asked.fleet.options (codes "limit") asked.limit
  pub since : IsSince asked.fleet.options asked.since

abbrev pub AskNoWatch : List (List ℕ) → Type 0
AskNoWatch words = (asked : WatchWords) → AsksWatch words asked → ⊥
