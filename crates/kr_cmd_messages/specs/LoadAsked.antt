-- The words that ask for a generated load.
use Rattle.std.specs.Prelude.{◌≡◌, ℕ, List, codes, Some}
use Rattle.kr_words.specs.Arguments.{IsNumberAt}
use Rattle.kr_words.specs.Grammar.{HasFewReplicas, IsWithinPage, IsWithinSize, Means}
use Rattle.kr_words.specs.Options.{value_of}
use Rattle.kr_words.specs.declared.command.Verb.TheVariants as verbs
use Rattle.kr_cmd_messages.specs.declared.load_words.LoadWords.{LoadWords}

-- the words are those of `gen`; its options have the seed, the size and the store's name
pub record AsksLoad (words : List (List ℕ)) (asked : LoadWords) : Type 0 where
  pub options : List (List ℕ × List ℕ)
  pub means : Means words verbs.Gen options
  pub few : HasFewReplicas options
  pub small : IsWithinSize options
  pub page : IsWithinPage options
  pub seed : IsNumberAt options (codes "seed") asked.seed
  pub size : IsNumberAt options (codes "size") asked.size
  pub store : value_of options (codes "store") ≡ Some asked.store

abbrev pub AskNoLoad : List (List ℕ) → Type 0
AskNoLoad words = (asked : LoadWords) → AsksLoad words asked → ⊥
