-- The rules for the options of a command.
use Rattle.std.specs.Prelude.{◌≡◌, ◌≢◌, ℕ, ◌≤◌, ◌<◌, ◌⊎◌, ◌==◌, List, [], length, Contains, All}
use Rattle.std.specs.Prelude.{AllPairs, codes, ⊤}
use Rattle.std.specs.List.{before_first, after_first}
use Rattle.kr_base.specs.Rules.{IsName, IsPath, IsResource}
use Rattle.kr_words.specs.declared.command.Verb.{Verb}
use Rattle.kr_words.specs.declared.command.Verb.TheVariants.{Encrypt, Decrypt}
use Rattle.kr_words.specs.declared.name.OptionName.{OptionName}
use Rattle.kr_words.specs.declared.name.OptionName.TheVariants.{Config, Resource, Path, Plugin}
use Rattle.kr_words.specs.declared.name.OptionName.TheVariants.{Store, Replica, Reload, File, Seed}
use Rattle.kr_words.specs.declared.name.OptionName.TheVariants.{Size, To, From, Replicas, Show}
use Rattle.kr_words.specs.declared.name.OptionName.TheVariants.{Limit, Since}
use Rattle.kr_words.specs.Names.{option_text, required_options, optional, IsRepeatable}
use Rattle.kr_words.specs.Options.{count_options}
use Rattle.kr_words.specs.Numerals.{IsDecimal}

-- a text is parted at its first `=`
abbrev pub before_equals : List ℕ → List ℕ
before_equals text = before_first (λ byte. byte == 0x3D) text

abbrev pub after_equals : List ℕ → List ℕ
after_equals text = after_first (λ byte. byte == 0x3D) text

-- `NAME=PROGRAM`: a name by its rule, and a program that isn't empty
abbrev pub IsPlugin : List ℕ → Type 0
IsPlugin value =
    Contains value 0x3D × IsName (before_equals value) × (1 ≤ length (after_equals value))

-- `N=FILE`: the replica at N, counted from 0, reads the file
abbrev pub IsReloadOption : ℕ → List ℕ → Type 0
IsReloadOption replicas value =
    Contains value 0x3D × (n : ℕ) × IsDecimal (before_equals value) n × (n < replicas)

-- the settings of a plan that may be shown
abbrev pub MayBeShown : List ℕ → Type 0
MayBeShown value = (value ≡ codes "wide") ⊎ (value ≡ codes "turned")

-- the path of a value that stands in no store may be empty
abbrev pub MayHaveEmptyPath : Verb → Type 0
MayHaveEmptyPath verb = (verb ≡ Encrypt) ⊎ (verb ≡ Decrypt)

-- the values that an option may have, in a command with so many replicas
abbrev pub IsOptionValue : Verb → ℕ → OptionName → List ℕ → Type 0
IsOptionValue verb replicas Config value = ⊤
IsOptionValue verb replicas Resource value = IsResource value
IsOptionValue verb replicas Path value = IsPath value ⊎ (MayHaveEmptyPath verb × (value ≡ []))
IsOptionValue verb replicas Plugin value = IsPlugin value
IsOptionValue verb replicas Store value = ⊤
IsOptionValue verb replicas Replica value = ⊤
IsOptionValue verb replicas Reload value = IsReloadOption replicas value
IsOptionValue verb replicas File value = ⊤
IsOptionValue verb replicas Seed value = (n : ℕ) × IsDecimal value n × (n ≤ 18446744073709551615)
IsOptionValue verb replicas Size value = (n : ℕ) × IsDecimal value n × (1 ≤ n)
IsOptionValue verb replicas To value = ⊤
IsOptionValue verb replicas From value = ⊤
IsOptionValue verb replicas Replicas value = (n : ℕ) × IsDecimal value n × (1 ≤ n)
IsOptionValue verb replicas Show value = MayBeShown value
IsOptionValue verb replicas Limit value = (n : ℕ) × IsDecimal value n × (1 ≤ n)
IsOptionValue verb replicas Since value = (n : ℕ) × IsDecimal value n × (n ≤ 18446744073709551615)

-- an option of the command, with a value that it may have
abbrev pub IsOption : Verb → ℕ → List ℕ × List ℕ → Type 0
IsOption verb replicas option =
    (name : OptionName) × (option.0 ≡ option_text name)
    × (Contains (required_options verb) name ⊎ Contains (optional verb) name)
    × IsOptionValue verb replicas name option.1

-- two plugins have two names
abbrev pub HaveTwoNames : List ℕ × List ℕ → List ℕ × List ℕ → Type 0
HaveTwoNames a b =
    a.0 ≡ option_text Plugin → b.0 ≡ option_text Plugin → before_equals a.1 ≢ before_equals b.1

-- The options make the command: each is one of the command's with a value that it may have, none
-- that it must have is missing, only plugins and replicas repeat, and no two plugins have one name.
pub record IsCommand (verb : Verb) (options : List (List ℕ × List ℕ)) : Type 0 where
  pub each : All (IsOption verb (count_options options (option_text Replica))) options
  pub whole : All (λ name. 1 ≤ count_options options (option_text name)) (required_options verb)
  pub once : (name : OptionName) → IsRepeatable name
      ⊎ (count_options options (option_text name) ≤ 1)
  pub plugins : AllPairs HaveTwoNames options
