-- The grammar of command lines: which words mean a command with its options.
use Rattle.std.specs.Prelude.{◌≡◌, ℕ, ◌≤◌, ◌<◌, ◌⊎◌, List, [], ◌∷◌, ◌++◌, codes, map, ⊤, Result, Ok}
use Rattle.std.specs.Prelude.{Err}
use Rattle.std.specs.declared.alloc.Global.{Global}
use Rattle.std.specs.declared.string.String.{String}
use Rattle.std.specs.String.{string_bytes}
use Rattle.kr_words.specs.declared.command.Verb.{Verb}
use Rattle.kr_words.specs.declared.command.CommandWords.{CommandWords}
use Rattle.kr_words.specs.declared.command.WordsNo.{WordsNo}
use Rattle.kr_words.specs.declared.command.WordsNo.TheVariants.{Usage, Replicas, Size, Page, NoMemory}
use Rattle.kr_words.specs.Names.{word_of}
use Rattle.kr_words.specs.Options.{count_options}
use Rattle.kr_words.specs.Rules.{IsCommand}
use Rattle.kr_words.specs.Arguments.{IsWithin, IsAbove}

-- words are seen as the lists of their bytes
abbrev pub texts : List (String Global) → List (List ℕ)
texts words = map string_bytes words

-- The words begin with the option: `--name` and the next word as its value, or `--name=value` in
-- one word. No name of an option holds a `=`, so the first `=` parts that word.
abbrev pub BeginsWithOption : List (List ℕ) → List ℕ × List ℕ → List (List ℕ) → Type 0
BeginsWithOption words option rest =
    (words ≡ (codes "--" ++ option.0) ∷ (option.1 ∷ rest))
    ⊎ (words ≡ (codes "--" ++ option.0 ++ (0x3D ∷ option.1)) ∷ rest)

-- the words spell the options, one behind another, and nothing else
abbrev pub SpellsOptions : List (List ℕ) → List (List ℕ × List ℕ) → Type 0
SpellsOptions words [] = words ≡ []
SpellsOptions words (option ∷ options) =
    (rest : List (List ℕ)) × BeginsWithOption words option rest × SpellsOptions rest options

-- the words mean the command with these options: its word, then spellings of options that make the
-- command
pub record Means (words : List (List ℕ)) (verb : Verb) (options : List (List ℕ × List ℕ))
    : Type 0 where
  pub rest : List (List ℕ)
  pub word : words ≡ word_of verb ∷ rest
  pub spelled : SpellsOptions rest options
  pub command : IsCommand verb options

-- the words of one command line mean at most one command with its options
abbrev pub MeanOneCommand : Type 0
MeanOneCommand =
    (words : List (List ℕ)) (verb verb' : Verb) (options options' : List (List ℕ × List ℕ))
    → Means words verb options → Means words verb' options' → (verb ≡ verb') × (options ≡ options')

-- the most replicas
abbrev pub replica_limit : ℕ
replica_limit = 16

-- the greatest size
abbrev pub size_limit : ℕ
size_limit = 10000

-- the most items of a page
abbrev pub page_limit : ℕ
page_limit = 10000

-- how many replicas there are
abbrev pub replicas_of : List (List ℕ × List ℕ) → ℕ
replicas_of options = count_options options (codes "replica")

-- there are at most 16 replicas, by their files and by a number that is given
abbrev pub HasFewReplicas : List (List ℕ × List ℕ) → Type 0
HasFewReplicas options = (replicas_of options ≤ replica_limit)
    × IsWithin options (codes "replicas") replica_limit

-- there are more, by either
abbrev pub HasManyReplicas : List (List ℕ × List ℕ) → Type 0
HasManyReplicas options = (replica_limit < replicas_of options)
    ⊎ IsAbove options (codes "replicas") replica_limit

-- there is no size, or it is up to 10,000
abbrev pub IsWithinSize : List (List ℕ × List ℕ) → Type 0
IsWithinSize options = IsWithin options (codes "size") size_limit

-- there is a size, and it is above 10,000
abbrev pub IsAboveSize : List (List ℕ × List ℕ) → Type 0
IsAboveSize options = IsAbove options (codes "size") size_limit

-- no page is asked for, or one of up to 10,000 items
abbrev pub IsWithinPage : List (List ℕ × List ℕ) → Type 0
IsWithinPage options = IsWithin options (codes "limit") page_limit

-- a page of more than 10,000 items is asked for
abbrev pub IsAbovePage : List (List ℕ × List ℕ) → Type 0
IsAbovePage options = IsAbove options (codes "limit") page_limit

-- What words are read as: the command that they mean, or the first refusal. More than 16 replicas,
-- a size above 10,000 and pages of more than 10,000 items are refused only where the words mean a
-- command. Want of memory may take any answer's place.
abbrev pub ReadsWords : List (List ℕ) → Result CommandWords WordsNo → Type 0
ReadsWords words (Ok command) =
    Means words command.verb command.options.0 × HasFewReplicas command.options.0
    × IsWithinSize command.options.0 × IsWithinPage command.options.0
ReadsWords words (Err Usage) =
    (verb : Verb) (options : List (List ℕ × List ℕ)) → Means words verb options → ⊥
ReadsWords words (Err Replicas) =
    (verb : Verb) × (options : List (List ℕ × List ℕ)) × Means words verb options
    × HasManyReplicas options
ReadsWords words (Err Size) =
    (verb : Verb) × (options : List (List ℕ × List ℕ)) × Means words verb options
    × HasFewReplicas options × IsAboveSize options
ReadsWords words (Err Page) =
    (verb : Verb) × (options : List (List ℕ × List ℕ)) × Means words verb options
    × HasFewReplicas options × IsWithinSize options × IsAbovePage options
ReadsWords words (Err NoMemory) = ⊤
