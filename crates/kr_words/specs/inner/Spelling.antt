-- What the words behind the command's are read as.
use Rattle.std.specs.Prelude.{◌≢◌, ℕ, ◌<◌, ◌⊎◌, List, ⊤, IsSomeAnd, codes, Result, Ok, Err}
use Rattle.std.specs.List.{AllByRecursion}
use Rattle.kr_words.specs.declared.spelling.SpellingNo.{SpellingNo}
use Rattle.kr_words.specs.declared.spelling.SpellingNo.TheVariants.{Usage, NoMemory}
use Rattle.kr_words.specs.Options.{value_of}
use Rattle.kr_words.specs.Numerals.{IsDecimal}
use Rattle.kr_words.specs.Grammar.{BeginsWithOption, SpellsOptions, replica_limit, replicas_of}

-- a name holds no `=`
abbrev pub IsPlain : List ℕ → Type 0
IsPlain name = AllByRecursion (λ byte. byte ≢ 0x3D) name

abbrev pub ArePlain : List (List ℕ × List ℕ) → Type 0
ArePlain options = AllByRecursion (λ option. IsPlain option.0) options

-- the words begin with no option of a plain name
abbrev pub BeginNoOption : List (List ℕ) → Type 0
BeginNoOption words =
    (option : List ℕ × List ℕ) (rest : List (List ℕ))
    → IsPlain option.0 → BeginsWithOption words option rest → ⊥

-- the words are read as the options of plain names that they spell, or they spell none
abbrev pub ReadsOptions : List (List ℕ) → Result (List (List ℕ × List ℕ) × ℕ) SpellingNo → Type 0
ReadsOptions words (Ok options) = ArePlain options.0 × SpellsOptions words options.0
ReadsOptions words (Err Usage) =
    (options : List (List ℕ × List ℕ)) → ArePlain options → SpellsOptions words options → ⊥
ReadsOptions words (Err NoMemory) = ⊤

-- there is a value at the name, and no number up to the limit is written so
abbrev pub HasNoSmall : List (List ℕ × List ℕ) → List ℕ → ℕ → Type 0
HasNoSmall options name limit =
    IsSomeAnd (value_of options name) (λ text. (n : ℕ) → IsDecimal text n → limit < n)

-- there are more than 16 replicas by their files, or no number up to 16 of them is written
abbrev pub HasNoFewReplicas : List (List ℕ × List ℕ) → Type 0
HasNoFewReplicas options = (replica_limit < replicas_of options)
    ⊎ HasNoSmall options (codes "replicas") replica_limit
