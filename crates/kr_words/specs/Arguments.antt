-- What the options of a command give beyond first values: programs of plugins, numbers, a reload,
-- and limits.
use Rattle.std.specs.Prelude.{◌≡◌, ℕ, ◌^◌, ◌≤◌, ◌<◌, ◌&&◌, List, Bool, Option, codes, Contains}
use Rattle.std.specs.Prelude.{IfSome, IsSomeAnd, MatchOption}
use Rattle.std.specs.List.{find}
use Rattle.std.specs.Option.{option_map}
use Rattle.std.specs.Str.{bytes_eq}
use Rattle.kr_words.specs.Options.{is_named, value_of}
use Rattle.kr_words.specs.Numerals.{IsDecimal}
use Rattle.kr_words.specs.Rules.{before_equals, after_equals}

-- the option is the plugin of that name
abbrev pub is_plugin : List ℕ → List ℕ × List ℕ → Bool
is_plugin plugin option = is_named (codes "plugin") option
    && bytes_eq (before_equals option.1) plugin

-- the program of that plugin
abbrev pub plugin_program : List (List ℕ × List ℕ) → List ℕ → Option (List ℕ)
plugin_program options plugin = option_map (λ option. after_equals option.1)
    (find (is_plugin plugin) options)

-- the number stands at the name
abbrev pub IsNumberAt : List (List ℕ × List ℕ) → List ℕ → ℕ → Type 0
IsNumberAt options name number = IsSomeAnd (value_of options name) (λ text. IsDecimal text number)

-- what is read is the number at the name, and nothing only where none below 2^64 stands there
abbrev pub ReadsNumberAt : List (List ℕ × List ℕ) → List ℕ → Option ℕ → Type 0
ReadsNumberAt options name read =
    MatchOption read ((n : ℕ) → IsNumberAt options name n → 2 ^ 64 ≤ n) (IsNumberAt options name)

-- there is nothing at the name, or a number up to the limit
abbrev pub IsWithin : List (List ℕ × List ℕ) → List ℕ → ℕ → Type 0
IsWithin options name limit =
    IfSome (value_of options name) (λ text. (n : ℕ) × IsDecimal text n × (n ≤ limit))

-- the number at the name is above the limit
abbrev pub IsAbove : List (List ℕ × List ℕ) → List ℕ → ℕ → Type 0
IsAbove options name limit =
    IsSomeAnd (value_of options name) (λ text. (n : ℕ) × IsDecimal text n × (limit < n))

-- the value is `N=` and a file, N this replica's number
abbrev pub IsReloadOf : List ℕ → ℕ → Type 0
IsReloadOf value replica = Contains value 0x3D × IsDecimal (before_equals value) replica

-- the replica at this number, counted from 0, is to read the file
abbrev pub IsReloadAt : List (List ℕ × List ℕ) → ℕ → List ℕ → Type 0
IsReloadAt options replica file =
    IsSomeAnd (value_of options (codes "reload"))
    (λ value. IsReloadOf value replica × (file ≡ after_equals value))
