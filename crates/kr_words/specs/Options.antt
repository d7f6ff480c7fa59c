-- The options of a command by their names. An option is a name without its dashes and a value.
use Rattle.std.specs.Prelude.{ℕ, List, Bool, Option, count_by, filter, map}
use Rattle.std.specs.List.{find}
use Rattle.std.specs.Option.{option_map}
use Rattle.std.specs.Str.{bytes_eq}

-- the option has that name
abbrev pub is_named : List ℕ → List ℕ × List ℕ → Bool
is_named name option = bytes_eq option.0 name

-- the value of the first option of that name
abbrev pub value_of : List (List ℕ × List ℕ) → List ℕ → Option (List ℕ)
value_of options name = option_map (λ option. option.1) (find (is_named name) options)

-- the values of all options of that name, in order
abbrev pub values_of : List (List ℕ × List ℕ) → List ℕ → List (List ℕ)
values_of options name = map (λ option. option.1) (filter (is_named name) options)

-- how many options have that name
abbrev pub count_options : List (List ℕ × List ℕ) → List ℕ → ℕ
count_options options name = count_by (is_named name) options
