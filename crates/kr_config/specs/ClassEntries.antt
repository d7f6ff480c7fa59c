-- Entries of a class each: the pattern that speaks of it, and a list of providers.
use Rattle.std.specs.Prelude.{List, [], ◌∷◌, map}
use Rattle.kr_config.specs.declared.pattern.Pattern.{Pattern}
use Rattle.kr_config.specs.declared.pattern.Pattern.TheVariants as pattern
use Rattle.kr_config.specs.declared.class.Class.{Class}
use Rattle.kr_config.specs.declared.class.Class.TheVariants.{Exact, Group, Rest}
use Rattle.kr_config.specs.declared.who.Who.{Who}
use Rattle.kr_config.specs.Kept.{ConfigEntry}

-- the pattern that speaks of a class
abbrev pub class_pattern : Class → Pattern
class_pattern (Exact text) = pattern.Exact text
class_pattern (Group group) = pattern.Group group
class_pattern Rest = pattern.All

-- an entry of that pattern alone, with the list that the class is to have
abbrev pub class_row : (Class → List Who) → Class → ConfigEntry
class_row list class = record {
  patterns = class_pattern class ∷ [];
  providers = list class;
}

-- an entry for each class
abbrev pub class_rows : (Class → List Who) → List Class → List ConfigEntry
class_rows list classes = map (class_row list) classes
