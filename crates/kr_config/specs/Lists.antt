-- The provider list of a resource, and of a class of resources.
use Rattle.std.specs.Prelude.{ℕ, Bool, List, [], ◌∷◌, if◌then◌else◌}
use Rattle.std.specs.List.{list_any}
use Rattle.kr_config.specs.declared.pattern.Pattern.{Pattern}
use Rattle.kr_config.specs.declared.class.Class.{Class}
use Rattle.kr_config.specs.declared.class.Class.TheVariants.{Exact, Group, Rest}
use Rattle.kr_config.specs.declared.who.Who.{Who}
use Rattle.kr_config.specs.declared.who.Who.TheVariants.{Identity}
use Rattle.kr_config.specs.Patterns.{matches, covers_group, covers_rest}
use Rattle.kr_config.specs.Kept.{ConfigEntry}

-- the providers of the first entry with such a pattern, or identity alone
abbrev pub first_list : (Pattern → Bool) → List ConfigEntry → List Who
first_list test [] = Identity ∷ []
first_list test (row ∷ rows) =
    if list_any test row.patterns then row.providers else first_list test rows

-- of a resource: a pattern that matches it
abbrev pub list_of : List ConfigEntry → List ℕ → List Who
list_of rows resource = first_list (λ pattern. matches pattern resource) rows

-- of a class: an exact one goes by its resource, a group by the patterns that match all of it, the
-- rest by those that match all
abbrev pub class_list : List ConfigEntry → Class → List Who
class_list rows (Exact text) = list_of rows text
class_list rows (Group group) = first_list (λ pattern. covers_group pattern group) rows
class_list rows Rest = first_list covers_rest rows
