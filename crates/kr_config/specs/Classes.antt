-- The classes of resources that some settings tell apart.
use Rattle.std.specs.Prelude.{ℕ, ◌↔◌, Bool, true, false, List, [], ◌∷◌, Contains, if◌then◌else◌}
use Rattle.std.specs.List.{list_any, flat_map}
use Rattle.std.specs.List.Sorted.{IsStrictlySortedBy}
use Rattle.std.specs.Str.{bytes_eq}
use Rattle.std.specs.Ordering.{nat_cmp}
use Rattle.std.specs.declared.cmp.Ordering.{Ordering}
use Rattle.std.specs.declared.cmp.Ordering.TheVariants.{Less, Equal, Greater}
use Rattle.std.specs.Cmp.Lexicographic.{slice_cmp}
use Rattle.kr_config.specs.declared.pattern.Pattern.{Pattern}
use Rattle.kr_config.specs.declared.pattern.Pattern.TheVariants as pattern
use Rattle.kr_config.specs.declared.class.Class.{Class}
use Rattle.kr_config.specs.declared.class.Class.TheVariants.{Exact, Group, Rest}
use Rattle.kr_config.specs.Patterns.{resource_group}
use Rattle.kr_config.specs.Kept.{ConfigEntry}

-- exact ones by their bytes, then groups by their bytes, then the rest
abbrev pub class_cmp : Class → Class → Ordering
class_cmp (Exact a) (Exact b) = slice_cmp nat_cmp a b
class_cmp (Exact a) (Group b) = Less
class_cmp (Exact a) Rest = Less
class_cmp (Group a) (Exact b) = Greater
class_cmp (Group a) (Group b) = slice_cmp nat_cmp a b
class_cmp (Group a) Rest = Less
class_cmp Rest (Exact b) = Greater
class_cmp Rest (Group b) = Greater
class_cmp Rest Rest = Equal

-- the class that a pattern makes beside the rest
abbrev pub class_made : Pattern → List Class
class_made (pattern.Exact text) = Exact text ∷ []
class_made (pattern.Group group) = Group group ∷ []
class_made pattern.All = []

abbrev pub classes_made : List Pattern → List Class
classes_made patterns = flat_map class_made patterns

abbrev pub classes_in : List ConfigEntry → List Class
classes_in rows = flat_map (λ row. classes_made row.patterns) rows

-- the table of some settings that were added: in order, each once, the class of each pattern and
-- the rest
pub record IsTableOf (added : List (List ConfigEntry)) (classes : List Class) : Type 0 where
  pub ascends : IsStrictlySortedBy class_cmp classes
  pub members : (class : Class)
      → Contains classes class ↔ Contains (Rest ∷ flat_map classes_in added) class

abbrev pub is_exact : List ℕ → Class → Bool
is_exact resource (Exact text) = bytes_eq text resource
is_exact resource (Group group) = false
is_exact resource Rest = false

abbrev pub is_group : List ℕ → Class → Bool
is_group group (Exact text) = false
is_group group (Group own) = bytes_eq own group
is_group group Rest = false

abbrev pub is_rest : Class → Bool
is_rest (Exact text) = false
is_rest (Group group) = false
is_rest Rest = true

-- a resource's class: its own where the table has it, else its group's where the table has that,
-- else the rest
unfoldable pub class_in : List Class → List ℕ → Class
class_in classes resource = if list_any (is_exact resource) classes then Exact resource
    else if list_any (is_group (resource_group resource)) classes then Group
    (resource_group resource) else Rest
