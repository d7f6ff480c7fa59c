-- The classes that some settings tell apart, computed.
use Rattle.std.specs.Prelude.{List, [], ◌∷◌}
use Rattle.std.specs.List.{flat_map}
use Rattle.std.specs.BTreeSet.{insert_key}
use Rattle.kr_config.specs.declared.class.Class.{Class}
use Rattle.kr_config.specs.declared.class.Class.TheVariants.{Rest}
use Rattle.kr_config.specs.Kept.{ConfigEntry}
use Rattle.kr_config.specs.Classes.{class_cmp, classes_in}

-- in order, each once
abbrev pub in_order : List Class → List Class
in_order [] = []
in_order (class ∷ classes) = insert_key class_cmp (in_order classes) class

-- the class of each pattern of the settings, and the rest, in the order of the table of classes
unfoldable pub table_of : List (List ConfigEntry) → List Class
table_of added = in_order (Rest ∷ flat_map classes_in added)
