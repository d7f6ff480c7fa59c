-- The classes of a table, from what it keeps: before anything is added it keeps none.
use Rattle.std.specs.Prelude.{List, [], ◌∷◌}
use Rattle.kr_config.specs.declared.class.Class.{Class}
use Rattle.kr_config.specs.declared.class.Class.TheVariants.{Rest}

-- the classes, or where there are none the rest alone
abbrev pub or_rest : List Class → List Class
or_rest [] = Rest ∷ []
or_rest (class ∷ classes) = class ∷ classes
