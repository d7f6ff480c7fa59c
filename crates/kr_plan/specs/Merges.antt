-- Settings between two others: at each class of resources both their lists, one behind the other.
use Rattle.std.specs.Prelude.{List, [], ◌∷◌, ◌++◌, not}
use Rattle.std.specs.List.{filter}
use Rattle.kr_config.specs.declared.class.Class.{Class}
use Rattle.kr_config.specs.declared.who.Who.{Who}
use Rattle.kr_config.specs.Kept.{ConfigEntry}
use Rattle.kr_config.specs.Lists.{class_list}
use Rattle.kr_config.specs.ClassEntries.{class_rows}
use Rattle.kr_judge.specs.Providers.{has}
use Rattle.kr_judge.specs.Tables.{table_of}

-- the one list, and behind it those of the other that it hasn't
abbrev pub merge : (one other : List Who) → List Who
merge one other = one ++ filter (λ who. not (has one who)) other

-- at each class both lists
abbrev pub merged_list : (one other : List ConfigEntry) → Class → List Who
merged_list one other class = merge (class_list one class) (class_list other class)

-- an entry for each class
abbrev pub merged_rows : List Class → (one other : List ConfigEntry) → List ConfigEntry
merged_rows classes one other = class_rows (merged_list one other) classes

-- the classes that the two settings tell apart, in the order of their table
abbrev pub classes_of : (from to : List ConfigEntry) → List Class
classes_of from to = table_of (from ∷ to ∷ [])

-- what all replicas take up first: it writes as `from` does, and reads what either reads
abbrev pub wide_rows : (from to : List ConfigEntry) → List ConfigEntry
wide_rows from to = merged_rows (classes_of from to) from to

-- and next: it writes as `to` does, and reads the same
abbrev pub turned_rows : (from to : List ConfigEntry) → List ConfigEntry
turned_rows from to = merged_rows (classes_of from to) to from
