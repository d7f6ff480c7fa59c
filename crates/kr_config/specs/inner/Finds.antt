-- What a search for a class finds.
use Rattle.std.specs.Prelude.{◌≡◌, ℕ, ◌<◌, length, Option, None, Some, Bool, true, false, List}
use Rattle.std.specs.List.{list_any, slice_index_or}
use Rattle.kr_config.specs.declared.class.Class.{Class}

-- where the first class that passes the test stands, which is this one; none where none passes
abbrev pub Finds : (Class → Bool) → Class → List Class → Option ℕ → Type 0
Finds test class classes None = list_any test classes ≡ false
Finds test class classes (Some at) =
    (at < length classes) × (list_any test classes ≡ true)
    × ((other : Class) → slice_index_or classes at other ≡ class)
