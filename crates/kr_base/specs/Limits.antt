-- The limits of what is read, wrapped, sealed and stored. Those of key ids, wrapped sources and the
-- size of annotations follow KEP-3299, which bounds them by their bytes; how many annotations there
-- are is bounded here alone.
use Rattle.std.specs.Prelude.{ℕ, ◌+◌, ◌≤◌, ◌&&◌, nat_le, Bool, List, [], ◌∷◌, length}
use Rattle.kr_base.specs.Pairs.{Pairs}

-- the most bytes of a path
abbrev pub path_limit : ℕ
path_limit = 1024

-- the most bytes of a name, and of a resource
abbrev pub name_limit : ℕ
name_limit = 253

-- the most bytes of a key id, and of a wrapped source
abbrev pub short_limit : ℕ
short_limit = 1024

-- the most annotations
abbrev pub annotations_limit : ℕ
annotations_limit = 256

-- the most bytes of their keys and values in all
abbrev pub annotations_size_limit : ℕ
annotations_size_limit = 32768

-- the most bytes of an object's data
abbrev pub data_limit : ℕ
data_limit = 2097152

-- the most bytes of a stored value
abbrev pub value_limit : ℕ
value_limit = 2162688

-- the most bytes of a configuration
abbrev pub config_limit : ℕ
config_limit = 1048576

-- the most lines of a journal
abbrev pub journal_limit : ℕ
journal_limit = 4000000

-- the most bytes of a store's file
abbrev pub store_limit : ℕ
store_limit = 67108864

-- a key id has 1 to 1,024 bytes, and so has a wrapped source
abbrev pub IsShort : List ℕ → Type 0
IsShort bytes = (1 ≤ length bytes) × (length bytes ≤ short_limit)

-- the bytes of all keys and values
abbrev pub pairs_size : Pairs → ℕ
pairs_size [] = 0
pairs_size (pair ∷ pairs) = length pair.0 + length pair.1 + pairs_size pairs

-- at most 256 annotations of at most 32,768 bytes in all
abbrev pub AreFew : Pairs → Type 0
AreFew pairs = (length pairs ≤ annotations_limit) × (pairs_size pairs ≤ annotations_size_limit)

-- the same limits as tests that compute, for definitions by cases

abbrev pub is_short : List ℕ → Bool
is_short bytes = nat_le 1 (length bytes) && nat_le (length bytes) short_limit

abbrev pub are_few : Pairs → Bool
are_few pairs = nat_le (length pairs) annotations_limit
    && nat_le (pairs_size pairs) annotations_size_limit
