-- The nodes that are open while tokens are read, the outermost first, and what stands in the
-- innermost.
use Rattle.std.specs.Prelude.{ℕ, suc, ◌==◌, ◌||◌, nat_lt, Bool, false, List, [], ◌∷◌, ◌++◌, Option}
use Rattle.std.specs.Prelude.{None, Some, unwrap_or, if◌then◌else◌, option_and_then}
use Rattle.std.specs.List.{list_any}
use Rattle.std.specs.Str.{bytes_eq}
use Rattle.kr_yaml.specs.Data.{Data, null, list, mapping, items_of, members_of}
use Rattle.kr_yaml.specs.Lines.{Token, dash, pair, leaf}
use Rattle.kr_yaml.specs.Forms.{keys}

-- an open list with the items before its last one, and an open mapping with its members and the
-- key of the last one
pub data Frame : Type 0 where
  items : ℕ → List Data → Frame
  members : ℕ → List (List ℕ × Data) → List ℕ → Frame

abbrev pub State : Type 0
State = List Frame × Option Data

abbrev pub token_column : Token → ℕ
token_column (dash c) = c
token_column (pair c k v) = c
token_column (leaf c d) = c

abbrev pub is_dash_in_column : ℕ → Token → Bool
is_dash_in_column b (dash c) = c == b
is_dash_in_column b (pair c k v) = false
is_dash_in_column b (leaf c d) = false

-- the token belongs to the last item or member
abbrev pub belongs_to_node : Token → Frame → Bool
belongs_to_node t (items c ds) = nat_lt c (token_column t)
belongs_to_node t (members c ms k) = nat_lt c (token_column t) || is_dash_in_column c t

abbrev pub close : Frame → Data → Data
close (items c ds) d = list (items_of (ds ++ d ∷ []))
close (members c ms k) d = mapping (members_of (ms ++ (k, d) ∷ []))

abbrev pub closed_value : List Frame → Option Data → Data
closed_value [] o = unwrap_or o null
closed_value (f ∷ fs) o = close f (closed_value fs o)

abbrev pub first_state : Token → State
first_state (dash c) = (items c [] ∷ [], None)
first_state (pair c k v) = (members c [] k ∷ [], v)
first_state (leaf c d) = ([], Some d)

abbrev pub begin : Token → Option Data → Option State
begin t None = Some (first_state t)
begin t (Some d) = None

-- the token goes on with an open node, whose last item or member is closed now
abbrev pub next : Token → Frame → Data → Option State
next (dash c) (items b ds) d = if c == b then Some (items b (ds ++ d ∷ []) ∷ [], None) else None
next (dash c) (members b ms l) d = None
next (pair c k v) (items b ds) d = None
next (pair c k v) (members b ms l) d =
    if c == b then Some (members b (ms ++ (l, d) ∷ []) k ∷ [], v) else None
next (leaf c e) (items b ds) d = None
next (leaf c e) (members b ms l) d = None

abbrev pub under : Frame → Option State → Option State
under f None = None
under f (Some s) = Some (f ∷ s.0, s.1)

abbrev pub put : Token → List Frame → Option Data → Option State
put t [] o = begin t o
put t (f ∷ fs) o = if belongs_to_node t f then under f (put t fs o) else next t f
    (closed_value fs o)

-- the token's key stands in the mapping already
abbrev pub is_repeated : Token → Frame → Bool
is_repeated (dash c) f = false
is_repeated (leaf c d) f = false
is_repeated (pair c k v) (items b ds) = false
is_repeated (pair c k v) (members b ms l) = list_any (λ x. bytes_eq x k) (keys ms ++ l ∷ [])

abbrev pub doubles : Token → List Frame → Bool
doubles t [] = false
doubles t (f ∷ fs) = if belongs_to_node t f then doubles t fs else is_repeated t f

-- how many of the open nodes the token is inside of
abbrev pub place : Token → List Frame → ℕ
place t [] = 0
place t (f ∷ fs) = if belongs_to_node t f then suc (place t fs) else 0

-- putting tokens one after the other
abbrev pub run : List Token → State → Option State
run [] st = Some st
run (t ∷ ts) st = option_and_then (run ts) (put t st.0 st.1)
