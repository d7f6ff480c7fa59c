-- Where a key stands among pairs.
use Rattle.std.specs.Prelude.{◌≡◌, ℕ, ◌<◌, ◌≤◌, List, length, slice_set, Result, Ok, Err}
use Rattle.std.specs.List.{insert}
use Rattle.kr_base.specs.Pairs.{Pairs, with_pair}

-- where the key stands, or before which pair it belongs: there a new value gives the pairs with it
abbrev pub IsPlaceOf : Pairs → List ℕ → Result ℕ ℕ → Type 0
IsPlaceOf pairs key (Ok at) = (at < length pairs)
    × ((value : List ℕ) → slice_set pairs at (key, value) ≡ with_pair pairs key value)
IsPlaceOf pairs key (Err at) = (at ≤ length pairs)
    × ((value : List ℕ) → insert pairs at (key, value) ≡ with_pair pairs key value)
