-- A key more in an open mapping, and the value of the one before.
use Rattle.std.specs.Prelude.{◌≡◌, ℕ, ⊤, true, false, List, [], ◌∷◌, ◌++◌, Result, Ok, Err}
use Rattle.std.specs.List.{list_any}
use Rattle.std.specs.Str.{bytes_eq}
use Rattle.kr_yaml.specs.Data.{Data}
use Rattle.kr_yaml.specs.Forms.{keys}
use Rattle.kr_yaml.specs.inner.Open.{Frame, items, members}
use Rattle.kr_yaml.specs.inner.Frames.{mapping_frame}
use Rattle.kr_yaml.specs.declared.open_mapping.OpenMapping.{OpenMapping}
use Rattle.kr_yaml.specs.declared.place_error.PlaceError.{PlaceError}
use Rattle.kr_yaml.specs.declared.place_error.PlaceError.TheVariants.{Indent, DuplicateKey}
use Rattle.kr_yaml.specs.declared.place_error.PlaceError.TheVariants.{Deep, NoMemory}

abbrev pub Adds : Frame → Data → List ℕ → Result OpenMapping PlaceError → Type 0
Adds (items c ds) d k result = ⊥
Adds (members c ms l) d k (Ok m) = (mapping_frame m ≡ members c (ms ++ (l, d) ∷ []) k)
    × (list_any (λ x. bytes_eq x k) (keys ms ++ l ∷ []) ≡ false)
Adds (members c ms l) d k (Err Indent) = ⊥
Adds (members c ms l) d k (Err DuplicateKey) =
    list_any (λ x. bytes_eq x k) (keys ms ++ l ∷ []) ≡ true
Adds (members c ms l) d k (Err Deep) = ⊥
Adds (members c ms l) d k (Err NoMemory) = ⊤
