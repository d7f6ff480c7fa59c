-- The replicas that a core starts with: their settings, and the generations of those that are in.
use Rattle.std.specs.Prelude.{ℕ, ◌+◌, List, [], ◌∷◌, map, Option, None, Some, IsSome}
use Rattle.std.specs.Option.{option_map}
use Rattle.kr_config.specs.declared.settings.Settings.{Settings}
use Rattle.kr_config.specs.Kept.{ConfigEntry, rows_of}
use Rattle.kr_provider.specs.Publication.{Publication}
use Rattle.kr_opening.specs.declared.generation.Generation.{Generation}

-- settings by their rows
abbrev pub settings_rows : Option Settings → Option (List ConfigEntry)
settings_rows settings = option_map (λ s. rows_of s.entries.0) settings

abbrev pub rows_in : List (Option Settings) → List (Option (List ConfigEntry))
rows_in replicas = map settings_rows replicas

-- the first replica's settings; it is in
abbrev pub first_rows : List (Option (List ConfigEntry)) → List ConfigEntry
first_rows [] = []
first_rows (None ∷ replicas) = []
first_rows (Some rows ∷ replicas) = rows

-- the replicas that are in, by their numbers, have the generations 0, 1 and so on
abbrev pub generations_from : ℕ → List (Option Publication) → List Generation
generations_from replica [] = []
generations_from replica (None ∷ replicas) = generations_from (replica + 1) replicas
generations_from replica (Some p ∷ replicas) =
    record { replica = replica; published = p } ∷ generations_from (replica + 1) replicas

abbrev pub current_from : ℕ → List (Option Publication) → List (Option ℕ)
current_from number [] = []
current_from number (None ∷ replicas) = None ∷ current_from number replicas
current_from number (Some p ∷ replicas) = Some number ∷ current_from (number + 1) replicas

abbrev pub settings_of : List (Option Publication) → List (Option (List ConfigEntry))
settings_of replicas = map (option_map (λ p. p.rows)) replicas

-- the first replica is in
abbrev pub IsFirstIn : {P : Type 0} → List (Option P) → Type 0
IsFirstIn [] = ⊥
IsFirstIn (replica ∷ replicas) = IsSome replica
