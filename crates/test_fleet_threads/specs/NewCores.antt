-- A core that has just begun, and what its seats do.
use Rattle.std.specs.Prelude.{◌≡◌, ℕ, false, List, [], ◌∷◌, length, Option, None, Some}
use Rattle.kr_provider.specs.Publication.{Publication, names_plugin}
use Rattle.kr_rollout.specs.Cores.{CoreState}
use Rattle.kr_rollout.specs.declared.event.Event.{Event}
use Rattle.kr_rollout.specs.declared.event.Event.TheVariants.{Leave}

-- there is one replica, whose configuration names no plugin
abbrev pub IsOneBare : List (Option Publication) → Type 0
IsOneBare [] = ⊥
IsOneBare (None ∷ rest) = ⊥
IsOneBare (Some p ∷ rest) = (rest ≡ []) × (names_plugin p.rows ≡ false)

-- a core with one replica and two seats, whose journal has room for so many lines and none yet
pub record IsNewCore (room : ℕ) (c : CoreState) : Type 0 where
  pub replicas : length c.opening.replicas ≡ 1
  pub seats : length c.opening.reloads ≡ 2
  pub history : c.history ≡ []
  pub room_is : c.room ≡ room

-- each of two seats takes the first replica's generation away
abbrev pub both_leave : List (ℕ × Event)
both_leave = (0, Leave 0) ∷ (1, Leave 0) ∷ []
