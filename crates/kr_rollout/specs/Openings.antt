-- What a rollout begins with: a store's rows, and configurations of the replicas that are in.
use Rattle.std.specs.Prelude.{ℕ, ◌+◌, List, length, sum, replicate, All, Contains, Option, None, IfSome}
use Rattle.kr_store.specs.Rows.{AreRows}
use Rattle.kr_store.specs.Stores.{Kept}
use Rattle.kr_config.specs.Kept.{ConfigEntry, plugins_in}
use Rattle.kr_provider.specs.Publication.{Publication, IsPublished}
use Rattle.kr_judge.specs.Boards.{BoardState}
use Rattle.kr_rollout.specs.declared.opening.Opening.{Opening}
use Rattle.kr_rollout.specs.States.{State, board_generations}
use Rattle.kr_opening.specs.Replicas.{first_rows, generations_from, current_from, settings_of, IsFirstIn}
use Rattle.kr_opening.specs.Needs.{needs_of, HasNoStray, HasNoOtherSecret}

-- ---- the state

abbrev pub first_of : Opening → List ConfigEntry
first_of o = first_rows (settings_of o.replicas)

abbrev pub start_of : Opening → State
start_of o = record {
  generations = generations_from 0 o.replicas;
  current = current_from 0 o.replicas;
  held = replicate (length o.reloads) None;
  needs = needs_of (first_of o) o.rows;
  rows = o.rows;
  count = o.count;
}

-- what a core begins with over a store
abbrev pub opening_by : Kept → List (Option Publication) → (names : List (List ℕ))
    → (reloads : List ℕ) → Opening
opening_by store replicas names reloads = record {
  format = store.format;
  rows = store.rows;
  replicas = replicas;
  names = names;
  reloads = reloads;
  limit = store.limit;
  count = store.count;
  torn = store.torn;
}

-- how many generations there may be
abbrev pub room_of : Opening → ℕ
room_of o = length o.replicas + sum o.reloads

-- the board on which a state is judged
abbrev pub board : Opening → State → BoardState
board o st = record {
  generations = board_generations st;
  needs = st.needs;
  proposal = None;
  room = room_of o;
}

-- the settings name no other plugins than these
abbrev pub NamesAmong : (names : List (List ℕ)) → List ConfigEntry → Type 0
NamesAmong names rows = All (λ name. Contains names name) (plugins_in rows)

-- nor do those of the replicas that are in
abbrev pub AreAmong : (names : List (List ℕ)) → List (Option Publication) → Type 0
AreAmong names replicas = All (λ replica. IfSome replica (λ p. NamesAmong names p.rows)) replicas

-- a configuration that keeps its rules and names no other plugins
abbrev pub IsAdmitted : (names : List (List ℕ)) → Publication → Type 0
IsAdmitted names p = IsPublished p × NamesAmong names p.rows

pub record IsOpening (o : Opening) : Type 0 where
  pub rows : AreRows o.format o.rows
  pub first : IsFirstIn o.replicas
  pub admitted : All (λ replica. IfSome replica (IsAdmitted o.names)) o.replicas
  pub readable : HasNoStray (first_of o) o.rows
  pub secrets : HasNoOtherSecret (first_of o) o.rows
