-- When a core starts.
use Rattle.std.specs.Prelude.{◌≡◌, ℕ, [], Result, Ok, Err}
use Rattle.kr_rollout.specs.declared.opening.Opening.{Opening}
use Rattle.kr_opening.specs.declared.opening_board.StartNo.{StartNo}
use Rattle.kr_opening.specs.Replicas.{settings_of}
use Rattle.kr_rollout.specs.Cores.{CoreState}
use Rattle.kr_opening.specs.Starts.{IsNoStart, MayStart}

-- a core that begins with the opening
abbrev pub Starts : {S : Type 0} → Opening → (room : ℕ) → Result CoreState (StartNo × S) → Type 0
Starts o room (Ok core) = MayStart o.rows (settings_of o.replicas)
    × (core ≡ record { opening = o; history = []; room = room })
Starts o room (Err (why, store)) = IsNoStart o.rows (settings_of o.replicas) why
