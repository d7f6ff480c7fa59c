-- When a rollout starts.
use Rattle.std.specs.Prelude.{◌≡◌, [], Result, Ok, Err}
use Rattle.kr_opening.specs.declared.opening_board.StartNo.{StartNo}
use Rattle.kr_rollout.specs.Openings.{start_of}
use Rattle.kr_opening.specs.Replicas.{settings_of}
use Rattle.kr_opening.specs.Starts.{IsNoStart, MayStart}
use Rattle.kr_rollout.specs.declared.opening.Opening.{Opening}
use Rattle.kr_rollout.specs.Histories.{IsLegal}
use Rattle.kr_rollout.specs.inner.Rollouts.{RolloutState}

-- a rollout at its opening, with which a history may begin
abbrev pub StartsRollout : {S : Type 0} → Opening → Result RolloutState (StartNo × S) → Type 0
StartsRollout o (Ok course) = IsLegal o [] ×
    MayStart o.rows (settings_of o.replicas)
    × (course ≡ record { opening = o; state = start_of o; torn = o.torn })
StartsRollout o (Err (why, store)) = IsNoStart o.rows (settings_of o.replicas) why
