-- What fits: what any live generation writes, and all that is stored, is read by every live
-- generation.
use Rattle.kr_rollout.specs.States.{State, IsLive}
use Rattle.kr_judge.specs.LiveFits.{AreFit}

abbrev pub IsFit : State → Type 0
IsFit st = AreFit (IsLive st) st.needs
