-- `is_refusal`: all but a pass refuse.
use Rattle.std.proofs.Common.{◌≡◌, ◌≢◌, true, refl}
use Rattle.kr_judge.specs.declared.verdict.Verdict.{Verdict}
use Rattle.kr_judge.specs.declared.verdict.Verdict.TheVariants.{Pass, DropsStored, DropsWriter, Unread}
use Rattle.kr_opening.specs.inner.OpeningBoards.{is_refusal}
use Rattle.kr_opening.proofs.opening_board.is_refusal.Goals as goal

refuses : (v : Verdict) → v ≢ Pass → true ≡ is_refusal v
refuses Pass n = absurd (n refl)
refuses (DropsStored path who) n = refl
refuses (DropsWriter generation class who) n = refl
refuses (Unread generation class who) n = refl

pub returns-in_default : goal.returns-in_default
returns-in_default c = refuses c.args.verdict.now c.in_default.not-Pass
