-- Written revisions rise strictly along a legal history: no write stands twice.
use Rattle.std.proofs.Common.{◌≡◌, ℕ, ◌≤◌, ◌<◌, ◌+◌, List, [], ◌∷◌, ◌++◌, length, Option, ap, subst, arith, length-append}
use Rattle.kr_rollout.specs.declared.line.Did.{Did}
use Rattle.kr_rollout.specs.declared.line.Did.TheVariants.{Put, Delete, Replace}
use Rattle.kr_rollout.specs.declared.line.Gave.TheVariants.{Written}
use Rattle.kr_rollout.specs.declared.opening.Entry.{Entry}
use Rattle.kr_rollout.specs.declared.opening.Opening.{Opening}
use Rattle.kr_rollout.specs.Answers.{IsAnswer}
use Rattle.kr_rollout.specs.Entries.{revision_in}
use Rattle.kr_rollout.specs.Histories.{IsRun}
use Rattle.kr_rollout.specs.Openings.{start_of}
use Rattle.kr_rollout.specs.States.{State}
use Rattle.kr_rollout.specs.Steps.{after, new_rows}
use Rattle.kr_history.specs.ContentLaws.{RevisionsRise}

-- an entry's revision is the next row's
next_revision : (done : Did) (revision : ℕ) (st : State) (held : Option ℕ)
    → IsAnswer done (Written revision) st held → revision ≡ length st.rows + 1
next_revision (Put path resource plain) revision st held a = a.1
next_revision (Delete path) revision st held a = a.1
next_revision (Replace path from) revision st held a = a.2
next_revision other revision st held a = absurd a

-- one that was written before is less than each that is written now
later_revision : (o : Opening) (st : State) (written next : ℕ) → written ≤ length st.rows
    → (mid : List Entry) (f : Entry) (rest : List Entry) → IsRun o st (mid ++ f ∷ rest)
    → f.line.gave ≡ Written next → written < next
later_revision o st written next least [] f rest run gave =
    let is = next_revision f.line.did next st f.line.held
    (subst (λ g. IsAnswer f.line.did g st f.line.held) gave run.0.answer) in
    omega (arith, is, least)
later_revision o st written next least (x ∷ mid) f rest run gave =
    later_revision o (after st x) written next
    (let more = length-append st.rows (new_rows x.line.gave x.line.did x.row) in
    omega (arith, more, least)) mid f rest run.1 gave

from_state : (o : Opening) (st : State) (front : List Entry) (e : Entry) (mid : List Entry)
    (f : Entry) (rest : List Entry) (written next : ℕ)
    → IsRun o st (front ++ e ∷ (mid ++ f ∷ rest)) → e.line.gave ≡ Written written
    → f.line.gave ≡ Written next → written < next
from_state o st [] e mid f rest written next run first second = later_revision o (after st e)
    written next (subst (λ n. n ≤ length (after st e).rows) (ap revision_in first)
    run.0.reaches.row) mid f rest run.1 second
from_state o st (x ∷ front) e mid f rest written next run first second =
    from_state o (after st x) front e mid f rest written next run.1 first second

pub revisions_rise : RevisionsRise
revisions_rise o history front e mid f rest written next l is first second =
    from_state o (start_of o) front e mid f rest written next
    (subst (λ h. IsRun o (start_of o) h) is l.runs) first second
