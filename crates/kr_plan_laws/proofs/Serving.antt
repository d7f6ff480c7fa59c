-- A drive that left no row serves a plan.
use Rattle.std.proofs.Common.{ℕ, List, ◌++◌, Option, sym, ap, subst, ◌∙◌, append_assoc}
use Rattle.kr_kms.specs.Calls.{Link}
use Rattle.kr_config.specs.Kept.{ConfigEntry}
use Rattle.kr_plan.specs.Merges.{turned_rows}
use Rattle.kr_rollout.specs.declared.opening.Entry.{Entry}
use Rattle.kr_rollout.specs.declared.opening.Opening.{Opening}
use Rattle.kr_rollout.specs.Openings.{start_of}
use Rattle.kr_rollout.specs.Histories.{state_of, IsLegal}
use Rattle.kr_history.proofs.Fitting.{legal_sound}
use Rattle.kr_plan_laws.specs.Rewritten.{RewriteServesPlan}
use Rattle.kr_plan_laws.specs.Settled.{IsSettledAt, LiveWrite, AllWrite, WasSettled}
use Rattle.kr_plan_laws.proofs.Rewriting.{rewrite_settles}
use Rattle.kr_plan_laws.proofs.Runs.{run_parts, legal_front}
use Rattle.kr_plan_laws.proofs.Settling.{writers_stay, front_writes, rest_writes}
use Rattle.kr_plan_laws.proofs.WholePlan.{way_writes, turned_brings, from_one}

-- what was settled within a part of some entries was so within them
was_within : (o : Opening) (history before more behind : List Entry) (to : List ConfigEntry)
    (path : List ℕ) → WasSettled to o (history ++ before) more path
    → WasSettled to o history (before ++ (more ++ behind)) path
was_within o history before more behind to path (front, rest, is, settled) = (
  before ++ front,
  rest ++ behind,
  ap (λ s. before ++ (s ++ behind)) is
      ∙ ap (λ s. before ++ s) (append_assoc front rest behind)
      ∙ sym (append_assoc before front (rest ++ behind)),
  subst (λ s. IsSettledAt to (state_of o s) path) (append_assoc history before front) settled,
)

pub rewrite_serves_plan : {L D : Type 0} (link : L → Link) (left : D → Option (List ℕ))
    (count : D → ℕ) → RewriteServesPlan link left count
rewrite_serves_plan link left count replica old olds dice report new news after from to history
    before more behind kept caller drive none_left begun seen legal way of path =
    let o : Opening = old.opening in
    let whole : List Entry = before ++ (more ++ behind) in
    let at_history : LiveWrite to (state_of o history) = way_writes from to kept (state_of o history)
    (from_one (turned_rows from to) to (state_of o history) way) in
    let legal_history = legal_front o history whole legal in
    let brings : AllWrite to whole = turned_brings from to kept o (state_of o history) whole
    (legal_sound o history legal_history) (run_parts o (start_of o) history whole legal.runs).1 way
    of in
    let front_legal = legal_front o (history ++ before) (more ++ behind)
    (subst (IsLegal o) (sym (append_assoc history before (more ++ behind))) legal) in
    let at_begin : LiveWrite to (state_of o (history ++ before)) =
    writers_stay o history before to front_legal at_history
    (front_writes to before (more ++ behind) brings) in
    let settles = rewrite_settles link left count replica old olds dice report new news after to more
    caller drive none_left seen
    (subst (λ s. LiveWrite to (state_of o s)) (sym begun) at_begin)
    (front_writes to more behind (rest_writes to before (more ++ behind) brings)) in
    was_within o history before more behind to path
    (subst (λ s. WasSettled to o s more path) begun (settles.each path))
