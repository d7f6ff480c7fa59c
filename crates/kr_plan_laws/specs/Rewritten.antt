-- What a rewrite leaves that told `left 0`.
use Rattle.std.specs.Prelude.{◌≡◌, ℕ, IsTrue, List, [], ◌++◌, Option}
use Rattle.kr_kms.specs.Calls.{Link}
use Rattle.kr_config.specs.Kept.{ConfigEntry, keeps}
use Rattle.kr_plan.specs.Merges.{turned_rows}
use Rattle.kr_rollout.specs.declared.opening.Entry.{Entry}
use Rattle.kr_rollout.specs.Histories.{state_of, IsLegal}
use Rattle.kr_history.specs.Acting.{Caller, IsCaller}
use Rattle.kr_rewrite.specs.Drives.{Drives}
use Rattle.kr_rewrite.specs.declared.outcome.Report.{Report}
use Rattle.kr_plan_laws.specs.LiveStates.{IsUnderWay, AreOfRound}
use Rattle.kr_plan_laws.specs.Settled.{AreSettled, LiveWrite, AllWrite, WasSettled}

-- A drive over all paths that left no row, while all live configurations write as `to` does and none
-- comes that doesn't: each path was settled at some moment of it, and at its end all that is stored
-- is. A row that had changed meanwhile is so by what was written there.
pub record SettlesAll (to : List ConfigEntry) (old new : Caller) (more : List Entry) : Type 0 where
  pub each : (path : List ℕ) → WasSettled to old.opening old.seen more path
  pub at_end : AreSettled to (state_of old.opening new.seen)

abbrev pub RewriteSettles : {L D : Type 0} → (link : L → Link) → (left : D → Option (List ℕ))
    → (count : D → ℕ) → Type 0
RewriteSettles {L} {D} link left count = (replica : ℕ) (old : Caller) (olds : List L) (dice : D)
    (report : Report) (new : Caller) (news : List L) (after : D) (to : List ConfigEntry)
    (more : List Entry) → IsCaller old
    → Drives link left count replica [] old olds dice report new news after
    → report.left ≡ 0
    → new.seen ≡ old.seen ++ more → LiveWrite to (state_of old.opening old.seen)
    → AllWrite to more → SettlesAll to old new more

-- So it serves a plan: one that began and ended between the plan's last two rounds, while only the
-- turned settings came, settles each path there.
abbrev pub RewriteServesPlan : {L D : Type 0} → (link : L → Link) → (left : D → Option (List ℕ))
    → (count : D → ℕ) → Type 0
RewriteServesPlan {L} {D} link left count = (replica : ℕ) (old : Caller) (olds : List L) (dice : D)
    (report : Report) (new : Caller) (news : List L) (after : D) (from to : List ConfigEntry)
    (history before more behind : List Entry) → IsTrue (keeps to) → IsCaller old
    → Drives link left count replica [] old olds dice report new news after
    → report.left ≡ 0
    → old.seen ≡ history ++ before → new.seen ≡ old.seen ++ more
    → IsLegal old.opening (history ++ (before ++ (more ++ behind)))
    → IsUnderWay (turned_rows from to) (turned_rows from to) (state_of old.opening history)
    → AreOfRound (turned_rows from to) (state_of old.opening history)
    (before ++ (more ++ behind))
    → (path : List ℕ) → WasSettled to old.opening history (before ++ (more ++ behind)) path
