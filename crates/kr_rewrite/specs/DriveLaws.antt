-- Laws of drives: how many entries one may need, and what their exchanges with plugins promise.
use Rattle.std.specs.Prelude.{◌≡◌, ◌<◌, ◌+◌, ◌*◌, ℕ, List, [], ◌++◌, length, Contains, IsSome, Option, Result, Err}
use Rattle.kr_kms.specs.Cache.{AreOpenBy, CacheState}
use Rattle.kr_kms.specs.Calls.{Link}
use Rattle.kr_kms.specs.Exchanges.{AgreeAll, Exchange}
use Rattle.kr_kms.specs.Opens.{Opens}
use Rattle.kr_store.specs.Rows.{live}
use Rattle.kr_history.specs.declared.call.CallNo.{CallNo}
use Rattle.kr_history.specs.declared.call.CallNo.TheVariants as refusal
use Rattle.kr_rollout.specs.declared.opening.Entry.{Entry}
use Rattle.kr_history.specs.Acting.{Caller, IsCaller}
use Rattle.kr_history.specs.Calls.{KeepsHonestBy}
use Rattle.kr_rollout.specs.Histories.{state_of}
use Rattle.kr_history.specs.Parts.{AddsWithin}
use Rattle.kr_rewrite.specs.DriveExchanges.{IsDriveBy, IsStepBy}
use Rattle.kr_rewrite.specs.Drives.{IsDrive}
use Rattle.kr_rewrite.specs.declared.outcome.Report.{Report}
use Rattle.kr_rewrite.specs.declared.outcome.Step.{Step}

-- each path that had a live row at some time, up to what the caller saw, is one of these
abbrev pub LiveAmong : List (List ℕ) → Caller → Type 0
LiveAmong paths c = (path : List ℕ) (before rest : List Entry) → c.seen ≡ before ++ rest
    → IsSome (live (state_of c.opening before).rows path) → Contains paths path

-- a drive finds each path at most once. So it adds at most four entries for each of them and three
-- for its end, and lacks entries only where it may add fewer
pub record NeedsFew (paths : List (List ℕ)) (old : Caller)
    (result : Result Report (Report × CallNo)) (new : Caller) : Type 0 where
  pub few : AddsWithin (4 * length paths + 3) 0 [] old new
  pub spent : (report : Report) → result ≡ Err (report, refusal.Spent)
      → old.left < 4 * length paths + 3

abbrev pub DrivesNeedFew : {L D : Type 0} → (link : L → Link)
    → (left : D → Option (List ℕ)) → (count : D → ℕ) → Type 0
DrivesNeedFew {L} {D} link left count =
    (replica : ℕ) (above : List ℕ) (old : Caller) (olds : List L) (dice : D)
    (result : Result Report (Report × CallNo)) (new : Caller) (news : List L) (after : D)
    (paths : List (List ℕ))
    → IsDrive link left count replica above old olds dice result new news after
    → LiveAmong paths new → NeedsFew paths old result new

-- ---- by which exchanges

-- the kept seeds are still what their sources open to, and what the caller sees stays honest
abbrev pub KeepsBy : Opens → Caller → Caller → CacheState → Type 0
KeepsBy opens old new kept = AreOpenBy opens kept.rows × KeepsHonestBy opens old new

-- by whatever agrees with all exchanges, where the kept seeds are what their sources open to
abbrev pub StepsAgree : {D : Type 0} → (left : D → Option (List ℕ)) → (count : D → ℕ) → Type 0
StepsAgree {D} left count = (opens : Opens) (replica : ℕ) (above : List ℕ) (old : Caller)
    (cache : CacheState) (dice : D) (result : Result Step CallNo) (new : Caller)
    (kept : CacheState) (after : D) (exchanges : List Exchange) → IsCaller old
    → IsStepBy left count replica above old cache dice result new kept after exchanges
    → AgreeAll opens exchanges → AreOpenBy opens cache.rows → KeepsBy opens old new kept

abbrev pub DrivesAgree : {D : Type 0} → (left : D → Option (List ℕ)) → (count : D → ℕ) → Type 0
DrivesAgree {D} left count = (opens : Opens) (replica : ℕ) (above : List ℕ) (old : Caller)
    (cache : CacheState) (dice : D) (result : Result Report (Report × CallNo)) (new : Caller)
    (kept : CacheState) (after : D) (exchanges : List Exchange) → IsCaller old
    → IsDriveBy left count replica above old cache dice result new kept after exchanges
    → AgreeAll opens exchanges → AreOpenBy opens cache.rows → KeepsBy opens old new kept
