-- What a desk keeps of a caller and of its bench, so that each call may be made.
use Rattle.std.specs.Prelude.{◌≡◌, ℕ, ◌+◌, ◌≤◌, Bool, true, false, List, [], ◌∷◌, codes, length, get_or, None, Result, Ok, Err}
use Rattle.kr_provider.specs.KeyPages.{KeyPages, size_of}
use Rattle.kr_history.specs.declared.call.CallNo.{CallNo}
use Rattle.kr_history.specs.declared.call.CallNo.TheVariants.{Spent}
use Rattle.kr_rewrite.specs.declared.outcome.Report.{Report}
use Rattle.kr_history.specs.Acting.{Caller}
use Rattle.kr_rollout.specs.Callers.{holding, reloads_in}

-- the names of the plugins that configurations may name
abbrev pub one_name : List (List ℕ)
one_name = codes "p" ∷ []

-- the bench has a link to that plugin, and a page for each key
pub record IsBench (linked : List (List ℕ)) (pages : KeyPages) : Type 0 where
  pub linked_is : linked ≡ one_name
  pub pages_are : 64 ≤ size_of pages

-- there are so many replicas, so many configurations may still be brought, and nothing is held
-- unless the seat has ended
pub record IsCallerOf (c : Caller) (replicas left : ℕ) (ended : Bool) : Type 0 where
  pub names : c.opening.names ≡ one_name
  pub replicas_are : length c.opening.replicas ≡ replicas
  pub room : reloads_in c.mine + left ≤ get_or c.opening.reloads c.seat 0
  pub idle : ended ≡ false → holding c.mine ≡ None

-- the call ended since the seat may add no more lines
abbrev pub is_spent : {T : Type 0} → Result T CallNo → Bool
is_spent (Ok done) = false
is_spent (Err Spent) = true
is_spent (Err why) = false

-- a drive's report, and how it ended
abbrev pub parts_of : Result Report (Report × CallNo) → Report × Result (Unit {0}) CallNo
parts_of (Ok report) = (report, Ok tt)
parts_of (Err cut) = (cut.0, Err cut.1)
