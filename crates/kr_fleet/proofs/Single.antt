-- What a call of one event answers, and what is there.
use Rattle.std.specs.Prelude.{IfSome, IsSome}
use Rattle.std.proofs.Common.{◌≡◌, inr, ℕ, List, Option, None, Some, Result, Ok, Err, refl, sym, subst}
use Rattle.kr_history.specs.Acting.{Caller}
use Rattle.kr_history.specs.Asking.{AsksDelete}
use Rattle.kr_history.specs.declared.call.CallNo.{CallNo}
use Rattle.kr_history.specs.declared.call.CallNo.TheVariants as refusal
use Rattle.kr_fleet.specs.SingleCalls.{IsDelete}

-- the Delete was made, so there was memory for its path
pub deletes : (path : List ℕ) (old new : Caller) (result : Result (Option ℕ) CallNo)
    → AsksDelete path old result new → IsDelete path old result new
deletes path old new (Ok (Some revision)) a = a
deletes path old new (Ok None) a = a
deletes path old new (Err refusal.StoreFailed) a = a
deletes path old new (Err (refusal.StoreFull needed)) a = a
deletes path old new (Err refusal.NoMemory) a = inr a
deletes path old new (Err refusal.Spent) a = a
deletes path old new (Err other) a = absurd a

-- ---- what is there

pub some_all : {X : Type 0} (P : X → Type 0) (x : Option X) → ((v : X) → P v) → IfSome x P
some_all P None f = tt
some_all P (Some v) f = f v

pub some_there : {X : Type 0} (x : Option X) (v : X) → x ≡ Some v → IsSome x
some_there x v e = subst (λ y. IsSome y) (sym e) refl
