-- What calls over a core have in common: what each of them keeps, and how one holds a generation
-- meanwhile.
use Rattle.std.specs.Prelude.{◌≡◌, ◌⊎◌, ℕ, List, All, Contains, Option, None, Some, Result, Ok, Err, ⊤}
use Rattle.kr_kms.specs.Opens.{Opens}
use Rattle.kr_provider.specs.Publication.{Publication}
use Rattle.kr_rollout.specs.declared.answer.Answer.TheVariants as answer
use Rattle.kr_history.specs.declared.call.CallNo.{CallNo}
use Rattle.kr_history.specs.declared.call.CallNo.TheVariants as refusal
use Rattle.kr_rollout.specs.declared.event.Event.TheVariants as event
use Rattle.kr_rollout.specs.declared.opening.Entry.{Entry}
use Rattle.kr_history.specs.Acting.{Caller, AddsEntry}
use Rattle.kr_rollout.specs.Callers.{holding}
use Rattle.kr_history.specs.Honesty.{KeepsHonest}

-- ---- what every call keeps

-- by what sources open to so, what the caller sees stays honest at each entry of its seat
abbrev pub KeepsHonestBy : Opens → (old new : Caller) → Type 0
KeepsHonestBy opens old new = KeepsHonest opens old.opening old.seat old.seen
    → KeepsHonest opens new.opening new.seat new.seen

-- whatever sources open to
abbrev pub KeepsHonesty : (old new : Caller) → Type 0
KeepsHonesty old new = (opens : Opens) → KeepsHonestBy opens old new

-- the seat holds nothing, unless it could add no more lines
abbrev pub IsIdleAfter : CallNo → Caller → Type 0
IsIdleAfter refusal.Spent new = ⊤
IsIdleAfter why new = holding new.mine ≡ None

abbrev pub IsIdle : {T : Type 0} → Result T CallNo → Caller → Type 0
IsIdle (Ok done) new = holding new.mine ≡ None
IsIdle (Err why) new = IsIdleAfter why new

-- the seat may add no more lines, and added none
pub record AddsNothing (old new : Caller) : Type 0 where
  pub spent : old.left ≡ 0
  pub same : new ≡ old

-- there is a link to each plugin that configurations may name
abbrev pub AreServed : (names linked : List (List ℕ)) → Type 0
AreServed names linked = All (λ name. Contains linked name) names

-- ---- calls that hold a generation meanwhile: an Adopt, what is done by it, a LetGo

-- the seat holds a generation of the configuration that the bench adopted
pub record HoldsAdopted (published : Option Publication) (own : List Entry) : Type 0 where
  pub number : ℕ
  pub p : Publication
  pub adopted : published ≡ Some p
  pub held : holding own ≡ Some (number, p)

-- nothing was adopted
abbrev pub AdoptsNothing : (replica : ℕ) → Caller → CallNo → Caller → Type 0
AdoptsNothing replica old refusal.Gone new =
    AddsEntry old (event.Adopt replica) (answer.Gone replica) new
AdoptsNothing replica old refusal.Spent new = AddsNothing old new
AdoptsNothing replica old refusal.NoMemory new =
    (new ≡ old) ⊎ AddsEntry old (event.Adopt replica) answer.NoMemory new
AdoptsNothing replica old why new = ⊥

-- the replica's current generation was adopted, with its configuration, or nothing was
abbrev pub Adopts : (replica : ℕ) → Caller → Result (ℕ × Publication) CallNo → Caller → Type 0
Adopts replica old (Ok held) new =
    AddsEntry old (event.Adopt replica) (answer.Adopted held.0 held.1) new
Adopts replica old (Err why) new = AdoptsNothing replica old why new

-- what was adopted is let go and the answer is that of what was done, unless the seat may add no
-- more lines
abbrev pub LetsGo : {T : Type 0} → Caller → (done result : Result T CallNo) → Caller → Type 0
LetsGo old done result new = (AddsEntry old event.LetGo answer.Released new × (result ≡ done))
    ⊎ (AddsNothing old new × (result ≡ Err refusal.Spent))

-- the call ended where it adopted nothing, and this stayed
abbrev pub EndsEarly : {T : Type 0} → (replica : ℕ) → (IsUnchanged : Type 0) → Caller
    → Result T CallNo → Caller → Type 0
EndsEarly replica IsUnchanged old (Ok done) new = ⊥
EndsEarly replica IsUnchanged old (Err why) new = AdoptsNothing replica old why new × IsUnchanged

module _ {T : Type 0}
    (Does : (number : ℕ) → Publication → Caller → Result T CallNo → Caller → Type 0) where
  -- the replica's current generation is adopted, by which the call does this
  pub record HoldsMeanwhile (replica : ℕ) (old : Caller) (result : Result T CallNo) (new : Caller)
      : Type 0 where
    pub number : ℕ
    pub p : Publication
    pub adopted : Caller
    pub done : Result T CallNo
    pub acted : Caller
    pub adopts : AddsEntry old (event.Adopt replica) (answer.Adopted number p) adopted
    pub does : Does number p adopted done acted
    pub lets_go : LetsGo acted done result new
