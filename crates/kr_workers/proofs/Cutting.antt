-- A call is cut short only where its seat may add fewer lines than the call may need.
use Rattle.std.proofs.Common.{◌≡◌, ℕ, ◌<◌, ◌≤◌, ◌+◌, List, Option, Result, Ok, Err, inl, inr, ap, sym, subst, arith}
use Rattle.kr_config.specs.Kept.{ConfigEntry}
use Rattle.kr_kms.specs.Calls.{Link}
use Rattle.kr_provider.specs.Publication.{Publication}
use Rattle.kr_provider.specs.declared.refusal.ValueNo.{ValueNo}
use Rattle.kr_provider.specs.declared.refusal.ValueNo.TheVariants.{LooksEncrypted, TooLarge}
use Rattle.kr_rollout.specs.declared.answer.Answer.TheVariants as answer
use Rattle.kr_history.specs.declared.call.CallNo.{CallNo}
use Rattle.kr_history.specs.declared.call.CallNo.TheVariants as refusal
use Rattle.kr_rollout.specs.declared.event.Event.{Event}
use Rattle.kr_rollout.specs.declared.event.Event.TheVariants as event
use Rattle.kr_history.specs.Acting.{Caller, AddsEntry}
use Rattle.kr_history.specs.Calls.{HoldsMeanwhile, LetsGo}
use Rattle.kr_fleet.specs.declared.outcome.Loaded.{Loaded}
use Rattle.kr_fleet.specs.declared.outcome.Loaded.TheVariants as loaded
use Rattle.kr_fleet.specs.declared.outcome.Read.{Read}
use Rattle.kr_fleet.specs.declared.outcome.Read.TheVariants as found
use Rattle.kr_fleet.specs.SingleCalls.{IsDelete, IsLeave}
use Rattle.kr_fleet.specs.LoadCalls.{BringsBy, IsRefresh, Refreshes, StopsRefresh, plugin_names}
use Rattle.kr_fleet.specs.ReadCalls.{Finds, IsRead}
use Rattle.kr_fleet.specs.WriteCalls.{IsWrite, Puts}
use Rattle.kr_provider.specs.AskedLinks.{AskedOnly}

left_stays : (old new : Caller) → new ≡ old → old.left ≤ new.left + 1
left_stays old new same =
    let e : new.left ≡ old.left = ap (λ (c : Caller). c.left) same in omega (arith, e)

-- ---- one event

pub delete_spent : (path : List ℕ) (old new : Caller) (result : Result (Option ℕ) CallNo)
    → IsDelete path old result new → result ≡ Err refusal.Spent → old.left < 1
delete_spent path old new result is e =
    let d = subst (λ r. IsDelete path old r new) e is in omega (arith, d.spent)

pub leave_spent : (replica : ℕ) (old new : Caller) (result : Result (Option ℕ) CallNo)
    → IsLeave replica old result new → result ≡ Err refusal.Spent → old.left < 1
leave_spent replica old new result is e =
    let d = subst (λ r. IsLeave replica old r new) e is in omega (arith, d.spent)

-- ---- between an Adopt and a LetGo

module _ {T : Type 0}
    (Does : (number : ℕ) → Publication → Caller → Result T CallNo → Caller → Type 0)
    (one : (number : ℕ) (p : Publication) (from : Caller) (done : Result T CallNo) (to : Caller)
    → Does number p from done to → from.left ≤ to.left + 1)
    (none : (number : ℕ) (p : Publication) (from to : Caller)
    → Does number p from (Err refusal.Spent) to → from.left ≡ 0) where
  spent_by : (replica number : ℕ) (p : Publication) (old adopted acted new : Caller)
      (done : Result T CallNo)
      → AddsEntry old (event.Adopt replica) (answer.Adopted number p) adopted
      → Does number p adopted done acted → LetsGo acted done (Err refusal.Spent) new → old.left < 3
  spent_by replica number p old adopted acted new done a d (inl g) =
      let z = none number p adopted acted
      (subst (λ (r : Result T CallNo). Does number p adopted r acted) (sym g.1) d) in
      omega (arith, a.left_is, z)
  spent_by replica number p old adopted acted new done a d (inr n) =
      omega (arith, a.left_is, one number p adopted done acted d, n.0.spent)

  pub held_spent : (replica : ℕ) (old new : Caller)
      → HoldsMeanwhile Does replica old (Err refusal.Spent) new → old.left < 3
  held_spent replica old new h = spent_by replica h.number h.p old h.adopted h.acted new h.done
      h.adopts h.does h.lets_go

-- ---- read

module _ {L : Type 0} (link : L → Link) (path : List ℕ) where
  finds_one : (p : Publication) (old : Caller) (olds : List L) (done : Result Read CallNo)
      (new : Caller) (news : List L) → Finds link path p old olds done new news
      → old.left ≤ new.left + 1
  finds_one p old olds (Ok found.Absent) new news d = omega (arith, d.0.absent.left_is)
  finds_one p old olds (Ok (found.Value revision plain stale)) new news d =
      omega (arith, d.1.found.left_is)
  finds_one p old olds (Err (refusal.Value why)) new news d = omega (arith, d.1.found.left_is)
  finds_one p old olds (Err (refusal.PluginFailed name)) new news d =
      omega (arith, d.1.found.left_is)
  finds_one p old olds (Err refusal.Spent) new news d = left_stays old new d.0.same
  finds_one p old olds (Err refusal.NoMemory) new news (inl d) = omega (arith, d.1.found.left_is)
  finds_one p old olds (Err refusal.NoMemory) new news (inr d) = omega (arith, d.0.left_is)
  finds_one p old olds (Err other) new news d = absurd d

  spent_read : (replica : ℕ) (old : Caller) (olds : List L) (new : Caller) (news : List L)
      → IsRead link path replica old olds (Err refusal.Spent) new news → old.left < 3
  spent_read replica old olds new news (inl e) = omega (arith, e.0.spent)
  spent_read replica old olds new news (inr h) = held_spent {T = Read}
      (λ number p from done to. Finds link path p from olds done to news)
      (λ number p from done to d. finds_one p from olds done to news d)
      (λ number p from to d. d.0.spent) replica old new h

  pub read_spent : (replica : ℕ) (old : Caller) (olds : List L) (new : Caller) (news : List L)
      (result : Result Read CallNo) → IsRead link path replica old olds result new news
      → result ≡ Err refusal.Spent → old.left < 3
  read_spent replica old olds new news result is e = spent_read replica old olds new news
      (subst (λ (r : Result Read CallNo). IsRead link path replica old olds r new news) e is)

-- ---- write

module _ {D : Type 0} (left : D → Option (List ℕ)) (count : D → ℕ)
    (resource path plain : List ℕ) where
  refused_one : (p : Publication) (old : Caller) (dice : D) (why : ValueNo) (new : Caller)
      (after : D)
      → Puts left count resource path plain p old dice (Err (refusal.Value why)) new after
      → old.left ≤ new.left + 1
  refused_one p old dice LooksEncrypted new after d = left_stays old new d.1
  refused_one p old dice TooLarge new after d = left_stays old new d.1
  refused_one p old dice other new after d = absurd d

  puts_one : (p : Publication) (old : Caller) (dice : D) (done : Result ℕ CallNo)
      (new : Caller) (after : D) → Puts left count resource path plain p old dice done new after
      → old.left ≤ new.left + 1
  puts_one p old dice (Ok revision) new after d = omega (arith, d.put.left_is)
  puts_one p old dice (Err (refusal.Value why)) new after d =
      refused_one p old dice why new after d
  puts_one p old dice (Err refusal.DiceFailed) new after d = left_stays old new d.1
  puts_one p old dice (Err refusal.StoreFailed) new after d = omega (arith, d.put.left_is)
  puts_one p old dice (Err (refusal.StoreFull needed)) new after d =
      omega (arith, d.put.left_is)
  puts_one p old dice (Err refusal.Spent) new after d = left_stays old new d.nothing.same
  puts_one p old dice (Err refusal.NoMemory) new after (inl d) = left_stays old new d.1
  puts_one p old dice (Err refusal.NoMemory) new after (inr d) = omega (arith, d.put.left_is)
  puts_one p old dice (Err other) new after d = absurd d

  spent_write : (replica : ℕ) (old : Caller) (dice : D) (new : Caller) (after : D)
      → IsWrite left count resource path plain replica old dice (Err refusal.Spent) new after
      → old.left < 3
  spent_write replica old dice new after (inl e) = omega (arith, e.0.spent)
  spent_write replica old dice new after (inr h) = held_spent {T = ℕ}
      (λ number p from done to. Puts left count resource path plain p from dice done to after)
      (λ number p from done to d. puts_one p from dice done to after d)
      (λ number p from to d. d.nothing.spent) replica old new h

  pub write_spent : (replica : ℕ) (old : Caller) (dice : D) (new : Caller) (after : D)
      (result : Result ℕ CallNo)
      → IsWrite left count resource path plain replica old dice result new after
      → result ≡ Err refusal.Spent → old.left < 3
  write_spent replica old dice new after result is e = spent_write replica old dice new after
      (subst (λ (r : Result ℕ CallNo).
      IsWrite left count resource path plain replica old dice r new after) e is)

-- ---- reload, join and refresh

module _ {L D : Type 0} (link : L → Link) (left : D → Option (List ℕ))
    (count : D → ℕ) where
  brings_one : (rows : List ConfigEntry) (brings : Publication → Event) (replica : ℕ) (old : Caller)
      (olds : List L) (dice : D) (why : CallNo) (new : Caller) (news : List L) (after : D)
      → BringsBy link left count rows brings replica old olds dice why new news after
      → old.left ≤ new.left + 1
  brings_one rows brings replica old olds dice (refusal.PluginFailed name) new news after d =
      left_stays old new d.1
  brings_one rows brings replica old olds dice refusal.DiceFailed new news after d =
      left_stays old new d.1
  brings_one rows brings replica old olds dice (refusal.Unhealthy name field text) new news after
      d = left_stays old new d.1
  brings_one rows brings replica old olds dice refusal.Gone new news after d =
      omega (arith, d.brought.left_is)
  brings_one rows brings replica old olds dice refusal.Spent new news after d =
      left_stays old new d.1.same
  brings_one rows brings replica old olds dice refusal.NoMemory new news after (inl d) =
      left_stays old new d.1
  brings_one rows brings replica old olds dice refusal.NoMemory new news after (inr (inl d)) =
      left_stays old new d.1
  brings_one rows brings replica old olds dice refusal.NoMemory new news after (inr (inr d)) =
      omega (arith, d.brought.left_is)
  brings_one rows brings replica old olds dice other new news after d = absurd d

  stops_one : (replica number : ℕ) (p : Publication) (old : Caller) (olds : List L) (dice : D)
      (why : CallNo) (new : Caller) (news : List L) (after : D)
      → StopsRefresh link left count replica number p old olds dice why new news after
      → old.left ≤ new.left + 1
  stops_one replica number p old olds dice why new news after (inl d) = left_stays old new d.1
  stops_one replica number p old olds dice why new news after (inr d) = brings_one p.rows _ replica
      old d.asked dice why new news after d.brought

  refreshes_one : (replica number : ℕ) (p : Publication) (old : Caller) (olds : List L) (dice : D)
      (done : Result Loaded CallNo) (new : Caller) (news : List L) (after : D)
      → Refreshes link left count replica number p old olds dice done new news after
      → old.left ≤ new.left + 1
  refreshes_one replica number p old olds dice (Ok (loaded.Generation made)) new news after d =
      omega (arith, d.brought.brought.left_is)
  refreshes_one replica number p old olds dice (Ok (loaded.Refused verdict)) new news after d =
      absurd d
  refreshes_one replica number p old olds dice (Ok (loaded.Moved current)) new news after d =
      omega (arith, d.brought.brought.left_is)
  refreshes_one replica number p old olds dice (Ok (loaded.Unchanged same)) new news after d =
      left_stays old new d.2
  refreshes_one replica number p old olds dice (Err why) new news after d =
      stops_one replica number p old olds dice why new news after d

  none_refreshed : (replica number : ℕ) (p : Publication) (old : Caller) (olds : List L) (dice : D)
      (new : Caller) (news : List L) (after : D)
      → StopsRefresh link left count replica number p old olds dice refusal.Spent new news
      after → old.left ≡ 0
  none_refreshed replica number p old olds dice new news after (inl d) = absurd d.0
  none_refreshed replica number p old olds dice new news after (inr d) = d.brought.1.spent

  spent_refresh : (replica : ℕ) (old : Caller) (olds : List L) (dice : D) (new : Caller)
      (news : List L) (after : D)
      → IsRefresh link left count replica old olds dice (Err refusal.Spent) new news after
      → old.left < 3
  spent_refresh replica old olds dice new news after (inl e) = omega (arith, e.0.spent)
  spent_refresh replica old olds dice new news after (inr h) = held_spent {T = Loaded}
      (λ number p from done to. Refreshes link left count replica number p from olds dice done
      to news after × AskedOnly link (plugin_names p.seeds) olds news)
      (λ number p from done to d. refreshes_one replica number p from olds dice done to news after
      d.0)
      (λ number p from to d. none_refreshed replica number p from olds dice to news after d.0)
      replica old new h

  pub refresh_spent : (replica : ℕ) (old : Caller) (olds : List L) (dice : D) (new : Caller)
      (news : List L) (after : D) (result : Result Loaded CallNo)
      → IsRefresh link left count replica old olds dice result new news after
      → result ≡ Err refusal.Spent → old.left < 3
  refresh_spent replica old olds dice new news after result is e =
      spent_refresh replica old olds dice new news after
      (subst (λ (r : Result Loaded CallNo).
      IsRefresh link left count replica old olds dice r new news after) e is)
