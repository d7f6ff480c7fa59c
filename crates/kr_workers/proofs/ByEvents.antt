-- What the events of a call keep between a caller and what it becomes, the call keeps: for calls
-- that read alone, for what holds a generation meanwhile, and for drives.
use Rattle.std.specs.Prelude.{◌⊎◌, ⊤}
use Rattle.std.proofs.Common.{◌≡◌, ℕ, List, [], ◌∷◌, Option, Result, Ok, Err, inl, inr, ap}
use Rattle.kr_kms.specs.Calls.{Link}
use Rattle.kr_provider.specs.Publication.{Publication}
use Rattle.kr_rollout.specs.declared.answer.Answer.{Answer}
use Rattle.kr_rollout.specs.declared.answer.Answer.TheVariants as answer
use Rattle.kr_rollout.specs.declared.event.Event.{Event}
use Rattle.kr_rollout.specs.declared.event.Event.TheVariants as event
use Rattle.kr_history.specs.Acting.{AddsEntry, Caller}
use Rattle.kr_history.specs.Calls.{AddsNothing, AdoptsNothing, EndsEarly, HoldsMeanwhile, LetsGo}
use Rattle.kr_history.specs.declared.call.CallNo.{CallNo}
use Rattle.kr_history.specs.declared.call.CallNo.TheVariants as refusal
use Rattle.kr_fleet.specs.declared.outcome.Read.{Read}
use Rattle.kr_fleet.specs.declared.outcome.Read.TheVariants as read
use Rattle.kr_fleet.specs.ReadCalls.{Finds, IsRead}
use Rattle.kr_rewrite.specs.declared.outcome.Report.{Report}
use Rattle.kr_rewrite.specs.declared.outcome.Step.{Step}
use Rattle.kr_rewrite.specs.declared.outcome.Step.TheVariants as step
use Rattle.kr_rewrite.specs.Drives.{EndsBy, IsDrive, Walks, last_of, path_of}
use Rattle.kr_rewrite.specs.Rewrites.{IsStep}
use Rattle.kr_workers.specs.ScriptLines.{Workplace}

-- nothing is changed where this is answered
abbrev pub IsSilent : Answer → Type 0
IsSilent (answer.Written revision) = ⊥
IsSilent (answer.Reloaded number) = ⊥
IsSilent (answer.Joined number) = ⊥
IsSilent (answer.Departed number) = ⊥
IsSilent given = ⊤

-- a generation is adopted or let go, or a row is fetched
abbrev pub IsReading : Event → Answer → Type 0
IsReading (event.Adopt replica) given = IsSilent given
IsReading (event.Fetch path) given = IsSilent given
IsReading event.LetGo given = IsSilent given
IsReading made given = ⊥

pub reading_silent : (made : Event) (given : Answer) → IsReading made given → IsSilent given
reading_silent (event.Adopt replica) given r = r
reading_silent (event.Fetch path) given r = r
reading_silent event.LetGo given r = r
reading_silent other given r = absurd r

pub record KeptByEvents (Keeps : (old new : Caller) → Type 0) : Type 0 where
  pub same : (old new : Caller) → new ≡ old → Keeps old new
  pub both : (a b c : Caller) → Keeps a b → Keeps b c → Keeps a c
  pub reads : (old new : Caller) (made : Event) (given : Answer) → IsReading made given
      → AddsEntry old made given new → Keeps old new

module _ {Keeps : (old new : Caller) → Type 0} (kept : KeptByEvents Keeps) where
  pub none_by : (old new : Caller) → AddsNothing old new → Keeps old new
  none_by old new n = kept.same old new n.same

  -- ---- calls that hold a generation meanwhile

  pub early_by : (replica : ℕ) (old new : Caller) (why : CallNo)
      → AdoptsNothing replica old why new → Keeps old new
  early_by replica old new refusal.Gone e =
      kept.reads old new (event.Adopt replica) (answer.Gone replica) tt e
  early_by replica old new refusal.Spent e = none_by old new e
  early_by replica old new refusal.NoMemory (inl e) = kept.same old new e
  early_by replica old new refusal.NoMemory (inr e) =
      kept.reads old new (event.Adopt replica) answer.NoMemory tt e
  early_by replica old new other e = absurd e

  pub let_go_by : {T : Type 0} → (old new : Caller) (done result : Result T CallNo)
      → LetsGo old done result new → Keeps old new
  let_go_by old new done result (inl g) =
      kept.reads old new event.LetGo answer.Released tt g.0
  let_go_by old new done result (inr n) = none_by old new n.0

  pub held_by : {T : Type 0}
      → (Does : (number : ℕ) → Publication → Caller → Result T CallNo → Caller → Type 0)
      (replica : ℕ) (old new : Caller) (result : Result T CallNo)
      → (h : HoldsMeanwhile Does replica old result new) → Keeps h.adopted h.acted
      → Keeps old new
  held_by {T} Does replica old new result h by =
      kept.both old h.adopted new (kept.reads old h.adopted (event.Adopt replica)
      (answer.Adopted h.number h.p) tt h.adopts)
      (kept.both h.adopted h.acted new by
      (let_go_by {T = T} h.acted new h.done result h.lets_go))

  -- unless nothing is adopted
  pub meanwhile_by : {T : Type 0} → (Stays : Type 0)
      (Does : (number : ℕ) → Publication → Caller → Result T CallNo → Caller → Type 0)
      (replica : ℕ) (old new : Caller) (result : Result T CallNo)
      → ((h : HoldsMeanwhile Does replica old result new) → Keeps h.adopted h.acted)
      → EndsEarly replica Stays old result new ⊎ HoldsMeanwhile Does replica old result new
      → Keeps old new
  meanwhile_by Stays Does replica old new (Ok done) by (inl e) = absurd e
  meanwhile_by Stays Does replica old new (Err why) by (inl e) = early_by replica old new why e.0
  meanwhile_by Stays Does replica old new result by (inr h) =
      held_by Does replica old new result h (by h)

  -- what a workplace's caller is where nothing was done
  pub lacking_by : {L D : Type 0} → (old new : Workplace L D) → new ≡ old
      → Keeps old.caller new.caller
  lacking_by {L} {D} old new same =
      kept.same old.caller new.caller (ap (λ (w : Workplace L D). w.caller) same)

  -- ---- a get

  module _ {L : Type 0} (link : L → Link) where
    finds_by : (path : List ℕ) (p : Publication) (old new : Caller) (olds news : List L)
        (result : Result Read CallNo) → Finds link path p old olds result new news
        → Keeps old new
    finds_by path p old new olds news (Ok read.Absent) d =
        kept.reads old new (event.Fetch path) answer.Absent tt d.0.absent
    finds_by path p old new olds news (Ok (read.Value revision plain stale)) d =
        kept.reads old new (event.Fetch path) (answer.Found d.0) tt d.1.found
    finds_by path p old new olds news (Err (refusal.Value why)) d =
        kept.reads old new (event.Fetch path) (answer.Found d.0) tt d.1.found
    finds_by path p old new olds news (Err (refusal.PluginFailed name)) d =
        kept.reads old new (event.Fetch path) (answer.Found d.0) tt d.1.found
    finds_by path p old new olds news (Err refusal.Spent) d = none_by old new d.0
    finds_by path p old new olds news (Err refusal.NoMemory) (inl d) =
        kept.reads old new (event.Fetch path) (answer.Found d.0) tt d.1.found
    finds_by path p old new olds news (Err refusal.NoMemory) (inr d) =
        kept.reads old new (event.Fetch path) answer.NoMemory tt d.0
    finds_by path p old new olds news (Err other) d = absurd d

    pub read_by : (path : List ℕ) (replica : ℕ) (old new : Caller) (olds news : List L)
        (result : Result Read CallNo) → IsRead link path replica old olds result new news
        → Keeps old new
    read_by path replica old new olds news result = meanwhile_by (news ≡ olds)
        (λ (number : ℕ) (p : Publication) (from : Caller) (done : Result Read CallNo)
        (to : Caller). Finds link path p from olds done to news) replica old new result
        (λ h. finds_by path h.p h.adopted h.acted olds news h.done h.does)

  -- ---- a drive, by its steps

  module _ {L D : Type 0} (link : L → Link) (left : D → Option (List ℕ)) (count : D → ℕ)
      (steps_so : (replica : ℕ) (above : List ℕ) (old new : Caller) (olds news : List L)
      (dice after : D) (result : Result Step CallNo)
      → IsStep link left count replica above old olds dice result new news after
      → Keeps old new) where
    walks_by : (replica : ℕ) (above : List ℕ) (steps : List Step) (old new : Caller)
        (olds news : List L) (dice after : D)
        → Walks link left count replica above steps old olds dice new news after
        → Keeps old new
    walks_by replica above [] old new olds news dice after w = kept.same old new w.0
    walks_by replica above (taken ∷ steps) old new olds news dice after w =
        kept.both old w.middle new
        (steps_so replica above old w.middle olds w.mids dice w.between (Ok taken) w.goes)
        (walks_by replica (path_of above taken) steps w.middle new w.mids news w.between after
        w.behind)

    ends_by : (replica : ℕ) (above : List ℕ) (steps : List Step) (old new : Caller)
        (olds news : List L) (dice after : D) (ended : Result Step CallNo) (report : Report)
        → EndsBy link left count replica above steps old olds dice ended report new news after
        → Keeps old new
    ends_by replica above steps old new olds news dice after ended report e =
        kept.both old e.middle new
        (walks_by replica above steps old e.middle olds e.mids dice e.between e.walks)
        (steps_so replica (last_of above steps) e.middle new e.mids news e.between after ended
        e.ends)

    pub drive_by : (replica : ℕ) (above : List ℕ) (old new : Caller) (olds news : List L)
        (dice after : D) (result : Result Report (Report × CallNo))
        → IsDrive link left count replica above old olds dice result new news after
        → Keeps old new
    drive_by replica above old new olds news dice after (Ok report) d =
        ends_by replica above d.steps old new olds news dice after (Ok step.End) report d.ends
    drive_by replica above old new olds news dice after (Err cut) (inl d) =
        ends_by replica above d.steps old new olds news dice after (Err cut.1) cut.0 d.ends
    drive_by replica above old new olds news dice after (Err cut) (inr n) =
        kept.same old new n.same
