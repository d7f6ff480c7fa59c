-- Where all was ready and no count rose, no reply of a fleet is a fault or tells of an unhealthy
use Rattle.std.proofs.Common.{◌≡◌, ℕ, ◌<◌, ◌⊎◌, zero, suc, List, [], ◌∷◌, length, Contains, Option, None, Some, Result, Ok, Err, sym, ◌∙◌, ap, subst, inl, inr, arith}
use Rattle.std.specs.List.{slice_get}
use Rattle.std.proofs.lemmas.List.{get_or-map, length-map}
use Rattle.std.proofs.lemmas.List.Elements.{All-contains}
use Rattle.std.proofs.lemmas.Option.{get_or_from_slice_get, slice_get_within}
use Rattle.kr_base.specs.Faults.{Rose}
use Rattle.kr_base.proofs.Counting.{Rose-later}
use Rattle.kr_kms.specs.Calls.{Link}
use Rattle.kr_kms.specs.Exchanges.{Exchange}
use Rattle.kr_kms.specs.Health.{breach_in}
use Rattle.kr_kms.specs.Outside.{link_at}
use Rattle.kr_kms.specs.declared.plugin.Status.{Status}
use Rattle.kr_provider.specs.Names.{names_of}
use Rattle.kr_rollout.specs.Histories.{IsRun, state_from, state_of}
use Rattle.kr_rollout.specs.Openings.{start_of}
use Rattle.kr_rollout.specs.States.{State}
use Rattle.kr_rollout.specs.Steps.{after}
use Rattle.kr_rollout.specs.Writes.{Writes}
use Rattle.kr_rollout.specs.declared.line.Gave.TheVariants as gave
use Rattle.kr_rollout.specs.declared.opening.Entry.{Entry}
use Rattle.kr_rollout.specs.declared.opening.Opening.{Opening}
use Rattle.kr_script.specs.Fleets.{Fleet, worker_of}
use Rattle.kr_workers.specs.Endings.{status_of}
use Rattle.kr_workers.specs.Sentences.{FaultsRose, MayBeUnhealthy, RestsOn, SomeWorker}
use Rattle.kr_workers.specs.declared.ending.Ending.{Ending}
use Rattle.kr_workers.specs.declared.ending.Ending.TheVariants as ending
use Rattle.kr_workers.specs.declared.worker.Worker.{Worker}
use Rattle.kr_workers.proofs.Sentencing.{histories_tell}
use Rattle.kr_cmd_steps.specs.Environment.{Environment, IsHome, step_state}
use Rattle.kr_cmd_fleet.specs.Causes.{NoneRose}
use Rattle.kr_cmd_fleet.specs.FleetReadings.{IsCompleted}
use Rattle.kr_cmd_fleet.specs.FleetReady.{IsReady}
use Rattle.kr_cmd_fleet.specs.Fleets.{Begun, DidFleet, IsEquipped, RanFleet, RunsFleet, Starts, StopsBefore, TellsFleet, fleet_steps, opening_of, settled_behind}
use Rattle.kr_cmd_messages.specs.Message.{status_of as stop_status}
use Rattle.kr_cmd_steps.specs.Ran.{WroteNothing}
use Rattle.kr_cmd_messages.specs.Receipts.{Receipt}
use Rattle.kr_cmd_steps.specs.Steps.{StepState, asking, drawing, gives, refuses, scanning, settling}
use Rattle.kr_cmd_messages.specs.declared.fleet_words.FleetWords.{FleetWords}
use Rattle.kr_cmd_steps.specs.declared.programs.Program.{Program}
use Rattle.kr_cmd_messages.specs.declared.refusal.Object.TheVariants.{Store}
use Rattle.kr_cmd_messages.specs.declared.refusal.Stop.{Stop}
use Rattle.kr_cmd_messages.specs.declared.refusal.Stop.TheVariants.{Words, Refused, Fault, NoMemory}
use Rattle.kr_cmd_steps.specs.inner.ProgramNames.{names_in}
use Rattle.kr_cmd_fleet.proofs.SettledRuns.{home_settled, rose_unsettled}
use Rattle.kr_cmd_steps.proofs.Loading.{rose_on}
use Rattle.kr_cmd_steps.proofs.RisingCounts.{counted}
use Rattle.kr_cmd_laws.proofs.FleetWalk.{BeginsWell, is_told, walks}
use Rattle.kr_cmd_steps.proofs.GivesOnly.{allowed}

-- plugin, and nothing stops it before its workers but want of memory.

-- ---- counts

-- an entry of a run says that the store failed, so its count rose
store_rose : (o : Opening) (st : State) (history : List Entry) → IsRun o st history
    → (e : Entry) → Contains history e → e.line.gave ≡ gave.StoreFailed
    → Rose st.count (state_from st history).count
store_rose o st [] runs e (k, below, is) says = absurd (omega (arith, below))
store_rose o st (first ∷ history) runs e (zero, below, is) says =
    let own : first.line.gave ≡ gave.StoreFailed = ap (λ (x : Entry). x.line.gave) is ∙ says in
    let failed = subst (λ g. Writes g o st first) own runs.0.writes in
    rose_on st.count first.line.faults (state_from (after st first) history).count failed.3
    (counted o (after st first) history runs.1)
store_rose o st (first ∷ history) runs e (suc k, below, is) says =
    Rose-later st.count first.line.faults (state_from (after st first) history).count
    runs.0.counted
    (store_rose o (after st first) history runs.1 e (k, omega (arith, below), is) says)

-- an entry of a run says that the store is full, so its row would have passed the limit
passes_limit : (o : Opening) (st : State) (history : List Entry) → IsRun o st history
    → (e : Entry) → Contains history e → (needed : ℕ) → e.line.gave ≡ gave.StoreFull needed
    → o.limit < needed
passes_limit o st [] runs e (k, below, is) needed says = absurd (omega (arith, below))
passes_limit o st (first ∷ history) runs e (zero, below, is) needed says =
    let own : first.line.gave ≡ gave.StoreFull needed =
    ap (λ (x : Entry). x.line.gave) is ∙ says in
    (subst (λ g. Writes g o st first) own runs.0.writes).3
passes_limit o st (first ∷ history) runs e (suc k, below, is) needed says =
    passes_limit o (after st first) history runs.1 e (k, omega (arith, below), is) needed says

-- ---- names

name_there : {L : Type 0} (link : L → Link) (links : List L) (it : L) → Contains links it
    → Contains (names_of link links) (link it).name
name_there link links it (k, below, is) = (
  k,
  omega (arith, below, length-map links (λ l. (link l).name)),
  get_or-map (λ l. (link l).name) links k it (link it).name below ∙ ap (λ l. (link l).name) is,
)

-- ---- whether its workers were started

pub started_or_not : {T L D : Type 0} {link : L → Link}
    {step : L → Exchange → L → Type 0} {lent took : ℕ → L → Type 0}
    {left : D → Option (List ℕ)} {count : D → ℕ} {words : FleetWords} {old new : Environment}
    {output : Receipt} {result : Result Ending Stop}
    → DidFleet T link step lent took left count words old new output result
    → StopsBefore T link step left count (fleet_steps words) words.store old new output result
    ⊎ Starts T link step lent took left count words old new output result
started_or_not {T} {link = link} {step = step} {lent = lent} {took = took}
    {left = left} {count = count} {words = words} {old = old} {new = new} {output = output}
    {result = result} d = by d.did
  where
    by : StopsBefore T link step left count (fleet_steps words) words.store old new output
        result
        ⊎ ((s : Starts T link step lent took left count words old new output result)
        × (s.exchanges ≡ d.exchanges))
        → StopsBefore T link step left count (fleet_steps words) words.store old new output
        result
        ⊎ Starts T link step lent took left count words old new output result
    by (inl stops) = inl stops
    by (inr began) = inr began.0

module _ (T : Type 0) {L D : Type 0} (link : L → Link)
    (step : L → Exchange → L → Type 0) (lent took : ℕ → L → Type 0)
    (left : D → Option (List ℕ)) (count : D → ℕ) (words : FleetWords) (old : Environment)
    (ready : IsReady words old) (new : Environment) (output errors : Receipt)
    (none : NoneRose old new output errors) where
  -- a worker's link is the seat's, and no seat's count rose
  module _ (programs : List Program) (seat : ℕ) (a : Environment) (links : List L) (dice : D)
      (has : IsEquipped link left count programs seat a links dice) where
    link_is : (it : L) → Contains links it
        → link it ≡ link_at a.world.links seat (link it).name
    link_is it c = All-contains (λ l. link l ≡ link_at a.world.links seat (link l).name) links it
        has.links_are c

    named_there : (it : L) → Contains links it → Contains (names_in programs) (link it).name
    named_there it c = subst (λ ns. Contains ns (link it).name) has.names
        (name_there link links it c)

  module _ (begun : Begun) (mid : Environment) (since : IsHome old mid) (end : StepState)
      (begins : BeginsWell words old ready begun end)
      (links : mid.world.links.told ≡ old.world.links.told)
      (history : List Entry) (ended : List (Worker T L D))
      (runs : RunsFleet link step left count words.store begun mid new history ended) where
    many_are : length runs.workers ≡ length ready.fleet.workers
    many_are = runs.many ∙ sym (length-map runs.parts worker_of)
        ∙ ap length (runs.parts_are ∙ ap (λ (f : Fleet). f.workers) begins.fleet_is)

    module _ (number : ℕ) (before : Worker T L D)
        (is : slice_get runs.workers number ≡ Some before) where
      within : number < length runs.workers
      within = slice_get_within runs.workers number before is

      was : IsEquipped link left count begun.plan.programs number mid before.bench.links
          before.bench.dice
      was = subst (λ (w : Worker T L D). IsEquipped link left count begun.plan.programs number mid
          w.bench.links w.bench.dice)
          (get_or_from_slice_get runs.workers number before before is)
          (runs.before number before within)

    module _ (number : ℕ) (now : Worker T L D) (is : slice_get ended number ≡ Some now) where
      has_now : IsEquipped link left count begun.plan.programs number new now.bench.links
          now.bench.dice
      has_now = subst (λ (w : Worker T L D). IsEquipped link left count begun.plan.programs number
          new w.bench.links w.bench.dice) (get_or_from_slice_get ended number now now is)
          (runs.after number now (slice_get_within ended number now is))

    no_worker_fault : SomeWorker runs.workers ended (FaultsRose link count history) → ⊥
    no_worker_fault s = by s.has
      where
        was_so : IsEquipped link left count begun.plan.programs s.number mid s.before.bench.links
            s.before.bench.dice
        was_so = was s.number s.before s.before_is

        now_so : IsEquipped link left count begun.plan.programs s.number new s.after.bench.links
            s.after.bench.dice
        now_so = has_now s.number s.after s.after_is

        by : FaultsRose link count history s.before s.after → ⊥
        by (inl (name, f)) =
            let one = ap (λ (l : Link). l.count) (link_is begun.plan.programs s.number mid
            s.before.bench.links s.before.bench.dice was_so f.old f.old_there)
            ∙ ap (λ n. mid.world.links.faults (s.number, n)) f.old_named in
            let other = ap (λ (l : Link). l.count) (link_is begun.plan.programs s.number new
            s.after.bench.links s.after.bench.dice now_so f.new f.new_there)
            ∙ ap (λ n. new.world.links.faults (s.number, n)) f.new_named in
            none.calls (asking s.number name) (Rose-later _ _ _ (since.links.later (s.number, name))
            (subst (λ n. Rose n (new.world.links.faults (s.number, name))) one
            (subst (λ n. Rose (link f.old).count n) other f.rose)))
        by (inr rose) = none.calls (drawing s.number) (Rose-later _ _ _
            (since.dice.later s.number)
            (subst (λ n. Rose n (new.world.dice.faults s.number)) was_so.count_is
            (subst (λ n. Rose (count s.before.bench.dice) n) now_so.count_is rose)))

    no_store_fault : (e : Entry) → Contains history e → e.line.gave ≡ gave.StoreFailed → ⊥
    no_store_fault e c says =
        let o = opening_of words.store begun mid in
        let rose : Rose (mid.world.tapes.faults words.store) (state_of o history).count =
        store_rose o (start_of o) history runs.one.legal.runs e c says in
        none.calls (scanning Store words.store)
        (Rose-later _ _ _ (since.tapes.later words.store)
        (subst (λ n. Rose (mid.world.tapes.faults words.store) n) (sym runs.counted) rose))

    no_fault : RestsOn link count history runs.workers ended ending.Fault → ⊥
    no_fault (inl some) = no_worker_fault some
    no_fault (inr (e, c, says)) = no_store_fault e c says

    -- each plugin is healthy
    no_illness : RestsOn link count history runs.workers ended ending.Unhealthy → ⊥
    no_illness s = by s.has
      where
        was_so : IsEquipped link left count begun.plan.programs s.number mid s.before.bench.links
            s.before.bench.dice
        was_so = was s.number s.before s.before_is

        told : (it : L) → Contains s.before.bench.links it
            → (status : Status) × ((link it).status ≡ Some status) × (breach_in status ≡ None)
        told it c =
            let name = (link it).name in
            let fine = begins.healthy name (named_there begun.plan.programs s.number mid
            s.before.bench.links s.before.bench.dice was_so it c) s.number
            (let below = within s.number s.before s.before_is in
            omega (arith, below, many_are)) in (
              fine.0,
              ap (λ (l : Link). l.status) (link_is begun.plan.programs s.number mid
                  s.before.bench.links s.before.bench.dice was_so it c)
                  ∙ ap (λ f. f (s.number, name)) links ∙ fine.1,
              fine.2,
            )

        by : MayBeUnhealthy link count history s.before s.after → ⊥
        by (name, field, text, has) =
            let t = told has.it has.there in
            let same : t.0 ≡ has.has.0 =
            is_told (link has.it).status t.0 has.has.0 t.1 has.has.1 in
            absurd (let e : None ≡ Some (field, text) =
            sym t.2 ∙ ap breach_in same ∙ has.has.2 in cc)

  abbrev Completed : ℕ → Type 0
  Completed status = IsCompleted T link step lent took left count words old new output errors
      status

  module _ (e : Ending) (s : Starts T link step lent took left count words old new output
      (Ok e))
      (idle : WroteNothing errors) where
    begins : BeginsWell words old ready s.begun s.reaches.end
    begins = allowed (BeginsWell words old ready) (gives s.begun) s.reaches.end
        (fleet_steps words) (step_state old) (walks words old ready) s.reaches.goes

    links : s.mid.world.links.told ≡ old.world.links.told
    links = s.reaches.stays.links ∙ begins.sees.links

    rests : RestsOn link count s.history s.runs.workers s.ended e
    rests = subst (RestsOn link count s.history s.runs.workers s.ended) (sym s.writes.0)
        (histories_tell T link step left count s.runs.files s.history
        (opening_of words.store s.begun s.mid) s.runs.parts s.begun.budgets s.runs.workers s.ended
        s.runs.one).rests

  -- the workers ran
  ended_so : (status : ℕ) (e : Ending)
      → Starts T link step lent took left count words old new output (Ok e)
      → WroteNothing errors
      → status ≡ status_of e → Completed status
  ended_so status ending.Done s idle is = inl (is, (s, idle))
  ended_so status ending.Refused s idle is = inr (inl (is, (s, idle)))
  ended_so status ending.Full s idle is =
      let r = rests ending.Full s idle in
      let o = opening_of words.store s.begun s.mid in
      let passed = passes_limit o (start_of o) s.history s.runs.one.legal.runs r.0 r.1 r.2 r.3 in
      inr (inr (inl (is, (s, idle, (r.0, r.1, r.2, r.3, passed)))))
  ended_so status ending.Memory s idle is = inr (inr (inr is))
  ended_so status ending.Fault s idle is = absurd (no_fault s.begun
      (settled_behind words.store s.mid) (home_settled words.store s.since) s.reaches.end
      (begins ending.Fault s idle) (links ending.Fault s idle) s.history s.ended s.runs
      (rests ending.Fault s idle))
  ended_so status ending.Unhealthy s idle is = absurd (no_illness s.begun
      (settled_behind words.store s.mid) (home_settled words.store s.since) s.reaches.end
      (begins ending.Unhealthy s idle) (links ending.Unhealthy s idle) s.history
      s.ended s.runs (rests ending.Unhealthy s idle))

  -- they didn't
  stopped_so : (status : ℕ) (stop : Stop) → status ≡ stop_status (Err stop)
      → StopsBefore T link step left count (fleet_steps words) words.store old new output
      (Err stop)
      ⊎ Starts T link step lent took left count words old new output (Err stop)
      → Completed status
  stopped_so status (Words why) is (inl (inl ends, idle)) = absurd ends
  stopped_so status (Words why) is (inl (inr (inl (e, lacking)), idle)) = absurd cc
  stopped_so status (Words why) is (inl (inr (inr (mid, begun, reaches, fails, home)), idle)) =
      absurd (let e : Words why ≡ Fault Store _ = fails.stops in cc)
  stopped_so status (Refused why) is (inl (inl ends, idle)) =
      absurd (allowed (BeginsWell words old ready) (refuses why) ends.end (fleet_steps words)
      (step_state old) (walks words old ready) ends.goes)
  stopped_so status (Refused why) is (inl (inr (inl (e, lacking)), idle)) = absurd cc
  stopped_so status (Refused why) is (inl (inr (inr (mid, begun, reaches, fails, home)), idle)) =
      absurd (let e : Refused why ≡ Fault Store _ = fails.stops in cc)
  stopped_so status (Fault object n) is (inl (inl (call, reaches, fault), idle)) =
      absurd (none.calls call fault.1)
  stopped_so status (Fault object n) is (inl (inr (inl (e, lacking)), idle)) = absurd cc
  stopped_so status (Fault object n) is
      (inl (inr (inr (mid, begun, reaches, fails, home)), idle)) =
      absurd (none.calls (settling Store words.store)
      (Rose-later _ _ _ (home.tapes.later words.store) (rose_unsettled fails)))
  stopped_so status (Fault object n) is (inr s) = absurd (none.written s.writes.2)
  stopped_so status NoMemory is did = inr (inr (inr is))
  stopped_so status other is (inr s) = absurd s.writes

  pub completed : (status : ℕ)
      → RanFleet T link step lent took left count words old new output errors status
      → Completed status
  completed status ran = by ran.result (started_or_not ran.did) ran.tells
    where
      by : (result : Result Ending Stop)
          → StopsBefore T link step left count (fleet_steps words) words.store old new output
          result
          ⊎ Starts T link step lent took left count words old new output result
          → TellsFleet result errors status → Completed status
      by (Ok e) (inl never) tells = absurd never
      by (Ok e) (inr s) tells = ended_so status e s tells.1 tells.0
      by (Err stop) did (inr told) = absurd (none.told told.1)
      by (Err stop) did (inl told) = stopped_so status stop told.0 did
