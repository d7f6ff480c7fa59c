-- The store's tape, which is settled behind the workers before it is back.
use Rattle.std.proofs.Common.{◌≡◌, ℕ, ◌≤◌, List, Bool, true, false, Option, Result, Ok, Err, refl, sym, ◌∙◌, ap, subst, inl, inr, arith}
use Rattle.kr_base.specs.Faults.{Rose}
use Rattle.kr_base.proofs.Counting.{Rose-later}
use Rattle.kr_kms.specs.Calls.{Link}
use Rattle.kr_kms.specs.Exchanges.{Exchange}
use Rattle.kr_kms.specs.Outside.{Outside, with_call}
use Rattle.kr_kms.specs.declared.world.WorldCall.TheVariants.{Settled}
use Rattle.kr_kms.specs.declared.world.Access.TheVariants.{ToMake}
use Rattle.kr_rollout.specs.Openings.{start_of}
use Rattle.kr_rollout.specs.declared.opening.Entry.{Entry}
use Rattle.kr_workers.specs.declared.worker.Worker as fleet_worker
use Rattle.kr_cmd_steps.specs.Environment.{Environment, IsHome, with_world}
use Rattle.kr_cmd_steps.specs.Phases.{tape_for}
use Rattle.kr_cmd_steps.specs.Steps.{Steps}
use Rattle.kr_cmd_steps.specs.declared.programs.Program.{Program}
use Rattle.kr_cmd_fleet.specs.FleetFiles.{FleetPlan}
use Rattle.kr_cmd_fleet.proofs.FleetRuns.{leaves_by}
use Rattle.kr_cmd_fleet.specs.Fleets.{AreEquipped, Begun, FailsToSettle, RunsFleet, opening_of, settled_behind}
use Rattle.kr_cmd_fleet.specs.declared.fleet.Record.{Record}
use Rattle.kr_cmd_messages.specs.declared.refusal.Object.TheVariants.{Store}
use Rattle.kr_cmd_messages.specs.declared.refusal.Stop.{Stop}
use Rattle.kr_cmd_messages.specs.declared.refusal.Stop.TheVariants.{Fault}
use Rattle.kr_cmd_fleet.specs.inner.FleetOutcomes.{Beginning, LacksSettling, LeavesRecord, RunsBy, SettlesBy, SettlesOr}
use Rattle.kr_cmd_fleet.specs.inner.Workings.{StaysIdle}
use Rattle.kr_cmd_steps.specs.inner.Lent.{with_lent_tape}
use Rattle.kr_cmd_steps.specs.inner.Tapes.{LentTape, ReturnedTape, ReturnsSettled}
use Rattle.kr_cmd_steps.proofs.RunTo.{goes_on, home_trans}
use Rattle.kr_cmd_steps.proofs.Loading.{count_here, tape_home}
use Rattle.kr_cmd_steps.proofs.RisingCounts.{counted}
use Rattle.kr_cmd_steps.proofs.Tapes.{came_back, lent, nothing}

rose_later : (before now : ℕ) → Rose before now → before ≤ now
rose_later before now (inl less) = omega (arith, less)
rose_later before now (inr (x, y)) = omega (arith, x, y)

-- what is home stays so where the world was told that a tape is settled
pub home_settled : {old new : Environment} (store : List ℕ) → IsHome old new
    → IsHome old (settled_behind store new)
home_settled store h = record {
  files = record { file = h.files.file; later = h.files.later };
  dice = h.dice;
  tapes = h.tapes;
  links = h.links;
  input = h.input;
}

module _ {T L D : Type 0} (link : L → Link) (left : D → Option (List ℕ)) (count : D → ℕ)
    (programs : List Program) (store : List ℕ) (around : Environment) where
  equipped : (workers : List (fleet_worker.Worker T L D))
      → AreEquipped link left count programs around workers
      → AreEquipped link left count programs (settled_behind store around) workers
  equipped workers are seat d below = let is = are seat d below in record {
    names = is.names;
    links_are = is.links_are;
    left_is = is.left_is;
    count_is = is.count_is;
  }

-- the run of the workers, where the world is told so at its end
settled_run : {T L D : Type 0} (link : L → Link) (step : L → Exchange → L → Type 0)
    (left : D → Option (List ℕ))
    (count : D → ℕ) (store : List ℕ) (begun : Begun) (mid new : Environment) (history : List Entry)
    (ended : List (fleet_worker.Worker T L D))
    → RunsFleet link step left count store begun mid new history ended
    → RunsFleet link step left count store begun (settled_behind store mid)
    (settled_behind store new) history ended
settled_run link step left count store begun mid new history ended r = record {
  published = r.published;
  parts = r.parts;
  parts_are = r.parts_are;
  files = r.files;
  files_are = r.files_are;
  workers = r.workers;
  many = r.many;
  cold = r.cold;
  before = equipped link left count begun.plan.programs store mid r.workers r.before;
  one = r.one;
  made = r.made;
  bare = r.bare;
  after = equipped link left count begun.plan.programs store new ended r.after;
  stored = r.stored;
  counted = r.counted;
  rest = record {
    file = r.rest.file;
    tapes = r.rest.tapes;
    dice = r.rest.dice;
    links = r.rest.links;
    faults = r.rest.faults;
    asked = ap (with_call (Settled store)) r.rest.asked;
    input = r.rest.input;
    said = r.rest.said;
    heard = r.rest.heard;
  };
}

-- where the store couldn't be settled, its count rose since the workers started
pub rose_unsettled : {T L D : Type 0} {link : L → Link}
    {step : L → Exchange → L → Type 0} {left : D → Option (List ℕ)} {count : D → ℕ}
    {store : List ℕ} {begun : Begun} {mid new : Environment} {stop : Stop}
    → FailsToSettle T link step left count store begun mid new stop
    → Rose (mid.world.tapes.faults store) (new.world.tapes.faults store)
rose_unsettled {store = store} {begun = begun} {mid = mid} f =
    let opening = opening_of store begun mid in
    let risen = counted opening (start_of opening) f.history f.runs.one.legal.runs in
    Rose-later _ _ _ (omega (arith, risen, f.runs.counted)) f.rose

module _ (T : Type 0) {L D : Type 0} (link : L → Link)
    (step : L → Exchange → L → Type 0)
    (left : D → Option (List ℕ)) (count : D → ℕ) (Begins : Beginning T L D) (watched : Bool)
    (store : List ℕ) (plan : FleetPlan) (steps : Steps Begun) where
  -- the tape was settled
  pub settled_record : (old new : Environment) (made : Record)
      → LeavesRecord T link step left count Begins false watched steps store plan old new made
      → LeavesRecord T link step left count Begins true watched steps store plan old
      (settled_behind store new) made
  unfolding settled_run
  settled_record old new made l = leaves_by l l.does
      (settled_run link step left count store l.begun l.mid new l.history l.ended l.runs) l.begins
      l.known (home_settled store l.home)

  -- or it couldn't be
  unsettled : (old a : Environment) (told : Option (List ℕ)) (n later : ℕ) (made : Record) (stop : Stop)
      → LeavesRecord T link step left count Begins false watched steps store plan old
      (with_lent_tape store told n a) made
      → Rose n later → stop ≡ Fault Store later
      → LacksSettling T link step left count Begins steps store old
      (with_lent_tape store told later a)
      stop
  unsettled old a told n later made stop l rose is =
      let here = count_here store told n a n in
      let now = count_here store told n a later in
      record {
        begun = l.begun;
        mid = l.mid;
        does = l.does;
        fails = record {
          ran = with_lent_tape store told n a;
          history = l.history;
          ended = l.ended;
          runs = l.runs;
          told = refl;
          rose = subst (λ m. Rose m ((with_lent_tape store told later a).world.tapes.faults store))
              (sym here) (subst (λ m. Rose n m) (sym now) rose);
          stops = is ∙ ap (λ m. Fault Store m) (sym now);
          rest = record {
            file = refl;
            tapes = λ other differs. refl;
            dice = λ seat least. refl;
            links = λ seat plugin least. refl;
            faults = refl;
            asked = refl;
            input = refl;
            said = refl;
            heard = refl;
          };
        };
        begins = l.begins;
        home = home_trans l.home (tape_home store told n a later (rose_later n later rose));
      }

-- the tape is borrowed for it, is settled behind it, and comes back
module _ (T : Type 0) {L D : Type 0} (link : L → Link)
    (step : L → Exchange → L → Type 0)
    (left : D → Option (List ℕ)) (count : D → ℕ) (Begins : Beginning T L D) (watched : Bool)
    (store : List ℕ) (plan : FleetPlan) (steps : Steps Begun) (a b : Environment) (old out : Outside)
    (given : Option (List ℕ)) (first : ℕ) (mid new : Outside) (back : Option (List ℕ)) (n : ℕ) where
  abbrev pub Began : Environment
  Began = with_lent_tape store given first (with_world out a)

  abbrev pub Settles : Environment → Result Record Stop → Type 0
  Settles end result = SettlesBy T link step left count Begins watched
      (tape_for store ToMake steps) store
      plan (with_world old a) end result

  abbrev pub SettlesElse : (Idle : Type 0) → Environment → Result Record Stop → Type 0
  SettlesElse Idle end result = SettlesOr T link step left count Idle Begins watched
      (tape_for store ToMake steps) store
      plan (with_world old a) end result

  -- behind the borrowing
  borrowed_unsettled : LentTape store ToMake old out given first → (end : Environment) (stop : Stop)
      → LacksSettling T link step left count Begins steps store Began end stop
      → LacksSettling T link step left count Begins (tape_for store ToMake steps) store
      (with_world old a) end stop
  borrowed_unsettled h end stop l = let d = lent store ToMake _ h a in record {
    begun = l.begun;
    mid = l.mid;
    does = goes_on (tape_for store ToMake nothing) (λ u. steps) tt d l.does;
    fails = l.fails;
    begins = l.begins;
    home = home_trans d.home l.home;
  }

  pub borrowed : LentTape store ToMake old out given first → (end : Environment)
      (result : Result Record Stop)
      → SettlesBy T link step left count Begins watched steps store plan Began end result
      → Settles end result
  borrowed h end (Ok made) l = let d = lent store ToMake _ h a in
      leaves_by l (goes_on (tape_for store ToMake nothing) (λ u. steps) tt d l.does) l.runs
      l.begins l.known (home_trans d.home l.home)
  borrowed h end (Err stop) (inl e) =
      inl (goes_on (tape_for store ToMake nothing) (λ u. steps) tt (lent store ToMake _ h a) e)
  borrowed h end (Err stop) (inr (inl l)) = let d = lent store ToMake _ h a in inr (inl (record {
    stops = l.stops;
    begun = l.begun;
    mid = l.mid;
    does = goes_on (tape_for store ToMake nothing) (λ u. steps) tt d l.does;
    none = l.none;
    home = home_trans d.home l.home;
  }))
  borrowed h end (Err stop) (inr (inr l)) = inr (inr (borrowed_unsettled h end stop l))

  back_so : (result : Result Record Stop) {told : Option (List ℕ)} {m : ℕ} {world : Outside}
      → LentTape store ToMake old out given first → ReturnedTape store world new told m
      → SettlesBy T link step left count Begins watched steps store plan Began
      (with_lent_tape store told m (with_world world b)) result
      → Settles (with_world new b) result
  back_so result h returned s = borrowed h (with_world new b) result
      (subst (λ end. SettlesBy T link step left count Begins watched steps store plan Began
      end result) (came_back store returned b) s)

  pub over_settled : (made result : Result Record Stop) → LentTape store ToMake old out given first
      → ReturnsSettled store Store mid new back n made result
      → RunsBy T link step left count Begins watched steps store plan Began
      (with_lent_tape store back n (with_world mid b)) made
      → Settles (with_world new b) result
  over_settled (Ok m) (Ok x) h (same, returned) r =
      subst (λ y. Settles (with_world new b) (Ok y)) (sym same)
      (back_so (Ok m) h returned (settled_record T link step left count Begins watched store
      plan
      steps
      Began (with_lent_tape store back n (with_world mid b)) m r))
  over_settled (Ok m) (Err stop) h (later, rose, same, returned) r =
      back_so (Err stop) h returned (inr
      (inr (unsettled T link step left count Begins watched store plan
      steps Began (with_world mid b) back n later m stop r rose same)))
  over_settled (Err why) result h (same, returned) r =
      subst (λ y. Settles (with_world new b) y) (sym same)
      (back_so (Err why) h returned (by_end r))
    where
      by_end : RunsBy T link step left count Begins watched steps store plan Began
          (with_lent_tape store back n (with_world mid b)) (Err why)
          → SettlesBy T link step left count Begins watched steps store plan Began
          (with_lent_tape store back n (with_world mid b)) (Err why)
      by_end (inl e) = inl e
      by_end (inr l) = inr (inl l)

  -- the same; where no worker was started this holds
  module _ (begun ended : List (List L)) where
    by_either : (stop : Stop) (end : Environment) → ended ≡ begun → Settles end (Err stop)
        → SettlesElse (ended ≡ begun) end (Err stop)
    by_either stop end idle (inl e) = inl (idle, inl e)
    by_either stop end idle (inr (inl l)) = inl (idle, inr l)
    by_either stop end idle (inr (inr l)) = inr l

    pub over_settled_or : (made result : Result Record Stop) → StaysIdle made begun ended
        → LentTape store ToMake old out given first
        → ReturnsSettled store Store mid new back n made result
        → RunsBy T link step left count Begins watched steps store plan Began
        (with_lent_tape store back n (with_world mid b)) made
        → SettlesElse (ended ≡ begun) (with_world new b) result
    over_settled_or (Ok m) (Ok x) idle h s r = over_settled (Ok m) (Ok x) h s r
    over_settled_or (Ok m) (Err stop) idle h (later, rose, same, returned) r =
        inr (borrowed_unsettled h (with_world new b) stop
        (subst (λ end. LacksSettling T link step left count Begins steps store Began end stop)
        (came_back store returned b)
        (unsettled T link step left count Begins watched store plan steps Began (with_world mid b)
        back n later m stop r rose same)))
    over_settled_or (Err why) result idle h (same, returned) r =
        subst (λ y. SettlesElse (ended ≡ begun) (with_world new b) y) (sym same)
        (by_either why (with_world new b) idle
        (over_settled (Err why) (Err why) h (refl, returned) r))
