-- How a call goes on from the plan of its fleet, whether or not someone watches.
use Rattle.std.proofs.Common.{◌≡◌, ℕ, ◌⊎◌, Bool, true, List, [], Option, Result, Ok, Err, refl, sym, ◌∙◌, subst, inl, inr}
use Rattle.kr_kms.specs.Calls.{Link}
use Rattle.kr_kms.specs.Exchanges.{Exchange}
use Rattle.kr_cmd_steps.specs.Environment.{Environment, IsHome, step_state}
use Rattle.kr_cmd_steps.specs.Ran.{WroteNothing}
use Rattle.kr_cmd_steps.specs.Steps.{hearing}
use Rattle.kr_cmd_steps.specs.inner.Phases.{Does}
use Rattle.kr_cmd_steps.proofs.RunTo.{goes_on, home_refl, home_trans, reach, stays_refl, stops}
use Rattle.kr_cmd_steps.proofs.Hearing.{heard_none}
use Rattle.kr_cmd_messages.specs.Receipts.{Receipt}
use Rattle.kr_cmd_messages.specs.declared.fleet_words.FleetWords.{FleetWords}
use Rattle.kr_cmd_messages.specs.declared.refusal.Stop.{Stop}
use Rattle.kr_cmd_messages.specs.declared.refusal.Stop.TheVariants.{NoMemory}
use Rattle.kr_cmd_fleet.specs.FleetFiles.{FleetPlan, planning}
use Rattle.kr_cmd_fleet.specs.Fleets.{Begun, ComeBack, StopsBefore, over_store, steps_of_fleet}
use Rattle.kr_cmd_fleet.specs.StartExchanges.{WereAsked}
use Rattle.kr_cmd_fleet.specs.declared.fleet.Record.{Record}
use Rattle.kr_cmd_fleet.specs.inner.FleetOutcomes.{Beginning, LacksSettling, LacksWorkers, LeavesRecord}
use Rattle.kr_cmd_fleet.specs.inner.Workings.{BeginsLent}
use Rattle.kr_cmd_fleet.proofs.StartExchanges.{none_were}

-- a plan was made of the file that the words name, and their store is to be opened
pub record IsPlanned (words : FleetWords) (plan : FleetPlan) (old now : Environment)
    (file store : List ℕ) : Type 0 where
  pub file_is : file ≡ words.file
  pub planned : Does (planning file words.options) old now (Ok plan)
  pub store_is : store ≡ words.store

module _ (T : Type 0) {L D : Type 0} (link : L → Link) (step : L → Exchange → L → Type 0)
    (lent took : ℕ → L → Type 0) (left : D → Option (List ℕ)) (count : D → ℕ)
    (words : FleetWords) (watched : Bool) where
  -- nothing was written, these exchanges were heard, and the links came back
  pub record Stopped (old new : Environment) (output : Receipt) (stop : Stop) : Type 0 where
    pub home : IsHome old new
    pub exchanges : List Exchange
    pub heard : new.heard ≡ hearing exchanges old.heard
    pub asked : WereAsked link lent took step exchanges old.world new.world
    pub before : StopsBefore T link step left count (steps_of_fleet watched words) words.store old
        new output (Err stop)
    pub came : ComeBack T link step left count exchanges asked.begun asked.back
        (steps_of_fleet watched words) words.store old new output (Err stop) before

  -- the words weren't read, since memory lacked
  pub unbegun : (a : Environment) (output : Receipt) → WroteNothing output
      → Stopped a a output NoMemory
  unbegun a output idle = record {
    home = home_refl a;
    exchanges = [];
    heard = sym (heard_none a.heard);
    asked = none_were link lent took step refl;
    before = (inl (inr (reach (step_state a) (inl (refl, refl)) (stays_refl a))), idle);
    came = refl;
  }

  -- the plan wasn't made
  pub unplanned : (old new : Environment) (file : List ℕ) → file ≡ words.file → (stop : Stop)
      (output : Receipt) → Does (planning file words.options) old new (Err stop)
      → WroteNothing output → new.heard ≡ old.heard → new.world.links ≡ old.world.links
      → Stopped old new output stop
  unplanned old new file is stop output d idle same links =
      let all = stops (planning words.file words.options) (over_store watched words.store) stop
      (subst (λ f. Does (planning f words.options) old new (Err stop)) is d) in
      record {
        home = all.home;
        exchanges = [];
        heard = same ∙ sym (heard_none old.heard);
        asked = none_were link lent took step links;
        before = (inl (all.ends (step_state old) (stays_refl old)), idle);
        came = refl;
      }

module _ (T : Type 0) {L D : Type 0} (link : L → Link) (step : L → Exchange → L → Type 0)
    (lent took : ℕ → L → Type 0) (left : D → Option (List ℕ)) (count : D → ℕ) (watched : Bool)
    {words : FleetWords} {plan : FleetPlan} {old now : Environment} {file store : List ℕ}
    (made : IsPlanned words plan old now file store) (new : Environment) (exchanges : List Exchange)
    (asked : WereAsked link lent took step exchanges old.world new.world) where
  abbrev pub Lent : Beginning T L D
  Lent = BeginsLent (hearing exchanges old.heard) exchanges step lent took asked.begun asked.back

  pub by_plan : Does (planning words.file words.options) old now (Ok plan)
  by_plan = subst (λ f. Does (planning f words.options) old now (Ok plan)) made.file_is
      made.planned

  -- the steps over the store go on from the plan
  pub from_plan : {end : Environment} {result : Result Begun Stop}
      → Does (over_store watched words.store plan) now end result
      → Does (steps_of_fleet watched words) old end result
  from_plan d = goes_on (planning words.file words.options) (over_store watched words.store) plan
      by_plan d

  -- they ended the command, or want of memory did, or the store couldn't be settled
  abbrev pub Ends : List ℕ → Stop → Type 0
  Ends name stop =
      ((asked.back ≡ asked.begun) × (Does (over_store watched name plan) now new (Err stop)
      ⊎ LacksWorkers T link step left count (over_store watched name plan) name now new stop))
      ⊎ LacksSettling T link step left count Lent (over_store watched name plan) name now new stop

  ends_so : (stop : Stop) (output : Receipt) → new.heard ≡ hearing exchanges old.heard
      → Ends words.store stop → WroteNothing output
      → Stopped T link step lent took left count words watched old new output stop
  ends_so stop output heard (inl (unasked, inl d)) idle = let all = from_plan d in record {
    home = all.home;
    exchanges = exchanges;
    heard = heard;
    asked = asked;
    before = (inl (all.ends (step_state old) (stays_refl old)), idle);
    came = unasked;
  }
  ends_so stop output heard (inl (unasked, inr l)) idle = let all = from_plan l.does in record {
    home = home_trans by_plan.home l.home;
    exchanges = exchanges;
    heard = heard;
    asked = asked;
    before = (
      inr (inl (
        l.stops,
        (l.mid, l.begun, all.ends (step_state old) (stays_refl old), l.none, all.home),
      )),
      idle,
    );
    came = unasked;
  }
  ends_so stop output heard (inr l) idle = let all = from_plan l.does in record {
    home = home_trans by_plan.home l.home;
    exchanges = exchanges;
    heard = heard;
    asked = asked;
    before = (
      inr (inr (l.mid, l.begun, all.ends (step_state old) (stays_refl old), l.fails, all.home)),
      idle,
    );
    came = (l.begins.3, l.begins.4, l.begins.1);
  }

  -- the workers ran, and left this record
  abbrev pub Leaves : List ℕ → Record → Type 0
  Leaves name ran = LeavesRecord T link step left count Lent true watched
      (over_store watched name plan) name plan now new ran

  pub leaves_so : (ran : Record) → Leaves store ran → Leaves words.store ran
  leaves_so ran = subst (λ s. Leaves s ran) made.store_is

-- the steps behind the plan ended the command
pub stopped : {T L D : Type 0} {link : L → Link} {step : L → Exchange → L → Type 0}
    {lent took : ℕ → L → Type 0} {left : D → Option (List ℕ)} {count : D → ℕ} {watched : Bool}
    {words : FleetWords} {plan : FleetPlan} {old now new : Environment} {file store : List ℕ}
    {exchanges : List Exchange} (made : IsPlanned words plan old now file store)
    (heard : new.heard ≡ hearing exchanges old.heard)
    (asked : WereAsked link lent took step exchanges old.world new.world) (stop : Stop)
    {output : Receipt}
    → Ends T link step lent took left count watched made new exchanges asked store stop
    → WroteNothing output
    → Stopped T link step lent took left count words watched old new output stop
stopped {T} {link = link} {step = step} {lent = lent} {took = took} {left = left}
    {count = count} {watched = watched} {new = new} {exchanges = exchanges} made heard asked stop
    {output} ends idle =
    ends_so T link step lent took left count watched made new exchanges asked stop output heard
    (subst (λ s. Ends T link step lent took left count watched made new exchanges asked s stop)
    made.store_is ends) idle
