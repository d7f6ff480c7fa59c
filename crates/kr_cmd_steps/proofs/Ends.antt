-- A command as a whole: what its steps said is settled, or isn't said.
use Rattle.std.proofs.Common.{◌≡◌, ℕ, ◌≤◌, List, [], Option, None, Some, Result, Ok, Err, refl, sym, ◌∙◌, ap, subst, inl, inr, arith}
use Rattle.kr_base.specs.Faults.{Rose}
use Rattle.kr_kms.specs.Outside.{Outside, same_name, with_call}
use Rattle.kr_kms.specs.declared.world.WorldCall.TheVariants.{Settled}
use Rattle.kr_cmd_steps.specs.Environment.{Environment, with_world, step_state, IsStateOf, StepsEndAt, IsHome, Ends, IsFault}
use Rattle.kr_cmd_steps.specs.Commands.{steps}
use Rattle.kr_cmd_steps.specs.Ran.{Closes, EndsAll, IsStop, ReachesEnd, ReportsOf, SaysNothing, end_at}
use Rattle.kr_cmd_steps.specs.Steps.{Call, loading, settling, Point, awaits, amid, refuses, gives, StepState, RunTo, with_asked, with_said}
use Rattle.kr_cmd_steps.specs.inner.Lent.{with_lent_tape}
use Rattle.kr_cmd_steps.specs.inner.Phases.{Does}
use Rattle.kr_cmd_steps.specs.inner.Reporting.{DoesAll, saying}
use Rattle.kr_cmd_steps.specs.inner.Tapes.{with_settled}
use Rattle.kr_cmd_messages.specs.declared.command.Command.{Command}
use Rattle.kr_cmd_messages.specs.declared.refusal.Done.{Done}
use Rattle.kr_cmd_messages.specs.declared.refusal.Object.{Object}
use Rattle.kr_cmd_messages.specs.declared.refusal.Object.TheVariants.{Store}
use Rattle.kr_cmd_messages.specs.declared.refusal.Outcome.{Outcome}
use Rattle.kr_cmd_messages.specs.declared.refusal.Stop.{Stop}
use Rattle.kr_cmd_messages.specs.declared.refusal.Stop.TheVariants.{Words, Refused, Fault, NoMemory}
use Rattle.kr_cmd_messages.specs.declared.report.RewriteCounts.{RewriteCounts}
use Rattle.kr_cmd_steps.proofs.RunTo.{home_as, stays_as, stays_refl}
use Rattle.kr_cmd_steps.proofs.Lending.{no_less, no_more}
use Rattle.kr_cmd_steps.proofs.Loading.{count_here}

-- ---- a command that says nothing ends as its steps do

pub says_nothing : (stop : Point Outcome) (end : StepState) → end.said ≡ [] → SaysNothing stop end
says_nothing (gives x) end e = tt
says_nothing other end e = e

module _ (command : Command) {left : StepState} {new : Environment} where
  pub reaches_end : {point : Point Outcome} → new.said ≡ [] → StepsEndAt (steps command) left new point
      → ReachesEnd command left new point
  reaches_end {point} silent r = record {
    stop = point;
    end = r.end;
    last = r.end;
    goes = r.goes;
    closes = inl (says_nothing point r.end (sym r.stays.said ∙ silent), (refl, refl));
    stays = r.stays;
  }

  -- a value stands, whatever was said before
  pub value_reached : {x : Outcome} → StepsEndAt (steps command) left new (gives x)
      → ReachesEnd command left new (gives x)
  value_reached {x} r = record {
    stop = gives x;
    end = r.end;
    last = r.end;
    goes = r.goes;
    closes = inl (tt, (refl, refl));
    stays = r.stays;
  }

ends_all : (command : Command) (left : StepState) (old new : Environment) (made : Result Outcome Stop)
    → new.said ≡ [] → Ends (steps command) left old new made → EndsAll command left old new made
ends_all command left old new (Ok x) silent r = value_reached command r
ends_all command left old new (Err (Words why)) silent r = r
ends_all command left old new (Err (Refused why)) silent r = reaches_end command silent r
ends_all command left old new (Err (Fault object count)) silent (call, r, f) = (call, reaches_end command silent r, f)
ends_all command left old new (Err NoMemory) silent (inl (call, may, r)) = inl (call, may, reaches_end command silent r)
ends_all command left old new (Err NoMemory) silent (inr r) = inr (reaches_end command silent r)

pub does_all : (command : Command) {old new : Environment} (made : Result Outcome Stop)
    → new.said ≡ [] → Does (steps command) old new made → DoesAll command old new made
does_all command {old} {new} made silent d = record {
  home = d.home;
  ends = ends_all command (step_state old) old new made silent (d.ends (step_state old) (stays_refl old));
}

pub value_done : (command : Command) {old new : Environment} (x : Outcome)
    → Does (steps command) old new (Ok x) → DoesAll command old new (Ok x)
value_done command {old} x d = record {
  home = d.home;
  ends = value_reached command (d.ends (step_state old) (stays_refl old));
}

-- ---- and back

module _ {command : Command} {left : StepState} {new : Environment} where
  pub value_end : {x : Outcome} → ReachesEnd command left new (gives x)
      → StepsEndAt (steps command) left new (gives x)
  value_end {x} r = by_close r.closes
    where
      by_close : Closes command r.stop r.end (gives x) r.last
          → StepsEndAt (steps command) left new (gives x)
      by_close (inl (s, (p, e))) = record {
        end = r.last;
        goes = subst (λ l. RunTo (gives x) l (steps command) left) (sym e)
            (subst (λ q. RunTo q r.end (steps command) left) (sym p) r.goes);
        stays = r.stays;
      }
      by_close (inr (stops, (name, is, inl (p, e)))) = absurd (subst IsStop (sym p) stops)
      by_close (inr (stops, (name, is, inr (p, e)))) =
          absurd (let q : gives x ≡ awaits (settling Store name) = p in cc)

-- where a command that decides ends, its steps do
pub decided_stop : (command : Command) (stop point : Point Outcome) (end last : StepState)
    (n : Result Done Stop) → end_at point ≡ Some n → Closes command stop end point last
    → stop ≡ point
decided_stop command stop point end last n decides (inl (s, (p, e))) = sym p
decided_stop command stop point end last n decides (inr (stops, (name, is, inl (p, e)))) = sym p
decided_stop command stop point end last n decides (inr (stops, (name, is, inr (p, e)))) =
    absurd (let q : None ≡ Some n = sym (ap end_at p) ∙ decides in cc)

-- a command that has no report ends as its steps do
module _ (command : Command) (none : (name : List ℕ) → ReportsOf command name → ⊥) (left : StepState)
    (old new : Environment) where
  plain_reach : {point : Point Outcome} → ReachesEnd command left new point
      → StepsEndAt (steps command) left new point
  plain_reach {point} r = by_close r.closes
    where
      by_close : Closes command r.stop r.end point r.last
          → StepsEndAt (steps command) left new point
      by_close (inl (s, (p, e))) = record {
        end = r.last;
        goes = subst (λ l. RunTo point l (steps command) left) (sym e)
            (subst (λ q. RunTo q r.end (steps command) left) (sym p) r.goes);
        stays = r.stays;
      }
      by_close (inr (stops, (name, is, which))) = absurd (none name is)

  pub plain_ends : (made : Result Outcome Stop) → EndsAll command left old new made
      → Ends (steps command) left old new made
  plain_ends (Ok x) r = plain_reach r
  plain_ends (Err (Words why)) r = r
  plain_ends (Err (Refused why)) r = plain_reach r
  plain_ends (Err (Fault object count)) (call, r, f) = (call, plain_reach r, f)
  plain_ends (Err NoMemory) (inl (call, may, r)) = inl (call, may, plain_reach r)
  plain_ends (Err NoMemory) (inr r) = inr (plain_reach r)

-- ---- a command that reports

-- where steps were stopped
stopped_at : (command : Command) (left : StepState) (old new : Environment) (stop : Stop)
    → Ends (steps command) left old new (Err stop)
    → (point : Point Outcome) × IsStop point × StepsEndAt (steps command) left new point
stopped_at command left old new (Words why) r = absurd r
stopped_at command left old new (Refused why) r = (refuses why, tt, r)
stopped_at command left old new (Fault object count) (call, r, f) = (awaits call, tt, r)
stopped_at command left old new NoMemory (inl (call, may, r)) = (awaits call, tt, r)
stopped_at command left old new NoMemory (inr r) = (amid, tt, r)

module _ (command : Command) (name : List ℕ) (is : ReportsOf command name)
    (told : Option (List ℕ)) (count : ℕ) (mid : Outside) where
  -- the report was settled, and the tape is to come back
  module _ (b : Environment) where
    abbrev Unsettled : Environment
    Unsettled = with_lent_tape name told count (with_world mid b)

    abbrev IsBack : Environment
    IsBack = with_lent_tape name told count (with_world (with_settled name mid) b)

    stays_settled : {l : StepState} → IsStateOf l Unsettled → IsStateOf (with_asked (Settled name) l) IsBack
    stays_settled s =
        stays_as s refl refl s.tapes (ap (with_call (Settled name)) s.asked) s.heard s.said

    same_fault : (old : Environment) (call : Call) (object : Object) (n : ℕ) → IsFault call object n old Unsettled
        → IsFault call object n old IsBack
    same_fault old (loading other) object n f = f
    same_fault old other object n f = f

    settled_reach : {left : StepState} {point : Point Outcome} → IsStop point
        → StepsEndAt (steps command) left Unsettled point → ReachesEnd command left IsBack point
    settled_reach {point = point} stops r = record {
      stop = point;
      end = r.end;
      last = with_asked (Settled name) r.end;
      goes = r.goes;
      closes = inr (stops, (name, is, inl (refl, refl)));
      stays = stays_settled r.stays;
    }

    settled_ends : (left : StepState) (old : Environment) (stop : Stop)
        → Ends (steps command) left old Unsettled (Err stop)
        → EndsAll command left old IsBack (Err stop)
    settled_ends left old (Words why) r = r
    settled_ends left old (Refused why) r = settled_reach tt r
    settled_ends left old (Fault object n) (call, r, f) = (call, settled_reach tt r, same_fault old call object n f)
    settled_ends left old NoMemory (inl (call, may, r)) = inl (call, may, settled_reach tt r)
    settled_ends left old NoMemory (inr r) = inr (settled_reach tt r)

    pub report_settled : {old : Environment} (stop : Stop) → Does (steps command) old Unsettled (Err stop)
        → DoesAll command old IsBack (Err stop)
    report_settled {old} stop d = record {
      home = record {
        files = record { file = d.home.files.file; later = d.home.files.later };
        dice = d.home.dice;
        tapes = d.home.tapes;
        links = d.home.links;
        input = d.home.input;
      };
      ends = settled_ends (step_state old) old stop (d.ends (step_state old) (stays_refl old));
    }

  -- it couldn't be settled, and isn't said
  module _ (a : Environment) (silent : a.said ≡ []) (later : ℕ) (more : count ≤ later) where
    abbrev Lost : Environment
    Lost = with_lent_tape name told later (with_world mid a)

    stays_lost : (said : Option RewriteCounts) {l : StepState}
        → IsStateOf l (with_lent_tape name told count (with_world mid (saying said a)))
        → IsStateOf (with_said [] l) Lost
    stays_lost None s = stays_as s refl refl s.tapes s.asked s.heard silent
    stays_lost (Some counts) s = stays_as s refl refl s.tapes s.asked s.heard silent

    home_on : (old : Environment) → IsHome old (with_lent_tape name told count (with_world mid a))
        → IsHome old Lost
    home_on old h = record {
      files = record { file = h.files.file; later = h.files.later };
      dice = h.dice;
      tapes = record {
        out = h.tapes.out;
        later = λ key. omega (
          arith,
          h.tapes.later key,
          no_less (same_name name key)
              (mid.tapes.faults key) (mid.tapes.faults key) count later
              (no_more (mid.tapes.faults key)) more,
        );
      };
      links = h.links;
      input = h.input;
    }

    home_lost : (old : Environment) (said : Option RewriteCounts)
        → IsHome old (with_lent_tape name told count (with_world mid (saying said a)))
        → IsHome old Lost
    home_lost old None h = home_on old h
    home_lost old (Some counts) h = home_on old (home_as refl refl h)

    pub report_lost : {old : Environment} (said : Option RewriteCounts) (stop : Stop)
        → Rose (old.world.tapes.faults name) later
        → Does (steps command) old
        (with_lent_tape name told count (with_world mid (saying said a))) (Err stop)
        → DoesAll command old Lost (Err (Fault Store later))
    report_lost {old} said stop rose d =
        let at = stopped_at command (step_state old) old
        (with_lent_tape name told count (with_world mid (saying said a))) stop (d.ends (step_state old) (stays_refl old)) in
        let here = count_here name told count (with_world mid a) later in record {
          home = home_lost old said d.home;
          ends = (
            settling Store name,
            record {
              stop = at.0;
              end = at.2.end;
              last = with_said [] at.2.end;
              goes = at.2.goes;
              closes = inr (at.1, (name, is, inr (refl, refl)));
              stays = stays_lost said at.2.stays;
            },
            (refl, subst (Rose (old.world.tapes.faults name)) (sym here) rose, sym here),
          );
        }
