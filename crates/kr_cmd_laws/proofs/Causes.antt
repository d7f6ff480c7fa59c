-- What the status of a call comes from whose steps lead to workers, by how the call ended.
use Rattle.std.proofs.Common.{◌≡◌, ℕ, ◌⊎◌, List, Option, Result, Ok, Err, sym, ◌∙◌, subst, inl, inr, arith}
use Rattle.std.specs.Prelude.{⊤}
use Rattle.std.specs.Io.KnownBytes.{Appends}
use Rattle.kr_base.specs.Faults.{Rose}
use Rattle.kr_base.proofs.Counting.{Rose-later}
use Rattle.kr_kms.specs.Calls.{Link}
use Rattle.kr_kms.specs.Exchanges.{Exchange}
use Rattle.kr_workers.specs.Endings.{status_of}
use Rattle.kr_workers.specs.declared.ending.Ending.{Ending}
use Rattle.kr_workers.specs.declared.ending.Ending.TheVariants as ending
use Rattle.kr_cmd_steps.specs.Environment.{Environment, IsHome, step_state}
use Rattle.kr_cmd_fleet.specs.Causes.{Causes, HasEnded, HasFailed, HasRefused, IsDecidedBy, WouldBegin}
use Rattle.kr_cmd_fleet.specs.Fleets.{Begun, StopsBefore, TellsFleet}
use Rattle.kr_cmd_fleet.proofs.SettledRuns.{rose_unsettled}
use Rattle.kr_cmd_messages.specs.Message.{line_of, status_of as stop_status, status_of_refusal}
use Rattle.kr_cmd_messages.specs.Receipts.{Receipt}
use Rattle.kr_cmd_steps.specs.Steps.{Call, Point, Steps, amid, and_then, awaits, gives, refuses}
use Rattle.kr_cmd_messages.specs.declared.refusal.Object.TheVariants.{Store}
use Rattle.kr_cmd_messages.specs.declared.refusal.Refusal.{Refusal}
use Rattle.kr_cmd_messages.specs.declared.refusal.Stop.{Stop}
use Rattle.kr_cmd_messages.specs.declared.refusal.Stop.TheVariants.{Words, Refused, Fault, NoMemory}
use Rattle.kr_cmd_laws.proofs.OneBeginning.{GoOneWay, closing, no_other, one_refusal}
use Rattle.kr_cmd_laws.proofs.Readings.{object_rose, status_in}

-- once the workers were started just the output or want of memory stops a call
abbrev pub BreaksOff : Receipt → Stop → Type 0
BreaksOff output (Words why) = ⊥
BreaksOff output (Refused why) = ⊥
BreaksOff output (Fault object n) = Rose output.old_faults output.new_faults
BreaksOff output NoMemory = ⊤

module _ (T : Type 0) {L D : Type 0} (link : L → Link)
    (step : L → Exchange → L → Type 0) (left : D → Option (List ℕ)) (count : D → ℕ)
    (steps : Steps Begun) (store : List ℕ) (HasStarted : Result Ending Stop → Type 0)
    (old new : Environment) (output errors : Receipt)
    (begins : (e : Ending) → HasStarted (Ok e)
    → (begun : Begun) × WouldBegin steps old (gives begun))
    (breaks : (stop : Stop) → HasStarted (Err stop) → BreaksOff output stop) where
  abbrev Decided : Point Begun → ℕ → Type 0
  Decided point status = IsDecidedBy steps store HasStarted old new output errors point status

  abbrev Stopped : Stop → Type 0
  Stopped stop = StopsBefore T link step left count steps store old new output (Err stop)

  abbrev Ended : Ending → Type 0
  Ended e = HasEnded HasStarted errors e

  -- ---- the last step that they come to decides

  module _ (settled : GoOneWay (and_then steps closing) (step_state old)) where
    -- whatever the point is, but for a fault or want of memory
    excepted : (point : Point Begun) (status : ℕ) → (status ≡ 4) ⊎ (status ≡ 5)
        → Decided point status
    excepted (refuses why) status is = inr is
    excepted (gives begun) status is = inr is
    excepted (awaits call) status is = tt
    excepted amid status is = tt

    -- the workers ran
    ran_so : (point : Point Begun) (status : ℕ) (e : Ending) → WouldBegin steps old point
        → Ended e → (begun : Begun) → WouldBegin steps old (gives begun)
        → status ≡ status_of e → Decided point status
    ran_so (refuses why) status e would s begun began is = absurd (no_other steps (step_state old)
        settled why begun would.0 began.0 would.1 began.1)
    ran_so (gives other) status e would s begun began is = inl (e, s, is)
    ran_so (awaits call) status e would s begun began is = tt
    ran_so amid status e would s begun began is = tt

    -- a step refused
    refused_so : (point : Point Begun) (status : ℕ) (why : Refusal) → WouldBegin steps old point
        → Stopped (Refused why) → status ≡ stop_status (Err (Refused why))
        → Appends errors.old errors.new (line_of (Err (Refused why))) → Decided point status
    refused_so (refuses cause) status why would (inl ends, idle) is line =
        let same : why ≡ cause = one_refusal steps (step_state old) settled why cause ends.end would.0
        ends.goes would.1 in
        subst (λ c. Decided (refuses c) status) same (inl ((ends, idle, line), is))
    refused_so (gives begun) status why would (inl ends, idle) is line = absurd (no_other steps
        (step_state old) settled why begun ends.end would.0 ends.goes would.1)
    refused_so (awaits call) status why would (inl ends, idle) is line = tt
    refused_so amid status why would (inl ends, idle) is line = tt
    refused_so point status why would (inr (inl (e, lacking)), idle) is line = absurd cc
    refused_so point status why would (inr (inr (mid, begun, reaches, fails, home)), idle) is line =
        absurd (let e : Refused why ≡ Fault Store _ = fails.stops in cc)

    stopped_so : (point : Point Begun) (status : ℕ) (stop : Stop) → WouldBegin steps old point
        → Stopped stop ⊎ HasStarted (Err stop) → status ≡ stop_status (Err stop)
        → Appends errors.old errors.new (line_of (Err stop)) → Decided point status
    stopped_so point status (Words why) would (inl (inl ends, idle)) is line = absurd ends
    stopped_so point status (Words why) would (inl (inr (inl (e, lacking)), idle)) is line =
        absurd cc
    stopped_so point status (Words why) would
        (inl (inr (inr (mid, begun, reaches, fails, home)), idle)) is line =
        absurd (let e : Words why ≡ Fault Store _ = fails.stops in cc)
    stopped_so point status (Words why) would (inr s) is line = absurd (breaks (Words why) s)
    stopped_so point status (Refused why) would (inl stops) is line =
        refused_so point status why would stops is line
    stopped_so point status (Refused why) would (inr s) is line = absurd (breaks (Refused why) s)
    stopped_so point status (Fault object n) would did is line = excepted point status (inl is)
    stopped_so point status NoMemory would did is line = excepted point status (inr is)

    decided_so : (point : Point Begun) (status : ℕ) → WouldBegin steps old point
        → (result : Result Ending Stop)
        → StopsBefore T link step left count steps store old new output result
        ⊎ HasStarted result
        → TellsFleet result errors status → Decided point status
    decided_so point status would (Ok e) (inl never) tells = absurd never
    decided_so point status would (Ok e) (inr s) tells =
        let began = begins e s in
        ran_so point status e would (s, tells.1) began.0 began.1 tells.0
    decided_so point status would (Err stop) did (inr failed) =
        excepted point status (inl failed.0)
    decided_so point status would (Err stop) did (inl said) =
        stopped_so point status stop would did said.0 said.1

  -- ---- by the status

  module _ (IsTold : Type 0) (status : ℕ)
      (decided : IsTold → (point : Point Begun) → WouldBegin steps old point
      → Decided point status) where
    abbrev AreRead : Type 0
    AreRead = Causes steps store HasStarted old new output errors IsTold status

    -- the workers ran
    ended : (e : Ending) → Ended e → status ≡ status_of e → AreRead
    ended e s is = record {
      caused = λ four. inr (inr (inr (inr (faulted e s (sym is ∙ four)))));
      refused = λ which. inr (e, s, sym is);
      done = λ none. did e s (sym is ∙ none);
      usage = λ two. absurd (unused e (sym is ∙ two));
      decided = decided;
    }
      where
        faulted : (e : Ending) → Ended e → status_of e ≡ 4 → Ended ending.Fault
        faulted ending.Done s four = absurd (omega (arith, four))
        faulted ending.Refused s four = absurd (omega (arith, four))
        faulted ending.Unhealthy s four = absurd (omega (arith, four))
        faulted ending.Full s four = absurd (omega (arith, four))
        faulted ending.Memory s four = absurd (omega (arith, four))
        faulted ending.Fault s four = s

        did : (e : Ending) → Ended e → status_of e ≡ 0 → Ended ending.Done
        did ending.Done s none = s
        did ending.Refused s none = absurd (omega (arith, none))
        did ending.Unhealthy s none = absurd (omega (arith, none))
        did ending.Full s none = absurd (omega (arith, none))
        did ending.Memory s none = absurd (omega (arith, none))
        did ending.Fault s none = absurd (omega (arith, none))

        unused : (e : Ending) → status_of e ≡ 2 → ⊥
        unused ending.Done two = omega (arith, two)
        unused ending.Refused two = omega (arith, two)
        unused ending.Unhealthy two = omega (arith, two)
        unused ending.Full two = omega (arith, two)
        unused ending.Memory two = omega (arith, two)
        unused ending.Fault two = omega (arith, two)

    -- the call was stopped
    failed : status ≡ 4
        → ((call : Call) × HasFailed steps old new call)
        ⊎ Rose (old.world.tapes.faults store) (new.world.tapes.faults store)
        ⊎ Rose output.old_faults output.new_faults
        ⊎ Rose errors.old_faults errors.new_faults
        ⊎ Ended ending.Fault → AreRead
    failed is why = record {
      caused = λ four. why;
      refused = λ which. absurd (omega (arith, is, which));
      done = λ none. absurd (omega (arith, is, none));
      usage = λ two. absurd (omega (arith, is, two));
      decided = decided;
    }

    lacked : status ≡ 5 → AreRead
    lacked is = record {
      caused = λ four. absurd (omega (arith, is, four));
      refused = λ which. absurd (omega (arith, is, which));
      done = λ none. absurd (omega (arith, is, none));
      usage = λ two. absurd (omega (arith, is, two));
      decided = decided;
    }

    refused_by : (why : Refusal) → HasRefused steps old new output errors why
        → status ≡ status_of_refusal why → AreRead
    refused_by why r is = let s = status_in why in record {
      caused = λ four. absurd (omega (arith, is, four, s));
      refused = λ which. inl (why, r, sym is);
      done = λ none. absurd (omega (arith, is, none, s));
      usage = λ two. absurd (omega (arith, is, two, s));
      decided = decided;
    }

    -- up to the workers
    stopped : (stop : Stop) → IsHome old new → Stopped stop → status ≡ stop_status (Err stop)
        → Appends errors.old errors.new (line_of (Err stop)) → AreRead
    stopped (Words why) home (inl ends, idle) is line = absurd ends
    stopped (Words why) home (inr (inl (e, lacking)), idle) is line = absurd cc
    stopped (Words why) home (inr (inr (mid, begun, reaches, fails, since)), idle) is line =
        absurd (let e : Words why ≡ Fault Store _ = fails.stops in cc)
    stopped (Refused why) home (inl ends, idle) is line = refused_by why (ends, idle, line) is
    stopped (Refused why) home (inr (inl (e, lacking)), idle) is line = absurd cc
    stopped (Refused why) home (inr (inr (mid, begun, reaches, fails, since)), idle) is line =
        absurd (let e : Refused why ≡ Fault Store _ = fails.stops in cc)
    stopped (Fault object n) home (inl (call, reaches, f), idle) is line =
        failed is (inl (call, (reaches, f.1, object_rose call home f.1)))
    stopped (Fault object n) home (inr (inl (e, lacking)), idle) is line = absurd cc
    stopped (Fault object n) home (inr (inr (mid, begun, reaches, fails, since)), idle) is line =
        failed is (inr (inl (Rose-later _ _ _ (since.tapes.later store) (rose_unsettled fails))))
    stopped NoMemory home before is line = lacked is

    -- or behind them
    broke : (stop : Stop) → HasStarted (Err stop) → status ≡ stop_status (Err stop) → AreRead
    broke (Words why) s is = absurd (breaks (Words why) s)
    broke (Refused why) s is = absurd (breaks (Refused why) s)
    broke (Fault object n) s is = failed is (inr (inr (inl (breaks (Fault object n) s))))
    broke NoMemory s is = lacked is

    by_end : (result : Result Ending Stop) → IsHome old new
        → StopsBefore T link step left count steps store old new output result
        ⊎ HasStarted result
        → TellsFleet result errors status → AreRead
    by_end (Ok e) home (inl never) tells = absurd never
    by_end (Ok e) home (inr s) tells = ended e (s, tells.1) tells.0
    by_end (Err stop) home did (inr told) = failed told.0 (inr (inr (inr (inl told.1))))
    by_end (Err stop) home (inl before) (inl told) = stopped stop home before told.0 told.1
    by_end (Err stop) home (inr s) (inl told) = broke stop s told.0

  pub causes : (IsTold : Type 0)
      → (IsTold → GoOneWay (and_then steps closing) (step_state old))
      → (status : ℕ) (result : Result Ending Stop) → IsHome old new
      → StopsBefore T link step left count steps store old new output result
      ⊎ HasStarted result
      → TellsFleet result errors status
      → Causes steps store HasStarted old new output errors IsTold status
  causes IsTold settled status result home did tells = by_end IsTold status
      (λ told point would. decided_so (settled told) point status would result did tells) result
      home did tells
