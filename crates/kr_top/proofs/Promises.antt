-- What `run` promises by what its words were read as: a fleet, a load, a watch, another command; or
-- by why they weren't.
use Rattle.std.specs.Prelude.{◌⊎◌}
use Rattle.std.proofs.Common.{◌≡◌, ℕ, ◌≤◌, false, true, List, [], Option, Some, Result, Err, refl, subst, inl, inr, arith}
use Rattle.kr_kms.specs.Calls.{Link}
use Rattle.kr_kms.specs.Exchanges.{Exchange}
use Rattle.kr_kms.specs.Outside.{Outside}
use Rattle.kr_workers.specs.declared.ending.Ending.{Ending}
use Rattle.kr_cmd_messages.specs.FleetAsked.{AskAlone, AsksFleet}
use Rattle.kr_cmd_messages.specs.LoadAsked.{AsksLoad}
use Rattle.kr_cmd_messages.specs.Message.{line_of, status_of}
use Rattle.kr_cmd_messages.specs.Receipts.{Receipt, Tells}
use Rattle.kr_cmd_messages.specs.WatchAsked.{AsksWatch}
use Rattle.kr_cmd_messages.specs.declared.fleet_words.FleetWords.{FleetWords}
use Rattle.kr_cmd_messages.specs.declared.load_words.LoadWords.{LoadWords}
use Rattle.kr_cmd_messages.specs.declared.watch_words.WatchWords.{WatchWords}
use Rattle.kr_cmd_messages.specs.declared.refusal.Done.{Done}
use Rattle.kr_cmd_messages.specs.declared.refusal.Stop.{Stop}
use Rattle.kr_cmd_messages.specs.declared.refusal.Stop.TheVariants.{NoMemory}
use Rattle.kr_cmd_messages.proofs.LoadAsked.{asked_small, not_both, one_load}
use Rattle.kr_cmd_messages.proofs.WatchAsked.{not_fleet_and_watch, not_load_and_watch, one_watch}
use Rattle.kr_cmd_steps.specs.Afterwards.{AreLeft}
use Rattle.kr_cmd_steps.specs.Environment.{Environment, around, with_exchanges, with_world}
use Rattle.kr_cmd_steps.specs.Ran.{Answers, Ran, Readings, WroteNothing}
use Rattle.kr_cmd_steps.proofs.HeardLinks.{heard_so}
use Rattle.kr_cmd_fleet.specs.Fleets.{RanAlone, RanFleet, TellsFleet}
use Rattle.kr_cmd_fleet.proofs.CallEnds.{unbegun}
use Rattle.kr_cmd_fleet.proofs.FleetRuns.{fleet_stopped, one_fleet}
use Rattle.kr_cmd_gen.specs.GeneratedLoads.{RanLoad}
use Rattle.kr_cmd_gen.proofs.LoadHeads.{load_headline}
use Rattle.kr_cmd_gen.proofs.LoadReadings.{load_readings}
use Rattle.kr_cmd_gen.proofs.LoadRuns.{unbegun as load_unbegun}
use Rattle.kr_cmd_watch.specs.Watchings.{RanWatch}
use Rattle.kr_cmd_watch.proofs.WatchEnds.{watch_stopped}
use Rattle.kr_cmd_laws.proofs.FleetReadings.{fleet_readings}
use Rattle.kr_cmd_laws.proofs.Leaving.{tapes_left}
use Rattle.kr_cmd_laws.proofs.PrintedPlans.{plan_is_printed}
use Rattle.kr_cmd_laws.proofs.Readings.{readings}
use Rattle.kr_cmd_laws.proofs.RunHeads.{runs_have_headlines}
use Rattle.kr_cmd_laws.specs.PlanLaws.{PlanIsPrinted}
use Rattle.kr_cmd_laws.specs.VerifyLaws.{listening}
use Rattle.kr_top.specs.Asked.{AloneHearing, RanFleetHearing, RanHearing, RanWatchHearing}
use Rattle.kr_top.specs.Run.{Runs}
use Rattle.kr_top.specs.declared.team.TeamWords.{TeamWords}
use Rattle.kr_top.specs.declared.team.TeamWords.TheVariants.{Fleet, Load, Watch}
use Rattle.kr_top.specs.inner.Parts.{AnswersHearing}
use Rattle.kr_top.specs.inner.Team.{AsksTeam, DidTeam, IsUnread}
use Rattle.kr_top.proofs.Performing.{unanswered}

-- ---- a command that no one waits in, or words that mean none

module _ {L : Type 0} (link : L → Link) (step : L → Exchange → L → Type 0)
    (lent took : ℕ → L → Type 0) (words : List (List ℕ)) (old new : Environment)
    (output errors : Receipt) (status : ℕ) where
  pub record RunsAlone : Type 0 where
    pub ran : Ran words old new output errors status
    pub asked : RanHearing link lent took step words old new output errors status
    pub readings : Readings words old new output errors status
    pub tapes : AreLeft words old new output status
    pub plan : PlanIsPrinted words old output status

-- what it answered was told
module _ (words : List (List ℕ)) (output errors : Receipt) (status : ℕ) (result : Result Done Stop)
    (tells : Tells (line_of result) (status_of result) errors status)
    (written : output.old_faults ≤ output.new_faults)
    (told : errors.old_faults ≤ errors.new_faults) where
  ran_by : {old new : Environment} → Answers words old new output result
      → Ran words old new output errors status
  ran_by answers = record {
    result = result;
    answers = answers;
    tells = tells;
    written = written;
    told = told;
  }

  pub alone_ran : {L : Type 0} (link : L → Link) (step : L → Exchange → L → Type 0)
      (lent took : ℕ → L → Type 0) (w v : Outside) (before behind : Option (List ℕ)) (m n : ℕ)
      → AnswersHearing link step lent took words (around w before m) (around v behind n) output
      result
      → RunsAlone link step lent took words (around w before m) (around v behind n) output errors
      status
  alone_ran link step lent took w v before behind m n answers =
      let all = answers.talk.are (around w before m).heard in
      let it : Ran words (around w before m) (around v behind n) output errors status =
      ran_by all in record {
        ran = it;
        asked = heard_so link lent took step 0 [] [] _ _ answers (λ es so. (
          ran_by (so (Some [])),
          readings _ _ _ _ _ _ result (so (Some [])) tells,
        ));
        readings = readings _ _ _ _ _ _ result all tells;
        tapes = tapes_left _ _ _ _ _ _ result all tells;
        plan = plan_is_printed words (around w before m) (around v behind n) output errors status
            it;
      }

module _ {L : Type 0} (link : L → Link) (step : L → Exchange → L → Type 0)
    (lent took : ℕ → L → Type 0) (words : List (List ℕ)) (old new : Environment)
    (output errors : Receipt) (status : ℕ) where
  -- as `run_alone` says it
  pub told_alone : RunsAlone link step lent took words old new output errors status
      → AskAlone words ⊎ Tells (line_of (Err NoMemory)) (status_of (Err NoMemory)) errors status
      → RanAlone words old new output errors (Some status)
      × AloneHearing link lent took step words old new output errors (Some status)
  told_alone alone none = ((alone.ran, alone.readings, alone.tapes, none), alone.asked)

-- several workers are asked for
pub asked_apart : (words : List (List ℕ)) (asked : TeamWords) → AsksTeam words asked
    → ((fleet : FleetWords) × AsksFleet words fleet) ⊎ ((load : LoadWords) × AsksLoad words load)
    ⊎ ((watch : WatchWords) × AsksWatch words watch)
asked_apart words (Fleet asked) asks = inl (asked, asks)
asked_apart words (Load asked) asks = inr (inl (asked, asks))
asked_apart words (Watch asked) asks = inr (inr (asked, asks))

-- ---- all that is promised, by what is promised for each way to ask

module _ (T : Type 0) {L D : Type 0} (link : L → Link)
    (step : L → Exchange → L → Type 0) (lent took : ℕ → L → Type 0)
    (left : D → Option (List ℕ)) (count : D → ℕ) (words : List (List ℕ)) (old new : Environment)
    (output errors : Receipt) (status : ℕ) where
  abbrev pub FleetRuns : FleetWords → Type 0
  FleetRuns asked = RanFleet T link step lent took left count asked old new output errors status
      × RanFleetHearing T link step lent took left count asked old new output errors status

  abbrev pub WatchRuns : WatchWords → Type 0
  WatchRuns asked = RanWatch T link step lent took left count asked old new output errors status
      × RanWatchHearing T link step lent took left count asked old new output errors status

  pub promised : ((asked : FleetWords) → AsksFleet words asked → FleetRuns asked)
      → ((asked : LoadWords) → AsksLoad words asked
      → RanLoad T link step asked old new output errors status)
      → ((asked : WatchWords) → AsksWatch words asked → WatchRuns asked)
      → (AskAlone words → RunsAlone link step lent took words old new output errors status)
      → Runs T link step lent took left count words old new output errors status
  promised fleet load watch alone = record {
    headline = λ asked asks. (
      (fleet asked asks).1.0,
      runs_have_headlines T link step lent took left count asked (listening old)
          (with_exchanges (fleet asked asks).1.0 (listening new)) output errors status
          (fleet asked asks).1.1,
    );
    ran = λ none. (alone none).ran;
    asked = λ none. (alone none).asked;
    readings = λ none. (alone none).readings;
    tapes = λ none. (alone none).tapes;
    plan = λ none. (alone none).plan;
    fleet = λ asked asks. (fleet asked asks).0;
    fleet_asked = λ asked asks. (fleet asked asks).1;
    fleet_readings = λ asked asks. fleet_readings T link step lent took left count asked old new
        output errors status (fleet asked asks).0;
    watch = λ asked asks. (watch asked asks).0;
    watch_asked = λ asked asks. (watch asked asks).1;
    load_headline = λ asked asks. load_headline T link step asked old new output errors status
        (load asked asks);
    load = load;
    load_readings = λ asked asks. load_readings T link step asked old new output errors status
        (asked_small asks) (load asked asks);
  }

  -- the words ask for one of them alone
  fleet_alone : (read : FleetWords) → AsksFleet words read → FleetRuns read
      → Runs T link step lent took left count words old new output errors status
  fleet_alone read is runs = promised
      (λ asked asks. subst (λ w. FleetRuns w) (one_fleet words read asked is asks) runs)
      (λ asked asks. absurd (not_both words read asked is asks))
      (λ asked asks. absurd (not_fleet_and_watch words read asked is asks))
      (λ none. absurd (none.0 read is))

  load_alone : (read : LoadWords) → AsksLoad words read
      → RanLoad T link step read old new output errors status
      → Runs T link step lent took left count words old new output errors status
  load_alone read is ran = promised
      (λ asked asks. absurd (not_both words asked read asks is))
      (λ asked asks. subst (λ w. RanLoad T link step w old new output errors status)
      (one_load words read asked is asks) ran)
      (λ asked asks. absurd (not_load_and_watch words read asked is asks))
      (λ none. absurd (none.1 read is))

  watch_alone : (read : WatchWords) → AsksWatch words read → WatchRuns read
      → Runs T link step lent took left count words old new output errors status
  watch_alone read is runs = promised
      (λ asked asks. absurd (not_fleet_and_watch words asked read asks is))
      (λ asked asks. absurd (not_load_and_watch words asked read asks is))
      (λ asked asks. subst (λ w. WatchRuns w) (one_watch words read asked is asks) runs)
      (λ none. absurd (none.2 read is))

  pub none_promised : AskAlone words
      → RunsAlone link step lent took words old new output errors status
      → Runs T link step lent took left count words old new output errors status
  none_promised none alone = promised (λ asked asks. absurd (none.0 asked asks))
      (λ asked asks. absurd (none.1 asked asks)) (λ asked asks. absurd (none.2 asked asks))
      (λ _. alone)

-- ---- several workers did it

module _ (T : Type 0) {L D : Type 0} (link : L → Link)
    (step : L → Exchange → L → Type 0) (lent took : ℕ → L → Type 0)
    (left : D → Option (List ℕ)) (count : D → ℕ) (words : List (List ℕ)) (w v : Outside)
    (input : Option (List ℕ)) (faults : ℕ) (output errors : Receipt) (status : ℕ)
    (result : Result Ending Stop) (tells : TellsFleet result errors status)
    (written : output.old_faults ≤ output.new_faults)
    (told : errors.old_faults ≤ errors.new_faults) where
  abbrev before : Environment
  before = around w input faults

  abbrev behind : Environment
  behind = around v input faults

  pub team_promised : (asked : TeamWords) → AsksTeam words asked
      → DidTeam T link step lent took left count asked w v output result
      → Runs T link step lent took left count words before behind output errors status
  team_promised (Fleet read) is (exchanges, did) =
      let ran : (a : Environment) → RanFleet T link step lent took left count read (with_world w a)
      (with_world v (with_exchanges exchanges a)) output errors status = λ a. record {
        result = result;
        did = did a;
        tells = tells;
        written = written;
        told = told;
      } in
      fleet_alone T link step lent took left count words before behind output errors status read is
      (ran before, (exchanges, ran (listening before)))
  team_promised (Load read) is did =
      load_alone T link step lent took left count words before behind output errors status read is
      (record {
        result = result;
        did = did before refl;
        tells = tells;
        written = written;
        told = told;
      })
  team_promised (Watch read) is (exchanges, did) =
      let ran : (a : Environment) → RanWatch T link step lent took left count read (with_world w a)
      (with_world v (with_exchanges exchanges a)) output errors status = λ a. record {
        result = result;
        did = did a;
        tells = tells;
        written = written;
        told = told;
      } in
      watch_alone T link step lent took left count words before behind output errors status read is
      (ran before, (exchanges, ran (listening before)))

-- ---- the words weren't read: nothing around was touched, and the line tells why

module _ (words : List (List ℕ)) (w : Outside) (input : Option (List ℕ)) (faults : ℕ)
    (output errors : Receipt) (status : ℕ) (stop : Stop) (idle : WroteNothing output)
    (tells : Tells (line_of (Err stop)) (status_of (Err stop)) errors status)
    (later : errors.old_faults ≤ errors.new_faults) (is : IsUnread words stop) where
  abbrev here : Environment
  here = around w input faults

  written_later : output.old_faults ≤ output.new_faults
  written_later = let same = idle.1 in omega (arith, same)

  alone_unread : {L : Type 0} (link : L → Link) (step : L → Exchange → L → Type 0)
      (lent took : ℕ → L → Type 0)
      → RunsAlone link step lent took words here here output errors status
  alone_unread link step lent took =
      alone_ran words output errors status (Err stop) tells written_later later link step lent took
      w w input input faults faults
      (unanswered link step lent took words here output (Err stop) is.0 idle)

  -- several workers were asked for, so memory lacked
  lacks : AskAlone words ⊎ (stop ≡ NoMemory) → (AskAlone words → ⊥) → stop ≡ NoMemory
  lacks (inl none) some = absurd (some none)
  lacks (inr lacking) some = lacking

  tells_lack : stop ≡ NoMemory
      → Tells (line_of (Err NoMemory)) (status_of (Err NoMemory)) errors status
  tells_lack lacking =
      subst (λ s. Tells (line_of (Err s)) (status_of (Err s)) errors status) lacking tells

  none_or_lacks : AskAlone words ⊎ (stop ≡ NoMemory) → AskAlone words
      ⊎ Tells (line_of (Err NoMemory)) (status_of (Err NoMemory)) errors status
  none_or_lacks (inl none) = inl none
  none_or_lacks (inr lacking) = inr (tells_lack lacking)

  pub told_unread : {L : Type 0} (link : L → Link) (step : L → Exchange → L → Type 0)
      (lent took : ℕ → L → Type 0) → RanAlone words here here output errors (Some status)
      × AloneHearing link lent took step words here here output errors (Some status)
  told_unread link step lent took = told_alone link step lent took words here here output errors
      status (alone_unread link step lent took) (none_or_lacks is.1)

  module _ (T : Type 0) {L D : Type 0} (link : L → Link)
      (step : L → Exchange → L → Type 0) (lent took : ℕ → L → Type 0)
      (left : D → Option (List ℕ)) (count : D → ℕ) where
    fleet_unread : (asked : FleetWords) → AsksFleet words asked → (a : Environment)
        → RanFleet T link step lent took left count asked a a output errors status
    fleet_unread asked asks a = record {
      result = Err NoMemory;
      did = fleet_stopped (unbegun T link step lent took left count asked false a output idle);
      tells = tells_lack (lacks is.1 (λ none. none.0 asked asks));
      written = written_later;
      told = later;
    }

    load_unread : (asked : LoadWords) → AsksLoad words asked
        → RanLoad T link step asked here here output errors status
    load_unread asked asks = record {
      result = Err NoMemory;
      did = load_unbegun T link step asked here output idle;
      tells = tells_lack (lacks is.1 (λ none. none.1 asked asks));
      written = written_later;
      told = later;
    }

    watch_unread_so : (asked : WatchWords) → AsksWatch words asked → (a : Environment)
        → RanWatch T link step lent took left count asked a a output errors status
    watch_unread_so asked asks a = record {
      result = Err NoMemory;
      did = watch_stopped (unbegun T link step lent took left count asked.fleet true a output idle);
      tells = tells_lack (lacks is.1 (λ none. none.2 asked asks));
      written = written_later;
      told = later;
    }

    pub run_unread : Runs T link step lent took left count words here here output errors status
    run_unread = promised T link step lent took left count words here here output errors status
        (λ asked asks.
        (fleet_unread asked asks here, ([], fleet_unread asked asks (listening here))))
        load_unread
        (λ asked asks.
        (watch_unread_so asked asks here, ([], watch_unread_so asked asks (listening here))))
        (λ _. alone_unread link step lent took)
