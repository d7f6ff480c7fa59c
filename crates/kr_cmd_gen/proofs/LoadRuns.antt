-- How a call of `run` goes by what `gen` did.
use Rattle.std.proofs.Common.{◌≡◌, List, map, Result, Ok, Err, refl, sym, ◌∙◌, subst, inl, inr}
use Rattle.std.specs.Prelude.{◌⊎◌}
use Rattle.kr_kms.specs.Calls.{Link}
use Rattle.kr_kms.specs.Exchanges.{Exchange}
use Rattle.kr_workers.specs.declared.ending.Ending.{Ending}
use Rattle.kr_workload.specs.Streams.{StreamState, left_in, link_faults}
use Rattle.kr_workers.specs.declared.worker.Worker as fleet_worker
use Rattle.kr_cmd_steps.specs.Environment.{Environment, IsHome, step_state}
use Rattle.kr_cmd_fleet.specs.FleetFiles.{FleetPlan}
use Rattle.kr_cmd_fleet.specs.Fleets.{Begun, StopsBefore}
use Rattle.kr_cmd_gen.specs.GeneratedLoads.{DidLoad, LeavesOthers, StartsLoad, WritesLoad, load_over, load_plan, load_steps, streams_of, with_sources, with_streams}
use Rattle.kr_cmd_steps.specs.Ran.{WroteNothing}
use Rattle.kr_cmd_messages.specs.Receipts.{Receipt}
use Rattle.kr_cmd_fleet.specs.declared.fleet.Record.{Record}
use Rattle.kr_cmd_messages.specs.declared.load_words.LoadWords.{LoadWords}
use Rattle.kr_cmd_messages.specs.declared.refusal.Stop.{Stop}
use Rattle.kr_cmd_messages.specs.declared.refusal.Stop.TheVariants.{NoMemory}
use Rattle.kr_cmd_gen.specs.inner.LoadOutcomes.{SettlesLoad}
use Rattle.kr_cmd_steps.specs.inner.Phases.{Does}
use Rattle.kr_cmd_gen.proofs.Generating.{home_unseeded}
use Rattle.kr_cmd_steps.proofs.RunTo.{home_refl, reach, stays_refl}

module _ (T : Type 0) {L : Type 0} (link : L → Link)
    (step : L → Exchange → L → Type 0) where
  -- memory lacked before anything was done
  pub unbegun : (asked : LoadWords) (a : Environment) (output : Receipt) → WroteNothing output
      → DidLoad T link step asked a a output (Err NoMemory)
  unbegun asked a output idle = record {
    home = home_refl a;
    others = record { dice = refl; links = refl };
    sources = streams_of asked.seed;
    seated = home_refl (with_streams asked.seed a);
    did = inl (
      inl (inr (reach (step_state (with_streams asked.seed a)) (inl (refl, refl))
          (stays_refl (with_streams asked.seed a)))),
      idle,
    );
  }

  module _ (asked : LoadWords) (plan : FleetPlan) (is : plan ≡ load_plan asked)
      (old new : Environment) where
    abbrev Began : Environment
    Began = with_streams asked.seed old

    -- steps of the plan are those of the load
    does_load : {mid : Environment} (result : Result Begun Stop)
        → Does (load_over asked.store plan) Began mid result → Does (load_steps asked) Began mid
        result
    does_load {mid} result d = subst (λ p. Does (load_over asked.store p) Began mid result) is d

    did_so : {output : Receipt} {result : Result Ending Stop} (sources : List StreamState)
        → LeavesOthers old.world new.world → IsHome Began (with_sources sources new)
        → StopsBefore T link step left_in link_faults (load_steps asked) asked.store Began
        (with_sources sources new) output result
        ⊎ StartsLoad T link step asked sources old new output result
        → DidLoad T link step asked old new output result
    did_so sources others seated did = record {
      home = home_unseeded asked.seed sources old new others seated;
      others = others;
      sources = sources;
      seated = seated;
      did = did;
    }

    -- the steps behind the plan ended the command, or want of memory did
    pub load_stopped : (stop : Stop) (output : Receipt) → LeavesOthers old.world new.world
        → SettlesLoad T link step asked.seed (load_over asked.store plan) asked.store plan
        old new (Err stop)
        → WroteNothing output → DidLoad T link step asked old new output (Err stop)
    load_stopped stop output others (sources, inl e) idle =
        let d = does_load (Err stop) e in
        did_so sources others d.home (inl (inl (d.ends (step_state Began) (stays_refl Began)), idle))
    load_stopped stop output others (sources, inr (inl l)) idle =
        let d = does_load (Ok l.begun) l.does in did_so sources others l.home (inl (
          inr (inl (
            l.stops,
            (l.mid, l.begun, d.ends (step_state Began) (stays_refl Began), l.none, d.home),
          )),
          idle,
        ))
    load_stopped stop output others (sources, inr (inr l)) idle =
        let d = does_load (Ok l.begun) l.does in did_so sources others l.home (inl (
          inr (inr (l.mid, l.begun, d.ends (step_state Began) (stays_refl Began), l.fails, d.home)),
          idle,
        ))

    -- the workers ran
    pub load_ran : (made : Record) (output : Receipt) (result : Result Ending Stop)
        → LeavesOthers old.world new.world
        → SettlesLoad T link step asked.seed (load_over asked.store plan) asked.store plan
        old new (Ok made)
        → WritesLoad asked plan.fleet.workers made.replies.0 output result
        → DidLoad T link step asked old new output result
    load_ran made output result others (sources, l) w =
        let d = does_load (Ok l.begun) l.does in
        let told = map (λ (worker : fleet_worker.Worker T L StreamState). worker.told) l.ended in
        let by_replies = subst (λ replies. WritesLoad asked plan.fleet.workers replies output
        result) l.replies w in
        did_so sources others l.home (inr (record {
          begun = l.begun;
          plan_is = l.plan_is ∙ is;
          mid = l.mid;
          reaches = d.ends (step_state Began) (stays_refl Began);
          since = d.home;
          history = l.history;
          ended = l.ended;
          runs = l.runs;
          writes = subst (λ p. WritesLoad asked p.fleet.workers told output result)
              (sym l.plan_is) by_replies;
        }))
