-- The headline of a call, from the relation of a load.
use Rattle.std.specs.Prelude.{◌⊎◌, map}
use Rattle.std.proofs.Common.{ℕ, List, Result, Ok, Err, inl, inr, ap, ◌∙◌}
use Rattle.kr_kms.specs.Calls.{Link}
use Rattle.kr_kms.specs.Exchanges.{Exchange}
use Rattle.kr_script.specs.Fleets.{Worker}
use Rattle.kr_workers.specs.Endings.{status_of as status_of_replies}
use Rattle.kr_workers.specs.declared.ending.Ending.{Ending}
use Rattle.kr_workers.specs.declared.worker.Worker as fleet_worker
use Rattle.kr_workload.specs.Streams.{StreamState, link_faults, left_in}
use Rattle.kr_workload.specs.Summaries.{Replies}
use Rattle.kr_cmd_messages.specs.Receipts.{Receipt}
use Rattle.kr_cmd_messages.specs.declared.load_words.LoadWords.{LoadWords}
use Rattle.kr_cmd_messages.specs.declared.refusal.Stop.{Stop}
use Rattle.kr_cmd_messages.specs.declared.refusal.Stop.TheVariants.{Fault, NoMemory}
use Rattle.kr_cmd_steps.specs.Environment.{Environment}
use Rattle.kr_cmd_fleet.specs.Fleets.{StopsBefore, TellsFleet, settled_behind}
use Rattle.kr_cmd_laws.specs.RunHeadlines.{StartsNobody}
use Rattle.kr_cmd_laws.proofs.RunHeads.{tells_output, workers_headline}
use Rattle.kr_cmd_gen.specs.GeneratedLoads.{StartsLoad, WritesLoad, load_steps, with_sources, with_streams}
use Rattle.kr_cmd_gen.specs.Laws.{LoadsHaveHeadlines}
use Rattle.kr_cmd_gen.specs.LoadHeadlines.{PrintsSummary, StartsLoadWorkers}
use Rattle.kr_cmd_gen.proofs.FullLoads.{calm_sources}

prints : (words : LoadWords) (workers : List Worker) (replies : Replies)
    (output errors : Receipt) (status : ℕ) (result : Result Ending Stop)
    → WritesLoad words workers replies output result → TellsFleet result errors status
    → PrintsSummary words workers replies output errors status
prints words workers replies output errors status (Ok told) w t = inl (
  w.1.0,
  w.1.1,
  inl (w.1.2, t.1, t.0 ∙ ap status_of_replies w.0),
)
prints words workers replies output errors status (Err (Fault object n)) w t = inl (
  w.0.0,
  w.0.1,
  inr (w.0.2, w.2, tells_output object n errors status output.new_faults w.1 w.3 t),
)
prints words workers replies output errors status (Err NoMemory) w t = inr (w, t)
prints words workers replies output errors status (Err other) w t = absurd w

module _ (T : Type 0) {L : Type 0} (link : L → Link)
    (step : L → Exchange → L → Type 0) (words : LoadWords) (sources : List StreamState)
    (old new : Environment) (output errors : Receipt) (status : ℕ) where
  started : (result : Result Ending Stop)
      → StartsLoad T link step words sources old new output result
      → TellsFleet result errors status
      → StartsLoadWorkers T link step words old new output errors status sources
  started result s tells = record {
    begun = s.begun;
    plan_is = s.plan_is;
    mid = s.mid;
    reaches = s.reaches;
    since = s.since;
    history = s.history;
    ended = s.ended;
    has = workers_headline link step left_in link_faults words.store s.begun
        (settled_behind words.store s.mid) (with_sources sources new) s.history s.ended s.runs;
    calm = calm_sources T link step words sources old new output result s;
    prints = prints words s.begun.plan.fleet.workers
        (map (λ (w : fleet_worker.Worker T L StreamState). w.told) s.ended) output errors status
        result s.writes tells;
  }

  either : (result : Result Ending Stop)
      → StopsBefore T link step left_in link_faults (load_steps words) words.store
      (with_streams words.seed old)
      (with_sources sources new) output result
      ⊎ StartsLoad T link step words sources old new output result
      → TellsFleet result errors status
      → StartsNobody T link step left_in link_faults (load_steps words) words.store
      (with_streams words.seed old)
      (with_sources sources new) output errors status
      ⊎ StartsLoadWorkers T link step words old new output errors status sources
  either (Ok ending) (inl stops) tells = absurd stops
  either (Err stop) (inl stops) tells =
      inl (record { stop = stop; stops = stops; tells = tells })
  either result (inr began) tells = inr (started result began tells)

pub load_headline : (T : Type 0) → {L : Type 0} → (link : L → Link)
    (step : L → Exchange → L → Type 0)
    → LoadsHaveHeadlines T link step
load_headline T link step words old new output errors status ran = (
  ran.did.home,
  ran.did.others,
  ran.did.sources,
  either T link step words ran.did.sources old new output errors status ran.result
      ran.did.did ran.tells,
)
