-- What readers take from the relation of a load.
use Rattle.std.proofs.Common.{List, ℕ, ◌≤◌, Result, Err}
use Rattle.kr_kms.specs.Calls.{Link}
use Rattle.kr_kms.specs.Exchanges.{Exchange}
use Rattle.kr_workers.specs.declared.ending.Ending.{Ending}
use Rattle.kr_workload.specs.Streams.{StreamState, link_faults, left_in}
use Rattle.kr_cmd_steps.specs.Environment.{Environment}
use Rattle.kr_cmd_gen.specs.GeneratedLoads.{RanLoad, load_steps, with_sources, with_streams}
use Rattle.kr_cmd_gen.specs.LoadReadings.{HasStarted, LoadReadings, TellsTape}
use Rattle.kr_cmd_messages.specs.Receipts.{Receipt}
use Rattle.kr_cmd_messages.specs.declared.load_words.LoadWords.{LoadWords}
use Rattle.kr_cmd_messages.specs.declared.refusal.Stop.{Stop}
use Rattle.kr_cmd_messages.specs.declared.refusal.Stop.TheVariants.{Fault, NoMemory}
use Rattle.kr_cmd_laws.proofs.Causes.{BreaksOff, causes}
use Rattle.kr_cmd_gen.proofs.FullLoads.{full_load, keeps_puts}
use Rattle.kr_cmd_gen.proofs.LoadSettled.{settled_load}

module _ (T : Type 0) {L : Type 0} (link : L → Link)
    (step : L → Exchange → L → Type 0) (words : LoadWords)
    (old new : Environment) (output errors : Receipt) where
  abbrev Began : List StreamState → Result Ending Stop → Type 0
  Began sources result = HasStarted T link step words old new output errors sources result

  breaks : (sources : List StreamState) (stop : Stop) → Began sources (Err stop)
      → BreaksOff output stop
  breaks sources (Fault object n) s = s.writes.2
  breaks sources NoMemory s = tt
  breaks sources other s = absurd s.writes

  pub load_readings : (status : ℕ) → words.size ≤ 10000
      → RanLoad T link step words old new output errors status
      → LoadReadings T link step words old new output errors status
  load_readings status small ran = let sources = ran.did.sources in record {
    sources = sources;
    causes = causes T link step left_in link_faults (load_steps words) words.store (Began sources) (with_streams words.seed old)
        (with_sources sources new) output errors
        (λ e s. (s.begun, (s.reaches.end, s.reaches.goes))) (breaks sources)
        (TellsTape words old) (settled_load words old) status ran.result
        ran.did.seated ran.did.did ran.tells;
    complete = λ blank none.
        full_load T link step words old new output errors small blank none status ran;
    kept = λ result s. keeps_puts T link step words sources old new output result s;
  }
