-- No random source of a load fails, so none is told to.
use Rattle.std.specs.Prelude.{get_or}
use Rattle.std.proofs.Common.{ℕ, ◌≤◌, ◌<◌, List, length, arith}
use Rattle.std.proofs.lemmas.Option.{slice_get-get_or}
use Rattle.kr_kms.specs.Calls.{Link}
use Rattle.kr_kms.specs.Exchanges.{Exchange}
use Rattle.kr_script.specs.declared.script.ScriptLine.TheVariants as line
use Rattle.kr_script.specs.declared.told.Told.TheVariants as told
use Rattle.kr_workers.specs.declared.worker.Worker as fleet_worker
use Rattle.kr_workload.specs.Streams.{StreamState, link_faults}
use Rattle.kr_headline.specs.Headline.{Run}
use Rattle.kr_headline.proofs.CalmBenches.{never_failed}
use Rattle.kr_headline.proofs.Seats.{first_in}
use Rattle.kr_cmd_messages.specs.Receipts.{Receipt}
use Rattle.kr_cmd_messages.specs.declared.load_words.LoadWords.{LoadWords}
use Rattle.kr_cmd_steps.specs.Environment.{Environment}
use Rattle.kr_cmd_gen.specs.LoadHeadlines.{StartsLoadWorkers}
use Rattle.kr_cmd_gen.specs.WrongLoads.{EachLoadIsWrong, WrongLoads}
use Rattle.kr_cmd_gen.specs.WrongLoads as wrong

module _ (T : Type 0) {L : Type 0} (link : L → Link)
    (step : L → Exchange → L → Type 0) (words : LoadWords)
    (old new : Environment) (output errors : Receipt) (status : ℕ) (small : words.size ≤ 10000)
    (sources : List StreamState)
    (s : StartsLoadWorkers T link step words old new output errors status sources) where
  abbrev run : Run
  run = wrong.run T link step words old new output errors status sources s

  never : (worker at : ℕ) → worker < length s.ended → run.SourceFailed worker at → ⊥
  never worker at within failed =
      let h = s.has.page.headline in
      let in_parts : worker < length s.has.page.parts = omega (arith, within, h.many) in
      let in_old : worker < length s.has.page.workers = omega (arith, in_parts, h.whole) in
      let after = first_in s.ended worker within in
      let part = first_in s.has.page.parts worker in_parts in
      let before = first_in s.has.page.workers worker in_old in
      let first : fleet_worker.Worker T L StreamState = get_or s.has.page.workers worker before in
      let last : fleet_worker.Worker T L StreamState = get_or s.ended worker after in
      let benches = h.benches_are worker (get_or s.has.page.parts worker part) first last
      (slice_get-get_or s.has.page.parts worker part in_parts)
      (slice_get-get_or s.has.page.workers worker before in_old)
      (slice_get-get_or s.ended worker after within) in
      never_failed link step link_faults (h.benches worker) (h.exchanges worker)
      (get_or s.has.page.parts worker part).lines.0 first.bench last.bench benches
      (s.calm small worker after within) at failed

  wrong_loads : WrongLoads T link step words old new output errors status sources s
  wrong_loads = record {
    source_failed = never;
    put_draws = λ worker at seat path resource plain within told_is. never worker at within
        (s.has.page.headline.has.headline.tells worker at (line.Put resource path plain)
        (told.FaultDice seat) told_is).1;
  }

pub each_load_is_wrong : (T : Type 0) → {L : Type 0} → (link : L → Link)
    (step : L → Exchange → L → Type 0) → EachLoadIsWrong T link step
each_load_is_wrong T link step words old new output errors status small sources s =
    wrong_loads T link step words old new output errors status small sources s
