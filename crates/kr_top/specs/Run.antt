-- All that a call of `run` promises, by what its words ask for. Of a call is told what stood around
-- it before and after (`old`, `new`: the files, the stores' tapes, the random sources, the plugins'
-- links and the input, each with its count of faults), what was printed (`output`, `errors`) and
-- the answer (`status`). The members in front are those of the world: what a link tells and how it
-- answers, which links were lent and came back, and what a random source has left and how often it
-- failed.
use Rattle.std.specs.Prelude.{ℕ, List, Option}
use Rattle.kr_kms.specs.Calls.{Link}
use Rattle.kr_kms.specs.Exchanges.{Exchange}
use Rattle.kr_cmd_messages.specs.FleetAsked.{AskAlone, AsksFleet}
use Rattle.kr_cmd_messages.specs.LoadAsked.{AsksLoad}
use Rattle.kr_cmd_messages.specs.Receipts.{Receipt}
use Rattle.kr_cmd_messages.specs.WatchAsked.{AsksWatch}
use Rattle.kr_cmd_messages.specs.declared.fleet_words.FleetWords.{FleetWords}
use Rattle.kr_cmd_messages.specs.declared.load_words.LoadWords.{LoadWords}
use Rattle.kr_cmd_messages.specs.declared.watch_words.WatchWords.{WatchWords}
use Rattle.kr_cmd_steps.specs.Afterwards.{AreLeft}
use Rattle.kr_cmd_steps.specs.Environment.{Environment}
use Rattle.kr_cmd_steps.specs.Ran.{Ran, Readings}
use Rattle.kr_cmd_fleet.specs.FleetReadings.{FleetReadings}
use Rattle.kr_cmd_fleet.specs.Fleets.{RanFleet}
use Rattle.kr_cmd_gen.specs.GeneratedLoads.{RanLoad}
use Rattle.kr_cmd_gen.specs.LoadHeadlines.{LoadHeadline}
use Rattle.kr_cmd_gen.specs.LoadReadings.{LoadReadings}
use Rattle.kr_cmd_laws.specs.PlanLaws.{PlanIsPrinted}
use Rattle.kr_cmd_watch.specs.Watchings.{RanWatch}
use Rattle.kr_top.specs.Asked.{HeadlineHearing, RanFleetHearing, RanHearing, RanWatchHearing}

pub record Runs (T : Type 0) {L D : Type 0} (link : L → Link)
    (step : L → Exchange → L → Type 0) (lent took : ℕ → L → Type 0)
    (left : D → Option (List ℕ)) (count : D → ℕ) (words : List (List ℕ)) (old new : Environment)
    (output errors : Receipt) (status : ℕ) : Type 0 where
  -- `fleet`, for its operator: a `get` by any replica is answered with the bytes that were put last
  -- at its path, or with a reply that has its cause; of plugins nothing is supposed but that some
  -- openings agree with what they answered in this call
  pub headline : (asked : FleetWords) → AsksFleet words asked
      → HeadlineHearing T link step lent took left count asked old new output errors status
  -- each command but `fleet`, `watch` and `gen`, and words that mean none: its steps, one behind
  -- another, what they consumed and said, and how they ended
  pub ran : AskAlone words → Ran words old new output errors status
  -- and what it asked of plugins: just what its steps say, and nothing else; and what follows of
  -- the statuses where these answers are told
  pub asked : AskAlone words
      → RanHearing link lent took step words old new output errors status
  -- what follows from `ran`: from what each status comes, and when it must come
  pub readings : AskAlone words → Readings words old new output errors status
  -- and what is left of the stores' tapes, whatever the status is
  pub tapes : AskAlone words → AreLeft words old new output status
  -- `plan` with status 0: just the plan of the two files was printed; and its moves, done one behind
  -- another with a rewrite that leaves nothing, are never refused and lead to `--to`
  pub plan : AskAlone words → PlanIsPrinted words old output status
  -- `fleet`: the steps up to its workers; from there one history in which each worker's lines
  -- stand; just this journal and these replies on the output; and the status that they decide
  pub fleet : (asked : FleetWords) → AsksFleet words asked
      → RanFleet T link step lent took left count asked old new output errors status
  -- and what the steps up to its workers asked of plugins: just what the links answered that were
  -- lent to the first worker's seat, of all that were handed out; with those this worker began
  pub fleet_asked : (asked : FleetWords) → AsksFleet words asked
      → RanFleetHearing T link step lent took left count asked old new output errors status
  -- what follows from `fleet`: from what each status comes, and when it must come
  pub fleet_readings : (asked : FleetWords) → AsksFleet words asked
      → FleetReadings T link step lent took left count asked old new output errors status
  -- `watch`: the steps of a fleet, at which the live rows are read too; its one history; just the
  -- text of what is shown of it on the output, in pages or as the changes since a revision; and
  -- the fleet's status, with 1 for 0 at a revision that is gone or ahead
  pub watch : (asked : WatchWords) → AsksWatch words asked
      → RanWatch T link step lent took left count asked old new output errors status
  -- and what the steps up to its workers asked of plugins, as of a fleet
  pub watch_asked : (asked : WatchWords) → AsksWatch words asked
      → RanWatchHearing T link step lent took left count asked old new output errors status
  -- `gen`, for its operator: the same headline over the lines that the seed and the size decide
  pub load_headline : (asked : LoadWords) → AsksLoad words asked
      → LoadHeadline T link step asked old new output errors status
  -- `gen`: what `fleet` says, over the load that the seed and the size decide, with one summary of
  -- it on the output
  pub load : (asked : LoadWords) → AsksLoad words asked
      → RanLoad T link step asked old new output errors status
  -- what follows from `load`: the statuses, that a load over an empty store is done whole, and that
  -- each put that was counted has its row
  pub load_readings : (asked : LoadWords) → AsksLoad words asked
      → LoadReadings T link step asked old new output errors status
