-- A load over a store without rows ends with its whole summary, or memory lacked.
use Rattle.std.proofs.Common.{◌≡◌, ℕ, zero, suc, ◌+◌, ◌*◌, ◌≤◌, ◌<◌, ◌^◌, length, ◌⊎◌, Bool, true, false, List, [], ◌∷◌, codes, map, sum, Contains, Option, Some, Result, Ok, Err, refl, sym, ◌∙◌, ap, subst, inl, inr, arith}
use Rattle.std.specs.Io.KnownBytes.{Keeps}
use Rattle.std.specs.List.{list_any, slice_get}
use Rattle.std.specs.Prelude.{All, get_or, if◌then◌else◌}
use Rattle.std.proofs.lemmas.Bool.Decides.{nat_tests}
use Rattle.std.proofs.lemmas.List.{length-append}
use Rattle.std.proofs.lemmas.List.Sums.{sum_by-cons}
use Rattle.std.proofs.lemmas.Option.{get_or_from_slice_get, none-some, slice_get-get_or, slice_get_within}
use Rattle.kr_base.specs.Faults.{Rose}
use Rattle.kr_base.specs.Streams.{TakesAtMost}
use Rattle.kr_base.proofs.Counting.{Rose-later}
use Rattle.kr_config.specs.Kept.{ConfigEntry}
use Rattle.kr_config.specs.Lists.{class_list, first_list}
use Rattle.kr_config.specs.Patterns.{covers_group, covers_rest, matches}
use Rattle.kr_config.specs.declared.class.Class.{Class}
use Rattle.kr_config.specs.declared.class.Class.TheVariants as classes
use Rattle.kr_config.specs.declared.pattern.Pattern.{Pattern}
use Rattle.kr_config.specs.declared.pattern.Pattern.TheVariants.{Exact}
use Rattle.kr_config.specs.declared.who.Who.TheVariants.{Identity}
use Rattle.kr_kms.specs.Calls.{Link}
use Rattle.kr_kms.specs.Exchanges.{Exchange}
use Rattle.kr_judge.specs.Fits.{ReadsWriter}
use Rattle.kr_workload.specs.Endings.{ending_of_load}
use Rattle.kr_workload.specs.FullLoads.{AreFull, IsBlankRun}
use Rattle.kr_workload.specs.LoadRuns.{IsLoadRun, opening_rows}
use Rattle.kr_workload.specs.Loads.{g1, lines_of, load_fleet}
use Rattle.kr_workload.specs.Streams.{StreamState, link_faults, left_in}
use Rattle.kr_workload.specs.Summaries.{IsDigest, Replies, objects_of, summary_text}
use Rattle.kr_workload.proofs.FullRuns.{draws_few, four_old, loads_are_full}
use Rattle.kr_workload.proofs.KeptPuts.{puts_are_kept}
use Rattle.kr_workload.proofs.LoadLines.{budget_few}
use Rattle.kr_provider.specs.Names.{names_of}
use Rattle.kr_opening.specs.Replicas.{settings_of}
use Rattle.kr_opening.specs.Starts.{MayStart}
use Rattle.kr_opening.specs.declared.opening_board.StartNo.TheVariants as no
use Rattle.kr_history.proofs.Judging.{refusal_is_exact}
use Rattle.kr_store.specs.Rows.{live}
use Rattle.kr_workers.specs.Budgets.{budget_of, script_budgets, put_lines}
use Rattle.kr_workers.specs.Endings.{status_of}
use Rattle.kr_workers.specs.declared.ending.Ending.{Ending}
use Rattle.kr_workers.specs.declared.ending.Ending.TheVariants as ending
use Rattle.kr_workers.specs.declared.worker.Worker as fleet_worker
use Rattle.kr_cmd_steps.specs.Environment.{Environment, faults_at, step_state}
use Rattle.kr_cmd_fleet.specs.Causes.{NoneRose}
use Rattle.kr_cmd_steps.specs.Phases.{by_result, with_memory}
use Rattle.kr_cmd_fleet.specs.FleetFiles.{FleetPlan}
use Rattle.kr_cmd_fleet.specs.Fleets.{AreWithin, Begun, IsStart, Replicas, StopsBefore, TellsFleet, launching, opening_of, parts_of, rows_of_replica, starting_with}
use Rattle.kr_cmd_fleet.proofs.SettledRuns.{rose_unsettled}
use Rattle.kr_cmd_gen.specs.FullLoads.{IsBlank, IsFullLoad, KeepsPuts}
use Rattle.kr_cmd_gen.specs.GeneratedLoads.{RanLoad, StartsLoad, load_beginning, load_plan, load_steps, with_sources, with_streams}
use Rattle.kr_cmd_steps.specs.Judgements.{start_refusal}
use Rattle.kr_cmd_messages.specs.Message.{status_of as stop_status}
use Rattle.kr_cmd_steps.specs.Ran.{WroteNothing}
use Rattle.kr_cmd_messages.specs.Receipts.{Receipt}
use Rattle.kr_cmd_steps.specs.Steps.{StepState, and_then, give, gives, or_empty, awaits, refuses, tapes_with, Call, drawing, scanning, settling}
use Rattle.kr_cmd_steps.specs.StoreFiles.{IsStored, Stored}
use Rattle.kr_cmd_messages.specs.declared.load_words.LoadWords.{LoadWords}
use Rattle.kr_cmd_steps.specs.declared.programs.Program.{Program}
use Rattle.kr_cmd_messages.specs.declared.refusal.Object.TheVariants.{Store}
use Rattle.kr_cmd_messages.specs.declared.refusal.Refusal.{Refusal}
use Rattle.kr_cmd_messages.specs.declared.refusal.Stop.{Stop}
use Rattle.kr_cmd_messages.specs.declared.refusal.Stop.TheVariants.{Words, Refused, Fault, NoMemory}
use Rattle.kr_cmd_laws.proofs.FleetWalk.{is_told, some_same}
use Rattle.kr_cmd_gen.proofs.Undrawn.{IsNoDraw, load_undrawn, whole_told}
use Rattle.kr_cmd_steps.proofs.GivesOnly.{GivesOnly, allowed}
use Rattle.kr_cmd_laws.proofs.Listed.{one_stored}
use Rattle.kr_cmd_steps.proofs.Tapes.{own_name}

-- ---- the start

first_writer : (test : Pattern → Bool) (seed : ℕ)
    → ReadsWriter (first_list test (opening_rows seed)) (first_list test (opening_rows seed))
first_writer test seed = by (list_any test (Exact (codes "secrets") ∷ []))
  where
    by : (b : Bool) → ReadsWriter (if b then g1 seed ∷ (Identity ∷ []) else Identity ∷ [])
        (if b then g1 seed ∷ (Identity ∷ []) else Identity ∷ [])
    by true = λ who is. (0, omega arith, some_same is)
    by false = λ who is. (0, omega arith, some_same is)

class_writer : (seed : ℕ) (class : Class) → ReadsWriter (class_list (opening_rows seed) class)
    (class_list (opening_rows seed) class)
class_writer seed (classes.Exact text) = first_writer (λ pattern. matches pattern text) seed
class_writer seed (classes.Group group) =
    first_writer (λ pattern. covers_group pattern group) seed
class_writer seed classes.Rest = first_writer covers_rest seed

rows_there : (seed : ℕ) (rows : List ConfigEntry)
    → Contains (Some (opening_rows seed) ∷ (Some (opening_rows seed) ∷ [])) (Some rows)
    → opening_rows seed ≡ rows
rows_there seed rows (zero, below, is) = some_same is
rows_there seed rows (suc zero, below, is) = some_same is
rows_there seed rows (suc (suc k), below, is) = absurd (omega (arith, below))

-- both replicas begin with one configuration, over no rows
may_start : (seed : ℕ)
    → MayStart [] (Some (opening_rows seed) ∷ (Some (opening_rows seed) ∷ []))
may_start seed = record {
  readable = λ path row is. absurd (none-some row is);
  secrets = λ path other. none-some other.0 other.2;
  fit = record {
    writers = λ rows other class here there.
        subst (λ r. ReadsWriter (class_list other class) (class_list r class))
        (rows_there seed rows here)
        (subst (λ r. ReadsWriter (class_list r class) (class_list (opening_rows seed) class))
        (rows_there seed other there) (class_writer seed class));
    stored = λ rows need here c. absurd (omega (arith, c.1));
  };
}

no_refusal : (seed : ℕ) (replicas : Replicas) (why : Refusal)
    → settings_of replicas ≡ Some (opening_rows seed) ∷ (Some (opening_rows seed) ∷ [])
    → IsStart [] replicas (Err why) → ⊥
no_refusal seed replicas why settings (cause, is, e) =
    let may = subst (λ s. MayStart [] s) (sym settings) (may_start seed) in
    let none : cause ≡ no.NoMemory =
    refusal_is_exact [] (settings_of replicas) cause is may in
    none-some why (sym (ap start_refusal none) ∙ e)

-- ---- the budgets

four_few : (a b c d n : ℕ) → a ≤ n → b ≤ n → c ≤ n → d ≤ n
    → sum (a ∷ (b ∷ (c ∷ (d ∷ [])))) ≤ 4 * n
four_few a b c d n la lb lc ld = omega (
  arith,
  la,
  lb,
  lc,
  ld,
  sum_by-cons (λ x. x) a (b ∷ (c ∷ (d ∷ []))),
  sum_by-cons (λ x. x) b (c ∷ (d ∷ [])),
  sum_by-cons (λ x. x) c (d ∷ []),
  sum_by-cons (λ x. x) d [],
)

within_journal : (seed size paths : ℕ) → size ≤ 10000
    → sum (script_budgets paths (parts_of (load_fleet seed size))) ≤ 4000000
within_journal seed size paths small =
    let few = four_few (budget_of paths (lines_of seed size 0))
    (budget_of paths (lines_of seed size 1)) (budget_of paths (lines_of seed size 2))
    (budget_of paths (lines_of seed size 3)) (3 * (2 * size + 4)) (budget_few seed size 0 paths)
    (budget_few seed size 1 paths) (budget_few seed size 2 paths)
    (budget_few seed size 3 paths) in omega (arith, few, small)

-- ---- the steps

abbrev BeginsBlank : Begun → StepState → Type 0
BeginsBlank begun left = begun.stored.rows ≡ []

module _ (words : LoadWords) (small : words.size ≤ 10000) (stored : Stored)
    (empty : stored.rows ≡ []) where
  starts_blank : (budgets : List ℕ) (replicas : Replicas) (left : StepState)
      → settings_of replicas
      ≡ Some (opening_rows words.seed) ∷ (Some (opening_rows words.seed) ∷ [])
      → GivesOnly BeginsBlank (starting_with false (load_plan words) stored budgets replicas) left
  starts_blank budgets replicas left settings = by
    where
      by : (r : Result (Unit {0}) Refusal) → IsStart stored.rows replicas r
          → GivesOnly BeginsBlank (and_then (by_result r) (λ done. with_memory (give (record {
            plan = load_plan words;
            stored = stored;
            budgets = budgets;
            replicas = replicas;
            items = [];
          })))) left
      by (Ok done) is = λ u t. empty
      by (Err why) is = absurd (no_refusal words.seed replicas why settings
          (subst (λ rows. IsStart rows replicas (Err why)) empty is))

  launches_blank : (budgets : List ℕ) (left : StepState)
      → GivesOnly BeginsBlank (launching false (load_plan words) stored budgets) left
  launches_blank budgets left = λ u t v s x y. starts_blank budgets _ left refl

  begins_blank : (left : StepState)
      → GivesOnly BeginsBlank (load_beginning (load_plan words) stored) left
  begins_blank left = by
    where
      by : (r : Result (List ℕ) Refusal)
          → AreWithin stored.rows (parts_of (load_plan words).fleet) r
          → GivesOnly BeginsBlank
          (and_then (by_result r) (launching false (load_plan words) stored)) left
      by (Ok budgets) is = launches_blank budgets left
      by (Err why) (e, (budgets, (count, live, are), many)) =
          let few = within_journal words.seed words.size
          (count + put_lines (parts_of (load_plan words).fleet)) small in
          let same = ap sum are in absurd (omega (arith, few, many, same))

  known_blank : (r : Result Stored Refusal) (left : StepState) → Ok stored ≡ r
      → GivesOnly BeginsBlank (and_then (by_result r) (load_beginning (load_plan words))) left
  known_blank r left e = subst (λ k. GivesOnly BeginsBlank
      (and_then (by_result k) (load_beginning (load_plan words))) left) e (begins_blank left)

walks_blank : (words : LoadWords) → words.size ≤ 10000 → (old : Environment) → IsBlank words old
    → GivesOnly BeginsBlank (load_steps words) (step_state (with_streams words.seed old))
walks_blank words small old (stored, (file, told, holds), empty) = (
  refl,
  λ bytes agrees r is.
      let held : file ≡ bytes = some_same (is_told
      (tapes_with true words.store old.world.tapes.told words.store) (Some file) (Some bytes)
      (ap {B = Option (Option (List ℕ))}
      (λ b. if b then or_empty (old.world.tapes.told words.store)
      else old.world.tapes.told words.store) (own_name words.store) ∙ told) agrees) in
      known_blank words small stored empty r _
      (one_stored bytes (Ok stored) r (subst (λ b. IsStored b (Ok stored)) held holds) is),
)

-- ---- the workers

-- they are those of the load
pub load_run : (T : Type 0) → {L : Type 0} → (link : L → Link)
    (step : L → Exchange → L → Type 0)
    (words : LoadWords) (sources : List StreamState) (old new : Environment) (output : Receipt)
    (result : Result Ending Stop)
    → (s : StartsLoad T link step words sources old new output result)
    → IsLoadRun link step left_in link_faults words.seed words.size s.runs.files s.history
    (opening_of words.store s.begun s.mid) s.runs.parts s.begun.budgets s.runs.workers s.ended
load_run T link step words sources old new output result s = record {
  parts_are = s.runs.parts_are ∙ ap (λ (p : FleetPlan). p.fleet.workers) s.plan_is;
  files_are = s.runs.files_are ∙ ap (λ (p : FleetPlan). p.files) s.plan_is;
  opens = s.runs.published
      ∙ ap (λ (p : FleetPlan). map (rows_of_replica p.files) p.fleet.replicas) s.plan_is;
  one = s.runs.one;
}

-- so each put that was done has its row
pub keeps_puts : (T : Type 0) → {L : Type 0} → (link : L → Link)
    (step : L → Exchange → L → Type 0)
    (words : LoadWords) (sources : List StreamState) (old new : Environment) (output : Receipt)
    (result : Result Ending Stop)
    → (s : StartsLoad T link step words sources old new output result)
    → KeepsPuts T link step words sources old new output result s
keeps_puts T link step words sources old new output result s =
    puts_are_kept T link step left_in link_faults words.seed words.size s.runs.files s.history
    (opening_of words.store s.begun s.mid) s.runs.parts s.begun.budgets s.runs.workers s.ended
    (load_run T link step words sources old new output result s)

-- ---- their draws

never_rose : (before : ℕ) → Rose before 0 → ⊥
never_rose before (inl l) = omega (arith, l)
never_rose before (inr e) = let is = e.1 in omega (arith, is)

-- a source of which much is left has not failed
none_failed : (source : StreamState) → 2 ^ 64 ≤ length source.left → link_faults source ≡ 0
none_failed source much = grind (arith, nat_tests)

-- so its count never rose
calm_source : (before : ℕ) (source : StreamState) → Rose before (link_faults source)
    → 2 ^ 64 ≤ length source.left → ⊥
calm_source before source rose much =
    never_rose before (subst (λ n. Rose before n) (none_failed source much) rose)

still_much : (size : ℕ) (old new : List ℕ) → size ≤ 10000 → length old ≡ 2 ^ 70
    → TakesAtMost (Some old) (Some new) (44 * (2 * size + 4)) → 2 ^ 64 ≤ length new
still_much size old new small whole (bytes, is, few) =
    let long : length old ≡ length bytes + length new = ap length is ∙ length-append bytes new in
    omega (arith, small, whole, few, long)

-- what is told of a source that is at its place
told_so : (told : Option (List ℕ)) (source : StreamState) → left_in source ≡ told
    → (dice : Option (List ℕ)) → Keeps dice told → Keeps dice (Some source.left)
told_so told source is dice keeps = subst (λ t. Keeps dice t) (sym is) keeps

module _ (T : Type 0) {L : Type 0} (link : L → Link)
    (step : L → Exchange → L → Type 0) (words : LoadWords) (sources : List StreamState)
    (old new : Environment) (output : Receipt) (result : Result Ending Stop)
    (s : StartsLoad T link step words sources old new output result) where
  -- a worker's source
  pub source_whole : (number : ℕ) (before : fleet_worker.Worker T L StreamState) → number < 4
      → slice_get s.runs.workers number ≡ Some before
      → length before.bench.dice.left ≡ 2 ^ 70
  source_whole number before few is =
      let had = s.runs.before number before
      (slice_get_within s.runs.workers number before is) in
      let own = get_or_from_slice_get s.runs.workers number before before is in
      let undrawn = (load_undrawn words (gives s.begun) s.reaches.end
      (step_state (with_streams words.seed old)) s.reaches.goes).1 in
      whole_told words.seed old number few before.bench.dice.left
      (subst (λ (dice : ℕ → Option (List ℕ)). Keeps (dice number) (Some before.bench.dice.left))
      undrawn
      (told_so (s.mid.world.dice.told number) before.bench.dice
      (ap (λ (w : fleet_worker.Worker T L StreamState). left_in w.bench.dice) (sym own)
      ∙ had.left_is) (s.reaches.end.dice number) (s.reaches.stays.dice number)))

  its_run : IsLoadRun link step left_in link_faults words.seed words.size s.runs.files
      s.history (opening_of words.store s.begun s.mid) s.runs.parts s.begun.budgets s.runs.workers
      s.ended
  its_run = load_run T link step words sources old new output result s

  -- so none of them failed
  pub calm_sources : words.size ≤ 10000
      → All (λ (w : fleet_worker.Worker T L StreamState). link_faults w.bench.dice ≡ 0) s.ended
  calm_sources small number d below =
      let four : length s.runs.workers ≡ 4 =
      four_old T link step left_in link_faults words.seed words.size s.runs.files s.history
      (opening_of words.store s.begun s.mid) s.runs.parts s.begun.budgets s.runs.workers s.ended
      its_run in
      let few : number < 4 = omega (arith, below, four, s.runs.one.many) in
      let before = get_or s.runs.workers number d in
      let after = get_or s.ended number d in
      let was : slice_get s.runs.workers number ≡ Some before =
      slice_get-get_or s.runs.workers number d (omega (arith, few, four)) in
      let now : slice_get s.ended number ≡ Some after =
      slice_get-get_or s.ended number d below in
      none_failed after.bench.dice
      (still_much words.size before.bench.dice.left after.bench.dice.left small
      (source_whole number before few was)
      (draws_few T link step left_in link_faults words.seed words.size s.runs.files s.history
      (opening_of words.store s.begun s.mid) s.runs.parts s.begun.budgets s.runs.workers s.ended
      its_run number before after was now))

module _ (T : Type 0) {L : Type 0} (link : L → Link)
    (step : L → Exchange → L → Type 0) (words : LoadWords) (sources : List StreamState)
    (old new : Environment) (output errors : Receipt) (small : words.size ≤ 10000)
    (blank : IsBlank words old)
    (none : NoneRose old new output errors) where
  abbrev Began : Environment
  Began = with_streams words.seed old

  abbrev Ended : Environment
  Ended = with_sources sources new

  -- so none rose with the workers' sources among the world's, but perhaps theirs
  calls : (call : Call) → IsNoDraw call → Rose (faults_at call Began) (faults_at call Ended) → ⊥
  calls (drawing seat) free rose = absurd free
  calls other free rose = none.calls other rose

  module _ (result : Result Ending Stop)
      (s : StartsLoad T link step words sources old new output result) where
    rows_none : s.begun.stored.rows ≡ []
    rows_none = allowed BeginsBlank (gives s.begun) s.reaches.end (load_steps words)
        (step_state (with_streams words.seed old)) (walks_blank words small old blank) s.reaches.goes

    no_programs : s.begun.plan.programs ≡ []
    no_programs = ap (λ (p : FleetPlan). p.programs) s.plan_is

    blank_run : IsBlankRun link link_faults words.size s.history
        (opening_of words.store s.begun s.mid) s.runs.workers s.ended
    blank_run = record {
      few = small;
      blank = rows_none;
      bare = ap (map (λ (program : Program). program.plugin)) no_programs;
      limit = refl;
      links = λ number worker is.
          let had = s.runs.before number worker
          (slice_get_within s.runs.workers number worker is) in
          let own = get_or_from_slice_get s.runs.workers number worker worker is in
          ap (λ (w : fleet_worker.Worker T L StreamState). names_of link w.bench.links) (sym own)
          ∙ had.names ∙ ap (map (λ (program : Program). program.plugin)) no_programs;
      stored = λ rose. calls (scanning Store words.store) tt
          (Rose-later _ _ _ (s.since.tapes.later words.store)
          (subst (λ n. Rose (s.mid.world.tapes.faults words.store) n) (sym s.runs.counted) rose));
      drawn = λ number before after was now rose.
          let run = load_run T link step words sources old new output result s in
          let few : number < 4 = omega (
            arith,
            slice_get_within s.runs.workers number before was,
            four_old T link step left_in link_faults words.seed words.size s.runs.files
                s.history (opening_of words.store s.begun s.mid) s.runs.parts s.begun.budgets
                s.runs.workers s.ended run,
          ) in
          calm_source (link_faults before.bench.dice) after.bench.dice rose
          (still_much words.size before.bench.dice.left after.bench.dice.left small
          (source_whole T link step words sources old new output result s number before few
          was)
          (draws_few T link step left_in link_faults words.seed words.size s.runs.files
          s.history (opening_of words.store s.begun s.mid) s.runs.parts s.begun.budgets
          s.runs.workers s.ended run number before after was now));
    }

    abbrev told_by : Replies
    told_by = map (λ (w : fleet_worker.Worker T L StreamState). w.told) s.ended

    full_run : (ending_of_load told_by ≡ ending.Memory)
        ⊎ AreFull words.seed words.size told_by
    full_run = loads_are_full T link step left_in link_faults words.seed words.size
        s.runs.files s.history (opening_of words.store s.begun s.mid) s.runs.parts
        s.begun.budgets s.runs.workers s.ended
        (load_run T link step words sources old new output result s) blank_run

  abbrev Ends : ℕ → Type 0
  Ends status = IsFullLoad words output errors status

  ended_so : (status : ℕ) (e : Ending)
      → (s : StartsLoad T link step words sources old new output (Ok e)) → WroteNothing errors
      → status ≡ status_of e → Ends status
  ended_so status e s idle is = by (full_run (Ok e) s)
    where
      by : (ending_of_load (told_by (Ok e) s) ≡ ending.Memory)
          ⊎ AreFull words.seed words.size (told_by (Ok e) s) → Ends status
      by (inl lacks) = inr (is ∙ ap status_of (s.writes.0 ∙ lacks))
      by (inr full) =
          let text = s.writes.1.0 in
          let made = s.writes.1.1 in
          let workers = ap (λ (p : FleetPlan). p.fleet.workers) s.plan_is in
          let over = subst (λ g. IsDigest g made.digest)
          (ap (λ ws. objects_of ws (told_by (Ok e) s)) workers ∙ full.objects) made.over in
          let is_text = made.text_is
          ∙ (λ i. summary_text words.seed words.size (full.puts i) (full.gets i) made.digest) in
          inl (
            is ∙ ap status_of (s.writes.0 ∙ full.ended),
            idle,
            text,
            (made.digest, over, is_text),
            s.writes.1.2,
          )

  stopped_so : (status : ℕ) (stop : Stop) → status ≡ stop_status (Err stop)
      → StopsBefore T link step left_in link_faults (load_steps words) words.store Began Ended output (Err stop)
      ⊎ StartsLoad T link step words sources old new output (Err stop) → Ends status
  stopped_so status (Words why) is (inl (inl ends, idle)) = absurd ends
  stopped_so status (Refused why) is (inl (inl ends, idle)) =
      absurd (allowed BeginsBlank (refuses why) ends.end (load_steps words)
      (step_state (with_streams words.seed old)) (walks_blank words small old blank) ends.goes)
  stopped_so status (Fault object n) is (inl (inl (call, reaches, fault), idle)) =
      absurd (calls call (load_undrawn words (awaits call) reaches.end (step_state Began)
      reaches.goes).0 fault.1)
  stopped_so status (Fault object n) is
      (inl (inr (inr (mid, begun, reaches, fails, home)), idle)) =
      absurd (calls (settling Store words.store) tt
      (Rose-later _ _ _ (home.tapes.later words.store) (rose_unsettled fails)))
  stopped_so status (Fault object n) is (inr s) = absurd (none.written s.writes.2)
  stopped_so status NoMemory is did = inr is
  stopped_so status other is (inl (inr (inl (e, lacking)), idle)) = absurd cc
  stopped_so status other is (inl (inr (inr (mid, begun, reaches, fails, home)), idle)) =
      absurd (let e : other ≡ Fault Store _ = fails.stops in cc)
  stopped_so status other is (inr s) = absurd s.writes

  by_result_so : (status : ℕ) (result : Result Ending Stop)
      → StopsBefore T link step left_in link_faults (load_steps words) words.store Began Ended output result
      ⊎ StartsLoad T link step words sources old new output result
      → TellsFleet result errors status → Ends status
  by_result_so status (Ok e) (inl stops) tells = absurd stops
  by_result_so status (Ok e) (inr s) tells = ended_so status e s tells.1 tells.0
  by_result_so status (Err stop) did (inl tells) = stopped_so status stop tells.0 did
  by_result_so status (Err stop) did (inr tells) = absurd (none.told tells.1)

pub full_load : (T : Type 0) → {L : Type 0} → (link : L → Link)
    (step : L → Exchange → L → Type 0) (words : LoadWords) (old new : Environment)
    (output errors : Receipt) → words.size ≤ 10000 → IsBlank words old
    → NoneRose old new output errors → (status : ℕ)
    → RanLoad T link step words old new output errors status
    → IsFullLoad words output errors status
full_load T link step words old new output errors small blank none status ran =
    by_result_so T link step words ran.did.sources old new output errors small blank none
    status ran.result ran.did.did ran.tells
