-- What is known of the plan of a load.
use Rattle.std.proofs.Common.{◌≡◌, ℕ, zero, suc, ◌+◌, ◌<◌, ◌^◌, List, [], ◌∷◌, ◌++◌, codes, length, map, refl, sym, ◌∙◌, ap, subst}
use Rattle.std.specs.Prelude.{All, IsSome}
use Rattle.std.specs.List.{flat_map, range_with_len}
use Rattle.std.proofs.lemmas.Grind.{flat_map-append}
use Rattle.std.proofs.lemmas.List.{append-nil, length-map}
use Rattle.std.proofs.lemmas.List.Elements.{All-append, All-cons, All-nil}
use Rattle.std.proofs.lemmas.List.Folds.{flat_map-map}
use Rattle.kr_workload.specs.Loads.{configurations, load_get_line, lines_of, load_fleet, load_worker, put_of, load_reloads}
use Rattle.kr_workload.proofs.Ruling.{keeps_rules}
use Rattle.kr_script.specs.Fleets.{Fleet, Worker, fleet_of, worker_of}
use Rattle.kr_cmd_fleet.specs.FleetFiles.{file_in, file_of_replica, all_files, named_rows, file_entries}
use Rattle.kr_cmd_gen.specs.GeneratedLoads.{load_plan}
use Rattle.kr_cmd_fleet.specs.declared.fleet_file.LoadedFleet.{LoadedFleet}
use Rattle.kr_cmd_messages.specs.declared.load_words.LoadWords.{LoadWords}
use Rattle.kr_cmd_fleet.specs.inner.Plans.{IsWholePlan, plan_of}
use Rattle.kr_cmd_gen.specs.inner.LoadOutcomes.{IsLoadPlan}

abbrev IsRead : (seed : ℕ) → List ℕ → Type 0
IsRead seed name = IsSome (file_entries (configurations seed) name)

-- ---- the files that the fleet names

no_files : {A : Type 0} (f : ℕ → List A) (first count : ℕ) → ((k : ℕ) → f k ≡ [])
    → flat_map f (range_with_len first count) ≡ []
no_files f first zero none = refl
no_files f first (suc count) none =
    let rest = no_files f (first + 1) count none in λ i. none first i ++ rest i

reloads_read : (seed worker : ℕ) → All (IsRead seed) (flat_map file_in (load_reloads worker))
reloads_read seed zero =
    All-cons (IsRead seed) (codes "B") (codes "B" ∷ (codes "C" ∷ (codes "C" ∷ []))) refl
    (All-cons (IsRead seed) (codes "B") (codes "C" ∷ (codes "C" ∷ [])) refl
    (All-cons (IsRead seed) (codes "C") (codes "C" ∷ []) refl
    (All-cons (IsRead seed) (codes "C") [] refl (All-nil (IsRead seed)))))
reloads_read seed (suc worker) = All-nil (IsRead seed)

lines_files : (seed size worker : ℕ)
    → flat_map file_in (lines_of seed size worker) ≡ flat_map file_in (load_reloads worker)
lines_files seed size worker =
    let puts = map (put_of seed size worker) (range_with_len 0 size) in
    let gets = map (load_get_line worker) (range_with_len 0 size) in
    let no_puts : flat_map file_in puts ≡ [] =
    flat_map-map file_in (put_of seed size worker) (range_with_len 0 size)
    ∙ no_files (λ k. file_in (put_of seed size worker k)) 0 size (λ k. refl) in
    let no_gets : flat_map file_in gets ≡ [] =
    flat_map-map file_in (load_get_line worker) (range_with_len 0 size)
    ∙ no_files (λ k. file_in (load_get_line worker k)) 0 size (λ k. refl) in
    flat_map-append file_in puts (load_reloads worker ++ gets)
    ∙ (λ i. no_puts i ++ (flat_map-append file_in (load_reloads worker) gets
    ∙ (λ j. flat_map file_in (load_reloads worker) ++ no_gets j)
    ∙ append-nil (flat_map file_in (load_reloads worker))) i)

lines_read : (seed size worker : ℕ)
    → All (IsRead seed) (flat_map file_in (lines_of seed size worker))
lines_read seed size worker =
    subst (All (IsRead seed)) (sym (lines_files seed size worker)) (reloads_read seed worker)

workers_read : (seed size : ℕ) (workers : List ℕ)
    → All (IsRead seed) (flat_map (λ (worker : Worker). flat_map file_in worker.lines)
    (map (load_worker seed size) workers))
workers_read seed size [] = All-nil (IsRead seed)
workers_read seed size (worker ∷ workers) =
    All-append (IsRead seed) (flat_map file_in (lines_of seed size worker)) _
    (lines_read seed size worker) (workers_read seed size workers)

all_read : (seed size : ℕ) → All (IsRead seed) (all_files (load_fleet seed size))
all_read seed size =
    All-append (IsRead seed) (flat_map file_of_replica (load_fleet seed size).replicas) _
    (All-cons (IsRead seed) (codes "A") (codes "A" ∷ []) refl
    (All-cons (IsRead seed) (codes "A") [] refl (All-nil (IsRead seed))))
    (workers_read seed size (range_with_len 0 4))

-- ---- the plan

load_whole : (words : LoadWords) → words.size < 2 ^ 32 → IsWholePlan (load_plan words)
load_whole words small =
    let r = keeps_rules words.seed words.size small in record {
      rules = r.rules;
      whole = r.whole;
      within = r.within;
      read = all_read words.seed words.size;
      programs = refl;
    }

pub load_plan_is : (words : LoadWords) (plan : LoadedFleet)
    → fleet_of plan.script ≡ load_fleet words.seed words.size
    → map named_rows plan.files.0 ≡ configurations words.seed → plan.programs ≡ []
    → plan_of plan ≡ load_plan words
load_plan_is words plan fleet files bare =
    λ i. record { fleet = fleet i; files = files i; programs = bare i }

pub load_known : (words : LoadWords) (plan : LoadedFleet)
    → fleet_of plan.script ≡ load_fleet words.seed words.size
    → map named_rows plan.files.0 ≡ configurations words.seed → plan.programs ≡ []
    → words.size < 2 ^ 32 → IsLoadPlan plan
load_known words plan fleet files bare small = record {
  whole = subst IsWholePlan (sym (load_plan_is words plan fleet files bare))
      (load_whole words small);
  bare = bare;
  four = sym (length-map plan.script.workers.0 worker_of)
      ∙ ap (λ (f : Fleet). length f.workers) fleet;
}
