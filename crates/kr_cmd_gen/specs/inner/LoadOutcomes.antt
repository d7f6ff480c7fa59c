-- What a load over a store gives: it ended up to its workers, or they ran.
use Rattle.std.specs.Prelude.{◌≡◌, ℕ, false, List, [], All, length, map, Result}
use Rattle.kr_kms.specs.Calls.{Link}
use Rattle.kr_kms.specs.Exchanges.{Exchange}
use Rattle.kr_workload.specs.Streams.{StreamState, link_faults, left_in}
use Rattle.kr_cmd_steps.specs.Environment.{Environment}
use Rattle.kr_cmd_fleet.specs.FleetFiles.{FleetPlan}
use Rattle.kr_cmd_fleet.specs.Fleets.{Begun}
use Rattle.kr_cmd_gen.specs.GeneratedLoads.{with_sources, with_streams}
use Rattle.kr_cmd_steps.specs.Steps.{Steps}
use Rattle.kr_cmd_fleet.specs.declared.fleet.Record.{Record}
use Rattle.kr_cmd_fleet.specs.declared.fleet_file.LoadedFleet.{LoadedFleet}
use Rattle.kr_cmd_fleet.specs.declared.outfit.Outfit.{Outfit}
use Rattle.kr_cmd_messages.specs.declared.refusal.Stop.{Stop}
use Rattle.kr_cmd_fleet.specs.inner.Plans.{IsWholePlan, plan_of}
use Rattle.kr_cmd_fleet.specs.inner.FleetOutcomes.{Anyhow, SettlesBy}
use Rattle.kr_cmd_fleet.specs.inner.Workings.{Outfits}

-- outfits without links
abbrev pub AreBare : {L : Type 0} → Outfits L StreamState → Type 0
AreBare {L} outfits = All (λ (outfit : Outfit L StreamState). outfit.links ≡ []) outfits

-- their random sources
abbrev pub sources_in : {L : Type 0} → Outfits L StreamState → List StreamState
sources_in {L} outfits = map (λ (outfit : Outfit L StreamState). outfit.dice) outfits

-- what these steps up to the workers give, where the store is settled behind them; the workers'
-- sources are left somehow
abbrev pub SettlesLoad : (T : Type 0) → {L : Type 0} → (L → Link)
    → (L → Exchange → L → Type 0) → (seed : ℕ) → Steps Begun → (store : List ℕ) → FleetPlan
    → (old new : Environment) → Result Record Stop → Type 0
SettlesLoad T {L} link step seed steps store plan old new result =
    (sources : List StreamState) × SettlesBy T link step left_in link_faults
    (Anyhow T L StreamState) false steps store plan (with_streams seed old)
    (with_sources sources new) result

-- what is known of a load's plan: its fleet has four workers, and no plugin has a program
pub record IsLoadPlan (plan : LoadedFleet) : Type 0 where
  pub whole : IsWholePlan (plan_of plan)
  pub bare : plan.programs ≡ []
  pub four : length plan.script.workers.0 ≡ 4
