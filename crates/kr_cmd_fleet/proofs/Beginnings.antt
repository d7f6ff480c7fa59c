-- How the core of a fleet starts, and what it comes to.
use Rattle.std.proofs.Common.{ℕ, List, Ok, Err, refl, inl, inr}
use Rattle.kr_opening.specs.Replicas.{settings_of}
use Rattle.kr_opening.specs.Starts.{IsNoStart, MayStart}
use Rattle.kr_opening.specs.declared.opening_board.StartNo.{StartNo}
use Rattle.kr_opening.specs.declared.opening_board.StartNo.TheVariants as no
use Rattle.kr_store.specs.Stores.{Kept}
use Rattle.kr_watch.specs.declared.item.Item.{Item}
use Rattle.kr_cmd_steps.specs.Environment.{Environment}
use Rattle.kr_cmd_fleet.specs.Fleets.{Replicas, starting}
use Rattle.kr_cmd_fleet.specs.declared.fleet_file.LoadedFleet.{LoadedFleet}
use Rattle.kr_cmd_messages.specs.declared.refusal.Refusal.TheVariants.{Stray, OtherSecret, Unfit}
use Rattle.kr_cmd_fleet.specs.inner.Beginnings.{begun_with}
use Rattle.kr_cmd_steps.specs.inner.Starts.{start_stop}
use Rattle.kr_cmd_fleet.specs.inner.Plans.{plan_of}
use Rattle.kr_cmd_steps.specs.inner.Phases.{Does}
use Rattle.kr_cmd_steps.specs.inner.Tapes.{stored_of}
use Rattle.kr_cmd_steps.proofs.RunTo.{home_refl, reach}

-- ---- the core

module _ (plan : LoadedFleet) (budgets : List ℕ) (store : Kept) (replicas : Replicas) (a : Environment)
    (items : List Item) where
  pub started : MayStart store.rows (settings_of replicas)
      → Does (starting (plan_of plan) (stored_of store) budgets replicas items) a a
      (Ok (begun_with plan budgets store replicas items))
  started may = record {
    home = home_refl a;
    ends = λ left s. reach left (inr (Ok tt, may, inr (tt, tt, (refl, refl)))) s;
  }

  pub not_started : (why : StartNo) → IsNoStart store.rows (settings_of replicas) why
      → Does (starting (plan_of plan) (stored_of store) budgets replicas items) a a
      (Err (start_stop why))
  not_started (no.Stray path) is = record {
    home = home_refl a;
    ends = λ left s.
        reach left (inr (Err (Stray path), (no.Stray path, is, refl), (refl, refl))) s;
  }
  not_started (no.OtherSecret path) is = record {
    home = home_refl a;
    ends = λ left s.
        reach left (inr (Err (OtherSecret path), (no.OtherSecret path, is, refl), (refl, refl))) s;
  }
  not_started (no.Unfit replica verdict) is = record {
    home = home_refl a;
    ends = λ left s. reach left
        (inr (Err (Unfit replica verdict), (no.Unfit replica verdict, is, refl), (refl, refl))) s;
  }
  not_started no.NoMemory is =
      record { home = home_refl a; ends = λ left s. inr (reach left (inl (refl, refl)) s) }
