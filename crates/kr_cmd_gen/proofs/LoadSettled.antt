-- Over a told tape the steps of a load up to its workers come to one end, whatever they draw.
use Rattle.std.proofs.Common.{◌≡◌, ℕ, ◌<◌, List, [], Contains, Some, refl, sym, subst, arith, false}
use Rattle.std.specs.Prelude.{IsSome, if◌then◌else◌}
use Rattle.kr_config.specs.Kept.{ConfigEntry, plugins_in}
use Rattle.kr_workload.specs.Loads.{configurations}
use Rattle.kr_provider.specs.PluginOrder.{plugin_order}
use Rattle.kr_provider.proofs.PluginOrder.{order_has}
use Rattle.kr_cmd_steps.specs.Environment.{Environment, step_state}
use Rattle.kr_cmd_fleet.specs.FleetFiles.{file_entries}
use Rattle.kr_cmd_fleet.specs.Fleets.{launching, parts_of, publishing, starting_with}
use Rattle.kr_cmd_gen.specs.GeneratedLoads.{load_beginning, load_plan, load_steps, with_streams}
use Rattle.kr_cmd_gen.specs.LoadReadings.{TellsTape}
use Rattle.kr_cmd_steps.specs.Steps.{StepState, and_then, or_empty}
use Rattle.kr_cmd_steps.specs.StoreFiles.{Stored}
use Rattle.kr_cmd_messages.specs.declared.load_words.LoadWords.{LoadWords}
use Rattle.kr_cmd_laws.proofs.FleetSettled.{one_within, settled_publishing, settled_start}
use Rattle.kr_cmd_laws.proofs.Listed.{one_stored}
use Rattle.kr_cmd_laws.proofs.OneBeginning.{GoOneWay, closing}
use Rattle.kr_cmd_laws.proofs.OnePoint.{IsSettled}
use Rattle.kr_cmd_fleet.proofs.Plans.{rows_among}
use Rattle.kr_cmd_laws.proofs.Settled.{regroup, settled_pair, told_or_empty}
use Rattle.kr_cmd_steps.proofs.Tapes.{own_name}

-- the configurations of a load name no plugin
names_none : (seed : ℕ) (name : List ℕ) (rows : List ConfigEntry)
    → file_entries (configurations seed) name ≡ Some rows → (plugin : List ℕ)
    → Contains (plugin_order rows) plugin → ⊥
names_none seed name rows is plugin c =
    let among : Contains [] plugin = rows_among (configurations seed) name rows plugin is
    ((order_has (plugins_in rows) plugin).0 c) in
    absurd (let below : among.0 < 0 = among.1 in omega (arith, below))

module _ (words : LoadWords) (old : Environment) where
  settled_outfits : (stored : Stored) (budgets : List ℕ) (l r : StepState)
      → r.links ≡ l.links
      → IsSettled (and_then (launching false (load_plan words) stored budgets) closing)
      (and_then (launching false (load_plan words) stored budgets) closing) l r
  settled_outfits stored budgets l r x =
      let plan = load_plan words in
      let makes = publishing plan.files [] plan.fleet.replicas in
      subst (λ s. IsSettled s s l r) (sym (regroup makes
      (starting_with false plan stored budgets) closing))
      (settled_publishing plan.files l.links
      (λ name rows is plugin c. absurd (names_none words.seed name rows is plugin c))
      (λ made. and_then (starting_with false plan stored budgets made) closing)
      (λ a b s t same. settled_start plan stored budgets [] a b s t same) plan.fleet.replicas [] [] l
      r refl x refl)

  pub settled_load : TellsTape words old
      → GoOneWay (and_then (load_steps words) closing) (step_state (with_streams words.seed old))
  settled_load there = (
    there,
    refl,
    refl,
    refl,
    (
      subst (λ q. IsSome (if q then or_empty (old.world.tapes.told words.store)
          else old.world.tapes.told words.store)) (sym (own_name words.store))
          (told_or_empty (old.world.tapes.told words.store) there),
      refl,
      λ bytes a b x y. settled_pair _ _ a b (load_beginning (load_plan words)) closing
          (one_stored bytes a b x y) (λ stored. λ c d u v.
          settled_pair _ _ c d (launching false (load_plan words) stored) closing
          (one_within stored.rows (parts_of (load_plan words).fleet) c d u v)
          (λ budgets. settled_outfits stored budgets _ _ refl)),
    ),
  )
