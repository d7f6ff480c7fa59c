-- What a fleet leaves, from the first worker's outfit on: how it comes to its workers, and what
-- they did.
use Rattle.std.proofs.Common.{◌≡◌, ◌≢◌, ℕ, ◌+◌, ◌<◌, ◌≤◌, Bool, false, List, [], ◌∷◌, ◌++◌, length, map, get_or, Option, None, Some, Result, Ok, Err, refl, sym, ◌∙◌, ap, subst, inr, arith, ◌⊎◌, true, inl}
use Rattle.std.specs.Prelude.{All, IfSome, sum, if◌then◌else◌}
use Rattle.std.specs.List.{IsDistinct}
use Rattle.std.specs.Option.{option_map}
use Rattle.std.specs.Str.{bytes_eq}
use Rattle.std.proofs.lemmas.List.{get_or-map, length-map}
use Rattle.kr_base.specs.Limits.{store_limit}
use Rattle.kr_kms.specs.Calls.{Link}
use Rattle.kr_kms.specs.Exchanges.{Exchange}
use Rattle.kr_kms.specs.Outside.{Objects, same_name, same_seat}
use Rattle.kr_kms.proofs.Lent.{names_decide, seats_decide}
use Rattle.kr_rollout.specs.Cores.{CoreState}
use Rattle.kr_rollout.specs.Histories.{IsLegal, ends_torn, state_of}
use Rattle.kr_history.proofs.NoNames.{no_names_no_plugin}
use Rattle.kr_history.proofs.WithoutPlugin.{honest_without_plugin}
use Rattle.kr_rollout.specs.Openings.{opening_by}
use Rattle.kr_rollout.specs.declared.opening.Entry.{Entry}
use Rattle.kr_rollout.specs.declared.opening.Opening.{Opening}
use Rattle.kr_script.specs.Fleets.{worker_of}
use Rattle.kr_script.specs.declared.script.Part.{Part}
use Rattle.kr_store.specs.File.{IsFile}
use Rattle.kr_store.specs.Stores.{Holds, Kept}
use Rattle.kr_store.specs.declared.format.Format.{Format}
use Rattle.kr_store.specs.declared.rows.LogRow.{LogRow}
use Rattle.kr_workers.specs.Budgets.{all_reloads, reloads_of}
use Rattle.kr_workers.specs.Histories.{IsOneHistory}
use Rattle.kr_workers.specs.declared.worker.Worker.{Worker}
use Rattle.kr_cmd_steps.specs.Environment.{Environment, IsHome, with_lent}
use Rattle.kr_cmd_fleet.specs.FleetFiles.{all_rows}
use Rattle.kr_cmd_fleet.specs.Fleets.{AreEquipped, Begun, HasRows, IsEquipped, LeavesRest, Replicas, RunsFleet, opening_of, launching, parts_of}
use Rattle.kr_cmd_steps.specs.Steps.{Steps}
use Rattle.kr_cmd_fleet.specs.declared.fleet.Record.{Record}
use Rattle.kr_cmd_fleet.specs.declared.fleet_file.LoadedFleet.{LoadedFleet}
use Rattle.kr_cmd_fleet.specs.declared.outfit.Outfit.{Outfit}
use Rattle.kr_cmd_fleet.specs.declared.watch_start.WatchStart.{WatchStart}
use Rattle.kr_cmd_steps.specs.declared.programs.Program.{Program}
use Rattle.kr_cmd_messages.specs.declared.refusal.Stop.{Stop}
use Rattle.kr_cmd_messages.specs.declared.refusal.Stop.TheVariants.{NoMemory}
use Rattle.kr_cmd_fleet.specs.inner.Beginnings.{begun_with, first_core}
use Rattle.kr_cmd_fleet.specs.inner.Crews.{IsReadyCore, outfit_of, outfits_of}
use Rattle.kr_cmd_fleet.specs.inner.CrewRuns.{KeepsStore, RunsCrew, WorkersRan}
use Rattle.kr_cmd_fleet.specs.inner.Plans.{IsWholePlan, named, plan_of}
use Rattle.kr_cmd_fleet.specs.inner.FleetOutcomes.{ArePublished, LacksWorkers, RunsBy}
use Rattle.kr_cmd_fleet.specs.inner.Readings.{KnowsItems}
use Rattle.kr_cmd_steps.specs.inner.Lent.{lent_links, with_lent_tape}
use Rattle.kr_cmd_fleet.specs.StartExchanges.{AsksFirst, OpenBy}
use Rattle.kr_cmd_fleet.specs.inner.Outfits.{AreLater, AreNamed, links_of, with_outfits}
use Rattle.kr_cmd_steps.specs.inner.ProgramNames.{names_in}
use Rattle.kr_cmd_steps.specs.inner.Phases.{Does}
use Rattle.kr_cmd_steps.specs.inner.Tapes.{stored_of}
use Rattle.kr_cmd_fleet.specs.inner.Workings.{StaysIdle, TakesOutfits}
use Rattle.kr_cmd_steps.proofs.RunTo.{files_same, home_trans}
use Rattle.kr_cmd_steps.proofs.Lending.{by_key, home_behind, home_same}
use Rattle.kr_cmd_fleet.proofs.Outfits.{IsBeside, LinksOf, later_named, later_refl, later_trans, names_differ, outfits_equipped, outfits_home, outfits_keep, told_apart, later_many}
use Rattle.kr_cmd_fleet.proofs.Publishings.{published_settings}
use Rattle.kr_cmd_fleet.proofs.StartExchanges.{workers_links}
use Rattle.kr_cmd_steps.proofs.Tapes.{own_name}

-- ---- the core

same_reloads : (parts : List Part)
    → all_reloads parts
    ≡ all_reloads (parts_of (record { replicas = []; workers = map worker_of parts }))
same_reloads [] = refl
same_reloads (part ∷ parts) = ap (λ l. reloads_of part.lines.0 ∷ l) (same_reloads parts)

-- the core as it started is ready
pub ready : (plan : LoadedFleet) (budgets reloads : List ℕ) (store : Kept) (replicas : Replicas)
    (core : CoreState) → core ≡ first_core plan reloads (sum budgets) store replicas
    → reloads ≡ all_reloads plan.script.workers.0
    → length replicas ≡ length plan.script.replicas.0 → IsReadyCore plan budgets core
ready plan budgets reloads store replicas core is known many = record {
  begin = ap (λ (c : CoreState). c.history) is;
  names = ap (λ (c : CoreState). c.opening.names) is;
  reloads = ap (λ (c : CoreState). c.opening.reloads) is ∙ known;
  replicas = ap (λ (c : CoreState). length c.opening.replicas) is ∙ many;
  room = ap (λ (c : CoreState). c.room) is;
}

-- a core that is closed at once gives the store's rows back
pub closed_at_once : (core : CoreState) (store : Kept) → core.history ≡ []
    → store.rows ≡ (state_of core.opening core.history).rows
    → store.count ≡ (state_of core.opening core.history).count
    → store.format ≡ core.opening.format
    → store.torn ≡ ends_torn core.opening core.history
    → Holds store → KeepsStore core.opening [] store
closed_at_once core store none rows count format torn holds = record {
  rows_are = rows ∙ ap (λ h. (state_of core.opening h).rows) none;
  format = format;
  later = let e = count ∙ ap (λ h. (state_of core.opening h).count) none in omega (arith, e);
  torn = torn ∙ ap (λ h. ends_torn core.opening h) none;
  holds = holds;
}

-- ---- the store's tape

held_rows : (begun : Begun) (rows : List LogRow) (format : Format) (file : List ℕ)
    (torn : Bool) (told : Option (List ℕ)) → format ≡ begun.stored.format
    → IsFile format rows file
    → IfSome told (λ bytes. (rest : List ℕ) × (bytes ≡ file ++ rest)
    × (torn ≡ false → rest ≡ [])) → HasRows (option_map Some told) begun rows torn
held_rows begun rows format file torn None same is held = tt
held_rows begun rows format file false (Some bytes) same is held =
    (file, held.0, subst (λ f. IsFile f rows file) same is, held.1, inl (held.2 refl))
held_rows begun rows format file true (Some bytes) same is held =
    (file, held.0, subst (λ f. IsFile f rows file) same is, held.1, inr refl)

-- the tape begins with the file of what the store keeps
pub has_rows : (begun : Begun) (o : Opening) (history : List Entry) (store : Kept)
    → o.format ≡ begun.stored.format → KeepsStore o history store
    → HasRows (option_map Some store.told) begun (state_of o history).rows (ends_torn o history)
has_rows begun o history store same kept =
    let rows = (state_of o history).rows in
    subst (HasRows (option_map Some store.told) begun rows) kept.torn
    (held_rows begun rows store.format kept.holds.0 store.torn store.told (kept.format ∙ same)
    (subst (λ r. IsFile store.format r kept.holds.0) kept.rows_are kept.holds.1) kept.holds.4)

module _ (name : List ℕ) (a : Environment) where
  -- with the store's tape, of which this is told
  abbrev Over : Option (List ℕ) → ℕ → Environment
  Over told n = with_lent_tape name told n a

  pub over_home : (told now : Option (List ℕ)) {n m : ℕ} → n ≤ m
      → IsHome (Over told n) (Over now m)
  over_home told now later = record {
    files = record { file = refl; later = (files_same a.world).later };
    dice = home_same refl;
    tapes = home_behind same_name name (option_map Some told) (option_map Some now) later
        (home_same refl);
    links = home_same refl;
    input = omega arith;
  }

  over_count : (told : Option (List ℕ)) (n : ℕ) → (Over told n).world.tapes.faults name ≡ n
  over_count told n =
      ap {B = ℕ} (λ b. if b then n else a.world.tapes.faults name) (own_name name)

  over_told : (told : Option (List ℕ)) (n : ℕ)
      → (Over told n).world.tapes.told name ≡ option_map Some told
  over_told told n = ap {B = Option (Option (List ℕ))}
      (λ b. if b then option_map Some told else a.world.tapes.told name) (own_name name)

  over_other : (told now : Option (List ℕ)) (n m : ℕ) (other : List ℕ) → other ≢ name
      → (Over now m).world.tapes.told other ≡ (Over told n).world.tapes.told other
  over_other told now n m other apart =
      away now ∙ sym (away told)
    where
      away : (held : Option (List ℕ))
          → (if same_name name other then option_map Some held else a.world.tapes.told other)
          ≡ a.world.tapes.told other
      away held = by_key names_decide (λ b. b ≡ a.world.tapes.told other) name other
          (option_map Some held) (a.world.tapes.told other) (λ e. absurd (apart (sym e)))
          (λ n. refl)

-- ---- the workers' outfits

abbrev DiceOf : Type 0
DiceOf = Objects ℕ (Option (List ℕ))

module _ {T L D : Type 0} (link : L → Link) (left : D → Option (List ℕ)) (count : D → ℕ) where
  pub workers_equipped : (programs : List Program) → IsDistinct bytes_eq (names_in programs)
      → (workers : List (Worker T L D)) (outfits : List (Outfit L D))
      → outfits ≡ outfits_of workers → AreNamed link (names_in programs) outfits → (x : Environment)
      → AreEquipped link left count programs (with_outfits link left count 0 outfits x) workers
  workers_equipped programs distinct workers outfits are named x seat d below =
      let long : length (outfits_of workers) ≡ length workers =
      length-map workers (outfit_of {T = T} {L = L} {D = D}) in
      let here : seat < length outfits = omega (arith, below, long, ap length are) in
      let it : get_or outfits seat (outfit_of d) ≡ outfit_of (get_or workers seat d) =
      ap (λ os. get_or os seat (outfit_of d)) are
      ∙ get_or-map outfit_of workers seat d (outfit_of d) below in
      subst (λ (o : Outfit L D). IsEquipped link left count programs seat
      (with_outfits link left count 0 outfits x) o.links o.dice) it
      (outfits_equipped link left count programs outfits x distinct named seat (outfit_of d) here)

-- what is told of the workers' links and random sources, whatever tapes tell
module _ {L D : Type 0} (link : L → Link) (left : D → Option (List ℕ)) (count : D → ℕ) where
  same_links : (seat : ℕ) (outfits : List (Outfit L D)) (x y : Environment)
      → x.world.links ≡ y.world.links
      → (with_outfits link left count seat outfits x).world.links
      ≡ (with_outfits link left count seat outfits y).world.links
  same_links seat [] x y e = e
  same_links seat (outfit ∷ outfits) x y e =
      ap (lent_links link seat outfit.links) (same_links (seat + 1) outfits x y e)

  same_dice : (seat : ℕ) (outfits : List (Outfit L D)) (x y : Environment)
      → x.world.dice ≡ y.world.dice
      → (with_outfits link left count seat outfits x).world.dice
      ≡ (with_outfits link left count seat outfits y).world.dice
  same_dice seat [] x y e = e
  same_dice seat (outfit ∷ outfits) x y e =
      ap (with_lent same_seat seat (left outfit.dice) (count outfit.dice))
      (same_dice (seat + 1) outfits x y e)

  -- nor what is told of the seats behind theirs
  dice_beyond : (seat : ℕ) (outfits : List (Outfit L D)) (x : Environment) (other : ℕ)
      → seat + length outfits ≤ other
      → (with_outfits link left count seat outfits x).world.dice.told other
      ≡ x.world.dice.told other
  dice_beyond seat [] x other past = refl
  dice_beyond seat (outfit ∷ outfits) x other past =
      let behind = (with_outfits link left count (seat + 1) outfits x).world.dice.told other in
      by_key seats_decide (λ b. b ≡ behind) seat other (left outfit.dice) behind
      (λ e. absurd (omega (arith, past, e))) (λ n. refl)
      ∙ dice_beyond (seat + 1) outfits x other (omega (arith, past))

  links_beyond : (seat : ℕ) (outfits : List (Outfit L D)) (x : Environment) (other : ℕ)
      (plugin : List ℕ) → seat + length outfits ≤ other
      → (with_outfits link left count seat outfits x).world.links.told (other, plugin)
      ≡ x.world.links.told (other, plugin)
  links_beyond seat [] x other plugin past = refl
  links_beyond seat (outfit ∷ outfits) x other plugin past =
      told_apart link seat other (λ e. omega (arith, past, e)) outfit.links
      (with_outfits link left count (seat + 1) outfits x).world.links plugin
      ∙ links_beyond (seat + 1) outfits x other plugin (omega (arith, past))

-- what the workers had comes back as it was, or later
pub ran_back : {T L D : Type 0} (link : L → Link) (step : L → Exchange → L → Type 0)
    (left : D → Option (List ℕ))
    (count : D → ℕ) (plan : LoadedFleet) (budgets : List ℕ) (olds outs : List (Outfit L D))
    → AreLater link count olds outs → (o : Opening) (start : WatchStart)
    (workers : List (Worker T L D)) → outfits_of workers ≡ outs → (kept : Kept)
    (back : List (Outfit L D)) (result : Result Record Stop)
    → RunsCrew link step left count plan budgets o start workers result kept back
    → AreLater link count olds back
ran_back link step left count plan budgets olds outs later o start workers are kept back
    (Ok made) r =
    later_trans link left count olds outs back later
    (subst (λ os. AreLater link count os back) are r.later)
ran_back link step left count plan budgets olds outs later o start workers are kept back
    (Err stop) r =
    subst (λ os. AreLater link count olds os) (sym (r.outfits_are ∙ are)) later

-- nothing was asked where none was started
pub crew_idle : {T L D : Type 0} (link : L → Link) (step : L → Exchange → L → Type 0)
    (left : D → Option (List ℕ)) (count : D → ℕ) (plan : LoadedFleet) (budgets : List ℕ)
    (outs : List (Outfit L D)) (o : Opening) (start : WatchStart) (workers : List (Worker T L D))
    → outfits_of workers ≡ outs → (kept : Kept) (back : List (Outfit L D))
    (result : Result Record Stop)
    → RunsCrew link step left count plan budgets o start workers result kept back
    → StaysIdle result (links_of outs) (links_of back)
crew_idle link step left count plan budgets outs o start workers are kept back (Ok made) r = tt
crew_idle link step left count plan budgets outs o start workers are kept back (Err stop) r =
    ap links_of (r.outfits_are ∙ are)

-- ---- up to the workers, and with them

module _ {L D : Type 0} (link : L → Link) (step : L → Exchange → L → Type 0)
    (left : D → Option (List ℕ))
    (count : D → ℕ) (watched : Bool) (plan : LoadedFleet) (whole : IsWholePlan (plan_of plan))
    (budgets : List ℕ) (name : List ℕ) (a : Environment) (store : Kept) where
  -- these outfits and the store's tape stand as if they were at home
  abbrev pub With : List (Outfit L D) → Kept → Environment
  With outfits kept = with_outfits link left count 0 outfits
      (with_lent_tape name kept.told kept.count a)

  abbrev pub Next : Steps Begun
  Next = launching watched (plan_of plan) (stored_of store) budgets

  module _ (olds outs : List (Outfit L D)) (first : Environment) (replicas : Replicas)
      (es : List Exchange) (start : WatchStart)
      (all_does : Does Next first (With outs store)
      (Ok (begun_with plan budgets store replicas start.items.0)))
      (knows : KnowsItems watched es store.rows replicas start.items.0)
      (asks : AsksFirst step es (links_of olds) (links_of outs)) (open_by : OpenBy es replicas)
      (revision : start.revision ≡ length store.rows)
      (are_named : AreNamed link (names_in plan.programs) olds)
      (seats : length olds ≡ length plan.script.workers.0) (later : AreLater link count olds outs)
      (published : ArePublished (named plan.files.0) plan.script.replicas.0 replicas)
      (sound : (store.limit ≡ store_limit) × (store.torn ≡ false)) (reloads : List ℕ)
      (known : reloads ≡ all_reloads plan.script.workers.0) (o : Opening)
      (opens : o ≡ opening_by store replicas (names_in plan.programs) reloads) where
    abbrev begun : Begun
    begun = begun_with plan budgets store replicas start.items.0

    abbrev Mid : Environment
    Mid = With outs store

    abbrev Over_now : Kept → Environment
    Over_now kept = with_lent_tape name kept.told kept.count a

    -- what neither links nor a random source change is as without the outfits
    beside : {A : Type 0} (part : Environment → A) → IsBeside link left count part
        → (outfits : List (Outfit L D)) (kept : Kept)
        → part (With outfits kept) ≡ part (Over_now kept)
    beside part same outfits kept =
        outfits_keep link left count part same 0 outfits (Over_now kept)

    count_is : store.count ≡ Mid.world.tapes.faults name
    count_is = sym (beside (λ b. b.world.tapes.faults name) (λ seat outfit b. refl) outs store
        ∙ over_count name a store.told store.count)

    reloads_are : reloads ≡ all_reloads (parts_of (plan_of plan).fleet)
    reloads_are = known ∙ same_reloads plan.script.workers.0

    opening_is : o ≡ opening_of name begun Mid
    opening_is = opens ∙ (λ i. record {
      format = store.format;
      rows = store.rows;
      replicas = replicas;
      names = names_in plan.programs;
      reloads = reloads_are i;
      limit = sound.0 i;
      count = count_is i;
      torn = sound.1 i;
    })

    distinct : IsDistinct bytes_eq (names_in plan.programs)
    distinct = names_differ plan.programs (all_rows (named plan.files.0)) whole.programs

    outs_named : AreNamed link (names_in plan.programs) outs
    outs_named = later_named link left count (names_in plan.programs) olds outs later are_named

    module _ (kept : Kept) (back : List (Outfit L D)) (further : AreLater link count outs back)
      where
        new_home : o.count ≤ kept.count → IsHome first (With back kept)
        new_home rises = home_trans all_does.home (outfits_home link left count 0 outs back further
            (over_home name a store.told kept.told
            (omega (arith, rises, ap (λ (p : Opening). p.count) opens))))

        count_now : (With back kept).world.tapes.faults name ≡ kept.count
        count_now = beside (λ b. b.world.tapes.faults name) (λ seat outfit b. refl) back kept
            ∙ over_count name a kept.told kept.count

        -- what doesn't depend on the store's tape either is as before
        stays : {A : Type 0} (part : Environment → A) → IsBeside link left count part
            → part (Over_now kept) ≡ part (Over_now store)
            → part (With back kept) ≡ part Mid
        stays part same over =
            beside part same back kept ∙ over ∙ sym (beside part same outs store)

        outs_many : length outs ≡ length (plan_of plan).fleet.workers
        outs_many = later_many link left count olds outs later ∙ seats
            ∙ sym (length-map plan.script.workers.0 worker_of)

        back_many : length back ≡ length (plan_of plan).fleet.workers
        back_many = later_many link left count outs back further ∙ outs_many

        rest : LeavesRest name (length (plan_of plan).fleet.workers) Mid (With back kept)
        rest = record {
          file = stays (λ b. b.world.file) (λ seat outfit b. refl) refl;
          tapes = λ other apart. stays (λ b. b.world.tapes.told other) (λ seat outfit b. refl)
              (over_other name a store.told kept.told store.count kept.count other apart);
          dice = λ seat past.
              dice_beyond link left count 0 back (Over_now kept) seat
              (omega (arith, past, back_many))
              ∙ sym (dice_beyond link left count 0 outs (Over_now store) seat
              (omega (arith, past, outs_many)));
          links = λ seat plugin past.
              links_beyond link left count 0 back (Over_now kept) seat plugin
              (omega (arith, past, back_many))
              ∙ sym (links_beyond link left count 0 outs (Over_now store) seat plugin
              (omega (arith, past, outs_many)));
          faults = stays (λ b. b.world.faults) (λ seat outfit b. refl) refl;
          asked = stays (λ b. b.world.asked) (λ seat outfit b. refl) refl;
          input = stays (λ b. b.input) (λ seat outfit b. refl) refl;
          said = stays (λ b. b.said) (λ seat outfit b. refl) refl;
          heard = stays (λ b. b.heard) (λ seat outfit b. refl) refl;
        }

        stored : (history : List Entry) → KeepsStore o history kept
            → HasRows ((With back kept).world.tapes.told name) begun (state_of o history).rows
            (ends_torn o history)
        stored history k =
            subst (λ t. HasRows t begun (state_of o history).rows (ends_torn o history))
            (sym (beside (λ b. b.world.tapes.told name) (λ seat outfit b. refl) back kept
            ∙ over_told name a kept.told kept.count))
            (has_rows begun o history kept (ap (λ (p : Opening). p.format) opens) k)

    -- memory lacked for the workers
    pub unhired : (T : Type 0) → (kept : Kept) → KeepsStore o [] kept
        → (back : List (Outfit L D)) → back ≡ outs
        → LacksWorkers T link step left count Next name first (With back kept) NoMemory
    unhired T kept k back are =
        let same = later_refl link left count outs in
        let whole : o.torn ≡ false = ap (λ (p : Opening). p.torn) opens ∙ sound.1 in
        let tape = (With outs kept).world.tapes.told name in
        subst (λ os. LacksWorkers T link step left count Next name first
        (With os kept) NoMemory) (sym are) (record {
          stops = refl;
          begun = begun;
          mid = Mid;
          does = all_does;
          none = record {
            stored = subst (HasRows tape begun store.rows) whole
                (subst (λ rows. HasRows tape begun rows o.torn) (ap (λ (p : Opening). p.rows) opens)
                (stored kept outs same [] k));
            links = ap (λ (l : LinksOf). l.told)
                (same_links link left count 0 outs (Over_now kept) (Over_now store) refl);
            dice = ap (λ (d : DiceOf). d.told)
                (same_dice link left count 0 outs (Over_now kept) (Over_now store) refl);
            rest = rest kept outs same;
          };
          home = new_home kept outs same k.later;
        })

    module _ {T : Type 0} (workers : List (Worker T L D)) (are : outfits_of workers ≡ outs)
        (many : length workers ≡ length plan.script.workers.0)
        (cold : All (λ (w : Worker T L D). w.bench.cache.rows ≡ []) workers) (kept : Kept)
        (back : List (Outfit L D)) where
      further_on : (made : Record)
          → WorkersRan link step left count plan budgets o start workers made kept back
          → AreLater link count outs back
      further_on made r = subst (λ os. AreLater link count os back) are r.later

      runs : (made : Record)
          → (r : WorkersRan link step left count plan budgets o start workers made kept back)
          → RunsFleet link step left count name begun Mid (With back kept) r.history r.ended
      runs made r =
          let names = names_in plan.programs in
          let back_named = later_named link left count names outs back (further_on made r)
          outs_named in record {
            published = published_settings (named plan.files.0) plan.script.replicas.0 replicas
                published;
            parts = plan.script.workers.0;
            parts_are = refl;
            files = plan.files.0;
            files_are = refl;
            workers = workers;
            many = many;
            cold = cold;
            before = workers_equipped link left count plan.programs distinct workers outs
                (sym are) outs_named (Over_now store);
            one = subst (λ p. IsOneHistory link step left count plan.files.0 r.history p
                plan.script.workers.0 budgets workers r.ended) opening_is r.one;
            made = record {
              exchanges = es;
              given = links_of olds;
              asks = subst (AsksFirst step es (links_of olds))
                  (sym (workers_links workers ∙ ap links_of are)) asks;
              opens = open_by;
            };
            bare = λ none any.
                let here = opening_of name begun Mid in
                let legal = subst (λ (p : Opening). IsLegal p r.history) opening_is r.one.legal in
                honest_without_plugin any here r.history legal
                (no_names_no_plugin here r.history legal (ap names_in none));
            after = workers_equipped link left count plan.programs distinct r.ended back
                r.outfits_are back_named (Over_now kept);
            stored = subst (λ p. HasRows ((With back kept).world.tapes.told name) begun
                (state_of p r.history).rows (ends_torn p r.history)) opening_is
                (stored kept back (further_on made r) r.history r.kept);
            counted = count_now kept back (further_on made r) ∙ r.counted
                ∙ ap (λ (p : Opening). (state_of p r.history).count) opening_is;
            rest = rest kept back (further_on made r);
          }

      pub ran_with : (result : Result Record Stop)
          → RunsCrew link step left count plan budgets o start workers result kept back
          → RunsBy T link step left count (TakesOutfits a.heard es outs back) watched Next name
          (plan_of plan) first (With back kept) result
      unfolding runs
      ran_with (Ok made) r = record {
        begun = begun;
        plan_is = refl;
        mid = Mid;
        does = all_does;
        history = r.history;
        ended = r.ended;
        runs = runs made r;
        begins = (
          beside (λ b. b.heard) (λ seat outfit b. refl) outs store,
          refl,
          are,
          sym r.outfits_are,
        );
        lines = r.lines_are;
        replies = r.replies_are;
        items_are = ap (λ (s : WatchStart). s.items.0) r.start_is;
        revision_is = ap (λ (s : WatchStart). s.revision) r.start_is ∙ revision;
        known = knows;
        home = new_home kept back (further_on made r) r.kept.later;
      }
      ran_with (Err stop) r = inr (subst (λ s. LacksWorkers T link step left count Next name
          first (With back kept) s) (sym r.stops)
          (unhired T kept r.kept back (r.outfits_are ∙ are)))
