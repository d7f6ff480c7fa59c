-- Over what is told, the steps of a fleet up to its workers come to one end, whatever they draw.
use Rattle.std.proofs.Common.{◌≡◌, ◌≢◌, ℕ, zero, suc, ◌+◌, List, [], ◌∷◌, ◌++◌, length, Contains, Option, None, Some, Result, Ok, Err, refl, sym, ◌∙◌, ap, subst, inl, inr, arith}
use Rattle.std.specs.Prelude.{IsSome, false, if◌then◌else◌, sum}
use Rattle.std.specs.Option.{option_map}
use Rattle.std.proofs.lemmas.List.{map-append}
use Rattle.kr_config.specs.Kept.{ConfigEntry, plugins_in}
use Rattle.kr_kms.specs.declared.seeds.SeedRow.{SeedRow}
use Rattle.kr_kms.specs.declared.plugin.Status.{Status}
use Rattle.kr_kms.specs.declared.world.WorldCall.TheVariants.{File, RandomSource}
use Rattle.kr_provider.specs.PluginOrder.{plugin_order}
use Rattle.kr_provider.specs.Publication.{Publication}
use Rattle.kr_provider.proofs.PluginOrder.{order_has}
use Rattle.kr_opening.specs.Replicas.{settings_of}
use Rattle.kr_opening.specs.Starts.{IsNoStart, MayStart}
use Rattle.kr_opening.specs.declared.opening_board.StartNo.{StartNo}
use Rattle.kr_opening.specs.declared.opening_board.StartNo.TheVariants as no
use Rattle.kr_history.proofs.Causes.{one_cause}
use Rattle.kr_history.proofs.Judging.{refusal_is_exact}
use Rattle.kr_script.specs.Fleets.{Fleet}
use Rattle.kr_script.specs.declared.script.Part.{Part}
use Rattle.kr_script.specs.declared.script.ScriptNo.{ScriptNo}
use Rattle.kr_script.proofs.OneAnswer.{one_meaning}
use Rattle.kr_store.specs.declared.rows.LogRow.{LogRow}
use Rattle.kr_watch.specs.declared.item.Item.{Item}
use Rattle.kr_words.specs.Arguments.{plugin_program}
use Rattle.kr_cmd_steps.specs.Environment.{Environment, step_state}
use Rattle.kr_cmd_steps.specs.Phases.{by_result, configuration, with_memory}
use Rattle.kr_cmd_fleet.specs.FleetFiles.{FleetPlan, IsFleetFile, NamedRows, all_rows, files_in, all_files, file_programs, file_entries, script_refusal, unless_read}
use Rattle.kr_cmd_fleet.specs.FleetReady.{IsFleetTold}
use Rattle.kr_cmd_fleet.specs.Fleets.{AreWithin, Begun, IsStart, Replicas, beginning, equipping_all, equipping, fleet_steps, launching, over_store, parts_of, publishes, publishing, rows_of_replica, starting, starting_with}
use Rattle.kr_cmd_steps.specs.Judgements.{start_refusal}
use Rattle.kr_cmd_steps.specs.Plugins.{join_program, make_seeds, settings_programs}
use Rattle.kr_cmd_steps.specs.Telling.{AreTold}
use Rattle.kr_cmd_steps.specs.Steps.{StepState, Steps, and_then, give, or_empty, with_asked}
use Rattle.kr_cmd_steps.specs.StoreFiles.{Stored}
use Rattle.kr_cmd_messages.specs.declared.fleet_words.FleetWords.{FleetWords}
use Rattle.kr_cmd_steps.specs.declared.programs.Program.{Program}
use Rattle.kr_cmd_messages.specs.declared.refusal.Outcome.{Outcome}
use Rattle.kr_cmd_messages.specs.declared.refusal.Refusal.{Refusal}
use Rattle.kr_cmd_laws.proofs.FleetWalk.{file_rows, one_budgets, some_same}
use Rattle.kr_cmd_laws.proofs.Listed.{one_stored}
use Rattle.kr_cmd_laws.proofs.OneBeginning.{GoOneWay, closing}
use Rattle.kr_cmd_laws.proofs.OnePoint.{IsSettled}
use Rattle.kr_cmd_fleet.proofs.Plans.{rows_among}
use Rattle.kr_cmd_steps.proofs.Linked.{links_then}
use Rattle.kr_cmd_laws.proofs.Once.{one_configuration}
use Rattle.kr_cmd_laws.proofs.Settled.{regroup, settled_links_of, settled_pair, settled_seeds, told_or_empty}
use Rattle.kr_cmd_steps.proofs.Tapes.{own_name}

-- ---- what is found is one thing

one_script : (a b : ScriptNo) (v w : Refusal) → a ≡ b → script_refusal a ≡ Some v
    → script_refusal b ≡ Some w → v ≡ w
one_script a b v w e x y = some_same (sym x ∙ ap script_refusal e ∙ y)

one_fleet : (name : List ℕ) (file : Option (List ℕ)) (a b : Result Fleet Refusal)
    → IsFleetFile name file a → IsFleetFile name file b → a ≡ b
one_fleet name None a b h k = h ∙ sym k
one_fleet name (Some bytes) a b (inl h) (inl k) = h.1 ∙ sym k.1
one_fleet name (Some bytes) a b (inl h) (inr k) = absurd (omega (arith, h.0, k.0))
one_fleet name (Some bytes) a b (inr h) (inl k) = absurd (omega (arith, h.0, k.0))
one_fleet name (Some bytes) (Ok x) (Ok y) (inr h) (inr k) =
    let e = one_meaning bytes (Ok x) (Ok y) h.1 k.1 in
    let same : x ≡ y = cc in ap (λ f. Ok f) same
one_fleet name (Some bytes) (Ok x) (Err w) (inr h) (inr k) =
    absurd (let e = one_meaning bytes (Ok x) (Err k.1.0) h.1 k.1.1 in cc)
one_fleet name (Some bytes) (Err v) (Ok y) (inr h) (inr k) =
    absurd (let e = one_meaning bytes (Err h.1.0) (Ok y) h.1.1 k.1 in cc)
one_fleet name (Some bytes) (Err v) (Err w) (inr h) (inr k) =
    let e = one_meaning bytes (Err h.1.0) (Err k.1.0) h.1.1 k.1.1 in
    let same : h.1.0 ≡ k.1.0 = cc in
    ap (λ r. Err r) (one_script h.1.0 k.1.0 v w same h.1.2 k.1.2)

pub one_within : (rows : List LogRow) (parts : List Part) (a b : Result (List ℕ) Refusal)
    → AreWithin rows parts a → AreWithin rows parts b → a ≡ b
one_within rows parts (Ok x) (Ok y) h k = ap (λ l. Ok l) (one_budgets rows parts x y h.0 k.0)
one_within rows parts (Ok x) (Err w) h (e, (y, are, many)) =
    absurd (let same = ap sum (one_budgets rows parts x y h.0 are) in
    omega (arith, h.1, many, same))
one_within rows parts (Err v) (Ok y) (e, (x, are, many)) k =
    absurd (let same = ap sum (one_budgets rows parts x y are k.0) in
    omega (arith, k.1, many, same))
one_within rows parts (Err v) (Err w) h k = ap (λ r. Err r) (h.0 ∙ sym k.0)

-- a cause that is told is no want of memory
told_cause : (a : StartNo) (why : Refusal) → start_refusal a ≡ Some why → a ≢ no.NoMemory
told_cause a why e is = absurd (let f : None ≡ Some why = sym (ap start_refusal is) ∙ e in cc)

may_or_not : (rows : List LogRow) (settings : List (Option (List ConfigEntry))) (why : Refusal)
    → MayStart rows settings → (a : StartNo) → IsNoStart rows settings a
    → start_refusal a ≡ Some why → ⊥
may_or_not rows settings why may a is e =
    told_cause a why e (refusal_is_exact rows settings a is may)

one_start : (rows : List LogRow) (x y : Replicas) (a b : Result (Unit {0}) Refusal)
    → settings_of x ≡ settings_of y → IsStart rows x a → IsStart rows y b → a ≡ b
one_start rows x y (Ok u) (Ok v) e h k = refl
one_start rows x y (Ok u) (Err w) e h (c, is, told) = absurd (may_or_not rows (settings_of x) w h c
    (subst (λ s. IsNoStart rows s c) (sym e) is) told)
one_start rows x y (Err v) (Ok u) e (c, is, told) k = absurd (may_or_not rows (settings_of x) v
    (subst (MayStart rows) (sym e) k) c is told)
one_start rows x y (Err v) (Err w) e (c, is, told) (d, so, also) =
    let same = one_cause rows (settings_of x) c d (told_cause c v told) (told_cause d w also) is
    (subst (λ s. IsNoStart rows s d) (sym e) so) in
    ap (λ r. Err r) (some_same (sym told ∙ ap start_refusal same ∙ also))

-- ---- the configurations

-- what steps leave of files, tapes and statuses is what was told before
pub record IsAs (left now : StepState) : Type 0 where
  pub file : now.file ≡ left.file
  pub tapes : now.tapes ≡ left.tapes
  pub links : now.links ≡ left.links

settled_files : (names : List (List ℕ)) (read : List NamedRows) (first left : StepState)
    → IsAs first left → AreTold left.file names → (next : List NamedRows → Steps Outcome)
    → ((files : List NamedRows) (l : StepState) → IsAs first l → GoOneWay (next files) l)
    → GoOneWay (and_then (files_in read names) next) left
settled_files [] read first left stays told next s = s read left stays
settled_files (name ∷ names) read first left stays told next s =
    by (file_entries read name) (settled_files names read first left stays told.1 next s)
    (λ rows. settled_files names (read ++ (name, rows) ∷ []) first _
    (record { file = stays.file; tapes = stays.tapes; links = stays.links }) told.1 next s)
  where
    more : List ConfigEntry → Steps (List NamedRows)
    more rows = with_memory (files_in (read ++ (name, rows) ∷ []) names)

    now : StepState
    now = with_asked (File name) left

    by_rows : ((rows : List ConfigEntry)
        → GoOneWay (and_then (files_in (read ++ (name, rows) ∷ []) names) next) now)
        → (r : Result (List ConfigEntry) Refusal)
        → GoOneWay (and_then (and_then (by_result r) more) next) now
    by_rows goes (Ok rows) = λ u v h k. goes rows
    by_rows goes (Err why) = refl

    by : (o : Option (List ConfigEntry)) → GoOneWay (and_then (files_in read names) next) left
        → ((rows : List ConfigEntry)
        → GoOneWay (and_then (files_in (read ++ (name, rows) ∷ []) names) next) now)
        → GoOneWay (and_then (unless_read o (files_in read names)
        (and_then (configuration name) more)) next) left
    by (Some rows) skips goes = skips
    by None skips goes = (
      told.0,
      refl,
      λ bytes agrees a b x y. subst (λ r. IsSettled (and_then (and_then (by_result a) more) next)
          (and_then (and_then (by_result r) more) next) now now)
          (one_configuration name bytes a b x y) (by_rows goes a),
    )

-- ---- what the workers have

module _ {A : Type 0} (programs : List Program) (next : Steps A) (f : A → Steps Outcome)
    (first : ℕ × List ℕ → Option Status)
    (go_on : (l r : StepState) → l.links ≡ first → r.links ≡ first
    → IsSettled (and_then next f) (and_then next f) l r) where
  settled_equipping : (seat seats : ℕ) (l r : StepState) → l.links ≡ first → r.links ≡ first
      → IsSettled (and_then (equipping programs seat seats next) f)
      (and_then (equipping programs seat seats next) f) l r
  settled_equipping seat zero l r x y = go_on l r x y
  settled_equipping seat (suc more) l r x y =
      let rest = equipping programs (seat + 1) more next in
      subst (λ s. IsSettled s s (with_asked (RandomSource seat) l)
      (with_asked (RandomSource seat) r)) (sym (links_then seat programs rest f))
      (settled_links_of (and_then rest f) first
      (λ s t u v. settled_equipping (seat + 1) more s t u v) seat programs _ _ x y)

-- ---- what the replicas publish

module _ (files : List NamedRows) (first : ℕ × List ℕ → Option Status)
    (told : (name : List ℕ) (rows : List ConfigEntry) → file_entries files name ≡ Some rows
    → (plugin : List ℕ) → Contains (plugin_order rows) plugin → IsSome (first (0, plugin)))
    (next : Replicas → Steps Outcome)
    (go_on : (x y : Replicas) (l r : StepState) → settings_of x ≡ settings_of y
    → IsSettled (next x) (next y) l r) where
  one_longer : (x y : Replicas) (p q : Option Publication) → settings_of x ≡ settings_of y
      → option_map (λ (s : Publication). s.rows) p ≡ option_map (λ (s : Publication). s.rows) q
      → settings_of (x ++ p ∷ []) ≡ settings_of (y ++ q ∷ [])
  one_longer x y p q e f =
      map-append (option_map (λ (s : Publication). s.rows)) x (p ∷ [])
      ∙ (λ i. e i ++ f i ∷ [])
      ∙ sym (map-append (option_map (λ (s : Publication). s.rows)) y (q ∷ []))

  pub settled_publishing : (replicas : List (List ℕ × List ℕ)) (x y : Replicas) (l r : StepState)
      → l.links ≡ first → r.links ≡ first → settings_of x ≡ settings_of y
      → IsSettled (and_then (publishing files x replicas) next)
      (and_then (publishing files y replicas) next) l r
  settled_publishing [] x y l r at also e = λ u v h k. go_on x y l r e
  settled_publishing (replica ∷ replicas) x y l r at also e =
      by (rows_of_replica files replica) refl
      (λ p q s t u v same. settled_publishing replicas (x ++ p ∷ []) (y ++ q ∷ []) s t u v
      (one_longer x y p q e same))
    where
      More : Replicas → Steps Replicas
      More made = publishing files made replicas

      Behind : Type 0
      Behind = (p q : Option Publication) (s t : StepState) → s.links ≡ first → t.links ≡ first
          → option_map (λ (a : Publication). a.rows) p
          ≡ option_map (λ (a : Publication). a.rows) q
          → IsSettled (and_then (More (x ++ p ∷ [])) next) (and_then (More (y ++ q ∷ [])) next) s t

      kept : Replicas → List ConfigEntry → List SeedRow → Steps Replicas
      kept made rows seeds = More (made ++ Some (record { rows = rows; seeds = seeds }) ∷ [])

      seeds_so : (rows : List ConfigEntry) → rows_of_replica files replica ≡ Some rows → Behind
          → IsSettled
          (and_then (make_seeds (plugin_order rows)) (λ seeds. and_then (kept x rows seeds) next))
          (and_then (make_seeds (plugin_order rows)) (λ seeds. and_then (kept y rows seeds) next))
          l r
      seeds_so rows is behind = settled_seeds (plugin_order rows) l r (also ∙ sym at)
          (λ plugin c. subst (λ f. IsSome (f (0, plugin))) (sym at)
          (told replica.1 rows (file_rows files replica rows is) plugin c))
          (λ seeds. and_then (kept x rows seeds) next) (λ seeds. and_then (kept y rows seeds) next)
          (λ a b s t g h. λ m n. behind (Some (record { rows = rows; seeds = a }))
          (Some (record { rows = rows; seeds = b })) s t (m ∙ at) (n ∙ at) refl)

      by : (o : Option (List ConfigEntry)) → rows_of_replica files replica ≡ o → Behind
          → IsSettled (and_then (publishes o x More) next) (and_then (publishes o y More) next) l r
      by None is behind = behind None None l r at also refl
      by (Some rows) is behind = λ u v h k.
          subst (λ s. IsSettled s
          (and_then (and_then (make_seeds (plugin_order rows)) (kept y rows)) next) l r)
          (sym (regroup (make_seeds (plugin_order rows)) (kept x rows) next))
          (subst (λ s. IsSettled (and_then (make_seeds (plugin_order rows))
          (λ seeds. and_then (kept x rows seeds) next)) s l r)
          (sym (regroup (make_seeds (plugin_order rows)) (kept y rows) next))
          (seeds_so rows is behind))

-- ---- the start

pub settled_start : (plan : FleetPlan) (stored : Stored) (budgets : List ℕ) (items : List Item)
    (x y : Replicas) (l r : StepState) → settings_of x ≡ settings_of y
    → IsSettled (and_then (starting plan stored budgets x items) closing)
    (and_then (starting plan stored budgets y items) closing) l r
settled_start plan stored budgets items x y l r e = λ a b h k.
    subst (λ s. IsSettled (and_then (and_then (by_result a) (begun x)) closing)
    (and_then (and_then (by_result s) (begun y)) closing) l r) (one_start stored.rows x y a b e h k)
    (by a)
  where
    begun : Replicas → Unit {0} → Steps Begun
    begun replicas done = with_memory (give (record {
      plan = plan;
      stored = stored;
      budgets = budgets;
      replicas = replicas;
      items = items;
    }))

    by : (s : Result (Unit {0}) Refusal)
        → IsSettled (and_then (and_then (by_result s) (begun x)) closing)
        (and_then (and_then (by_result s) (begun y)) closing) l r
    by (Ok done) = λ u v h k. refl
    by (Err why) = refl

-- ---- all of them

-- each plugin for which there are programs has one
each_program : (options : List (List ℕ × List ℕ)) (plugins : List (List ℕ))
    (programs : List Program) → settings_programs options plugins ≡ Ok programs → (plugin : List ℕ)
    → Contains plugins plugin → IsSome (plugin_program options plugin)
each_program options [] programs e plugin (k, below, is) = absurd (omega (arith, below))
each_program options (first ∷ plugins) programs e plugin c =
    by (plugin_program options first) (settings_programs options plugins) refl e c
    (λ more rest. each_program options plugins more rest plugin)
  where
    by : (o : Option (List ℕ)) (r : Result (List Program) Refusal) → plugin_program options first ≡ o
        → join_program first o r ≡ Ok programs → Contains (first ∷ plugins) plugin
        → ((more : List Program) → r ≡ Ok more → Contains plugins plugin
        → IsSome (plugin_program options plugin)) → IsSome (plugin_program options plugin)
    by None r is joined c behind = absurd cc
    by (Some file) (Err why) is joined c behind = absurd cc
    by (Some file) (Ok more) is joined (zero, below, same) behind =
        subst (λ p. IsSome (plugin_program options p)) same (subst IsSome (sym is) refl)
    by (Some file) (Ok more) is joined (suc k, below, same) behind =
        behind more refl (k, omega (arith, below), same)

module _ (words : FleetWords) (old : Environment) (told : IsFleetTold words old) where
  -- a plugin of a file that was read tells its status
  statuses : (plan : FleetPlan)
      → settings_programs words.options (plugin_order (all_rows plan.files)) ≡ Ok plan.programs
      → (name : List ℕ) (rows : List ConfigEntry) → file_entries plan.files name ≡ Some rows
      → (plugin : List ℕ) → Contains (plugin_order rows) plugin
      → IsSome (old.world.links.told (0, plugin))
  statuses plan e name rows is plugin c = told.statuses plugin
      (each_program words.options (plugin_order (all_rows plan.files)) plan.programs e plugin
      ((order_has (plugins_in (all_rows plan.files)) plugin).1
      (rows_among plan.files name rows plugin is ((order_has (plugins_in rows) plugin).0 c))))

  settled_outfits : (plan : FleetPlan)
      → settings_programs words.options (plugin_order (all_rows plan.files)) ≡ Ok plan.programs
      → (stored : Stored) (budgets : List ℕ) (l r : StepState) → l.links ≡ old.world.links.told
      → r.links ≡ old.world.links.told
      → IsSettled (and_then (launching false plan stored budgets) closing)
      (and_then (launching false plan stored budgets) closing) l r
  settled_outfits plan e stored budgets l r x y =
      let makes = publishing plan.files [] plan.fleet.replicas in
      subst (λ s. IsSettled s s l r) (sym (regroup makes (starting_with false plan stored budgets) closing))
      (settled_publishing plan.files old.world.links.told (statuses plan e)
      (λ made. and_then (starting_with false plan stored budgets made) closing)
      (λ a b s t same. settled_start plan stored budgets [] a b s t same) plan.fleet.replicas [] [] l
      r x y refl)

  settled_over : (plan : FleetPlan) (l : StepState) → IsAs (step_state old) l
      → settings_programs words.options (plugin_order (all_rows plan.files)) ≡ Ok plan.programs
      → GoOneWay (and_then (over_store false words.store plan) closing) l
  settled_over plan l stays e = (
    there,
    refl,
    refl,
    refl,
    (
      subst (λ q. IsSome (if q then or_empty (l.tapes words.store) else l.tapes words.store))
          (sym (own_name words.store)) (told_or_empty (l.tapes words.store) there),
      refl,
      λ bytes a b x y. settled_pair _ _ a b (beginning false plan) closing (one_stored bytes a b x y)
          (λ stored. λ c d u v. settled_pair _ _ c d (equipping_all false plan stored) closing
          (one_within stored.rows (parts_of plan.fleet) c d u v) (λ budgets.
          settled_equipping plan.programs (launching false plan stored budgets) closing
          old.world.links.told (λ s t m n. settled_outfits plan e stored budgets s t m n) 0
          (length plan.fleet.workers) _ _ stays.links stays.links)),
    ),
  )
    where
      there : IsSome (l.tapes words.store)
      there = subst (λ t. IsSome (t words.store)) (sym stays.tapes) told.store

  abbrev plan_of_files : Fleet → List NamedRows → Steps FleetPlan
  plan_of_files fleet files = and_then (file_programs words.options files) (λ programs.
      give (record { fleet = fleet; files = files; programs = programs }))

  settled_plan : (fleet : Fleet) (files : List NamedRows) (l : StepState) → IsAs (step_state old) l
      → GoOneWay (and_then (and_then (plan_of_files fleet files) (over_store false words.store)) closing)
      l
  settled_plan fleet files l stays = λ u v h k.
      by (settings_programs words.options (plugin_order (all_rows files))) refl
    where
      by : (r : Result (List Program) Refusal)
          → settings_programs words.options (plugin_order (all_rows files)) ≡ r
          → GoOneWay (and_then (and_then (and_then (by_result r) (λ programs.
          give (record { fleet = fleet; files = files; programs = programs })))
          (over_store false words.store)) closing) l
      by (Ok programs) e =
          settled_over (record { fleet = fleet; files = files; programs = programs }) l stays e
      by (Err why) e = refl

  abbrev fleet_by : Fleet → Steps FleetPlan
  fleet_by fleet = and_then (files_in [] (all_files fleet)) (plan_of_files fleet)

  settled_read : (fleet : Fleet) (l : StepState) → IsAs (step_state old) l
      → AreTold old.world.file (all_files fleet)
      → GoOneWay (and_then (and_then (fleet_by fleet) (over_store false words.store)) closing) l
  settled_read fleet l stays names =
      let reads = files_in [] (all_files fleet) in
      subst (λ s. GoOneWay s l) (sym (ap (λ s. and_then s closing)
      (regroup reads (plan_of_files fleet) (over_store false words.store))
      ∙ regroup reads (λ files. and_then (plan_of_files fleet files) (over_store false words.store))
      closing))
      (settled_files (all_files fleet) [] (step_state old) l stays
      (subst (λ f. AreTold f (all_files fleet)) (sym stays.file) names)
      (λ files. and_then (and_then (plan_of_files fleet files) (over_store false words.store)) closing)
      (λ files m at. settled_plan fleet files m at))

  pub settled_fleet : GoOneWay (and_then (fleet_steps words) closing) (step_state old)
  settled_fleet = (
    told.fleet,
    refl,
    λ file agrees a b x y. subst (λ r. IsSettled
        (and_then (and_then (and_then (by_result a) fleet_by) (over_store false words.store)) closing)
        (and_then (and_then (and_then (by_result r) fleet_by) (over_store false words.store)) closing)
        now now) (one_fleet words.file file a b x y)
        (by a (λ fleet is. told.files file fleet agrees
        (subst (IsFleetFile words.file file) is x))),
  )
    where
      now : StepState
      now = with_asked (File words.file) (step_state old)

      by : (r : Result Fleet Refusal)
          → ((fleet : Fleet) → r ≡ Ok fleet → AreTold old.world.file (all_files fleet))
          → GoOneWay (and_then (and_then (and_then (by_result r) fleet_by)
          (over_store false words.store)) closing) now
      by (Ok fleet) names =
          settled_read fleet now (record { file = refl; tapes = refl; links = refl })
          (names fleet refl)
      by (Err why) names = refl
