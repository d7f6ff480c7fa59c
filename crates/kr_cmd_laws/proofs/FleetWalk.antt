-- Where all is ready, the steps of a fleet refuse nothing up to its workers.
use Rattle.std.proofs.Common.{◌≡◌, ℕ, zero, suc, ◌+◌, ◌≤◌, ◌⊎◌, Bool, true, false, List, [], ◌∷◌, ◌++◌, length, map, get_or, append-nil, All, Contains, Option, None, Some, Result, Ok, Err, refl, sym, ◌∙◌, ap, subst, inl, inr, arith}
use Rattle.std.specs.Prelude.{IsSome, if◌then◌else◌, sum}
use Rattle.std.specs.List.{flat_map}
use Rattle.std.specs.Option.{option_map}
use Rattle.std.specs.Str.{bytes_eq}
use Rattle.std.proofs.lemmas.Grind.{flat_map-append}
use Rattle.std.proofs.lemmas.List.{append_assoc, map-append}
use Rattle.std.proofs.lemmas.List.Elements.{All-append, All-cons, All-head, All-nil, All-tail, All-weaker, Contains-append_cases, Contains-get_or}
use Rattle.std.proofs.lemmas.Slice.Eq.{bytes_eq-Decides}
use Rattle.kr_base.specs.Told.{Agrees}
use Rattle.kr_config.specs.Kept.{ConfigEntry, plugins_in}
use Rattle.kr_config.specs.Providers.{plugins_among}
use Rattle.kr_kms.specs.Exchanges.{StatusCall}
use Rattle.kr_kms.specs.Health.{breach_in}
use Rattle.kr_provider.specs.PluginOrder.{plugin_order}
use Rattle.kr_provider.specs.Publication.{Publication}
use Rattle.kr_provider.proofs.PluginOrder.{order_has}
use Rattle.kr_opening.specs.Replicas.{settings_of}
use Rattle.kr_opening.specs.Starts.{MayStart}
use Rattle.kr_opening.specs.declared.opening_board.StartNo.TheVariants as no
use Rattle.kr_history.proofs.Judging.{refusal_is_exact}
use Rattle.kr_script.specs.Fleets.{Fleet, Worker}
use Rattle.kr_script.proofs.OneAnswer.{one_meaning}
use Rattle.kr_store.specs.declared.rows.LogRow.{LogRow}
use Rattle.kr_store.proofs.Listings.{listing_once}
use Rattle.kr_words.specs.Arguments.{plugin_program}
use Rattle.kr_kms.specs.declared.world.WorldCall.TheVariants.{File}
use Rattle.kr_workers.specs.Budgets.{AreBudgets, script_budgets, put_lines}
use Rattle.kr_script.specs.declared.script.Part.{Part}
use Rattle.kr_cmd_steps.specs.Environment.{Environment, step_state}
use Rattle.kr_cmd_steps.specs.Phases.{by_result, configuration, with_memory}
use Rattle.kr_cmd_steps.specs.Configuration.{IsConfiguration}
use Rattle.kr_cmd_fleet.specs.FleetFiles.{FleetPlan, IsFleetFile, NamedRows, all_rows, file_in, file_of_replica, files_in, all_files, no_file, planning, file_programs, file_entries, unless_read}
use Rattle.kr_cmd_fleet.specs.FleetReady.{HasSettings, HaveSettings, IsConfigured, IsHealthyAtSeats, IsReady, TellsRows}
use Rattle.kr_cmd_fleet.specs.Fleets.{AreWithin, Begun, IsStart, Replicas, beginning, equipping_all, equipping, fleet_steps, launching, over_store, parts_of, publishes, publishing, rows_of_replica, starting_with}
use Rattle.kr_cmd_steps.specs.Judgements.{start_refusal}
use Rattle.kr_cmd_steps.specs.Plugins.{borrow_links_of, join_program, make_seed, make_seeds, settings_programs, unless_breach, wrap_seed}
use Rattle.kr_cmd_steps.specs.Steps.{StepState, Steps, and_then, give, or_empty, tapes_with, with_asked, with_heard}
use Rattle.kr_cmd_steps.specs.StoreFiles.{IsStored}
use Rattle.kr_cmd_messages.specs.declared.fleet_words.FleetWords.{FleetWords}
use Rattle.kr_cmd_steps.specs.declared.programs.Program.{Program}
use Rattle.kr_cmd_messages.specs.declared.refusal.Refusal.{Refusal}
use Rattle.kr_cmd_steps.specs.inner.ProgramNames.{names_in}
use Rattle.kr_cmd_fleet.proofs.FleetLoads.{IsRead, first_found, found_by, last_read, more_stays}
use Rattle.kr_cmd_steps.proofs.GivesOnly.{GivesOnly, gives_then}
use Rattle.kr_cmd_laws.proofs.Listed.{one_stored}
use Rattle.kr_cmd_fleet.proofs.Plans.{halves, replicas_read}
use Rattle.kr_cmd_laws.proofs.Once.{one_configuration}
use Rattle.kr_cmd_steps.proofs.Tapes.{own_name}

-- ---- what is told

-- files and statuses are told as before the call
pub record Sees (old : Environment) (left : StepState) : Type 0 where
  pub file : left.file ≡ old.world.file
  pub links : left.links ≡ old.world.links.told

pub some_same : {X : Type 0} {x y : X} → Some x ≡ Some y → x ≡ y
some_same e = cc

-- what agrees with something told is that
pub is_told : {X : Type 0} (told : Option X) (x y : X) → told ≡ Some x → Agrees told y → x ≡ y
is_told None x y e agrees = absurd cc
is_told (Some z) x y e agrees = some_same (sym e) ∙ agrees

by_known_then : {A B : Type 0} (Q : B → StepState → Type 0) (others : A → Steps B)
    (r : Result A Refusal) (x : A) (left : StepState) → Ok x ≡ r → GivesOnly Q (others x) left
    → GivesOnly Q (and_then (by_result r) others) left
by_known_then Q others r x left e q =
    subst (λ k. GivesOnly Q (and_then (by_result k) others) left) e q

-- ---- the fleet file

one_fleet_file : (name : List ℕ) (file : Option (List ℕ)) (fleet : Fleet)
    (read : Result Fleet Refusal) → IsFleetFile name file (Ok fleet) → IsFleetFile name file read
    → Ok fleet ≡ read
one_fleet_file name None fleet read h k = absurd cc
one_fleet_file name (Some bytes) fleet read (inl h) k = absurd (let e = h.1 in cc)
one_fleet_file name (Some bytes) fleet read (inr h) (inl k) = absurd (omega (arith, h.0, k.0))
one_fleet_file name (Some bytes) fleet (Ok other) (inr h) (inr k) =
    let e = one_meaning bytes (Ok fleet) (Ok other) h.1 k.1 in
    let same : fleet ≡ other = cc in ap (λ f. Ok f) same
one_fleet_file name (Some bytes) fleet (Err why) (inr h) (inr k) =
    absurd (let e = one_meaning bytes (Ok fleet) (Err k.1.0) h.1 k.1.1 in cc)

-- ---- the budgets are one thing

pub one_budgets : (rows : List LogRow) (parts : List Part) (a b : List ℕ)
    → AreBudgets rows parts a → AreBudgets rows parts b → a ≡ b
one_budgets rows parts a b (m, (first, lists, long), is) (n, (second, also, far), so) =
    let same : m ≡ n =
    long ∙ ap length (listing_once rows first second lists also) ∙ sym far in
    is ∙ ap (λ live. script_budgets (live + put_lines parts) parts) same ∙ sym so

-- the rows of a replica are those of its file
pub file_rows : (files : List NamedRows) (replica : List ℕ × List ℕ) (rows : List ConfigEntry)
    → rows_of_replica files replica ≡ Some rows → file_entries files replica.1 ≡ Some rows
file_rows files replica rows e = by (bytes_eq replica.1 no_file) e
  where
    by : (b : Bool) → (if b then None else file_entries files replica.1) ≡ Some rows
        → file_entries files replica.1 ≡ Some rows
    by true is = absurd cc
    by false is = is

module _ (words : FleetWords) (old : Environment) (ready : IsReady words old) where
  abbrev Ready : List ℕ → Type 0
  Ready name = IsConfigured words old (length ready.fleet.workers) name

  one_rows : (name : List ℕ) (a b : List ConfigEntry) → TellsRows old name a → TellsRows old name b
      → a ≡ b
  one_rows name a b (file, told, is) (other, also, so) =
      let same : other ≡ file = some_same (sym also ∙ told) in
      let e : Ok a ≡ Ok b = one_configuration name file (Ok a) (Ok b) is
      (subst (λ f. IsConfiguration name f (Ok b)) same so) in cc

  -- ---- the configurations

  -- a file was told so, and its plugins are there
  abbrev IsThere : NamedRows → Type 0
  IsThere file = TellsRows old file.0 file.1 × Ready file.0

  pub record Loaded (names : List (List ℕ)) (files : List NamedRows) (left : StepState) : Type 0 where
    pub there : All IsThere files
    pub read : All (IsRead files) names
    pub sees : Sees old left
    pub tapes : left.tapes ≡ old.world.tapes.told

  loads_files : (done names : List (List ℕ)) (read : List NamedRows) (left : StepState)
      → All Ready names → All IsThere read → All (IsRead read) done → Sees old left
      → left.tapes ≡ old.world.tapes.told
      → GivesOnly (Loaded (done ++ names)) (files_in read names) left
  loads_files done [] read left each there all sees tapes = record {
    there = there;
    read = subst (All (IsRead read)) (sym (append-nil done)) all;
    sees = sees;
    tapes = tapes;
  }
  loads_files done (name ∷ names) read left each there all sees tapes =
      by (file_entries read name) refl (λ files l is reads s same.
      subst (λ ns. GivesOnly (Loaded ns) (files_in files names) l)
      (append_assoc done (name ∷ []) names)
      (loads_files (done ++ name ∷ []) names files l (All-tail Ready name names each) is reads s
      same))
    where
      own : Ready name
      own = All-head Ready name names each

      Behind : Type 0
      Behind = (files : List NamedRows) (l : StepState) → All IsThere files
          → All (IsRead files) (done ++ name ∷ []) → Sees old l
          → l.tapes ≡ old.world.tapes.told
          → GivesOnly (Loaded (done ++ (name ∷ names))) (files_in files names) l

      added : (rows : List ConfigEntry) → TellsRows old name rows
          → All IsThere (read ++ (name, rows) ∷ [])
      added rows told = All-append IsThere read ((name, rows) ∷ []) there
          (All-cons IsThere (name, rows) [] (told, own) (All-nil IsThere))

      still : (rows : List ConfigEntry) (n : List ℕ) → IsRead read n
          → IsRead (read ++ (name, rows) ∷ []) n
      still rows n is = subst IsSome (sym (more_stays read (name, rows) n is)) is

      reads_more : (rows : List ConfigEntry)
          → All (IsRead (read ++ (name, rows) ∷ [])) (done ++ name ∷ [])
      reads_more rows =
          let now = read ++ (name, rows) ∷ [] in
          All-append (IsRead now) done (name ∷ [])
          (All-weaker (IsRead read) (IsRead now) (still rows) done all)
          (All-cons (IsRead now) name [] (last_read read name rows) (All-nil (IsRead now)))

      by : (o : Option (List ConfigEntry)) → file_entries read name ≡ o → Behind
          → GivesOnly (Loaded (done ++ (name ∷ names))) (unless_read o (files_in read names)
          (and_then (configuration name)
          (λ rows. with_memory (files_in (read ++ (name, rows) ∷ []) names)))) left
      by (Some rows) e goes = goes read left there
          (All-append (IsRead read) done (name ∷ []) all
          (All-cons (IsRead read) name [] (subst IsSome (sym e) refl) (All-nil (IsRead read))))
          sees tapes
      by None e goes = λ bytes agrees r is.
          let file : own.told.0 ≡ bytes = is_told (left.file name) own.told.0 bytes
          (ap (λ f. f name) sees.file ∙ own.told.1) agrees in
          by_known_then (Loaded (done ++ (name ∷ names)))
          (λ rows. with_memory (files_in (read ++ (name, rows) ∷ []) names)) r own.rows _
          (one_configuration name bytes (Ok own.rows) r
          (subst (λ f. IsConfiguration name f (Ok own.rows)) file own.told.2) is)
          (λ u t. goes (read ++ (name, own.rows) ∷ []) _ (added own.rows own.told)
          (reads_more own.rows) (record { file = sees.file; links = sees.links }) tapes)

  -- ---- the plugins of all of them

  -- a plugin that one of them names has a program and is healthy
  plugin_there : (files : List NamedRows) (plugin : List ℕ) → All IsThere files
      → Contains (plugins_in (all_rows files)) plugin
      → IsSome (plugin_program words.options plugin)
      × IsHealthyAtSeats old (length ready.fleet.workers) plugin
  plugin_there [] plugin there (k, below, e) = absurd (omega (arith, below))
  plugin_there (file ∷ files) plugin there c = by (Contains-append_cases (plugins_in file.1)
      (plugins_in (all_rows files)) plugin
      (subst (λ l. Contains l plugin)
      (flat_map-append (λ (row : ConfigEntry). plugins_among row.providers) file.1 (all_rows files)) c))
      (plugin_there files plugin (All-tail IsThere file files there))
    where
      first : IsThere file
      first = All-head IsThere file files there

      Fine : Type 0
      Fine = IsSome (plugin_program words.options plugin)
          × IsHealthyAtSeats old (length ready.fleet.workers) plugin

      by : Contains (plugins_in file.1) plugin ⊎ Contains (plugins_in (all_rows files)) plugin
          → (Contains (plugins_in (all_rows files)) plugin → Fine) → Fine
      by (inl here) behind =
          let same = one_rows file.0 file.1 first.1.rows first.0 first.1.told in
          let own = subst (λ rows. Contains (plugins_in rows) plugin) same here in
          (first.1.programs plugin own, first.1.healthy plugin own)
      by (inr later) behind = behind later

  -- ---- the plan

  -- it is the told fleet's, with the told files, and its programs' plugins are healthy
  pub record IsPlanned (plan : FleetPlan) : Type 0 where
    pub fleet_is : plan.fleet ≡ ready.fleet
    pub there : All IsThere plan.files
    pub read : All (IsRead plan.files) (all_files ready.fleet)
    pub healthy : (plugin : List ℕ) → Contains (names_in plan.programs) plugin
        → IsHealthyAtSeats old (length ready.fleet.workers) plugin

  abbrev Planned : FleetPlan → StepState → Type 0
  Planned plan left = IsPlanned plan × Sees old left × (left.tapes ≡ old.world.tapes.told)

  abbrev plan_by : Fleet → List NamedRows → List Program → Steps FleetPlan
  plan_by fleet files programs =
      give (record { fleet = fleet; files = files; programs = programs })

  have_programs : (plugins : List (List ℕ))
      → All (λ plugin. IsSome (plugin_program words.options plugin)) plugins
      → (programs : List Program) × (Ok programs ≡ settings_programs words.options plugins)
      × (names_in programs ≡ plugins)
  have_programs [] each = ([], refl, refl)
  have_programs (plugin ∷ plugins) each =
      let Has : List ℕ → Type 0 = λ p. IsSome (plugin_program words.options p) in
      by (plugin_program words.options plugin) refl (All-head Has plugin plugins each)
      (have_programs plugins (All-tail Has plugin plugins each))
    where
      by : (o : Option (List ℕ)) → plugin_program words.options plugin ≡ o → IsSome o
          → (programs : List Program) × (Ok programs ≡ settings_programs words.options plugins)
          × (names_in programs ≡ plugins)
          → (programs : List Program)
          × (Ok programs ≡ settings_programs words.options (plugin ∷ plugins))
          × (names_in programs ≡ plugin ∷ plugins)
      by None e is more = absurd (let f : false ≡ true = is in cc)
      by (Some file) e is (programs, all, names) = (
        record { plugin = plugin; file = file } ∷ programs,
        ap (join_program plugin (Some file)) all
            ∙ ap (λ o. join_program plugin o (settings_programs words.options plugins)) (sym e),
        ap (λ l. plugin ∷ l) names,
      )

  plans : (fleet : Fleet) (left : StepState) → fleet ≡ ready.fleet → (files : List NamedRows)
      → Loaded (all_files ready.fleet) files left
      → GivesOnly Planned (and_then (file_programs words.options files)
      (λ programs. plan_by fleet files programs)) left
  plans fleet left same files l = λ u t.
      let plugins = plugin_order (all_rows files) in
      let made = have_programs plugins (λ k d below.
      (plugin_there files (get_or plugins k d) l.there
      ((order_has (plugins_in (all_rows files)) (get_or plugins k d)).0
      (Contains-get_or plugins k d below))).0) in
      by_known_then Planned (λ programs. plan_by fleet files programs)
      (settings_programs words.options plugins) made.0 left made.1 (
        record {
          fleet_is = same;
          there = l.there;
          read = l.read;
          healthy = λ plugin c. (plugin_there files plugin l.there
              ((order_has (plugins_in (all_rows files)) plugin).0
              (subst (λ ns. Contains ns plugin) made.2 c))).1;
        },
        l.sees,
        l.tapes,
      )

  plans_fleet : GivesOnly Planned (planning words.file words.options) (step_state old)
  plans_fleet = λ bytes agrees r is.
      let file : ready.file.0 ≡ bytes = is_told (old.world.file words.file) ready.file.0 bytes
      ready.file.1 agrees in
      let now = with_asked (File words.file) (step_state old) in
      by_known_then Planned (λ fleet. and_then (files_in [] (all_files fleet)) (λ files.
      and_then (file_programs words.options files) (λ programs.
      plan_by fleet files programs))) r ready.fleet now
      (one_fleet_file words.file bytes ready.fleet r
      (subst (λ f. IsFleetFile words.file f (Ok ready.fleet)) file ready.file.2) is)
      (gives_then (Loaded (all_files ready.fleet)) Planned
      (λ files. and_then (file_programs words.options files) (λ programs.
      plan_by ready.fleet files programs))
      (λ files l loaded. plans ready.fleet l refl files loaded)
      (files_in [] (all_files ready.fleet)) now
      (loads_files [] (all_files ready.fleet) [] now ready.configured (All-nil IsThere)
      (All-nil (IsRead [])) (record { file = refl; links = refl }) refl))

  -- ---- the budgets

  -- the budgets are within the limit
  budgets_pass : {B : Type 0} (Q : B → StepState → Type 0) (others : List ℕ → Steps B)
      (rows : List LogRow) (parts : List Part) (left : StepState) (own : List ℕ)
      → AreWithin rows parts (Ok own)
      → ((budgets : List ℕ) → GivesOnly Q (others budgets) left) → (r : Result (List ℕ) Refusal)
      → AreWithin rows parts r → GivesOnly Q (and_then (by_result r) others) left
  budgets_pass Q others rows parts left own w next (Ok budgets) is = next budgets
  budgets_pass Q others rows parts left own w next (Err why) (e, (budgets, are, many)) =
      absurd (let same = ap sum (one_budgets rows parts own budgets w.0 are) in
      omega (arith, w.1, many, same))

  -- ---- what the workers have

  module _ {A : Type 0} (Q : A → StepState → Type 0) (next : Steps A)
      (go_on : (l : StepState) → Sees old l → GivesOnly Q next l) where
    borrows_links : (seat : ℕ) (programs : List Program) (left : StepState) → Sees old left
        → GivesOnly Q (borrow_links_of seat programs next) left
    borrows_links seat [] left sees = go_on left sees
    borrows_links seat (program ∷ programs) left sees =
        borrows_links seat programs _ (record { file = sees.file; links = sees.links })

  equips : {A : Type 0} (Q : A → StepState → Type 0) (programs : List Program) (next : Steps A)
      → ((l : StepState) → Sees old l → GivesOnly Q next l) → (seat seats : ℕ) (left : StepState)
      → Sees old left → GivesOnly Q (equipping programs seat seats next) left
  equips Q programs next go_on seat zero left sees = go_on left sees
  equips Q programs next go_on seat (suc more) left sees =
      borrows_links Q (equipping programs (seat + 1) more next)
      (λ l s. equips Q programs next go_on (seat + 1) more l s) seat programs _
      (record { file = sees.file; links = sees.links })

  -- ---- the seeds

  abbrev Seen : {X : Type 0} → X → StepState → Type 0
  Seen x left = Sees old left

  some_worker : 1 ≤ length ready.fleet.workers
  some_worker = by ready.file.0 ready.file.2
    where
      by : (file : Option (List ℕ)) → IsFleetFile words.file file (Ok ready.fleet)
          → 1 ≤ length ready.fleet.workers
      by None is = absurd cc
      by (Some bytes) (inl long) = absurd (let e = long.1 in cc)
      by (Some bytes) (inr means) = means.1.2.workers

  wraps : (plugin : List ℕ) (left : StepState) → IsHealthyAtSeats old (length ready.fleet.workers) plugin
      → Sees old left → GivesOnly Seen (make_seed plugin) left
  wraps plugin left healthy sees = λ status agrees.
      let fine = healthy 0 some_worker in
      let same : fine.0 ≡ status = is_told (left.links (0, plugin)) fine.0 status
      (ap (λ f. f (0, plugin)) sees.links ∙ fine.1) agrees in
      subst (λ o. GivesOnly Seen (unless_breach plugin o (wrap_seed plugin))
      (with_heard (StatusCall plugin (Ok status)) left))
      (sym (subst (λ s. breach_in s ≡ None) same fine.2))
      (λ bytes rest wrapped. record { file = sees.file; links = sees.links })

  makes : (plugins : List (List ℕ)) (left : StepState)
      → All (IsHealthyAtSeats old (length ready.fleet.workers)) plugins → Sees old left
      → GivesOnly Seen (make_seeds plugins) left
  makes [] left each sees = sees
  makes (plugin ∷ plugins) left each sees =
      let Fine = IsHealthyAtSeats old (length ready.fleet.workers) in
      gives_then Seen Seen
      (λ row. and_then (make_seeds plugins) (λ rows. give (row ∷ rows)))
      (λ row l s. gives_then Seen Seen (λ rows. give (row ∷ rows)) (λ rows m t. t)
      (make_seeds plugins) l (makes plugins l (All-tail Fine plugin plugins each) s))
      (make_seed plugin) left (wraps plugin left (All-head Fine plugin plugins each) sees)

  -- ---- what the replicas publish

  -- the file of a name was read, as it is told
  there_at : (files : List NamedRows) (name : List ℕ) (rows : List ConfigEntry) → All IsThere files
      → file_entries files name ≡ Some rows → TellsRows old name rows × Ready name
  there_at [] name rows there e = absurd cc
  there_at (file ∷ files) name rows there e =
      by (bytes_eq file.0 name) refl (sym (first_found file files name) ∙ e)
      (there_at files name rows (All-tail IsThere file files there))
    where
      first : IsThere file
      first = All-head IsThere file files there

      by : (b : Bool) → bytes_eq file.0 name ≡ b
          → found_by b file (file_entries files name) ≡ Some rows
          → (file_entries files name ≡ Some rows → TellsRows old name rows × Ready name)
          → TellsRows old name rows × Ready name
      by true same is behind =
          let e : file.0 ≡ name = (bytes_eq-Decides file.0 name).0 same in
          let r : file.1 ≡ rows = some_same is in
          subst (λ n. TellsRows old n rows × Ready n) e
          (subst (λ rs. TellsRows old file.0 rs × Ready file.0) r first)
      by false other is behind = behind is

  module _ (files : List NamedRows) (there : All IsThere files) where
    -- the settings come to this
    abbrev Publishes : List (Option (List ConfigEntry)) → Replicas → StepState → Type 0
    Publishes settings made left = (settings_of made ≡ settings) × Sees old left

    healthy_rows : (name : List ℕ) (rows : List ConfigEntry) → file_entries files name ≡ Some rows
        → All (IsHealthyAtSeats old (length ready.fleet.workers)) (plugin_order rows)
    healthy_rows name rows e = λ k d below.
        let plugins = plugin_order rows in
        let t = there_at files name rows there e in
        let same = one_rows name rows t.1.rows t.0 t.1.told in
        t.1.healthy (get_or plugins k d) (subst (λ r. Contains (plugins_in r) (get_or plugins k d))
        same ((order_has (plugins_in rows) (get_or plugins k d)).0
        (Contains-get_or plugins k d below)))

    one_more : (settings : List (Option (List ConfigEntry))) (made : Replicas) (p : Option Publication)
        (rows : Option (List ConfigEntry)) (rest : List (Option (List ConfigEntry)))
        → option_map (λ (q : Publication). q.rows) p ≡ rows
        → settings_of made ++ (rows ∷ rest) ≡ settings
        → settings_of (made ++ p ∷ []) ++ rest ≡ settings
    one_more settings made p rows rest e all =
        ap (λ l. l ++ rest) (map-append (option_map (λ (q : Publication). q.rows)) made (p ∷ []))
        ∙ append_assoc (settings_of made) (option_map (λ (q : Publication). q.rows) p ∷ []) rest
        ∙ ap (λ r. settings_of made ++ (r ∷ rest)) e ∙ all

    publishes_all : (settings : List (Option (List ConfigEntry))) (replicas : List (List ℕ × List ℕ))
        (made : Replicas) (left : StepState)
        → settings_of made ++ map (rows_of_replica files) replicas ≡ settings → Sees old left
        → GivesOnly (Publishes settings) (publishing files made replicas) left
    publishes_all settings [] made left e sees =
        λ u t. (sym (append-nil (settings_of made)) ∙ e, sees)
    publishes_all settings (replica ∷ replicas) made left e sees =
        by (rows_of_replica files replica) refl
        (λ p l all s. publishes_all settings replicas (made ++ p ∷ []) l all s)
      where
        More : Replicas → Steps Replicas
        More more = publishing files more replicas

        Behind : Type 0
        Behind = (p : Option Publication) (l : StepState)
            → settings_of (made ++ p ∷ []) ++ map (rows_of_replica files) replicas ≡ settings
            → Sees old l → GivesOnly (Publishes settings) (More (made ++ p ∷ [])) l

        all_so : (p : Option Publication)
            → option_map (λ (q : Publication). q.rows) p ≡ rows_of_replica files replica
            → settings_of (made ++ p ∷ []) ++ map (rows_of_replica files) replicas ≡ settings
        all_so p is = one_more settings made p (rows_of_replica files replica)
            (map (rows_of_replica files) replicas) is e

        by : (o : Option (List ConfigEntry)) → rows_of_replica files replica ≡ o → Behind
            → GivesOnly (Publishes settings) (publishes o made More) left
        by None is next = next None left (all_so None (sym is)) sees
        by (Some rows) is next = λ u t.
            gives_then Seen (Publishes settings)
            (λ seeds. More (made ++ Some (record { rows = rows; seeds = seeds }) ∷ []))
            (λ seeds l s. next (Some (record { rows = rows; seeds = seeds })) l
            (all_so (Some (record { rows = rows; seeds = seeds })) (sym is)) s)
            (make_seeds (plugin_order rows)) left
            (makes (plugin_order rows) left
            (healthy_rows replica.1 rows (file_rows files replica rows is)) sees)

    -- the settings are the told ones
    settings_so : (replica : List ℕ × List ℕ) (rows : Option (List ConfigEntry))
        → HasSettings old replica rows
        → (bytes_eq replica.1 no_file ≡ false → IsRead files replica.1)
        → rows_of_replica files replica ≡ rows
    settings_so replica rows has read = by (bytes_eq replica.1 no_file) refl rows has
      where
        found : (o : Option (List ConfigEntry)) → file_entries files replica.1 ≡ o → IsSome o
            → (own : List ConfigEntry) → TellsRows old replica.1 own → o ≡ Some own
        found None e is own tells = absurd (let f : false ≡ true = is in cc)
        found (Some rows) e is own tells =
            let t = there_at files replica.1 rows there e in
            ap (λ r. Some r) (one_rows replica.1 rows own t.0 tells)

        by : (b : Bool) → bytes_eq replica.1 no_file ≡ b → (o : Option (List ConfigEntry))
            → HasSettings old replica o → (if b then None else file_entries files replica.1) ≡ o
        by true gap None is = refl
        by true gap (Some own) (in_it, tells) =
            absurd (in_it ((bytes_eq-Decides replica.1 no_file).0 gap))
        by false other None is = absurd (let t : true ≡ false =
            sym ((bytes_eq-Decides replica.1 no_file).1 is) ∙ other in cc)
        by false other (Some own) (in_it, tells) =
            found (file_entries files replica.1) refl (read other) own tells

    settings_all : (replicas : List (List ℕ × List ℕ)) (settings : List (Option (List ConfigEntry)))
        → HaveSettings old replicas settings
        → All (λ replica. bytes_eq replica.1 no_file ≡ false → IsRead files replica.1) replicas
        → map (rows_of_replica files) replicas ≡ settings
    settings_all [] [] has read = refl
    settings_all (replica ∷ replicas) (rows ∷ more) (first, rest) read =
        let In : List ℕ × List ℕ → Type 0 =
        λ r. bytes_eq r.1 no_file ≡ false → IsRead files r.1 in
        let own = settings_so replica rows first (All-head In replica replicas read) in
        let others = settings_all replicas more rest (All-tail In replica replicas read) in
        λ i. own i ∷ others i
    settings_all other another has read = absurd has

  -- ---- the start

  -- what the workers begin with: the told fleet, and programs whose plugins are healthy
  pub record BeginsWell (begun : Begun) (left : StepState) : Type 0 where
    pub fleet_is : begun.plan.fleet ≡ ready.fleet
    pub healthy : (plugin : List ℕ) → Contains (names_in begun.plan.programs) plugin
        → IsHealthyAtSeats old (length ready.fleet.workers) plugin
    pub sees : Sees old left

  no_refusal : (rows : List LogRow) (replicas : Replicas) (why : Refusal)
      → MayStart rows (settings_of replicas) → IsStart rows replicas (Err why) → ⊥
  no_refusal rows replicas why may (cause, is, e) =
      let none : cause ≡ no.NoMemory = refusal_is_exact rows (settings_of replicas) cause is may in
      absurd (let f : None ≡ Some why = sym (ap start_refusal none) ∙ e in cc)

  module _ (plan : FleetPlan) (p : IsPlanned plan) where
    starts_by : (budgets : List ℕ) (replicas : Replicas) (left : StepState) → Sees old left
        → MayStart ready.stored.rows (settings_of replicas)
        → (r : Result (Unit {0}) Refusal) → IsStart ready.stored.rows replicas r
        → GivesOnly BeginsWell (and_then (by_result r) (λ done. with_memory (give (record {
          plan = plan;
          stored = ready.stored;
          budgets = budgets;
          replicas = replicas;
          items = [];
        })))) left
    starts_by budgets replicas left sees may (Ok done) is = λ u t. record {
      fleet_is = p.fleet_is;
      healthy = p.healthy;
      sees = sees;
    }
    starts_by budgets replicas left sees may (Err why) is =
        absurd (no_refusal ready.stored.rows replicas why may is)

    outfits : (budgets : List ℕ) (left : StepState) → Sees old left
        → GivesOnly BeginsWell (launching false plan ready.stored budgets) left
    outfits budgets left sees =
        let settings = map (rows_of_replica plan.files) plan.fleet.replicas in
        gives_then (Publishes plan.files p.there settings) BeginsWell
        (starting_with false plan ready.stored budgets)
        (λ replicas l made. starts_by budgets replicas l made.1
        (subst (λ s. MayStart ready.stored.rows s) (sym (made.0 ∙ told)) ready.fits))
        (publishing plan.files [] plan.fleet.replicas) left
        (publishes_all plan.files p.there settings plan.fleet.replicas [] left refl sees)
      where
        told : map (rows_of_replica plan.files) plan.fleet.replicas ≡ ready.settings
        told = ap (λ (f : Fleet). map (rows_of_replica plan.files) f.replicas) p.fleet_is
            ∙ settings_all plan.files p.there ready.fleet.replicas ready.settings
            ready.settings_are (replicas_read plan.files ready.fleet.replicas
            (halves (IsRead plan.files) (flat_map file_of_replica ready.fleet.replicas)
            (flat_map (λ (worker : Worker). flat_map file_in worker.lines) ready.fleet.workers)
            p.read).0)

    begins : (left : StepState) → Sees old left
        → GivesOnly BeginsWell (beginning false plan ready.stored) left
    begins left sees = budgets_pass BeginsWell (equipping_all false plan ready.stored)
        ready.stored.rows (parts_of plan.fleet) left ready.budgets
        (subst (λ (f : Fleet). AreWithin ready.stored.rows (parts_of f) (Ok ready.budgets))
        (sym p.fleet_is) ready.within)
        (λ budgets. equips BeginsWell plan.programs (launching false plan ready.stored budgets)
        (λ l s. outfits budgets l s) 0 (length plan.fleet.workers) left sees)

  -- ---- all of them

  over_told : (plan : FleetPlan) (left : StepState) → Planned plan left
      → GivesOnly BeginsWell (over_store false words.store plan) left
  over_told plan left (p, sees, tapes) = (
    refl,
    λ bytes agrees r is.
        let held : ready.store.0 ≡ bytes = some_same (is_told
        (tapes_with true words.store left.tapes words.store) (Some ready.store.0) (Some bytes)
        (ap {B = Option (Option (List ℕ))} (λ b. if b then or_empty (left.tapes words.store)
        else left.tapes words.store) (own_name words.store)
        ∙ ap (λ t. or_empty (t words.store)) tapes ∙ ready.store.1) agrees) in
        by_known_then BeginsWell (beginning false plan) r ready.stored _
        (one_stored bytes (Ok ready.stored) r
        (subst (λ b. IsStored b (Ok ready.stored)) held ready.store.2) is)
        (begins plan p _ (record { file = sees.file; links = sees.links })),
  )

  pub walks : GivesOnly BeginsWell (fleet_steps words) (step_state old)
  walks = gives_then Planned BeginsWell (over_store false words.store) over_told
      (planning words.file words.options) (step_state old) plans_fleet
