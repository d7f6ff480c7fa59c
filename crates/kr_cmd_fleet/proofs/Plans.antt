-- What a whole plan says of its workers, its replicas, their files and their plugins.
use Rattle.std.proofs.Common.{◌≡◌, ℕ, ◌<◌, ◌≤◌, Bool, true, false, List, [], ◌∷◌, ◌++◌, length, get_or, map, Option, None, Some, Contains, refl, sym, ◌∙◌, subst, arith}
use Rattle.std.specs.Prelude.{All, IsSome, find, if◌then◌else◌, ◌&&◌, not, nat_lt}
use Rattle.std.specs.List.{flat_map, list_all}
use Rattle.std.specs.Option.{option_map}
use Rattle.std.specs.Str.{bytes_eq}
use Rattle.std.proofs.lemmas.Bool.{and_parts, ltb-true, not-true}
use Rattle.std.proofs.lemmas.Grind.{flat_map-append}
use Rattle.std.proofs.lemmas.List.{length-map}
use Rattle.std.proofs.lemmas.List.Elements.{All-cons, All-head, All-nil, All-tail, Contains-append_left, Contains-append_right, Contains-get_or}
use Rattle.kr_base.proofs.RuleTests as tests
use Rattle.kr_base.specs.Rules.{is_name}
use Rattle.kr_config.specs.Kept.{ConfigEntry, plugins_in}
use Rattle.kr_config.specs.Providers.{plugins_among}
use Rattle.kr_provider.specs.Names.{HasLinks}
use Rattle.kr_provider.proofs.PluginOrder.{order_has}
use Rattle.kr_rollout.specs.Openings.{NamesAmong}
use Rattle.kr_rollout.specs.declared.opening.Opening.{Opening}
use Rattle.kr_script.specs.Fleets.{Worker, worker_of}
use Rattle.kr_script.specs.Rules.{first_is_in, is_line, is_worker}
use Rattle.kr_script.specs.declared.script.Part.{Part}
use Rattle.kr_script.specs.declared.script.ScriptLine.{ScriptLine}
use Rattle.kr_script.specs.declared.script.ScriptLine.TheVariants as line
use Rattle.kr_workers.specs.ScriptLines.{MayBringFile, MayDo}
use Rattle.kr_workers.specs.declared.files.SettingsFile.{SettingsFile}
use Rattle.kr_cmd_fleet.specs.FleetFiles.{NamedRows, all_rows, file_in, file_of_replica, no_file, file_entries}
use Rattle.kr_cmd_fleet.specs.Fleets.{rows_of_replica}
use Rattle.kr_cmd_fleet.specs.declared.fleet_file.LoadedFleet.{LoadedFleet}
use Rattle.kr_cmd_fleet.specs.inner.Plans.{IsWholePlan, named, plan_of}
use Rattle.kr_cmd_steps.specs.inner.ProgramNames.{names_in}
use Rattle.kr_cmd_fleet.proofs.FleetLoads.{IsRead, same_rows}

-- ---- files that were read

-- a configuration that was read is among all of them
pub rows_among : (files : List NamedRows) (name : List ℕ) (rows : List ConfigEntry) (plugin : List ℕ)
    → file_entries files name ≡ Some rows → Contains (plugins_in rows) plugin
    → Contains (plugins_in (all_rows files)) plugin
rows_among [] name rows plugin e c = absurd cc
rows_among (file ∷ files) name rows plugin e c =
    subst (λ l. Contains l plugin) (sym parted)
    (by (bytes_eq file.0 name) e (rows_among files name rows plugin))
  where
    parted : plugins_in (all_rows (file ∷ files))
        ≡ plugins_in file.1 ++ plugins_in (all_rows files)
    parted = flat_map-append (λ (row : ConfigEntry). plugins_among row.providers) file.1 (all_rows files)

    by : (b : Bool)
        → option_map (λ (f : NamedRows). f.1) (if b then Some file
        else find (λ (f : NamedRows). bytes_eq f.0 name) files) ≡ Some rows
        → (file_entries files name ≡ Some rows → Contains (plugins_in rows) plugin
        → Contains (plugins_in (all_rows files)) plugin)
        → Contains (plugins_in file.1 ++ plugins_in (all_rows files)) plugin
    by true e behind =
        let same : file.1 ≡ rows = cc in
        Contains-append_left (plugins_in file.1) (plugins_in (all_rows files)) plugin
        (subst (λ r. Contains (plugins_in r) plugin) (sym same) c)
    by false e behind =
        Contains-append_right (plugins_in file.1) (plugins_in (all_rows files)) plugin
        (behind e c)

-- ---- the lines

-- what holds of each of two lists one behind the other
pub halves : {X : Type 0} (P : X → Type 0) (xs ys : List X) → All P (xs ++ ys) → All P xs × All P ys
halves P [] ys h = (All-nil P, h)
halves P (x ∷ xs) ys h =
    let more = halves P xs ys (All-tail P x (xs ++ ys) h) in
    (All-cons P x xs (All-head P x (xs ++ ys) h) more.0, more.1)

module _ (files : List SettingsFile) (names : List (List ℕ)) (o : Opening) (many : ℕ)
    (names_are : o.names ≡ names) (replicas_are : length o.replicas ≡ many)
    (among : (name : List ℕ) (rows : List ConfigEntry) → file_entries (named files) name ≡ Some rows
    → NamesAmong names rows) where
  there : (replica : ℕ) → nat_lt replica many ≡ true → replica < length o.replicas
  there replica e =
      let less : replica < many = ltb-true replica many e in omega (arith, less, replicas_are)

  brings : (replica : ℕ) (file : List ℕ) (read : Option (List ConfigEntry))
      → file_entries (named files) file ≡ read → nat_lt replica many ≡ true → IsSome read
      → MayBringFile o files replica file
  brings replica file (Some rows) e below is = (
    there replica below,
    rows,
    sym (same_rows files file) ∙ e,
    subst (λ ns. NamesAmong ns rows) (sym names_are) (among file rows e),
  )
  brings replica file None e below is = absurd (let f : false ≡ true = is in cc)

  may_do : (l : ScriptLine) → is_line many l ≡ true → All (IsRead (named files)) (file_in l)
      → MayDo o files l
  may_do (line.Put resource path plain) e read =
      let both = and_parts _ _ e in
      ((tests.path path).0 both.1, (tests.resource resource).0 both.0)
  may_do (line.Get path) e read = (tests.path path).0 e
  may_do (line.Delete path) e read = (tests.path path).0 e
  may_do line.Rewrite e read = tt
  may_do (line.Reload replica file) e read =
      brings replica file (file_entries (named files) file) refl e
      (All-head (IsRead (named files)) file [] read)
  may_do line.Refresh e read = tt
  may_do (line.Join replica file) e read =
      brings replica file (file_entries (named files) file) refl e
      (All-head (IsRead (named files)) file [] read)
  may_do (line.Leave replica) e read = there replica e

  lines_may : (ls : List ScriptLine) → list_all (is_line many) ls ≡ true
      → All (IsRead (named files)) (flat_map file_in ls) → All (MayDo o files) ls
  lines_may [] e read = All-nil (MayDo o files)
  lines_may (l ∷ ls) e read =
      let both = and_parts (is_line many l) (list_all (is_line many) ls) e in
      let parts = halves (IsRead (named files)) (file_in l) (flat_map file_in ls) read in
      All-cons (MayDo o files) l ls (may_do l both.0 parts.0) (lines_may ls both.1 parts.1)

  abbrev May : Part → Type 0
  May part = (part.replica < length o.replicas) × All (MayDo o files) part.lines.0

  parts_may : (parts : List Part) → list_all (is_worker many) (map worker_of parts) ≡ true
      → All (IsRead (named files))
      (flat_map (λ (worker : Worker). flat_map file_in worker.lines) (map worker_of parts))
      → All May parts
  parts_may [] e read = All-nil May
  parts_may (part ∷ parts) e read =
      let both = and_parts (is_worker many (worker_of part))
      (list_all (is_worker many) (map worker_of parts)) e in
      let rules = and_parts (is_name part.name && nat_lt part.replica many)
      (list_all (is_line many) part.lines.0) both.0 in
      let front = and_parts (is_name part.name) (nat_lt part.replica many) rules.0 in
      let rest = halves (IsRead (named files)) (flat_map file_in part.lines.0)
      (flat_map (λ (worker : Worker). flat_map file_in worker.lines) (map worker_of parts)) read in
      All-cons May part parts
      (there part.replica front.1, lines_may part.lines.0 rules.1 rest.0)
      (parts_may parts both.1 rest.1)

-- ---- the replicas

-- each that is in has a file that was read
pub replicas_read : (files : List NamedRows) (replicas : List (List ℕ × List ℕ))
    → All (IsRead files) (flat_map file_of_replica replicas)
    → All (λ replica. bytes_eq replica.1 no_file ≡ false → IsRead files replica.1) replicas
replicas_read files [] read =
    All-nil (λ replica. bytes_eq replica.1 no_file ≡ false → IsRead files replica.1)
replicas_read files (replica ∷ replicas) read =
    let parts = halves (IsRead files) (file_of_replica replica)
    (flat_map file_of_replica replicas) read in
    All-cons (λ r. bytes_eq r.1 no_file ≡ false → IsRead files r.1) replica replicas
    (λ e. All-head (IsRead files) replica.1 []
    (subst (λ b. All (IsRead files) (if b then [] else replica.1 ∷ [])) e parts.0))
    (replicas_read files replicas parts.1)

-- ---- a whole plan

module _ (plan : LoadedFleet) (whole : IsWholePlan (plan_of plan)) where
  pub plan_workers : (1 ≤ length plan.script.workers.0) × (length plan.script.workers.0 ≤ 64)
  plan_workers =
      let same = length-map plan.script.workers.0 worker_of in
      let some : 1 ≤ length (map worker_of plan.script.workers.0) = whole.whole.workers in
      let few : length (map worker_of plan.script.workers.0) ≤ 64 = whole.within.workers in
      (omega (arith, same, some), omega (arith, same, few))

  pub plan_replicas : (1 ≤ length plan.script.replicas.0)
      × (length plan.script.replicas.0 ≤ 16)
  plan_replicas = (whole.whole.replicas, whole.within.replicas)

  -- a replica that is in has its file among the files
  pub plan_read : All (λ replica. bytes_eq replica.1 no_file ≡ false
      → IsSome (file_entries (named plan.files.0) replica.1)) plan.script.replicas.0
  plan_read = replicas_read (named plan.files.0) plan.script.replicas.0
      (halves (IsRead (named plan.files.0)) (flat_map file_of_replica plan.script.replicas.0)
      (flat_map (λ (worker : Worker). flat_map file_in worker.lines)
      (map worker_of plan.script.workers.0)) whole.read).0

  -- the first replica is in
  pub plan_first : (replica : List ℕ × List ℕ) (replicas : List (List ℕ × List ℕ))
      → plan.script.replicas.0 ≡ replica ∷ replicas
      → IsSome (rows_of_replica (named plan.files.0) replica)
  plan_first replica replicas is =
      let files = named plan.files.0 in
      let first : not (bytes_eq replica.1 no_file) ≡ true =
      subst (λ rs. first_is_in rs ≡ true) is whole.rules.first in
      let other : bytes_eq replica.1 no_file ≡ false =
      not-true (bytes_eq replica.1 no_file) first in
      let read = All-head (λ r. bytes_eq r.1 no_file ≡ false → IsRead files r.1) replica replicas
      (subst (All (λ r. bytes_eq r.1 no_file ≡ false → IsRead files r.1)) is plan_read) in
      subst (λ b. IsSome (if b then None else file_entries files replica.1)) (sym other) (read other)

  -- each file names plugins of the programs alone
  pub plan_links : (name : List ℕ) (rows : List ConfigEntry)
      → file_entries (named plan.files.0) name ≡ Some rows → HasLinks (names_in plan.programs) rows
  plan_links name rows e plugin c =
      subst (λ l. Contains l plugin) (sym whole.programs)
      ((order_has (plugins_in (all_rows (named plan.files.0))) plugin).1
      (rows_among (named plan.files.0) name rows plugin e c))

  pub plan_names : (name : List ℕ) (rows : List ConfigEntry)
      → file_entries (named plan.files.0) name ≡ Some rows → NamesAmong (names_in plan.programs) rows
  plan_names name rows e k d below = plan_links name rows e (get_or (plugins_in rows) k d)
      (Contains-get_or (plugins_in rows) k d below)

  -- the workers may do their lines
  pub plan_lines : (o : Opening) → o.names ≡ names_in plan.programs
      → length o.replicas ≡ length plan.script.replicas.0
      → All (λ part. (part.replica < length o.replicas)
      × All (MayDo o plan.files.0) part.lines.0) plan.script.workers.0
  plan_lines o names replicas = parts_may plan.files.0 (names_in plan.programs) o
      (length plan.script.replicas.0) names replicas plan_names plan.script.workers.0
      whole.rules.workers
      (halves (IsRead (named plan.files.0)) (flat_map file_of_replica plan.script.replicas.0)
      (flat_map (λ (worker : Worker). flat_map file_in worker.lines)
      (map worker_of plan.script.workers.0)) whole.read).1
