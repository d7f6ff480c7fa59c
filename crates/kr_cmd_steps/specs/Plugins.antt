-- The steps over plugins: their programs, their links, and the seeds that they wrap.
use Rattle.std.specs.Prelude.{ℕ, List, [], ◌∷◌, Option, None, Some, Result, Ok, Err}
use Rattle.kr_words.specs.Arguments.{plugin_program}
use Rattle.kr_kms.specs.Health.{breach_in}
use Rattle.kr_kms.specs.declared.health.Field.{Field}
use Rattle.kr_kms.specs.declared.plugin.Wrapped.{Wrapped}
use Rattle.kr_kms.specs.declared.seeds.SeedRow.{SeedRow}
use Rattle.kr_cmd_steps.specs.Steps.{Steps, draw, borrow_link, ask_status, wrap, refuse, give, and_then}
use Rattle.kr_base.specs.Visible.{visible}
use Rattle.kr_cmd_steps.specs.declared.programs.Program.{Program}
use Rattle.kr_cmd_messages.specs.declared.refusal.Refusal.{Refusal}
use Rattle.kr_cmd_messages.specs.declared.refusal.Refusal.TheVariants.{NoPlugin, Unhealthy}

-- ---- programs

abbrev pub join_program : (plugin : List ℕ) → (file : Option (List ℕ))
    → Result (List Program) Refusal → Result (List Program) Refusal
join_program plugin None more = Err (NoPlugin plugin)
join_program plugin (Some file) (Ok more) = Ok (record { plugin = plugin; file = file } ∷ more)
join_program plugin (Some file) (Err why) = Err why

-- those that the options give for the plugins; the first plugin without one is refused
abbrev pub settings_programs : (options : List (List ℕ × List ℕ)) → (plugins : List (List ℕ))
    → Result (List Program) Refusal
settings_programs options [] = Ok []
settings_programs options (plugin ∷ plugins) =
    join_program plugin (plugin_program options plugin) (settings_programs options plugins)

-- ---- links

-- a link of the seat to each
abbrev pub borrow_links_of : {A : Type 0} → (seat : ℕ) → List Program → Steps A → Steps A
borrow_links_of seat [] next = next
borrow_links_of seat (program ∷ programs) next =
    borrow_link seat program.plugin program.file (borrow_links_of seat programs next)

abbrev pub borrow_links : {A : Type 0} → List Program → Steps A → Steps A
borrow_links programs next = borrow_links_of 0 programs next

-- ---- seeds

-- a plugin whose status breaks a rule is refused
abbrev pub unless_breach : {A : Type 0} → (plugin : List ℕ) → Option (Field × List ℕ) → Steps A
    → Steps A
unless_breach plugin None next = next
unless_breach plugin (Some breach) next = refuse (Unhealthy plugin breach.0 (visible breach.1))

-- the seed beside what the plugin made of it
abbrev pub seed_row : (plugin seed : List ℕ) → Wrapped → SeedRow
seed_row plugin seed wrapped = record {
  name = plugin;
  key_id = wrapped.key_id;
  annotations = wrapped.annotations;
  source = wrapped.cipher;
  seed = seed;
}

-- 32 bytes are drawn, which the plugin wraps
abbrev pub wrap_seed : (plugin : List ℕ) → Steps SeedRow
wrap_seed plugin = draw 0 32 (λ seed. wrap 0 plugin seed
    (λ wrapped. give (seed_row plugin seed wrapped)))

-- the plugin is asked for its status before
abbrev pub make_seed : (plugin : List ℕ) → Steps SeedRow
make_seed plugin = ask_status 0 plugin
    (λ status. unless_breach plugin (breach_in status) (wrap_seed plugin))

-- a seed of each plugin, one behind another
abbrev pub make_seeds : (plugins : List (List ℕ)) → Steps (List SeedRow)
make_seeds [] = give []
make_seeds (plugin ∷ plugins) = and_then (make_seed plugin)
    (λ row. and_then (make_seeds plugins) (λ rows. give (row ∷ rows)))
