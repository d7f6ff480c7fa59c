-- The names of programs' plugins.
use Rattle.std.specs.Prelude.{ℕ, List, map}
use Rattle.kr_cmd_steps.specs.declared.programs.Program.{Program}

-- the plugins of programs
abbrev pub names_in : List Program → List (List ℕ)
names_in programs = map (λ (program : Program). program.plugin) programs
