-- The calls that a system tells.
use Rattle.std.specs.Prelude.{◌≡◌, ℕ, ◌&&◌, Bool, false, List, [], ◌∷◌, ◌++◌, Option, None, is_some, Result, Ok, Err}
use Rattle.std.specs.Option.{option_map}
use Rattle.std.specs.Process.{command_args, command_dir, command_var, clears_env}
use Rattle.std.specs.declared.process.child.Child.{Child}
use Rattle.std.specs.declared.process.command.Command.{Command}
use Rattle.kr_edge.specs.declared.system.SystemCall.{SystemCall}

-- one more call was made
abbrev pub with_note : SystemCall → Option (List SystemCall) → Option (List SystemCall)
with_note call calls = option_map (λ made. made ++ call ∷ []) calls

-- these were made, one behind another
abbrev pub noted : List SystemCall → Option (List SystemCall) → Option (List SystemCall)
noted [] calls = calls
noted (call ∷ more) calls = noted more (with_note call calls)

-- a program by its name alone: it has no arguments, and the variables and the folder of this
-- process
pub record IsBare {A : Type 0} (command : Command A) : Type 0 where
  pub arguments : command_args command ≡ []
  pub inherits : clears_env command ≡ false
  pub variables : (name : List ℕ) → command_var command name ≡ None
  pub folder : command_dir command ≡ None

-- this process has an end of a pipe to the program's input, and one of its output's
abbrev pub has_ends : {P I O E : Type 0} → Child P I O E → Bool
has_ends child = is_some child.stdin && is_some child.stdout

-- the program was started, and its input and output are pipes
abbrev pub has_pipes : {P I O E N : Type 0} → Result (Child P I O E) N → Bool
has_pipes (Ok child) = has_ends child
has_pipes (Err why) = false
