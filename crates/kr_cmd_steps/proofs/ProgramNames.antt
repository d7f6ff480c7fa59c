-- The names of one program more.
use Rattle.std.proofs.Common.{◌≡◌, ℕ, ◌+◌, ◌<◌, List, [], ◌∷◌, ◌++◌, length, take, get_or, sym, ◌∙◌, ap}
use Rattle.std.proofs.lemmas.List.{map-append, take_more}
use Rattle.kr_cmd_steps.specs.declared.programs.Program.{Program}
use Rattle.kr_cmd_steps.specs.inner.ProgramNames.{names_in}

pub name_more : (programs : List Program) (i : ℕ) (program : Program) → i < length programs
    → program ≡ get_or programs i program
    → names_in (take i programs) ++ program.plugin ∷ [] ≡ names_in (take (i + 1) programs)
name_more programs i program below is =
    sym (map-append (λ (p : Program). p.plugin) (take i programs) (program ∷ []))
    ∙ ap (λ p. names_in (take i programs ++ p ∷ [])) is
    ∙ ap names_in (sym (take_more programs i program below))
