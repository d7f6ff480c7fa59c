-- What a scan of a board's needs and of its generations gives. A board keeps the same.
use Rattle.std.specs.Prelude.{ℕ, ◌&&◌, Bool, if◌then◌else◌, List, Option, None, Some, map}
use Rattle.std.specs.List.{filter}
use Rattle.std.specs.Str.{bytes_eq}
use Rattle.std.specs.BTreeSet.{insert_key}
use Rattle.kr_config.specs.declared.who.Who.{Who}
use Rattle.kr_config.specs.Nexts.{name_cmp}
use Rattle.kr_judge.specs.declared.need.Need.{Need}
use Rattle.kr_judge.specs.Boards.{GenerationState, is_live}
use Rattle.kr_judge.specs.Providers.{same_who}
use Rattle.kr_judge.specs.Verdicts.{with_numbers}

-- the need is of the resource and the provider
abbrev pub is_for : List ℕ → Who → Need → Bool
is_for resource who need = bytes_eq need.resource resource && same_who need.who who

-- the paths of such needs, in the needs' order
abbrev pub paths_for : List ℕ → Who → List Need → List (List ℕ)
paths_for resource who needs = map (λ need. need.path) (filter (is_for resource who) needs)

-- the same, and at its place among them the path of a proposal of such a need
abbrev pub paths_with : Option Need → List ℕ → Who → List Need → List (List ℕ)
paths_with None resource who needs = paths_for resource who needs
paths_with (Some proposed) resource who needs = if is_for resource who proposed
    then insert_key name_cmp (paths_for resource who needs) proposed.path
    else paths_for resource who needs

-- the live generations with their numbers
abbrev pub live_from : ℕ → List GenerationState → List (ℕ × GenerationState)
live_from number generations = filter (λ n. is_live n.1) (with_numbers number generations)

-- the numbers of the live generations, in their order
abbrev pub live_numbers : List GenerationState → List ℕ
live_numbers generations = map (λ n. n.0) (live_from 0 generations)
