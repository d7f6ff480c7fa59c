-- The first path that is lost, from the first paths of the pairs.
use Rattle.std.specs.Prelude.{ℕ, if◌then◌else◌, List, [], ◌∷◌, Option, None}
use Rattle.std.specs.Option.{option_map}
use Rattle.std.specs.declared.cmp.Ordering.{Ordering}
use Rattle.kr_config.specs.declared.who.Who.{Who}
use Rattle.kr_config.specs.Kept.{ConfigEntry}
use Rattle.kr_config.specs.Lists.{list_of}
use Rattle.kr_config.specs.Nexts.{name_cmp, earlier}
use Rattle.kr_judge.specs.declared.need.Need.{Need}
use Rattle.kr_judge.specs.declared.pair.Pair.{Pair}
use Rattle.kr_judge.specs.Providers.{has}
use Rattle.kr_judge.specs.Verdicts.{first}

abbrev pub path_cmp : List ℕ × Who → List ℕ × Who → Ordering
path_cmp a b = name_cmp a.0 b.0

abbrev pub at_path : Who → List ℕ → List ℕ × Who
at_path who path = (path, who)

-- a need without its resource
abbrev pub stored_by : Need → List ℕ × Who
stored_by need = (need.path, need.who)

-- the first path of a pair that the new settings don't read
abbrev pub lost_path : List ConfigEntry → Pair → Option (List ℕ × Who)
lost_path rows pair = if has (list_of rows pair.resource) pair.who then None
    else option_map (at_path pair.who) (first pair.paths)

abbrev pub earliest : List ConfigEntry → Option (List ℕ × Who) → List Pair → Option (List ℕ × Who)
earliest rows best [] = best
earliest rows best (pair ∷ pairs) =
    earliest rows (earlier path_cmp best (lost_path rows pair)) pairs
