-- What new settings of a replica and the others must read.
use Rattle.std.specs.Prelude.{◌≡◌, ℕ, List, Contains, Some}
use Rattle.kr_config.specs.declared.class.Class.{Class}
use Rattle.kr_config.specs.declared.who.Who.{Who}
use Rattle.kr_config.specs.Kept.{ConfigEntry}
use Rattle.kr_config.specs.Lists.{list_of, class_list}
use Rattle.kr_judge.specs.declared.need.Need.{Need}
use Rattle.kr_judge.specs.Boards.{GenerationState}
use Rattle.kr_judge.specs.Verdicts.{first, others, judged_classes}

-- the provider by which the one list writes, its first, is in the other
abbrev pub ReadsWriter : (writers readers : List Who) → Type 0
ReadsWriter writers readers = (who : Who) → first writers ≡ Some who → Contains readers who

-- the new settings read all that is stored; at each class they read what each other live generation
-- writes, and that reads what they write
pub record FitsBoard (needs : List Need) (generations : List GenerationState) (replica : ℕ)
    (rows : List ConfigEntry) : Type 0 where
  pub stored : (need : Need) → Contains needs need → Contains (list_of rows need.resource) need.who
  pub writers : (other : ℕ × GenerationState) (class : Class)
      → Contains (others replica generations) other
      → Contains (judged_classes rows generations) class
      → ReadsWriter (class_list other.1.rows class) (class_list rows class)
  pub readers : (other : ℕ × GenerationState) (class : Class)
      → Contains (others replica generations) other
      → Contains (judged_classes rows generations) class
      → ReadsWriter (class_list rows class) (class_list other.1.rows class)
