-- When live settings fit with what is stored and with each other.
use Rattle.std.specs.Prelude.{List, Contains}
use Rattle.kr_config.specs.declared.class.Class.{Class}
use Rattle.kr_config.specs.Kept.{ConfigEntry}
use Rattle.kr_config.specs.Lists.{list_of, class_list}
use Rattle.kr_judge.specs.declared.need.Need.{Need}
use Rattle.kr_judge.specs.Fits.{ReadsWriter}

-- settings that are live, and what is stored: at each class of resources the provider by which the
-- one settings write is in the others' list, and each stored value's provider is in the list of its
-- resource
pub record AreFit (Live : List ConfigEntry → Type 0) (needs : List Need) : Type 0 where
  pub writers : (rows other : List ConfigEntry) (class : Class) → Live rows → Live other
      → ReadsWriter (class_list other class) (class_list rows class)
  pub stored : (rows : List ConfigEntry) (need : Need) → Live rows → Contains needs need
      → Contains (list_of rows need.resource) need.who
