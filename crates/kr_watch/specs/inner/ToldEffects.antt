-- What a line tells of a row that was written.
use Rattle.std.specs.Prelude.{ℕ, List, Option, None, Some}
use Rattle.std.specs.Option.{option_map}
use Rattle.kr_rollout.specs.declared.line.Effect.{Effect}
use Rattle.kr_rollout.specs.declared.line.Effect.TheVariants as wrote
use Rattle.kr_watch.specs.declared.change.What.{What}
use Rattle.kr_watch.specs.declared.change.What.TheVariants as kind
use Rattle.kr_watch.specs.declared.item.Item.{Item}
use Rattle.kr_watch.specs.Noting.{at_revision}

-- the item that a written row leaves at its path, which had this one
abbrev pub item_told : Effect → (path : List ℕ) → (revision : ℕ) → Option Item → Option Item
item_told (wrote.Put resource bytes) path revision item = Some (record {
  path = path;
  resource = resource.now;
  revision = revision;
  plain = Some bytes.now;
})
item_told wrote.Delete path revision item = None
item_told wrote.Replace path revision item = option_map (at_revision revision) item

abbrev pub kind_told : Effect → What
kind_told (wrote.Put resource bytes) = kind.Put
kind_told wrote.Delete = kind.Delete
kind_told wrote.Replace = kind.Replace
