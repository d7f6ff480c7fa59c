-- The objects of the live rows at an opening, as a watch begins with them: the first replica's
-- configuration reads each, with the first worker's links.
use Rattle.std.specs.Prelude.{ℕ, Bool, true, false, List, [], ◌∷◌, ◌++◌, Option, None, Some, Result, Ok, Err}
use Rattle.kr_config.specs.Lists.{list_of}
use Rattle.kr_kms.specs.Cache.{CacheState}
use Rattle.kr_provider.specs.Publication.{Publication}
use Rattle.kr_provider.specs.declared.refusal.Opened.{Opened}
use Rattle.kr_provider.specs.declared.refusal.ValueNo.{ValueNo}
use Rattle.kr_store.specs.Stores.{IsListing}
use Rattle.kr_store.specs.declared.rows.LogRow.{LogRow}
use Rattle.kr_store.specs.declared.rows.Row.{Row}
use Rattle.kr_watch.specs.declared.item.Item.{Item}
use Rattle.kr_cmd_steps.specs.ValueSteps.{none_kept, value_read}
use Rattle.kr_cmd_steps.specs.Phases.{with_memory}
use Rattle.kr_cmd_steps.specs.Steps.{Steps, and_then, find, give}

abbrev pub LiveItems : Type 0
LiveItems = List Item

-- what was read of a row; no data where its value is refused
abbrev pub plain_read : Result Opened ValueNo → Option (List ℕ)
plain_read (Ok opened) = Some opened.plain
plain_read (Err why) = None

abbrev pub item_with : Row → Option (List ℕ) → Item
item_with row plain = record {
  path = row.path;
  resource = row.resource;
  revision = row.revision;
  plain = plain;
}

-- rows one behind another, by what a replica published and what is kept of the rows before
abbrev pub reading_rows : Publication → List Row → List Item → CacheState → Steps (List Item)
reading_rows p [] items kept = with_memory (give items)
reading_rows p (row ∷ rows) items kept =
    and_then (value_read p.seeds (list_of p.rows row.resource) row.path row.stored kept)
    (λ read. with_memory
    (reading_rows p rows (items ++ item_with row (plain_read read.0) ∷ []) read.1))

-- the live rows by their paths, by what the first replica published
abbrev pub reading_live : List LogRow → List (Option Publication) → Steps (List Item)
reading_live rows [] = give []
reading_live rows (None ∷ others) = give []
reading_live rows (Some p ∷ others) =
    find (List Row) (IsListing rows) (λ listing. reading_rows p listing [] none_kept)

-- where no one watches none is read
abbrev pub watching : (watched : Bool) → List LogRow → List (Option Publication)
    → Steps (List Item)
watching false rows replicas = give []
watching true rows replicas = reading_live rows replicas
