-- What the reader's calls answer on the way.
use Rattle.std.specs.Prelude.{◌≡◌, ℕ, ◌<◌, Bool, true, false, List, ◌++◌, length, Option, None, Some, Result, Ok, Err}
use denote.Ref.{Bor}
use Rattle.kr_base.specs.Limits.{annotations_limit}
use Rattle.kr_base.specs.Pairs.{Pairs, with_pair}
use Rattle.kr_envelope.specs.declared.item.WireItem.{WireItem}
use Rattle.kr_envelope.specs.declared.item.WireItem.TheVariants as lent
use Rattle.kr_envelope.specs.declared.item.ItemNo.{ItemNo}
use Rattle.kr_envelope.specs.declared.item.ItemNo.TheVariants as no
use Rattle.kr_envelope.specs.declared.partial.PartialObject.{PartialObject}
use Rattle.kr_envelope.specs.Wire.{BeginsSpelled, Spells, WireField, IsField}
use Rattle.kr_envelope.specs.Messages as message
use Rattle.kr_envelope.specs.Messages.{MeansItem, IsItem, IsText, IsMessage, Raw, raw_of, last_bytes}

-- what a lent item holds
abbrev pub item_of : WireItem → message.WireItem
item_of (lent.Encrypted content) = message.encrypted content.now
item_of (lent.KeyId text) = message.key_id text.now
item_of (lent.Source content) = message.source content.now
item_of (lent.Annotation key value) = message.annotation key.now value.now
item_of (lent.Kind n) = message.kind n
item_of lent.Other = message.other

-- what a field says, or why it says nothing
abbrev pub Says : WireField → Result WireItem ItemNo → Type 0
Says field (Ok item) = MeansItem field (item_of item) × IsText (item_of item)
Says field (Err no.Wire) = (item : message.WireItem) → MeansItem field item → ⊥
Says field (Err no.NotUtf8) = (item : message.WireItem) × MeansItem field item × (IsText item → ⊥)

-- the item at the front and the rest, or why there is none
abbrev pub TakesItem : List ℕ → Result (WireItem × Bor (List ℕ)) ItemNo → Type 0
TakesItem text (Ok taken) =
    BeginsSpelled IsItem text (item_of taken.0) taken.1.now × IsText (item_of taken.0)
TakesItem text (Err no.Wire) =
    (item : message.WireItem) (tail : List ℕ) → BeginsSpelled IsItem text item tail → ⊥
TakesItem text (Err no.NotUtf8) =
    (item : message.WireItem) × (tail : List ℕ) × BeginsSpelled IsItem text item tail
    × (IsText item → ⊥)

-- a later value, where there is one
abbrev pub later : {T : Type 0} → T → Option T → T
later before None = before
later before (Some x) = x

-- the object with one more annotation
abbrev pub with_annotation : Raw → List ℕ → List ℕ → Raw
with_annotation raw key value = record raw { annotations = with_pair raw.annotations key value }

-- the object with one more item
abbrev pub with_item : Raw → message.WireItem → Raw
with_item raw (message.encrypted content) = record raw { encrypted = content }
with_item raw (message.key_id content) = record raw { key_id = content }
with_item raw (message.source content) = record raw { source = content }
with_item raw (message.annotation key value) = with_annotation raw key value
with_item raw (message.kind n) = record raw { kind = n }
with_item raw message.other = raw

-- the annotations are kept until there are too many, which they stay
abbrev pub Keeps : Bool → Pairs → Pairs → Type 0
Keeps false kept pairs = kept ≡ pairs
Keeps true kept pairs = annotations_limit < length pairs

-- what was merged is the object so far
pub record Sees (partial : PartialObject) (raw : Raw) : Type 0 where
  pub encrypted : partial.encrypted.now ≡ raw.encrypted
  pub key_id : partial.key_id.now ≡ raw.key_id
  pub source : partial.source.now ≡ raw.source
  pub kind : partial.kind ≡ raw.kind
  pub annotations : Keeps partial.crowded partial.annotations raw.annotations

-- the fields of an entry so far
pub record SeesEntry (text rest key value : List ℕ) : Type 0 where
  pub front : List ℕ
  pub fields : List WireField
  pub parts : text ≡ front ++ rest
  pub spelled : Spells IsField front fields
  pub key_is : key ≡ last_bytes 1 fields
  pub value_is : value ≡ last_bytes 2 fields

-- the object of the items so far
pub record Walks (text rest : List ℕ) (partial : PartialObject) : Type 0 where
  pub front : List ℕ
  pub items : List message.WireItem
  pub parts : text ≡ front ++ rest
  pub message : IsMessage front items
  pub sees : Sees partial (raw_of items)
