-- The limits of an encrypted object, and what its bytes are read as.
use Rattle.std.specs.Prelude.{◌≡◌, ◌≢◌, ◌⊎◌, ℕ, nat_le, if◌then◌else◌, List, [], ◌++◌, length, ⊤, Option, None, Some, Result, Ok, Err}
use Rattle.kr_base.specs.Limits.{is_short, are_few}
use Rattle.kr_envelope.specs.declared.object.SourceKind.{SourceKind}
use Rattle.kr_envelope.specs.declared.object.SourceKind.TheVariants.{Key, Seed}
use Rattle.kr_envelope.specs.declared.object.ObjectNo.{ObjectNo}
use Rattle.kr_envelope.specs.declared.object.ObjectNo.TheVariants.{Wire, KeyId, Source, Annotations, SourceType, NoData, NotUtf8, NoMemory}
use Rattle.kr_envelope.specs.declared.object.EncryptedObject.{EncryptedObject}
use Rattle.kr_envelope.specs.Wire.{BeginsSpelled}
use Rattle.kr_envelope.specs.Messages.{WireItem, IsItem, IsText, IsMessage, Raw, raw_of}

-- the first limit that is passed: data, key id, source, annotations, source type
abbrev pub breach_of : Raw → Option ObjectNo
breach_of raw = if nat_le 1 (length raw.encrypted)
    then (if is_short raw.key_id
    then (if is_short raw.source
    then (if are_few raw.annotations
    then (if nat_le raw.kind 1 then None else Some SourceType)
    else Some Annotations)
    else Some Source)
    else Some KeyId)
    else Some NoData

abbrev pub number_of : SourceKind → ℕ
number_of Key = 0
number_of Seed = 1

abbrev pub raw_in : EncryptedObject → Raw
raw_in object = record {
  encrypted = object.encrypted;
  key_id = object.key_id;
  source = object.source;
  annotations = object.annotations;
  kind = number_of object.kind;
}

abbrev pub Judges : Raw → Result EncryptedObject ObjectNo → Type 0
Judges raw (Ok object) = (breach_of raw ≡ None) × (raw ≡ raw_in object)
Judges raw (Err (Wire at)) = ⊥
Judges raw (Err KeyId) = breach_of raw ≡ Some KeyId
Judges raw (Err Source) = breach_of raw ≡ Some Source
Judges raw (Err Annotations) = breach_of raw ≡ Some Annotations
Judges raw (Err SourceType) = breach_of raw ≡ Some SourceType
Judges raw (Err NoData) = breach_of raw ≡ Some NoData
Judges raw (Err (NotUtf8 at)) = ⊥
Judges raw (Err NoMemory) = ⊤

-- no field that says something begins there
abbrev pub IsNoItem : List ℕ → Type 0
IsNoItem rest = (rest ≢ []) × ((item : WireItem) (tail : List ℕ)
    → BeginsSpelled IsItem rest item tail → ⊥)

-- the field there isn't text where it is to be
abbrev pub IsNoText : List ℕ → Type 0
IsNoText rest = (item : WireItem) × (tail : List ℕ) × BeginsSpelled IsItem rest item tail
    × (IsText item → ⊥)

-- before this place the bytes are a message, and what stands there breaches
pub record BreaksAt (Breach : List ℕ → Type 0) (text : List ℕ) (at : ℕ) : Type 0 where
  pub front : List ℕ
  pub rest : List ℕ
  pub items : List WireItem
  pub parts : text ≡ front ++ rest
  pub message : IsMessage front items
  pub place : at ≡ length front
  pub breach : Breach rest

-- the bytes are a message, whose object is judged so
abbrev pub ReadsJudged : List ℕ → Result EncryptedObject ObjectNo → Type 0
ReadsJudged text answer = (items : List WireItem) × IsMessage text items
    × Judges (raw_of items) answer

-- what bytes are read as: the object of their items within its limits, or the first breach; want of
-- memory may take its place
abbrev pub ReadsMessage : List ℕ → Result EncryptedObject ObjectNo → Type 0
ReadsMessage text (Ok object) = ReadsJudged text (Ok object)
ReadsMessage text (Err (Wire at)) = BreaksAt IsNoItem text at
ReadsMessage text (Err KeyId) = ReadsJudged text (Err KeyId)
ReadsMessage text (Err Source) = ReadsJudged text (Err Source)
ReadsMessage text (Err Annotations) = ReadsJudged text (Err Annotations)
ReadsMessage text (Err SourceType) = ReadsJudged text (Err SourceType)
ReadsMessage text (Err NoData) = ReadsJudged text (Err NoData)
ReadsMessage text (Err (NotUtf8 at)) = BreaksAt IsNoText text at
ReadsMessage text (Err NoMemory) = ⊤

-- two answers are one, unless one of them is want of memory
abbrev pub AreOne : Result EncryptedObject ObjectNo → Result EncryptedObject ObjectNo → Type 0
AreOne a b = (a ≡ Err NoMemory) ⊎ (b ≡ Err NoMemory) ⊎ (a ≡ b)

-- bytes are read as one thing
abbrev pub ReadsOneThing : Type 0
ReadsOneThing =
    (text : List ℕ) (a b : Result EncryptedObject ObjectNo)
    → ReadsMessage text a → ReadsMessage text b → AreOne a b

-- and there is always an object, or a first breach that isn't want of memory
abbrev pub HaveReadings : Type 0
HaveReadings =
    (text : List ℕ)
    → (answer : Result EncryptedObject ObjectNo) × ReadsMessage text answer
    × (answer ≢ Err NoMemory)
