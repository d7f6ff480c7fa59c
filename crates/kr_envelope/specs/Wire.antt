-- The wire format of protocol buffers, after 'Encoding' of their documentation: what bytes spell.
use Rattle.std.specs.Prelude.{◌≡◌, ℕ, ◌+◌, ◌*◌, ◌%◌, ◌^◌, ◌<◌, ◌≤◌, List, [], ◌∷◌, ◌++◌, length}

-- bytes are spelled, one after the other, as these values are, each of them once
abbrev pub Spells : {T : Type 0} → (List ℕ → T → Type 0) → List ℕ → List T → Type 0
Spells Spelling bytes [] = bytes ≡ []
Spells Spelling bytes (x ∷ xs) =
    (front : List ℕ) × (rest : List ℕ)
    × Spelling front x × Spells Spelling rest xs × (bytes ≡ front ++ rest)

-- bytes begin with a spelling of the value, and go on with the rest
abbrev pub BeginsSpelled : {T : Type 0} → (List ℕ → T → Type 0) → List ℕ → T → List ℕ → Type 0
BeginsSpelled Spelling bytes x rest = (front : List ℕ) × Spelling front x × (bytes ≡ front ++ rest)

-- groups of seven bits, each byte but the last with 128 added
abbrev pub AreGroups : List ℕ → Type 0
AreGroups [] = ⊥
AreGroups (byte ∷ []) = byte < 128
AreGroups (byte ∷ next ∷ bytes) = (128 ≤ byte) × AreGroups (next ∷ bytes)

-- the lowest group comes first
abbrev pub number : List ℕ → ℕ
number [] = 0
number (byte ∷ bytes) = byte % 128 + 128 * number bytes

-- a number below 2 ^ 64 in at most ten groups, of which the tenth is so at most 1; there may be
-- more groups than it needs
pub record IsVarint (bytes : List ℕ) (n : ℕ) : Type 0 where
  pub groups : AreGroups bytes
  pub short : length bytes ≤ 10
  pub value : n ≡ number bytes
  pub fits : n < 2 ^ 64

-- what a field holds: a number, or bytes, by one of the four wire types
pub data Payload : Type 0 where
  varint : ℕ → Payload
  fixed64 : List ℕ → Payload
  bytes : List ℕ → Payload
  fixed32 : List ℕ → Payload

abbrev pub wire_type : Payload → ℕ
wire_type (varint n) = 0
wire_type (fixed64 content) = 1
wire_type (bytes content) = 2
wire_type (fixed32 content) = 5

-- a varint; eight bytes; bytes behind a varint of how many they are; four bytes
abbrev pub IsPayload : List ℕ → Payload → Type 0
IsPayload spelling (varint n) = IsVarint spelling n
IsPayload spelling (fixed64 content) = (spelling ≡ content) × (length content ≡ 8)
IsPayload spelling (bytes content) =
    (size : List ℕ) × IsVarint size (length content) × (spelling ≡ size ++ content)
IsPayload spelling (fixed32 content) = (spelling ≡ content) × (length content ≡ 4)

-- a payload under a number
pub record WireField : Type 0 where
  pub number : ℕ
  pub payload : Payload

-- a field: a key of number and wire type, and the payload
pub record IsField (spelling : List ℕ) (field : WireField) : Type 0 where
  pub key : List ℕ
  pub content : List ℕ
  pub parts : spelling ≡ key ++ content
  pub key_is : IsVarint key (field.number * 8 + wire_type field.payload)
  pub content_is : IsPayload content field.payload
  pub numbered : (1 ≤ field.number) × (field.number ≤ 536870911)
