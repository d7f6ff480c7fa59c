-- The random bytes of a load: streams of ChaCha with 8 rounds, each told to its end.
use Rattle.std.specs.Prelude.{ℕ, ◌+◌, ◌-◌, ◌*◌, ◌/◌, ◌%◌, ◌^◌, nat_lt, List, ◌++◌, length, map, replicate, slice_index, Option, Some, if◌then◌else◌}
use Rattle.std.specs.Int.{to_be_bytes, to_le_bytes, w32, w64}
use Rattle.std.specs.List.{range_with_len}
use Rattle.rand_chacha.specs.ChaCha.{key_of as words_of, word_at}

-- the key of a stream: the seed and the stream's number, each in 8 bytes, high byte first, and 16
-- zero bytes
abbrev pub key_bytes : (seed number : ℕ) → List ℕ
key_bytes seed number = (to_be_bytes w64 seed ++ to_be_bytes w64 number) ++ replicate 16 0

-- the same as ChaCha's eight words
abbrev pub stream_key : (seed number : ℕ) → List ℕ
stream_key seed number = words_of (key_bytes seed number)

-- the byte at a place under a key: its words one behind another, by four double rounds a block and
-- the nonce 0, each low byte first
abbrev pub byte_at : (key : List ℕ) → (place : ℕ) → ℕ
byte_at key place = slice_index (to_le_bytes w32 (word_at 4 key 0 (place / 4))) (place % 4)

-- so many bytes from a place on
unfoldable pub bytes_at : (key : List ℕ) → (place count : ℕ) → List ℕ
bytes_at key place count = map (byte_at key) (range_with_len place count)

-- what is left behind a place, up to where the words would come again
abbrev pub rest_at : (key : List ℕ) → (place : ℕ) → List ℕ
rest_at key place = bytes_at key place (2 ^ 70 - place)

-- the stream of a seed with this number
abbrev pub stream : (seed number : ℕ) → List ℕ
stream seed number = rest_at (stream_key seed number) 0

-- the piece of 32 bytes of stream 0 with this number, from 0
abbrev pub piece : (seed number : ℕ) → List ℕ
piece seed number = bytes_at (stream_key seed 0) (32 * number) 32

-- ---- random sources

-- what is left of a stream, and how many draws failed
pub record StreamState : Type 0 where
  pub left : List ℕ
  pub faults : ℕ

abbrev pub left_in : StreamState → Option (List ℕ)
left_in source = Some source.left

-- none failed as long as more is left than any buffer holds
abbrev pub link_faults : StreamState → ℕ
link_faults source = if nat_lt (length source.left) (2 ^ 64) then source.faults else 0

-- the random source of a worker, before it draws
abbrev pub worker_dice : (seed worker : ℕ) → StreamState
worker_dice seed worker = record { left = stream seed (1 + worker); faults = 0 }
