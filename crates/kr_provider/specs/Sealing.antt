-- What a provider makes of an object's data (Kubernetes, 'Encrypting Confidential Data at Rest').
use Rattle.std.specs.Prelude.{◌≡◌, ◌≢◌, ℕ, ◌+◌, ◌-◌, ◌%◌, ◌≤◌, ◌<◌, true, List, [], ◌++◌, length, All, nat_lt, if◌then◌else◌, Option, Some, None, Result, Ok, Err}
use Rattle.std.specs.Option.{option_map, option_map_or}
use Rattle.std.specs.Io.KnownBytes.{Consumes, Keeps}
use Rattle.kr_base.specs.Faults.{Rose}
use Rattle.kr_base.specs.Limits.{data_limit}
use Rattle.kr_base.specs.Numbering.{next_number}
use Rattle.kr_modes.specs.Cbc.{cbc}
use Rattle.kr_modes.specs.Padding.{pad}
use Rattle.kr_envelope.specs.declared.prefix.Kind.TheVariants as kind
use Rattle.kr_envelope.specs.Prefixes.{prefix, is_marked}
use Rattle.kr_envelope.specs.Canonical.{canonical, content_size, frame_of}
use Rattle.kr_config.specs.declared.who.Who.{Who}
use Rattle.kr_config.specs.declared.who.Who.TheVariants.{Identity, Aescbc, Aesgcm, Kms}
use Rattle.kr_kms.specs.declared.seeds.SeedRow.{SeedRow}
use Rattle.kr_provider.specs.Ciphers.{cipher_under}
use Rattle.kr_provider.specs.Envelopes.{gcm_body, sealed_object}
use Rattle.kr_provider.specs.Publication.{Publication, seed_of, writer_at}
use Rattle.kr_provider.specs.declared.refusal.SealNo.{SealNo}
use Rattle.kr_provider.specs.declared.refusal.SealNo.TheVariants.{LooksEncrypted, TooLarge, DiceFailed, NoMemory}

-- how many random bytes a value takes: an IV; a nonce; the info of a key and a nonce
abbrev pub draw_size : Who → ℕ
draw_size Identity = 0
draw_size (Aescbc name secret) = 16
draw_size (Aesgcm name secret) = 12
draw_size (Kms name) = 44

-- so many bytes
abbrev pub IsBytes : ℕ → List ℕ → Type 0
IsBytes size bytes = (length bytes ≡ size) × All (λ byte. byte < 256) bytes

-- the value of the data; identity writes them as they stand, unless they begin as a prefix does
abbrev pub value_by : List SeedRow → Who → (path plain drawn : List ℕ) → Option (List ℕ)
value_by seeds Identity path plain drawn = if is_marked plain then None else Some plain
value_by seeds (Aescbc name secret) path plain drawn =
    Some (prefix kind.Aescbc name ++ (drawn ++ cbc (cipher_under secret) drawn (pad plain)))
value_by seeds (Aesgcm name secret) path plain drawn =
    Some (prefix kind.Aesgcm name ++ gcm_body secret path plain drawn)
value_by seeds (Kms name) path plain drawn = option_map
    (λ row. prefix kind.Kms name ++ canonical (sealed_object row path plain drawn))
    (seed_of name seeds)

-- nothing above the limit of data is sealed
abbrev pub sealed_by : List SeedRow → Who → (path plain drawn : List ℕ) → Option (List ℕ)
sealed_by seeds who path plain drawn = if nat_lt data_limit
    (length plain) then None else value_by seeds who path plain drawn

-- the value by the writer of the resource's list
abbrev pub sealing_at : Publication → (resource path plain drawn : List ℕ) → Option (List ℕ)
sealing_at p resource path plain drawn = sealed_by p.seeds (writer_at p resource) path plain drawn

-- a value is a sealing of the data, which are bytes, where it is that under some random bytes
pub record IsSealing (p : Publication) (resource path plain value : List ℕ) : Type 0 where
  pub plain_is : All (λ byte. byte < 256) plain
  pub drawn : List ℕ
  pub fits : IsBytes (draw_size (writer_at p resource)) drawn
  pub is : sealing_at p resource path plain drawn ≡ Some value

-- how long a provider's value is, by how many the data are: for a plugin by its seed too
abbrev pub value_size : List SeedRow → Who → ℕ → ℕ
value_size seeds Identity size = size
value_size seeds (Aescbc name secret) size = length (prefix kind.Aescbc name)
    + (16 + (size + 16 - size % 16))
value_size seeds (Aesgcm name secret) size = length (prefix kind.Aesgcm name) + (12 + (size + 16))
value_size seeds (Kms name) size = option_map_or
    (λ row. length (prefix kind.Kms name) + (content_size (32 + (12 + (size + 16)))
    + length (canonical (frame_of (sealed_object row [] [] []))))) (seed_of name seeds) 0

-- how a call's answer stands to that: the value is under the drawn bytes, each refusal comes
-- exactly where it applies, and nothing is drawn for a refusal or for want of memory. A draw that
-- failed counts once and is told: the bytes are drawn by one call
module _ {D : Type 0} (left : D → Option (List ℕ)) (count : D → ℕ) where
  abbrev pub Seals : List SeedRow → Who → (path plain : List ℕ) → (old new : D)
      → Result (List ℕ) SealNo → Type 0
  Seals seeds who path plain old new (Ok value) = (drawn : List ℕ) × IsBytes (draw_size who) drawn
      × (sealed_by seeds who path plain drawn ≡ Some value) × Consumes (left old) (left new) drawn
      × (who ≡ Identity → new ≡ old) × (count new ≡ count old)
  Seals seeds who path plain old new (Err (TooLarge size)) = (size ≡ length plain)
      × (data_limit < length plain) × (new ≡ old)
  Seals seeds who path plain old new (Err LooksEncrypted) = (length plain ≤ data_limit)
      × (who ≡ Identity) × (is_marked plain ≡ true) × (new ≡ old)
  Seals seeds who path plain old new (Err DiceFailed) = (length plain ≤ data_limit)
      × (who ≢ Identity) × Rose (count old) (count new) × Keeps (left old) (left new)
      × (count new ≡ next_number (count old))
  Seals seeds who path plain old new (Err NoMemory) = new ≡ old
