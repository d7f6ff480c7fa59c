-- Which provider of a list reads a stored value (Kubernetes, 'Encrypting Confidential Data at
-- Rest'): the one whose prefix the value begins with, and identity a value that begins with none.
use Rattle.std.specs.Prelude.{ℕ, Bool, not, List, [], ◌∷◌, length, drop, find, position, Option}
use Rattle.kr_envelope.specs.declared.prefix.Kind.TheVariants as kind
use Rattle.kr_envelope.specs.Prefixes.{prefix, begins, is_marked}
use Rattle.kr_config.specs.declared.who.Who.{Who}
use Rattle.kr_config.specs.declared.who.Who.TheVariants.{Identity, Aescbc, Aesgcm, Kms}

-- what a provider's values begin with
abbrev pub prefix_by : Who → List ℕ
prefix_by Identity = []
prefix_by (Aescbc name secret) = prefix kind.Aescbc name
prefix_by (Aesgcm name secret) = prefix kind.Aesgcm name
prefix_by (Kms name) = prefix kind.Kms name

abbrev pub is_reader : List ℕ → Who → Bool
is_reader bytes Identity = not (is_marked bytes)
is_reader bytes (Aescbc name secret) = begins (prefix kind.Aescbc name) bytes
is_reader bytes (Aesgcm name secret) = begins (prefix kind.Aesgcm name) bytes
is_reader bytes (Kms name) = begins (prefix kind.Kms name) bytes

-- the reader of a value, and its place
abbrev pub reader_in : List Who → List ℕ → Option Who
reader_in list bytes = find (is_reader bytes) list

abbrev pub reader_place : List Who → List ℕ → Option ℕ
reader_place list bytes = position (is_reader bytes) list

-- the writer of a list, which is never empty
abbrev pub writer_of : List Who → Who
writer_of [] = Identity
writer_of (who ∷ rest) = who

-- what stands behind the prefix
abbrev pub body_by : Who → List ℕ → List ℕ
body_by who bytes = drop (length (prefix_by who)) bytes
