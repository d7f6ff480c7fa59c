-- The prefixes of stored values, after Kubernetes, 'Encrypting Confidential Data at Rest': the kind
-- of provider that wrote a value, and its name.
use Rattle.std.specs.Prelude.{◌≡◌, ℕ, Bool, List, [], ◌∷◌, ◌++◌, length, take, codes}
use Rattle.std.specs.Str.{bytes_eq}
use Rattle.kr_base.specs.Rules.{IsName}
use Rattle.kr_envelope.specs.declared.prefix.Kind.{Kind}
use Rattle.kr_envelope.specs.declared.prefix.Kind.TheVariants.{Aescbc, Aesgcm, Kms}
use Rattle.kr_envelope.specs.declared.prefix.Tagged.{Tagged}
use Rattle.kr_envelope.specs.declared.prefix.Tagged.TheVariants.{Plain, Known, Strange}

-- what every prefix begins with
abbrev pub mark : List ℕ
mark = codes "k8s:enc:"

-- and a kind's prefixes with this
abbrev pub head : Kind → List ℕ
head Aescbc = codes "k8s:enc:aescbc:v1:"
head Aesgcm = codes "k8s:enc:aesgcm:v1:"
head Kms = codes "k8s:enc:kms:v2:"

-- behind it stand the name and a colon
unfoldable pub prefix : Kind → List ℕ → List ℕ
prefix kind name = head kind ++ (name ++ 0x3A ∷ [])

abbrev pub Begins : List ℕ → List ℕ → Type 0
Begins start bytes = (rest : List ℕ) × (bytes ≡ start ++ rest)

-- plain where the bytes don't begin with the mark, known where they are a prefix and a body, else
-- strange
abbrev pub IsSplit : List ℕ → Tagged → Type 0
IsSplit bytes (Plain content) = (Begins mark bytes → ⊥) × (content.now ≡ bytes)
IsSplit bytes (Known kind name body) = IsName name.now × (bytes ≡ prefix kind name.now ++ body.now)
IsSplit bytes Strange =
    Begins mark bytes
    × ((kind : Kind) (name : List ℕ) → IsName name → Begins (prefix kind name) bytes → ⊥)

-- no other prefix than the one that was found is one that the bytes begin with
abbrev pub IsOnlyOne : List ℕ → Tagged → Type 0
IsOnlyOne bytes (Plain content) = Unit {0}
IsOnlyOne bytes (Known kind name body) =
    (other_kind : Kind) (other : List ℕ)
    → IsName other → Begins (prefix other_kind other) bytes
    → (kind ≡ other_kind) × (name.now ≡ other)
IsOnlyOne bytes Strange = Unit {0}

-- the same as tests that compute, for definitions by cases

abbrev pub begins : List ℕ → List ℕ → Bool
begins start bytes = bytes_eq (take (length start) bytes) start

abbrev pub is_marked : List ℕ → Bool
is_marked bytes = begins mark bytes
