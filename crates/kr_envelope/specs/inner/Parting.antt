-- What parting a value at a prefix answers.
use Rattle.std.specs.Prelude.{◌≡◌, ℕ, List, ◌++◌, Option, None, Some}
use denote.Ref.{Bor}
use Rattle.kr_base.specs.Rules.{IsName}
use Rattle.kr_envelope.specs.declared.prefix.Kind.{Kind}
use Rattle.kr_envelope.specs.Prefixes.{prefix, Begins}

-- the name and the body of a value with a prefix of this kind
abbrev pub IsParted : Kind → List ℕ → Option (Bor (List ℕ) × Bor (List ℕ)) → Type 0
IsParted kind bytes None = (name : List ℕ) → IsName name → Begins (prefix kind name) bytes → ⊥
IsParted kind bytes (Some parts) =
    IsName parts.0.now × (bytes ≡ prefix kind parts.0.now ++ parts.1.now)
