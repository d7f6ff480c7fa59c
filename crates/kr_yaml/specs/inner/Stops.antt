-- Words of the reader on the bytes of a line. 32 is the space, 35 is `#`, 58 is `:`.
use Rattle.std.specs.Prelude.{ℕ, suc, ◌==◌, ◌&&◌, ◌||◌, Bool, true, false, List, [], ◌∷◌}
use Rattle.std.specs.Prelude.{reverse, length, nat_lt, Option, None, Some, if◌then◌else◌}
use Rattle.kr_yaml.specs.Bytes.{skip, over}
use Rattle.kr_yaml.specs.Written.{is_flow_sign}
use Rattle.kr_yaml.specs.declared.bytes.ScanStop.{ScanStop}
use Rattle.kr_yaml.specs.declared.bytes.ScanStop.TheVariants.{Colon, Comment, KeyEnd, FlowSign}
use Rattle.kr_yaml.specs.declared.bytes.ScanStop.TheVariants.{SingleQuote, DoubleQuote}

-- the bytes without the spaces that they end with
abbrev pub trim : List ℕ → List ℕ
trim bs = reverse (skip (reverse bs))

-- nothing or a space, as it stands behind a `-` or a `:` that counts
abbrev pub opens : List ℕ → Bool
opens [] = true
opens (b ∷ bs) = b == 32

-- nothing, or spaces and perhaps a comment behind one of them
abbrev pub closes : List ℕ → Bool
closes [] = true
closes (b ∷ bs) = b == 32 && over (skip bs)

abbrev pub is_hash : List ℕ → Bool
is_hash [] = false
is_hash (b ∷ bs) = b == 35

-- a `:` at the end or before a space
abbrev pub is_colon : List ℕ → Bool
is_colon [] = false
is_colon (b ∷ bs) = b == 58 && opens bs

-- a `#` behind a space
abbrev pub is_comment : List ℕ → Bool
is_comment [] = false
is_comment (b ∷ bs) = b == 32 && is_hash bs

-- a byte of flow values
abbrev pub is_flow : List ℕ → Bool
is_flow [] = false
is_flow (b ∷ bs) = is_flow_sign b

abbrev pub is_single : List ℕ → Bool
is_single [] = false
is_single (b ∷ bs) = b == 39

-- a `"` or a backslash
abbrev pub is_double : List ℕ → Bool
is_double [] = false
is_double (b ∷ bs) = b == 34 || b == 92

abbrev pub stops : ScanStop → List ℕ → Bool
stops Colon bs = is_colon bs
stops Comment bs = is_comment bs
stops KeyEnd bs = is_colon bs || is_comment bs
stops FlowSign bs = is_flow bs
stops SingleQuote bs = is_single bs
stops DoubleQuote bs = is_double bs

-- how many bytes stand before the first place where this stands, or before the end
abbrev pub length_before_stop : (List ℕ → Bool) → List ℕ → ℕ
length_before_stop t [] = 0
length_before_stop t (b ∷ bs) = if t (b ∷ bs) then 0 else suc (length_before_stop t bs)

-- it stands somewhere
abbrev pub has : ScanStop → List ℕ → Bool
has stop bs = nat_lt (length_before_stop (stops stop) bs) (length bs)

-- nothing stands there, or this
abbrev pub at_stop : ScanStop → List ℕ → Bool
at_stop stop [] = true
at_stop stop (b ∷ bs) = stops stop (b ∷ bs)

-- the first byte and those behind it, where it is ASCII
abbrev pub ascii_first : List ℕ → Option (ℕ × List ℕ)
ascii_first [] = None
ascii_first (b ∷ bs) = if nat_lt b 128 then Some (b, bs) else None
