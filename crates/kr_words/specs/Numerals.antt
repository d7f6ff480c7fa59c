-- Numbers in decimal digits.
use Rattle.std.specs.Prelude.{◌≡◌, ℕ, ◌≤◌, ◌≢◌, ◌⊎◌, List, length, slice_index, codes, All}
use Rattle.std.specs.Char.{IsAsciiDigit}
use Rattle.std.specs.Str.Parse.{digits_value}

-- one digit or more, the first of them no 0 but in `0` itself; of any length
abbrev pub IsNumeral : List ℕ → Type 0
IsNumeral text =
    (1 ≤ length text) × All IsAsciiDigit text
    × ((slice_index text 0 ≢ 0x30) ⊎ (text ≡ codes "0"))

-- the text is how the number is written in decimal digits
abbrev pub IsDecimal : List ℕ → ℕ → Type 0
IsDecimal text number = IsNumeral text × (digits_value 10 text ≡ number)
