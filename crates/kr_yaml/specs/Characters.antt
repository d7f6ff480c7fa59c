-- The characters that a line may hold, comments included. YAML's other characters, and those at
-- which some readers of YAML end a line, are left out: a carriage return, U+0085, U+2028, U+2029
-- and the byte order mark.
use Rattle.std.specs.Prelude.{ℕ, ◌==◌, ◌&&◌, ◌||◌, not, nat_le, Bool}

abbrev pub is_within : ℕ → ℕ → ℕ → Bool
is_within least most c = nat_le least c && nat_le c most

abbrev pub is_line_end : ℕ → Bool
is_line_end c = c == 0x2028 || c == 0x2029 || c == 0xFEFF

-- a tab, ASCII's printed characters, and all from U+00A0 on but surrogates, U+FFFE, U+FFFF and
-- those above
abbrev pub is_allowed : ℕ → Bool
is_allowed c = c == 0x09 || is_within 0x20 0x7E c
    || (is_within 0xA0 0xD7FF c || is_within 0xE000 0xFFFD c || nat_le 0x10000 c)
    && not (is_line_end c)
