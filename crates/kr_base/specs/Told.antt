-- What an object of the outside tells of its content, if it tells it.
use Rattle.std.specs.Prelude.{◌≡◌, ⊤, Option, None, Some}

-- what is told is so; an object that doesn't tell agrees with everything
abbrev pub Agrees : {T : Type 0} → Option T → T → Type 0
Agrees None x = ⊤
Agrees (Some y) x = y ≡ x
