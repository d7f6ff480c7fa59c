-- What is around a command with another part, and with what is out back in its place.
use Rattle.std.specs.Prelude.{ℕ, List, [], Option, Some, ◌∷◌}
use Rattle.std.specs.Option.{option_map}
use Rattle.kr_kms.specs.Outside.{Outside, Objects, same_seat, same_name, same_link}
use Rattle.kr_kms.specs.Calls.{Link}
use Rattle.kr_kms.specs.declared.plugin.Status.{Status}
use Rattle.kr_cmd_steps.specs.Environment.{Environment, with_lent}

-- the name of a file, and tapes by their names
abbrev pub Name : Type 0
Name = List ℕ

abbrev pub Tapes : Type 0
Tapes = Objects Name (Option (Option (List ℕ)))

abbrev pub with_tapes : Tapes → Outside → Outside
with_tapes tapes world = record world { tapes = tapes }

abbrev pub with_told_input : Option (List ℕ) → ℕ → Environment → Environment
with_told_input input faults a = record a { input = input; faults = faults }

abbrev pub with_lent_dice : ℕ → Option (List ℕ) → ℕ → Environment → Environment
with_lent_dice seat left faults a = record a {
  world = record a.world {
    dice = with_lent same_seat seat left faults a.world.dice;
  };
}

abbrev pub with_lent_tape : List ℕ → Option (List ℕ) → ℕ → Environment → Environment
with_lent_tape name told faults a = record a {
  world = record a.world {
    tapes = with_lent same_name name (option_map Some told) faults a.world.tapes;
  };
}

-- some links of the seat
abbrev pub lent_links : {L : Type 0} → (L → Link) → ℕ → List L
    → Objects (ℕ × List ℕ) (Option Status) → Objects (ℕ × List ℕ) (Option Status)
lent_links link seat [] objects = objects
lent_links link seat (first ∷ more) objects =
    with_lent same_link (seat, (link first).name) (link first).status (link first).count
    (lent_links link seat more objects)

abbrev pub with_lent_links : {L : Type 0} → (L → Link) → ℕ → List L → Environment → Environment
with_lent_links link seat links a = record a {
  world = record a.world {
    links = lent_links link seat links a.world.links;
  };
}
