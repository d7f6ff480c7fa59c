-- What a seat's token is between two turns.
use Rattle.std.specs.Prelude.{◌≡◌, ℕ, []}
use Rattle.atomic_table.specs.Seated.{TableId}
use Rattle.atomic_table.specs.declared.shared.Seat.{Seat}
use Rattle.kr_turn.specs.declared.view.Stage.TheVariants.{Idle}
use Rattle.kr_turn.specs.declared.view.View.{View}

-- the token of a seat that is neither waiting nor served, has no slot in hand, and has this number
-- and this many turns left
abbrev pub resting_token : {S L G : Type 0} → Seat S (View L G) → ℕ → ℕ → Seat S (View L G)
resting_token token number left = record token {
  me = (record token.me.0 { stage = Idle; number = number; left = left; ended = [] }, []);
}

-- the table of a lock: two words and one slot
abbrev pub IsSized : TableId → Type 0
IsSized table = (table.words ≡ 2) × (table.slots ≡ 1)
