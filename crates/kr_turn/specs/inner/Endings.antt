-- What is known once all seats have ended in one.
use Rattle.std.specs.Prelude.{◌≡◌, ℕ, ◌<◌, ◌≤◌, ◌⊎◌, List, [], ◌++◌, length, map, Option, Some}
use mathlib.Core.Option.{some}
use lib.ListN.{get_elem?}
use Rattle.atomic_table.specs.Table.{Me}
use Rattle.kr_turn.specs.declared.seat.Place.{Place}
use Rattle.kr_turn.specs.declared.view.Stage.TheVariants.{Idle}
use Rattle.kr_turn.specs.declared.view.Terms.{Terms}
use Rattle.kr_turn.specs.declared.view.ViewPart.{ViewPart}
use Rattle.kr_turn.specs.declared.view.View.{View}
use Rattle.kr_base.specs.Lines.{of_seat, Stands}

-- each seat of the turn is this one, or ended in it
abbrev pub Covers : {L G : Type 0} → Terms G → View L G → Type 0
Covers {L} terms v = (number : ℕ) → number < length terms.budgets
    → (v.number ≡ number)
    ⊎ ((i : ℕ) × (part : ViewPart L) × (get_elem? v.ended i ≡ some part) × (part.number ≡ number))

-- the state at the end, in whose lines the seat stands and those that ended in it, and no other
pub record IsEnd {S L G : Type 0} (lines : S → List L) (basis : S → G) (room : S → ℕ)
    (seat_of : L → ℕ) (terms : Terms G) (v : View L G) (state : S) : Type 0 where
  pub basis_is : basis state ≡ terms.basis
  pub room_is : room state ≡ terms.room
  pub itself : Stands seat_of (lines state) v.number v.seen v.mine
  pub ended : (i : ℕ) (part : ViewPart L) → get_elem? v.ended i ≡ some part
      → Stands seat_of (lines state) part.number part.seen part.mine
  pub no_other : (number : ℕ) → length terms.budgets ≤ number
      → of_seat seat_of number (lines state) ≡ []

-- the slots at the end: the first has the state
abbrev pub Ending : {S L G : Type 0} → (S → List L) → (S → G) → (S → ℕ) → (L → ℕ) → Terms G
    → View L G → List (Option S) → Type 0
Ending {S} lines basis room seat_of terms v slots = (state : S)
    × (get_elem? slots 0 ≡ some (Some state))
    × IsEnd lines basis room seat_of terms v state

-- what a seat knew at its end
abbrev pub part_in : {S L G : Type 0} → Place S L G → ViewPart L
part_in seat = record {
  number = seat.token.me.0.number;
  seen = seat.token.me.0.seen;
  mine = seat.token.me.0.mine;
}

-- the token of the first seat, in which all the others ended but for those that are left
pub record IsGathered {S L G : Type 0} (first : Place S L G) (all left : List (Place S L G))
    (m : Me (Option S) (View L G)) : Type 0 where
  pub rests : m.0.stage ≡ Idle
  pub bare : m.1 ≡ []
  pub number : m.0.number ≡ first.token.me.0.number
  pub seen : m.0.seen ≡ first.token.me.0.seen
  pub mine : m.0.mine ≡ first.token.me.0.mine
  pub ended : map part_in left ++ m.0.ended ≡ map part_in all
