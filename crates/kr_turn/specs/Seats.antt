-- What callers see of a turn and of its seats.
use Rattle.std.specs.Prelude.{◌≡◌, ℕ, ◌<◌, List, [], length, map, slice_index, All, Contains, Some}
use Rattle.std.specs.List.{range_with_len}
use Rattle.kr_turn.specs.Keys.{Home}
use Rattle.kr_turn.specs.declared.seat.Place.{Place}

module _ {S L G : Type 0} where
  abbrev pub number_of : Place S L G → ℕ
  number_of seat = seat.number

  -- the lines of the one history up to this seat's latest one
  abbrev pub lines_seen : Place S L G → List L
  lines_seen seat = seat.token.me.0.seen

  -- the lines of this seat
  abbrev pub mine : Place S L G → List L
  mine seat = seat.token.me.0.mine

  -- how many turns it has left
  abbrev pub left_of : Place S L G → ℕ
  left_of seat = seat.left

  -- the seat is one of this turn's
  pub record IsSeatOf (home : Home G) (seat : Place S L G) : Type 0 where
    pub table : seat.token.table_id ≡ home.table
    pub terms : seat.token.me.0.terms ≡ Some home.terms

  -- the seat is one of this turn's, has made no turn and has seen none
  pub record IsFresh (home : Home G) (seat : Place S L G) : Type 0 where
    pub its : IsSeatOf home seat
    pub left : left_of seat ≡ slice_index home.terms.budgets (number_of seat)
    pub none_seen : lines_seen seat ≡ []
    pub none_mine : mine seat ≡ []

  -- fresh seats, by their numbers from 0 on
  pub record AreFresh (home : Home G) (count : ℕ) (seats : List (Place S L G)) : Type 0 where
    pub numbers : map number_of seats ≡ range_with_len 0 count
    pub each : All (IsFresh home) seats

  -- seats of this turn, and all of them, in any order
  pub record AreAll (home : Home G) (seats : List (Place S L G)) : Type 0 where
    pub its : All (IsSeatOf home) seats
    pub all : (number : ℕ) → number < length home.terms.budgets
        → Contains (map number_of seats) number
