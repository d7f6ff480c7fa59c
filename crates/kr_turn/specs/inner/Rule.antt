-- The rule of the lock, which holds between any two steps. Word 0 is the next ticket, and word 1
-- the ticket that is served, which is the number of lines. The one slot has the state. A line is
-- one value with its seat's number: nothing here looks further into it.
use Rattle.std.specs.Prelude.{◌≡◌, ℕ, ◌+◌, ◌<◌, ◌≤◌, List, [], ◌∷◌, length, take, sum, Option, Some}
use Rattle.std.specs.Prelude.{None}
use mathlib.Core.Option.{Option as Maybe, none, some}
use mathlib.Core.List.{IsPrefix}
use lib.ListN.{get_elem?}
use Rattle.atomic_table.specs.Table.{State}
use Rattle.kr_turn.specs.declared.view.Stage.{Stage}
use Rattle.kr_turn.specs.declared.view.Stage.TheVariants.{Blank, Filling, Idle, Waiting, Holding}
use Rattle.kr_turn.specs.declared.view.Stage.TheVariants.{Gone}
use Rattle.kr_turn.specs.declared.view.Terms.{Terms}
use Rattle.kr_turn.specs.declared.view.ViewPart.{ViewPart}
use Rattle.kr_turn.specs.declared.view.View.{View}
use Rattle.kr_base.specs.Lines.{of_seat}

-- a seat that is neither waiting nor served
abbrev pub idle_view : {L G : Type 0} → Option (Terms G) → ℕ → List L → List L → ℕ
    → List (ViewPart L) → Option ℕ → View L G
idle_view terms number seen mine left ended made = record {
  stage = Idle;
  terms = terms;
  number = number;
  seen = seen;
  mine = mine;
  left = left;
  ended = ended;
  made = made;
}

-- the first seat, before the state is in the slot
abbrev pub blank_view : {L G : Type 0} → Terms G → View L G
blank_view terms = record {
  stage = Blank;
  terms = Some terms;
  number = 0;
  seen = [];
  mine = [];
  left = 0;
  ended = [];
  made = None;
}

-- a seat that was joined to another
abbrev pub gone_view : {L G : Type 0} → View L G
gone_view = record {
  stage = Gone;
  terms = None;
  number = 0;
  seen = [];
  mine = [];
  left = 0;
  ended = [];
  made = None;
}

-- the turns that are left, over all seats
abbrev pub lefts : {L G : Type 0} → List (View L G) → ℕ
lefts [] = 0
lefts (v ∷ vs) = v.left + lefts vs

-- the slot is in hand
abbrev pub IsOut : {L : Type 0} → Stage L → Type 0
IsOut Blank = ⊥
IsOut Filling = Unit {0}
IsOut Idle = ⊥
IsOut (Waiting ticket) = ⊥
IsOut (Holding log) = Unit {0}
IsOut Gone = ⊥

module _ {L G : Type 0} (seat_of : L → ℕ) (terms : Terms G) (log : List L) (made : ℕ)
    (owner : ℕ → ℕ) where
  -- the view at this index speaks for a seat of this number: what it saw begins the history, and it
  -- knows its own lines there, all of which it saw
  pub record SpeaksFor (index : ℕ) (number : ℕ) (seen mine : List L) : Type 0 where
    pub owned : owner number ≡ index
    pub known : number < made
    pub front : IsPrefix seen log
    pub whole : of_seat seat_of number log ≡ mine
    pub own : of_seat seat_of number seen ≡ mine

  -- the view is a seat's. It speaks for that seat and for those that ended in it, and where it
  -- makes seats it is the first and knows how many there are
  pub record IsSeat (index : ℕ) (v : View L G) : Type 0 where
    pub terms_are : v.terms ≡ Some terms
    pub itself : SpeaksFor index v.number v.seen v.mine
    pub ended : (i : ℕ) (part : ViewPart L) → get_elem? v.ended i ≡ some part
        → SpeaksFor index part.number part.seen part.mine
    pub makes : (k : ℕ) → v.made ≡ Some k → (index ≡ 0) × (k ≡ made)

  -- the view is the first one, before there is any seat
  pub record IsFirst (index : ℕ) (v : View L G) : Type 0 where
    pub first : index ≡ 0
    pub none_made : made ≡ 0
    pub no_line : log ≡ []

  -- What is known of the view at this index by its stage. A seat that waits holds a ticket that
  -- isn't served yet or is served now, and a seat that has the slot in hand holds the ticket that
  -- is served
  abbrev pub Knows : ℕ → (ℕ → ℕ) → ℕ → View L G → Stage L → Type 0
  Knows tickets holder index v Blank = IsFirst index v
  Knows tickets holder index v Filling = IsFirst index v
  Knows tickets holder index v Idle = IsSeat index v
  Knows tickets holder index v (Waiting ticket) = IsSeat index v × (v.ended ≡ [])
      × (holder ticket ≡ index) × (length log ≤ ticket) × (ticket < tickets)
  Knows tickets holder index v (Holding served) = IsSeat index v × (v.ended ≡ [])
      × (holder (length log) ≡ index) × (length log < tickets) × (served ≡ log)
  Knows tickets holder index v Gone = Unit {0}

module _ {S L G : Type 0} (lines : S → List L) (basis : S → G) (room : S → ℕ) where
  -- what the slot has: nothing yet, the state with the served lines, or it is out with one view
  abbrev pub Has : Terms G → List L → ℕ → List (View L G) → Maybe (Option S) → Type 0
  Has terms log made views (some None) = made ≡ 0
  Has terms log made views (some (Some state)) = (0 < made) × (lines state ≡ log)
      × (basis state ≡ terms.basis) × (room state ≡ terms.room)
  Has terms log made views none = (index : ℕ) × (v : View L G)
      × (get_elem? views index ≡ some v) × IsOut v.stage

  -- There is one history, `log`, and so many tickets are drawn and seats made. A seat's number has
  -- one view that speaks for it, and a ticket one view that drew it. The tickets drawn and the
  -- turns left are the budgets of the seats made, so there is a ticket and room for each turn. A
  -- number that isn't made yet has no line.
  pub record KeepsRule (seat_of : L → ℕ) (terms : Terms G) (s : State (Option S) (View L G))
      : Type 0 where
    pub log : List L
    pub tickets : ℕ
    pub made : ℕ
    pub owner : ℕ → ℕ
    pub holder : ℕ → ℕ
    pub content : Maybe (Option S)
    pub words_are : s.words ≡ tickets ∷ length log ∷ []
    pub homes_are : s.homes ≡ content ∷ []
    pub left_is : tickets + lefts s.views ≡ sum (take made terms.budgets)
    pub small : sum terms.budgets < 18446744073709551616
    pub roomy : sum terms.budgets ≤ terms.room
    pub behind : length log ≤ tickets
    pub few : made ≤ length terms.budgets
    pub unmade : (number : ℕ) → made ≤ number → of_seat seat_of number log ≡ []
    pub slot : Has terms log made s.views content
    pub each : (index : ℕ) (v : View L G) → get_elem? s.views index ≡ some v
        → Knows seat_of terms log made owner tickets holder index v v.stage
