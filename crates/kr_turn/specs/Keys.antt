-- What callers see of a turn: which it is, and its terms.
use Rattle.std.specs.Prelude.{ℕ, slice_index, Option, Some, None}
use Rattle.atomic_table.specs.Seated.{TableId}
use Rattle.kr_turn.specs.declared.view.Terms.{Terms}
use Rattle.kr_turn.specs.declared.rule.About.{About}

-- which turn it is, and its terms
pub record Home (G : Type 0) : Type 0 where
  pub table : TableId
  pub terms : Terms G

-- the terms of a turn, from what it is told once
abbrev pub terms_of : {S G : Type 0} → (S → G) → (S → ℕ) → About S → Terms G
terms_of basis room key = record {
  basis = basis key.state;
  room = room key.state;
  budgets = key.budgets.items;
}

-- which turn it is, from its table and what that is told once
abbrev pub home_of : {S G : Type 0} → (S → G) → (S → ℕ) → TableId → About S → Home G
home_of basis room table key = record { table = table; terms = terms_of basis room key }

-- the budget of a seat, by its number
abbrev pub seat_budget : {G : Type 0} → Option (Terms G) → ℕ → ℕ
seat_budget (Some terms) seat = slice_index terms.budgets seat
seat_budget None seat = 0
