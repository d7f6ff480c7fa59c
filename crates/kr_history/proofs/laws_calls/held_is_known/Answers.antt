use Rattle.kr_history.proofs.HeldFacts.{held_is_admitted, held_opens, held_is_named}
use Rattle.kr_history.proofs.laws_calls.held_is_known.Goals as goal

pub returns : goal.returns
returns c = record { admitted = held_is_admitted; opens = held_opens; named = held_is_named }
