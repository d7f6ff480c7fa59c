-- Steps that gave something: the first gave something, from which the others went on.
use Rattle.std.proofs.Common.{◌≡◌, Bool, true, false, refl, ◌∙◌, ap, inl, inr}
use Rattle.kr_cmd_steps.specs.Steps.{Steps, load, take_input, borrow_dice, borrow_tape, read_tape, write_row, keep_rows, settle, give_back, draw, borrow_link, ask_status, wrap, unwrap, note, find, refuse, give, and_then, Point, gives, StepState, IsAt, RunTo}

abbrev pub is_value : {A : Type 0} → Point A → Bool
is_value (gives x) = true
is_value point = false

-- nothing else is a value
pub no_value : {A : Type 0} {x : A} {end left : StepState} {here : Point A}
    → IsAt (gives x) end here left → is_value here ≡ false → ⊥
no_value at none = absurd (let e : true ≡ false = ap is_value at.0 ∙ none in cc)

abbrev pub value_or : {A : Type 0} → A → Point A → A
value_or other (gives x) = x
value_or other point = other

-- the value that is given is this
pub one_value : {A : Type 0} {x y : A} {end left : StepState} → IsAt (gives x) end (gives y) left → x ≡ y
one_value {x = x} at = ap (value_or x) at.0

module _ {A B : Type 0} (others : A → Steps B) (y : B) (end : StepState) where
  abbrev pub Joint : Steps A → StepState → Type 0
  Joint first left = (x : A) × (mid : StepState) × RunTo (gives x) mid first left
      × RunTo (gives y) end (others x) mid

  pub joint : (first : Steps A) (left : StepState) → RunTo (gives y) end (and_then first others) left
      → Joint first left
  joint (load name next) left (inl at) = absurd (no_value at refl)
  joint (load name next) left (inr (inl at)) = absurd (no_value at refl)
  joint (load name next) left (inr (inr (bytes, agrees, goes))) =
      let j = joint (next bytes) _ goes in (j.0, j.1, inr (inr (bytes, agrees, j.2)), j.3)
  joint (take_input limit long next) left (bytes, rest, c, inl (short, at)) =
      absurd (no_value at refl)
  joint (take_input limit long next) left (bytes, rest, c, inr (inl (more, at))) =
      absurd (no_value at refl)
  joint (take_input limit long next) left (bytes, rest, c, inr (inr (short, e, goes))) =
      let j = joint (next bytes) _ goes in
      (j.0, j.1, (bytes, rest, c, inr (inr (short, e, j.2))), j.3)
  joint (borrow_dice seat next) left (inl at) = absurd (no_value at refl)
  joint (borrow_dice seat next) left (inr (inl at)) = absurd (no_value at refl)
  joint (borrow_dice seat next) left (inr (inr goes)) =
      let j = joint next _ goes in (j.0, j.1, inr (inr j.2), j.3)
  joint (borrow_tape name access absent next) left (inl at) = absurd (no_value at refl)
  joint (borrow_tape name access absent next) left (inr (inl at)) = absurd (no_value at refl)
  joint (borrow_tape name access absent next) left (inr (inr (inl (may, agrees, at)))) =
      absurd (no_value at refl)
  joint (borrow_tape name access absent next) left (inr (inr (inr (may, goes)))) =
      let j = joint next _ goes in (j.0, j.1, inr (inr (inr (may, j.2))), j.3)
  joint (read_tape object name next) left (inl at) = absurd (no_value at refl)
  joint (read_tape object name next) left (inr (bytes, agrees, goes)) =
      let j = joint (next bytes) left goes in (j.0, j.1, inr (bytes, agrees, j.2), j.3)
  joint (write_row object name store row next) left (inl (told, begins, at)) =
      absurd (no_value at refl)
  joint (write_row object name store row next) left (inr (told, holds, goes)) =
      let j = joint next _ goes in (j.0, j.1, inr (told, holds, j.2), j.3)
  joint (keep_rows name store next) left (told, holds, goes) =
      let j = joint next _ goes in (j.0, j.1, (told, holds, j.2), j.3)
  joint (settle object name next) left (inl at) = absurd (no_value at refl)
  joint (settle object name next) left (inr goes) =
      let j = joint next _ goes in (j.0, j.1, inr j.2, j.3)
  joint (draw seat size next) left (inl at) = absurd (no_value at refl)
  joint (draw seat size next) left (inr (bytes, rest, c, fits, goes)) =
      let j = joint (next bytes) _ goes in (j.0, j.1, inr (bytes, rest, c, fits, j.2), j.3)
  joint (borrow_link seat plugin program next) left (inl at) = absurd (no_value at refl)
  joint (borrow_link seat plugin program next) left (inr (inl at)) = absurd (no_value at refl)
  joint (borrow_link seat plugin program next) left (inr (inr goes)) =
      let j = joint next _ goes in (j.0, j.1, inr (inr j.2), j.3)
  joint (ask_status seat plugin next) left (inl at) = absurd (no_value at refl)
  joint (ask_status seat plugin next) left (inr (inl (answer, at))) = absurd (no_value at refl)
  joint (ask_status seat plugin next) left (inr (inr (inl at))) = absurd (no_value at refl)
  joint (ask_status seat plugin next) left (inr (inr (inr (status, agrees, goes)))) =
      let j = joint (next status) _ goes in
      (j.0, j.1, inr (inr (inr (status, agrees, j.2))), j.3)
  joint (wrap seat plugin plain next) left (inl at) = absurd (no_value at refl)
  joint (wrap seat plugin plain next) left (inr (inl (answer, at))) = absurd (no_value at refl)
  joint (wrap seat plugin plain next) left (inr (inr (inl at))) = absurd (no_value at refl)
  joint (wrap seat plugin plain next) left (inr (inr (inr (wrapped, within, goes)))) =
      let j = joint (next wrapped) _ goes in
      (j.0, j.1, inr (inr (inr (wrapped, within, j.2))), j.3)
  joint (unwrap seat key next) left (inl at) = absurd (no_value at refl)
  joint (unwrap seat key next) left (inr (inl (answer, at))) = absurd (no_value at refl)
  joint (unwrap seat key next) left (inr (inr (inl at))) = absurd (no_value at refl)
  joint (unwrap seat key next) left (inr (inr (inr (bytes, goes)))) =
      let j = joint (next bytes) _ goes in
      (j.0, j.1, inr (inr (inr (bytes, j.2))), j.3)
  joint (give_back name next) left goes =
      let j = joint next _ goes in (j.0, j.1, j.2, j.3)
  joint (note text next) left goes =
      let j = joint next _ goes in (j.0, j.1, j.2, j.3)
  joint (find D P next) left (inl at) = absurd (no_value at refl)
  joint (find D P next) left (inr (d, is, goes)) =
      let j = joint (next d) left goes in (j.0, j.1, inr (d, is, j.2), j.3)
  joint (refuse why) left at = absurd (no_value at refl)
  joint (give x) left goes = (x, left, (refl, refl), goes)
