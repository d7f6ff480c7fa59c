-- Steps behind others that only read: the first end them, or the others go on over the same tapes.
use Rattle.std.proofs.Common.{◌≡◌, ◌⊎◌, refl, sym, ap, subst, inl, inr}
use Rattle.kr_kms.specs.declared.world.Access.TheVariants.{ToRead, ToWrite, ToMake}
use Rattle.kr_cmd_steps.specs.Steps.{Steps, load, take_input, borrow_dice, borrow_tape, read_tape, write_row, keep_rows, settle, give_back, draw, borrow_link, ask_status, wrap, unwrap, note, find, refuse, give, and_then, Point, StepState, IsAt, RunTo}
use Rattle.kr_cmd_steps.proofs.Points.{IsShort}
use Rattle.kr_cmd_laws.proofs.ReadOnly.{IsReadOnly}

module _ {A B : Type 0} (others : A → Steps B) (p : Point B) (end : StepState) where
  -- the first steps ended it, or the others went on; the tapes are the same so far
  abbrev pub Parts : StepState → Type 0
  Parts left = (IsShort p × (end.tapes ≡ left.tapes))
      ⊎ ((x : A) × (mid : StepState) × (mid.tapes ≡ left.tapes) × RunTo p end (others x) mid)

  ends_at : {here : Point B} {left : StepState} → IsAt p end here left → IsShort here
      → IsShort p × (end.tapes ≡ left.tapes)
  ends_at at short = (subst IsShort (sym at.0) short, ap (λ l. l.tapes) at.1)

  pub parts : (first : Steps A) (left : StepState) → IsReadOnly first
      → RunTo p end (and_then first others) left → Parts left
  parts (load name next) left r (inl at) = inl (ends_at at tt)
  parts (load name next) left r (inr (inl at)) = inl (ends_at at tt)
  parts (load name next) left r (inr (inr (bytes, agrees, goes))) =
      parts (next bytes) _ (r bytes) goes
  parts (take_input limit long next) left r (bytes, rest, c, inl (short, at)) =
      inl (ends_at at tt)
  parts (take_input limit long next) left r (bytes, rest, c, inr (inl (more, at))) =
      inl (ends_at at tt)
  parts (take_input limit long next) left r (bytes, rest, c, inr (inr (short, e, goes))) =
      parts (next bytes) _ (r bytes) goes
  parts (borrow_dice seat next) left r (inl at) = inl (ends_at at tt)
  parts (borrow_dice seat next) left r (inr (inl at)) = inl (ends_at at tt)
  parts (borrow_dice seat next) left r (inr (inr goes)) = parts next _ r goes
  parts (borrow_tape name access absent next) left r (inl at) = inl (ends_at at tt)
  parts (borrow_tape name access absent next) left r (inr (inl at)) = inl (ends_at at tt)
  parts (borrow_tape name access absent next) left r (inr (inr (inl (may, agrees, at)))) =
      inl (ends_at at tt)
  parts (borrow_tape name ToRead absent next) left r (inr (inr (inr (may, goes)))) =
      parts next _ r.1 goes
  parts (read_tape object name next) left r (inl at) = inl (ends_at at tt)
  parts (read_tape object name next) left r (inr (bytes, agrees, goes)) =
      parts (next bytes) left (r bytes) goes
  parts (settle object name next) left r (inl at) = inl (ends_at at tt)
  parts (settle object name next) left r (inr goes) = parts next _ r goes
  parts (draw seat size next) left r (inl at) = inl (ends_at at tt)
  parts (draw seat size next) left r (inr (bytes, rest, c, fits, goes)) =
      parts (next bytes) _ (r.1 bytes) goes
  parts (borrow_link seat plugin program next) left r (inl at) = inl (ends_at at tt)
  parts (borrow_link seat plugin program next) left r (inr (inl at)) =
      inl (ends_at at tt)
  parts (borrow_link seat plugin program next) left r (inr (inr goes)) = parts next _ r goes
  parts (ask_status seat plugin next) left r (inl at) = inl (ends_at at tt)
  parts (ask_status seat plugin next) left r (inr (inl (answer, at))) = inl (ends_at at tt)
  parts (ask_status seat plugin next) left r (inr (inr (inl at))) = inl (ends_at at tt)
  parts (ask_status seat plugin next) left r (inr (inr (inr (status, agrees, goes)))) =
      parts (next status) _ (r status) goes
  parts (wrap seat plugin plain next) left r (inl at) = inl (ends_at at tt)
  parts (wrap seat plugin plain next) left r (inr (inl (answer, at))) = inl (ends_at at tt)
  parts (wrap seat plugin plain next) left r (inr (inr (inl at))) = inl (ends_at at tt)
  parts (wrap seat plugin plain next) left r (inr (inr (inr (wrapped, within, goes)))) =
      parts (next wrapped) _ (r wrapped) goes
  parts (unwrap seat key next) left r (inl at) = inl (ends_at at tt)
  parts (unwrap seat key next) left r (inr (inl (answer, at))) = inl (ends_at at tt)
  parts (unwrap seat key next) left r (inr (inr (inl at))) = inl (ends_at at tt)
  parts (unwrap seat key next) left r (inr (inr (inr (bytes, goes)))) =
      parts (next bytes) _ (r bytes) goes
  parts (give_back name next) left r goes = parts next _ r goes
  parts (note text next) left r goes = parts next _ r goes
  parts (find D P next) left r (inl at) = inl (ends_at at tt)
  parts (find D P next) left r (inr (d, is, goes)) = parts (next d) _ (r d) goes
  parts (refuse why) left r at = inl (ends_at at tt)
  parts (give x) left r goes = inr (x, left, refl, goes)
  parts other left r goes = absurd r.0
