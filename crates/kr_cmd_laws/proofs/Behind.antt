-- Steps behind others: where the others came to, and how they went on from there.
use Rattle.std.proofs.Common.{◌≡◌, ℕ, List, Err, refl, ap, inl, inr}
use Rattle.kr_kms.specs.Exchanges.{StatusCall, UnwrapCall, WrapCall}
use Rattle.kr_kms.specs.declared.plugin.KmsNo.TheVariants.{Failed}
use Rattle.kr_kms.specs.declared.world.WorldCall.TheVariants.{File, Link, RandomSource, Tape}
use Rattle.kr_kms.specs.declared.world.Access.{Access}
use Rattle.kr_cmd_steps.specs.Afterwards.{IsSettledLast}
use Rattle.kr_cmd_steps.specs.Phases.{settled_for}
use Rattle.kr_cmd_steps.specs.Steps.{Steps, load, take_input, borrow_dice, borrow_tape, read_tape, write_row, keep_rows, settle, give_back, draw, borrow_link, ask_status, wrap, unwrap, note, find, refuse, give, and_then, Point, awaits, amid, refuses, gives, StepState, RunTo, loading, reading, opening, lending, scanning, writing, settling, drawing, linking, asking, with_asked, with_heard, with_input, with_told}
use Rattle.kr_cmd_messages.specs.declared.refusal.Object.{Object}
use Rattle.kr_cmd_steps.proofs.RunTo.{Further}

module _ {A B : Type 0} (others : A → Steps B) (p : Point B) (end : StepState) where
  abbrev pub Parted : Steps A → StepState → Type 0
  Parted first left = (q : Point A) × (mid : StepState) × RunTo q mid first left × Further p end others q mid

  pub parted : (first : Steps A) (left : StepState) → RunTo p end (and_then first others) left
      → Parted first left
  parted (load name next) left (inl at) = (amid, left, inl (refl, refl), at)
  parted (load name next) left (inr (inl at)) =
      (awaits (loading name), with_asked (File name) left, inr (inl (refl, refl)), at)
  parted (load name next) left (inr (inr (bytes, agrees, goes))) =
      let r = parted (next bytes) _ goes in (r.0, r.1, inr (inr (bytes, agrees, r.2)), r.3)
  parted (take_input limit long next) left (bytes, rest, c, inl (short, at)) = (
    awaits reading,
    with_input rest left,
    (bytes, rest, c, inl (short, (refl, refl))),
    at,
  )
  parted (take_input limit long next) left (bytes, rest, c, inr (inl (more, at))) = (
    refuses long,
    with_input rest left,
    (bytes, rest, c, inr (inl (more, (refl, refl)))),
    at,
  )
  parted (take_input limit long next) left (bytes, rest, c, inr (inr (short, e, goes))) =
      let r = parted (next bytes) _ goes in
      (r.0, r.1, (bytes, rest, c, inr (inr (short, e, r.2))), r.3)
  parted (borrow_dice seat next) left (inl at) = (amid, left, inl (refl, refl), at)
  parted (borrow_dice seat next) left (inr (inl at)) =
      (awaits (opening seat), with_asked (RandomSource seat) left, inr (inl (refl, refl)), at)
  parted (borrow_dice seat next) left (inr (inr goes)) =
      let r = parted next _ goes in (r.0, r.1, inr (inr r.2), r.3)
  parted (borrow_tape name access absent next) left (inl at) = (amid, left, inl (refl, refl), at)
  parted (borrow_tape name access absent next) left (inr (inl at)) =
      (awaits (lending name), with_asked (Tape name access) left, inr (inl (refl, refl)), at)
  parted (borrow_tape name access absent next) left (inr (inr (inl (may, agrees, at)))) = (
    refuses absent,
    with_asked (Tape name access) left,
    inr (inr (inl (may, agrees, (refl, refl)))),
    at,
  )
  parted (borrow_tape name access absent next) left (inr (inr (inr (may, goes)))) =
      let r = parted next _ goes in (r.0, r.1, inr (inr (inr (may, r.2))), r.3)
  parted (read_tape object name next) left (inl at) =
      (awaits (scanning object name), left, inl (refl, refl), at)
  parted (read_tape object name next) left (inr (bytes, agrees, goes)) =
      let r = parted (next bytes) _ goes in (r.0, r.1, inr (bytes, agrees, r.2), r.3)
  parted (write_row object name store row next) left (inl (told, begins, at)) = (
    awaits (writing object name),
    with_told name told left,
    inl (told, begins, (refl, refl)),
    at,
  )
  parted (write_row object name store row next) left (inr (told, holds, goes)) =
      let r = parted next _ goes in (r.0, r.1, inr (told, holds, r.2), r.3)
  parted (keep_rows name store next) left (told, holds, goes) =
      let r = parted next _ goes in (r.0, r.1, (told, holds, r.2), r.3)
  parted (settle object name next) left (inl at) =
      (awaits (settling object name), left, inl (refl, refl), at)
  parted (settle object name next) left (inr goes) =
      let r = parted next _ goes in (r.0, r.1, inr r.2, r.3)
  parted (draw seat size next) left (inl at) =
      (awaits (drawing seat), left, inl (refl, refl), at)
  parted (draw seat size next) left (inr (bytes, rest, c, fits, goes)) =
      let r = parted (next bytes) _ goes in (r.0, r.1, inr (bytes, rest, c, fits, r.2), r.3)
  parted (borrow_link seat plugin program next) left (inl at) = (amid, left, inl (refl, refl), at)
  parted (borrow_link seat plugin program next) left (inr (inl at)) = (
    awaits (linking seat plugin),
    with_asked (Link seat plugin program) left,
    inr (inl (refl, refl)),
    at,
  )
  parted (borrow_link seat plugin program next) left (inr (inr goes)) =
      let r = parted next _ goes in (r.0, r.1, inr (inr r.2), r.3)
  parted (ask_status seat plugin next) left (inl at) = (amid, left, inl (refl, refl), at)
  parted (ask_status seat plugin next) left (inr (inl (answer, at))) = (
    amid,
    with_heard (StatusCall plugin answer) left,
    inr (inl (answer, (refl, refl))),
    at,
  )
  parted (ask_status seat plugin next) left (inr (inr (inl at))) = (
    awaits (asking seat plugin),
    with_heard (StatusCall plugin (Err Failed)) left,
    inr (inr (inl (refl, refl))),
    at,
  )
  parted (ask_status seat plugin next) left (inr (inr (inr (status, agrees, goes)))) =
      let r = parted (next status) _ goes in
      (r.0, r.1, inr (inr (inr (status, agrees, r.2))), r.3)
  parted (wrap seat plugin plain next) left (inl at) = (amid, left, inl (refl, refl), at)
  parted (wrap seat plugin plain next) left (inr (inl (answer, at))) = (
    amid,
    with_heard (WrapCall plugin plain answer) left,
    inr (inl (answer, (refl, refl))),
    at,
  )
  parted (wrap seat plugin plain next) left (inr (inr (inl at))) = (
    awaits (asking seat plugin),
    with_heard (WrapCall plugin plain (Err Failed)) left,
    inr (inr (inl (refl, refl))),
    at,
  )
  parted (wrap seat plugin plain next) left (inr (inr (inr (wrapped, within, goes)))) =
      let r = parted (next wrapped) _ goes in
      (r.0, r.1, inr (inr (inr (wrapped, within, r.2))), r.3)
  parted (unwrap seat key next) left (inl at) = (amid, left, inl (refl, refl), at)
  parted (unwrap seat key next) left (inr (inl (answer, at))) = (
    amid,
    with_heard (UnwrapCall key answer) left,
    inr (inl (answer, (refl, refl))),
    at,
  )
  parted (unwrap seat key next) left (inr (inr (inl at))) = (
    awaits (asking seat key.name),
    with_heard (UnwrapCall key (Err Failed)) left,
    inr (inr (inl (refl, refl))),
    at,
  )
  parted (unwrap seat key next) left (inr (inr (inr (bytes, goes)))) =
      let r = parted (next bytes) _ goes in
      (r.0, r.1, inr (inr (inr (bytes, r.2))), r.3)
  parted (give_back name next) left goes = parted next _ goes
  parted (note text next) left goes = parted next _ goes
  parted (find D P next) left (inl at) = (amid, left, inl (refl, refl), at)
  parted (find D P next) left (inr (d, is, goes)) =
      let r = parted (next d) _ goes in (r.0, r.1, inr (d, is, r.2), r.3)
  parted (refuse why) left at = (refuses why, left, (refl, refl), at)
  parted (give x) left goes = (gives x, left, (refl, refl), goes)

-- ---- those that gave something

-- the others went on
pub went_on : {A B : Type 0} (others : A → Steps B) (x : B) (end : StepState) (first : Steps A)
    (left : StepState) → RunTo (gives x) end (and_then first others) left
    → (y : A) × (mid : StepState) × RunTo (gives x) end (others y) mid
went_on {A} {B} others x end first left goes =
    let r = parted others (gives x) end first left goes in by_point r.0 r.1 r.3
  where
    by_point : (q : Point A) (mid : StepState) → Further (gives x) end others q mid
        → (y : A) × (mid : StepState) × RunTo (gives x) end (others y) mid
    by_point (awaits call) mid f = absurd (let e : gives x ≡ awaits call = f.0 in cc)
    by_point amid mid f = absurd (let e : gives x ≡ amid = f.0 in cc)
    by_point (refuses why) mid f = absurd (let e : gives x ≡ refuses why = f.0 in cc)
    by_point (gives y) mid f = (y, mid, f)

-- a tape that is borrowed for them was settled
pub settled_last : {A : Type 0} (object : Object) (name : List ℕ) (access : Access) (next : Steps A)
    (x : A) (end left : StepState) → RunTo (gives x) end (settled_for object name access next) left
    → IsSettledLast name end.asked
settled_last object name access next x end left (inl at) =
    absurd (let e : gives x ≡ amid = at.0 in cc)
settled_last object name access next x end left (inr (inl at)) =
    absurd (let e : gives x ≡ awaits (lending name) = at.0 in cc)
settled_last object name access next x end left (inr (inr (inl (may, agrees, at)))) =
    absurd (let e : gives x ≡ refuses _ = at.0 in cc)
settled_last {A} object name access next x end left (inr (inr (inr (may, goes)))) =
    let behind = went_on (λ made. settle object name (give made)) x end next _ goes in
    by_settling behind.0 behind.1 behind.2
  where
    by_settling : (y : A) (mid : StepState) → RunTo (gives x) end (settle object name (give y)) mid
        → IsSettledLast name end.asked
    by_settling y mid (inl at) =
        absurd (let e : gives x ≡ awaits (settling object name) = at.0 in cc)
    by_settling y mid (inr at) = (mid.asked, ap (λ l. l.asked) at.1)
