-- Steps that refuse nothing over what is told, and what they give.
use Rattle.std.proofs.Common.{◌≡◌, ℕ, List, Ok, Option, Some, subst, sym, ◌∙◌, inl, inr}
use Rattle.std.specs.Prelude.{true}
use Rattle.kr_base.specs.Told.{Agrees}
use Rattle.kr_kms.specs.Exchanges.{StatusCall, UnwrapCall, WrapCall}
use Rattle.kr_kms.specs.declared.plugin.Status.{Status}
use Rattle.kr_kms.specs.declared.plugin.Wrapped.{Wrapped}
use Rattle.kr_kms.specs.declared.world.WorldCall.TheVariants.{File, Link, RandomSource, Returned, Settled, Tape}
use Rattle.kr_kms.specs.Outside.{makes}
use Rattle.kr_cmd_steps.specs.Steps.{Steps, load, take_input, borrow_dice, borrow_tape, read_tape, write_row, keep_rows, settle, give_back, draw, borrow_link, ask_status, wrap, unwrap, note, find, refuse, give, and_then, Point, awaits, amid, refuses, gives, StepState, RunTo, loading, opening, lending, scanning, writing, settling, drawing, linking, asking, with_asked, with_dice, with_heard, with_said, with_tape, with_told}

-- from what is left on, whatever they draw and find, they refuse nothing, and give this; such steps
-- take no input
abbrev pub GivesOnly : {A : Type 0} → (A → StepState → Type 0) → Steps A → StepState → Type 0
GivesOnly Q (load name next) left = (bytes : Option (List ℕ)) → Agrees (left.file name) bytes
    → GivesOnly Q (next bytes) (with_asked (File name) left)
GivesOnly Q (take_input limit long next) left = ⊥
GivesOnly Q (borrow_dice seat next) left = GivesOnly Q next (with_asked (RandomSource seat) left)
GivesOnly Q (borrow_tape name access absent next) left = (makes access ≡ true)
    × GivesOnly Q next (with_tape (makes access) name (with_asked (Tape name access) left))
GivesOnly Q (read_tape object name next) left = (bytes : List ℕ)
    → Agrees (left.tapes name) (Some bytes) → GivesOnly Q (next bytes) left
GivesOnly Q (write_row object name store row next) left =
    (told : Option (List ℕ)) → GivesOnly Q next (with_told name told left)
GivesOnly Q (keep_rows name store next) left =
    (told : Option (List ℕ)) → GivesOnly Q next (with_told name told left)
GivesOnly Q (settle object name next) left = GivesOnly Q next (with_asked (Settled name) left)
GivesOnly Q (give_back name next) left = GivesOnly Q next (with_asked (Returned name) left)
GivesOnly Q (draw seat size next) left = (bytes : List ℕ) (rest : Option (List ℕ))
    → GivesOnly Q (next bytes) (with_dice seat rest left)
GivesOnly Q (borrow_link seat plugin program next) left =
    GivesOnly Q next (with_asked (Link seat plugin program) left)
GivesOnly Q (ask_status seat plugin next) left = (status : Status)
    → Agrees (left.links (seat, plugin)) status
    → GivesOnly Q (next status) (with_heard (StatusCall plugin (Ok status)) left)
GivesOnly Q (wrap seat plugin plain next) left = (wrapped : Wrapped)
    → GivesOnly Q (next wrapped) (with_heard (WrapCall plugin plain (Ok wrapped)) left)
GivesOnly Q (unwrap seat key next) left = (bytes : List ℕ)
    → GivesOnly Q (next bytes) (with_heard (UnwrapCall key (Ok bytes)) left)
GivesOnly Q (note text next) left = GivesOnly Q next (with_said text left)
GivesOnly Q (find B P next) left = (b : B) → P b → GivesOnly Q (next b) left
GivesOnly Q (refuse why) left = ⊥
GivesOnly Q (give x) left = Q x left

-- ---- where they may end

module _ {A : Type 0} (Q : A → StepState → Type 0) where
  abbrev pub Allowed : Point A → StepState → Type 0
  Allowed (awaits call) end = Unit {0}
  Allowed amid end = Unit {0}
  Allowed (refuses why) end = ⊥
  Allowed (gives x) end = Q x end

  module _ (p : Point A) (end : StepState) where
    at : (here : Point A) (left : StepState) → Allowed here left → (p ≡ here) × (end ≡ left)
        → Allowed p end
    at here left allows e = subst (λ l. Allowed p l) (sym e.1)
        (subst (λ q. Allowed q left) (sym e.0) allows)

    pub allowed : (s : Steps A) (left : StepState) → GivesOnly Q s left → RunTo p end s left
        → Allowed p end
    allowed (load name next) left g (inl e) = at amid _ tt e
    allowed (load name next) left g (inr (inl e)) = at (awaits (loading name)) _ tt e
    allowed (load name next) left g (inr (inr (bytes, agrees, goes))) =
        allowed (next bytes) _ (g bytes agrees) goes
    allowed (borrow_dice seat next) left g (inl e) = at amid _ tt e
    allowed (borrow_dice seat next) left g (inr (inl e)) = at (awaits (opening seat)) _ tt e
    allowed (borrow_dice seat next) left g (inr (inr goes)) = allowed next _ g goes
    allowed (borrow_tape name access absent next) left g (inl e) = at amid _ tt e
    allowed (borrow_tape name access absent next) left g (inr (inl e)) =
        at (awaits (lending name)) _ tt e
    allowed (borrow_tape name access absent next) left g (inr (inr (inl (none, agrees, e)))) =
        absurd (let t = sym g.0 ∙ none in cc)
    allowed (borrow_tape name access absent next) left g (inr (inr (inr (may, goes)))) =
        allowed next _ g.1 goes
    allowed (read_tape object name next) left g (inl e) =
        at (awaits (scanning object name)) _ tt e
    allowed (read_tape object name next) left g (inr (bytes, agrees, goes)) =
        allowed (next bytes) _ (g bytes agrees) goes
    allowed (write_row object name store row next) left g (inl (told, begins, e)) =
        at (awaits (writing object name)) _ tt e
    allowed (write_row object name store row next) left g (inr (told, holds, goes)) =
        allowed next _ (g told) goes
    allowed (keep_rows name store next) left g (told, holds, goes) =
        allowed next _ (g told) goes
    allowed (settle object name next) left g (inl e) =
        at (awaits (settling object name)) _ tt e
    allowed (settle object name next) left g (inr goes) = allowed next _ g goes
    allowed (give_back name next) left g goes = allowed next _ g goes
    allowed (draw seat size next) left g (inl e) = at (awaits (drawing seat)) _ tt e
    allowed (draw seat size next) left g (inr (bytes, rest, c, fits, goes)) =
        allowed (next bytes) _ (g bytes rest) goes
    allowed (borrow_link seat plugin program next) left g (inl e) = at amid _ tt e
    allowed (borrow_link seat plugin program next) left g (inr (inl e)) =
        at (awaits (linking seat plugin)) _ tt e
    allowed (borrow_link seat plugin program next) left g (inr (inr goes)) =
        allowed next _ g goes
    allowed (ask_status seat plugin next) left g (inl e) = at amid _ tt e
    allowed (ask_status seat plugin next) left g (inr (inl (answer, e))) = at amid _ tt e
    allowed (ask_status seat plugin next) left g (inr (inr (inl e))) =
        at (awaits (asking seat plugin)) _ tt e
    allowed (ask_status seat plugin next) left g (inr (inr (inr (status, agrees, goes)))) =
        allowed (next status) _ (g status agrees) goes
    allowed (wrap seat plugin plain next) left g (inl e) = at amid _ tt e
    allowed (wrap seat plugin plain next) left g (inr (inl (answer, e))) = at amid _ tt e
    allowed (wrap seat plugin plain next) left g (inr (inr (inl e))) =
        at (awaits (asking seat plugin)) _ tt e
    allowed (wrap seat plugin plain next) left g (inr (inr (inr (wrapped, within, goes)))) =
        allowed (next wrapped) _ (g wrapped) goes
    allowed (unwrap seat key next) left g (inl e) = at amid _ tt e
    allowed (unwrap seat key next) left g (inr (inl (answer, e))) = at amid _ tt e
    allowed (unwrap seat key next) left g (inr (inr (inl e))) =
        at (awaits (asking seat key.name)) _ tt e
    allowed (unwrap seat key next) left g (inr (inr (inr (bytes, goes)))) =
        allowed (next bytes) _ (g bytes) goes
    allowed (note text next) left g goes = allowed next _ g goes
    allowed (find B P next) left g (inl e) = at amid _ tt e
    allowed (find B P next) left g (inr (b, is, goes)) = allowed (next b) _ (g b is) goes
    allowed (give x) left g e = at (gives x) _ g e
    allowed other left g goes = absurd g

-- ---- one behind another

module _ {A B : Type 0} (R : A → StepState → Type 0) (Q : B → StepState → Type 0) (others : A → Steps B)
    (go_on : (x : A) (l : StepState) → R x l → GivesOnly Q (others x) l) where
  pub gives_then : (first : Steps A) (left : StepState) → GivesOnly R first left
      → GivesOnly Q (and_then first others) left
  gives_then (load name next) left g = λ bytes agrees. gives_then (next bytes) _ (g bytes agrees)
  gives_then (borrow_dice seat next) left g = gives_then next _ g
  gives_then (borrow_tape name access absent next) left g = (g.0, gives_then next _ g.1)
  gives_then (read_tape object name next) left g =
      λ bytes agrees. gives_then (next bytes) _ (g bytes agrees)
  gives_then (write_row object name store row next) left g = λ told. gives_then next _ (g told)
  gives_then (keep_rows name store next) left g = λ told. gives_then next _ (g told)
  gives_then (settle object name next) left g = gives_then next _ g
  gives_then (give_back name next) left g = gives_then next _ g
  gives_then (draw seat size next) left g = λ bytes rest. gives_then (next bytes) _ (g bytes rest)
  gives_then (borrow_link seat plugin program next) left g = gives_then next _ g
  gives_then (ask_status seat plugin next) left g =
      λ status agrees. gives_then (next status) _ (g status agrees)
  gives_then (wrap seat plugin plain next) left g =
      λ wrapped. gives_then (next wrapped) _ (g wrapped)
  gives_then (unwrap seat key next) left g = λ bytes. gives_then (next bytes) _ (g bytes)
  gives_then (note text next) left g = gives_then next _ g
  gives_then (find D P next) left g = λ d is. gives_then (next d) _ (g d is)
  gives_then (give x) left r = go_on x left r
  gives_then other left g = absurd g
