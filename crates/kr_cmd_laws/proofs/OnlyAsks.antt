-- Steps that ask plugins nothing but this, and what is heard by them.
use Rattle.std.proofs.Common.{◌≡◌, ℕ, List, [], ◌∷◌, length, Option, None, Some, Result, Ok, Err, subst, sym, inl, inr}
use Rattle.std.specs.Io.KnownBytes.{Consumes, IsAtEnd}
use Rattle.std.proofs.lemmas.List.Elements.{All-append, All-cons, All-nil}
use Rattle.kr_base.specs.Told.{Agrees}
use Rattle.kr_kms.specs.Exchanges.{Exchange, StatusCall, UnwrapCall, WrapCall}
use Rattle.kr_kms.specs.Outside.{makes}
use Rattle.kr_kms.specs.declared.plugin.KmsNo.{KmsNo}
use Rattle.kr_kms.specs.declared.plugin.KmsNo.TheVariants.{Failed}
use Rattle.kr_kms.specs.declared.plugin.Status.{Status}
use Rattle.kr_kms.specs.declared.plugin.Wrapped.{Wrapped}
use Rattle.kr_kms.specs.declared.world.WorldCall.TheVariants.{File, Link, RandomSource, Settled, Tape, Returned}
use Rattle.kr_cmd_steps.specs.Steps.{Steps, load, take_input, borrow_dice, borrow_tape, read_tape, write_row, keep_rows, settle, give_back, draw, borrow_link, ask_status, wrap, unwrap, note, find, refuse, give, and_then, Point, StepState, RunTo, hearing, with_asked, with_dice, with_input, with_said, with_tape, with_told}
use Rattle.kr_cmd_laws.specs.FleetPlugins.{AllHeard}
use Rattle.kr_cmd_laws.proofs.Plain.{IsPlain}

-- from what is left on, whatever is drawn, found and answered, they ask plugins only this
abbrev pub OnlyAsks : {A : Type 0} → (Exchange → Type 0) → Steps A → StepState → Type 0
OnlyAsks P (load name next) left =
    (bytes : Option (List ℕ)) → OnlyAsks P (next bytes) (with_asked (File name) left)
OnlyAsks P (take_input limit long next) left = (bytes : List ℕ) (rest : Option (List ℕ))
    → Consumes left.input rest bytes → IsAtEnd rest → OnlyAsks P (next bytes) (with_input rest left)
OnlyAsks P (borrow_dice seat next) left = OnlyAsks P next (with_asked (RandomSource seat) left)
OnlyAsks P (borrow_tape name access absent next) left =
    OnlyAsks P next (with_tape (makes access) name (with_asked (Tape name access) left))
OnlyAsks P (read_tape object name next) left = (bytes : List ℕ)
    → Agrees (left.tapes name) (Some bytes) → OnlyAsks P (next bytes) left
OnlyAsks P (write_row object name store row next) left =
    (told : Option (List ℕ)) → OnlyAsks P next (with_told name told left)
OnlyAsks P (keep_rows name store next) left =
    (told : Option (List ℕ)) → OnlyAsks P next (with_told name told left)
OnlyAsks P (settle object name next) left = OnlyAsks P next (with_asked (Settled name) left)
OnlyAsks P (draw seat size next) left = (bytes : List ℕ) (rest : Option (List ℕ))
    → length bytes ≡ size → OnlyAsks P (next bytes) (with_dice seat rest left)
OnlyAsks P (borrow_link seat plugin program next) left =
    OnlyAsks P next (with_asked (Link seat plugin program) left)
OnlyAsks P (ask_status seat plugin next) left =
    ((answer : Result Status KmsNo) → P (StatusCall plugin answer))
    × ((status : Status) (h : Option (List Exchange))
    → OnlyAsks P (next status) (record left { heard = h }))
OnlyAsks P (wrap seat plugin plain next) left =
    ((answer : Result Wrapped KmsNo) → P (WrapCall plugin plain answer))
    × ((wrapped : Wrapped) (h : Option (List Exchange))
    → OnlyAsks P (next wrapped) (record left { heard = h }))
OnlyAsks P (unwrap seat key next) left =
    ((answer : Result (List ℕ) KmsNo) → P (UnwrapCall key answer))
    × ((bytes : List ℕ) (h : Option (List Exchange))
    → OnlyAsks P (next bytes) (record left { heard = h }))
OnlyAsks P (give_back name next) left = OnlyAsks P next (with_asked (Returned name) left)
OnlyAsks P (note text next) left = OnlyAsks P next (with_said text left)
OnlyAsks P (find B Is next) left = (b : B) → Is b → OnlyAsks P (next b) left
OnlyAsks P (refuse why) left = Unit {0}
OnlyAsks P (give x) left = Unit {0}

-- ---- what was heard

one_more : (P : Exchange → Type 0) (e : Exchange) (h : Option (List Exchange)) → P e
    → AllHeard P h → AllHeard P (hearing (e ∷ []) h)
one_more P e None p a = absurd a
one_more P e (Some heard) p a = All-append P heard (e ∷ []) a (All-cons P e [] p (All-nil P))

module _ {A : Type 0} (P : Exchange → Type 0) (point : Point A) (end : StepState) where
  -- what is heard in the end is that
  abbrev Fine : Type 0
  Fine = AllHeard P end.heard

  at : (left : StepState) {here : Point A} → AllHeard P left.heard → (point ≡ here) × (end ≡ left)
      → Fine
  at left a e = subst (λ (l : StepState). AllHeard P l.heard) (sym e.1) a

  -- the last that was asked
  at_asked : (call : Exchange) (left : StepState) {here : Point A} → P call → AllHeard P left.heard
      → (point ≡ here) × (end ≡ record left { heard = hearing (call ∷ []) left.heard }) → Fine
  at_asked call left p a e = at (record left { heard = hearing (call ∷ []) left.heard })
      (one_more P call left.heard p a) e

  pub only_asked : (s : Steps A) (left : StepState) → OnlyAsks P s left → AllHeard P left.heard
      → RunTo point end s left → Fine
  only_asked (load name next) left g a (inl e) = at left a e
  only_asked (load name next) left g a (inr (inl e)) = at (with_asked (File name) left) a e
  only_asked (load name next) left g a (inr (inr (bytes, agrees, goes))) =
      only_asked (next bytes) _ (g bytes) a goes
  only_asked (take_input limit long next) left g a (bytes, rest, c, inl (short, e)) =
      at (with_input rest left) a e
  only_asked (take_input limit long next) left g a (bytes, rest, c, inr (inl (more, e))) =
      at (with_input rest left) a e
  only_asked (take_input limit long next) left g a (bytes, rest, c, inr (inr (short, d, goes))) =
      only_asked (next bytes) _ (g bytes rest c d) a goes
  only_asked (borrow_dice seat next) left g a (inl e) = at left a e
  only_asked (borrow_dice seat next) left g a (inr (inl e)) =
      at (with_asked (RandomSource seat) left) a e
  only_asked (borrow_dice seat next) left g a (inr (inr goes)) = only_asked next _ g a goes
  only_asked (borrow_tape name access absent next) left g a (inl e) = at left a e
  only_asked (borrow_tape name access absent next) left g a (inr (inl e)) =
      at (with_asked (Tape name access) left) a e
  only_asked (borrow_tape name access absent next) left g a (inr (inr (inl (may, agrees, e)))) =
      at (with_asked (Tape name access) left) a e
  only_asked (borrow_tape name access absent next) left g a (inr (inr (inr (may, goes)))) =
      only_asked next _ g a goes
  only_asked (read_tape object name next) left g a (inl e) = at left a e
  only_asked (read_tape object name next) left g a (inr (bytes, agrees, goes)) =
      only_asked (next bytes) left (g bytes agrees) a goes
  only_asked (write_row object name store row next) left g a (inl (told, begins, e)) =
      at (with_told name told left) a e
  only_asked (write_row object name store row next) left g a (inr (told, holds, goes)) =
      only_asked next _ (g told) a goes
  only_asked (keep_rows name store next) left g a (told, holds, goes) =
      only_asked next _ (g told) a goes
  only_asked (settle object name next) left g a (inl e) = at left a e
  only_asked (settle object name next) left g a (inr goes) = only_asked next _ g a goes
  only_asked (draw seat size next) left g a (inl e) = at left a e
  only_asked (draw seat size next) left g a (inr (bytes, rest, c, fits, goes)) =
      only_asked (next bytes) _ (g bytes rest fits) a goes
  only_asked (borrow_link seat plugin program next) left g a (inl e) = at left a e
  only_asked (borrow_link seat plugin program next) left g a (inr (inl e)) =
      at (with_asked (Link seat plugin program) left) a e
  only_asked (borrow_link seat plugin program next) left g a (inr (inr goes)) =
      only_asked next _ g a goes
  only_asked (ask_status seat plugin next) left g a (inl e) = at left a e
  only_asked (ask_status seat plugin next) left g a (inr (inl (answer, e))) =
      at_asked (StatusCall plugin answer) left (g.0 answer) a e
  only_asked (ask_status seat plugin next) left g a (inr (inr (inl e))) =
      at_asked (StatusCall plugin (Err Failed)) left (g.0 (Err Failed)) a e
  only_asked (ask_status seat plugin next) left g a (inr (inr (inr (status, agrees, goes)))) =
      only_asked (next status) _ (g.1 status (hearing (StatusCall plugin (Ok status) ∷ []) left.heard))
      (one_more P (StatusCall plugin (Ok status)) left.heard (g.0 (Ok status)) a) goes
  only_asked (wrap seat plugin plain next) left g a (inl e) = at left a e
  only_asked (wrap seat plugin plain next) left g a (inr (inl (answer, e))) =
      at_asked (WrapCall plugin plain answer) left (g.0 answer) a e
  only_asked (wrap seat plugin plain next) left g a (inr (inr (inl e))) =
      at_asked (WrapCall plugin plain (Err Failed)) left (g.0 (Err Failed)) a e
  only_asked (wrap seat plugin plain next) left g a
      (inr (inr (inr (wrapped, within, goes)))) = only_asked (next wrapped) _
      (g.1 wrapped (hearing (WrapCall plugin plain (Ok wrapped) ∷ []) left.heard))
      (one_more P (WrapCall plugin plain (Ok wrapped)) left.heard (g.0 (Ok wrapped)) a) goes
  only_asked (unwrap seat key next) left g a (inl e) = at left a e
  only_asked (unwrap seat key next) left g a (inr (inl (answer, e))) =
      at_asked (UnwrapCall key answer) left (g.0 answer) a e
  only_asked (unwrap seat key next) left g a (inr (inr (inl e))) =
      at_asked (UnwrapCall key (Err Failed)) left (g.0 (Err Failed)) a e
  only_asked (unwrap seat key next) left g a (inr (inr (inr (bytes, goes)))) =
      only_asked (next bytes) _ (g.1 bytes (hearing (UnwrapCall key (Ok bytes) ∷ []) left.heard))
      (one_more P (UnwrapCall key (Ok bytes)) left.heard (g.0 (Ok bytes)) a) goes
  only_asked (give_back name next) left g a goes = only_asked next _ g a goes
  only_asked (note text next) left g a goes = only_asked next _ g a goes
  only_asked (find B Is next) left g a (inl e) = at left a e
  only_asked (find B Is next) left g a (inr (b, is, goes)) =
      only_asked (next b) left (g b is) a goes
  only_asked (refuse why) left g a e = at left a e
  only_asked (give x) left g a e = at left a e

-- ---- one behind another

module _ {A B : Type 0} (P : Exchange → Type 0) (others : A → Steps B)
    (go_on : (x : A) (l : StepState) → OnlyAsks P (others x) l) where
  pub only_then : (first : Steps A) (left : StepState) → OnlyAsks P first left
      → OnlyAsks P (and_then first others) left
  only_then (load name next) left g = λ bytes. only_then (next bytes) _ (g bytes)
  only_then (take_input limit long next) left g =
      λ bytes rest c d. only_then (next bytes) _ (g bytes rest c d)
  only_then (borrow_dice seat next) left g = only_then next _ g
  only_then (borrow_tape name access absent next) left g = only_then next _ g
  only_then (read_tape object name next) left g =
      λ bytes agrees. only_then (next bytes) left (g bytes agrees)
  only_then (write_row object name store row next) left g = λ told. only_then next _ (g told)
  only_then (keep_rows name store next) left g = λ told. only_then next _ (g told)
  only_then (settle object name next) left g = only_then next _ g
  only_then (draw seat size next) left g =
      λ bytes rest fits. only_then (next bytes) _ (g bytes rest fits)
  only_then (borrow_link seat plugin program next) left g = only_then next _ g
  only_then (ask_status seat plugin next) left g =
      (g.0, λ status h. only_then (next status) _ (g.1 status h))
  only_then (wrap seat plugin plain next) left g =
      (g.0, λ wrapped h. only_then (next wrapped) _ (g.1 wrapped h))
  only_then (unwrap seat key next) left g =
      (g.0, λ bytes h. only_then (next bytes) _ (g.1 bytes h))
  only_then (give_back name next) left g = only_then next _ g
  only_then (note text next) left g = only_then next _ g
  only_then (find D Is next) left g = λ d is. only_then (next d) left (g d is)
  only_then (refuse why) left g = tt
  only_then (give x) left g = go_on x left

-- ---- steps that read alone

pub plain_asks : {A : Type 0} (P : Exchange → Type 0) (s : Steps A) (left : StepState) → IsPlain s
    → OnlyAsks P s left
plain_asks P (load name next) left p = λ bytes. plain_asks P (next bytes) _ (p bytes)
plain_asks P (take_input limit long next) left p =
    λ bytes rest c e. plain_asks P (next bytes) _ (p bytes)
plain_asks P (borrow_tape name access absent next) left p = plain_asks P next _ p.1
plain_asks P (read_tape object name next) left p =
    λ bytes agrees. plain_asks P (next bytes) left (p bytes)
plain_asks P (give_back name next) left p = plain_asks P next _ p
plain_asks P (find B Q next) left p = λ b is. plain_asks P (next b) left (p.1 b)
plain_asks P (refuse why) left p = tt
plain_asks P (give x) left p = tt
plain_asks P next left p = absurd (p tt)
