-- The way of steps that come to their last: past each step, and what was heard only grows.
use Rattle.std.proofs.Common.{◌≡◌, ℕ, ◌+◌, ◌≤◌, ◌⊎◌, List, [], ◌∷◌, ◌++◌, length, false, Option, None, Some, Ok, sym, ◌∙◌, ap, subst, inl, inr, append-nil, append_assoc}
use Rattle.std.specs.Io.KnownBytes.{Consumes, IsAtEnd}
use Rattle.kr_base.specs.Told.{Agrees}
use Rattle.kr_kms.specs.Exchanges.{Exchange, StatusCall, UnwrapCall, WrapCall}
use Rattle.kr_kms.specs.Outside.{makes}
use Rattle.kr_kms.specs.declared.plugin.Status.{Status}
use Rattle.kr_kms.specs.declared.plugin.Wrapped.{Wrapped}
use Rattle.kr_kms.specs.declared.seeds.SeedKey.{SeedKey}
use Rattle.kr_kms.specs.declared.world.Access.{Access}
use Rattle.kr_kms.specs.declared.world.WorldCall.TheVariants.{File, Link, RandomSource, Settled, Tape, Returned}
use Rattle.kr_store.specs.declared.rows.LogRow.{LogRow}
use Rattle.kr_cmd_messages.specs.declared.refusal.Object.{Object}
use Rattle.kr_cmd_messages.specs.declared.refusal.Refusal.{Refusal}
use Rattle.kr_cmd_steps.specs.Steps.{Steps, load, take_input, borrow_dice, borrow_tape, read_tape, write_row, keep_rows, settle, give_back, draw, borrow_link, ask_status, wrap, unwrap, note, find, refuse, give, loading, reading, opening, lending, scanning, writing, settling, drawing, linking, asking, Point, awaits, amid, refuses, gives, StepState, RunTo, IsAt, MayBorrow, hearing, with_asked, with_dice, with_heard, with_input, with_said, with_tape, with_told}
use Rattle.kr_cmd_steps.specs.StoreFiles.{HoldsRows, Stored, with_row}

-- ---- the way of steps that come to their last

-- the last step, and no stop in front of it
abbrev pub IsLast : {A : Type 0} → Point A → Type 0
IsLast (awaits call) = ⊥
IsLast amid = ⊥
IsLast (refuses why) = Unit {0}
IsLast (gives x) = Unit {0}

module _ {A : Type 0} (p : Point A) (end : StepState) (is_last : IsLast p) where
  stops : (here : Point A) → p ≡ here → IsLast here
  stops here e = subst (λ (x : Point A). IsLast x) e is_last

  pub past_load : (name : List ℕ) (next : Option (List ℕ) → Steps A) (left : StepState)
      → RunTo p end (load name next) left
      → (bytes : Option (List ℕ)) × Agrees (left.file name) bytes
      × RunTo p end (next bytes) (with_asked (File name) left)
  past_load name next left (inl e) = absurd (stops amid e.0)
  past_load name next left (inr (inl e)) = absurd (stops (awaits (loading name)) e.0)
  past_load name next left (inr (inr g)) = g

  pub past_input : (limit : ℕ) (long : Refusal) (next : List ℕ → Steps A) (left : StepState)
      → RunTo p end (take_input limit long next) left
      → (bytes : List ℕ) × (rest : Option (List ℕ)) × Consumes left.input rest bytes × (
      ((length bytes ≡ limit + 1) × IsAt p end (refuses long) (with_input rest left))
      ⊎ ((length bytes ≤ limit) × IsAtEnd rest
      × RunTo p end (next bytes) (with_input rest left))
      )
  past_input limit long next left (bytes, rest, c, inl (short, e)) =
      absurd (stops (awaits reading) e.0)
  past_input limit long next left (bytes, rest, c, inr w) = (bytes, rest, c, w)

  pub past_dice : (seat : ℕ) (next : Steps A) (left : StepState)
      → RunTo p end (borrow_dice seat next) left
      → RunTo p end next (with_asked (RandomSource seat) left)
  past_dice seat next left (inl e) = absurd (stops amid e.0)
  past_dice seat next left (inr (inl e)) = absurd (stops (awaits (opening seat)) e.0)
  past_dice seat next left (inr (inr g)) = g

  pub past_borrow : (name : List ℕ) (access : Access) (absent : Refusal) (next : Steps A)
      (left : StepState) → RunTo p end (borrow_tape name access absent next) left
      → ((makes access ≡ false) × Agrees (left.tapes name) None
      × IsAt p end (refuses absent) (with_asked (Tape name access) left))
      ⊎ (MayBorrow (left.tapes name) (makes access)
      × RunTo p end next (with_tape (makes access) name (with_asked (Tape name access) left)))
  past_borrow name access absent next left (inl e) = absurd (stops amid e.0)
  past_borrow name access absent next left (inr (inl e)) =
      absurd (stops (awaits (lending name)) e.0)
  past_borrow name access absent next left (inr (inr g)) = g

  pub past_read : (object : Object) (name : List ℕ) (next : List ℕ → Steps A) (left : StepState)
      → RunTo p end (read_tape object name next) left
      → (bytes : List ℕ) × Agrees (left.tapes name) (Some bytes) × RunTo p end (next bytes) left
  past_read object name next left (inl e) = absurd (stops (awaits (scanning object name)) e.0)
  past_read object name next left (inr g) = g

  pub past_write : (object : Object) (name : List ℕ) (store : Stored) (row : LogRow)
      (next : Steps A) (left : StepState) → RunTo p end (write_row object name store row next) left
      → (told : Option (List ℕ)) × HoldsRows (with_row row store) told
      × RunTo p end next (with_told name told left)
  past_write object name store row next left (inl (told, begins, e)) =
      absurd (stops (awaits (writing object name)) e.0)
  past_write object name store row next left (inr g) = g

  pub past_settle : (object : Object) (name : List ℕ) (next : Steps A) (left : StepState)
      → RunTo p end (settle object name next) left → RunTo p end next (with_asked (Settled name) left)
  past_settle object name next left (inl e) = absurd (stops (awaits (settling object name)) e.0)
  past_settle object name next left (inr g) = g

  pub past_draw : (seat size : ℕ) (next : List ℕ → Steps A) (left : StepState)
      → RunTo p end (draw seat size next) left
      → (bytes : List ℕ) × (rest : Option (List ℕ)) × Consumes (left.dice seat) rest bytes
      × (length bytes ≡ size) × RunTo p end (next bytes) (with_dice seat rest left)
  past_draw seat size next left (inl e) = absurd (stops (awaits (drawing seat)) e.0)
  past_draw seat size next left (inr g) = g

  pub past_link : (seat : ℕ) (plugin program : List ℕ) (next : Steps A) (left : StepState)
      → RunTo p end (borrow_link seat plugin program next) left
      → RunTo p end next (with_asked (Link seat plugin program) left)
  past_link seat plugin program next left (inl e) = absurd (stops amid e.0)
  past_link seat plugin program next left (inr (inl e)) =
      absurd (stops (awaits (linking seat plugin)) e.0)
  past_link seat plugin program next left (inr (inr g)) = g

  pub past_status : (seat : ℕ) (plugin : List ℕ) (next : Status → Steps A) (left : StepState)
      → RunTo p end (ask_status seat plugin next) left
      → (status : Status)
      × RunTo p end (next status) (with_heard (StatusCall plugin (Ok status)) left)
  past_status seat plugin next left (inl e) = absurd (stops amid e.0)
  past_status seat plugin next left (inr (inl (answer, e))) = absurd (stops amid e.0)
  past_status seat plugin next left (inr (inr (inl e))) =
      absurd (stops (awaits (asking seat plugin)) e.0)
  past_status seat plugin next left (inr (inr (inr (status, agrees, g)))) = (status, g)

  pub past_wrap : (seat : ℕ) (plugin plain : List ℕ) (next : Wrapped → Steps A) (left : StepState)
      → RunTo p end (wrap seat plugin plain next) left
      → (wrapped : Wrapped)
      × RunTo p end (next wrapped) (with_heard (WrapCall plugin plain (Ok wrapped)) left)
  past_wrap seat plugin plain next left (inl e) = absurd (stops amid e.0)
  past_wrap seat plugin plain next left (inr (inl (answer, e))) = absurd (stops amid e.0)
  past_wrap seat plugin plain next left (inr (inr (inl e))) =
      absurd (stops (awaits (asking seat plugin)) e.0)
  past_wrap seat plugin plain next left (inr (inr (inr (wrapped, within, g)))) = (wrapped, g)

  pub past_unwrap : (seat : ℕ) (key : SeedKey) (next : List ℕ → Steps A) (left : StepState)
      → RunTo p end (unwrap seat key next) left
      → (bytes : List ℕ) × RunTo p end (next bytes) (with_heard (UnwrapCall key (Ok bytes)) left)
  past_unwrap seat key next left (inl e) = absurd (stops amid e.0)
  past_unwrap seat key next left (inr (inl (answer, e))) = absurd (stops amid e.0)
  past_unwrap seat key next left (inr (inr (inl e))) =
      absurd (stops (awaits (asking seat key.name)) e.0)
  past_unwrap seat key next left (inr (inr (inr g))) = g

  pub past_find : (B : Type 0) (P : B → Type 0) (next : B → Steps A) (left : StepState)
      → RunTo p end (find B P next) left → (b : B) × P b × RunTo p end (next b) left
  past_find B P next left (inl e) = absurd (stops amid e.0)
  past_find B P next left (inr g) = g

  -- ---- what was heard only grows

  abbrev pub Grows : StepState → Type 0
  Grows left = (h : List Exchange) → left.heard ≡ Some h
      → (more : List Exchange) × (end.heard ≡ Some (h ++ more))

  ended : (here : Point A) (left : StepState) → IsAt p end here left → Grows left
  ended here left e = λ h is.
      ([], ap (λ (l : StepState). l.heard) e.1 ∙ is ∙ ap (λ es. Some es) (sym (append-nil h)))

  one_heard : (exchange : Exchange) (left : StepState) → Grows (with_heard exchange left) → Grows left
  one_heard exchange left g = λ h is.
      let m = g (h ++ exchange ∷ []) (ap (hearing (exchange ∷ [])) is) in
      (exchange ∷ m.0, m.1 ∙ ap (λ es. Some es) (append_assoc h (exchange ∷ []) m.0))

  pub grown : (s : Steps A) (left : StepState) → RunTo p end s left → Grows left
  grown (load name next) left g = let a = past_load name next left g in
      grown (next a.0) (with_asked (File name) left) a.2
  grown (take_input limit long next) left g = let a = past_input limit long next left g in
      by_length a.0 a.1 a.3 (λ k. grown (next a.0) (with_input a.1 left) k)
    where
      by_length : (bytes : List ℕ) (rest : Option (List ℕ))
          → ((length bytes ≡ limit + 1) × IsAt p end (refuses long) (with_input rest left))
          ⊎ ((length bytes ≤ limit) × IsAtEnd rest
          × RunTo p end (next bytes) (with_input rest left))
          → (RunTo p end (next bytes) (with_input rest left) → Grows (with_input rest left))
          → Grows left
      by_length bytes rest (inl (more, e)) go = ended (refuses long) (with_input rest left) e
      by_length bytes rest (inr (short, d, k)) go = go k
  grown (borrow_dice seat next) left g =
      grown next (with_asked (RandomSource seat) left) (past_dice seat next left g)
  grown (borrow_tape name access absent next) left g =
      by_tape (past_borrow name access absent next left g)
      (λ k. grown next (with_tape (makes access) name (with_asked (Tape name access) left)) k)
    where
      by_tape : ((makes access ≡ false) × Agrees (left.tapes name) None
          × IsAt p end (refuses absent) (with_asked (Tape name access) left))
          ⊎ (MayBorrow (left.tapes name) (makes access)
          × RunTo p end next (with_tape (makes access) name (with_asked (Tape name access) left)))
          → (RunTo p end next (with_tape (makes access) name (with_asked (Tape name access) left))
          → Grows left)
          → Grows left
      by_tape (inl (may, agrees, e)) go =
          ended (refuses absent) (with_asked (Tape name access) left) e
      by_tape (inr (may, k)) go = go k
  grown (read_tape object name next) left g = let a = past_read object name next left g in
      grown (next a.0) left a.2
  grown (write_row object name store row next) left g =
      let a = past_write object name store row next left g in
      grown next (with_told name a.0 left) a.2
  grown (keep_rows name store next) left (told, holds, g) = grown next (with_told name told left) g
  grown (settle object name next) left g =
      grown next (with_asked (Settled name) left) (past_settle object name next left g)
  grown (draw seat size next) left g = let a = past_draw seat size next left g in
      grown (next a.0) (with_dice seat a.1 left) a.4
  grown (borrow_link seat plugin program next) left g =
      grown next (with_asked (Link seat plugin program) left)
      (past_link seat plugin program next left g)
  grown (ask_status seat plugin next) left g = let a = past_status seat plugin next left g in
      one_heard (StatusCall plugin (Ok a.0)) left
      (grown (next a.0) (with_heard (StatusCall plugin (Ok a.0)) left) a.1)
  grown (wrap seat plugin plain next) left g = let a = past_wrap seat plugin plain next left g in
      one_heard (WrapCall plugin plain (Ok a.0)) left
      (grown (next a.0) (with_heard (WrapCall plugin plain (Ok a.0)) left) a.1)
  grown (unwrap seat key next) left g = let a = past_unwrap seat key next left g in
      one_heard (UnwrapCall key (Ok a.0)) left
      (grown (next a.0) (with_heard (UnwrapCall key (Ok a.0)) left) a.1)
  grown (give_back name next) left g = grown next (with_asked (Returned name) left) g
  grown (note text next) left g = grown next (with_said text left) g
  grown (find B P next) left g = let a = past_find B P next left g in grown (next a.0) left a.2
  grown (refuse why) left g = ended (refuses why) left g
  grown (give x) left g = ended (gives x) left g
