-- What holds of all that plugins were asked in the end holds of what they were asked before, and of
-- what they wrapped.
use Rattle.std.proofs.Common.{◌≡◌, ℕ, ◌+◌, List, [], ◌∷◌, ◌++◌, All, Option, None, Some, Ok, Err, refl, sym, subst, inl, inr}
use Rattle.std.proofs.lemmas.List.Elements.{All-cons, All-nil, All-head, All-tail}
use Rattle.kr_kms.specs.Exchanges.{AgreesWith, Exchange, StatusCall, UnwrapCall, WrapCall}
use Rattle.kr_kms.specs.Health.{breach_in}
use Rattle.kr_kms.specs.Outside.{makes}
use Rattle.kr_kms.specs.Opens.{OpenAll, Opens, key_of}
use Rattle.kr_kms.specs.declared.health.Field.{Field}
use Rattle.kr_kms.specs.declared.plugin.KmsNo.TheVariants.{Failed}
use Rattle.kr_kms.specs.declared.seeds.SeedRow.{SeedRow}
use Rattle.kr_kms.specs.declared.world.WorldCall.TheVariants.{File, Link, RandomSource, Settled, Tape}
use Rattle.kr_cmd_steps.specs.Plugins.{make_seed, make_seeds, unless_breach, wrap_seed}
use Rattle.kr_cmd_steps.specs.Steps.{Steps, load, take_input, borrow_dice, borrow_tape, read_tape, write_row, keep_rows, settle, give_back, draw, borrow_link, ask_status, wrap, unwrap, note, find, refuse, give, and_then, gives, Point, StepState, RunTo, hearing, with_asked, with_dice, with_heard, with_input, with_tape, with_told}
use Rattle.kr_cmd_laws.proofs.Joints.{joint, no_value, one_value}

module _ (P : Exchange → Type 0) where
  -- what was heard is told, and this holds of it
  abbrev pub AllTold : Option (List Exchange) → Type 0
  AllTold heard = (exchanges : List Exchange) × (heard ≡ Some exchanges) × All P exchanges

  split : (a b : List Exchange) → All P (a ++ b) → All P a × All P b
  split [] b all = (All-nil P, all)
  split (e ∷ a) b all = let rest = split a b (All-tail P e (a ++ b) all) in
      (All-cons P e a (All-head P e (a ++ b) all) rest.0, rest.1)

  -- so it is of what was heard before, and of the last exchange
  pub earlier : (e : Exchange) (heard : Option (List Exchange))
      → AllTold (hearing (e ∷ []) heard) → AllTold heard × P e
  earlier e None (exchanges, is, all) = absurd (let no : None ≡ Some exchanges = is in cc)
  earlier e (Some before) (exchanges, is, all) =
      let same : exchanges ≡ before ++ e ∷ [] =
      (let eq : Some (before ++ e ∷ []) ≡ Some exchanges = is in cc) in
      let parts = split before (e ∷ []) (subst (All P) same all) in
      ((before, refl, parts.0), All-head P e [] parts.1)

  -- ---- any steps

  module _ {A : Type 0} (point : Point A) (end : StepState) (all : AllTold end.heard) where
    at : (left : StepState) {here : Point A} → (point ≡ here) × (end ≡ left) → AllTold left.heard
    at left e = subst (λ (l : StepState). AllTold l.heard) e.1 all

    before : (e : Exchange) (left : StepState) {here : Point A}
        → (point ≡ here) × (end ≡ with_heard e left) → AllTold left.heard
    before e left is = (earlier e left.heard (at (with_heard e left) is)).0

    -- so it is of what was heard before them
    pub told_before : (s : Steps A) (left : StepState) → RunTo point end s left → AllTold left.heard
    told_before (load name next) left (inl e) = at left e
    told_before (load name next) left (inr (inl e)) = at (with_asked (File name) left) e
    told_before (load name next) left (inr (inr (bytes, agrees, goes))) =
        told_before (next bytes) (with_asked (File name) left) goes
    told_before (take_input limit long next) left (bytes, rest, c, inl (short, e)) =
        at (with_input rest left) e
    told_before (take_input limit long next) left (bytes, rest, c, inr (inl (more, e))) =
        at (with_input rest left) e
    told_before (take_input limit long next) left (bytes, rest, c, inr (inr (short, d, goes))) =
        told_before (next bytes) (with_input rest left) goes
    told_before (borrow_dice seat next) left (inl e) = at left e
    told_before (borrow_dice seat next) left (inr (inl e)) =
        at (with_asked (RandomSource seat) left) e
    told_before (borrow_dice seat next) left (inr (inr goes)) =
        told_before next (with_asked (RandomSource seat) left) goes
    told_before (borrow_tape name access absent next) left (inl e) = at left e
    told_before (borrow_tape name access absent next) left (inr (inl e)) =
        at (with_asked (Tape name access) left) e
    told_before (borrow_tape name access absent next) left (inr (inr (inl (may, agrees, e)))) =
        at (with_asked (Tape name access) left) e
    told_before (borrow_tape name access absent next) left (inr (inr (inr (may, goes)))) =
        told_before next (with_tape (makes access) name (with_asked (Tape name access) left)) goes
    told_before (read_tape object name next) left (inl e) = at left e
    told_before (read_tape object name next) left (inr (bytes, agrees, goes)) =
        told_before (next bytes) left goes
    told_before (write_row object name store row next) left (inl (told, begins, e)) =
        at (with_told name told left) e
    told_before (write_row object name store row next) left (inr (told, holds, goes)) =
        told_before next (with_told name told left) goes
    told_before (keep_rows name store next) left (told, holds, goes) =
        told_before next _ goes
    told_before (settle object name next) left (inl e) = at left e
    told_before (settle object name next) left (inr goes) =
        told_before next (with_asked (Settled name) left) goes
    told_before (draw seat size next) left (inl e) = at left e
    told_before (draw seat size next) left (inr (bytes, rest, c, fits, goes)) =
        told_before (next bytes) (with_dice seat rest left) goes
    told_before (borrow_link seat plugin program next) left (inl e) = at left e
    told_before (borrow_link seat plugin program next) left (inr (inl e)) =
        at (with_asked (Link seat plugin program) left) e
    told_before (borrow_link seat plugin program next) left (inr (inr goes)) =
        told_before next (with_asked (Link seat plugin program) left) goes
    told_before (ask_status seat plugin next) left (inl e) = at left e
    told_before (ask_status seat plugin next) left (inr (inl (answer, e))) =
        before (StatusCall plugin answer) left e
    told_before (ask_status seat plugin next) left (inr (inr (inl e))) =
        before (StatusCall plugin (Err Failed)) left e
    told_before (ask_status seat plugin next) left (inr (inr (inr (status, agrees, goes)))) =
        (earlier (StatusCall plugin (Ok status)) left.heard
        (told_before (next status) (with_heard (StatusCall plugin (Ok status)) left) goes)).0
    told_before (wrap seat plugin plain next) left (inl e) = at left e
    told_before (wrap seat plugin plain next) left (inr (inl (answer, e))) =
        before (WrapCall plugin plain answer) left e
    told_before (wrap seat plugin plain next) left (inr (inr (inl e))) =
        before (WrapCall plugin plain (Err Failed)) left e
    told_before (wrap seat plugin plain next) left
        (inr (inr (inr (wrapped, within, goes)))) =
        (earlier (WrapCall plugin plain (Ok wrapped)) left.heard
        (told_before (next wrapped) (with_heard (WrapCall plugin plain (Ok wrapped)) left)
        goes)).0
    told_before (unwrap seat key next) left (inl e) = at left e
    told_before (unwrap seat key next) left (inr (inl (answer, e))) =
        before (UnwrapCall key answer) left e
    told_before (unwrap seat key next) left (inr (inr (inl e))) =
        before (UnwrapCall key (Err Failed)) left e
    told_before (unwrap seat key next) left (inr (inr (inr (bytes, goes)))) =
        (earlier (UnwrapCall key (Ok bytes)) left.heard
        (told_before (next bytes) (with_heard (UnwrapCall key (Ok bytes)) left) goes)).0
    told_before (give_back name next) left goes = told_before next _ goes
    told_before (note text next) left goes = told_before next _ goes
    told_before (find B Is next) left (inl e) = at left e
    told_before (find B Is next) left (inr (b, is, goes)) = told_before (next b) left goes
    told_before (refuse why) left e = at left e
    told_before (give x) left e = at left e

  -- ---- seeds

  module _ (opens : Opens) (agreed : (e : Exchange) → P e → AgreesWith opens e) where
    abbrev SeedOpens : SeedRow → Type 0
    SeedOpens row = opens (key_of row) ≡ Some row.seed

    module _ (row : SeedRow) (end : StepState) (all : AllTold end.heard) where
      wrapped_so : (plugin : List ℕ) (left : StepState) → RunTo (gives row) end (wrap_seed plugin) left
          → SeedOpens row
      wrapped_so plugin left (inl e) = absurd (no_value e refl)
      wrapped_so plugin left (inr (bytes, rest, c, fits, inl e)) = absurd (no_value e refl)
      wrapped_so plugin left (inr (bytes, rest, c, fits, inr (inl (answer, e)))) =
          absurd (no_value e refl)
      wrapped_so plugin left (inr (bytes, rest, c, fits, inr (inr (inl e)))) =
          absurd (no_value e refl)
      wrapped_so plugin left
          (inr (bytes, rest, c, fits, inr (inr (inr (wrapped, within, e))))) =
          subst SeedOpens (sym (one_value e))
          (agreed (WrapCall plugin bytes (Ok wrapped))
          (earlier (WrapCall plugin bytes (Ok wrapped)) left.heard
          (subst (λ (l : StepState). AllTold l.heard) e.1 all)).1)

      unbroken : (plugin : List ℕ) (breach : Option (Field × List ℕ)) (left : StepState)
          → RunTo (gives row) end (unless_breach plugin breach (wrap_seed plugin)) left
          → SeedOpens row
      unbroken plugin None left goes = wrapped_so plugin left goes
      unbroken plugin (Some breach) left e = absurd (no_value e refl)

      made_so : (plugin : List ℕ) (left : StepState) → RunTo (gives row) end (make_seed plugin) left
          → SeedOpens row
      made_so plugin left (inl e) = absurd (no_value e refl)
      made_so plugin left (inr (inl (answer, e))) = absurd (no_value e refl)
      made_so plugin left (inr (inr (inl e))) = absurd (no_value e refl)
      made_so plugin left (inr (inr (inr (status, agrees, goes)))) =
          unbroken plugin (breach_in status) _ goes

    pub seeds_open : (plugins : List (List ℕ)) (rows : List SeedRow) (end left : StepState)
        → AllTold end.heard → RunTo (gives rows) end (make_seeds plugins) left
        → OpenAll opens rows
    seeds_open [] rows end left all e =
        subst (OpenAll opens) (sym (one_value e)) (All-nil SeedOpens)
    seeds_open (plugin ∷ plugins) rows end left all goes =
        let j = joint (λ row. and_then (make_seeds plugins) (λ others. give (row ∷ others))) rows end
        (make_seed plugin) left goes in
        let k = joint (λ others. give (j.0 ∷ others)) rows end (make_seeds plugins) j.1 j.3 in
        let late : AllTold k.1.heard =
        subst (λ (l : StepState). AllTold l.heard) k.3.1 all in
        subst (OpenAll opens) (sym (one_value k.3))
        (All-cons SeedOpens j.0 k.0
        (made_so j.0 j.1 (told_before (gives k.0) k.1 late (make_seeds plugins) j.1 k.2) plugin left
        j.2)
        (seeds_open plugins k.0 k.1 j.1 late k.2))
