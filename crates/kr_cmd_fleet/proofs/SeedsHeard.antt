-- The seeds that steps make: each was wrapped by its plugin, with the key that it answered, so that
-- it opens by all openings that agree with what was asked.
use Rattle.std.proofs.Common.{◌≡◌, ℕ, Bool, true, false, List, [], ◌∷◌, ◌++◌, Option, None, Some, Ok, refl, sym, ◌∙◌, ap, subst, inl, inr}
use Rattle.std.proofs.lemmas.List.Elements.{All-cons, All-nil}
use Rattle.kr_kms.specs.Exchanges.{AgreeAll, AgreesWith, Exchange, StatusCall, WrapCall}
use Rattle.kr_kms.specs.Health.{breach_in}
use Rattle.kr_kms.specs.Opens.{OpenAll, Opens, key_of}
use Rattle.kr_kms.specs.declared.health.Field.{Field}
use Rattle.kr_kms.specs.declared.seeds.SeedRow.{SeedRow}
use Rattle.kr_kms.proofs.Opening.{agree_parts}
use Rattle.kr_cmd_steps.specs.Environment.{Environment, step_state}
use Rattle.kr_cmd_steps.specs.Plugins.{make_seed, make_seeds, seed_row, unless_breach, wrap_seed}
use Rattle.kr_cmd_steps.specs.Steps.{RunTo, IsAt, StepState, Point, Steps, and_then, ask_status, borrow_dice, borrow_link, borrow_tape, draw, find, give, give_back, gives, hearing, keep_rows, load, note, read_tape, refuse, settle, take_input, unwrap, with_heard, wrap, write_row}
use Rattle.kr_cmd_steps.specs.inner.Phases.{Does}
use Rattle.kr_cmd_steps.proofs.RunTo.{stays_refl}

-- ---- steps that gave something

abbrev is_value : {A : Type 0} → Point A → Bool
is_value (gives x) = true
is_value point = false

-- nothing else is a value
no_value : {A : Type 0} {x : A} {end left : StepState} {here : Point A}
    → IsAt (gives x) end here left → is_value here ≡ false → ⊥
no_value at none = absurd (let e : true ≡ false = ap is_value at.0 ∙ none in cc)

abbrev value_or : {A : Type 0} → A → Point A → A
value_or other (gives x) = x
value_or other point = other

-- what was made of what the first of them gave
module _ {A B : Type 0} (f : A → B) (y : B) (end : StepState) where
  abbrev Mapped : Steps A → StepState → Type 0
  Mapped first left = (x : A) × (y ≡ f x) × RunTo (gives x) end first left

  mapped : (first : Steps A) (left : StepState)
      → RunTo (gives y) end (and_then first (λ x. give (f x))) left → Mapped first left
  mapped (load name next) left (inl at) = absurd (no_value at refl)
  mapped (load name next) left (inr (inl at)) = absurd (no_value at refl)
  mapped (load name next) left (inr (inr (bytes, agrees, goes))) =
      let m = mapped (next bytes) _ goes in (m.0, m.1, inr (inr (bytes, agrees, m.2)))
  mapped (take_input limit long next) left (bytes, rest, c, inl (short, at)) =
      absurd (no_value at refl)
  mapped (take_input limit long next) left (bytes, rest, c, inr (inl (more, at))) =
      absurd (no_value at refl)
  mapped (take_input limit long next) left (bytes, rest, c, inr (inr (short, e, goes))) =
      let m = mapped (next bytes) _ goes in
      (m.0, m.1, (bytes, rest, c, inr (inr (short, e, m.2))))
  mapped (borrow_dice seat next) left (inl at) = absurd (no_value at refl)
  mapped (borrow_dice seat next) left (inr (inl at)) = absurd (no_value at refl)
  mapped (borrow_dice seat next) left (inr (inr goes)) =
      let m = mapped next _ goes in (m.0, m.1, inr (inr m.2))
  mapped (borrow_tape name access absent next) left (inl at) = absurd (no_value at refl)
  mapped (borrow_tape name access absent next) left (inr (inl at)) = absurd (no_value at refl)
  mapped (borrow_tape name access absent next) left (inr (inr (inl (may, agrees, at)))) =
      absurd (no_value at refl)
  mapped (borrow_tape name access absent next) left (inr (inr (inr (may, goes)))) =
      let m = mapped next _ goes in (m.0, m.1, inr (inr (inr (may, m.2))))
  mapped (read_tape object name next) left (inl at) = absurd (no_value at refl)
  mapped (read_tape object name next) left (inr (bytes, agrees, goes)) =
      let m = mapped (next bytes) left goes in (m.0, m.1, inr (bytes, agrees, m.2))
  mapped (write_row object name store row next) left (inl (told, begins, at)) =
      absurd (no_value at refl)
  mapped (write_row object name store row next) left (inr (told, holds, goes)) =
      let m = mapped next _ goes in (m.0, m.1, inr (told, holds, m.2))
  mapped (keep_rows name store next) left (told, holds, goes) =
      let m = mapped next _ goes in (m.0, m.1, (told, holds, m.2))
  mapped (settle object name next) left (inl at) = absurd (no_value at refl)
  mapped (settle object name next) left (inr goes) =
      let m = mapped next _ goes in (m.0, m.1, inr m.2)
  mapped (give_back name next) left goes =
      let m = mapped next _ goes in (m.0, m.1, m.2)
  mapped (draw seat size next) left (inl at) = absurd (no_value at refl)
  mapped (draw seat size next) left (inr (bytes, rest, c, fits, goes)) =
      let m = mapped (next bytes) _ goes in (m.0, m.1, inr (bytes, rest, c, fits, m.2))
  mapped (borrow_link seat plugin program next) left (inl at) = absurd (no_value at refl)
  mapped (borrow_link seat plugin program next) left (inr (inl at)) = absurd (no_value at refl)
  mapped (borrow_link seat plugin program next) left (inr (inr goes)) =
      let m = mapped next _ goes in (m.0, m.1, inr (inr m.2))
  mapped (ask_status seat plugin next) left (inl at) = absurd (no_value at refl)
  mapped (ask_status seat plugin next) left (inr (inl (answer, at))) = absurd (no_value at refl)
  mapped (ask_status seat plugin next) left (inr (inr (inl at))) = absurd (no_value at refl)
  mapped (ask_status seat plugin next) left (inr (inr (inr (status, agrees, goes)))) =
      let m = mapped (next status) _ goes in
      (m.0, m.1, inr (inr (inr (status, agrees, m.2))))
  mapped (wrap seat plugin plain next) left (inl at) = absurd (no_value at refl)
  mapped (wrap seat plugin plain next) left (inr (inl (answer, at))) = absurd (no_value at refl)
  mapped (wrap seat plugin plain next) left (inr (inr (inl at))) = absurd (no_value at refl)
  mapped (wrap seat plugin plain next) left (inr (inr (inr (wrapped, within, goes)))) =
      let m = mapped (next wrapped) _ goes in
      (m.0, m.1, inr (inr (inr (wrapped, within, m.2))))
  mapped (unwrap seat key next) left (inl at) = absurd (no_value at refl)
  mapped (unwrap seat key next) left (inr (inl (answer, at))) = absurd (no_value at refl)
  mapped (unwrap seat key next) left (inr (inr (inl at))) = absurd (no_value at refl)
  mapped (unwrap seat key next) left (inr (inr (inr (bytes, goes)))) =
      let m = mapped (next bytes) _ goes in (m.0, m.1, inr (inr (inr (bytes, m.2))))
  mapped (note text next) left goes =
      let m = mapped next _ goes in (m.0, m.1, m.2)
  mapped (find D P next) left (inl at) = absurd (no_value at refl)
  mapped (find D P next) left (inr (d, is, goes)) =
      let m = mapped (next d) left goes in (m.0, m.1, inr (d, is, m.2))
  mapped (refuse why) left at = absurd (no_value at refl)
  mapped (give x) left at = (x, ap (value_or y) at.0, (refl, at.1))

-- ---- seeds

module _ (opens : Opens) where
  -- what was heard is told, and agrees
  abbrev AgreeHeard : Option (List Exchange) → Type 0
  AgreeHeard heard = (exchanges : List Exchange) × (heard ≡ Some exchanges)
      × AgreeAll opens exchanges

  -- so does what was heard before, and the last exchange
  earlier : (e : Exchange) (heard : Option (List Exchange)) → AgreeHeard (hearing (e ∷ []) heard)
      → AgreeHeard heard × AgreesWith opens e
  earlier e None (exchanges, is, all) = absurd (let no : None ≡ Some exchanges = is in cc)
  earlier e (Some before) (exchanges, is, all) =
      let same : exchanges ≡ before ++ e ∷ [] =
      (let eq : Some (before ++ e ∷ []) ≡ Some exchanges = is in cc) in
      let parts = agree_parts opens before (e ∷ []) (subst (AgreeAll opens) same all) in
      ((before, refl, parts.0), parts.1.0)

  abbrev SeedOpens : SeedRow → Type 0
  SeedOpens row = opens (key_of row) ≡ Some row.seed

  module _ {A : Type 0} (plugin : List ℕ) (next : SeedRow → Steps A) (x : A) (end : StepState) where
    -- a seed was made, from which the others went on; it opens where what was heard then agrees
    abbrev Made : StepState → Type 0
    Made left = (row : SeedRow) × (mid : StepState) × RunTo (gives x) end (next row) mid
        × (AgreeHeard mid.heard → AgreeHeard left.heard × SeedOpens row)

    wrapped_so : (left : StepState) → RunTo (gives x) end (and_then (wrap_seed plugin) next) left
        → Made left
    wrapped_so left (inl at) = absurd (no_value at refl)
    wrapped_so left (inr (seed, rest, c, fits, inl at)) = absurd (no_value at refl)
    wrapped_so left (inr (seed, rest, c, fits, inr (inl (answer, at)))) =
        absurd (no_value at refl)
    wrapped_so left (inr (seed, rest, c, fits, inr (inr (inl at)))) = absurd (no_value at refl)
    wrapped_so left (inr (seed, rest, c, fits, inr (inr (inr (wrapped, within, goes))))) = (
      seed_row plugin seed wrapped,
      _,
      goes,
      λ agree. earlier (WrapCall plugin seed (Ok wrapped)) left.heard agree,
    )

    unbroken : (breach : Option (Field × List ℕ)) (left : StepState)
        → RunTo (gives x) end (and_then (unless_breach plugin breach (wrap_seed plugin)) next) left
        → Made left
    unbroken None left goes = wrapped_so left goes
    unbroken (Some breach) left at = absurd (no_value at refl)

    made_so : (left : StepState) → RunTo (gives x) end (and_then (make_seed plugin) next) left
        → Made left
    made_so left (inl at) = absurd (no_value at refl)
    made_so left (inr (inl (answer, at))) = absurd (no_value at refl)
    made_so left (inr (inr (inl at))) = absurd (no_value at refl)
    made_so left (inr (inr (inr (status, agrees, goes)))) =
        let asked = with_heard (StatusCall plugin (Ok status)) left in
        let m = unbroken (breach_in status) asked goes in (
          m.0,
          m.1,
          m.2,
          λ agree. let h = m.3 agree in
              ((earlier (StatusCall plugin (Ok status)) left.heard h.0).0, h.1),
        )

  seeds_made : (plugins : List (List ℕ)) (rows : List SeedRow) (end left : StepState)
      → RunTo (gives rows) end (make_seeds plugins) left → AgreeHeard end.heard
      → AgreeHeard left.heard × OpenAll opens rows
  seeds_made [] rows end left at agree = (
    subst (λ (l : StepState). AgreeHeard l.heard) at.1 agree,
    subst (OpenAll opens) (sym (ap (value_or rows) at.0)) (All-nil SeedOpens),
  )
  seeds_made (plugin ∷ plugins) rows end left goes agree =
      let s = made_so plugin (λ row. and_then (make_seeds plugins) (λ others. give (row ∷ others)))
      rows end left goes in
      let m = mapped (λ others. s.0 ∷ others) rows end (make_seeds plugins) s.1 s.2 in
      let rest = seeds_made plugins m.0 end s.1 m.2 agree in
      let first = s.3 rest.0 in
      (first.0, subst (OpenAll opens) (sym m.1) (All-cons SeedOpens s.0 m.0 first.1 rest.1))

-- nothing is told, and no plugin was asked before
abbrev pub listening : Environment
listening = record {
  world = record {
    file = λ name. None;
    asked = None;
    faults = record { loads = 0; tapes = 0; dice = 0; links = 0 };
    dice = record { told = λ key. None; faults = λ key. 0; out = λ key. 0; handed = None };
    tapes = record { told = λ key. None; faults = λ key. 0; out = λ key. 0; handed = None };
    links = record { told = λ key. None; faults = λ key. 0; out = λ key. 0; handed = None };
  };
  input = None;
  faults = 0;
  said = [];
  heard = Some [];
}

pub made_open : {old new : Environment} (plugins : List (List ℕ)) (seeds : List SeedRow)
    (es : List Exchange) → Does (make_seeds plugins) old new (Ok seeds) → new.heard ≡ Some es
    → (opens : Opens) → AgreeAll opens es → OpenAll opens seeds
made_open {old} {new} plugins seeds es d is opens agree =
    let r = d.ends (step_state old) (stays_refl old) in
    (seeds_made opens plugins seeds r.end (step_state old) r.goes
    (es, sym r.stays.heard ∙ is, agree)).1
