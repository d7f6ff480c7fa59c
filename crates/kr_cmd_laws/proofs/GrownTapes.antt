-- What a put leaves of the tapes, by where its steps come to.
use Rattle.std.proofs.Common.{◌≡◌, ℕ, List, [], ◌∷◌, ◌++◌, Bool, true, false, Option, Some, Ok, Err, refl, sym, ◌∙◌, ap, subst, inl, inr}
use Rattle.std.specs.Prelude.{◌⊎◌, nat_lt, length, if◌then◌else◌}
use Rattle.std.specs.Option.{option_map}
use Rattle.kr_base.specs.Limits.{store_limit}
use Rattle.kr_base.specs.Told.{Agrees}
use Rattle.kr_config.specs.Kept.{ConfigEntry}
use Rattle.kr_config.specs.Lists.{list_of}
use Rattle.kr_kms.specs.Outside.{same_name}
use Rattle.kr_provider.specs.PluginOrder.{plugin_order}
use Rattle.kr_provider.specs.Readers.{writer_of}
use Rattle.kr_opening.specs.Checks.{store_check}
use Rattle.kr_store.specs.File.{file_bytes}
use Rattle.kr_store.specs.Rows.{check_in}
use Rattle.kr_store.specs.declared.rows.LogRow.{LogRow}
use Rattle.kr_kms.specs.declared.world.WorldCall.TheVariants.{Tape}
use Rattle.kr_kms.specs.declared.world.Access.TheVariants.{ToMake}
use Rattle.kr_cmd_steps.specs.Afterwards.{IsUngrown, OneMore, OthersStay, StillBegins, ToldTape}
use Rattle.kr_cmd_steps.specs.Phases.{adding, by_result, configuration, input_of, linking_programs, silently, stored_on}
use Rattle.kr_cmd_steps.specs.ValueSteps.{bench_steps}
use Rattle.kr_cmd_steps.specs.StoreSteps.{new_row, revision_line, sealed_into, stored_into}
use Rattle.kr_cmd_steps.specs.Commands.{steps}
use Rattle.kr_cmd_steps.specs.Plugins.{settings_programs}
use Rattle.kr_cmd_steps.specs.Steps.{write_row, give, and_then, or_empty, tapes_with, with_asked, with_tape, settle, Steps, Point, awaits, amid, refuses, gives, StepState, IsAt, RunTo}
use Rattle.kr_cmd_steps.specs.StoreFiles.{Stored, IsStored, with_row}
use Rattle.kr_cmd_messages.specs.declared.command.Command.TheVariants.{Put}
use Rattle.kr_cmd_messages.specs.declared.command.Conversion.{Conversion}
use Rattle.kr_cmd_messages.specs.declared.command.Direction.TheVariants.{Encrypt}
use Rattle.kr_cmd_steps.specs.declared.programs.Program.{Program}
use Rattle.kr_cmd_messages.specs.declared.refusal.Limit.TheVariants as limit
use Rattle.kr_cmd_messages.specs.declared.refusal.Object.TheVariants.{Store}
use Rattle.kr_cmd_messages.specs.declared.refusal.Refusal.TheVariants.{Limit}
use Rattle.kr_cmd_messages.specs.declared.refusal.Outcome.{Outcome}
use Rattle.kr_cmd_steps.proofs.RunTo.{Further}
use Rattle.kr_cmd_laws.proofs.Behind.{parted}
use Rattle.kr_cmd_steps.proofs.Points.{IsShort, IsThrough, IsTorn}
use Rattle.kr_cmd_laws.proofs.ReadOnly.{configuration_reads, result_reads, work_reads}
use Rattle.kr_cmd_laws.proofs.Parts.{parts}
use Rattle.kr_cmd_steps.proofs.Tapes.{own_name}

-- how the tapes are left, by where the steps come to
abbrev pub IsGrown : Conversion → (store : List ℕ) → Point Outcome → (old new : List ℕ → ToldTape)
    → Type 0
IsGrown words store p old new = OthersStay store old new × (
    (IsShort p × IsUngrown (old store) (new store))
    ⊎ (IsTorn Store store p × StillBegins (old store) (new store))
    ⊎ (IsThrough Store store p × OneMore words (old store) (new store)))

module _ (words : Conversion) (store : List ℕ) (p : Point Outcome) (end left : StepState) where
  -- what is left of the tapes, since these were left
  abbrev Grown : Type 0
  Grown = IsGrown words store p left.tapes end.tapes

  same : IsShort p × (end.tapes ≡ left.tapes) → Grown
  same (short, e) = (λ other f. ap (λ t. t other) e, inl (short, inl (ap (λ t. t store) e)))

  -- they are so, and the steps end here
  at_end : {here : Point Outcome} {last : StepState} {tapes : List ℕ → ToldTape} → IsAt p end here last
      → IsShort here → last.tapes ≡ tapes → IsShort p × (end.tapes ≡ tapes)
  at_end at short e = (subst IsShort (sym at.0) short, ap (λ l. l.tapes) at.1 ∙ e)

  -- where the tape is out
  abbrev out : List ℕ → Option (Option (List ℕ))
  out = tapes_with true store left.tapes

  out_here : out store ≡ or_empty (left.tapes store)
  out_here = ap (λ q. if q then or_empty (left.tapes store) else left.tapes store) (own_name store)

  out_there : (other : List ℕ) → same_name store other ≡ false → out other ≡ left.tapes other
  out_there other f = ap (λ q. if q then or_empty (left.tapes store) else left.tapes other) f

  made : IsShort p × (end.tapes ≡ out) → Grown
  made (short, e) = (
    λ other f. ap (λ t. t other) e ∙ out_there other f,
    inl (short, inr (ap (λ t. t store) e ∙ out_here)),
  )

  -- where it tells this
  abbrev telling : Option (List ℕ) → List ℕ → Option (Option (List ℕ))
  telling told = λ other. if same_name store other then option_map Some told else out other

  told_here : (told : Option (List ℕ)) → telling told store ≡ option_map Some told
  told_here told = ap (λ q. if q then option_map Some told else out store) (own_name store)

  told_there : (told : Option (List ℕ)) (other : List ℕ) → same_name store other ≡ false
      → telling told other ≡ left.tapes other
  told_there told other f =
      ap (λ q. if q then option_map Some told else out other) f ∙ out_there other f

  module _ (rows : List ConfigEntry) (bytes : List ℕ) (read : Stored)
      (held : Agrees (out store) (Some bytes)) (is : IsStored bytes (Ok read)) where
    at_row : (value : List ℕ) (mid : StepState) → mid.tapes ≡ out
        → RunTo p end (and_then (adding Store store read (new_row read.format words rows value))
        (λ grown. give (silently (revision_line grown)))) mid
        → Grown
    at_row value mid e (inl at) = made (at_end at tt e)
    at_row value mid e (inr (u, v, goes)) = by_limit
        (nat_lt store_limit (length (file_bytes read.format (read.rows ++ row ∷ [])))) goes
      where
        row : LogRow
        row = new_row read.format words rows value

        held_now : Agrees (or_empty (left.tapes store)) (Some bytes)
        held_now = subst (λ t. Agrees t (Some bytes)) out_here held

        by_limit : (large : Bool) → RunTo p end (and_then (and_then
            (by_result (if large then Err (Limit limit.Store) else Ok (with_row row read)))
            (λ grown. write_row Store store read row (give grown)))
            (λ grown. give (silently (revision_line grown)))) mid
            → Grown
        by_limit true at = made (at_end at tt e)
        by_limit false (inl (told, begins, at)) =
            let ends : end.tapes ≡ telling told = ap (λ l. l.tapes) at.1
            ∙ ap (λ (t : List ℕ → Option (Option (List ℕ))). λ other.
            if same_name store other then option_map Some told else t other) e in (
              λ other f. ap (λ t. t other) ends ∙ told_there told other f,
              inr (inl (
                subst (IsTorn Store store) (sym at.0) refl,
                record {
                  bytes = bytes;
                  store = read;
                  told = told;
                  held = held_now;
                  read = is;
                  begins = begins;
                  is_told = ap (λ t. t store) ends ∙ told_here told;
                },
              )),
            )
        by_limit false (inr (told, holds, at)) =
            let ends : end.tapes ≡ telling told = ap (λ l. l.tapes) at.1
            ∙ ap (λ (t : List ℕ → Option (Option (List ℕ))). λ other.
            if same_name store other then option_map Some told else t other) e in (
              λ other f. ap (λ t. t other) ends ∙ told_there told other f,
              inr (inr (
                subst (IsThrough Store store) (sym at.0) refl,
                record {
                  bytes = bytes;
                  store = read;
                  value = value;
                  check = check_in read.format
                      (store_check (writer_of (list_of rows words.resource)));
                  told = told;
                  held = held_now;
                  read = is;
                  holds = holds;
                  is_told = ap (λ t. t store) ends ∙ told_here told;
                },
              )),
            )

  -- on the tape that is out
  abbrev putting_on : List ConfigEntry → List Program → (plain : List ℕ) → Steps Outcome
  putting_on rows programs plain =
      and_then (stored_on Store store) (sealed_into words store rows programs plain)

  on_tape : (rows : List ConfigEntry) (programs : List Program) (plain : List ℕ) (mid : StepState)
      → mid.tapes ≡ left.tapes → RunTo p end (putting_on rows programs plain)
      (with_tape true store (with_asked (Tape store ToMake) mid)) → Grown
  on_tape rows programs plain mid e (inl at) =
      made (at_end at tt (ap (tapes_with true store) e))
  on_tape rows programs plain mid e (inr (bytes, agrees, inl at)) =
      made (at_end at tt (ap (tapes_with true store) e))
  on_tape rows programs plain mid e (inr (bytes, agrees, inr (Err why, is, at))) =
      made (at_end at tt (ap (tapes_with true store) e))
  on_tape rows programs plain mid e (inr (bytes, agrees, inr (Ok read, is, goes))) =
      elim (parts (λ sealed. and_then
      (adding Store store read (new_row read.format words rows sealed.bytes))
      (λ grown. give (silently (revision_line grown)))) p end
      (bench_steps programs Encrypt words.resource words.path rows plain)
      (with_tape true store (with_asked (Tape store ToMake) mid))
      (work_reads programs Encrypt words.resource words.path rows plain) goes) [
        | inl at ↦ made (at.0, at.1 ∙ ap (tapes_with true store) e)
        | inr more ↦ at_row rows bytes read
            (subst (λ (t : List ℕ → Option (Option (List ℕ))).
            Agrees (tapes_with true store t store) (Some bytes)) e agrees) is more.0.bytes more.1
            (more.2 ∙ ap (tapes_with true store) e) more.3
      ]

module _ (words : Conversion) (store : List ℕ) (p : Point Outcome) (end left : StepState) where
  abbrev settling_it : Outcome → Steps Outcome
  settling_it made = settle Store store (give made)

  -- since the steps before the settling were left so
  through : (mid : StepState) → mid.tapes ≡ end.tapes → (q : Point Outcome)
      → (IsThrough Store store q → IsThrough Store store p) → (IsShort q → IsShort p)
      → (IsTorn Store store q → IsTorn Store store p) → Grown words store q mid left
      → Grown words store p end left
  through mid e q whole short torn (others, grown) = (
    λ other f. sym (ap (λ t. t other) e) ∙ others other f,
    elim grown [
      | inl none ↦ inl (short none.0, subst (λ t. IsUngrown (left.tapes store) (t store)) e none.1)
      | inr more ↦ elim more [
        | inl begins ↦ inr (inl (
          torn begins.0,
          subst (λ t. StillBegins (left.tapes store) (t store)) e begins.1,
        ))
        | inr one ↦ inr (inr (
          whole one.0,
          subst (λ t. OneMore words (left.tapes store) (t store)) e one.1,
        ))
      ]
    ],
  )

  ended_so : (q : Point Outcome) (mid : StepState) → (p ≡ q) × (end ≡ mid)
      → Grown words store q mid left → Grown words store p end left
  ended_so q mid at grown = subst (λ l. Grown words store p l left) (sym at.1)
      (subst (λ r. Grown words store r mid left) (sym at.0) grown)

  settled_on : (q : Point Outcome) (mid : StepState) → Grown words store q mid left
      → Further p end settling_it q mid → Grown words store p end left
  settled_on (awaits call) mid grown at = ended_so (awaits call) mid at grown
  settled_on amid mid grown at = ended_so amid mid at grown
  settled_on (refuses why) mid grown at = ended_so (refuses why) mid at grown
  settled_on (gives x) mid grown (inl at) = through mid (sym (ap (λ l. l.tapes) at.1)) (gives x)
      (λ is. subst (IsThrough Store store) (sym at.0) refl) (λ none. absurd none)
      (λ none. absurd none) grown
  settled_on (gives x) mid grown (inr at) = through mid (sym (ap (λ l. l.tapes) at.1)) (gives x)
      (λ is. subst (IsThrough Store store) (sym at.0) is) (λ none. absurd none)
      (λ none. absurd none) grown

  at_tape : (rows : List ConfigEntry) (programs : List Program) (bytes : List ℕ) (mid : StepState)
      → mid.tapes ≡ left.tapes → RunTo p end (stored_into words store rows programs bytes) mid
      → Grown words store p end left
  at_tape rows programs plain mid e (inl at) =
      same words store p end left (at_end words store p end left at tt e)
  at_tape rows programs plain mid e (inr (inl at)) =
      same words store p end left (at_end words store p end left at tt e)
  at_tape rows programs plain mid e (inr (inr (inl (never, agrees, at)))) =
      absurd (let t : true ≡ false = never in cc)
  at_tape rows programs plain mid e (inr (inr (inr (may, goes)))) =
      let r = parted settling_it p end (putting_on words store p end left rows programs plain) _
      goes in
      settled_on r.0 r.1 (on_tape words store r.0 r.1 left rows programs plain mid e r.2) r.3

  unmoved : IsShort p × (end.tapes ≡ left.tapes) → Grown words store p end left
  unmoved at = same words store p end left at

  pub put_grows : RunTo p end (steps (Put words store)) left → Grown words store p end left
  put_grows goes = elim (parts (λ rows. and_then (linking_programs words.options rows)
      (λ programs. and_then (input_of Encrypt) (stored_into words store rows programs))) p end
      (configuration words.config) left (configuration_reads words.config) goes) [
        | inl at ↦ unmoved at
        | inr first ↦ elim (parts (λ programs. and_then (input_of Encrypt)
            (stored_into words store first.0 programs)) p end
            (linking_programs words.options first.0) first.1
            (λ u. result_reads (settings_programs words.options (plugin_order first.0))) first.3) [
              | inl at ↦ unmoved (at.0, at.1 ∙ first.2)
              | inr second ↦ elim (parts (stored_into words store first.0 second.0) p end
                  (input_of Encrypt) second.1 (λ bytes. tt) second.3) [
                    | inl at ↦ unmoved (at.0, at.1 ∙ second.2 ∙ first.2)
                    | inr third ↦ at_tape first.0 second.0 third.0 third.1
                        (third.2 ∙ second.2 ∙ first.2) third.3
                  ]
            ]
      ]
