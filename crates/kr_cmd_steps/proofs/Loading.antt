-- A store that is loaded from a tape, which is out.
use Rattle.std.proofs.Common.{◌≡◌, ℕ, ◌≤◌, List, length, Option, None, Some, Result, Ok, Err, refl, sym, ◌∙◌, ap, subst, inl, inr, arith}
use Rattle.std.specs.Prelude.{Bool, true, false, if◌then◌else◌}
use Rattle.std.specs.Option.{option_map}
use Rattle.kr_base.specs.Faults.{Rose, counted}
use Rattle.kr_base.specs.Limits.{store_limit}
use Rattle.kr_base.specs.Told.{Agrees}
use Rattle.kr_kms.specs.Outside.{same_name}
use Rattle.kr_store.specs.File.{IsFile}
use Rattle.kr_store.specs.Stores.{Kept, Loads, HasBreach, load_failed}
use Rattle.kr_store.specs.declared.answers.StoreNo.{StoreNo}
use Rattle.kr_store.specs.declared.answers.StoreNo.TheVariants as no
use Rattle.kr_cmd_steps.specs.Environment.{Environment, IsStateOf, StepsEndAt, IsHome, Ends}
use Rattle.kr_cmd_steps.specs.Phases.{stored_on}
use Rattle.kr_cmd_steps.specs.Steps.{Steps, scanning, Point, awaits, StepState, with_told}
use Rattle.kr_cmd_steps.specs.StoreFiles.{Stored, IsStored, store_no}
use Rattle.kr_cmd_steps.specs.inner.Counting.{is_fault}
use Rattle.kr_cmd_steps.specs.inner.Lent.{with_lent_tape}
use Rattle.kr_cmd_steps.specs.inner.Phases.{Does}
use Rattle.kr_cmd_steps.specs.inner.Tapes.{load_stop, stored_of}
use Rattle.kr_cmd_messages.specs.declared.refusal.Breach.{Breach}
use Rattle.kr_cmd_messages.specs.declared.refusal.Breach.TheVariants as breach
use Rattle.kr_cmd_messages.specs.declared.refusal.Limit.TheVariants as limit
use Rattle.kr_cmd_messages.specs.declared.refusal.Object.{Object}
use Rattle.kr_cmd_messages.specs.declared.refusal.Refusal.{Refusal}
use Rattle.kr_cmd_messages.specs.declared.refusal.Refusal.TheVariants.{Limit, Broken}
use Rattle.kr_cmd_messages.specs.declared.refusal.Stop.{Stop}
use Rattle.kr_cmd_steps.proofs.RunTo.{reach, by_point, by_goes, files_same, stays_as}
use Rattle.kr_cmd_steps.proofs.Lending.{home_same}
use Rattle.kr_cmd_steps.proofs.Tapes.{one_of, own_name}
use Rattle.std.proofs.Math.Nat.{eq-or-lt_of_le}

pub no_less : (q : Bool) (a b n : ℕ) → a ≤ b → (if q then a else n) ≤ (if q then b else n)
no_less true a b n h = h
no_less false a b n h = omega arith

pub agrees_there : (told : Option (List ℕ)) (bytes : List ℕ) → Agrees told bytes
    → Agrees (option_map Some told) (Some bytes)
agrees_there None bytes e = tt
agrees_there (Some held) bytes e = ap Some e

-- a count that rose, and then didn't fall, rose
pub rose_on : (before one count : ℕ) → Rose before one → one ≤ count → Rose before count
rose_on before one count (inl r) h = inl (omega (arith, r, h))
rose_on before one count (inr (x, y)) h = elim (eq-or-lt_of_le h) [
  | inl e ↦ inr (x, sym e ∙ y)
  | inr l ↦ inl (omega (arith, x, y, l))
]

-- what tapes tell, where one of them tells this
abbrev telling : (name : List ℕ) → Option (List ℕ) → (List ℕ → Option (Option (List ℕ)))
    → List ℕ → Option (Option (List ℕ))
telling name told tapes = λ other.
    if same_name name other then option_map Some told else tapes other

-- or something else
pub told_so : (name : List ℕ) (told now : Option (List ℕ))
    (old left : List ℕ → Option (Option (List ℕ)))
    → telling name told old ≡ left → telling name now old ≡ telling name now left
told_so name told now old left e = λ i other. one_of (same_name name other) (option_map Some now)
    (old other) (option_map Some now) (left other) refl
    (λ f. sym (ap (λ q. if q then option_map Some told else old other) f) ∙ ap (λ t. t other) e) i

module _ (name : List ℕ) (told : Option (List ℕ)) (before : ℕ) (a : Environment) where
  abbrev Lent : ℕ → Environment
  Lent count = with_lent_tape name told count a

  -- what is told of the tape
  pub tape_here : {left : StepState} → IsStateOf left (Lent before) → left.tapes name ≡ option_map Some told
  tape_here s = sym (ap (λ t. t name) s.tapes)
      ∙ ap (λ q. if q then option_map Some told else a.world.tapes.told name) (own_name name)

  pub counted_tape : {left : StepState} (count : ℕ) → before ≤ count → IsStateOf left (Lent before)
      → IsStateOf left (Lent count)
  counted_tape count later s = stays_as s refl refl s.tapes s.asked s.heard s.said

  -- it tells something else
  pub retold : {left : StepState} (now : Option (List ℕ)) (count : ℕ) → before ≤ count
      → IsStateOf left (Lent before)
      → IsStateOf (with_told name now left) (with_lent_tape name now count a)
  retold {left} now count later s = stays_as s refl refl
      (told_so name told now a.world.tapes.told left.tapes s.tapes) s.asked s.heard s.said

  pub home_retold : (now : Option (List ℕ)) (count : ℕ) → before ≤ count
      → IsHome (Lent before) (with_lent_tape name now count a)
  home_retold now count later = record {
    files = record { file = refl; later = (files_same a.world).later };
    dice = home_same refl;
    tapes = record {
      out = λ key. refl;
      later = λ key. no_less (same_name name key) before count (a.world.tapes.faults key) later;
    };
    links = home_same refl;
    input = omega arith;
  }

  pub tape_home : (count : ℕ) → before ≤ count → IsHome (Lent before) (Lent count)
  tape_home count later = home_retold told count later

  pub count_here : (n : ℕ) → (Lent n).world.tapes.faults name ≡ n
  count_here n = ap (λ q. if q then n else a.world.tapes.faults name) (own_name name)

  pub tape_rose : (count : ℕ) → Rose before count
      → Rose ((Lent before).world.tapes.faults name) ((Lent count).world.tapes.faults name)
  tape_rose count r = subst (λ x. Rose x ((Lent count).world.tapes.faults name))
      (sym (count_here before)) (subst (λ y. Rose before y) (sym (count_here count)) r)

  module _ (object : Object) where
    scans : {left : StepState} (bytes : List ℕ) (count : ℕ) (read : Result Stored Refusal)
        → before ≤ count → Agrees told bytes → IsStored bytes read → IsStateOf left (Lent before)
        → StepsEndAt (stored_on object name) left (Lent count) (by_point read)
    scans {left} bytes count read later is reads s = reach left (inr (
      bytes,
      subst (λ t. Agrees t (Some bytes)) (sym (tape_here s)) (agrees_there told bytes is),
      inr (read, reads, by_goes read left),
    ))
        (counted_tape count later s)

    not_scanned : {left : StepState} (count : ℕ) → before ≤ count → IsStateOf left (Lent before)
        → StepsEndAt (stored_on object name) left (Lent count) (awaits (scanning object name))
    not_scanned {left} count later s =
        reach left (inl (refl, refl)) (counted_tape count later s)

    breaks : (count : ℕ) → before ≤ count → (broken : Breach) {left : StepState}
        → IsStateOf left (Lent before)
        → HasBreach told store_limit (store_no broken)
        → StepsEndAt (stored_on object name) left (Lent count) (Point.refuses (Broken broken))
    breaks count later broken s (bytes, is, short, first) =
        scans bytes count (Err (Broken broken)) later is (inr (short, broken, first, refl)) s

    module _ {T : Type 0} (tape : T) where
      refuses_at : (count : ℕ) → before ≤ count → (why : StoreNo) {left : StepState}
          → IsStateOf left (Lent before)
          → Loads told store_limit (Err (why, tape)) → (why ≡ no.Failed → Rose before count)
          → Ends (stored_on object name) left (Lent before) (Lent count)
          (Err (load_stop object count why))
      refuses_at count later no.Magic s h r = breaks count later breach.Magic s h
      refuses_at count later (no.Torn at) s h r = breaks count later (breach.Torn at) s h
      refuses_at count later (no.BadRow at) s h r = breaks count later (breach.BadRow at) s h
      refuses_at count later (no.Order at) s h r = breaks count later (breach.Order at) s h
      refuses_at count later no.TooLong s (bytes, is, long) r =
          scans bytes count (Err (Limit limit.Store)) later is (inl (long, refl)) s
      refuses_at count later no.Failed s h r = (
        scanning object name,
        not_scanned count later s,
        (refl, tape_rose count (r refl), sym (count_here count)),
      )
      refuses_at count later no.NoMemory s h r =
          inl (scanning object name, tt, not_scanned count later s)

      pub refuses_store : (new : Option (List ℕ)) (count : ℕ) (why : StoreNo)
          → Loads told store_limit (Err (why, tape)) → new ≡ told → before ≤ count
          → (why ≡ no.Failed → Rose before count)
          → Does (stored_on object name) (Lent before) (with_lent_tape name new count a)
          (Err (load_stop object count why))
      refuses_store new count why h same later r = subst (λ t. Does (stored_on object name)
          (Lent before) (with_lent_tape name t count a) (Err (load_stop object count why)))
          (sym same) (record {
            home = tape_home count later;
            ends = λ left s. refuses_at count later why s h r;
          })

    pub gives_store : (store : Kept) (bytes : List ℕ) → Agrees told bytes
        → (length bytes ≤ store_limit) → IsFile store.format store.rows bytes
        → store.told ≡ told → before ≤ store.count
        → Does (stored_on object name) (Lent before)
        (with_lent_tape name store.told store.count a) (Ok (stored_of store))
    gives_store store bytes is short file same later = subst (λ t. Does (stored_on object name)
        (Lent before) (with_lent_tape name t store.count a) (Ok (stored_of store)))
        (sym same) (record {
          home = tape_home store.count later;
          ends = λ left s. scans bytes store.count (Ok (stored_of store)) later is (short, file) s;
        })

-- a tape that wasn't loaded counts a fault where that is told, and else none
stop_failed : (object : Object) (faults : ℕ) (why : StoreNo)
    → load_failed why ≡ is_fault (load_stop object faults why)
stop_failed object faults no.Magic = refl
stop_failed object faults (no.Torn at) = refl
stop_failed object faults (no.BadRow at) = refl
stop_failed object faults (no.Order at) = refl
stop_failed object faults no.TooLong = refl
stop_failed object faults no.Failed = refl
stop_failed object faults no.NoMemory = refl

pub load_counted : (before now : ℕ) (object : Object) (faults : ℕ) (why : StoreNo) (stop : Stop)
    → now ≡ counted (load_failed why) before → stop ≡ load_stop object faults why
    → now ≡ counted (is_fault stop) before
load_counted before now object faults why stop once is = once
    ∙ ap (λ failed. counted failed before)
    (stop_failed object faults why ∙ sym (ap is_fault is))

-- a store that is closed gives the tape back as it is
pub as_closed : {A : Type 0} (next : Steps A) (name : List ℕ) (a old : Environment)
    {told back : Option (List ℕ)} {count last : ℕ} {result : Result A Stop} → back ≡ told
    → last ≡ count → Does next old (with_lent_tape name told count a) result
    → Does next old (with_lent_tape name back last a) result
as_closed next name a old {told} {last = last} {result} t n d =
    subst (λ b. Does next old (with_lent_tape name b last a) result) (sym t)
    (subst (λ m. Does next old (with_lent_tape name told m a) result) (sym n) d)
