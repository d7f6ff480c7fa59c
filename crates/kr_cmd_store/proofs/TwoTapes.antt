-- A tape that is borrowed, and comes back, while another one is out.
use Rattle.std.proofs.Common.{◌≡◌, ℕ, ◌+◌, List, Option, None, Some, Result, Ok, Err, refl, sym, ◌∙◌, ap, subst, arith}
use Rattle.std.specs.Prelude.{Bool, true, false, ◌-◌, if◌then◌else◌}
use Rattle.std.specs.Option.{option_map}
use Rattle.kr_base.specs.Told.{Agrees}
use Rattle.kr_kms.specs.Outside.{Outside, at_key, same_name, HandsOut, TakesBack, IsTape, KeepsFiles, KeepsObjects, makes}
use Rattle.kr_kms.proofs.Lent.{names_decide}
use Rattle.kr_kms.specs.declared.world.WorldCall.TheVariants.{Tape}
use Rattle.kr_kms.specs.declared.world.Access.{Access}
use Rattle.kr_cmd_steps.specs.Environment.{Environment, with_lent, with_world}
use Rattle.kr_cmd_steps.specs.Phases.{settled_for, tape_for}
use Rattle.kr_cmd_steps.specs.Steps.{Steps}
use Rattle.kr_cmd_steps.specs.inner.Lent.{Tapes, with_lent_tape, with_tapes}
use Rattle.kr_cmd_steps.specs.inner.Phases.{AskedUnless, Does}
use Rattle.kr_cmd_steps.specs.inner.Tapes.{LentTape, NoTape, ReturnedTape, ReturnsSettled, with_settled}
use Rattle.kr_cmd_messages.specs.declared.refusal.Object.{Object}
use Rattle.kr_cmd_messages.specs.declared.refusal.Stop.{Stop}
use Rattle.kr_cmd_messages.specs.declared.refusal.Stop.TheVariants.{Words, Refused, Fault, NoMemory}
use Rattle.kr_cmd_steps.proofs.Settling.{lends_settled}
use Rattle.kr_cmd_steps.proofs.Tapes.{not_lent}

one_of_two : {B : Type 0} (q : Bool) (x y z : B) → (q ≡ false → y ≡ z)
    → (if q then x else y) ≡ (if q then x else z)
one_of_two true x y z h = refl
one_of_two false x y z h = h refl

-- of two numbers of which one is 0
apart_of : (q r : Bool) (n : ℕ) → (q ≡ true → r ≡ false)
    → (n + (if r then 1 else 0)) - (if q then 1 else 0)
    ≡ (n - (if q then 1 else 0)) + (if r then 1 else 0)
apart_of true true n h = absurd (let t : true ≡ false = h refl in cc)
apart_of other another n h = omega arith

-- this one is out, and the other one is borrowed
module _ (name other : List ℕ) (told : Option (List ℕ)) (count : ℕ)
    (apart : same_name name other ≡ false) where
  abbrev pub behind : Tapes → Tapes
  behind tapes = with_lent same_name name (option_map Some told) count tapes

  -- a name isn't both
  not_both : (key : List ℕ) → same_name name key ≡ true → same_name other key ≡ false
  not_both key t = by_test (same_name other key) refl
    where
      by_test : (q : Bool) → same_name other key ≡ q → q ≡ false
      by_test false e = refl
      by_test true e = absurd (let both : true ≡ false =
          sym (subst (λ n. same_name name n ≡ true)
          (sym ((names_decide other key).0 e)) t) ∙ apart in cc)

  there : (tapes : Tapes) → (behind tapes).told other ≡ tapes.told other
  there tapes = ap (λ q. if q then option_map Some told else tapes.told other) apart

  counted : (tapes : Tapes) → (behind tapes).faults other ≡ tapes.faults other
  counted tapes = ap (λ q. if q then count else tapes.faults other) apart

  hands_out : {old out : Tapes} {first : ℕ} → HandsOut same_name old out other first
      → HandsOut same_name (behind old) (behind out) other first
  hands_out {old} {out} h = record {
    count_is = h.count_is ∙ sym (counted old);
    out = λ key. ap (λ n. n - at_key same_name name 1 key) (h.out key)
        ∙ apart_of (same_name name key) (same_name other key) (old.out key) (not_both key);
    handed = h.handed;
    told = λ key n. one_of_two (same_name name key) (option_map Some told) (out.told key)
        (old.told key) (λ f. h.told key n);
    faults = λ key n. one_of_two (same_name name key) count (out.faults key) (old.faults key)
        (λ f. h.faults key n);
  }

  takes_back : {mid new : Tapes} {last : ℕ} → TakesBack same_name mid new other last
      → TakesBack same_name (behind mid) (behind new) other last
  takes_back {mid} {new} h = record {
    count_is = counted new ∙ h.count_is;
    out = λ key. sym (apart_of (same_name name key) (same_name other key) (new.out key)
        (not_both key)) ∙ ap (λ n. n - at_key same_name name 1 key) (h.out key);
    handed = h.handed;
    told = λ key n. one_of_two (same_name name key) (option_map Some told) (new.told key)
        (mid.told key) (λ f. h.told key n);
    faults = λ key n. one_of_two (same_name name key) count (new.faults key) (mid.faults key)
        (λ f. h.faults key n);
  }

  abbrev pub seen : Outside → Outside
  seen world = with_tapes (behind world.tapes) world

  lent_behind : (access : Access) {old out : Outside} {held : Option (List ℕ)} {first : ℕ}
      → LentTape other access old out held first
      → LentTape other access (seen old) (seen out) held first
  lent_behind access {old} {out} {held} h = record {
    out = hands_out h.out;
    tape = subst (λ t. IsTape t (makes access) held) (sym (there old.tapes)) h.tape;
    files = record { file = h.files.file; later = h.files.later };
    asked = h.asked;
    dice = h.dice;
    links = h.links;
  }

  back_behind : {mid new : Outside} {held : Option (List ℕ)} {last : ℕ}
      → ReturnedTape other mid new held last → ReturnedTape other (seen mid) (seen new) held last
  back_behind {mid} {new} h = record {
    home = takes_back h.home;
    tape = there new.tapes ∙ h.tape;
    file = h.file;
    faults = h.faults;
    asked = h.asked;
    dice = h.dice;
    links = h.links;
  }

  returns_behind : (object : Object) (mid new : Outside) (held : Option (List ℕ)) (last : ℕ)
      {B : Type 0} (made result : Result B Stop)
      → ReturnsSettled other object mid new held last made result
      → ReturnsSettled other object (seen mid) (seen new) held last made result
  returns_behind object mid new held last (Ok m) (Ok x) (same, h) =
      (same, back_behind {mid = with_settled other mid} {new = new} h)
  returns_behind object mid new held last (Ok m) (Err stop) (later, rose, same, h) =
      (later, rose, same, back_behind h)
  returns_behind object mid new held last (Err why) result (same, h) = (same, back_behind h)

  -- it is borrowed for what follows, and is settled before it is back
  pub settles_behind : (object : Object) (access : Access) {old out : Outside}
      {given : Option (List ℕ)} {first : ℕ} (mid new : Outside) (back : Option (List ℕ))
      (last : ℕ) (a : Environment) {B : Type 0} (next : Steps B)
      (made result : Result B Stop) → LentTape other access old out given first
      → ReturnsSettled other object mid new back last made result
      → Does next (with_lent_tape other given first (with_lent_tape name told count
      (with_world out a)))
      (with_lent_tape other back last (with_lent_tape name told count (with_world mid a))) made
      → Does (settled_for object other access next) (with_lent_tape name told count (with_world old a))
      (with_lent_tape name told count (with_world new a)) result
  settles_behind object access {old} {out} mid new back last a next made result lent returned works =
      lends_settled object other access {old = seen old} {out = seen out} (seen mid) (seen new) back
      last a next made result (lent_behind access lent)
      (returns_behind object mid new back last made result returned) works

  -- it isn't lent
  pub not_lent_behind : (access : Access) {old new : Outside} (a : Environment) {B : Type 0}
      {next : Steps B} (stop : Stop) → KeepsFiles old new → KeepsObjects old new
      → NoTape old new other access stop → AskedUnless old.asked new.asked (Tape other access) stop
      → Does (tape_for other access next) (with_lent_tape name told count (with_world old a))
      (with_lent_tape name told count (with_world new a)) (Err stop)
  not_lent_behind access {old} {new} a {next = next} stop files objects none asked =
      subst (λ t. Does (tape_for other access next) (with_world (seen old) a)
      (with_world (with_tapes (behind t) new) a) (Err stop)) (sym objects.tapes)
      (not_lent {old = seen old} {new = with_tapes (behind old.tapes) new}
      (record { file = files.file; later = files.later })
      (record { dice = objects.dice; tapes = refl; links = objects.links }) a other access stop
      (no_tape_apart access stop none) asked)
    where
      no_tape_apart : (access : Access) (stop : Stop) → NoTape old new other access stop
          → NoTape (seen old) (with_tapes (behind old.tapes) new) other access stop
      no_tape_apart access (Words why) h = h
      no_tape_apart access (Refused why) h =
          (h.0, subst (λ t. Agrees t None) (sym (there old.tapes)) h.1, h.2)
      no_tape_apart access (Fault object n) h = h
      no_tape_apart access NoMemory h = h
