-- A tape that is borrowed, and comes back.
use Rattle.std.proofs.Common.{◌≡◌, ◌≢◌, ℕ, List, Option, None, Some, Result, Ok, Err, refl, sym, ◌∙◌, ap, subst, inl, inr, arith}
use Rattle.std.specs.Prelude.{Bool, true, false, ◌<◌, if◌then◌else◌}
use Rattle.std.specs.Io.KnownBytes.{Keeps}
use Rattle.std.proofs.lemmas.Slice.Eq.{bytes_eq-Decides}
use Rattle.std.specs.Option.{option_map}
use Rattle.kr_base.specs.Told.{Agrees}
use Rattle.kr_kms.specs.Outside.{Outside, Objects, with_call, same_name, HandsOut, IsTape, KeepsFiles, KeepsObjects, makes}
use Rattle.kr_kms.specs.declared.world.WorldCall.TheVariants.{Tape}
use Rattle.kr_kms.proofs.Lent.{names_decide}
use Rattle.kr_kms.specs.declared.world.Access.{Access}
use Rattle.kr_cmd_steps.specs.Environment.{Environment, with_world, with_lent, IsStateOf, StepsEndAt}
use Rattle.kr_cmd_steps.specs.Phases.{tape_for}
use Rattle.kr_cmd_steps.specs.Steps.{Steps, borrow_tape, give, lending, Point, awaits, StepState, MayBorrow, or_empty, tapes_with, with_asked, with_tape}
use Rattle.kr_cmd_steps.specs.inner.Lent.{with_lent_tape, with_tapes}
use Rattle.kr_cmd_steps.specs.inner.Phases.{Does, AskedUnless}
use Rattle.kr_cmd_steps.specs.inner.Tapes.{NoTape, LentTape, ReturnedTape}
use Rattle.kr_cmd_messages.specs.declared.refusal.Refusal.{Refusal}
use Rattle.kr_cmd_messages.specs.declared.refusal.Stop.{Stop}
use Rattle.kr_cmd_messages.specs.declared.refusal.Stop.TheVariants.{Words, Refused, Fault, NoMemory}
use Rattle.kr_cmd_steps.proofs.RunTo.{reach, goes_on, asked_home, stays_noted, unasked}
use Rattle.kr_cmd_steps.proofs.Lending.{back_is, by_key, home_same, lent_home}

-- ---- names

pub own_name : (name : List ℕ) → same_name name name ≡ true
own_name name = (bytes_eq-Decides name name).1 refl

other_name : (name other : List ℕ) → same_name name other ≡ false → other ≢ name
other_name name other f e = absurd (let t : true ≡ false =
    sym (subst (λ o. same_name name o ≡ true) (sym e) (own_name name)) ∙ f in cc)

-- ---- what a tape that is lent holds

held_there : (told : Option (Option (List ℕ))) (held : Option (List ℕ)) → IsTape told false held
    → option_map Some held ≡ told
held_there None held e = ap (option_map Some) e
held_there (Some None) held t = absurd (let no : false ≡ true = t.0 in cc)
held_there (Some (Some bytes)) held e = ap (option_map Some) e

held_made : (told : Option (Option (List ℕ))) (make : Bool) (held : Option (List ℕ))
    → IsTape told make held → option_map Some held ≡ or_empty told
held_made None make held e = ap (option_map Some) e
held_made (Some None) make held t = ap (option_map Some) t.1
held_made (Some (Some bytes)) make held e = ap (option_map Some) e

may_borrow : (told : Option (Option (List ℕ))) (make : Bool) (held : Option (List ℕ))
    → IsTape told make held → MayBorrow told make
may_borrow (Some None) make held t n = t.0
may_borrow other make held e n = absurd cc

pub one_of : {B : Type 0} (q : Bool) (x y u v : B) → x ≡ u → (q ≡ false → y ≡ v)
    → (if q then x else y) ≡ (if q then u else v)
one_of true x y u v e f = e
one_of false x y u v e f = f refl

-- what is told of tapes while this one is out
told_with : (make : Bool) {name : List ℕ} (held : Option (List ℕ)) {count : ℕ}
    {old out : Objects (List ℕ) (Option (Option (List ℕ)))}
    → HandsOut same_name old out name count → IsTape (old.told name) make held
    → (with_lent same_name name (option_map Some held) count out).told
    ≡ tapes_with make name old.told
told_with false {name} held {count} {old} {out} h t = λ i other.
    by_key names_decide (λ b. b ≡ old.told other) name other (option_map Some held) (out.told other)
    (λ e. held_there (old.told name) held t ∙ ap (λ n. old.told n) e) (λ n. h.told other n) i
told_with true {name} held {count} {old} {out} h t = λ i other.
    one_of (same_name name other) (option_map Some held) (out.told other) (or_empty (old.told name))
    (old.told other) (held_made (old.told name) true held t)
    (λ f. h.told other (other_name name other f)) i

-- ---- a tape that wasn't lent

module _ {old new : Outside} (files : KeepsFiles old new) (objects : KeepsObjects old new)
    (a : Environment) where
  not_lent_at : (name : List ℕ) (access : Access) (absent : Refusal) {A : Type 0} {next : Steps A}
      {left : StepState} → IsStateOf left (with_world old a)
      → new.asked ≡ with_call (Tape name access) old.asked
      → StepsEndAt (borrow_tape name access absent next) left (with_world new a)
      (awaits (lending name))
  not_lent_at name access absent {left = left} s made =
      reach (with_asked (Tape name access) left) (inr (inl (refl, refl)))
      (stays_noted files objects a (Tape name access) s made)

  pub not_lent : (name : List ℕ) (access : Access) {A : Type 0} {next : Steps A} (stop : Stop)
      → NoTape old new name access stop → AskedUnless old.asked new.asked (Tape name access) stop
      → Does (tape_for name access next) (with_world old a) (with_world new a) (Err stop)
  not_lent name access (Words why) n q = absurd n
  not_lent name access (Refused why) n q = record {
    home = asked_home files objects a;
    ends = λ left s. reach (with_asked (Tape name access) left) (inr (inr (inl (
      n.0,
      subst (λ t. Agrees (t name) None) s.tapes n.1,
      (ap Point.refuses n.2, refl),
    ))))
        (stays_noted files objects a (Tape name access) s q);
  }
  not_lent name access (Fault object count) n q = record {
    home = asked_home files objects a;
    ends = λ left s. (lending name, not_lent_at name access _ s q, n);
  }
  not_lent name access NoMemory n (inl q) = record {
    home = asked_home files objects a;
    ends = λ left s. inr (unasked files objects a s q (inl (refl, refl)));
  }
  not_lent name access NoMemory n (inr q) = record {
    home = asked_home files objects a;
    ends = λ left s. inl (lending name, tt, not_lent_at name access _ s q);
  }

-- ---- one that was

pub is_out : (name : List ℕ) {access : Access} {old out : Outside} {held : Option (List ℕ)} {count : ℕ}
    → LentTape name access old out held count → 0 < out.tapes.out name
is_out name {old = old} {out} h = omega (
  arith,
  h.out.out name,
  ap {B = ℕ} (λ q. if q then 1 else 0) (own_name name),
)

-- steps that give nothing
abbrev pub nothing : Steps (Unit {0})
nothing = give tt

pub lent : (name : List ℕ) (access : Access) (absent : Refusal) {old out : Outside}
    {held : Option (List ℕ)} {count : ℕ} → LentTape name access old out held count → (a : Environment)
    → Does (borrow_tape name access absent nothing) (with_world old a)
    (with_lent_tape name held count (with_world out a)) (Ok tt)
lent name access absent {old} {out} {held} {count} h a = record {
  home = record {
    files = record { file = h.files.file; later = h.files.later };
    dice = home_same h.dice;
    tapes = lent_home same_name names_decide (option_map Some held) h.out;
    links = home_same h.links;
    input = omega arith;
  };
  ends = λ l s. reach (with_tape (makes access) name (with_asked (Tape name access) l))
      (inr (inr (inr (
        subst (λ t. MayBorrow (t name) (makes access)) s.tapes
            (may_borrow (old.tapes.told name) (makes access) held h.tape),
        (refl, refl),
      ))))
      (record {
        file = h.files.file ∙ s.file;
        tapes = told_with (makes access) held h.out h.tape ∙ ap (tapes_with (makes access) name) s.tapes;
        links = ap (λ o. o.told) h.links ∙ s.links;
        input = s.input;
        dice = λ seat. subst (λ d. Keeps (l.dice seat) (d.told seat)) (sym h.dice) (s.dice seat);
        asked = h.asked ∙ ap (with_call (Tape name access)) s.asked;
        heard = s.heard;
        said = s.said;
      });
}

pub came_back : (name : List ℕ) {out new : Outside} {held : Option (List ℕ)} {count : ℕ}
    → ReturnedTape name out new held count → (a : Environment)
    → with_lent_tape name held count (with_world out a) ≡ with_world new a
came_back name h a = λ i. record a {
  world = record {
    file = sym h.file i;
    asked = sym h.asked i;
    faults = sym h.faults i;
    dice = sym h.dice i;
    tapes = back_is same_name names_decide h.home h.tape i;
    links = sym h.links i;
  };
}

-- it is borrowed for what follows, and comes back
module _ (name : List ℕ) (access : Access) {old out mid new : Outside}
    {given back : Option (List ℕ)} {first count : ℕ} where
  pub lends_tape_to : (a b : Environment) {B : Type 0} {next : Steps B} {result : Result B Stop}
      → LentTape name access old out given first → ReturnedTape name mid new back count
      → Does next (with_lent_tape name given first (with_world out a))
      (with_lent_tape name back count (with_world mid b)) result
      → Does (tape_for name access next) (with_world old a) (with_world new b) result
  lends_tape_to a b {next = next} {result} h returned works =
      subst (λ c. Does (tape_for name access next) (with_world old a) c result)
      (came_back name returned b)
      (goes_on (tape_for name access nothing) (λ u. next) tt (lent name access _ h a) works)

  pub lends_tape : (a : Environment) {B : Type 0} {next : Steps B} {result : Result B Stop}
      → LentTape name access old out given first → ReturnedTape name mid new back count
      → Does next (with_lent_tape name given first (with_world out a))
      (with_lent_tape name back count (with_world mid a)) result
      → Does (tape_for name access next) (with_world old a) (with_world new a) result
  lends_tape a h returned works = lends_tape_to a a h returned works

-- what leaves the tapes, done while this one is out
module _ (name : List ℕ) (told : Option (List ℕ)) (count : ℕ) where
  -- around with this world, with the tape out of these
  abbrev Behind : Objects (List ℕ) (Option (Option (List ℕ))) → Outside → Environment → Environment
  Behind tapes world a =
      with_world (with_tapes (with_lent same_name name (option_map Some told) count tapes) world) a

  pub behind_tape_to : {old new : Outside} (a c : Environment) {B : Type 0} {next : Steps B}
      {result : Result B Stop} → new.tapes ≡ old.tapes
      → Does next (Behind old.tapes old a) (Behind old.tapes new c) result
      → Does next (with_lent_tape name told count (with_world old a))
      (with_lent_tape name told count (with_world new c)) result
  behind_tape_to {old} {new} a c {next = next} {result} same d =
      subst (λ t. Does next (with_lent_tape name told count (with_world old a)) (Behind t new c)
      result) (sym same) d

  pub behind_tape : {old new : Outside} (a : Environment) {B : Type 0} {next : Steps B}
      {result : Result B Stop} → new.tapes ≡ old.tapes
      → Does next (Behind old.tapes old a) (Behind old.tapes new a) result
      → Does next (with_lent_tape name told count (with_world old a))
      (with_lent_tape name told count (with_world new a)) result
  behind_tape a same d = behind_tape_to a a same d
