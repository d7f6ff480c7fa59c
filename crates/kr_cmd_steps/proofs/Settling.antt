-- A tape that is settled before it is back.
use Rattle.std.proofs.Common.{◌≡◌, ℕ, ◌+◌, ◌≤◌, List, Option, Result, Ok, Err, refl, sym, subst, inl, inr, arith}
use Rattle.kr_base.specs.Faults.{Rose}
use Rattle.kr_kms.specs.Outside.{Outside, at_key, same_name}
use Rattle.kr_kms.specs.declared.world.WorldCall.TheVariants.{Settled}
use Rattle.kr_kms.specs.declared.world.Access.{Access}
use Rattle.kr_cmd_steps.specs.Environment.{Environment, with_world}
use Rattle.kr_cmd_steps.specs.Phases.{settled_for}
use Rattle.kr_cmd_steps.specs.Steps.{Steps, and_then, give, settle, settling}
use Rattle.kr_cmd_steps.specs.inner.Lent.{with_lent_tape}
use Rattle.kr_cmd_steps.specs.inner.Phases.{Does}
use Rattle.kr_cmd_steps.specs.inner.Tapes.{LentTape, ReturnsSettled, with_settled}
use Rattle.kr_cmd_messages.specs.declared.refusal.Object.{Object}
use Rattle.kr_cmd_messages.specs.declared.refusal.Stop.{Stop}
use Rattle.kr_cmd_messages.specs.declared.refusal.Stop.TheVariants.{Fault}
use Rattle.kr_cmd_steps.proofs.RunTo.{asks_alone, goes_on, reach, stops}
use Rattle.kr_cmd_steps.proofs.Loading.{count_here, counted_tape, tape_home, tape_rose}
use Rattle.kr_cmd_steps.proofs.Tapes.{lends_tape_to}

pub rose_later : (before now : ℕ) → Rose before now → before ≤ now
rose_later before now (inl less) = omega (arith, less)
rose_later before now (inr (x, y)) = omega (arith, x, y)

module _ (object : Object) (name : List ℕ) (told : Option (List ℕ)) (count : ℕ) {A : Type 0}
    (made : A) where
  pub is_settled : (world : Outside) (a : Environment) → Does (settle object name (give made))
      (with_lent_tape name told count (with_world world a))
      (with_lent_tape name told count (with_world (with_settled name world) a)) (Ok made)
  is_settled world a = asks_alone (Settled name) (λ left. inr (refl, refl))
      (with_lent_tape name told count (with_world world a))

  pub not_settled : (a : Environment) (later : ℕ) → Rose count later
      → Does (settle object name (give made)) (with_lent_tape name told count a)
      (with_lent_tape name told later a) (Err (Fault object later))
  not_settled a later rose = record {
    home = tape_home name told count a later (rose_later count later rose);
    ends = λ left s. (
      settling object name,
      reach left (inl (refl, refl))
          (counted_tape name told count a later (rose_later count later rose) s),
      (refl, tape_rose name told count a later rose, sym (count_here name told count a later)),
    );
  }

-- it is borrowed for what follows, is settled behind that, and comes back
module _ (object : Object) (name : List ℕ) (access : Access) {old out : Outside}
    {given : Option (List ℕ)} {first : ℕ} (mid new : Outside) (back : Option (List ℕ)) (count : ℕ)
  where
    pub lends_settled_to : (a b : Environment) {A : Type 0} (next : Steps A) (made result : Result A Stop)
        → LentTape name access old out given first
        → ReturnsSettled name object mid new back count made result
        → Does next (with_lent_tape name given first (with_world out a))
        (with_lent_tape name back count (with_world mid b)) made
        → Does (settled_for object name access next) (with_world old a) (with_world new b) result
    lends_settled_to a b next (Ok made) (Ok x) h (same, returned) works =
        subst (λ x. Does (settled_for object name access next) (with_world old a) (with_world new b)
        (Ok x)) (sym same)
        (lends_tape_to name access a b {next = and_then next (λ made. settle object name (give made))} h
        returned (goes_on next (λ made. settle object name (give made)) made works
        (is_settled object name back count made mid b)))
    lends_settled_to a b next (Ok made) (Err stop) h (later, rose, same, returned) works =
        subst (λ s. Does (settled_for object name access next) (with_world old a) (with_world new b)
        (Err s)) (sym same)
        (lends_tape_to name access a b {next = and_then next (λ made. settle object name (give made))} h
        returned (goes_on next (λ made. settle object name (give made)) made works
        (not_settled object name back count made (with_world mid b) later rose)))
    lends_settled_to a b next (Err why) result h (same, returned) works =
        subst (λ r. Does (settled_for object name access next) (with_world old a) (with_world new b) r)
        (sym same)
        (lends_tape_to name access a b {next = and_then next (λ made. settle object name (give made))} h
        returned (stops next (λ made. settle object name (give made)) why works))

    pub lends_settled : (a : Environment) {A : Type 0} (next : Steps A) (made result : Result A Stop)
        → LentTape name access old out given first
        → ReturnsSettled name object mid new back count made result
        → Does next (with_lent_tape name given first (with_world out a))
        (with_lent_tape name back count (with_world mid a)) made
        → Does (settled_for object name access next) (with_world old a) (with_world new a) result
    lends_settled a next made result h returned works =
        lends_settled_to a a next made result h returned works

-- however it ended, one tape of the name less is out
pub returned_out : (name : List ℕ) (object : Object) (old new : Outside) (told : Option (List ℕ))
    (count : ℕ) {A : Type 0} (made result : Result A Stop)
    → ReturnsSettled name object old new told count made result → (key : List ℕ)
    → new.tapes.out key + at_key same_name name 1 key ≡ old.tapes.out key
returned_out name object old new told count (Ok m) (Ok x) (same, h) key = h.home.out key
returned_out name object old new told count (Ok m) (Err stop) (later, rose, same, h) key = h.home.out key
returned_out name object old new told count (Err why) result (same, h) key = h.home.out key

-- and the links stay
pub settled_links : (name : List ℕ) (object : Object) (old new : Outside)
    (told : Option (List ℕ)) (count : ℕ) {A : Type 0} (made result : Result A Stop)
    → ReturnsSettled name object old new told count made result → new.links ≡ old.links
settled_links name object old new told count (Ok m) (Ok x) (same, h) = h.links
settled_links name object old new told count (Ok m) (Err stop) (later, rose, same, h) = h.links
settled_links name object old new told count (Err why) result (same, h) = h.links
