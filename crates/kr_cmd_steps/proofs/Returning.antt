-- A tape that was only read, and is back before anything else is asked.
use Rattle.std.proofs.Common.{◌≡◌, ℕ, List, Option, Result, Ok, Err, refl}
use Rattle.kr_kms.specs.Outside.{Outside}
use Rattle.kr_kms.specs.declared.world.WorldCall.TheVariants.{Returned}
use Rattle.kr_kms.specs.declared.world.Access.TheVariants.{ToRead}
use Rattle.kr_cmd_steps.specs.Environment.{Environment, with_world}
use Rattle.kr_cmd_steps.specs.Phases.{read_for}
use Rattle.kr_cmd_steps.specs.Steps.{Steps, and_then, give, give_back}
use Rattle.kr_cmd_steps.specs.inner.Lent.{with_lent_tape}
use Rattle.kr_cmd_steps.specs.inner.Phases.{Does}
use Rattle.kr_cmd_steps.specs.inner.Tapes.{LentTape, ReturnsRead, with_returned}
use Rattle.kr_cmd_messages.specs.declared.refusal.Stop.{Stop}
use Rattle.kr_cmd_steps.proofs.RunTo.{asks_alone, goes_on, stops}
use Rattle.kr_cmd_steps.proofs.Tapes.{lends_tape_to}

is_returned : (name : List ℕ) (told : Option (List ℕ)) (count : ℕ) {A : Type 0} (made : A)
    (world : Outside) (a : Environment) → Does (give_back name (give made))
    (with_lent_tape name told count (with_world world a))
    (with_lent_tape name told count (with_world (with_returned name world) a)) (Ok made)
is_returned name told count made world a = asks_alone (Returned name) (λ left. (refl, refl))
    (with_lent_tape name told count (with_world world a))

-- it is borrowed for what follows, and is back then
module _ (name : List ℕ) {old out : Outside} {given : Option (List ℕ)} {first : ℕ}
    (mid new : Outside) (back : Option (List ℕ)) (count : ℕ) where
  pub lends_read : (a : Environment) {A : Type 0} (next : Steps A) (read : Result A Stop)
      → LentTape name ToRead old out given first
      → ReturnsRead name mid new back count read
      → Does next (with_lent_tape name given first (with_world out a))
      (with_lent_tape name back count (with_world mid a)) read
      → Does (read_for name next) (with_world old a) (with_world new a) read
  lends_read a next (Ok made) h returned works = lends_tape_to name ToRead a a
      {next = and_then next (λ made. give_back name (give made))} h returned
      (goes_on next (λ made. give_back name (give made)) made works
      (is_returned name back count made mid a))
  lends_read a next (Err why) h returned works = lends_tape_to name ToRead a a
      {next = and_then next (λ made. give_back name (give made))} h returned
      (stops next (λ made. give_back name (give made)) why works)

-- however it ended, the links stay
pub read_links : (name : List ℕ) (old new : Outside) (told : Option (List ℕ)) (count : ℕ)
    {A : Type 0} (read : Result A Stop) → ReturnsRead name old new told count read
    → new.links ≡ old.links
read_links name old new told count (Ok x) h = h.links
read_links name old new told count (Err stop) h = h.links
