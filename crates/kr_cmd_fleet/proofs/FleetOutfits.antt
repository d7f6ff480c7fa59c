-- A fleet's steps behind the outfits, which come back.
use Rattle.std.proofs.Common.{◌≡◌, ℕ, Bool, List, Option, Some, Result, Ok, Err, inl, sym, ◌∙◌, ap, subst}
use Rattle.std.specs.Option.{option_map}
use Rattle.kr_kms.specs.Calls.{Link}
use Rattle.kr_kms.specs.Exchanges.{Exchange}
use Rattle.kr_kms.specs.Outside.{Outside, same_name}
use Rattle.kr_cmd_steps.specs.Environment.{Environment, with_lent, with_world}
use Rattle.kr_cmd_fleet.specs.FleetFiles.{FleetPlan}
use Rattle.kr_cmd_fleet.specs.Fleets.{Begun, equipping}
use Rattle.kr_cmd_steps.specs.Steps.{Steps, and_then}
use Rattle.kr_cmd_fleet.specs.declared.fleet.Record.{Record}
use Rattle.kr_cmd_fleet.specs.declared.outfit.Outfit.{Outfit}
use Rattle.kr_cmd_steps.specs.declared.programs.Program.{Program}
use Rattle.kr_cmd_messages.specs.declared.refusal.Stop.{Stop}
use Rattle.kr_cmd_fleet.specs.inner.FleetOutcomes.{Beginning, RunsBy}
use Rattle.kr_cmd_steps.specs.inner.Lent.{Tapes, with_lent_tape, with_tapes}
use Rattle.kr_cmd_fleet.specs.inner.Outfits.{with_outfits}
use Rattle.kr_cmd_steps.specs.inner.Phases.{Does}
use Rattle.kr_cmd_fleet.proofs.FleetRuns.{before}
use Rattle.kr_cmd_steps.proofs.RunTo.{nothing, stops}
use Rattle.kr_cmd_fleet.proofs.Outfitting.{equipped_then}

module _ (T : Type 0) {L D : Type 0} (link : L → Link)
    (step : L → Exchange → L → Type 0)
    (left : D → Option (List ℕ)) (count : D → ℕ) (Begins : Beginning T L D) (watched : Bool)
    (name : List ℕ) (plan : FleetPlan) (a : Environment) (programs : List Program) (seats : ℕ)
    (next : Steps Begun)
    (old mid new : Outside) (opened : List (Outfit L D)) where
  -- with the store's tape out
  abbrev With : Environment → Outside → (told : Option (List ℕ)) → ℕ → Environment
  With around world told n = with_lent_tape name told n (with_world world around)

  abbrev Over : Outside → (told : Option (List ℕ)) → ℕ → Environment
  Over world told n = With a world told n

  abbrev pub Opened : Result (Unit {0}) Stop → Type 0
  Opened result = (tapes : Tapes) (b : Environment) → Does (equipping programs 0 seats nothing)
      (with_world (with_tapes tapes old) b)
      (with_outfits link left count 0 opened (with_world (with_tapes tapes mid) b)) result

  abbrev pub Closed : List (Outfit L D) → Type 0
  Closed outfits = (tapes : Tapes) (b : Environment)
      → with_outfits link left count 0 outfits (with_world (with_tapes tapes mid) b)
      ≡ with_world (with_tapes tapes new) b

  module _ (lent : mid.tapes ≡ old.tapes) (still : new.tapes ≡ mid.tapes) where
    opened_over : (told : Option (List ℕ)) (n : ℕ) (result : Result (Unit {0}) Stop)
        → Opened result → Does (equipping programs 0 seats nothing) (Over old told n)
        (with_outfits link left count 0 opened (Over mid told n)) result
    opened_over told n result opens =
        subst (λ t. Does (equipping programs 0 seats nothing) (Over old told n)
        (with_outfits link left count 0 opened
        (with_world (with_tapes (with_lent same_name name (option_map Some told) n t) mid) a))
        result) (sym lent)
        (opens (with_lent same_name name (option_map Some told) n old.tapes) a)

    closed_over : (around : Environment) (outfits : List (Outfit L D)) (told : Option (List ℕ)) (n : ℕ)
        → Closed outfits
        → with_outfits link left count 0 outfits (With around mid told n) ≡ With around new told n
    closed_over around outfits told n back =
        back (with_lent same_name name (option_map Some told) n mid.tapes) around
        ∙ ap (λ t. with_world (with_tapes (with_lent same_name name (option_map Some told) n t) new)
        around) (sym still)

    -- they were borrowed, and the fleet ran by what follows
    pub runs_equipped : (around : Environment) (told back : Option (List ℕ)) (n last : ℕ)
        (closed : List (Outfit L D)) → Opened (Ok tt) → Closed closed
        → (result : Result Record Stop)
        → RunsBy T link step left count Begins watched next name plan
        (with_outfits link left count 0 opened (Over mid told n))
        (with_outfits link left count 0 closed (With around mid back last)) result
        → RunsBy T link step left count Begins watched (equipping programs 0 seats next) name
        plan
        (Over old told n) (With around new back last) result
    runs_equipped around told back n last closed opens closes result runs =
        subst (λ s. RunsBy T link step left count Begins watched s name plan (Over old told n)
        (With around new back last) result) (equipped_then programs 0 seats next)
        (before T link step left count Begins watched name plan
        (equipping programs 0 seats nothing)
        (λ u. next) tt (With around new back last) (opened_over told n (Ok tt) opens) result
        (subst (λ b. RunsBy T link step left count Begins watched next name plan
        (with_outfits link left count 0 opened (Over mid told n)) b result)
        (closed_over around closed back last closes) runs))

    -- one wasn't
    pub runs_unequipped : (told : Option (List ℕ)) (n : ℕ) (stop : Stop) → Opened (Err stop)
        → Closed opened
        → RunsBy T link step left count Begins watched (equipping programs 0 seats next) name
        plan
        (Over old told n) (Over new told n) (Err stop)
    runs_unequipped told n stop opens closes = inl
        (subst (λ s. Does s (Over old told n) (Over new told n) (Err stop))
        (equipped_then programs 0 seats next)
        (subst (λ b. Does (and_then (equipping programs 0 seats nothing) (λ u. next))
        (Over old told n) b (Err stop)) (closed_over a opened told n closes)
        (stops (equipping programs 0 seats nothing) (λ u. next) stop
        (opened_over told n (Err stop) opens))))
