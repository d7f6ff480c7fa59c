-- The end of a command that reports: its tape comes back settled, or nothing of its rows is told.
use Rattle.std.proofs.Common.{◌≡◌, ℕ, ◌≤◌, List, [], Option, None, Some, Result, Ok, Err, refl, sym, ap, subst, arith}
use Rattle.kr_base.proofs.Counting.{Rose-later}
use Rattle.kr_kms.specs.Outside.{Outside}
use Rattle.kr_kms.specs.declared.world.Access.{Access}
use Rattle.kr_cmd_steps.specs.Environment.{Environment, with_world}
use Rattle.kr_cmd_steps.specs.Phases.{settled_for, tape_for}
use Rattle.kr_cmd_steps.specs.Commands.{steps}
use Rattle.kr_cmd_steps.specs.Ran.{ReportsOf}
use Rattle.kr_cmd_steps.specs.Steps.{Steps, and_then, give, settle}
use Rattle.kr_cmd_steps.specs.inner.Lent.{with_lent_tape}
use Rattle.kr_cmd_steps.specs.inner.Phases.{Does}
use Rattle.kr_cmd_steps.specs.inner.Reporting.{DoesAll, saying}
use Rattle.kr_cmd_steps.specs.inner.Tapes.{LentTape, ReturnsSettled, with_settled}
use Rattle.kr_cmd_messages.specs.declared.command.Command.{Command}
use Rattle.kr_cmd_messages.specs.declared.refusal.Ended.{Ended}
use Rattle.kr_cmd_messages.specs.declared.refusal.Object.TheVariants.{Store}
use Rattle.kr_cmd_messages.specs.declared.refusal.Outcome.{Outcome}
use Rattle.kr_cmd_messages.specs.declared.refusal.Stop.{Stop}
use Rattle.kr_cmd_messages.specs.declared.refusal.Stop.TheVariants.{Fault}
use Rattle.kr_cmd_messages.specs.declared.report.RewriteCounts.{RewriteCounts}
use Rattle.kr_cmd_rewrite.specs.inner.Rewriting.{to_settle}
use Rattle.kr_cmd_rewrite.proofs.Said.{saying_world}
use Rattle.kr_cmd_steps.proofs.Ends.{does_all, report_lost, report_settled, value_done}
use Rattle.kr_cmd_steps.proofs.RunTo.{goes_on, stops}
use Rattle.kr_cmd_steps.proofs.Lending.{no_more}
use Rattle.kr_cmd_steps.proofs.Loading.{count_here}
use Rattle.kr_cmd_steps.proofs.Settling.{is_settled, lends_settled_to, not_settled, rose_later}
use Rattle.kr_cmd_steps.proofs.Tapes.{came_back, lent, nothing}

-- what the command ends with, once its tape is back
abbrev pub ended_of : Result Ended Stop → Ended
ended_of (Ok ended) = ended
ended_of (Err stop) = record { made = Err stop; said = None }

-- the tape is lent for what follows, and the command goes on to here by that; then this is around
module _ (command : Command) (name : List ℕ) (is : ReportsOf command name) (access : Access)
    (next : Steps Outcome) {old : Environment} {opened out : Outside} {given : Option (List ℕ)}
    {first : ℕ} (a b : Environment) (silent : b.said ≡ [])
    (whole : (end : Environment) (made : Result Outcome Stop)
    → Does (settled_for Store name access next) (with_world opened a) end made
    → Does (steps command) old end made)
    (loan : LentTape name access opened out given first) (mid new : Outside)
    (told : Option (List ℕ)) (count : ℕ) where
  abbrev Works : Option RewriteCounts → Result Outcome Stop → Type 0
  Works said made = Does next (with_lent_tape name given first (with_world out a))
      (with_lent_tape name told count (with_world mid (saying said b))) made

  abbrev settling_it : Outcome → Steps Outcome
  settling_it made = settle Store name (give made)

  -- while the tape is out still
  behind : {end : Environment} {made : Result Outcome Stop}
      → Does (and_then next settling_it) (with_lent_tape name given first (with_world out a)) end
      made → Does (steps command) old end made
  behind {end} {made} d = whole end made
      (goes_on (tape_for name access nothing) (λ u. and_then next settling_it) tt
      (lent name access _ loan a) d)

  was_less : {made : Result Outcome Stop} (e : Environment) (w : Outside)
      → Does (steps command) old (with_lent_tape name told count (with_world w e)) made
      → old.world.tapes.faults name ≤ count
  was_less e w d =
      omega (arith, d.home.tapes.later name, count_here name told count (with_world w e) count)

  closed_ok : (said : Option RewriteCounts) (made : Result Outcome Stop) (ended : Ended)
      → ReturnsSettled name Store mid new told count (to_settle made said) (Ok ended)
      → Works said made → DoesAll command old (saying ended.said (with_world new b)) ended.made
  closed_ok said (Ok x) ended (same, back) works =
      subst (λ (e : Ended). DoesAll command old (saying e.said (with_world new b)) e.made)
      (sym same) (subst (λ d. DoesAll command old d (Ok x)) (sym (saying_world said new b))
      (value_done command x (whole (with_world new (saying said b)) (Ok x)
      (lends_settled_to Store name access mid new told count a (saying said b) next (Ok x) (Ok x)
      loan (refl, back) works))))
  closed_ok None (Err stop) ended (same, back) works =
      absurd (let e : Ok ended ≡ Err stop = same in cc)
  closed_ok (Some counts) (Err stop) ended (same, back) works =
      subst (λ (e : Ended). DoesAll command old (saying e.said (with_world new b)) e.made)
      (sym same) (subst (λ d. DoesAll command old d (Err stop))
      (came_back name back (saying (Some counts) b))
      (report_settled command name is told count mid (saying (Some counts) b) stop
      (behind (stops next settling_it stop works))))

  closed_err : (said : Option RewriteCounts) (made : Result Outcome Stop) (stop : Stop)
      → ReturnsSettled name Store mid new told count (to_settle made said) (Err stop)
      → Works said made → DoesAll command old (with_world new b) (Err stop)
  closed_err said (Ok x) stop (later, rose, same, back) works =
      let whole_before = behind (goes_on next settling_it x works
      (is_settled Store name told count x mid (saying said b))) in
      subst (λ s. DoesAll command old (with_world new b) (Err s)) (sym same)
      (subst (λ d. DoesAll command old d (Err (Fault Store later))) (came_back name back b)
      (report_lost command name is told later mid b silent later (no_more later) said
      (Fault Store later) (Rose-later _ _ _ (was_less (saying said b) (with_settled name mid) whole_before) rose)
      (behind (goes_on next settling_it x works
      (not_settled Store name told count x (with_world mid (saying said b)) later rose)))))
  closed_err None (Err why) stop (same, back) works =
      let is : stop ≡ why = cc in does_all command (Err stop) silent
      (whole (with_world new b) (Err stop)
      (lends_settled_to Store name access mid new told count a b next (Err why) (Err stop) loan
      (ap Err is, back) works))
  closed_err (Some counts) (Err why) stop (later, rose, same, back) works =
      let stopped = behind (stops next settling_it why works) in
      subst (λ s. DoesAll command old (with_world new b) (Err s)) (sym same)
      (subst (λ d. DoesAll command old d (Err (Fault Store later))) (came_back name back b)
      (report_lost command name is told count mid b silent later (rose_later count later rose)
      (Some counts) why
      (Rose-later _ _ _ (was_less (saying (Some counts) b) mid stopped) rose) stopped))

  pub closed : (said : Option RewriteCounts) (made : Result Outcome Stop)
      (settled : Result Ended Stop) (ended : Ended) → ended ≡ ended_of settled
      → ReturnsSettled name Store mid new told count (to_settle made said) settled
      → Works said made → DoesAll command old (saying ended.said (with_world new b)) ended.made
  closed said made settled ended e back works =
      subst (λ (x : Ended). DoesAll command old (saying x.said (with_world new b)) x.made) (sym e)
      (by settled back)
    where
      by : (settled : Result Ended Stop)
          → ReturnsSettled name Store mid new told count (to_settle made said) settled
          → DoesAll command old (saying (ended_of settled).said (with_world new b))
          (ended_of settled).made
      by (Ok x) back = closed_ok said made x back works
      by (Err stop) back = closed_err said made stop back works
