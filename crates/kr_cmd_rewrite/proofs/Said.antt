-- A command that reports: what is said at its end, whatever is lent meanwhile.
use Rattle.std.proofs.Common.{◌≡◌, ℕ, ◌+◌, ◌*◌, ◌<◌, ◌≤◌, List, [], length, Option, None, Some, Result, Ok, Err, refl, sym, ap, subst, inl, inr, arith}
use Rattle.std.specs.Prelude.{Bool, if◌then◌else◌}
use Rattle.std.specs.Option.{option_map}
use Rattle.std.proofs.lemmas.Bool.{le-ltb, lt-ltb}
use Rattle.kr_config.specs.Kept.{ConfigEntry}
use Rattle.kr_kms.specs.Calls.{Link}
use Rattle.kr_kms.specs.Outside.{Outside, same_name}
use Rattle.kr_store.specs.Stores.{IsListing}
use Rattle.kr_store.specs.declared.rows.Row as stored
use Rattle.kr_base.specs.Limits.{journal_limit}
use Rattle.kr_cmd_steps.specs.Environment.{Environment, with_world, with_lent}
use Rattle.kr_cmd_steps.specs.Phases.{by_result}
use Rattle.kr_cmd_steps.specs.RewriteSteps.{rewriting_by, rewriting_live, within_journal}
use Rattle.kr_cmd_steps.specs.Commands.{steps}
use Rattle.kr_cmd_steps.specs.Plugins.{borrow_links}
use Rattle.kr_cmd_steps.specs.Steps.{Steps, borrow_dice, find, give, and_then, refuses, RunTo}
use Rattle.kr_cmd_steps.specs.StoreFiles.{Stored}
use Rattle.kr_cmd_steps.specs.declared.programs.Program.{Program}
use Rattle.kr_cmd_messages.specs.declared.command.Command.{Command}
use Rattle.kr_cmd_messages.specs.declared.refusal.Ended.{Ended}
use Rattle.kr_cmd_messages.specs.declared.refusal.Limit.TheVariants as limit
use Rattle.kr_cmd_messages.specs.declared.refusal.Outcome.{Outcome}
use Rattle.kr_cmd_messages.specs.declared.refusal.Refusal.TheVariants.{Limit}
use Rattle.kr_cmd_messages.specs.declared.refusal.Stop.{Stop}
use Rattle.kr_cmd_messages.specs.declared.refusal.Stop.TheVariants.{Refused, NoMemory}
use Rattle.kr_cmd_messages.specs.declared.report.RewriteCounts.{RewriteCounts}
use Rattle.kr_cmd_steps.specs.inner.Lent.{Tapes, with_tapes, with_lent_dice, with_lent_links, with_lent_tape}
use Rattle.kr_cmd_steps.specs.inner.Phases.{Does}
use Rattle.kr_cmd_steps.specs.inner.Reporting.{DoesAll, saying}
use Rattle.kr_cmd_rewrite.specs.inner.Rewriting.{LacksRoom}
use Rattle.kr_cmd_steps.proofs.Frames.{Seen}
use Rattle.kr_cmd_steps.proofs.Ends.{does_all}
use Rattle.kr_cmd_steps.proofs.RunTo.{goes_on, home_refl, reach}

-- ---- what is said stands beside what is lent

pub saying_world : (said : Option RewriteCounts) (world : Outside) (a : Environment)
    → saying said (with_world world a) ≡ with_world world (saying said a)
saying_world None world a = refl
saying_world (Some counts) world a = refl

pub saying_tape : (said : Option RewriteCounts) (name : List ℕ) (told : Option (List ℕ)) (count : ℕ)
    (world : Outside) (a : Environment)
    → saying said (with_lent_tape name told count (with_world world a))
    ≡ with_lent_tape name told count (with_world world (saying said a))
saying_tape None name told count world a = refl
saying_tape (Some counts) name told count world a = refl

-- the tapes where this one is out
abbrev pub tapes_lent : (name : List ℕ) (told : Option (List ℕ)) (count : ℕ) → Tapes → Tapes
tapes_lent name told count tapes = with_lent same_name name (option_map Some told) count tapes

module _ {L : Type 0} (link : L → Link) where
  -- what is around while a tape, links and a random source are out
  abbrev pub All_lent : List L → (left : Option (List ℕ)) → (faults : ℕ) → (name : List ℕ)
      → (told : Option (List ℕ)) → (count : ℕ) → Environment → Environment
  All_lent links left faults name told count a =
      with_lent_links link 0 links (with_lent_dice 0 left faults (with_lent_tape name told count a))

  pub saying_seen : (said : Option RewriteCounts) (links : List L) (left : Option (List ℕ)) (faults : ℕ)
      (name : List ℕ) (told : Option (List ℕ)) (count : ℕ) (tapes : Tapes) (world : Outside)
      (a : Environment)
      → saying said (All_lent links left faults name told count
      (with_world (with_tapes tapes world) a))
      ≡ Seen link (with_world (with_tapes (tapes_lent name told count tapes) world)
      (saying said a)) links left faults
  saying_seen None links left faults name told count tapes world a = refl
  saying_seen (Some counts) links left faults name told count tapes world a = refl

-- ---- a command that stopped before it reported

pub stopped_by : {next : Steps Outcome} {old new : Environment} (stop : Stop) (ended : Ended)
    → ended ≡ record { made = Err stop; said = None } → Does next old new (Err stop)
    → Does next old (saying ended.said new) ended.made
stopped_by {next} {old} {new} stop ended is d =
    subst (λ (e : Ended). Does next old (saying e.said new) e.made) (sym is) d

pub stopped_all : {command : Command} {old new : Environment} (stop : Stop) (ended : Ended)
    → ended ≡ record { made = Err stop; said = None } → new.said ≡ []
    → Does (steps command) old new (Err stop)
    → DoesAll command old (saying ended.said new) ended.made
stopped_all {command} {old} {new} stop ended is silent d =
    subst (λ (e : Ended). DoesAll command old (saying e.said new) e.made) (sym is)
    (does_all command (Err stop) silent d)

-- ---- room

within_ok : (live : List stored.Row) → (4 * length live + 3) ≤ journal_limit
    → within_journal live ≡ Ok tt
within_ok live short = ap (λ (q : Bool). if q then Err (Limit limit.Journal) else Ok tt)
    (le-ltb journal_limit (4 * length live + 3) (omega (arith, short)))

within_not : (live : List stored.Row) → journal_limit < 4 * length live + 3
    → within_journal live ≡ Err (Limit limit.Journal)
within_not live long = ap (λ (q : Bool). if q then Err (Limit limit.Journal) else Ok tt)
    (lt-ltb journal_limit (4 * length live + 3) (omega (arith, long)))

module _ (name : List ℕ) (rows : List ConfigEntry) (programs : List Program) (store : Stored) where
  abbrev pub Finding : Steps Outcome
  Finding = find (List stored.Row) (IsListing store.rows) (rewriting_live name rows programs store)

  pub room_lacking : (a : Environment) → LacksRoom store.rows
      → Does Finding a a (Err (Refused (Limit limit.Journal)))
  room_lacking a (live, is, long) = record {
    home = home_refl a;
    ends = λ left s. reach left (inr (
      live,
      is,
      subst (λ r. RunTo (refuses (Limit limit.Journal)) left (and_then (by_result r) (λ u.
          borrow_dice 0 (borrow_links programs (rewriting_by name rows store live)))) left)
          (sym (within_not live long)) (refl, refl),
    )) s;
  }

  pub listing_lacking : (a : Environment) → Does Finding a a (Err NoMemory)
  listing_lacking a =
      record { home = home_refl a; ends = λ left s. inr (reach left (inl (refl, refl)) s) }

  -- with room for its live rows the rewrite goes on
  pub room_there : {old new : Environment} {result : Result Outcome Stop} (live : List stored.Row)
      → IsListing store.rows live → (4 * length live + 3) ≤ journal_limit
      → Does (borrow_dice 0 (borrow_links programs (rewriting_by name rows store live))) old new
      result
      → Does Finding old new result
  room_there {old} {new} {result} live is short d =
      let next = borrow_dice 0 (borrow_links programs (rewriting_by name rows store live)) in
      goes_on (find (List stored.Row) (IsListing store.rows) give)
      (rewriting_live name rows programs store) live
      (record {
        home = home_refl old;
        ends = λ left s. reach left (inr (live, is, (refl, refl))) s;
      })
      (subst (λ r. Does (and_then (by_result r) (λ u. next)) old new result)
      (sym (within_ok live short)) d)
