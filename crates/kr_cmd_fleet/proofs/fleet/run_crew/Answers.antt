-- `run_crew`: what the workers begin with, and what they leave.
use Rattle.std.specs.Prelude.{All}
use Rattle.std.proofs.Common.{◌<◌, ◌∙◌, ap, arith, length, refl, subst, sum, sym}
use Rattle.kr_rollout.specs.Histories.{state_of}
use Rattle.kr_rollout.specs.declared.opening.Opening.{Opening}
use Rattle.kr_script.specs.declared.script.Part.{Part}
use Rattle.kr_workers.specs.Budgets.{AreBudgets, all_reloads}
use Rattle.kr_workers.specs.ScriptLines.{MayDo}
use Rattle.kr_cmd_fleet.specs.inner.Crews.{outfits_of}
use Rattle.kr_cmd_fleet.specs.inner.Outfits.{AreLater}
use Rattle.kr_cmd_steps.specs.inner.ProgramNames.{names_in}
use Rattle.kr_cmd_fleet.proofs.Crews.{may_begin, one_as_asked, still_many, workers_later}
use Rattle.kr_cmd_fleet.proofs.ClosedCores.{keeps_begin, keeps_end}
use Rattle.kr_cmd_fleet.proofs.Plans.{plan_lines, plan_workers}
use Rattle.kr_cmd_fleet.proofs.fleet.run_crew.Goals as goal

pub run_fleet-ended-requires-clause-many : goal.run_fleet-ended-requires-clause-many
run_fleet-ended-requires-clause-many g c = λ κs lives.
    let workers = plan_workers c.args.plan.now c.requires.plan in
    let long = ap length c.as_slice-3.ensures in
    (omega (arith, long, workers.0), omega (arith, long, workers.1), c.requires.crew.many ∙ sym long)

pub run_fleet-ended-requires-clause-lines : goal.run_fleet-ended-requires-clause-lines
run_fleet-ended-requires-clause-lines g c = λ κs lives.
    let o = c.args.core.opening in
    subst (λ parts. All (λ (part : Part). (part.replica < length o.replicas)
    × All (MayDo o c.as_slice-2.result.now) part.lines.0) parts) (sym c.as_slice-3.ensures)
    (subst (λ files. All (λ (part : Part). (part.replica < length o.replicas)
    × All (MayDo o files) part.lines.0) c.args.plan.now.script.workers.0) (sym c.as_slice-2.ensures)
    (plan_lines c.args.plan.now c.requires.plan o c.requires.core.names c.requires.core.replicas))

pub run_fleet-ended-requires-clause-begin : goal.run_fleet-ended-requires-clause-begin
run_fleet-ended-requires-clause-begin g c = λ κs lives.
    may_begin g.L.Kms.link c.args.core.opening.names (names_in c.args.plan.now.programs)
    c.args.plan.now.script.workers.0 c.as_slice-3.result.now
    (outfits_of c.args.crew.workers.items) c.args.crew.workers.items c.requires.crew
    c.as_slice-3.ensures c.requires.core.names c.requires.named

pub run_fleet-ended-requires-clause-reloads : goal.run_fleet-ended-requires-clause-reloads
run_fleet-ended-requires-clause-reloads g c = λ κs lives.
    c.requires.core.reloads ∙ ap all_reloads (sym c.as_slice-3.ensures)

pub run_fleet-ended-requires-clause-budgets : goal.run_fleet-ended-requires-clause-budgets
run_fleet-ended-requires-clause-budgets g c = λ κs lives.
    let rows = c.args.core.opening.rows in
    subst (λ budgets. AreBudgets rows c.as_slice-3.result.now budgets)
    (sym c.as_slice.ensures.value)
    (subst (λ parts. AreBudgets rows parts c.args.budgets.now.entries.items)
    (sym c.as_slice-3.ensures) c.requires.entries)

pub run_fleet-ended-requires-clause-room : goal.run_fleet-ended-requires-clause-room
run_fleet-ended-requires-clause-room g c = λ κs lives.
    let total = ap sum c.as_slice.ensures.value in omega (arith, total, c.requires.core.room)

pub run_fleet-ended-requires-clause-small : goal.run_fleet-ended-requires-clause-small
run_fleet-ended-requires-clause-small g c = λ κs lives.
    let total = ap sum c.as_slice.ensures.value in omega (arith, total, c.requires.few)

pub run_fleet-ended-requires-clause-no_lines : goal.run_fleet-ended-requires-clause-no_lines
run_fleet-ended-requires-clause-no_lines g c = λ κs lives. c.requires.core.begin

pub invariant_of-crew : goal.invariant_of-crew
invariant_of-crew g c =
    let long = still_many g.L.Kms.link g.L.Kms.step g.D.Dice.left g.D.Dice.count
    c.as_slice-2.result.now c.args.core.opening c.as_slice-3.result.now
    c.as_slice.result.now c.args.crew.workers.items
    c.run_fleet-ended.new.workers.items c.run_fleet-ended.result
    c.run_fleet-ended.ensures.one c.run_fleet-ended.ensures.nothing in record {
      none_left = c.args.crew.none_left;
      none_told = c.args.crew.none_told;
      room = omega (arith, long, c.args.crew.room);
      room_for_replies = omega (arith, long, c.args.crew.room_for_replies);
    }

pub part-outfits-requires : goal.part-outfits-requires
part-outfits-requires g c = c.run_fleet-ended.ensures.seats

pub returns-in-Err : goal.returns-in-Err
returns-in-Err g c =
    record {
      ran = record {
        stops = refl;
        outfits_are = c.part-outfits.ensures.outfits
            ∙ ap (λ ws. outfits_of ws) c.in-Err.ensures.nothing;
        kept = keeps_begin c.args.core c.in-Err.core c.close-store-in-Err.result.0
            c.in-Err.ensures.back c.requires.core.begin c.close-store-in-Err.ensures.rows
            c.close-store-in-Err.ensures.count c.close-store-in-Err.ensures.format
            c.close-store-in-Err.ensures.torn
            c.known-in-Err.ensures;
      };
    }

pub returns-in-Ok : goal.returns-in-Ok
returns-in-Ok g c =
    let outfits = c.part-outfits.ensures.outfits in
    let one = one_as_asked g.L.Kms.link g.L.Kms.step g.D.Dice.left g.D.Dice.count
    c.args.plan.now.files.0 c.as_slice-2.result.now c.in-Ok.core.history c.args.core.opening
    c.args.plan.now.script.workers.0 c.as_slice-3.result.now c.args.budgets.now.entries.items
    c.as_slice.result.now c.args.crew.workers.items c.run_fleet-ended.new.workers.items
    c.as_slice-2.ensures c.as_slice-3.ensures c.as_slice.ensures.value c.in-Ok.ensures.one in
    record {
      ran = record {
        history = c.in-Ok.core.history;
        ended = c.run_fleet-ended.new.workers.items;
        one = one;
        start_is = refl;
        lines_are = c.close-store.ensures.lines;
        replies_are = c.part-outfits.ensures.replies;
        outfits_are = outfits;
        later = subst (λ l. AreLater g.L.Kms.link g.D.Dice.count
            (outfits_of c.args.crew.workers.items) l) (sym outfits)
            (workers_later g.L.Kms.link g.L.Kms.step g.D.Dice.left g.D.Dice.count
            c.args.plan.now.files.0 c.in-Ok.core.history c.args.core.opening
            c.args.plan.now.script.workers.0 c.args.budgets.now.entries.items
            c.args.crew.workers.items c.run_fleet-ended.new.workers.items c.requires.crew.many
            one);
        kept = keeps_end c.args.core.opening c.in-Ok.core.opening c.in-Ok.core.history
            c.close-store.result.0 c.in-Ok.ensures.kept.0 one.legal c.close-store.ensures.rows
            c.close-store.ensures.count c.close-store.ensures.format c.close-store.ensures.torn
            c.known.ensures;
        counted = c.close-store.ensures.count
            ∙ ap (λ (p : Opening). (state_of p c.in-Ok.core.history).count) c.in-Ok.ensures.kept.0;
      };
    }
