-- `run_fleet`: the seats are given, the workers work, the seats come back.
use Rattle.std.proofs.Common.{◌≡◌, ◌<◌, ◌+◌, length, All, None, ap, sym, subst, ◌∙◌, arith}
use Rattle.std.proofs.lemmas.List.{length-map}
use Rattle.kr_rollout.specs.declared.opening.Opening.{Opening}
use Rattle.kr_rollout.specs.Histories.{IsLegal}
use Rattle.kr_script.specs.declared.script.Part.{Part}
use Rattle.kr_turn.specs.declared.view.Terms.{Terms}
use Rattle.kr_workers.specs.Budgets.{script_budgets, put_lines, reloads_of}
use Rattle.kr_workers.specs.Histories.{IsOneHistory}
use Rattle.kr_workers.specs.inner.SeatedWorkers.{IsReadyWorker}
use Rattle.kr_workers.proofs.Assembling.{all_ready, as_many, back_all, budgets_many, done_seated, fresh_all, have_worked, none_seated_now, none_yet, one_history, seated_long, seats_long, some_seated}
use Rattle.kr_workers.proofs.team.run_fleet.Goals as goal

pub new-requires : goal.new-requires
new-requires g c =
    let many = budgets_many c.args.core.opening.rows c.args.parts.now c.args.budgets.now
    c.requires.budgets in
    let reloads = ap length c.requires.reloads
    ∙ length-map c.args.parts.now (λ (p : Part). reloads_of p.lines.0) in record {
      count = (
        omega (arith, many, c.requires.many.0),
        omega (arith, many, c.requires.many.1),
      );
      seats = omega (arith, many, reloads);
      room = c.requires.room;
      small = c.requires.small;
      no_lines = c.requires.no_lines;
    }

pub returns-in-Err-clause-seats : goal.returns-in-Err-clause-seats
returns-in-Err-clause-seats g c = none_yet g.L.Kms.link c.args.core.opening.names
    c.args.parts.now c.args.workers.now.items c.requires.many.2 c.requires.begin

pub seat_each-requires : goal.seat_each-requires
seat_each-requires g c =
    let fresh = fresh_all c.in-Ok.made.0 c.args.core.opening.rows c.args.parts.now
    c.args.budgets.now c.in-Ok.made.1.0 c.requires.budgets c.in-Ok.ensures.fresh in
    let basis = ap (λ (t : Terms Opening). t.basis) c.in-Ok.ensures.terms in record {
      many = as_many g.L.Kms.link c.args.files.now c.args.parts.now c.in-Ok.made.0
          c.args.core.opening c.in-Ok.made.1.0 c.args.workers.now.items basis fresh
          c.requires.many.2 c.in-Ok.ensures.seats c.requires.lines c.requires.begin
          c.requires.reloads;
      none = none_yet g.L.Kms.link c.args.core.opening.names c.args.parts.now
          c.args.workers.now.items c.requires.many.2 c.requires.begin;
    }

pub run_workers-requires-clause-some : goal.run_workers-requires-clause-some
run_workers-requires-clause-some g c = λ κs lives.
    let fresh = fresh_all c.in-Ok.made.0 c.args.core.opening.rows c.args.parts.now
    c.args.budgets.now c.in-Ok.made.1.0 c.requires.budgets c.in-Ok.ensures.fresh in
    let basis = ap (λ (t : Terms Opening). t.basis) c.in-Ok.ensures.terms in
    subst (λ ws. 0 < length ws) (sym c.seat_each.ensures.seated) (some_seated g.L.Kms.link
    c.args.files.now c.args.parts.now c.in-Ok.made.0 c.args.core.opening c.in-Ok.made.1.0
    c.args.workers.now.items basis fresh c.requires.many.2 c.in-Ok.ensures.seats c.requires.lines
    c.requires.begin c.requires.reloads c.requires.many.0)

pub run_workers-requires-clause-ready : goal.run_workers-requires-clause-ready
run_workers-requires-clause-ready g c = λ κs lives.
    let fresh = fresh_all c.in-Ok.made.0 c.args.core.opening.rows c.args.parts.now
    c.args.budgets.now c.in-Ok.made.1.0 c.requires.budgets c.in-Ok.ensures.fresh in
    let basis = ap (λ (t : Terms Opening). t.basis) c.in-Ok.ensures.terms in
    subst (λ ws. All (IsReadyWorker c.in-Ok.made.0 c.args.files.now c.args.parts.now
    g.L.Kms.link) ws) (sym c.seat_each.ensures.seated) (all_ready g.L.Kms.link c.args.files.now
    c.args.parts.now c.in-Ok.made.0 c.args.core.opening c.in-Ok.made.1.0
    c.args.workers.now.items basis fresh c.requires.many.2 c.in-Ok.ensures.seats
    c.requires.lines c.requires.begin c.requires.reloads)

pub unseat_each-requires : goal.unseat_each-requires
unseat_each-requires g c =
    let many = budgets_many c.args.core.opening.rows c.args.parts.now c.args.budgets.now
    c.requires.budgets in
    let seats = seats_long c.in-Ok.made.0 (length c.args.budgets.now) c.in-Ok.made.1.0
    c.in-Ok.ensures.fresh in
    let long = c.run_workers.ensures.length ∙ ap length c.seat_each.ensures.seated
    ∙ seated_long c.in-Ok.made.1.0 c.args.workers.now.items
    (seats ∙ many ∙ sym c.requires.many.2) in record {
      seated = done_seated g.L.Kms.link g.L.Kms.step g.D.Dice.left g.D.Dice.count
          c.args.files.now c.args.parts.now c.in-Ok.made.0 c.seat_each.new.workers.items
          c.run_workers.new.workers.items c.run_workers.ensures.length
          c.run_workers.ensures.worked;
      empty = c.seat_each.ensures.empty;
      room = omega (arith, long, c.seat_each.ensures.room);
    }

pub close-requires : goal.close-requires
close-requires g c = back_all g.L.Kms.link g.L.Kms.step g.D.Dice.left g.D.Dice.count
    c.args.files.now c.args.parts.now c.in-Ok.made.0 c.args.core.opening c.args.budgets.now
    c.in-Ok.made.1.0 c.args.workers.now.items c.run_workers.new.workers.items
    c.unseat_each.new.seats.0 (have_worked g.L.Kms.link g.L.Kms.step g.D.Dice.left
    g.D.Dice.count c.args.files.now c.args.parts.now c.in-Ok.made.0 c.args.core.opening
    c.args.budgets.now c.in-Ok.made.1.0 c.args.workers.now.items c.run_workers.new.workers.items
    c.unseat_each.new.seats.0 c.args.core.opening.rows c.args.core.room
    c.seat_each.new.workers.items c.in-Ok.ensures.terms c.requires.budgets c.in-Ok.ensures.fresh
    c.requires.many.2 c.seat_each.ensures.seated c.run_workers.ensures.length
    c.run_workers.ensures.worked c.unseat_each.ensures.seats)

pub returns-clause-one : goal.returns-clause-one
returns-clause-one g c =
    let all = have_worked g.L.Kms.link g.L.Kms.step g.D.Dice.left g.D.Dice.count
    c.args.files.now c.args.parts.now c.in-Ok.made.0 c.args.core.opening c.args.budgets.now
    c.in-Ok.made.1.0 c.args.workers.now.items c.run_workers.new.workers.items
    c.unseat_each.new.seats.0 c.args.core.opening.rows c.args.core.room
    c.seat_each.new.workers.items c.in-Ok.ensures.terms c.requires.budgets c.in-Ok.ensures.fresh
    c.requires.many.2 c.seat_each.ensures.seated c.run_workers.ensures.length
    c.run_workers.ensures.worked c.unseat_each.ensures.seats in
    let basis = ap (λ (t : Terms Opening). t.basis) c.in-Ok.ensures.terms in
    let history = c.close.result.history in
    let legal = subst (λ (o : Opening). IsLegal o history) (c.close.ensures.kept.0 ∙ basis)
    c.close.ensures.legal in
    let live = c.requires.budgets.1 in
    let are = c.requires.budgets.2 ∙ ap (λ n. script_budgets (n + put_lines c.args.parts.now)
    c.args.parts.now) live.2 in
    subst (λ ws. IsOneHistory g.L.Kms.link g.L.Kms.step g.D.Dice.left g.D.Dice.count
    c.args.files.now history c.args.core.opening c.args.parts.now c.args.budgets.now
    c.args.workers.now.items ws) (sym c.unseat_each.ensures.workers)
    (one_history g.L.Kms.link g.L.Kms.step g.D.Dice.left g.D.Dice.count c.args.files.now
    c.args.parts.now c.in-Ok.made.0 c.args.core.opening c.args.budgets.now c.in-Ok.made.1.0
    c.args.workers.now.items c.run_workers.new.workers.items c.unseat_each.new.seats.0 all history
    legal c.close.ensures.stand c.close.ensures.added live.0 live.1 are)

pub returns-clause-seats : goal.returns-clause-seats
returns-clause-seats g c = subst (λ ws. All (λ w. w.seat ≡ None) ws)
    (sym c.unseat_each.ensures.workers) (none_seated_now c.run_workers.new.workers.items)
