-- `serve_lines`: one line behind another.
use Rattle.std.proofs.Common.{◌+◌, refl, subst, sym, ◌∙◌, arith}
use Rattle.std.proofs.lemmas.List.{take_all}
use Rattle.kr_workers.specs.inner.Going.{IsGoing}
use Rattle.kr_workers.proofs.AllLines.{begins, cut_short, ends_well, goes_on, next_ready}
use Rattle.kr_workers.proofs.lines.serve_lines.Goals as goal

pub loop-line-init : goal.loop-line-init
loop-line-init g c = (
  subst (λ rs. IsGoing g.L.Kms.link g.L.Kms.step g.D.Dice.left g.D.Dice.count
      c.args.files.now c.args.replica c.args.lines.now 0 (g.A.Acts.caller c.args.acts.now)
      c.args.bench.now rs (g.A.Acts.caller c.args.acts.now) c.args.bench.now)
      (sym c.requires.none_told)
      (begins g.L.Kms.link g.L.Kms.step g.D.Dice.left g.D.Dice.count c.args.files.now
      c.args.replica c.args.lines.now (g.A.Acts.caller c.args.acts.now) c.args.bench.now
      c.requires.ready),
  omega (arith, c.requires.room),
  refl,
)

pub serve_line-requires : goal.serve_line-requires
serve_line-requires g c = record {
  ready = next_ready g.L.Kms.link g.L.Kms.step g.D.Dice.left g.D.Dice.count c.args.files.now
      c.args.replica c.args.lines.now (g.A.Acts.caller c.args.acts.now) c.args.bench.now
      c.requires.ready c.line-item.result c.loop-line.line-index c.loop-line-test.true
      c.line-item.is c.loop-line.told.0 (g.A.Acts.caller c.loop-line.acts) c.loop-line.bench
      c.loop-line.invariant.0;
}

pub push_in_room-requires : goal.push_in_room-requires
push_in_room-requires g c = omega (arith, c.loop-line-test.true, c.loop-line.invariant.1)

pub loop-line-preserved : goal.loop-line-preserved
loop-line-preserved g c = (
  subst (λ rs. IsGoing g.L.Kms.link g.L.Kms.step g.D.Dice.left g.D.Dice.count
      c.args.files.now c.args.replica c.args.lines.now (c.loop-line.line-index + 1)
      (g.A.Acts.caller c.args.acts.now) c.args.bench.now rs (g.A.Acts.caller c.serve_line.new.acts)
      c.serve_line.new.bench) (sym c.push_in_room.ensures.items)
      (goes_on g.L.Kms.link g.L.Kms.step g.D.Dice.left g.D.Dice.count c.args.files.now
      c.args.replica c.args.lines.now (g.A.Acts.caller c.args.acts.now) c.args.bench.now
      c.requires.ready c.line-item.result c.loop-line.line-index c.loop-line-test.true
      c.line-item.is c.loop-line.told.0 (g.A.Acts.caller c.loop-line.acts) c.loop-line.bench
      c.loop-line.invariant.0 (g.A.Acts.caller c.serve_line.new.acts) c.serve_line.new.bench
      c.in-Ok.reply c.known.ensures c.in-Ok.ensures.serves),
  omega (arith, c.loop-line.invariant.1, c.push_in_room.ensures.room),
  c.in-Ok.ensures.place ∙ c.loop-line.invariant.2,
)

pub returns-in-Err-clause-runs : goal.returns-in-Err-clause-runs
returns-in-Err-clause-runs g c =
    cut_short g.L.Kms.link g.L.Kms.step g.D.Dice.left g.D.Dice.count c.args.files.now
    c.args.replica c.args.lines.now (g.A.Acts.caller c.args.acts.now) c.args.bench.now
    c.requires.ready c.line-item.result c.loop-line.line-index c.loop-line-test.true
    c.line-item.is c.loop-line.told.0 (g.A.Acts.caller c.loop-line.acts) c.loop-line.bench
    c.loop-line.invariant.0 (g.A.Acts.caller c.serve_line.new.acts) c.serve_line.new.bench
    c.in-Err.ensures.serves

pub returns-in-Err-clause-place : goal.returns-in-Err-clause-place
returns-in-Err-clause-place g c = c.in-Err.ensures.place ∙ c.loop-line.invariant.2

pub returns-clause-runs : goal.returns-clause-runs
returns-clause-runs g c =
    ends_well g.L.Kms.link g.L.Kms.step g.D.Dice.left g.D.Dice.count c.args.files.now
    c.args.replica c.args.lines.now (g.A.Acts.caller c.args.acts.now) c.args.bench.now
    c.requires.ready c.loop-line.line-index c.loop-line.told.0 (g.A.Acts.caller c.loop-line.acts)
    c.loop-line.bench (take_all c.loop-line.line-index c.args.lines.now c.loop-line-test.false)
    c.loop-line.invariant.0

pub returns-clause-place : goal.returns-clause-place
returns-clause-place g c = c.loop-line.invariant.2
