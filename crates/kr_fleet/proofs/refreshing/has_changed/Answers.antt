-- `has_changed`: each plugin's key id is compared, behind those before it.
use Rattle.std.proofs.Common.{arith, refl}
use Rattle.kr_provider.proofs.AskedLists.{asked_none}
use Rattle.kr_fleet.specs.LoadCalls.{plugin_names}
use Rattle.kr_provider.specs.AskedLinks.{Among}
use Rattle.kr_fleet.proofs.RenewTalks.{all_compared, changed_talk, none_compared, same_talk, stopped_talk}
use Rattle.kr_fleet.proofs.Renewing.{asked_later, bench_kept, changed_later, linked, same_later, stopped_later}
use Rattle.kr_fleet.proofs.refreshing.has_changed.Goals as goal

pub loop-row-init : goal.loop-row-init
loop-row-init g c = (
  λ k l d. absurd (omega (arith, l)),
  asked_none g.L.Kms.link (plugin_names c.args.seeds.now) c.args.bench.now.links,
  refl,
  none_compared (Among g.L.Kms.step) c.args.seeds.now c.args.bench.now.links,
)

pub is_changed-requires : goal.is_changed-requires
is_changed-requires g c = record {
  link = linked g.L.Kms.link c.args.seeds.now c.row-item.result c.loop-row.row-index
      c.loop-row-test.true c.row-item.is c.args.bench.now.links c.loop-row.bench.links
      c.loop-row.bench.links c.loop-row.invariant.1 c.requires.links;
}

pub loop-row-preserved : goal.loop-row-preserved
loop-row-preserved g c = (
  same_later g.L.Kms.link c.args.seeds.now c.row-item.result c.loop-row.row-index
      c.loop-row-test.true c.row-item.is c.args.bench.now.links c.loop-row.bench.links
      c.is_changed.new.bench.links c.loop-row.invariant.1 c.in-Ok.changed c.if-changed.false
      c.in-Ok.ensures.compares c.loop-row.invariant.0,
  asked_later g.L.Kms.link c.args.seeds.now c.row-item.result c.loop-row.row-index
      c.loop-row-test.true c.row-item.is c.args.bench.now.links c.loop-row.bench.links
      c.is_changed.new.bench.links c.loop-row.invariant.1 c.is_changed.ensures.asked,
  bench_kept c.args.bench.now c.loop-row.bench c.is_changed.new.bench c.loop-row.invariant.2
      c.is_changed.ensures.kept,
  same_talk (Among g.L.Kms.step) c.args.seeds.now c.row-item.result c.loop-row.row-index
      c.loop-row-test.true c.row-item.is c.args.bench.now.links c.loop-row.bench.links
      c.is_changed.new.bench.links c.loop-row.invariant.3 c.in-Ok.changed c.if-changed.false
      c.in-Ok.ensures.exchanged,
)

pub returns-in-Err-clause-compares : goal.returns-in-Err-clause-compares
returns-in-Err-clause-compares g c = stopped_later g.L.Kms.link c.args.seeds.now
    c.row-item.result c.loop-row.row-index c.loop-row-test.true c.row-item.is
    c.args.bench.now.links c.loop-row.bench.links c.is_changed.new.bench.links
    c.loop-row.invariant.1 c.loop-row.invariant.0 c.in-Err.why c.in-Err.ensures.compares

pub returns-in-Err-clause-asked : goal.returns-in-Err-clause-asked
returns-in-Err-clause-asked g c = asked_later g.L.Kms.link c.args.seeds.now c.row-item.result
    c.loop-row.row-index c.loop-row-test.true c.row-item.is c.args.bench.now.links
    c.loop-row.bench.links c.is_changed.new.bench.links c.loop-row.invariant.1
    c.is_changed.ensures.asked

pub returns-then-changed-clause-compares : goal.returns-then-changed-clause-compares
returns-then-changed-clause-compares g c = changed_later g.L.Kms.link c.args.seeds.now
    c.row-item.result c.loop-row.row-index c.loop-row-test.true c.row-item.is
    c.args.bench.now.links c.loop-row.bench.links c.is_changed.new.bench.links
    c.loop-row.invariant.1 c.in-Ok.changed c.if-changed.true c.in-Ok.ensures.compares

pub returns-then-changed-clause-asked : goal.returns-then-changed-clause-asked
returns-then-changed-clause-asked g c = asked_later g.L.Kms.link c.args.seeds.now
    c.row-item.result c.loop-row.row-index c.loop-row-test.true c.row-item.is
    c.args.bench.now.links c.loop-row.bench.links c.is_changed.new.bench.links
    c.loop-row.invariant.1 c.is_changed.ensures.asked

pub returns-in-Err-clause-exchanged : goal.returns-in-Err-clause-exchanged
returns-in-Err-clause-exchanged g c = stopped_talk (Among g.L.Kms.step) c.args.seeds.now
    c.row-item.result c.loop-row.row-index c.loop-row-test.true c.row-item.is
    c.args.bench.now.links c.loop-row.bench.links c.is_changed.new.bench.links
    c.loop-row.invariant.3 c.in-Err.why c.in-Err.ensures.exchanged

pub returns-then-changed-clause-exchanged : goal.returns-then-changed-clause-exchanged
returns-then-changed-clause-exchanged g c = changed_talk (Among g.L.Kms.step) c.args.seeds.now
    c.row-item.result c.loop-row.row-index c.loop-row-test.true c.row-item.is
    c.args.bench.now.links c.loop-row.bench.links c.is_changed.new.bench.links
    c.loop-row.invariant.3 c.in-Ok.changed c.if-changed.true c.in-Ok.ensures.exchanged

pub returns-clause-exchanged : goal.returns-clause-exchanged
returns-clause-exchanged g c = all_compared (Among g.L.Kms.step) c.args.seeds.now
    c.loop-row.row-index c.args.bench.now.links c.loop-row.bench.links c.loop-row.invariant.3
    c.loop-row-test.false
