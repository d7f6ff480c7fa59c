-- `publish_each`: one more replica is gone through, or ends the command.
use Rattle.std.proofs.Common.{subst, sym}
use Rattle.kr_provider.specs.Names.{names_of}
use Rattle.kr_cmd_fleet.specs.inner.Beginnings.{MayPublish}
use Rattle.kr_cmd_fleet.specs.inner.Plans.{named}
use Rattle.kr_cmd_fleet.proofs.Publishings.{IsPublishing, asked_further, later_further, may_publish, published_all, publishing_all, publishing_more, publishing_none, publishing_stops, publishing_unkept}
use Rattle.kr_cmd_fleet.proofs.fleet.publish_each.Goals as goal

pub loop-replica-init : goal.loop-replica-init
loop-replica-init g c =
    let links = c.args.links.now in
    let dice = c.args.dice.now in
    let files = named c.args.files.now in
    let replicas = c.args.replicas.now in
    subst (λ m. IsPublishing g.L.Kms.link g.L.Kms.step g.D.Dice.left g.D.Dice.count
    files replicas
    0 m links links dice dice) (sym c.new-made.ensures)
    (publishing_none g.L.Kms.link g.L.Kms.step g.D.Dice.left g.D.Dice.count files
    replicas links
    dice)

pub publish_replica-requires : goal.publish_replica-requires
publish_replica-requires g c =
    let files = named c.args.files.now in
    let replica = c.replica-item.result in record {
      read = may_publish g.L.Kms.link g.L.Kms.step g.D.Dice.left g.D.Dice.count files
          c.args.replicas.now c.loop-replica.invariant replica.1
          (subst (λ r. MayPublish (names_of g.L.Kms.link c.args.links.now) files r.1)
          (sym c.replica-item.is) (c.requires.read c.loop-replica.replica-index replica
          c.loop-replica-test.true));
    }

pub returns-in-Err-clause-does : goal.returns-in-Err-clause-does
returns-in-Err-clause-does g c = publishing_stops g.L.Kms.link g.L.Kms.step
    g.D.Dice.left
    g.D.Dice.count (named c.args.files.now) c.args.replicas.now c.loop-replica.invariant
    c.publish_replica.new.links c.publish_replica.new.dice c.replica-item.result
    c.loop-replica-test.true
    c.replica-item.is c.in-Err.stop c.in-Err.ensures.does

pub returns-in-Err-clause-asked : goal.returns-in-Err-clause-asked
returns-in-Err-clause-asked g c = asked_further g.L.Kms.link g.L.Kms.step
    g.D.Dice.left
    g.D.Dice.count (named c.args.files.now) c.args.replicas.now c.loop-replica.invariant
    c.publish_replica.new.links c.publish_replica.new.dice c.publish_replica.ensures.asked

pub returns-in-Err-clause-later : goal.returns-in-Err-clause-later
returns-in-Err-clause-later g c = later_further g.L.Kms.link g.L.Kms.step g.D.Dice.left
    g.D.Dice.count (named c.args.files.now) c.args.replicas.now c.loop-replica.invariant
    c.publish_replica.new.links c.publish_replica.new.dice c.publish_replica.ensures.later

pub returns-in-Err-push-clause-does : goal.returns-in-Err-push-clause-does
returns-in-Err-push-clause-does g c = publishing_unkept g.L.Kms.link
    g.L.Kms.step g.D.Dice.left g.D.Dice.count (named c.args.files.now) c.args.replicas.now
    c.loop-replica.invariant c.publish_replica.new.links c.publish_replica.new.dice
    c.replica-item.result
    c.loop-replica-test.true c.replica-item.is c.in-Ok.published c.in-Ok.ensures.does

pub returns-in-Err-push-clause-asked : goal.returns-in-Err-push-clause-asked
returns-in-Err-push-clause-asked g c = asked_further g.L.Kms.link g.L.Kms.step
    g.D.Dice.left
    g.D.Dice.count (named c.args.files.now) c.args.replicas.now c.loop-replica.invariant
    c.publish_replica.new.links c.publish_replica.new.dice c.publish_replica.ensures.asked

pub returns-in-Err-push-clause-later : goal.returns-in-Err-push-clause-later
returns-in-Err-push-clause-later g c = later_further g.L.Kms.link g.L.Kms.step g.D.Dice.left
    g.D.Dice.count (named c.args.files.now) c.args.replicas.now c.loop-replica.invariant
    c.publish_replica.new.links c.publish_replica.new.dice c.publish_replica.ensures.later

pub loop-replica-preserved : goal.loop-replica-preserved
loop-replica-preserved g c = publishing_more g.L.Kms.link g.L.Kms.step g.D.Dice.left
    g.D.Dice.count (named c.args.files.now) c.args.replicas.now c.loop-replica.invariant
    c.publish_replica.new.links c.publish_replica.new.dice c.replica-item.result
    c.loop-replica-test.true
    c.replica-item.is c.in-Ok.published c.in-Ok.ensures.does c.in-Ok.ensures.published
    c.publish_replica.ensures.asked c.publish_replica.ensures.later c.push.new.self.0
    c.in-Ok-push.ensures.ok

pub returns-clause-does : goal.returns-clause-does
returns-clause-does g c = publishing_all g.L.Kms.link g.L.Kms.step g.D.Dice.left
    g.D.Dice.count (named c.args.files.now) c.args.replicas.now c.loop-replica.invariant
    c.loop-replica-test.false

pub returns-clause-replicas : goal.returns-clause-replicas
returns-clause-replicas g c = published_all g.L.Kms.link g.L.Kms.step g.D.Dice.left
    g.D.Dice.count (named c.args.files.now) c.args.replicas.now c.loop-replica.invariant
    c.loop-replica-test.false

pub returns-clause-asked : goal.returns-clause-asked
returns-clause-asked g c = c.loop-replica.invariant.asked

pub returns-clause-later : goal.returns-clause-later
returns-clause-later g c = c.loop-replica.invariant.later
