-- `publish_settings`: the seeds of the plugins, in the order of their names.
use Rattle.kr_config.specs.Kept.{rows_of}
use Rattle.kr_cmd_steps.proofs.Frames.{Seen}
use Rattle.kr_cmd_steps.proofs.Hearing.{unheard_does}
use Rattle.kr_cmd_steps.proofs.SeedSteps.{published, stopped, fails_named}
use Rattle.kr_cmd_steps.proofs.Telling.{walk_tells}
use Rattle.kr_cmd_steps.proofs.publication.publish_settings.Goals as goal

pub publish_stop-requires : goal.publish_stop-requires
publish_stop-requires g c = fails_named g.L.Kms.link g.D.Dice.left g.D.Dice.count
    (rows_of c.args.settings.entries.0) c.args.links.now c.publish.new.links c.args.dice.now
    c.publish.new.dice c.in-Err.why c.in-Err.ensures.published

pub returns-in-Err-clause-heard : goal.returns-in-Err-clause-heard
returns-in-Err-clause-heard g c = let t = c.in-Err.ensures.exchanged in
    let k = g.L.Kms in
    let laws = g.met.L.Kms in record {
      steps = t.steps;
      walk = t.walk;
      are = λ a. stopped k.link g.D.Dice.left g.D.Dice.count
          (rows_of c.args.settings.entries.0) c.args.settings.kept c.args.links.now
          c.publish.new.links c.args.dice.now c.publish.new.dice a c.known.ensures
          c.publish.ensures.asked c.publish.ensures.later t.steps
          (walk_tells k.link k.step laws.keeps laws.tells a.world.links c.args.links.now t.steps
          c.publish.new.links c.known.ensures t.walk)
          c.in-Err.why c.publish_stop.result t.are c.in-Err.ensures.published
          c.publish_stop.ensures;
    }

pub returns-in-Err-clause-does : goal.returns-in-Err-clause-does
returns-in-Err-clause-does g c a u = let t = returns-in-Err-clause-heard g c in
    unheard_does t.steps a
    (λ b. Seen g.L.Kms.link b c.publish.new.links (g.D.Dice.left c.publish.new.dice)
    (g.D.Dice.count c.publish.new.dice)) u (t.are a)

pub returns-in-Ok-clause-heard : goal.returns-in-Ok-clause-heard
returns-in-Ok-clause-heard g c = let t = c.in-Ok.ensures.exchanged in
    let k = g.L.Kms in
    let laws = g.met.L.Kms in record {
      steps = t.steps;
      walk = t.walk;
      are = λ a. published k.link g.D.Dice.left g.D.Dice.count
          (rows_of c.args.settings.entries.0) c.args.settings.kept c.args.links.now
          c.publish.new.links c.args.dice.now c.publish.new.dice a c.known.ensures
          c.publish.ensures.asked c.publish.ensures.later t.steps
          (walk_tells k.link k.step laws.keeps laws.tells a.world.links c.args.links.now t.steps
          c.publish.new.links c.known.ensures t.walk)
          c.in-Ok.published t.are;
    }

pub returns-in-Ok-clause-does : goal.returns-in-Ok-clause-does
returns-in-Ok-clause-does g c a u = let t = returns-in-Ok-clause-heard g c in
    unheard_does t.steps a
    (λ b. Seen g.L.Kms.link b c.publish.new.links (g.D.Dice.left c.publish.new.dice)
    (g.D.Dice.count c.publish.new.dice)) u (t.are a)
