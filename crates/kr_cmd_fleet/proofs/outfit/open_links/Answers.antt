-- `open_links`: each turn borrows one more link.
use Rattle.std.proofs.Common.{◌∙◌, ap, subst, sym}
use Rattle.std.specs.Prelude.{◌<◌, All}
use Rattle.std.proofs.lemmas.List.Elements.{All-nil, All-push}
use Rattle.kr_cmd_fleet.proofs.Outfitting.{IsTurn, all_named, all_opened, is_out, lacked_handed, lacked_link, new_name, no_link, one_link, others_linked, others_same, others_trans, others_unlinked, refused_handed, refused_link, still_out}
use Rattle.kr_cmd_fleet.proofs.outfit.open_links.Given.{Over}
use Rattle.kr_cmd_fleet.proofs.outfit.open_links.Goals.{After-open_link}
use Rattle.kr_cmd_fleet.proofs.outfit.open_links.Goals as goal

turn : (g : Over) (c : After-open_link g) → IsTurn g.W.Link.Kms.link g.W.Rand.Dice.left
    g.W.Rand.Dice.count c.args.seat c.args.programs.now (g.W.World.told c.args.world.now)
    c.loop-program.program-index (g.W.World.told c.loop-program.world) c.loop-program.links
    c.as_str.result.now c.as_str-in-loop-program.result.now
turn g c = record {
  rows = c.requires.programs.0;
  order = c.requires.programs.1;
  so = c.loop-program.invariant.0;
  program = c.program-item.result;
  less = c.loop-program-test.true;
  is = c.program-item.is;
  plugin_is = c.as_str.ensures;
  file_is = c.as_str-in-loop-program.ensures;
}

pub loop-program-init : goal.loop-program-init
loop-program-init g c = (
  no_link g.W.Link.Kms.link g.W.Rand.Dice.left g.W.Rand.Dice.count
      c.args.seat c.args.programs.now (g.W.World.told c.args.world.now) c.args.links.now
      c.requires.none,
  subst (All (g.W.World.lent c.args.seat)) (sym c.requires.none)
      (All-nil (g.W.World.lent c.args.seat)),
)

pub returns-in-Err-clause-does : goal.returns-in-Err-clause-does
returns-in-Err-clause-does g c = refused_link g.W.Link.Kms.link g.W.Rand.Dice.left
    g.W.Rand.Dice.count c.args.seat c.args.programs.now (g.W.World.told c.args.world.now)
    (turn g (goal.at.returns-in-Err-clause-does g c).After-open_link)
    (g.W.World.told c.open_link.new.world) c.in-Err.ensures.files c.in-Err.ensures.objects
    c.in-Err.stop c.in-Err.ensures.why c.in-Err.ensures.asked

pub returns-in-Err-clause-tapes : goal.returns-in-Err-clause-tapes
returns-in-Err-clause-tapes g c = c.in-Err.ensures.objects.tapes ∙ c.loop-program.invariant.0.tapes

pub returns-in-Err-clause-dice : goal.returns-in-Err-clause-dice
returns-in-Err-clause-dice g c = c.in-Err.ensures.objects.dice ∙ c.loop-program.invariant.0.dice

pub returns-in-Err-clause-out : goal.returns-in-Err-clause-out
returns-in-Err-clause-out g c = λ name there.
    subst (λ o. 0 < o.out (c.args.seat, name)) (sym c.in-Err.ensures.objects.links)
    (c.loop-program.invariant.0.out name there)

pub returns-in-Err-clause-others : goal.returns-in-Err-clause-others
returns-in-Err-clause-others g c =
    others_trans c.loop-program.invariant.0.others (others_same c.in-Err.ensures.objects)

pub add-requires : goal.add-requires
add-requires g c = new_name g.W.Link.Kms.link g.W.Rand.Dice.left
    g.W.Rand.Dice.count c.args.seat c.args.programs.now (g.W.World.told c.args.world.now)
    (turn g (goal.at.add-requires g c).After-open_link)
    c.in-Ok.link (g.W.World.told c.open_link.new.world) c.in-Ok.ensures.lent

pub close_link-requires-clause-out : goal.close_link-requires-clause-out
close_link-requires-clause-out g c = λ κs within. is_out g.W.Link.Kms.link g.W.Rand.Dice.left
    g.W.Rand.Dice.count c.args.seat c.args.programs.now (g.W.World.told c.args.world.now)
    (turn g (goal.at.close_link-requires-clause-out g c).After-open_link)
    c.in-Ok.link (g.W.World.told c.open_link.new.world) c.in-Ok.ensures.lent
    (g.W.Link.Kms.link c.in-Err-add.link).name
    (ap (λ l. (g.W.Link.Kms.link l).name) c.in-Err-add.ensures.returned)

pub returns-in-Err-add-clause-does : goal.returns-in-Err-add-clause-does
returns-in-Err-add-clause-does g c = lacked_link g.W.Link.Kms.link g.W.Rand.Dice.left
    g.W.Rand.Dice.count c.args.seat c.args.programs.now (g.W.World.told c.args.world.now)
    (turn g (goal.at.returns-in-Err-add-clause-does g c).After-open_link)
    c.in-Ok.link (g.W.World.told c.open_link.new.world) c.in-Ok.ensures.lent
    c.in-Err-add.link (g.W.World.told c.close_link.new.world) c.close_link.ensures.back
    c.in-Err-add.ensures.returned c.add.new.self c.in-Err-add.ensures.err

pub returns-in-Err-add-clause-tapes : goal.returns-in-Err-add-clause-tapes
returns-in-Err-add-clause-tapes g c = c.close_link.ensures.back.tapes ∙ c.in-Ok.ensures.lent.tapes
    ∙ c.loop-program.invariant.0.tapes

pub returns-in-Err-add-clause-dice : goal.returns-in-Err-add-clause-dice
returns-in-Err-add-clause-dice g c = c.close_link.ensures.back.dice ∙ c.in-Ok.ensures.lent.dice
    ∙ c.loop-program.invariant.0.dice

pub returns-in-Err-add-clause-out : goal.returns-in-Err-add-clause-out
returns-in-Err-add-clause-out g c = still_out g.W.Link.Kms.link g.W.Rand.Dice.left
    g.W.Rand.Dice.count c.args.seat c.args.programs.now (g.W.World.told c.args.world.now)
    (turn g (goal.at.returns-in-Err-add-clause-out g c).After-open_link)
    c.in-Ok.link (g.W.World.told c.open_link.new.world) c.in-Ok.ensures.lent
    c.in-Err-add.link (g.W.World.told c.close_link.new.world) c.close_link.ensures.back
    c.in-Err-add.ensures.returned c.add.new.self c.in-Err-add.ensures.err

pub returns-in-Err-add-clause-others : goal.returns-in-Err-add-clause-others
returns-in-Err-add-clause-others g c = others_trans c.loop-program.invariant.0.others
    (others_trans (others_linked c.in-Ok.ensures.lent) (others_unlinked c.close_link.ensures.back))

pub loop-program-preserved : goal.loop-program-preserved
loop-program-preserved g c = (
  one_link g.W.Link.Kms.link g.W.Rand.Dice.left
      g.W.Rand.Dice.count c.args.seat c.args.programs.now (g.W.World.told c.args.world.now)
      (turn g (goal.at.loop-program-preserved g c).After-open_link)
      c.in-Ok.link (g.W.World.told c.open_link.new.world) c.in-Ok.ensures.lent
      c.add.new.self c.in-Ok-add.ensures.ok,
  subst (All (g.W.World.lent c.args.seat)) (sym c.in-Ok-add.ensures.ok)
      (All-push (g.W.World.lent c.args.seat) c.loop-program.links c.in-Ok.link
      c.loop-program.invariant.1 c.in-Ok.ensures.given),
)

pub returns-clause-does : goal.returns-clause-does
returns-clause-does g c = all_opened g.W.Link.Kms.link g.W.Rand.Dice.left g.W.Rand.Dice.count
    c.args.seat c.args.programs.now (g.W.World.told c.args.world.now)
    c.loop-program.program-index (g.W.World.told c.loop-program.world) c.loop-program.links
    c.loop-program.invariant.0 c.loop-program-test.false

pub returns-clause-named : goal.returns-clause-named
returns-clause-named g c = all_named g.W.Link.Kms.link g.W.Rand.Dice.left g.W.Rand.Dice.count
    c.args.seat c.args.programs.now (g.W.World.told c.args.world.now)
    c.loop-program.program-index (g.W.World.told c.loop-program.world) c.loop-program.links
    c.loop-program.invariant.0 c.loop-program-test.false

pub returns-clause-tapes : goal.returns-clause-tapes
returns-clause-tapes g c = c.loop-program.invariant.0.tapes

pub returns-clause-dice : goal.returns-clause-dice
returns-clause-dice g c = c.loop-program.invariant.0.dice

pub returns-clause-out : goal.returns-clause-out
returns-clause-out g c = c.loop-program.invariant.0.out

pub returns-clause-others : goal.returns-clause-others
returns-clause-others g c = c.loop-program.invariant.0.others

pub returns-in-Err-clause-lent : goal.returns-in-Err-clause-lent
returns-in-Err-clause-lent g c = c.loop-program.invariant.1

pub returns-in-Err-add-clause-lent : goal.returns-in-Err-add-clause-lent
returns-in-Err-add-clause-lent g c =
    subst (All (g.W.World.lent c.args.seat)) (sym c.in-Err-add.ensures.err)
    c.loop-program.invariant.1

pub returns-clause-lent : goal.returns-clause-lent
returns-clause-lent g c = c.loop-program.invariant.1

pub returns-in-Err-clause-handed : goal.returns-in-Err-clause-handed
returns-in-Err-clause-handed g c = refused_handed g.W.Link.Kms.link g.W.Rand.Dice.left
    g.W.Rand.Dice.count c.args.seat c.args.programs.now (g.W.World.told c.args.world.now)
    (turn g (goal.at.returns-in-Err-clause-handed g c).After-open_link)
    g.W.World.lent g.W.World.took (g.W.World.told c.open_link.new.world) c.in-Err.ensures.objects

pub returns-in-Err-add-clause-handed : goal.returns-in-Err-add-clause-handed
returns-in-Err-add-clause-handed g c = lacked_handed g.W.Link.Kms.link g.W.Rand.Dice.left
    g.W.Rand.Dice.count c.args.seat c.args.programs.now (g.W.World.told c.args.world.now)
    (turn g (goal.at.returns-in-Err-add-clause-handed g c).After-open_link)
    c.in-Ok.link (g.W.World.told c.open_link.new.world) c.in-Ok.ensures.lent
    c.in-Err-add.link (g.W.World.told c.close_link.new.world) c.close_link.ensures.back
    c.in-Err-add.ensures.returned c.in-Ok.ensures.given c.close_link.ensures.taken
    c.add.new.self c.in-Err-add.ensures.err

pub returns-clause-handed : goal.returns-clause-handed
returns-clause-handed g c = c.loop-program.invariant.0.handed
