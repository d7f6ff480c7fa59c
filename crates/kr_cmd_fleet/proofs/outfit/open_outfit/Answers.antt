-- `open_outfit`: the random source, and then the links.
use Rattle.std.proofs.Common.{◌∙◌, Contains, ap, subst, sym}
use Rattle.std.specs.Prelude.{◌<◌}
use Rattle.kr_cmd_fleet.proofs.Outfitting.{dice_out, equips_one, others_back, others_lent, others_same, others_trans, refuses_dice, refuses_links}
use Rattle.kr_cmd_fleet.specs.StartExchanges.{keys_at}
use Rattle.kr_cmd_fleet.proofs.Handed.{With, all_back, none_handed}
use Rattle.kr_cmd_fleet.proofs.Outfits.{LinksOf}
use Rattle.kr_cmd_fleet.proofs.outfit.open_outfit.Goals as goal

pub returns-in-Err-clause-does : goal.returns-in-Err-clause-does
returns-in-Err-clause-does g c = refuses_dice g.W.Link.Kms.link g.W.Rand.Dice.left
    g.W.Rand.Dice.count c.args.seat c.args.programs.now (g.W.World.told c.args.world.now)
    (g.W.World.told c.open_dice.new.world) c.in-Err.ensures.files c.in-Err.ensures.objects
    c.in-Err.stop c.in-Err.ensures.why c.in-Err.ensures.asked

pub returns-in-Err-clause-tapes : goal.returns-in-Err-clause-tapes
returns-in-Err-clause-tapes g c = c.in-Err.ensures.objects.tapes

pub returns-in-Err-clause-others : goal.returns-in-Err-clause-others
returns-in-Err-clause-others g c = others_same c.in-Err.ensures.objects

pub open_links-requires-clause-none : goal.open_links-requires-clause-none
open_links-requires-clause-none g c = λ κs within. c.new-links.ensures

pub returns-in-Ok-open_links-clause-does : goal.returns-in-Ok-open_links-clause-does
returns-in-Ok-open_links-clause-does g c = equips_one g.W.Link.Kms.link g.W.Rand.Dice.left
    g.W.Rand.Dice.count c.args.seat c.args.programs.now (g.W.World.told c.args.world.now)
    (g.W.World.told c.open_dice.new.world) (g.W.World.told c.open_links.new.world)
    (record { links = c.open_links.new.links; dice = c.in-Ok.dice }) c.in-Ok.ensures.lent
    c.in-Ok-open_links.ensures.does

pub returns-in-Ok-open_links-clause-out : goal.returns-in-Ok-open_links-clause-out
returns-in-Ok-open_links-clause-out g c = record {
  dice = subst (λ d. 0 < d.out c.args.seat) (sym c.in-Ok-open_links.ensures.dice)
      (dice_out c.in-Ok.ensures.lent.out);
  links = λ name there. c.in-Ok-open_links.ensures.out name
      (subst (λ names. Contains names name) (sym c.in-Ok-open_links.ensures.named) there);
}

pub returns-in-Ok-open_links-clause-others : goal.returns-in-Ok-open_links-clause-others
returns-in-Ok-open_links-clause-others g c = others_trans (others_lent c.in-Ok.ensures.lent)
    c.in-Ok-open_links.ensures.others

pub close_outfit-requires-clause-out : goal.close_outfit-requires-clause-out
close_outfit-requires-clause-out g c = λ κs within. record {
  dice = subst (λ d. 0 < d.out c.args.seat) (sym c.in-Err-open_links.ensures.dice)
      (dice_out c.in-Ok.ensures.lent.out);
  links = c.in-Err-open_links.ensures.out;
}

pub returns-in-Err-open_links-clause-does : goal.returns-in-Err-open_links-clause-does
returns-in-Err-open_links-clause-does g c = refuses_links g.W.Link.Kms.link
    g.W.Rand.Dice.left g.W.Rand.Dice.count c.args.seat c.args.programs.now
    (g.W.World.told c.args.world.now) (g.W.World.told c.open_dice.new.world)
    (g.W.World.told c.open_links.new.world) (g.W.World.told c.close_outfit.new.world)
    (record { links = c.open_links.new.links; dice = c.in-Ok.dice }) c.in-Ok.ensures.lent
    c.in-Err-open_links.stop c.in-Err-open_links.ensures.does c.close_outfit.ensures.back

pub returns-in-Err-open_links-clause-tapes : goal.returns-in-Err-open_links-clause-tapes
returns-in-Err-open_links-clause-tapes g c = c.close_outfit.ensures.back.tapes
    ∙ c.in-Err-open_links.ensures.tapes ∙ c.in-Ok.ensures.lent.tapes

pub returns-in-Err-open_links-clause-others : goal.returns-in-Err-open_links-clause-others
returns-in-Err-open_links-clause-others g c = others_trans (others_lent c.in-Ok.ensures.lent)
    (others_trans c.in-Err-open_links.ensures.others (others_back g.W.Link.Kms.link
    g.W.Rand.Dice.left g.W.Rand.Dice.count
    (record { links = c.open_links.new.links; dice = c.in-Ok.dice }) c.close_outfit.ensures.back))

pub returns-in-Ok-open_links-clause-lent : goal.returns-in-Ok-open_links-clause-lent
returns-in-Ok-open_links-clause-lent g c = c.in-Ok-open_links.ensures.lent

pub returns-in-Err-clause-handed : goal.returns-in-Err-clause-handed
returns-in-Err-clause-handed g c = none_handed g.W.Link.Kms.link g.W.World.lent g.W.World.took
    c.args.seat c.in-Err.ensures.objects

pub returns-in-Ok-open_links-clause-handed : goal.returns-in-Ok-open_links-clause-handed
returns-in-Ok-open_links-clause-handed g c = c.in-Ok-open_links.ensures.handed
    ∙ ap (λ (o : LinksOf). With (keys_at g.W.Link.Kms.link c.args.seat c.open_links.new.links)
    o.handed) c.in-Ok.ensures.lent.links

pub returns-in-Err-open_links-clause-handed : goal.returns-in-Err-open_links-clause-handed
returns-in-Err-open_links-clause-handed g c = all_back g.W.Link.Kms.link g.W.World.lent
    g.W.World.took c.args.seat c.open_links.new.links c.in-Ok.ensures.lent.links
    c.in-Err-open_links.ensures.handed c.close_outfit.ensures.back.links_are
    c.in-Err-open_links.ensures.lent c.close_outfit.ensures.taken
