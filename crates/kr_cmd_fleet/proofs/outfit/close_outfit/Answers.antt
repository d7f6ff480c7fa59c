-- `close_outfit`: the links, and then the random source.
use Rattle.std.proofs.Common.{subst, sym}
use Rattle.std.specs.Prelude.{◌<◌}
use Rattle.kr_cmd_fleet.proofs.Returning.{outfit_returned}
use Rattle.kr_cmd_fleet.proofs.outfit.close_outfit.Goals as goal

pub close_links-requires-clause-out : goal.close_links-requires-clause-out
close_links-requires-clause-out g c = λ κs within. c.requires.out.links

pub close_dice-requires-clause-out : goal.close_dice-requires-clause-out
close_dice-requires-clause-out g c = λ κs within.
    subst (λ d. 0 < d.out c.args.seat) (sym c.close_links.ensures.back.dice) c.requires.out.dice

pub returns-clause-back : goal.returns-clause-back
returns-clause-back g c = outfit_returned g.W.Link.Kms.link g.W.Rand.Dice.left g.W.Rand.Dice.count
    c.args.seat c.args.outfit c.close_links.ensures.back c.close_dice.ensures

pub returns-clause-taken : goal.returns-clause-taken
returns-clause-taken g c = c.close_links.ensures.taken
