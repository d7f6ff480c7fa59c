-- `close_links`: each turn gives the last link back.
use Rattle.std.proofs.Common.{◌∙◌, ap, arith, length, subst, sym}
use Rattle.std.specs.Prelude.{All}
use Rattle.std.proofs.lemmas.List.Elements.{All-nil, All-push}
use Rattle.std.proofs.lemmas.List.{length_push}
use Rattle.kr_cmd_fleet.proofs.Returning.{all_returned, last_link_out, none_returned, one_returned}
use Rattle.kr_cmd_fleet.proofs.outfit.close_links.Goals as goal

pub loop-link-init : goal.loop-link-init
loop-link-init g c = (
  none_returned g.W.Link.Kms.link c.args.seat c.args.links
      (g.W.World.told c.args.world.now) c.known.ensures c.requires.out,
  λ all. all,
)

pub close_link-requires-clause-out : goal.close_link-requires-clause-out
close_link-requires-clause-out g c κs within = last_link_out g.W.Link.Kms.link c.args.seat
    c.args.links (g.W.World.told c.args.world.now) c.loop-link.links c.take.new.self
    c.in-Some.link (g.W.World.told c.loop-link.world) c.loop-link.invariant.0 c.in-Some.ensures

pub loop-link-preserved : goal.loop-link-preserved
loop-link-preserved g c = (
  one_returned g.W.Link.Kms.link c.args.seat
      c.args.links (g.W.World.told c.args.world.now) c.loop-link.links c.take.new.self
      c.in-Some.link (g.W.World.told c.loop-link.world) c.loop-link.invariant.0 c.in-Some.ensures
      (g.W.World.told c.close_link.new.world) c.close_link.ensures.back,
  λ rest. c.loop-link.invariant.1
      (subst (All (g.W.World.took c.args.seat)) (sym c.in-Some.ensures)
      (All-push (g.W.World.took c.args.seat) c.take.new.self c.in-Some.link rest
      c.close_link.ensures.taken)),
)

pub loop-link-smaller : goal.loop-link-smaller
loop-link-smaller g c =
    omega (arith, ap length c.in-Some.ensures ∙ length_push c.take.new.self c.in-Some.link)

pub returns-clause-back : goal.returns-clause-back
returns-clause-back g c = all_returned g.W.Link.Kms.link c.args.seat c.args.links
    (g.W.World.told c.args.world.now) c.loop-link.links (g.W.World.told c.loop-link.world)
    c.loop-link.invariant.0 (c.in_default.ensures).0

pub returns-clause-taken : goal.returns-clause-taken
returns-clause-taken g c = c.loop-link.invariant.1
    (subst (All (g.W.World.took c.args.seat)) (sym (c.in_default.ensures).0)
    (All-nil (g.W.World.took c.args.seat)))
