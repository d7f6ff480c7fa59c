-- `seeded`: one more item was handed in.
use Rattle.std.proofs.Common.{arith, length, ◌∙◌, ap}
use Rattle.std.specs.Prelude.{reverse}
use Rattle.std.proofs.lemmas.List.{length_push}
use Rattle.kr_cmd_watch.specs.Watchings.{keep}
use Rattle.kr_cmd_watch.proofs.SeededItems.{seeding_all, seeding_more, seeding_none}
use Rattle.kr_cmd_watch.proofs.following.seeded.Goals as goal

pub loop-item-init : goal.loop-item-init
loop-item-init c = seeding_none c.args.items.0 c.from_vec-items.result.0 keep c.args.revision
    c.in_ok-watch.watch (c.from_vec-items.ensures ∙ c.reverse.ensures.items ∙ ap reverse c.into_vec-items.ensures)
    c.in_ok-watch.ensures

pub loop-item-preserved : goal.loop-item-preserved
loop-item-preserved c = seeding_more c.args.items.0 c.loop-item.items.0
    c.pop.new.self.0 c.in-Some.item keep c.args.revision c.loop-item.watch
    c.seed.new.self c.loop-item.invariant c.in-Some.ensures.items c.in_ok-seed.ensures.ok

pub loop-item-smaller : goal.loop-item-smaller
loop-item-smaller c = omega (
  arith,
  ap length c.in-Some.ensures.items ∙ length_push c.pop.new.self.0 c.in-Some.item,
)

pub returns : goal.returns
returns c = seeding_all c.args.items.0 c.loop-item.items.0 c.args.revision
    c.loop-item.watch c.loop-item.invariant c.in_default.ensures.items.0 c.known-2.ensures
