-- `make_linked`: one more link is borrowed for what follows.
use Rattle.std.proofs.Common.{refl, sym, ap, ◌∙◌}
use Rattle.kr_base.proofs.Walks.{talk_so}
use Rattle.kr_config.specs.Kept.{rows_of}
use Rattle.kr_provider.specs.AskedLinks.{Among}
use Rattle.kr_provider.specs.Names.{names_of}
use Rattle.kr_provider.specs.PluginOrder.{plugin_order}
use Rattle.kr_cmd_steps.specs.Environment.{with_exchanges, with_world}
use Rattle.kr_cmd_steps.specs.ValueSteps.{working, working_by}
use Rattle.kr_cmd_steps.specs.Plugins.{make_seeds}
use Rattle.kr_cmd_steps.specs.Steps.{and_then}
use Rattle.kr_cmd_steps.specs.inner.Lent.{with_tapes}
use Rattle.kr_cmd_steps.proofs.Apart.{files_apart, objects_apart, link_apart, link_back_apart}
use Rattle.kr_cmd_steps.proofs.Frames.{Seen}
use Rattle.kr_cmd_steps.proofs.HeardLinks.{heard_around, heard_by, heard_idle, heard_nothing, heard_so, loan_handed}
use Rattle.kr_cmd_steps.proofs.Hearing.{none_heard}
use Rattle.kr_cmd_steps.proofs.Linked.{added_new, at_end, at_first, borrows_to, last_back, last_named, last_out, none_added, none_borrowed, some_named}
use Rattle.kr_cmd_steps.proofs.Links.{LinksOf}
use Rattle.kr_cmd_steps.proofs.work.+make_linked.Goals as goal

pub returns-in_default-clause-made : goal.returns-in_default-clause-made
returns-in_default-clause-made g t c = let task = c.args.task.now in
    heard_by g.W.Link.Kms.link g.W.World.lent g.W.World.took g.W.Link.Kms.step 0 refl c.args.links
    c.make_on_bench.result.1 _
    (talk_so (Among g.W.Link.Kms.step) _ _ c.args.links c.make_on_bench.result.1 c.make_on_bench.ensures.made
    (λ es does tapes a. at_end
    (working task.direction task.resource.now task.path.now (rows_of c.args.settings.entries.0)
    c.args.bytes) c.args.programs.now c.in_default.ensures
    (does (with_world (with_tapes tapes (g.W.World.told c.args.world.now)) a))))

pub returns-in-Err-clause-made : goal.returns-in-Err-clause-made
returns-in-Err-clause-made g t c = let task = c.args.task.now in
    heard_nothing g.W.Link.Kms.link g.W.World.lent g.W.World.took g.W.Link.Kms.step 0
    (ap (λ (o : LinksOf). o.handed) c.in-Err.ensures.objects.links) c.args.links _ (λ tapes a.
    at_first (working task.direction task.resource.now task.path.now (rows_of c.args.settings.entries.0)
    c.args.bytes) c.args.programs.now
    c.in-Some.program.now c.in-Some.more.now c.as_str.result.now c.as_str-2.result.now
    c.in-Some.ensures c.as_str.ensures c.as_str-2.ensures
    (none_heard (Seen g.W.Link.Kms.link (with_world (with_tapes tapes
    (g.W.World.told c.open_link.new.world)) a) c.args.links (g.W.Rand.Dice.left c.args.dice)
    (g.W.Rand.Dice.count c.args.dice))
    (none_borrowed g.W.Link.Kms.link a c.args.links (g.W.Rand.Dice.left c.args.dice)
    (g.W.Rand.Dice.count c.args.dice) (files_apart tapes c.in-Err.ensures.files)
    (objects_apart tapes c.in-Err.ensures.objects)
    c.in-Err.stop c.in-Err.ensures.why c.in-Err.ensures.asked)))

pub add-requires : goal.add-requires
add-requires g t c = added_new g.W.Link.Kms.link (rows_of c.args.settings.entries.0) c.args.links
    c.in-Ok.ensures.lent c.as_str.ensures c.in-Some.ensures c.requires.programs

pub returns-in-Err-add-clause-made : goal.returns-in-Err-add-clause-made
returns-in-Err-add-clause-made g t c = let task = c.args.task.now in
    let rows = rows_of c.args.settings.entries.0 in
    let lent = g.W.World.lent in
    let took = g.W.World.took in
    let step = g.W.Link.Kms.step in
    heard_idle g.W.Link.Kms.link lent took step 0 (g.W.World.told c.open_link.new.world)
    c.args.links c.add.new.self c.in-Ok.link c.in-Err-add.link _ (loan_handed c.in-Ok.ensures.lent)
    c.close_link.ensures.back.home.handed c.in-Ok.ensures.given c.close_link.ensures.taken c.in-Err-add.ensures.err
    c.in-Err-add.ensures.returned (λ tapes a.
    at_first (working task.direction task.resource.now task.path.now rows c.args.bytes)
    c.args.programs.now
    c.in-Some.program.now c.in-Some.more.now c.as_str.result.now c.as_str-2.result.now
    c.in-Some.ensures c.as_str.ensures c.as_str-2.ensures
    (none_heard (Seen g.W.Link.Kms.link (with_world (with_tapes tapes
    (g.W.World.told c.close_link.new.world)) a) c.add.new.self (g.W.Rand.Dice.left c.args.dice)
    (g.W.Rand.Dice.count c.args.dice))
    (none_added g.W.Link.Kms.link a (and_then (make_seeds (plugin_order rows))
    (working_by task.direction task.resource.now task.path.now rows c.args.bytes))
    c.in-Some.more.now c.args.links c.add.new.self c.in-Ok.link
    c.in-Err-add.link (g.W.Rand.Dice.left c.args.dice) (g.W.Rand.Dice.count c.args.dice)
    (link_apart tapes c.in-Ok.ensures.lent) (link_back_apart tapes c.close_link.ensures.back)
    c.in-Err-add.ensures.err c.in-Err-add.ensures.returned)))

pub take_last-link-requires : goal.take_last-link-requires
take_last-link-requires g t c = λ none. some_named g.W.Link.Kms.link c.args.links c.in-Ok.link
    (ap (names_of g.W.Link.Kms.link) (sym c.in-Ok-add.ensures.ok)
    ∙ sym c.make_linked-made.ensures.names ∙ none)

pub close_link-requires-2-clause-out : goal.close_link-requires-2-clause-out
close_link-requires-2-clause-out g t c κs within = last_out g.W.Link.Kms.link c.args.links c.take_last-link.new.links c.in-Ok.ensures.lent c.in-Ok-add.ensures.ok c.take_last-link.ensures c.make_linked-made.ensures.names
    (g.W.World.told c.make_linked-made.new.world) c.make_linked-made.ensures.out

pub returns-clause-made : goal.returns-clause-made
returns-clause-made g t c = let task = c.args.task.now in
    let lent = g.W.World.lent in
    let took = g.W.World.took in
    let step = g.W.Link.Kms.step in
    let last = c.take_last-link.result in
    let rest = c.take_last-link.new.links in
    let link = g.W.Link.Kms.link in
    heard_so link lent took step 0 c.args.links rest _ _
    (heard_around link lent took step 0 c.args.links rest c.add.new.self c.make_linked-made.result.1
    c.in-Ok.link last (loan_handed c.in-Ok.ensures.lent)
    c.close_link-2.ensures.back.home.handed c.in-Ok.ensures.given c.close_link-2.ensures.taken c.in-Ok-add.ensures.ok
    c.take_last-link.ensures c.make_linked-made.ensures.made)
    (λ es does tapes a.
    at_first (working task.direction task.resource.now task.path.now (rows_of c.args.settings.entries.0)
    c.args.bytes) c.args.programs.now
    c.in-Some.program.now c.in-Some.more.now c.as_str.result.now c.as_str-2.result.now
    c.in-Some.ensures c.as_str.ensures c.as_str-2.ensures
    (borrows_to g.W.Link.Kms.link a (with_exchanges es a) c.args.links c.add.new.self rest
    c.make_linked-made.result.1 c.in-Ok.link last
    (g.W.Rand.Dice.left c.args.dice) (g.W.Rand.Dice.left c.make_linked-made.result.2)
    (g.W.Rand.Dice.count c.args.dice) (g.W.Rand.Dice.count c.make_linked-made.result.2)
    (link_apart tapes c.in-Ok.ensures.lent) (link_back_apart tapes c.close_link-2.ensures.back)
    c.in-Ok-add.ensures.ok c.take_last-link.ensures (does tapes a)))

pub returns-clause-out : goal.returns-clause-out
returns-clause-out g t c = last_back g.W.Link.Kms.link c.args.links c.take_last-link.new.links c.in-Ok.ensures.lent c.in-Ok-add.ensures.ok
    c.take_last-link.ensures c.make_linked-made.ensures.names (g.W.World.told c.make_linked-made.new.world)
    c.make_linked-made.ensures.out (g.W.World.told c.close_link-2.new.world) c.close_link-2.ensures.back

pub returns-clause-names : goal.returns-clause-names
returns-clause-names g t c = (last_named g.W.Link.Kms.link c.args.links c.take_last-link.new.links c.in-Ok.ensures.lent c.in-Ok-add.ensures.ok
    c.take_last-link.ensures c.make_linked-made.ensures.names).0
