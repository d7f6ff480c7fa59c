-- `read_linked`: one more link is borrowed for what follows.
use Rattle.std.proofs.Common.{refl, sym, ap, ◌∙◌}
use Rattle.kr_base.proofs.Walks.{talk_so}
use Rattle.kr_config.specs.Kept.{rows_of}
use Rattle.kr_provider.specs.AskedLinks.{Among}
use Rattle.kr_provider.specs.Names.{names_of}
use Rattle.kr_provider.specs.PluginOrder.{plugin_order}
use Rattle.kr_cmd_steps.specs.Environment.{with_exchanges, with_world}
use Rattle.kr_cmd_steps.specs.StoreSteps.{row_findings, telling_findings, verifying_by}
use Rattle.kr_cmd_steps.specs.Plugins.{make_seeds}
use Rattle.kr_cmd_steps.specs.ValueSteps.{none_kept}
use Rattle.kr_cmd_steps.specs.Steps.{and_then}
use Rattle.kr_cmd_steps.proofs.Frames.{Seen}
use Rattle.kr_cmd_steps.proofs.HeardLinks.{heard_around, heard_by, heard_idle, heard_nothing, heard_so, loan_handed}
use Rattle.kr_cmd_steps.proofs.Hearing.{none_heard}
use Rattle.kr_cmd_steps.proofs.Linked.{added_new, at_end, at_first, borrows_to, last_back, last_named, last_out, none_added, none_borrowed, some_named}
use Rattle.kr_cmd_store.proofs.reading.+read_linked.Goals as goal

pub returns-in_default-clause-does : goal.returns-in_default-clause-does
returns-in_default-clause-does g t c =
    heard_by g.W.Link.Kms.link g.W.World.lent g.W.World.took g.W.Link.Kms.step 0 refl c.args.links
    c.read_stored_rows.result.1 _
    (talk_so (Among g.W.Link.Kms.step) _ _ c.args.links c.read_stored_rows.result.1
    c.read_stored_rows.ensures.does
    (λ es does a.
    at_end (verifying_by (rows_of c.args.settings.entries.0) c.args.rows.now) c.args.programs.now
    c.in_default.ensures (does (with_world (g.W.World.told c.args.world.now) a))))

pub returns-in-Err-clause-does : goal.returns-in-Err-clause-does
returns-in-Err-clause-does g t c =
    heard_nothing g.W.Link.Kms.link g.W.World.lent g.W.World.took g.W.Link.Kms.step 0
    (λ i. (c.in-Err.ensures.objects.links i).handed) c.args.links _ (λ a.
    at_first (verifying_by (rows_of c.args.settings.entries.0) c.args.rows.now) c.args.programs.now
    c.in-Some.program.now c.in-Some.more.now c.as_str.result.now c.as_str-2.result.now
    c.in-Some.ensures c.as_str.ensures c.as_str-2.ensures
    (none_heard (Seen g.W.Link.Kms.link (with_world (g.W.World.told c.open_link.new.world) a)
    c.args.links (g.W.Rand.Dice.left c.args.dice) (g.W.Rand.Dice.count c.args.dice))
    (none_borrowed g.W.Link.Kms.link a c.args.links (g.W.Rand.Dice.left c.args.dice)
    (g.W.Rand.Dice.count c.args.dice) c.in-Err.ensures.files
    c.in-Err.ensures.objects
    c.in-Err.stop c.in-Err.ensures.why c.in-Err.ensures.asked)))

pub add-requires : goal.add-requires
add-requires g t c = added_new g.W.Link.Kms.link (rows_of c.args.settings.entries.0) c.args.links
    c.in-Ok.ensures.lent c.as_str.ensures c.in-Some.ensures c.requires.programs

pub returns-in-Err-add-clause-does : goal.returns-in-Err-add-clause-does
returns-in-Err-add-clause-does g t c =
    let rows = rows_of c.args.settings.entries.0 in
    let lent = g.W.World.lent in
    let took = g.W.World.took in
    let step = g.W.Link.Kms.step in
    heard_idle g.W.Link.Kms.link lent took step 0 (g.W.World.told c.open_link.new.world)
    c.args.links c.add.new.self c.in-Ok.link c.in-Err-add.link _
    (loan_handed c.in-Ok.ensures.lent) c.close_link.ensures.back.home.handed
    c.in-Ok.ensures.given c.close_link.ensures.taken c.in-Err-add.ensures.err
    c.in-Err-add.ensures.returned (λ a.
    at_first (verifying_by rows c.args.rows.now)
    c.args.programs.now
    c.in-Some.program.now c.in-Some.more.now c.as_str.result.now c.as_str-2.result.now
    c.in-Some.ensures c.as_str.ensures c.as_str-2.ensures
    (none_heard (Seen g.W.Link.Kms.link (with_world (g.W.World.told c.close_link.new.world) a)
    c.add.new.self (g.W.Rand.Dice.left c.args.dice) (g.W.Rand.Dice.count c.args.dice))
    (none_added g.W.Link.Kms.link a (and_then (make_seeds (plugin_order rows))
    (λ seeds.
    and_then (row_findings (record { rows = rows; seeds = seeds }) c.args.rows.now none_kept)
    (telling_findings c.args.rows.now)))
    c.in-Some.more.now c.args.links c.add.new.self c.in-Ok.link
    c.in-Err-add.link (g.W.Rand.Dice.left c.args.dice) (g.W.Rand.Dice.count c.args.dice)
    c.in-Ok.ensures.lent c.close_link.ensures.back c.in-Err-add.ensures.err
    c.in-Err-add.ensures.returned)))

pub take_last-link-requires : goal.take_last-link-requires
take_last-link-requires g t c = λ none. some_named g.W.Link.Kms.link c.args.links c.in-Ok.link
    (ap (names_of g.W.Link.Kms.link) (sym c.in-Ok-add.ensures.ok)
    ∙ sym c.read_linked-told.ensures.names ∙ none)

pub close_link-requires-2-clause-out : goal.close_link-requires-2-clause-out
close_link-requires-2-clause-out g t c κs within = last_out g.W.Link.Kms.link c.args.links c.take_last-link.new.links c.in-Ok.ensures.lent c.in-Ok-add.ensures.ok c.take_last-link.ensures c.read_linked-told.ensures.names
    (g.W.World.told c.read_linked-told.new.world) c.read_linked-told.ensures.out

pub returns-clause-does : goal.returns-clause-does
returns-clause-does g t c =
    let lent = g.W.World.lent in
    let took = g.W.World.took in
    let step = g.W.Link.Kms.step in
    let last = c.take_last-link.result in
    let rest = c.take_last-link.new.links in
    heard_so g.W.Link.Kms.link lent took step 0 c.args.links rest _ _
    (heard_around g.W.Link.Kms.link lent took step 0 c.args.links rest c.add.new.self
    c.read_linked-told.result.1 c.in-Ok.link last (loan_handed c.in-Ok.ensures.lent)
    c.close_link-2.ensures.back.home.handed c.in-Ok.ensures.given c.close_link-2.ensures.taken c.in-Ok-add.ensures.ok
    c.take_last-link.ensures c.read_linked-told.ensures.does)
    (λ es does a.
    at_first (verifying_by (rows_of c.args.settings.entries.0) c.args.rows.now) c.args.programs.now
    c.in-Some.program.now c.in-Some.more.now c.as_str.result.now c.as_str-2.result.now
    c.in-Some.ensures c.as_str.ensures c.as_str-2.ensures
    (borrows_to g.W.Link.Kms.link a (with_exchanges es a) c.args.links c.add.new.self rest
    c.read_linked-told.result.1 c.in-Ok.link last
    (g.W.Rand.Dice.left c.args.dice) (g.W.Rand.Dice.left c.read_linked-told.result.2)
    (g.W.Rand.Dice.count c.args.dice) (g.W.Rand.Dice.count c.read_linked-told.result.2)
    c.in-Ok.ensures.lent c.close_link-2.ensures.back c.in-Ok-add.ensures.ok
    c.take_last-link.ensures (does a)))

pub returns-clause-out : goal.returns-clause-out
returns-clause-out g t c = last_back g.W.Link.Kms.link c.args.links c.take_last-link.new.links c.in-Ok.ensures.lent c.in-Ok-add.ensures.ok
    c.take_last-link.ensures c.read_linked-told.ensures.names (g.W.World.told c.read_linked-told.new.world)
    c.read_linked-told.ensures.out (g.W.World.told c.close_link-2.new.world) c.close_link-2.ensures.back

pub returns-clause-names : goal.returns-clause-names
returns-clause-names g t c = (last_named g.W.Link.Kms.link c.args.links c.take_last-link.new.links c.in-Ok.ensures.lent c.in-Ok-add.ensures.ok
    c.take_last-link.ensures c.read_linked-told.ensures.names).0
