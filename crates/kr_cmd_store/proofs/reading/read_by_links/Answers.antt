-- `read_by_links`: the random source is borrowed for what is told, and comes back.
use Rattle.std.proofs.Common.{◌≡◌, ◌++◌, ◌<◌, [], arith, ap, subst, sym, ◌∙◌}
use Rattle.kr_config.specs.Kept.{rows_of}
use Rattle.kr_provider.specs.Names.{names_of}
use Rattle.kr_provider.specs.PluginOrder.{plugin_order}
use Rattle.kr_cmd_steps.specs.Environment.{with_exchanges, with_world}
use Rattle.kr_cmd_steps.proofs.RunTo.{not_opened, lends_to}
use Rattle.kr_cmd_steps.proofs.HeardLinks.{heard_alone, heard_so, heard_within, nothing_does}
use Rattle.kr_cmd_steps.proofs.Linked.{none_named, without_links}
use Rattle.kr_cmd_steps.proofs.NamedPrograms.{names_in}
use Rattle.kr_cmd_store.proofs.reading.read_by_links.Goals as goal

pub returns-in-Err : goal.returns-in-Err
returns-in-Err g c = nothing_does g.W.Link.Kms.link g.W.World.lent g.W.World.took
    g.W.Link.Kms.step 0 (λ i. (c.in-Err.ensures.objects.links i).handed) []
    (λ a. with_world (g.W.World.told c.args.world.now) a)
    (λ a. with_world (g.W.World.told c.open_dice.new.world) a)
    (λ a. not_opened c.in-Err.ensures.files c.in-Err.ensures.objects a 0
    c.in-Err.stop c.in-Err.ensures.why c.in-Err.ensures.asked)

pub read_linked-told-requires-clause-programs : goal.read_linked-told-requires-clause-programs
read_linked-told-requires-clause-programs g c κs within =
    subst (λ l. names_of g.W.Link.Kms.link l ++ names_in c.args.programs.now
    ≡ plugin_order (rows_of c.args.settings.entries.0)) (sym c.new-links.ensures)
    c.requires.programs

pub end-requires : goal.end-requires
end-requires g c = none_named g.W.Link.Kms.link c.read_linked-told.result.1
    (c.read_linked-told.ensures.names ∙ ap (names_of g.W.Link.Kms.link) c.new-links.ensures)

pub close_dice-requires-clause-out : goal.close_dice-requires-clause-out
close_dice-requires-clause-out g c κs within = subst (λ d. 0 < d.out 0)
    (sym c.read_linked-told.ensures.dice) (omega (arith, c.in-Ok.ensures.lent.out.out 0))

pub returns : goal.returns
returns g c =
    let link = g.W.Link.Kms.link in
    let lent = g.W.World.lent in
    let took = g.W.World.took in
    let step = g.W.Link.Kms.step in
    let none = none_named link c.read_linked-told.result.1
    (c.read_linked-told.ensures.names ∙ ap (names_of link) c.new-links.ensures) in
    heard_within link lent took step 0 {out = g.W.World.told c.open_dice.new.world}
    {mid = g.W.World.told c.read_linked-told.new.world}
    (λ i. (c.in-Ok.ensures.lent.links i).handed) (λ i. (c.close_dice.ensures.links i).handed) [] []
    _
    (heard_so link lent took step 0 [] [] _ _
    (heard_alone link lent took step 0 c.new-links.result c.read_linked-told.result.1 c.new-links.ensures none
    c.read_linked-told.ensures.does)
    (λ es does a. lends_to 0 a (with_exchanges es a) c.in-Ok.ensures.lent c.close_dice.ensures
    (without_links link c.new-links.result c.read_linked-told.result.1
    c.new-links.ensures c.read_linked-told.ensures.names (does a))))
