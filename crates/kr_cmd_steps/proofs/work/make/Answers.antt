use Rattle.std.proofs.Common.{◌≡◌, ◌++◌, ◌<◌, ℕ, List, [], Option, arith, ap, subst, sym, ◌∙◌}
use Rattle.kr_config.specs.Kept.{rows_of}
use Rattle.kr_provider.specs.Names.{names_of}
use Rattle.kr_provider.specs.PluginOrder.{plugin_order}
use Rattle.kr_cmd_steps.proofs.Apart.{files_apart, objects_apart, loan_apart, return_apart}
use Rattle.kr_cmd_steps.specs.Environment.{with_exchanges, with_world}
use Rattle.kr_cmd_steps.specs.inner.Lent.{with_tapes}
use Rattle.kr_cmd_steps.proofs.RunTo.{not_opened, lends_to}
use Rattle.kr_cmd_steps.proofs.HeardLinks.{heard_alone, heard_nothing, heard_so, heard_within}
use Rattle.kr_cmd_steps.proofs.Hearing.{none_heard}
use Rattle.kr_cmd_steps.proofs.Links.{LinksOf}
use Rattle.kr_cmd_steps.proofs.Linked.{none_named, without_links}
use Rattle.kr_cmd_steps.proofs.NamedPrograms.{names_in}
use Rattle.kr_cmd_steps.proofs.work.make.Goals as goal

pub returns-in-Err-clause-made : goal.returns-in-Err-clause-made
returns-in-Err-clause-made g c = heard_nothing g.W.Link.Kms.link g.W.World.lent g.W.World.took
    g.W.Link.Kms.step 0 (ap (λ (o : LinksOf). o.handed) c.in-Err.ensures.objects.links) []
    _ (λ tapes a. none_heard (with_world (with_tapes tapes
    (g.W.World.told c.open_dice.new.world)) a)
    (not_opened (files_apart tapes c.in-Err.ensures.files)
    (objects_apart tapes c.in-Err.ensures.objects) a 0 c.in-Err.stop c.in-Err.ensures.why
    c.in-Err.ensures.asked))

pub returns-in-Err-clause-tapes : goal.returns-in-Err-clause-tapes
returns-in-Err-clause-tapes g c = c.in-Err.ensures.objects.tapes

pub make_linked-made-requires-clause-programs : goal.make_linked-made-requires-clause-programs
make_linked-made-requires-clause-programs g c κs within =
    subst (λ l. names_of g.W.Link.Kms.link l ++ names_in c.args.programs.now
    ≡ plugin_order (rows_of c.args.settings.entries.0)) (sym c.new-links.ensures)
    c.requires.programs

pub end-requires : goal.end-requires
end-requires g c = none_named g.W.Link.Kms.link c.make_linked-made.result.1
    (c.make_linked-made.ensures.names ∙ ap (names_of g.W.Link.Kms.link) c.new-links.ensures)

pub close_dice-requires-clause-out : goal.close_dice-requires-clause-out
close_dice-requires-clause-out g c κs within = subst (λ d. 0 < d.out 0)
    (sym c.make_linked-made.ensures.dice) (omega (arith, c.in-Ok.ensures.lent.out.out 0))

pub returns-clause-made : goal.returns-clause-made
returns-clause-made g c =
    let lent = g.W.World.lent in
    let took = g.W.World.took in
    let step = g.W.Link.Kms.step in
    let none = none_named g.W.Link.Kms.link c.make_linked-made.result.1
    (c.make_linked-made.ensures.names ∙ ap (names_of g.W.Link.Kms.link) c.new-links.ensures) in
    let link = g.W.Link.Kms.link in
    let of_links : LinksOf → Option (List (ℕ × List ℕ)) = λ o. o.handed in
    heard_so link lent took step 0 [] [] _ _
    (heard_within link lent took step 0 (ap of_links c.in-Ok.ensures.lent.links)
    (ap of_links c.close_dice.ensures.links) [] [] _
    (heard_alone link lent took step 0 c.new-links.result c.make_linked-made.result.1 c.new-links.ensures none
    c.make_linked-made.ensures.made))
    (λ es does tapes a. lends_to 0 a (with_exchanges es a)
    (loan_apart tapes c.in-Ok.ensures.lent) (return_apart tapes c.close_dice.ensures)
    (without_links g.W.Link.Kms.link c.new-links.result c.make_linked-made.result.1
    c.new-links.ensures c.make_linked-made.ensures.names (does tapes a)))

pub returns-clause-tapes : goal.returns-clause-tapes
returns-clause-tapes g c = c.close_dice.ensures.tapes ∙ c.make_linked-made.ensures.tapes
    ∙ c.in-Ok.ensures.lent.tapes
