-- `rewrite_linked`: one more link is borrowed for what follows, while the store's tape is out.
use Rattle.std.proofs.Common.{◌≡◌, ◌++◌, Err, refl, subst, sym, ap, ◌∙◌}
use Rattle.kr_config.specs.Kept.{rows_of}
use Rattle.kr_provider.specs.Names.{names_of}
use Rattle.kr_provider.specs.PluginOrder.{plugin_order}
use Rattle.kr_store.specs.Stores.{Kept}
use Rattle.kr_base.proofs.Walks.{talk_so}
use Rattle.kr_provider.specs.AskedLinks.{Among}
use Rattle.kr_cmd_steps.specs.Environment.{with_exchanges, with_world}
use Rattle.kr_cmd_steps.proofs.HeardLinks.{heard_around, heard_by, heard_idle, heard_nothing, heard_so, loan_handed}
use Rattle.kr_cmd_steps.proofs.Hearing.{none_heard}
use Rattle.kr_cmd_steps.specs.RewriteSteps.{driving, nothing_done, rewriting_by, starting}
use Rattle.kr_cmd_steps.specs.ValueSteps.{none_kept}
use Rattle.kr_cmd_steps.specs.Plugins.{borrow_links, make_seeds}
use Rattle.kr_cmd_steps.specs.Steps.{and_then}
use Rattle.kr_cmd_messages.specs.declared.refusal.Stop.TheVariants.{NoMemory}
use Rattle.kr_cmd_steps.specs.inner.Lent.{with_tapes}
use Rattle.kr_cmd_steps.specs.inner.Phases.{Does}
use Rattle.kr_cmd_steps.specs.inner.Reporting.{saying}
use Rattle.kr_cmd_steps.specs.inner.Tapes.{stored_of}
use Rattle.kr_cmd_steps.proofs.Apart.{files_apart, objects_apart, link_apart, link_back_apart}
use Rattle.kr_cmd_steps.proofs.Linked.{all_back, at_end, at_first, borrows_to, is_new, is_out, none_added, none_borrowed, same_last, some_named}
use Rattle.kr_cmd_steps.proofs.NamedPrograms.{names_in}
use Rattle.kr_cmd_rewrite.proofs.Said.{All_lent, saying_seen, stopped_by, tapes_lent}
use Rattle.kr_cmd_rewrite.proofs.rewriting.+rewrite_linked.Goals as goal

pub returns-in_default-clause-ended : goal.returns-in_default-clause-ended
returns-in_default-clause-ended g t c =
    heard_by g.W.Link.Kms.link g.W.World.lent g.W.World.took g.W.Link.Kms.step 0 refl c.args.links
    c.rewrite_by_settings.result.2 _
    (talk_so (Among g.W.Link.Kms.step) _ _ c.args.links c.rewrite_by_settings.result.2
    c.rewrite_by_settings.ensures.ended (λ es does name tapes a live is.
    at_end (rewriting_by name (rows_of c.args.settings.entries.0) (stored_of c.args.rollout.store)
    live) c.args.programs.now c.in_default.ensures
    (does name (with_world (with_tapes tapes (g.W.World.told c.args.world.now)) a) live is)))

pub returns-in-Err-clause-ended : goal.returns-in-Err-clause-ended
returns-in-Err-clause-ended g t c =
    heard_nothing g.W.Link.Kms.link g.W.World.lent g.W.World.took g.W.Link.Kms.step 0
    (λ i. (c.in-Err.ensures.objects.links i).handed) c.args.links _
    (λ name tapes a live is.
    let store = c.args.rollout.store in
    let before = tapes_lent name store.told store.count tapes in
    let next = rewriting_by name (rows_of c.args.settings.entries.0) (stored_of store) live in
    let link = g.W.Link.Kms.link in
    let left = g.W.Rand.Dice.left c.args.dice in
    let faults = g.W.Rand.Dice.count c.args.dice in
    let old = g.W.World.told c.args.world.now in
    let new = g.W.World.told c.open_link.new.world in
    stopped_by c.in-Err.stop c.stopped.result c.stopped.ensures
    (none_heard (All_lent link c.args.links left faults name c.into_store.result.told
    c.into_store.result.count (with_world (with_tapes tapes new) a))
    (subst (λ (s : Kept). Does (borrow_links c.args.programs.now next)
    (All_lent link c.args.links left faults name store.told store.count
    (with_world (with_tapes tapes old) a))
    (All_lent link c.args.links left faults name s.told s.count
    (with_world (with_tapes tapes new) a)) (Err c.in-Err.stop)) (sym c.into_store.ensures)
    (at_first next c.args.programs.now c.in-Some.program.now c.in-Some.more.now c.as_str.result.now
    c.as_str-2.result.now c.in-Some.ensures c.as_str.ensures c.as_str-2.ensures
    (none_borrowed link a c.args.links left faults (files_apart before c.in-Err.ensures.files)
    (objects_apart before c.in-Err.ensures.objects) c.in-Err.stop c.in-Err.ensures.why
    c.in-Err.ensures.asked)))))

pub add-requires : goal.add-requires
add-requires g t c = is_new g.W.Link.Kms.link (rows_of c.args.settings.entries.0) c.args.links
    c.in-Some.program.now c.in-Some.more.now
    (subst (λ p. names_of g.W.Link.Kms.link c.args.links ++ names_in p
    ≡ plugin_order (rows_of c.args.settings.entries.0)) c.in-Some.ensures c.requires.programs)
    c.in-Ok.link (ap (λ l. l.name) c.in-Ok.ensures.lent.link_is ∙ c.as_str.ensures)

pub returns-in-Err-add-clause-ended : goal.returns-in-Err-add-clause-ended
returns-in-Err-add-clause-ended g t c =
    heard_idle g.W.Link.Kms.link g.W.World.lent g.W.World.took g.W.Link.Kms.step 0
    (g.W.World.told c.open_link.new.world) c.args.links c.add.new.self c.in-Ok.link
    c.in-Err-add.link _ (loan_handed c.in-Ok.ensures.lent)
    c.close_link.ensures.back.home.handed c.in-Ok.ensures.given c.close_link.ensures.taken
    c.in-Err-add.ensures.err c.in-Err-add.ensures.returned (λ name tapes a live is.
    let rows = rows_of c.args.settings.entries.0 in
    let store = c.args.rollout.store in
    let before = tapes_lent name store.told store.count tapes in
    let next = rewriting_by name rows (stored_of store) live in
    let link = g.W.Link.Kms.link in
    let left = g.W.Rand.Dice.left c.args.dice in
    let faults = g.W.Rand.Dice.count c.args.dice in
    let old = g.W.World.told c.args.world.now in
    let new = g.W.World.told c.close_link.new.world in
    stopped_by NoMemory c.stopped-in-Err-add.result c.stopped-in-Err-add.ensures
    (none_heard (All_lent link c.add.new.self left faults name
    c.into_store-in-Err-add.result.told c.into_store-in-Err-add.result.count
    (with_world (with_tapes tapes new) a))
    (subst (λ (s : Kept). Does (borrow_links c.args.programs.now next)
    (All_lent link c.args.links left faults name store.told store.count
    (with_world (with_tapes tapes old) a))
    (All_lent link c.add.new.self left faults name s.told s.count
    (with_world (with_tapes tapes new) a)) (Err NoMemory)) (sym c.into_store-in-Err-add.ensures)
    (at_first next c.args.programs.now c.in-Some.program.now c.in-Some.more.now c.as_str.result.now
    c.as_str-2.result.now c.in-Some.ensures c.as_str.ensures c.as_str-2.ensures
    (none_added link a (and_then (make_seeds (plugin_order rows)) (λ seeds.
    and_then (starting store.rows rows) (λ u.
    driving name (record { rows = rows; seeds = seeds }) live none_kept
    (nothing_done (stored_of store)))))
    c.in-Some.more.now c.args.links c.add.new.self c.in-Ok.link c.in-Err-add.link left faults
    (link_apart before c.in-Ok.ensures.lent) (link_back_apart before c.close_link.ensures.back)
    c.in-Err-add.ensures.err c.in-Err-add.ensures.returned)))))

pub take_last-link-requires : goal.take_last-link-requires
take_last-link-requires g t c = λ none. some_named g.W.Link.Kms.link c.args.links c.in-Ok.link
    (ap (names_of g.W.Link.Kms.link) (sym c.in-Ok-add.ensures.ok)
    ∙ sym c.rewrite_linked-ended.ensures.names ∙ none)

pub close_link-requires-2-clause-out : goal.close_link-requires-2-clause-out
close_link-requires-2-clause-out g t c κs within =
    let link = g.W.Link.Kms.link in
    let last = same_last link c.take_last-link.new.links c.args.links c.take_last-link.result
    c.in-Ok.link (ap (names_of link) (sym c.take_last-link.ensures)
    ∙ c.rewrite_linked-ended.ensures.names ∙ ap (names_of link) c.in-Ok-add.ensures.ok) in
    is_out c.in-Ok.ensures.lent.out (g.W.World.told c.rewrite_linked-ended.new.world).links
    (link c.take_last-link.result).name c.rewrite_linked-ended.ensures.out
    (last.1 ∙ ap (λ l. l.name) c.in-Ok.ensures.lent.link_is)

pub returns-clause-ended : goal.returns-clause-ended
returns-clause-ended g t c =
    heard_so g.W.Link.Kms.link g.W.World.lent g.W.World.took g.W.Link.Kms.step 0 c.args.links
    c.take_last-link.new.links _ _
    (heard_around g.W.Link.Kms.link g.W.World.lent g.W.World.took g.W.Link.Kms.step 0 c.args.links
    c.take_last-link.new.links c.add.new.self c.rewrite_linked-ended.result.2 c.in-Ok.link
    c.take_last-link.result (loan_handed c.in-Ok.ensures.lent)
    c.close_link-2.ensures.back.home.handed c.in-Ok.ensures.given c.close_link-2.ensures.taken
    c.in-Ok-add.ensures.ok c.take_last-link.ensures c.rewrite_linked-ended.ensures.ended)
    (λ es does name tapes a live is.
    let then = with_exchanges es a in
    let rows = rows_of c.args.settings.entries.0 in
    let store = c.args.rollout.store in
    let back = c.rewrite_linked-ended.result.1 in
    let ended = c.rewrite_linked-ended.result.0 in
    let said = ended.said in
    let before = tapes_lent name store.told store.count tapes in
    let after = tapes_lent name back.told back.count tapes in
    let next = rewriting_by name rows (stored_of store) live in
    let link = g.W.Link.Kms.link in
    let left = g.W.Rand.Dice.left c.args.dice in
    let faults = g.W.Rand.Dice.count c.args.dice in
    let dice = c.rewrite_linked-ended.result.3 in
    let old = g.W.World.told c.args.world.now in
    let out = g.W.World.told c.open_link.new.world in
    let mid = g.W.World.told c.rewrite_linked-ended.new.world in
    let last = g.W.World.told c.close_link-2.new.world in
    subst (λ b. Does (borrow_links c.args.programs.now next)
    (All_lent link c.args.links left faults name store.told store.count
    (with_world (with_tapes tapes old) a)) b ended.made)
    (sym (saying_seen link said c.take_last-link.new.links (g.W.Rand.Dice.left dice)
    (g.W.Rand.Dice.count dice) name back.told back.count tapes last then))
    (at_first next c.args.programs.now c.in-Some.program.now c.in-Some.more.now c.as_str.result.now
    c.as_str-2.result.now c.in-Some.ensures c.as_str.ensures c.as_str-2.ensures
    (borrows_to link a (saying said then) c.args.links c.add.new.self c.take_last-link.new.links
    c.rewrite_linked-ended.result.2 c.in-Ok.link c.take_last-link.result left
    (g.W.Rand.Dice.left dice) faults (g.W.Rand.Dice.count dice)
    (link_apart before c.in-Ok.ensures.lent) (link_back_apart after c.close_link-2.ensures.back)
    c.in-Ok-add.ensures.ok c.take_last-link.ensures
    (subst (λ b. Does (borrow_links c.in-Some.more.now next)
    (All_lent link c.add.new.self left faults name store.told store.count
    (with_world (with_tapes tapes out) a)) b ended.made)
    (saying_seen link said c.rewrite_linked-ended.result.2 (g.W.Rand.Dice.left dice)
    (g.W.Rand.Dice.count dice) name back.told back.count tapes mid then)
    (does name tapes a live is)))))

pub returns-clause-out : goal.returns-clause-out
returns-clause-out g t c =
    let link = g.W.Link.Kms.link in
    let last = same_last link c.take_last-link.new.links c.args.links c.take_last-link.result
    c.in-Ok.link (ap (names_of link) (sym c.take_last-link.ensures)
    ∙ c.rewrite_linked-ended.ensures.names ∙ ap (names_of link) c.in-Ok-add.ensures.ok) in
    all_back c.in-Ok.ensures.lent.out (g.W.World.told c.rewrite_linked-ended.new.world).links
    (g.W.World.told c.close_link-2.new.world).links (link c.take_last-link.result).name
    c.rewrite_linked-ended.ensures.out c.close_link-2.ensures.back.home
    (last.1 ∙ ap (λ l. l.name) c.in-Ok.ensures.lent.link_is)

pub returns-clause-names : goal.returns-clause-names
returns-clause-names g t c =
    let link = g.W.Link.Kms.link in
    (same_last link c.take_last-link.new.links c.args.links c.take_last-link.result
    c.in-Ok.link (ap (names_of link) (sym c.take_last-link.ensures)
    ∙ c.rewrite_linked-ended.ensures.names ∙ ap (names_of link) c.in-Ok-add.ensures.ok)).0
