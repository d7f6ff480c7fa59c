-- `rewrite_on_tape`: the store is loaded, there is room, and what follows has its tape out.
use Rattle.std.proofs.Common.{◌≡◌, ℕ, ◌++◌, ◌<◌, List, [], Result, sym, ◌∙◌, ap, refl, subst, arith}
use Rattle.kr_config.specs.Kept.{rows_of}
use Rattle.kr_provider.specs.Names.{names_of}
use Rattle.kr_provider.specs.PluginOrder.{plugin_order}
use Rattle.kr_cmd_steps.specs.Environment.{Environment, with_exchanges, with_world}
use Rattle.kr_cmd_steps.proofs.HeardLinks.{heard_alone, heard_nothing, heard_so, heard_within}
use Rattle.kr_cmd_steps.proofs.Hearing.{none_heard}
use Rattle.kr_cmd_steps.specs.RewriteSteps.{rewriting_by, rewriting_on}
use Rattle.kr_cmd_steps.specs.Phases.{stored_on}
use Rattle.kr_cmd_steps.specs.Plugins.{borrow_links}
use Rattle.kr_cmd_steps.specs.Steps.{borrow_dice}
use Rattle.kr_cmd_messages.specs.declared.refusal.Limit.TheVariants as limit
use Rattle.kr_cmd_messages.specs.declared.refusal.Object.TheVariants.{Store}
use Rattle.kr_cmd_messages.specs.declared.refusal.Refusal.TheVariants.{Limit}
use Rattle.kr_cmd_messages.specs.declared.refusal.Outcome.{Outcome}
use Rattle.kr_cmd_messages.specs.declared.refusal.Stop.{Stop}
use Rattle.kr_cmd_messages.specs.declared.refusal.Stop.TheVariants.{Refused, NoMemory}
use Rattle.kr_cmd_steps.specs.inner.Lent.{with_tapes, with_lent_tape}
use Rattle.kr_cmd_steps.specs.inner.Phases.{Does}
use Rattle.kr_cmd_steps.specs.inner.Reporting.{saying}
use Rattle.kr_cmd_steps.specs.inner.Tapes.{stored_of}
use Rattle.kr_cmd_steps.proofs.Apart.{files_apart, objects_apart, loan_apart, return_apart}
use Rattle.kr_cmd_steps.proofs.RunTo.{goes_on, stops, not_opened, lends_to}
use Rattle.kr_cmd_steps.proofs.Linked.{none_named, without_links}
use Rattle.kr_cmd_steps.proofs.Loading.{as_closed}
use Rattle.kr_cmd_steps.proofs.NamedPrograms.{names_in}
use Rattle.kr_cmd_rewrite.proofs.Said.{All_lent, Finding, listing_lacking, room_lacking, room_there, saying_seen, saying_tape, stopped_by, tapes_lent}
use Rattle.kr_cmd_steps.proofs.Tapes.{behind_tape}
use Rattle.kr_cmd_rewrite.proofs.rewriting.rewrite_on_tape.Given.{Over}
use Rattle.kr_cmd_rewrite.proofs.rewriting.rewrite_on_tape.Goals.{In-Ok}
use Rattle.kr_cmd_rewrite.proofs.rewriting.rewrite_on_tape.Goals as goal

-- the store is loaded, and what follows goes on from it
loaded : (g : Over) (c : In-Ok g) (name : List ℕ) (a : Environment) {end : Environment}
    {made : Result Outcome Stop}
    → Does (Finding name (rows_of c.args.settings.entries.0) c.args.programs.now
    (stored_of c.in-Ok.store)) (with_lent_tape name c.in-Ok.store.told c.in-Ok.store.count
    (with_world (g.W.World.told c.args.world.now) a)) end made
    → Does (rewriting_on name (rows_of c.args.settings.entries.0) c.args.programs.now)
    (with_lent_tape name (g.W.Tap.Tape.told c.args.tape) (g.W.Tap.Tape.count c.args.tape)
    (with_world (g.W.World.told c.args.world.now) a)) end made
loaded g c name a d = goes_on (stored_on Store name)
    (Finding name (rows_of c.args.settings.entries.0) c.args.programs.now)
    (stored_of c.in-Ok.store)
    (c.in-Ok.ensures.ok name (with_world (g.W.World.told c.args.world.now) a)) d

pub returns-in-Err-clause-ended : goal.returns-in-Err-clause-ended
returns-in-Err-clause-ended g c =
    heard_nothing g.W.Link.Kms.link g.W.World.lent g.W.World.took g.W.Link.Kms.step 0
    refl [] _ (λ name a.
    let rows = rows_of c.args.settings.entries.0 in
    let now = with_world (g.W.World.told c.args.world.now) a in
    stopped_by c.in-Err.stop c.stopped.result c.stopped.ensures
    (none_heard (with_lent_tape name (g.W.Tap.Tape.told c.in-Err.tape)
    (g.W.Tap.Tape.count c.in-Err.tape) now)
    (stops (stored_on Store name) (Finding name rows c.args.programs.now) c.in-Err.stop
    (c.in-Err.ensures.err name now))))

pub returns-in_default-clause-ended : goal.returns-in_default-clause-ended
returns-in_default-clause-ended g c =
    heard_nothing g.W.Link.Kms.link g.W.World.lent g.W.World.took g.W.Link.Kms.step 0
    refl [] _ (λ name a.
    let rows = rows_of c.args.settings.entries.0 in
    let now = with_world (g.W.World.told c.args.world.now) a in
    stopped_by (Refused (Limit limit.Journal)) c.stopped-in_default.result
    c.stopped-in_default.ensures
    (none_heard (with_lent_tape name (g.W.Tap.Tape.told c.close.result)
    (g.W.Tap.Tape.count c.close.result) now)
    (as_closed (rewriting_on name rows c.args.programs.now) name now _ c.close.ensures.told
    c.close.ensures.count
    (loaded g (goal.at.returns-in_default-clause-ended g c).In-Ok name a
    (room_lacking name rows c.args.programs.now (stored_of c.in-Ok.store)
    (with_lent_tape name c.in-Ok.store.told c.in-Ok.store.count now) c.in_default.ensures)))))

pub returns-in-Err-program_plugins-clause-ended : goal.returns-in-Err-program_plugins-clause-ended
returns-in-Err-program_plugins-clause-ended g c =
    heard_nothing g.W.Link.Kms.link g.W.World.lent g.W.World.took g.W.Link.Kms.step 0
    refl [] _ (λ name a.
    let here = (goal.at.returns-in-Err-program_plugins-clause-ended g c).In-Ok in
    let rows = rows_of c.args.settings.entries.0 in
    let now = with_world (g.W.World.told c.args.world.now) a in
    stopped_by NoMemory c.stopped-in-Err-program_plugins.result
    c.stopped-in-Err-program_plugins.ensures
    (none_heard (with_lent_tape name (g.W.Tap.Tape.told c.close-in-Err-program_plugins.result)
    (g.W.Tap.Tape.count c.close-in-Err-program_plugins.result) now)
    (as_closed (rewriting_on name rows c.args.programs.now) name now _
    c.close-in-Err-program_plugins.ensures.told c.close-in-Err-program_plugins.ensures.count
    (loaded g here name a (listing_lacking name rows c.args.programs.now (stored_of c.in-Ok.store)
    (with_lent_tape name c.in-Ok.store.told c.in-Ok.store.count now))))))

pub returns-in-Err-open_dice-clause-ended : goal.returns-in-Err-open_dice-clause-ended
returns-in-Err-open_dice-clause-ended g c =
    heard_nothing g.W.Link.Kms.link g.W.World.lent g.W.World.took g.W.Link.Kms.step 0
    (λ i. (c.in-Err-open_dice.ensures.objects.links i).handed) [] _ (λ name a.
    let rows = rows_of c.args.settings.entries.0 in
    let programs = c.args.programs.now in
    let store = c.in-Ok.store in
    let world = g.W.World.told c.args.world.now in
    let then = with_world (g.W.World.told c.open_dice.new.world) a in
    let room = c.in-Some.ensures in
    let tapes = tapes_lent name store.told store.count world.tapes in
    stopped_by c.in-Err-open_dice.stop c.stopped-in-Err-open_dice.result
    c.stopped-in-Err-open_dice.ensures
    (none_heard (with_lent_tape name (g.W.Tap.Tape.told c.close-in-Err-open_dice.result)
    (g.W.Tap.Tape.count c.close-in-Err-open_dice.result) then)
    (as_closed (rewriting_on name rows programs) name then _ c.close-in-Err-open_dice.ensures.told
    c.close-in-Err-open_dice.ensures.count
    (loaded g (goal.at.returns-in-Err-open_dice-clause-ended g c).In-Ok name a
    (room_there name rows programs (stored_of store) room.0 room.1
    (omega (arith, room.2, room.3))
    (behind_tape name store.told store.count a c.in-Err-open_dice.ensures.objects.tapes
    (not_opened (files_apart tapes c.in-Err-open_dice.ensures.files)
    (objects_apart tapes c.in-Err-open_dice.ensures.objects) a 0 c.in-Err-open_dice.stop
    c.in-Err-open_dice.ensures.why c.in-Err-open_dice.ensures.asked)))))))

pub returns-in-Err-open_dice-clause-tapes : goal.returns-in-Err-open_dice-clause-tapes
returns-in-Err-open_dice-clause-tapes g c = c.in-Err-open_dice.ensures.objects.tapes

pub rewrite_linked-ended-requires-clause-programs :
    goal.rewrite_linked-ended-requires-clause-programs
rewrite_linked-ended-requires-clause-programs g c κs within =
    subst (λ l. names_of g.W.Link.Kms.link l ++ names_in c.args.programs.now
    ≡ plugin_order (rows_of c.args.settings.entries.0)) (sym c.new-links.ensures)
    c.requires.programs

pub rewrite_linked-ended-requires-clause-names : goal.rewrite_linked-ended-requires-clause-names
rewrite_linked-ended-requires-clause-names g c κs within =
    c.in-Ok-program_plugins.ensures ∙ c.requires.programs

pub rewrite_linked-ended-requires-clause-room : goal.rewrite_linked-ended-requires-clause-room
rewrite_linked-ended-requires-clause-room g c κs within = c.in-Some.ensures

pub rewrite_linked-ended-requires-clause-within : goal.rewrite_linked-ended-requires-clause-within
rewrite_linked-ended-requires-clause-within g c κs within = c.in-Ok.ensures.limit.0

pub rewrite_linked-ended-requires-clause-whole : goal.rewrite_linked-ended-requires-clause-whole
rewrite_linked-ended-requires-clause-whole g c κs within = c.in-Ok.ensures.limit.1

pub end-requires : goal.end-requires
end-requires g c = none_named g.W.Link.Kms.link c.rewrite_linked-ended.result.2
    (c.rewrite_linked-ended.ensures.names ∙ ap (names_of g.W.Link.Kms.link) c.new-links.ensures)

pub close_dice-requires-clause-out : goal.close_dice-requires-clause-out
close_dice-requires-clause-out g c κs within = subst (λ d. 0 < d.out 0)
    (sym c.rewrite_linked-ended.ensures.dice)
    (omega (arith, c.in-Ok-open_dice.ensures.lent.out.out 0))

pub returns-clause-ended : goal.returns-clause-ended
returns-clause-ended g c =
    heard_within g.W.Link.Kms.link g.W.World.lent g.W.World.took g.W.Link.Kms.step 0
    {out = g.W.World.told c.open_dice.new.world}
    {mid = g.W.World.told c.rewrite_linked-ended.new.world}
    (λ i. (c.in-Ok-open_dice.ensures.lent.links i).handed)
    (λ i. (c.close_dice.ensures.links i).handed) [] [] _
    (heard_so g.W.Link.Kms.link g.W.World.lent g.W.World.took g.W.Link.Kms.step 0 [] [] _ _
    (heard_alone g.W.Link.Kms.link g.W.World.lent g.W.World.took g.W.Link.Kms.step 0 c.new-links.result
    c.rewrite_linked-ended.result.2 c.new-links.ensures
    (none_named g.W.Link.Kms.link c.rewrite_linked-ended.result.2
    (c.rewrite_linked-ended.ensures.names ∙ ap (names_of g.W.Link.Kms.link) c.new-links.ensures))
    c.rewrite_linked-ended.ensures.ended) (λ es does name a.
    let after_all = with_exchanges es a in
    let link = g.W.Link.Kms.link in
    let rows = rows_of c.args.settings.entries.0 in
    let programs = c.args.programs.now in
    let store = c.in-Ok.store in
    let world = g.W.World.told c.args.world.now in
    let now = with_world world a in
    let room = c.in-Some.ensures in
    let ended = c.rewrite_linked-ended.result.0 in
    let said = ended.said in
    let back = c.rewrite_linked-ended.result.1 in
    let out = g.W.World.told c.open_dice.new.world in
    let mid = g.W.World.told c.rewrite_linked-ended.new.world in
    let last = g.W.World.told c.close_dice.new.world in
    let given = c.in-Ok-open_dice.dice in
    let dice = c.rewrite_linked-ended.result.3 in
    let before = tapes_lent name store.told store.count world.tapes in
    let after = tapes_lent name back.told back.count world.tapes in
    let next = borrow_links programs (rewriting_by name rows (stored_of store) room.0) in
    let same = c.close_dice.ensures.tapes ∙ c.rewrite_linked-ended.ensures.tapes
    ∙ c.in-Ok-open_dice.ensures.lent.tapes in
    subst (λ b. Does (rewriting_on name rows programs)
    (with_lent_tape name (g.W.Tap.Tape.told c.args.tape) (g.W.Tap.Tape.count c.args.tape) now)
    b ended.made)
    (sym (saying_tape said name (g.W.Tap.Tape.told c.close-2.result)
    (g.W.Tap.Tape.count c.close-2.result) last after_all))
    (as_closed (rewriting_on name rows programs) name (with_world last (saying said after_all)) _
    c.close-2.ensures.told c.close-2.ensures.count
    (loaded g (goal.at.returns-clause-ended g c).In-Ok name a
    (room_there name rows programs (stored_of store) room.0 room.1
    (omega (arith, room.2, room.3))
    (subst (λ ts. Does (borrow_dice 0 next) (with_lent_tape name store.told store.count now)
    (with_world (with_tapes (tapes_lent name back.told back.count ts) last) (saying said after_all))
    ended.made) (sym same)
    (lends_to 0 a (saying said after_all) (loan_apart before c.in-Ok-open_dice.ensures.lent)
    (return_apart after c.close_dice.ensures)
    (without_links link c.new-links.result c.rewrite_linked-ended.result.2 c.new-links.ensures
    c.rewrite_linked-ended.ensures.names
    (subst (λ b. Does next (All_lent link c.new-links.result (g.W.Rand.Dice.left given)
    (g.W.Rand.Dice.count given) name store.told store.count
    (with_world (with_tapes world.tapes out) a)) b ended.made)
    (saying_seen link said c.rewrite_linked-ended.result.2 (g.W.Rand.Dice.left dice)
    (g.W.Rand.Dice.count dice) name back.told back.count world.tapes mid after_all)
    (does name world.tapes a room.0 room.1))))))))))

pub returns-clause-tapes : goal.returns-clause-tapes
returns-clause-tapes g c = c.close_dice.ensures.tapes ∙ c.rewrite_linked-ended.ensures.tapes
    ∙ c.in-Ok-open_dice.ensures.lent.tapes
