-- `rewrite`: each phase goes on from the one before, and the store's tape comes back.
use Rattle.std.proofs.Common.{◌≡◌, ◌<◌, ◌∙◌, ℕ, List, [], Result, Ok, Err, refl, sym, subst}
use Rattle.kr_kms.specs.declared.world.Access.TheVariants.{ToWrite}
use Rattle.kr_config.specs.Kept.{ConfigEntry, rows_of}
use Rattle.kr_config.specs.declared.settings.Settings.{Settings}
use Rattle.kr_kms.specs.Outside.{Outside}
use Rattle.kr_provider.specs.PluginOrder.{plugin_order}
use Rattle.kr_cmd_steps.specs.Environment.{Environment, with_exchanges, with_world}
use Rattle.kr_cmd_steps.specs.Heard.{Heard}
use Rattle.kr_cmd_steps.proofs.HeardLinks.{heard_nothing, heard_so, heard_within}
use Rattle.kr_cmd_steps.proofs.Hearing.{none_heard}
use Rattle.kr_cmd_steps.specs.Phases.{settled_for}
use Rattle.kr_cmd_steps.specs.RewriteSteps.{rewriting_on}
use Rattle.kr_cmd_steps.specs.Commands.{steps}
use Rattle.kr_cmd_steps.specs.Steps.{Steps}
use Rattle.kr_cmd_messages.specs.declared.command.Command.TheVariants.{Rewrite}
use Rattle.kr_cmd_messages.specs.declared.command.Rewriting.{Rewriting}
use Rattle.kr_cmd_steps.specs.declared.programs.Program.{Program}
use Rattle.kr_cmd_messages.specs.declared.refusal.Ended.{Ended}
use Rattle.kr_cmd_messages.specs.declared.refusal.Object.TheVariants.{Store}
use Rattle.kr_cmd_messages.specs.declared.refusal.Outcome.{Outcome}
use Rattle.kr_cmd_messages.specs.declared.refusal.Stop.{Stop}
use Rattle.kr_cmd_steps.specs.inner.Lent.{with_lent_tape}
use Rattle.kr_cmd_steps.specs.inner.Phases.{Does, HasPrograms}
use Rattle.kr_cmd_steps.specs.inner.Reporting.{DoesAll, saying}
use Rattle.kr_cmd_steps.specs.inner.Tapes.{ReturnsSettled}
use Rattle.kr_cmd_rewrite.proofs.Closing.{closed, ended_of}
use Rattle.kr_cmd_steps.proofs.Configured.{configured, unconfigured}
use Rattle.kr_cmd_steps.proofs.RunTo.{by_bytes}
use Rattle.kr_cmd_steps.proofs.NamedPrograms.{names_in}
use Rattle.kr_cmd_rewrite.proofs.Said.{saying_tape, stopped_all}
use Rattle.kr_cmd_steps.proofs.Settling.{settled_links}
use Rattle.kr_cmd_steps.proofs.Tapes.{not_lent, is_out}
use Rattle.kr_cmd_rewrite.proofs.rewriting.rewrite.Given.{Over}
use Rattle.kr_cmd_rewrite.proofs.rewriting.rewrite.Goals.{After-settle_tape}
use Rattle.kr_cmd_rewrite.proofs.rewriting.rewrite.Goals as goal

abbrev on_tape : List ConfigEntry → List Program → (name : List ℕ) → Steps Outcome
on_tape rows programs name = settled_for Store name ToWrite (rewriting_on name rows programs)

abbrev passed : Rewriting → List ConfigEntry → List Program → Steps Outcome
passed words rows programs = on_tape rows programs words.store

-- from the tape on
whole_by : (words : Rewriting) (settings : Settings) (programs : List Program)
    (old linked : Outside) {name : List ℕ}
    → HasPrograms old linked words.config words.options (Ok (settings, programs)) → (a : Environment)
    → name ≡ words.store → (end : Environment) (made : Result Outcome Stop)
    → Does (on_tape (rows_of settings.entries.0) programs name) (with_world linked a) end made
    → Does (steps (Rewrite words)) (with_world old a) end made
whole_by words settings programs old linked has a is end made d =
    configured words.config words.options old linked (passed words) settings programs has a
    (by_bytes (on_tape (rows_of settings.entries.0) programs) is d)

pub returns-in-Err : goal.returns-in-Err
returns-in-Err g c =
    heard_nothing g.W.Link.Kms.link g.W.World.lent g.W.World.took g.W.Link.Kms.step 0
    (λ i. (c.in-Err.ensures.links i).handed) [] _ (λ a silent.
    let words = c.args.words.now in
    let old = g.W.World.told c.args.world.now in
    let linked = g.W.World.told c.linked_settings.new.world in
    stopped_all c.in-Err.stop c.stopped.result c.stopped.ensures silent
    (none_heard (with_world linked a)
    (unconfigured words.config words.options old linked (passed words) c.in-Err.stop
    c.in-Err.ensures.does a)))

pub returns-in-Err-open_tape : goal.returns-in-Err-open_tape
returns-in-Err-open_tape g c =
    heard_nothing g.W.Link.Kms.link g.W.World.lent g.W.World.took g.W.Link.Kms.step 0
    (λ i. ((c.in-Err-open_tape.ensures.objects.links ∙ c.in-Ok.ensures.links) i).handed) [] _ (λ a silent.
    let words = c.args.words.now in
    let settings = c.in-Ok.read.0 in
    let programs = c.in-Ok.read.1 in
    let old = g.W.World.told c.args.world.now in
    let linked = g.W.World.told c.linked_settings.new.world in
    stopped_all c.in-Err-open_tape.stop c.stopped-in-Err-open_tape.result
    c.stopped-in-Err-open_tape.ensures silent
    (none_heard (with_world (g.W.World.told c.open_tape.new.world) a)
    (configured words.config words.options old linked (passed words) settings programs
    c.in-Ok.ensures.does a
    (by_bytes (on_tape (rows_of settings.entries.0) programs) c.as_str-name.ensures
    (not_lent c.in-Err-open_tape.ensures.files c.in-Err-open_tape.ensures.objects a
    c.as_str-name.result.now ToWrite c.in-Err-open_tape.stop c.in-Err-open_tape.ensures.why
    c.in-Err-open_tape.ensures.asked)))))

pub rewrite_on_tape-ended-requires-clause-programs : goal.rewrite_on_tape-ended-requires-clause-programs
rewrite_on_tape-ended-requires-clause-programs g c κs within = subst (λ p. names_in p
    ≡ plugin_order (rows_of c.in-Ok.read.0.entries.0)) (sym c.as_slice.ensures)
    c.in-Ok.ensures.names

pub settle_tape-requires-clause-out : goal.settle_tape-requires-clause-out
settle_tape-requires-clause-out g c = λ κs lives. subst (λ t. 0 < t.out c.as_str-name.result.now)
    (sym c.rewrite_on_tape-ended.ensures.tapes)
    (is_out c.as_str-name.result.now c.in-Ok-open_tape.ensures.lent)

-- once the tape is back
settled_so : (g : Over) (c : After-settle_tape g) (settled : Result Ended Stop) (ended : Ended)
    → ended ≡ ended_of settled
    → ReturnsSettled c.as_str-name.result.now Store
    (g.W.World.told c.rewrite_on_tape-ended.new.world) (g.W.World.told c.settle_tape.new.world)
    (g.W.Tap.Tape.told c.rewrite_on_tape-ended.result.1)
    (g.W.Tap.Tape.count c.rewrite_on_tape-ended.result.1) c.to_settle.result settled
    → Heard g.W.Link.Kms.link g.W.World.lent g.W.World.took g.W.Link.Kms.step 0
    (g.W.World.told c.args.world.now) (g.W.World.told c.settle_tape.new.world) [] []
    (λ es. (a : Environment) → a.said ≡ [] → DoesAll (Rewrite c.args.words.now)
    (with_world (g.W.World.told c.args.world.now) a)
    (saying ended.said (with_world (g.W.World.told c.settle_tape.new.world)
    (with_exchanges es a))) ended.made)
settled_so g c settled ended is came =
    let link = g.W.Link.Kms.link in
    let step = g.W.Link.Kms.step in
    let words = c.args.words.now in
    let settings = c.in-Ok.read.0 in
    let rows = rows_of settings.entries.0 in
    let programs = c.in-Ok.read.1 in
    let name = c.as_str-name.result.now in
    let work = c.rewrite_on_tape-ended.result.0 in
    let mid = g.W.World.told c.rewrite_on_tape-ended.new.world in
    let told = g.W.Tap.Tape.told c.rewrite_on_tape-ended.result.1 in
    let count = g.W.Tap.Tape.count c.rewrite_on_tape-ended.result.1 in
    let new = g.W.World.told c.settle_tape.new.world in
    let back = settled_links name Store mid new told count c.to_settle.result settled came in
    heard_within link g.W.World.lent g.W.World.took step 0
    {out = g.W.World.told c.open_tape.new.world} {mid = mid}
    (λ i. ((c.in-Ok-open_tape.ensures.lent.links ∙ c.in-Ok.ensures.links) i).handed)
    (λ i. (back i).handed) [] [] _
    (heard_so link g.W.World.lent g.W.World.took step 0 [] [] _ _
    c.rewrite_on_tape-ended.ensures.ended (λ es does a silent.
    let then = with_exchanges es a in
    let out = with_lent_tape name (g.W.Tap.Tape.told c.in-Ok-open_tape.tape)
    (g.W.Tap.Tape.count c.in-Ok-open_tape.tape)
    (with_world (g.W.World.told c.open_tape.new.world) a) in
    let works = subst (λ b. Does (rewriting_on name rows programs) out b work.made)
    (saying_tape work.said name told count mid then)
    (subst (λ p. Does (rewriting_on name rows p) out (saying work.said (with_lent_tape name
    told count (with_world mid then))) work.made)
    c.as_slice.ensures (does name a)) in
    closed (Rewrite words) name c.as_str-name.ensures ToWrite (rewriting_on name rows programs)
    a then silent
    (whole_by words settings programs (g.W.World.told c.args.world.now)
    (g.W.World.told c.linked_settings.new.world) c.in-Ok.ensures.does a c.as_str-name.ensures)
    c.in-Ok-open_tape.ensures.lent mid new told count work.said work.made settled ended is
    (subst (λ m. ReturnsSettled name Store mid new told count m settled) c.to_settle.ensures came)
    works))

pub returns-in-Ok-settle_tape : goal.returns-in-Ok-settle_tape
returns-in-Ok-settle_tape g c =
    settled_so g (goal.at.returns-in-Ok-settle_tape g c).After-settle_tape
    (Ok c.in-Ok-settle_tape.ended) c.in-Ok-settle_tape.ended refl c.in-Ok-settle_tape.ensures

pub returns : goal.returns
returns g c = settled_so g (goal.at.returns g c).After-settle_tape
    (Err c.in-Err-settle_tape.stop) c.stopped-in-Err-settle_tape.result
    c.stopped-in-Err-settle_tape.ensures c.in-Err-settle_tape.ensures
