use Rattle.std.proofs.Common.{sym, ap, ◌∙◌}
use Rattle.std.specs.Option.{option_map}
use Rattle.kr_config.specs.Kept.{rows_of}
use Rattle.kr_config.specs.Nexts.{lent_class}
use Rattle.kr_judge.specs.inner.Losses.{Loss}
use Rattle.kr_judge.proofs.Verdicts.{tells_lost, none_stored, tells_writer, tells_unread}
use Rattle.kr_judge.proofs.judging.judge.Goals as goal

pub returns-in-Some : goal.returns-in-Some
returns-in-Some c = tells_lost c.args.needs.now.needs c.args.generations.now.generations c.args.replica (rows_of c.args.settings.now.entries.0)
    c.in-Some.path.now c.in-Some.who.now c.drops_stored.result c.in-Some.ensures c.drops_stored.ensures

pub returns-in-Some-default : goal.returns-in-Some-default
returns-in-Some-default c =
    let lost = c.in-Some-default in
    tells_writer c.args.needs.now.needs c.args.generations.now.generations c.args.replica (rows_of c.args.settings.now.entries.0)
    lost.number (lent_class lost.class) lost.who.now c.on_lost_class.result (none_stored (rows_of c.args.settings.now.entries.0) c.args.needs.now.needs c.in-None.ensures)
    (ap (option_map {U = Loss} (λ lost. (lost.0, lent_class lost.1, lost.2.now))) (sym lost.is-0) ∙ c.first_losses.ensures.dropped) c.on_lost_class.ensures

pub returns-in-None-Some : goal.returns-in-None-Some
returns-in-None-Some c =
    let lost = c.in-None-Some in
    tells_unread c.args.needs.now.needs c.args.generations.now.generations c.args.replica (rows_of c.args.settings.now.entries.0)
    lost.number (lent_class lost.class) lost.who.now c.on_lost_class-in-None-Some.result (none_stored (rows_of c.args.settings.now.entries.0) c.args.needs.now.needs c.in-None.ensures)
    (ap (option_map {U = Loss} (λ lost. (lost.0, lent_class lost.1, lost.2.now))) (sym lost.is-0) ∙ c.first_losses.ensures.dropped)
    (ap (option_map {U = Loss} (λ lost. (lost.0, lent_class lost.1, lost.2.now))) (sym lost.is-1) ∙ c.first_losses.ensures.unread) c.on_lost_class-in-None-Some.ensures
