-- `show`: the changes since a revision.
use Rattle.std.proofs.Common.{subst, sym}
use Rattle.std.specs.Prelude.{IfOk}
use Rattle.kr_cmd_watch.specs.inner.Followings.{ShowsState}
use Rattle.kr_cmd_watch.proofs.watching.show.Goals as goal

pub returns-in-Some : goal.returns-in-Some
returns-in-Some c = subst (λ s. IfOk c.show_changes.result (λ shown. ShowsState s c.args.words.now
    c.args.watch.now c.args.ended shown.text.items shown.ending)) (sym c.in-Some.is)
    c.show_changes.ensures
