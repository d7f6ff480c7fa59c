-- The changes above a revision.
use Rattle.std.proofs.Common.{ℕ, ◌≤◌, ◌-◌, refl, ◌∙◌, ap, subst}
use Rattle.kr_watch.specs.Changes.{changes_above}
use Rattle.kr_watch.specs.inner.Keeping.{KeptState}
use Rattle.kr_watch.proofs.KeepSteps.{told_above}
use Rattle.kr_watch.proofs.change_list.ChangeList.later_changes.Goals as goal

pub returns-in-Ok : goal.returns-in-Ok
returns-in-Ok c =
    let place = c.args.revision - c.self.inside.oldest in (
      subst (λ (s : KeptState × ℕ). s.0.oldest ≤ c.args.revision) c.self.view_is
          c.if-revision-self.false,
      subst (λ n. c.args.revision ≤ n) c.newest-newest.ensures c.if-revision-newest.false,
      told_above c.self.inside.keep c.self.inside.oldest c.args.revision place
          c.self.inside.changes.items c.in-Ok.changes.0 c.self.invariant
          c.if-revision-self.false refl c.in-Ok.ensures
          ∙ ap (λ (s : KeptState × ℕ). changes_above c.args.revision s.0.changes)
          c.self.view_is,
    )
