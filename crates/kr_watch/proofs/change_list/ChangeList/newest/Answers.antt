-- The last change has the newest revision.
use Rattle.std.proofs.Common.{ℕ, ◌-◌, ◌<◌, arith, refl, ◌∙◌, ap, length, get_or}
use Rattle.kr_watch.specs.declared.change.ObjectChange.{ObjectChange}
use Rattle.kr_watch.specs.Changes.{revision_after}
use Rattle.kr_watch.specs.inner.Keeping.{KeptState}
use Rattle.kr_watch.proofs.KeepSteps.{last_newest, none_newest}
use Rattle.kr_watch.proofs.change_list.ChangeList.newest.Goals as goal

pub returns-in-Some : goal.returns-in-Some
returns-in-Some c =
    let changes = c.self.inside.changes.items in
    let same = c.self.inside.changes.ok.0 in
    let some : 0 < length changes =
    (let there = c.in-Some.ensures.variant.0 refl in omega (arith, there, same)) in
    ap (λ (change : ObjectChange). change.revision) c.get.ensures
    ∙ last_newest c.self.inside.oldest changes c.in-Some.last.now some (c.in-Some.ensures.lookup
    ∙ ap (λ n. get_or changes (n - 1) c.in-Some.last.now) same)
    ∙ ap (λ (s : KeptState × ℕ). revision_after s.0.oldest s.0.changes) c.self.view_is

pub returns-in-None : goal.returns-in-None
returns-in-None c =
    let none = c.in-None.ensures.item.3 in
    none_newest c.self.inside.oldest c.self.inside.changes.items (omega (arith, none))
    ∙ ap (λ (s : KeptState × ℕ). revision_after s.0.oldest s.0.changes) c.self.view_is
