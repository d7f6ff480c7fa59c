-- What a line makes of a watch.
use Rattle.std.proofs.Common.{◌++◌, sym, ap, ◌∙◌, subst}
use Rattle.std.specs.Option.{option_to_list}
use Rattle.kr_rollout.specs.declared.line.Gave.TheVariants.{Written}
use Rattle.kr_watch.specs.Changes.{told_change, earlier_ones, last_ones, revision_after}
use Rattle.kr_watch.specs.Laws.{NotedIsNewest}
use Rattle.kr_watch.specs.Noting.{KeepsChange}
use Rattle.kr_watch.proofs.KeptChanges.{parts_of, revision_append}

-- the newest revision is the one of the row
pub noted_is_newest : NotedIsNewest
noted_is_newest line old new revision n e =
    let change = told_change (Written revision) line.did in
    let all = old.changes ++ option_to_list change in
    let c : KeepsChange change old new =
    subst (λ g. KeepsChange (told_change g line.did) old new) e n.changes in
    (λ i. revision_after (c.dropped i) (c.kept i))
    ∙ sym (revision_append old.oldest (earlier_ones old.keep all) (last_ones old.keep all))
    ∙ ap (revision_after old.oldest) (parts_of old.keep all)
    ∙ revision_append old.oldest old.changes (option_to_list change)
