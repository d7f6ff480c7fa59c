-- Answers of share_settings.
use Rattle.std.proofs.Common.{◌+◌, List, Option, sym, ap, subst, ◌∙◌}
use Rattle.kr_config.specs.declared.settings.Settings.{Settings}
use Rattle.kr_opening.specs.Replicas.{rows_in}
use Rattle.kr_opening.proofs.Sharing.{AreShared, shared_begin, shared_end, shared_more, shared_published}
use Rattle.kr_opening.proofs.start_parts.share_settings.Goals as goal

pub loop-replica-init : goal.loop-replica-init
loop-replica-init c = subst (λ (s : List (Option Settings)). AreShared c.args.replicas.now s 0)
    (sym c.new-settings.ensures.items) (shared_begin c.args.replicas.now)

pub loop-replica-preserved : goal.loop-replica-preserved
loop-replica-preserved c =
    let l = c.loop-replica in
    subst (λ (s : List (Option Settings)). AreShared c.args.replicas.now s (l.replica-index + 1))
    (sym c.in_ok-push.ensures.items)
    (shared_more c.args.replicas.now l.settings.items l.replica-index c.replica-item.result
    c.in_ok-replica_settings.field-0 l.invariant c.loop-replica-test.true c.replica-item.is
    c.in_ok-replica_settings.ensures.rows c.replica_settings.ensures.published)

pub returns-clause-rows : goal.returns-clause-rows
returns-clause-rows c =
    let l = c.loop-replica in
    ap rows_in c.from_vec.ensures
    ∙ shared_end c.args.replicas.now l.settings.items l.replica-index l.invariant
    c.loop-replica-test.false

pub returns-clause-published : goal.returns-clause-published
returns-clause-published c = λ ok.
    let l = c.loop-replica in
    shared_published c.args.replicas.now l.settings.items l.replica-index l.invariant
    c.loop-replica-test.false
