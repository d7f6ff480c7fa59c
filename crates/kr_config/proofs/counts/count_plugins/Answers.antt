use Rattle.std.proofs.Common.{ap, ◌∙◌, count_by}
use Rattle.kr_config.specs.Providers.{is_kms}
use Rattle.kr_config.proofs.Sums.{sum_in_word}
use Rattle.kr_config.proofs.counts.count_plugins.Goals as goal

pub overflow_add-plugins : goal.overflow_add-plugins
overflow_add-plugins c =
    sum_in_word is_kms _ _ c.loop-entry.invariant c.loop-entry-test.true c.entry-item.is
    (c.count_provider_plugins-plugins.ensures ∙ ap (count_by is_kms) c.as_slice.ensures) c.requires
