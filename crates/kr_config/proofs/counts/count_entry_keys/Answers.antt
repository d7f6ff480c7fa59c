use Rattle.std.proofs.Common.{ap, ◌∙◌, count_by}
use Rattle.kr_config.specs.Providers.{is_key}
use Rattle.kr_config.proofs.Sums.{sum_in_word}
use Rattle.kr_config.proofs.counts.count_entry_keys.Goals as goal

pub overflow_add-keys : goal.overflow_add-keys
overflow_add-keys c =
    sum_in_word is_key _ _ c.loop-entry.invariant c.loop-entry-test.true c.entry-item.is
    (c.count_provider_keys-keys.ensures ∙ ap (count_by is_key) c.as_slice.ensures) c.requires
