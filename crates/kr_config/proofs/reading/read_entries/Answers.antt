-- What the tactic leaves open of `read_entries`.
use Rattle.std.proofs.Common.{◌+◌, ◌++◌, ◌∷◌, [], length, sym, ap, subst, ◌∙◌}
use Rattle.std.specs.Prelude.{count_by}
use Rattle.kr_config.specs.Providers.{is_key, is_kms}
use Rattle.kr_config.proofs.EntryLoop.{Reading, reading_more}
use Rattle.kr_config.proofs.reading.read_entries.Goals as goal

pub loop-value-preserved : goal.loop-value-preserved
loop-value-preserved c =
    let values = c.args.values.now in
    let entry = c.in_ok-entry.entry in
    let p = c.loop-value.patterns + length c.as_slice.result.now in
    let k = c.loop-value.keys + c.count_provider_keys-keys.result in
    let m = c.loop-value.plugins + c.count_provider_plugins-plugins.result in
    subst (λ l. Reading values (c.loop-value.value-index + 1) c.saturating_add-number.result l p k
    m) (sym c.in-Ok.ensures.ok)
    (subst (λ n. Reading values (c.loop-value.value-index + 1) n
    (c.loop-value.entries.0 ++ entry ∷ []) p k m) (sym c.saturating_add-number.ensures)
    (reading_more values c.loop-value.value-index c.loop-value.number c.loop-value.entries.0
    c.loop-value.patterns c.loop-value.keys c.loop-value.plugins c.value-item.result entry p k m
    c.loop-value.invariant c.loop-value-test.true c.value-item.is c.in_ok-entry.ensures
    (ap (λ l. c.loop-value.patterns + length l) c.as_slice.ensures)
    (ap (λ n. c.loop-value.keys + n)
    (c.count_provider_keys-keys.ensures ∙ ap (count_by is_key) c.as_slice-in-loop-value.ensures))
    (ap (λ n. c.loop-value.plugins + n)
    (c.count_provider_plugins-plugins.ensures ∙ ap (count_by is_kms) c.as_slice-in-loop-value-2.ensures))))
