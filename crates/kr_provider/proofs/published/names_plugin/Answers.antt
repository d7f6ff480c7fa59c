-- `names_plugin`: entries are tested as their rows are.
use Rattle.std.proofs.Common.{sym, ◌∙◌, ap}
use Rattle.std.specs.List.{list_any}
use Rattle.kr_config.specs.declared.settings.Entry.{Entry}
use Rattle.kr_config.specs.Kept.{ConfigEntry, entry_lists}
use Rattle.kr_config.specs.Providers.{is_kms}
use Rattle.kr_provider.proofs.Lists.{list_any-map}
use Rattle.kr_provider.proofs.published.names_plugin.Goals as goal

pub returns : goal.returns
returns c = c.any_names.ensures ∙ ap (list_any
    (λ (entry : Entry). list_any is_kms entry.providers.0)) c.as_slice.ensures
    ∙ sym (list_any-map entry_lists (λ (row : ConfigEntry). list_any is_kms row.providers)
    c.args.settings.now.entries.0)
