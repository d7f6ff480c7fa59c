-- `Published::listed`: what the settings keep, the list of each resource keeps.
use Rattle.std.proofs.Common.{sym, subst}
use Rattle.kr_config.specs.Kept.{plugins_in}
use Rattle.kr_provider.specs.KeyPages.{secrets_in}
use Rattle.kr_provider.specs.Publication.{IsProviderList}
use Rattle.kr_provider.specs.inner.Scan.{AreAmong, AreNamedIn, HaveSeeds}
use Rattle.kr_provider.proofs.Keys.{list_among}
use Rattle.kr_provider.proofs.Lists.{list_rules}
use Rattle.kr_provider.proofs.PluginNames.{list_named, list_seeded}
use Rattle.kr_provider.proofs.published.Published.listed.Goals as goal

pub returns-clause-rules : goal.returns-clause-rules
returns-clause-rules c = subst IsProviderList (sym c.resource_list.ensures.list) (list_rules c.args.self.now.rows c.args.resource.now c.resource_list.ensures.kept.kept)

pub returns-clause-among : goal.returns-clause-among
returns-clause-among c = subst (AreAmong (secrets_in c.args.self.now.rows)) (sym c.resource_list.ensures.list) (list_among c.args.self.now.rows c.args.resource.now)

pub returns-clause-named : goal.returns-clause-named
returns-clause-named c = subst (AreNamedIn (plugins_in c.args.self.now.rows)) (sym c.resource_list.ensures.list) (list_named c.args.self.now.rows c.args.resource.now)

pub returns-clause-seeds : goal.returns-clause-seeds
returns-clause-seeds c = subst (HaveSeeds c.args.self.now.seeds) (sym c.resource_list.ensures.list) (list_seeded c.args.self.now c.args.resource.now c.resource_list.ensures.kept)
