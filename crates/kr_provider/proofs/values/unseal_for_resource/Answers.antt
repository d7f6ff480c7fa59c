-- `unseal_for_resource`: the links serve the list, which is the adopted configuration's.
use Rattle.std.proofs.Common.{sym, subst}
use Rattle.std.specs.Prelude.{IfSome}
use Rattle.kr_provider.specs.Names.{HasAdoptedLinks, names_of}
use Rattle.kr_config.specs.Kept.{plugins_in}
use Rattle.kr_provider.specs.Publication.{list_at}
use Rattle.kr_provider.specs.Unsealing.{HeedsCache}
use Rattle.kr_base.specs.Walks.{Talk}
use Rattle.kr_provider.specs.AskedLinks.{Among}
use Rattle.kr_provider.specs.Exchanges.{ReadsBy}
use Rattle.kr_provider.proofs.PluginNames.{all_named_by}
use Rattle.kr_provider.proofs.values.unseal_for_resource.Goals as goal

pub unseal_by_list-requires-clause-links : goal.unseal_by_list-requires-clause-links
unseal_by_list-requires-clause-links g c = all_named_by (plugins_in c.published-published.result.now.rows)
    (names_of g.L.Kms.link c.args.links.now)
    (subst (HasAdoptedLinks (names_of g.L.Kms.link c.args.links.now)) c.published-published.ensures
    c.requires.links) c.listed-list.result.now c.listed-list.ensures.named

pub returns-clause-cached : goal.returns-clause-cached
returns-clause-cached g c = subst (λ o. IfSome o (λ p. HeedsCache c.args.cache.now.rows
    p.seeds (list_at p c.args.resource.now) c.args.path.now c.args.value c.args.links.now
    c.unseal_by_list.result c.unseal_by_list.new.links)) (sym c.published-published.ensures)
    (subst (λ l. HeedsCache c.args.cache.now.rows c.published-published.result.now.seeds l
    c.args.path.now c.args.value c.args.links.now c.unseal_by_list.result c.unseal_by_list.new.links)
    c.listed-list.ensures.list
    (subst (λ rows. HeedsCache c.args.cache.now.rows rows c.listed-list.result.now
    c.args.path.now c.args.value c.args.links.now c.unseal_by_list.result c.unseal_by_list.new.links)
    c.seeds-seeds.ensures c.unseal_by_list.ensures.cached))

pub returns-clause-exchanged : goal.returns-clause-exchanged
returns-clause-exchanged g c =
    let step = Among g.L.Kms.step in
    let cache = c.args.cache.now in
    subst (λ o. IfSome o (λ p. Talk step c.args.links.now c.unseal_by_list.new.links (ReadsBy
    p.seeds (list_at p c.args.resource.now) c.args.path.now c.args.value cache
    c.unseal_by_list.result c.unseal_by_list.new.cache))) (sym c.published-published.ensures)
    (subst (λ l. Talk step c.args.links.now c.unseal_by_list.new.links (ReadsBy
    c.published-published.result.now.seeds l c.args.path.now c.args.value cache
    c.unseal_by_list.result c.unseal_by_list.new.cache)) c.listed-list.ensures.list
    (subst (λ rows. Talk step c.args.links.now c.unseal_by_list.new.links (ReadsBy
    rows c.listed-list.result.now c.args.path.now c.args.value cache
    c.unseal_by_list.result c.unseal_by_list.new.cache)) c.seeds-seeds.ensures
    c.unseal_by_list.ensures.exchanged))
