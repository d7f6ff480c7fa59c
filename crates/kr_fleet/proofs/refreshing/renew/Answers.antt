-- `renew`: key ids are compared, then the settings are published and brought.
use Rattle.std.proofs.Common.{[], Err, Some, List, ap, refl, subst, sym, ◌∙◌}
use Rattle.std.specs.Prelude.{Contains}
use Rattle.kr_base.proofs.Walks.{talk_so}
use Rattle.kr_config.specs.Kept.{ConfigEntry, plugins_in, rows_of}
use Rattle.kr_kms.specs.declared.seeds.SeedRow.{SeedRow}
use Rattle.kr_rollout.specs.Openings.{NamesAmong}
use Rattle.kr_provider.proofs.AskedLists.{names_stay}
use Rattle.kr_provider.specs.AskedLinks.{Among}
use Rattle.kr_provider.specs.Exchanges.{PublishesBy}
use Rattle.kr_fleet.specs.CallForms.{reload_of}
use Rattle.kr_fleet.specs.LoadCalls.{plugin_names}
use Rattle.kr_fleet.proofs.LoadAnswers.{not_shared}
use Rattle.kr_fleet.proofs.RenewTalks.{renewed_talk, unchanged_talk, unowned_talk, untold_talk}
use Rattle.kr_fleet.proofs.Renewed.{brought_anew, compared_asks, not_brought, renew_answered, renewed_asks}
use Rattle.kr_history.proofs.PartsAdd.{nothing_within}
use Rattle.kr_fleet.proofs.refreshing.renew.Goals as goal

pub has_changed-requires : goal.has_changed-requires
has_changed-requires g c = record {
  links = λ name there. c.requires.links name ((c.known.ensures.names name).0
      (subst (λ (s : List SeedRow). Contains (plugin_names s) name) c.published_seeds.ensures
      there));
}

pub returns-in-Err-clause-asked : goal.returns-in-Err-clause-asked
returns-in-Err-clause-asked g c = compared_asks g.L.Kms.link c.args.published.now
    c.published_seeds.result.now c.args.bench.now.links c.has_changed.new.bench.links c.published_seeds.ensures
    c.has_changed.ensures.asked

pub returns-then-not-changed-clause-asked : goal.returns-then-not-changed-clause-asked
returns-then-not-changed-clause-asked g c = compared_asks g.L.Kms.link c.args.published.now
    c.published_seeds.result.now c.args.bench.now.links c.has_changed.new.bench.links c.published_seeds.ensures
    c.has_changed.ensures.asked

pub returns-in_default-clause-asked : goal.returns-in_default-clause-asked
returns-in_default-clause-asked g c = compared_asks g.L.Kms.link c.args.published.now
    c.published_seeds.result.now c.args.bench.now.links c.has_changed.new.bench.links c.published_seeds.ensures
    c.has_changed.ensures.asked

pub publish-requires : goal.publish-requires
publish-requires g c = record {
  links = λ name there. subst (λ names. Contains names name)
      (sym (names_stay g.L.Kms.link (plugin_names c.published_seeds.result.now)
      c.args.bench.now.links c.has_changed.new.bench.links c.in-Ok.ensures.asked))
      (c.requires.links name (subst (λ (rows : List ConfigEntry). Contains (plugins_in rows) name)
      c.in-Ok-share_published_settings.ensures there));
}

pub reload-requires-clause-names : goal.reload-requires-clause-names
reload-requires-clause-names g c = subst
    (NamesAmong (g.A.Acts.caller c.args.acts.now).opening.names)
    (sym (c.in-Ok-publish.ensures.published.0 ∙ c.in-Ok-share_published_settings.ensures))
    c.requires.names

pub returns-in-Err-publish-clause-refreshes : goal.returns-in-Err-publish-clause-refreshes
returns-in-Err-publish-clause-refreshes g c = not_brought g.L.Kms.link
    g.D.Dice.left g.D.Dice.count c.args.replica c.args.generation c.args.published.now
    (g.A.Acts.caller c.args.acts.now) (g.A.Acts.caller c.args.acts.now) c.args.bench.now.links
    c.has_changed.new.bench.links c.publish.new.bench.links c.args.bench.now.dice
    c.has_changed.new.bench.dice c.publish.new.bench.dice c.published_seeds.result.now
    (rows_of c.in-Ok-share_published_settings.settings.entries.0) c.published_seeds.ensures
    c.in-Ok-share_published_settings.ensures (ap (λ b. b.dice) c.in-Ok.ensures.kept) c.in-Ok.ensures.asked
    c.in-Ok.changed c.if-not-changed.false c.in-Ok.ensures.compares c.in-Err-publish.why
    c.in-Err-publish.ensures.published refl

pub returns-clause-refreshes : goal.returns-clause-refreshes
returns-clause-refreshes g c = brought_anew g.L.Kms.link
    g.D.Dice.left g.D.Dice.count c.args.replica c.args.generation c.args.published.now
    (g.A.Acts.caller c.args.acts.now) (g.A.Acts.caller c.reload.new.acts) c.args.bench.now.links
    c.has_changed.new.bench.links c.publish.new.bench.links c.args.bench.now.dice
    c.has_changed.new.bench.dice c.publish.new.bench.dice c.published_seeds.result.now
    (rows_of c.in-Ok-share_published_settings.settings.entries.0) c.published_seeds.ensures
    c.in-Ok-share_published_settings.ensures (ap (λ b. b.dice) c.in-Ok.ensures.kept) c.in-Ok.ensures.asked
    c.in-Ok.changed c.if-not-changed.false c.in-Ok.ensures.compares c.in-Ok-publish.anew
    c.reload.result c.load_done.result c.known-2.ensures c.requires.held
    c.in-Ok-publish.ensures.published c.reload.ensures.reloads c.load_done.ensures

pub returns-in-Err-publish-clause-asked : goal.returns-in-Err-publish-clause-asked
returns-in-Err-publish-clause-asked g c = renewed_asks g.L.Kms.link c.args.published.now
    c.published_seeds.result.now (rows_of c.in-Ok-share_published_settings.settings.entries.0) c.args.bench.now.links
    c.has_changed.new.bench.links c.publish.new.bench.links c.known.ensures c.published_seeds.ensures
    c.in-Ok-share_published_settings.ensures c.in-Ok.ensures.asked c.publish.ensures.asked

pub returns-clause-asked : goal.returns-clause-asked
returns-clause-asked g c = renewed_asks g.L.Kms.link c.args.published.now
    c.published_seeds.result.now (rows_of c.in-Ok-share_published_settings.settings.entries.0) c.args.bench.now.links
    c.has_changed.new.bench.links c.publish.new.bench.links c.known.ensures c.published_seeds.ensures
    c.in-Ok-share_published_settings.ensures c.in-Ok.ensures.asked c.publish.ensures.asked

pub returns-in-Err-clause-adds : goal.returns-in-Err-clause-adds
returns-in-Err-clause-adds g c = nothing_within 1 1 [] (g.A.Acts.caller c.args.acts.now)

pub returns-then-not-changed-clause-adds : goal.returns-then-not-changed-clause-adds
returns-then-not-changed-clause-adds g c = nothing_within 1 1 [] (g.A.Acts.caller c.args.acts.now)

pub returns-in_default-clause-adds : goal.returns-in_default-clause-adds
returns-in_default-clause-adds g c = nothing_within 1 1 [] (g.A.Acts.caller c.args.acts.now)

pub returns-in-Err-publish-clause-adds : goal.returns-in-Err-publish-clause-adds
returns-in-Err-publish-clause-adds g c = nothing_within 1 1 [] (g.A.Acts.caller c.args.acts.now)

pub returns-in-Err-clause-exchanged : goal.returns-in-Err-clause-exchanged
returns-in-Err-clause-exchanged g c = untold_talk (Among g.L.Kms.step)
    g.D.Dice.left g.D.Dice.count
    c.args.replica c.args.generation c.args.published.now c.published_seeds.result.now c.published_seeds.ensures
    (g.A.Acts.caller c.args.acts.now) c.args.bench.now.links c.has_changed.new.bench.links
    c.args.bench.now.dice c.has_changed.new.bench.dice (ap (λ b. b.dice) c.has_changed.ensures.kept)
    c.in-Err.why c.in-Err.ensures.exchanged

pub returns-then-not-changed-clause-exchanged : goal.returns-then-not-changed-clause-exchanged
returns-then-not-changed-clause-exchanged g c = unchanged_talk (Among g.L.Kms.step)
    g.D.Dice.left g.D.Dice.count
    c.args.replica c.args.generation c.args.published.now c.published_seeds.result.now c.published_seeds.ensures
    (g.A.Acts.caller c.args.acts.now) c.args.bench.now.links c.has_changed.new.bench.links
    c.args.bench.now.dice c.has_changed.new.bench.dice (ap (λ b. b.dice) c.has_changed.ensures.kept)
    c.in-Ok.changed c.if-not-changed.true c.in-Ok.ensures.exchanged

pub returns-in_default-clause-exchanged : goal.returns-in_default-clause-exchanged
returns-in_default-clause-exchanged g c = unowned_talk (Among g.L.Kms.step)
    g.D.Dice.left g.D.Dice.count
    c.args.replica c.args.generation c.args.published.now c.published_seeds.result.now c.published_seeds.ensures
    (g.A.Acts.caller c.args.acts.now) c.args.bench.now.links c.has_changed.new.bench.links
    c.args.bench.now.dice c.has_changed.new.bench.dice (ap (λ b. b.dice) c.has_changed.ensures.kept)
    c.in-Ok.changed c.if-not-changed.false c.in-Ok.ensures.exchanged

pub returns-in-Err-publish-clause-exchanged : goal.returns-in-Err-publish-clause-exchanged
returns-in-Err-publish-clause-exchanged g c = renewed_talk (Among g.L.Kms.step)
    g.D.Dice.left g.D.Dice.count
    c.args.replica c.args.generation c.args.published.now c.published_seeds.result.now c.published_seeds.ensures
    (g.A.Acts.caller c.args.acts.now) c.args.bench.now.links c.has_changed.new.bench.links
    c.args.bench.now.dice c.has_changed.new.bench.dice (ap (λ b. b.dice) c.has_changed.ensures.kept)
    c.in-Ok.changed c.if-not-changed.false c.in-Ok.ensures.exchanged
    (rows_of c.in-Ok-share_published_settings.settings.entries.0) c.in-Ok-share_published_settings.ensures
    (g.A.Acts.caller c.args.acts.now) c.publish.new.bench.links c.publish.new.bench.dice
    (Err c.in-Err-publish.why) (talk_so (Among g.L.Kms.step) _ _ _ _
    c.in-Err-publish.ensures.exchanged (λ es none. not_shared
    (λ made. PublishesBy g.D.Dice.left g.D.Dice.count
    (rows_of c.in-Ok-share_published_settings.settings.entries.0) c.has_changed.new.bench.dice made
    c.publish.new.bench.dice es)
    (g.A.Acts.caller c.args.acts.now) (g.A.Acts.caller c.args.acts.now)
    (reload_of c.args.replica (Some c.args.generation)) c.args.replica c.in-Err-publish.why refl
    none))

pub returns-clause-exchanged : goal.returns-clause-exchanged
returns-clause-exchanged g c = renewed_talk (Among g.L.Kms.step)
    g.D.Dice.left g.D.Dice.count
    c.args.replica c.args.generation c.args.published.now c.published_seeds.result.now c.published_seeds.ensures
    (g.A.Acts.caller c.args.acts.now) c.args.bench.now.links c.has_changed.new.bench.links
    c.args.bench.now.dice c.has_changed.new.bench.dice (ap (λ b. b.dice) c.has_changed.ensures.kept)
    c.in-Ok.changed c.if-not-changed.false c.in-Ok.ensures.exchanged
    (rows_of c.in-Ok-share_published_settings.settings.entries.0) c.in-Ok-share_published_settings.ensures
    (g.A.Acts.caller c.reload.new.acts) c.publish.new.bench.links c.publish.new.bench.dice
    c.load_done.result (talk_so (Among g.L.Kms.step) _ _ _ _
    c.in-Ok-publish.ensures.exchanged (λ es published. renew_answered
    (λ made. PublishesBy g.D.Dice.left g.D.Dice.count
    (rows_of c.in-Ok-share_published_settings.settings.entries.0) c.has_changed.new.bench.dice made
    c.publish.new.bench.dice es)
    c.args.replica c.args.generation c.args.published.now (g.A.Acts.caller c.args.acts.now)
    (g.A.Acts.caller c.reload.new.acts) c.in-Ok-publish.anew c.reload.result c.load_done.result
    c.known-2.ensures c.requires.held published
    (published.0 ∙ c.in-Ok-share_published_settings.ensures) c.reload.ensures.reloads
    c.load_done.ensures))
