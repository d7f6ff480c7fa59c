-- `rewrite_by_settings`: seeds are made, the core starts, and the drive goes on.
use Rattle.std.proofs.Common.{[], ◌∷◌, ◌++◌, Some, Err, refl, sym, ◌∙◌, ap, subst, arith}
use Rattle.std.specs.Prelude.{◌≤◌, All, Contains}
use Rattle.kr_base.specs.Walks.{Walk}
use Rattle.kr_base.proofs.Walks.{walk_then}
use Rattle.std.proofs.lemmas.List.Elements.{All-contains_itself}
use Rattle.kr_config.specs.Kept.{plugins_in, rows_of}
use Rattle.kr_config.specs.declared.settings.Settings.{Settings}
use Rattle.kr_provider.specs.AskedLinks.{Among}
use Rattle.kr_provider.specs.KeyPages.{size_of}
use Rattle.kr_provider.specs.Names.{AreDistinct, HasLinks, names_of}
use Rattle.kr_provider.proofs.AskedLists.{names_stay}
use Rattle.kr_rollout.specs.Cores.{CoreState}
use Rattle.kr_store.specs.Stores.{IsListing}
use Rattle.kr_cmd_messages.specs.declared.refusal.Stop.TheVariants.{NoMemory}
use Rattle.kr_opening.specs.Starts.{MayStart, IsNoStart}
use Rattle.kr_cmd_steps.specs.Environment.{with_exchanges}
use Rattle.kr_cmd_steps.specs.inner.Lent.{with_lent_tape}
use Rattle.kr_cmd_steps.specs.inner.Reporting.{saying}
use Rattle.kr_cmd_steps.proofs.Hearing.{around_more, none_heard}
use Rattle.kr_cmd_steps.specs.inner.Phases.{Does}
use Rattle.kr_cmd_steps.specs.inner.Tapes.{stored_of}
use Rattle.kr_cmd_steps.proofs.Linked.{all_linked}
use Rattle.kr_cmd_rewrite.proofs.Said.{stopped_by}
use Rattle.kr_cmd_rewrite.proofs.Started.{By, Out, from_seeds, alone_by, back_by, by_lacks, by_seeds, by_unpublished, driven_on, not_started, start_lacks, started}
use Rattle.kr_cmd_rewrite.proofs.rewriting.rewrite_by_settings.Goals as goal

pub publish_settings-requires : goal.publish_settings-requires
publish_settings-requires g c = record {
  links = subst (λ (s : Settings). HasLinks (names_of g.L.Kms.link c.args.links)
      (rows_of s.entries.0))
      (sym c.in-Ok.ensures.ok)
      (all_linked g.L.Kms.link (rows_of c.args.settings.entries.0) c.args.links c.requires.links);
}

pub returns-in-Err-clause-ended : goal.returns-in-Err-clause-ended
returns-in-Err-clause-ended g c =
    let store = c.args.rollout.store in record {
      steps = [];
      walk = refl;
      are = λ name a live is. stopped_by NoMemory c.stopped.result c.stopped.ensures
          (none_heard (Out g.L.Kms.link g.D.Dice.left g.D.Dice.count name a c.args.links
          c.args.dice c.into_store.result)
          (back_by g.L.Kms.link g.D.Dice.left g.D.Dice.count name a c.args.links c.args.links
          c.args.dice c.args.dice c.into_store.result store refl refl c.into_store.ensures
          (by_lacks name (rows_of c.args.settings.entries.0) (stored_of store) live
          (Out g.L.Kms.link g.D.Dice.left g.D.Dice.count name a c.args.links c.args.dice store))));
    }

pub returns-in-Err-publish_settings-clause-ended : goal.returns-in-Err-publish_settings-clause-ended
returns-in-Err-publish_settings-clause-ended g c =
    let store = c.args.rollout.store in
    let talk = c.in-Err-publish_settings.ensures.heard in record {
      steps = talk.steps;
      walk = talk.walk;
      are = λ name a live is.
          stopped_by c.in-Err-publish_settings.stop c.stopped-in-Err-publish_settings.result
          c.stopped-in-Err-publish_settings.ensures
          (back_by g.L.Kms.link g.D.Dice.left g.D.Dice.count name (with_exchanges talk.steps a)
          c.publish_settings.new.links c.publish_settings.new.links c.publish_settings.new.dice
          c.publish_settings.new.dice c.into_store-in-Err-publish_settings.result store
          refl refl c.into_store-in-Err-publish_settings.ensures
          (by_unpublished name (rows_of c.args.settings.entries.0) (stored_of store) live
          (ap (λ (s : Settings). rows_of s.entries.0) c.in-Ok.ensures.ok)
          c.in-Err-publish_settings.stop
          (talk.are (with_lent_tape name store.told store.count a))));
    }

pub returns-in-Err-publish_settings-clause-names : goal.returns-in-Err-publish_settings-clause-names
returns-in-Err-publish_settings-clause-names g c = names_stay g.L.Kms.link
    (plugins_in (rows_of c.in-Ok.settings.entries.0)) c.args.links c.publish_settings.new.links
    c.in-Err-publish_settings.ensures.asked

pub returns-in-Err-new-clause-ended : goal.returns-in-Err-new-clause-ended
returns-in-Err-new-clause-ended g c =
    let store = c.args.rollout.store in
    let rows = rows_of c.args.settings.entries.0 in
    let seeds = c.in-Ok-publish_settings.published.seeds in
    let talk = c.in-Ok-publish_settings.ensures.heard in record {
      steps = talk.steps;
      walk = subst (λ l. Walk (Among g.L.Kms.step) c.args.links talk.steps l)
          (sym c.in-Err-new.ensures.returned.0) talk.walk;
      are = λ name a live is.
          stopped_by NoMemory c.stopped-in-Err-new.result c.stopped-in-Err-new.ensures
          (back_by g.L.Kms.link g.D.Dice.left g.D.Dice.count name (with_exchanges talk.steps a)
          c.in-Err-new.links c.publish_settings.new.links c.in-Err-new.dice
          c.publish_settings.new.dice c.into_store-in-Err-new.result store
          c.in-Err-new.ensures.returned.0 c.in-Err-new.ensures.returned.1
          c.into_store-in-Err-new.ensures
          (by_seeds name rows (stored_of store) live
          (ap (λ (s : Settings). rows_of s.entries.0) c.in-Ok.ensures.ok) seeds
          (talk.are (with_lent_tape name store.told store.count a))
          (start_lacks name rows (stored_of store) live seeds
          (Out g.L.Kms.link g.D.Dice.left g.D.Dice.count name (with_exchanges talk.steps a)
          c.publish_settings.new.links c.publish_settings.new.dice store))));
    }

pub returns-in-Err-new-clause-names : goal.returns-in-Err-new-clause-names
returns-in-Err-new-clause-names g c = ap (names_of g.L.Kms.link) c.in-Err-new.ensures.returned.0
    ∙ names_stay g.L.Kms.link (plugins_in (rows_of c.in-Ok.settings.entries.0)) c.args.links
    c.publish_settings.new.links c.in-Ok-publish_settings.ensures.asked

pub start-requires-clause-names : goal.start-requires-clause-names
start-requires-clause-names g c =
    subst (λ r. All (λ n. Contains c.args.rollout.names.0 n) (plugins_in r))
    (sym (c.in-Ok-publish_settings.ensures.rows
    ∙ ap (λ (s : Settings). rows_of s.entries.0) c.in-Ok.ensures.ok))
    (subst (λ l. All (λ n. Contains l n) (plugins_in (rows_of c.args.settings.entries.0)))
    (c.requires.links ∙ sym c.requires.names)
    (λ k d within. all_linked g.L.Kms.link (rows_of c.args.settings.entries.0) c.args.links
    c.requires.links _
    (All-contains_itself (plugins_in (rows_of c.args.settings.entries.0)) k d within)))

pub returns-in-Err-start-clause-ended : goal.returns-in-Err-start-clause-ended
returns-in-Err-start-clause-ended g c =
    let store = c.args.rollout.store in
    let rows = rows_of c.args.settings.entries.0 in
    let seeds = c.in-Ok-publish_settings.published.seeds in
    let same = ap (λ (s : Settings). rows_of s.entries.0) c.in-Ok.ensures.ok in
    let none = c.in-Err-start.ensures.starts in
    let talk = c.in-Ok-publish_settings.ensures.heard in
    let links_are = c.close-links.ensures.0 ∙ ap (λ b. b.links) c.in-Ok-new.ensures.ok in record {
      steps = talk.steps;
      walk = subst (λ l. Walk (Among g.L.Kms.step) c.args.links talk.steps l) (sym links_are)
          talk.walk;
      are = λ name a live is.
          let now = Out g.L.Kms.link g.D.Dice.left g.D.Dice.count name
          (with_exchanges talk.steps a) c.publish_settings.new.links c.publish_settings.new.dice
          store in
          stopped_by c.in-Err-start.stop c.stopped-in-Err-start.result
          c.stopped-in-Err-start.ensures
          (back_by g.L.Kms.link g.D.Dice.left g.D.Dice.count name (with_exchanges talk.steps a)
          c.close-links.result.0 c.publish_settings.new.links c.close-links.result.1
          c.publish_settings.new.dice c.in-Err-start.store store links_are
          (c.close-links.ensures.1 ∙ ap (λ b. b.dice) c.in-Ok-new.ensures.ok)
          c.in-Err-start.ensures.back
          (by_seeds name rows (stored_of store) live same seeds
          (talk.are (with_lent_tape name store.told store.count a))
          (subst (λ stop. Does (from_seeds name rows (stored_of store) live seeds) now now
          (Err stop)) (sym none.2)
          (not_started name rows (stored_of store) live seeds now none.0
          (subst (λ r. IsNoStart store.rows (Some r ∷ []) none.0)
          (c.in-Ok-publish_settings.ensures.rows ∙ same) none.1)))));
    }

pub returns-in-Err-start-clause-names : goal.returns-in-Err-start-clause-names
returns-in-Err-start-clause-names g c = ap (names_of g.L.Kms.link)
    (c.close-links.ensures.0 ∙ ap (λ b. b.links) c.in-Ok-new.ensures.ok)
    ∙ names_stay g.L.Kms.link (plugins_in (rows_of c.in-Ok.settings.entries.0)) c.args.links
    c.publish_settings.new.links c.in-Ok-publish_settings.ensures.asked

pub drive_all-requires-clause-alone : goal.drive_all-requires-clause-alone
drive_all-requires-clause-alone g c = alone_by c.in-Ok-start.core c.args.rollout.store
    c.in-Ok-publish_settings.published c.args.rollout.names.0 c.args.rollout.room
    c.in-Ok-start.ensures.starts.1 c.requires.room c.requires.within
    c.requires.whole c.requires.counts

pub drive_all-requires-clause-names : goal.drive_all-requires-clause-names
drive_all-requires-clause-names g c =
    ap (λ (k : CoreState). k.opening.names) c.in-Ok-start.ensures.starts.1
    ∙ c.requires.names ∙ sym c.requires.links
    ∙ sym (names_stay g.L.Kms.link (plugins_in (rows_of c.in-Ok.settings.entries.0)) c.args.links
    c.publish_settings.new.links c.in-Ok-publish_settings.ensures.asked)
    ∙ ap (names_of g.L.Kms.link) (sym (ap (λ b. b.links) c.in-Ok-new.ensures.ok))

pub drive_all-requires-clause-distinct : goal.drive_all-requires-clause-distinct
drive_all-requires-clause-distinct g c =
    subst (AreDistinct g.L.Kms.link) (sym (ap (λ b. b.links) c.in-Ok-new.ensures.ok))
    c.known.ensures

pub drive_all-requires-clause-pages : goal.drive_all-requires-clause-pages
drive_all-requires-clause-pages g c =
    subst (λ p. 64 ≤ size_of p) (sym (ap (λ b. b.pages) c.in-Ok-new.ensures.ok)) (omega arith)

pub drive_all-requires-clause-unadopted : goal.drive_all-requires-clause-unadopted
drive_all-requires-clause-unadopted g c = ap (λ b. b.published) c.in-Ok-new.ensures.ok

pub returns-clause-ended : goal.returns-clause-ended
returns-clause-ended g c =
    let k = g.L.Kms in
    let store = c.args.rollout.store in
    let rows = rows_of c.args.settings.entries.0 in
    let p = c.in-Ok-publish_settings.published in
    let core = c.in-Ok-start.core in
    let core_is = c.in-Ok-start.ensures.starts.1 in
    let same = ap (λ (s : Settings). rows_of s.entries.0) c.in-Ok.ensures.ok in
    let first = c.in-Ok-publish_settings.ensures.heard in
    let second = c.drive_all.ensures.ended in
    let links_are = ap (λ b. b.links) c.in-Ok-new.ensures.ok in
    let ended = c.drive_all.result.0 in
    let back = c.drive_all.result.1 in
    let links = c.drive_all.result.2 in
    let dice = c.drive_all.result.3 in record {
      steps = first.steps ++ second.steps;
      walk = walk_then (Among k.step) first.steps second.steps c.args.links
          c.publish_settings.new.links links first.walk
          (subst (λ l. Walk (Among k.step) l second.steps links) links_are second.walk);
      are = λ name a live is.
          let then = with_exchanges first.steps a in
          let now = Out k.link g.D.Dice.left g.D.Dice.count name then
          c.publish_settings.new.links c.publish_settings.new.dice store in
          let old = Out k.link g.D.Dice.left g.D.Dice.count name a c.args.links c.args.dice store
          in
          subst (λ b. Does (By name rows (stored_of store) live) old
          (saying ended.said (Out k.link g.D.Dice.left g.D.Dice.count name b links dice back))
          ended.made) (around_more first.steps second.steps a)
          (by_seeds name rows (stored_of store) live same p.seeds
          (first.are (with_lent_tape name store.told store.count a))
          (started name rows (stored_of store) live p.seeds now
          (subst (λ r. MayStart store.rows (Some r ∷ []))
          (c.in-Ok-publish_settings.ensures.rows ∙ same) c.in-Ok-start.ensures.starts.0)
          (driven_on k.link g.D.Dice.left g.D.Dice.count name then rows live store p core
          c.in-Ok-new.bench.links c.publish_settings.new.links c.in-Ok-new.bench.dice
          c.publish_settings.new.dice c.in-Ok-new.bench.cache c.args.rollout.names.0
          c.args.rollout.room core_is links_are
          (ap (λ b. b.dice) c.in-Ok-new.ensures.ok) (ap (λ b. b.cache) c.in-Ok-new.ensures.ok)
          (c.in-Ok-publish_settings.ensures.rows ∙ same)
          (second.are name then live store.told p
          (subst (λ (k : CoreState). IsListing k.opening.rows live) (sym core_is) is)
          (ap (λ (k : CoreState). k.opening.replicas) core_is)))));
    }

pub returns-clause-names : goal.returns-clause-names
returns-clause-names g c = c.drive_all.ensures.names
    ∙ ap (names_of g.L.Kms.link) (ap (λ b. b.links) c.in-Ok-new.ensures.ok)
    ∙ names_stay g.L.Kms.link (plugins_in (rows_of c.in-Ok.settings.entries.0)) c.args.links
    c.publish_settings.new.links c.in-Ok-publish_settings.ensures.asked
