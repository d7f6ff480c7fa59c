-- `read_stored_rows`: seeds are made, then a bench reads the rows, and it is told what they are found to be.
use Rattle.std.proofs.Common.{◌++◌, [], ap, refl, subst, sym, ◌∙◌}
use Rattle.std.specs.Prelude.{IsSome}
use Rattle.kr_base.specs.Walks.{Walk}
use Rattle.kr_base.proofs.Walks.{walk_then}
use Rattle.kr_config.specs.Kept.{plugins_in, rows_of}
use Rattle.kr_config.specs.declared.settings.Settings.{Settings}
use Rattle.kr_provider.specs.AskedLinks.{Among}
use Rattle.kr_provider.specs.Names.{AreDistinct, HasLinks, names_of}
use Rattle.kr_provider.proofs.AskedLists.{links_stay, names_stay}
use Rattle.kr_cmd_steps.specs.Environment.{with_exchanges}
use Rattle.kr_cmd_steps.proofs.Frames.{Seen}
use Rattle.kr_cmd_steps.proofs.Hearing.{both_heard, none_heard}
use Rattle.kr_cmd_steps.proofs.Linked.{all_linked}
use Rattle.kr_cmd_store.specs.inner.Verifying.{findings_in}
use Rattle.kr_cmd_store.proofs.ToldRows.{read_stored_rows, unadopted, unmade, unpublished}
use Rattle.kr_cmd_store.proofs.reading.read_stored_rows.Goals as goal

pub publish_settings-requires : goal.publish_settings-requires
publish_settings-requires g c = record {
  links = subst
      (λ (s : Settings). HasLinks (names_of g.L.Kms.link c.args.links) (rows_of s.entries.0))
      (sym c.in-Ok.ensures.ok)
      (all_linked g.L.Kms.link (rows_of c.args.settings.entries.0) c.args.links c.requires.links);
}

pub adopted-requires : goal.adopted-requires
adopted-requires g c = record {
  links = subst (HasLinks (names_of g.L.Kms.link c.publish_settings.new.links))
      (sym c.in-Ok-publish_settings.ensures.rows)
      (links_stay g.L.Kms.link (plugins_in (rows_of c.in-Ok.settings.entries.0)) c.args.links
      c.publish_settings.new.links (rows_of c.in-Ok.settings.entries.0)
      c.in-Ok-publish_settings.ensures.asked
      (subst (λ (s : Settings). HasLinks (names_of g.L.Kms.link c.args.links)
      (rows_of s.entries.0)) (sym c.in-Ok.ensures.ok)
      (all_linked g.L.Kms.link (rows_of c.args.settings.entries.0) c.args.links
      c.requires.links)));
}

pub read_rows-found-requires-clause-adopted : goal.read_rows-found-requires-clause-adopted
read_rows-found-requires-clause-adopted g c =
    subst (λ o. IsSome o) (sym c.in-Ok-adopted.ensures.published) refl

pub read_rows-found-requires-clause-distinct : goal.read_rows-found-requires-clause-distinct
read_rows-found-requires-clause-distinct g c =
    subst (AreDistinct g.L.Kms.link) (sym c.in-Ok-adopted.ensures.links) c.known.ensures

pub returns-in-Err-clause-does : goal.returns-in-Err-clause-does
returns-in-Err-clause-does g c = record {
  steps = [];
  walk = refl;
  are = λ a. none_heard _ (unmade (rows_of c.args.settings.entries.0) c.args.rows.now _);
}

pub returns-in-Err-publish_settings-clause-does : goal.returns-in-Err-publish_settings-clause-does
returns-in-Err-publish_settings-clause-does g c = let talk = c.in-Err-publish_settings.ensures.heard in record {
  steps = talk.steps;
  walk = talk.walk;
  are = λ a. unpublished (rows_of c.args.settings.entries.0) c.args.rows.now
      (ap (λ (s : Settings). rows_of s.entries.0) c.in-Ok.ensures.ok)
      c.in-Err-publish_settings.stop (talk.are a);
}

pub returns-in-Err-publish_settings-clause-names : goal.returns-in-Err-publish_settings-clause-names
returns-in-Err-publish_settings-clause-names g c = names_stay g.L.Kms.link
    (plugins_in (rows_of c.in-Ok.settings.entries.0)) c.args.links c.publish_settings.new.links
    c.in-Err-publish_settings.ensures.asked

pub returns-in-Err-adopted-clause-does : goal.returns-in-Err-adopted-clause-does
returns-in-Err-adopted-clause-does g c = let talk = c.in-Ok-publish_settings.ensures.heard in record {
  steps = talk.steps;
  walk = subst (λ l. Walk (Among g.L.Kms.step) c.args.links talk.steps l)
      (sym c.in-Err-adopted.ensures.links) talk.walk;
  are = λ a. unadopted g.L.Kms.link g.D.Dice.left g.D.Dice.count
      (rows_of c.args.settings.entries.0) (rows_of c.in-Ok.settings.entries.0) c.args.rows.now
      (ap (λ (s : Settings). rows_of s.entries.0) c.in-Ok.ensures.ok) c.args.links
      c.publish_settings.new.links c.args.dice c.publish_settings.new.dice a (with_exchanges talk.steps a)
      c.in-Ok-publish_settings.published.seeds c.in-Err-adopted.links c.in-Err-adopted.dice
      c.in-Err-adopted.ensures.links c.in-Err-adopted.ensures.dice (talk.are a);
}

pub returns-in-Err-adopted-clause-names : goal.returns-in-Err-adopted-clause-names
returns-in-Err-adopted-clause-names g c =
    ap (names_of g.L.Kms.link) c.in-Err-adopted.ensures.links
    ∙ names_stay g.L.Kms.link (plugins_in (rows_of c.in-Ok.settings.entries.0)) c.args.links
    c.publish_settings.new.links c.in-Ok-publish_settings.ensures.asked

pub returns-clause-does : goal.returns-clause-does
returns-clause-does g c =
    let first = c.in-Ok-publish_settings.ensures.heard in
    let second = c.read_rows-found.ensures.does in record {
      steps = first.steps ++ second.steps;
      walk = walk_then (Among g.L.Kms.step) first.steps second.steps c.args.links
          c.publish_settings.new.links c.read_rows-found.result.1 first.walk
          (subst (λ l. Walk (Among g.L.Kms.step) l second.steps c.read_rows-found.result.1)
          c.in-Ok-adopted.ensures.links second.walk);
      are = λ a. both_heard first.steps second.steps
          (Seen g.L.Kms.link a c.read_rows-found.result.1
          (g.D.Dice.left c.read_rows-found.result.2) (g.D.Dice.count c.read_rows-found.result.2))
          (read_stored_rows g.L.Kms.link g.D.Dice.left g.D.Dice.count
          (rows_of c.args.settings.entries.0) (rows_of c.in-Ok.settings.entries.0) c.args.rows.now
          (ap (λ (s : Settings). rows_of s.entries.0) c.in-Ok.ensures.ok) c.args.links
          c.publish_settings.new.links c.args.dice c.publish_settings.new.dice a
          (with_exchanges first.steps a)
          (with_exchanges second.steps (with_exchanges first.steps a))
          c.in-Ok-publish_settings.published
          c.in-Ok-adopted.bench.published c.in-Ok-adopted.bench.links c.read_rows-found.result.1
          c.in-Ok-adopted.bench.dice c.read_rows-found.result.2 c.in-Ok-adopted.bench.cache
          (findings_in c.read_rows-found.result.0)
          c.tell.result c.in-Ok-adopted.ensures.published c.in-Ok-publish_settings.ensures.rows
          c.in-Ok-adopted.ensures.links c.in-Ok-adopted.ensures.dice c.in-Ok-adopted.ensures.cold
          (first.are a) (second.are (with_exchanges first.steps a)) c.tell.ensures);
    }

pub returns-clause-names : goal.returns-clause-names
returns-clause-names g c = c.read_rows-found.ensures.names
    ∙ ap (names_of g.L.Kms.link) c.in-Ok-adopted.ensures.links
    ∙ names_stay g.L.Kms.link (plugins_in (rows_of c.in-Ok.settings.entries.0)) c.args.links
    c.publish_settings.new.links c.in-Ok-publish_settings.ensures.asked
