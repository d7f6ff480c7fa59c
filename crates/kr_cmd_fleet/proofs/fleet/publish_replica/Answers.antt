-- `publish_replica`: the replica isn't in, or its configuration is published.
use Rattle.std.proofs.Common.{◌≡◌, ℕ, Bool, List, [], ◌∷◌, ap, false, true, Option, Result, Err, None, Ok, Some, arith, refl, subst, sym, ◌∙◌}
use Rattle.std.specs.Prelude.{IfOk}
use Rattle.std.specs.Str.{bytes_eq}
use Rattle.kr_base.specs.Walks.{Talk}
use Rattle.kr_config.specs.Kept.{ConfigEntry, plugins_in, rows_of}
use Rattle.kr_kms.specs.declared.seeds.SeedRow.{SeedRow}
use Rattle.kr_provider.specs.AskedLinks.{Among, AskedOnly}
use Rattle.kr_provider.specs.Names.{HasLinks, names_of}
use Rattle.kr_provider.specs.PluginOrder.{plugin_order}
use Rattle.kr_provider.specs.Publication.{Publication}
use Rattle.kr_history.specs.Honesty.{SeedsOpen}
use Rattle.kr_provider.proofs.AskedLists.{asked_none}
use Rattle.kr_cmd_steps.specs.Environment.{Environment, with_exchanges}
use Rattle.kr_cmd_steps.specs.Plugins.{make_seeds}
use Rattle.kr_cmd_steps.specs.inner.Phases.{Does}
use Rattle.kr_cmd_messages.specs.declared.refusal.Stop.{Stop}
use Rattle.kr_cmd_messages.specs.declared.refusal.Stop.TheVariants.{NoMemory}
use Rattle.kr_cmd_fleet.specs.FleetFiles.{no_file, file_entries}
use Rattle.kr_cmd_fleet.specs.Fleets.{rows_of_replica}
use Rattle.kr_cmd_fleet.specs.StartExchanges.{OpenBy}
use Rattle.kr_cmd_fleet.specs.inner.Beginnings.{PublishesNext, with_first}
use Rattle.kr_cmd_fleet.specs.inner.Plans.{named}
use Rattle.kr_cmd_fleet.proofs.Publishings.{asked_wider, has_links, next_fails, next_gap, next_lacks, next_published, next_unkept, none_next, open_one, published_by, published_gap, read_rows, read_there, rows_in_file}
use Rattle.kr_cmd_fleet.proofs.SeedsHeard.{listening, made_open}
use Rattle.kr_cmd_fleet.proofs.fleet.publish_replica.Given.{Over}
use Rattle.kr_cmd_fleet.proofs.fleet.publish_replica.Goals.{After-publish_settings, In-Ok, Start, Then-eq}
use Rattle.kr_cmd_fleet.proofs.fleet.publish_replica.Goals as goal

-- ---- what the answers behind one place have in common

-- whether the replica is in, as the test tells
tested : (file text : List ℕ) (test b : Bool) → text ≡ file → test ≡ bytes_eq text no_file
    → test ≡ b → bytes_eq file no_file ≡ b
tested file text test b same is e = ap (λ n. bytes_eq n no_file) (sym same) ∙ sym is ∙ e

gap : (g : Over) (c : Then-eq g) → bytes_eq c.args.replica.now.1 no_file ≡ true
gap g c = tested c.args.replica.now.1 c.as_str-file.result.now c.eq.result true
    c.as_str-file.ensures c.eq.ensures c.if-eq.true

there : (g : Over) (c : In-Ok g) → bytes_eq c.args.replica.now.1 no_file ≡ false
there g c = tested c.args.replica.now.1 c.as_str-file.result.now c.eq.result false
    c.as_str-file.ensures c.eq.ensures c.if-eq.false

abbrev rows : (g : Over) → In-Ok g → List ConfigEntry
rows g c = rows_of c.in-Ok.settings.entries.0

in_file : (g : Over) (c : In-Ok g)
    → file_entries (named c.args.files.now) c.args.replica.now.1 ≡ Some (rows g c)
in_file g c = read_rows c.args.files.now c.as_str-file.result.now c.args.replica.now.1
    c.in-Some.settings.now c.in-Ok.settings c.as_str-file.ensures c.in-Some.ensures
    c.in-Ok.ensures

of_replica : (g : Over) (c : In-Ok g)
    → rows_of_replica (named c.args.files.now) c.args.replica.now ≡ Some (rows g c)
of_replica g c = rows_in_file (named c.args.files.now) c.args.replica.now (rows g c) (there g c)
    (in_file g c)

linked : (g : Over) (c : In-Ok g) → HasLinks (names_of g.L.Kms.link c.args.links.now) (rows g c)
linked g c = has_links (names_of g.L.Kms.link c.args.links.now) (named c.args.files.now)
    c.args.replica.now.1 (rows g c) c.requires.read (there g c) (in_file g c)

unasked : (g : Over) (c : Start g)
    → AskedOnly g.L.Kms.link (names_of g.L.Kms.link c.args.links.now) c.args.links.now
    c.args.links.now
unasked g c = asked_none g.L.Kms.link (names_of g.L.Kms.link c.args.links.now) c.args.links.now

asked : (g : Over) (c : After-publish_settings g)
    → HasLinks (names_of g.L.Kms.link c.args.links.now) (rows_of c.in-Ok.settings.entries.0)
    → AskedOnly g.L.Kms.link (names_of g.L.Kms.link c.args.links.now) c.args.links.now
    c.publish_settings.new.links
asked g c has = asked_wider g.L.Kms.link (plugins_in (rows_of c.in-Ok.settings.entries.0))
    (names_of g.L.Kms.link c.args.links.now) has c.args.links.now c.publish_settings.new.links
    c.publish_settings.ensures.asked

-- nothing was asked
silent : (g : Over) (c : Start g) (result : Result (Option Publication) Stop)
    → ((a : Environment) → PublishesNext (named c.args.files.now) c.args.replica.now a a result)
    → IfOk result (λ published. OpenBy [] (published ∷ []))
    → Talk (Among g.L.Kms.step) c.args.links.now c.args.links.now (λ es. ((a : Environment)
    → PublishesNext (named c.args.files.now) c.args.replica.now
    (with_first g.L.Kms.link c.args.links.now (g.D.Dice.left c.args.dice.now)
    (g.D.Dice.count c.args.dice.now) a)
    (with_first g.L.Kms.link c.args.links.now (g.D.Dice.left c.args.dice.now)
    (g.D.Dice.count c.args.dice.now) (with_exchanges es a)) result)
    × IfOk result (λ published. OpenBy es (published ∷ [])))
silent g c result next so = none_next g.L.Kms.step (named c.args.files.now) c.args.replica.now
    c.args.links.now (λ a. with_first g.L.Kms.link c.args.links.now
    (g.D.Dice.left c.args.dice.now) (g.D.Dice.count c.args.dice.now) a) result next so

-- the seeds were made, or not: what the replica's publication is by the same exchanges
module _ (g : Over) (c : After-publish_settings g) where
  abbrev Old : Environment → Environment
  Old a = with_first g.L.Kms.link c.args.links.now (g.D.Dice.left c.args.dice.now)
      (g.D.Dice.count c.args.dice.now) a

  abbrev New : Environment → Environment
  New a = with_first g.L.Kms.link c.publish_settings.new.links
      (g.D.Dice.left c.publish_settings.new.dice) (g.D.Dice.count c.publish_settings.new.dice) a

  abbrev Makes : Result (List SeedRow) Stop → (old new : Environment) → Type 0
  Makes seeds old new = Does (make_seeds (plugin_order (rows_of c.in-Ok.settings.entries.0))) old
      new seeds

  said : (seeds : Result (List SeedRow) Stop) (result : Result (Option Publication) Stop)
      (talk : Talk (Among g.L.Kms.step) c.args.links.now c.publish_settings.new.links
      (λ es. (a : Environment) → Makes seeds (Old a) (New (with_exchanges es a))))
      → ((old new : Environment) → Makes seeds old new
      → PublishesNext (named c.args.files.now) c.args.replica.now old new result)
      → IfOk result (λ published. OpenBy talk.steps (published ∷ []))
      → Talk (Among g.L.Kms.step) c.args.links.now c.publish_settings.new.links (λ es.
      ((a : Environment) → PublishesNext (named c.args.files.now) c.args.replica.now (Old a)
      (New (with_exchanges es a)) result)
      × IfOk result (λ published. OpenBy es (published ∷ [])))
  said seeds result talk next so = record {
    steps = talk.steps;
    walk = talk.walk;
    are = (λ a. next (Old a) (New (with_exchanges talk.steps a)) (talk.are a), so);
  }

-- ---- the answers

pub returns-then-eq-clause-does : goal.returns-then-eq-clause-does
returns-then-eq-clause-does g c =
    let here = goal.at.returns-then-eq-clause-does g c in
    silent g here.Start (Ok None)
    (next_gap (named c.args.files.now) c.args.replica.now (gap g here.Then-eq))
    (open_one [] None (λ opens agree. tt))

pub returns-then-eq-clause-published : goal.returns-then-eq-clause-published
returns-then-eq-clause-published g c =
    published_gap (named c.args.files.now) c.args.replica.now
    (gap g (goal.at.returns-then-eq-clause-published g c).Then-eq)

pub returns-then-eq-clause-asked : goal.returns-then-eq-clause-asked
returns-then-eq-clause-asked g c = unasked g (goal.at.returns-then-eq-clause-asked g c).Start

pub returns-then-eq-clause-later : goal.returns-then-eq-clause-later
returns-then-eq-clause-later g c = omega arith

pub unreachable-requires : goal.unreachable-requires
unreachable-requires g c =
    read_there (names_of g.L.Kms.link c.args.links.now) c.args.files.now c.as_str-file.result.now
    c.args.replica.now.1 c.requires.read
    (tested c.args.replica.now.1 c.as_str-file.result.now c.eq.result false
    c.as_str-file.ensures c.eq.ensures c.if-eq.false) c.as_str-file.ensures c.in_default.ensures

pub returns-in_default-share-clause-does : goal.returns-in_default-share-clause-does
returns-in_default-share-clause-does g c =
    silent g (goal.at.returns-in_default-share-clause-does g c).Start (Err NoMemory)
    (next_lacks (named c.args.files.now) c.args.replica.now) tt

pub returns-in_default-share-clause-asked : goal.returns-in_default-share-clause-asked
returns-in_default-share-clause-asked g c =
    unasked g (goal.at.returns-in_default-share-clause-asked g c).Start

pub returns-in_default-share-clause-later : goal.returns-in_default-share-clause-later
returns-in_default-share-clause-later g c = omega arith

pub publish_settings-requires : goal.publish_settings-requires
publish_settings-requires g c =
    record { links = linked g (goal.at.publish_settings-requires g c).In-Ok }

pub returns-in-Ok-new-clause-does : goal.returns-in-Ok-new-clause-does
returns-in-Ok-new-clause-does g c =
    let here = goal.at.returns-in-Ok-new-clause-does g c in
    let made = c.in-Ok-publish_settings.published in
    let shared = c.in-Ok-new.published in
    let talk = c.in-Ok-publish_settings.ensures.heard in
    said g here.After-publish_settings (Ok made.seeds) (Ok (Some shared)) talk
    (λ old new d. next_published (named c.args.files.now) c.args.replica.now
    (rows g here.In-Ok) (of_replica g here.In-Ok) old new made shared c.in-Ok-new.ensures.ok
    c.in-Ok-publish_settings.ensures.rows d)
    (open_one talk.steps (Some shared) (λ opens agree.
    subst (λ (p : Publication). SeedsOpen opens p) (sym c.in-Ok-new.ensures.ok)
    (made_open (plugin_order (rows g here.In-Ok)) made.seeds talk.steps (talk.are listening) refl
    opens agree)))

pub returns-in-Ok-new-clause-published : goal.returns-in-Ok-new-clause-published
returns-in-Ok-new-clause-published g c =
    let here = goal.at.returns-in-Ok-new-clause-published g c in
    published_by (named c.args.files.now) c.args.replica.now (rows g here.In-Ok)
    (of_replica g here.In-Ok) c.in-Ok-publish_settings.published c.in-Ok-new.published
    c.in-Ok-new.ensures.ok c.in-Ok-publish_settings.ensures.rows

pub returns-in-Ok-new-clause-asked : goal.returns-in-Ok-new-clause-asked
returns-in-Ok-new-clause-asked g c = let here = goal.at.returns-in-Ok-new-clause-asked g c in
    asked g here.After-publish_settings (linked g here.In-Ok)

pub returns-in-Ok-new-clause-later : goal.returns-in-Ok-new-clause-later
returns-in-Ok-new-clause-later g c = c.publish_settings.ensures.later

pub returns-in-Ok-publish_settings-clause-does : goal.returns-in-Ok-publish_settings-clause-does
returns-in-Ok-publish_settings-clause-does g c =
    let here = goal.at.returns-in-Ok-publish_settings-clause-does g c in
    let seeds = c.in-Ok-publish_settings.published.seeds in
    said g here.After-publish_settings (Ok seeds) (Err NoMemory)
    c.in-Ok-publish_settings.ensures.heard
    (λ old new d. next_unkept (named c.args.files.now) c.args.replica.now (rows g here.In-Ok)
    (of_replica g here.In-Ok) old new seeds d) tt

pub returns-in-Ok-publish_settings-clause-asked : goal.returns-in-Ok-publish_settings-clause-asked
returns-in-Ok-publish_settings-clause-asked g c =
    let here = goal.at.returns-in-Ok-publish_settings-clause-asked g c in
    asked g here.After-publish_settings (linked g here.In-Ok)

pub returns-in-Ok-publish_settings-clause-later : goal.returns-in-Ok-publish_settings-clause-later
returns-in-Ok-publish_settings-clause-later g c = c.publish_settings.ensures.later

pub returns-clause-does : goal.returns-clause-does
returns-clause-does g c =
    let here = goal.at.returns-clause-does g c in
    said g here.After-publish_settings (Err c.in-Err.stop) (Err c.in-Err.stop)
    c.in-Err.ensures.heard
    (λ old new d. next_fails (named c.args.files.now) c.args.replica.now (rows g here.In-Ok)
    (of_replica g here.In-Ok) old new c.in-Err.stop d) tt

pub returns-clause-asked : goal.returns-clause-asked
returns-clause-asked g c = let here = goal.at.returns-clause-asked g c in
    asked g here.After-publish_settings (linked g here.In-Ok)

pub returns-clause-later : goal.returns-clause-later
returns-clause-later g c = c.publish_settings.ensures.later
