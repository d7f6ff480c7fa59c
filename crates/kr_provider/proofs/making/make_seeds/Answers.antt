-- `make_seeds`: each turn makes the seed of the next name.
use Rattle.std.proofs.Common.{[], ℕ, List, arith, refl, sym, subst, ap, length}
use Rattle.std.specs.Prelude.{Ok}
use Rattle.kr_config.specs.Kept.{plugins_in, rows_of}
use Rattle.kr_provider.proofs.AskedLists.{links_stay}
use Rattle.kr_provider.proofs.Lists.{no_names}
use Rattle.kr_provider.proofs.Makings.{ComesTo, all_made, asked_next, begins_at, ends, goes_on, within}
use Rattle.kr_provider.proofs.NameOrder.{count_falls}
use Rattle.kr_base.specs.Walks.{Talk}
use Rattle.kr_provider.specs.AskedLinks.{Among}
use Rattle.kr_provider.proofs.PluginNames.{names_some}
use Rattle.kr_provider.proofs.SeedTalks.{Completes, talk_begins, talk_ends, talk_goes_on, talk_lacks, talk_stops}
use Rattle.kr_provider.proofs.making.make_seeds.Goals as goal

pub loop-name-init : goal.loop-name-init
loop-name-init g c =
    let rows = rows_of c.args.settings.now.entries.0 in (
      subst (λ l. ComesTo g.L.Kms.link g.D.Dice.left g.D.Dice.count rows
          c.args.links.now c.args.dice.now [] l c.args.links.now c.args.dice.now)
          (sym c.new-made.ensures) (begins_at g.L.Kms.link g.D.Dice.left
          g.D.Dice.count rows c.args.links.now c.args.dice.now
          (names_some rows c.args.settings.now.kept)),
      ([], (refl, refl)),
      c.requires.links,
      λ e. (c.new-made.ensures, refl, refl),
      subst (λ l. Talk (Among g.L.Kms.step) c.args.links.now c.args.links.now
          (Completes (Among g.L.Kms.step) g.D.Dice.left g.D.Dice.count (plugins_in rows)
          c.args.dice.now [] l c.args.dice.now)) (sym c.new-made.ensures)
          (talk_begins (Among g.L.Kms.step) g.D.Dice.left g.D.Dice.count (plugins_in rows)
          c.args.dice.now c.args.links.now),
    )

pub next_plugin-requires-text-after : goal.next_plugin-requires-text-after
next_plugin-requires-text-after g c = λ κs. c.loop-name.invariant.1

pub returns-in-Err-clause-made : goal.returns-in-Err-clause-made
returns-in-Err-clause-made g c = ends g.L.Kms.link g.D.Dice.left g.D.Dice.count
    (rows_of c.args.settings.now.entries.0) c.args.links.now c.args.dice.now c.loop-name.after.now
    c.in-Some.name.now c.loop-name.made.0 c.loop-name.links c.make_one.new.links c.loop-name.dice
    c.make_one.new.dice c.in-Err.why c.in-Some.ensures c.loop-name.invariant.0 c.in-Err.ensures.made

pub returns-in-Err-clause-asked : goal.returns-in-Err-clause-asked
returns-in-Err-clause-asked g c = asked_next g.L.Kms.link g.D.Dice.left g.D.Dice.count
    (rows_of c.args.settings.now.entries.0) c.args.links.now c.args.dice.now c.loop-name.after.now
    c.in-Some.name.now c.loop-name.made.0 c.loop-name.links c.make_one.new.links c.loop-name.dice
    c.make_one.new.dice c.make_one.result c.in-Some.ensures c.loop-name.invariant.0
    c.make_one.ensures.made

pub returns-in-Err-clause-none : goal.returns-in-Err-clause-none
returns-in-Err-clause-none g c = λ e. absurd (omega (
  arith,
  c.in-Some.ensures.0.1,
  ap (λ (l : List (List ℕ)). length l)
      (no_names (rows_of c.args.settings.now.entries.0) e),
))

pub returns-in-Err-push-clause-made : goal.returns-in-Err-push-clause-made
returns-in-Err-push-clause-made g c = (
  c.in-Some.name.now,
  within g.L.Kms.link g.D.Dice.left g.D.Dice.count
      (rows_of c.args.settings.now.entries.0) c.args.links.now c.args.dice.now c.loop-name.after.now
      c.in-Some.name.now c.loop-name.made.0 c.loop-name.links c.make_one.new.links c.loop-name.dice
      c.make_one.new.dice (Ok c.in-Ok.row) c.in-Some.ensures c.loop-name.invariant.0
      c.in-Ok.ensures.made,
)

pub returns-in-Err-push-clause-asked : goal.returns-in-Err-push-clause-asked
returns-in-Err-push-clause-asked g c = asked_next g.L.Kms.link g.D.Dice.left
    g.D.Dice.count (rows_of c.args.settings.now.entries.0) c.args.links.now c.args.dice.now
    c.loop-name.after.now c.in-Some.name.now c.loop-name.made.0 c.loop-name.links
    c.make_one.new.links c.loop-name.dice c.make_one.new.dice c.make_one.result c.in-Some.ensures
    c.loop-name.invariant.0 c.make_one.ensures.made

pub returns-in-Err-push-clause-none : goal.returns-in-Err-push-clause-none
returns-in-Err-push-clause-none g c = λ e. absurd
    (omega (
      arith,
      c.in-Some.ensures.0.1,
      ap (λ (l : List (List ℕ)). length l)
          (no_names (rows_of c.args.settings.now.entries.0) e),
    ))

pub loop-name-smaller : goal.loop-name-smaller
loop-name-smaller g c = count_falls c.loop-name.after.now c.in-Some.name.now
    (plugins_in (rows_of c.args.settings.now.entries.0)) c.in-Some.ensures.1 c.in-Some.ensures.0

pub loop-name-preserved : goal.loop-name-preserved
loop-name-preserved g c =
    let rows = rows_of c.args.settings.now.entries.0 in
    let to = goes_on g.L.Kms.link g.D.Dice.left g.D.Dice.count
    (rows_of c.args.settings.now.entries.0) c.args.links.now c.args.dice.now
    c.loop-name.after.now c.in-Some.name.now c.loop-name.made.0 c.loop-name.links
    c.make_one.new.links c.loop-name.dice c.make_one.new.dice c.in-Ok.row c.in-Some.ensures
    c.loop-name.invariant.0 c.make_one.ensures.later c.in-Ok.ensures.made in (
      subst (λ l. ComesTo g.L.Kms.link g.D.Dice.left g.D.Dice.count rows
          c.args.links.now c.args.dice.now c.in-Some.name.now l c.make_one.new.links
          c.make_one.new.dice) (sym c.in-Ok-push.ensures.ok) to,
      c.tell_text.ensures,
      links_stay g.L.Kms.link (plugins_in rows) c.args.links.now c.make_one.new.links rows to.asked
          c.requires.links,
      λ e. absurd (omega (
        arith,
        c.in-Some.ensures.0.1,
        ap (λ (l : List (List ℕ)). length l)
            (no_names rows e),
      )),
      subst (λ l. Talk (Among g.L.Kms.step) c.args.links.now c.make_one.new.links
          (Completes (Among g.L.Kms.step) g.D.Dice.left g.D.Dice.count (plugins_in rows)
          c.args.dice.now c.in-Some.name.now l c.make_one.new.dice)) (sym c.in-Ok-push.ensures.ok)
          (talk_goes_on (Among g.L.Kms.step) g.D.Dice.left g.D.Dice.count (plugins_in rows)
          c.args.dice.now c.loop-name.after.now c.loop-name.made.0 c.loop-name.dice
          c.args.links.now c.loop-name.links c.loop-name.invariant.4 c.in-Some.name.now
          c.in-Some.ensures c.make_one.new.dice c.make_one.new.links c.in-Ok.row
          c.in-Ok.ensures.exchanged),
    )

pub returns-clause-made : goal.returns-clause-made
returns-clause-made g c = all_made g.L.Kms.link g.D.Dice.left g.D.Dice.count
    (rows_of c.args.settings.now.entries.0) c.args.links.now c.args.dice.now c.loop-name.after.now
    c.loop-name.made.0 c.loop-name.links c.loop-name.dice c.in_default.ensures
    c.loop-name.invariant.0

pub returns-in-Err-clause-exchanged : goal.returns-in-Err-clause-exchanged
returns-in-Err-clause-exchanged g c = talk_stops (Among g.L.Kms.step) g.D.Dice.left
    g.D.Dice.count (plugins_in (rows_of c.args.settings.now.entries.0)) c.args.dice.now
    c.loop-name.after.now c.loop-name.made.0 c.loop-name.dice c.args.links.now c.loop-name.links
    c.loop-name.invariant.4 c.in-Some.name.now c.in-Some.ensures c.make_one.new.dice
    c.make_one.new.links c.in-Err.why c.in-Err.ensures.exchanged

pub returns-in-Err-push-clause-exchanged : goal.returns-in-Err-push-clause-exchanged
returns-in-Err-push-clause-exchanged g c = talk_lacks (Among g.L.Kms.step) g.D.Dice.left
    g.D.Dice.count (plugins_in (rows_of c.args.settings.now.entries.0)) c.args.dice.now
    c.loop-name.after.now c.loop-name.made.0 c.loop-name.dice c.args.links.now c.loop-name.links
    c.loop-name.invariant.4 c.in-Some.name.now c.in-Some.ensures c.make_one.new.dice
    c.make_one.new.links c.in-Ok.row c.in-Ok.ensures.exchanged

pub returns-clause-exchanged : goal.returns-clause-exchanged
returns-clause-exchanged g c = talk_ends (Among g.L.Kms.step) g.D.Dice.left
    g.D.Dice.count (plugins_in (rows_of c.args.settings.now.entries.0)) c.args.dice.now
    c.loop-name.after.now c.loop-name.made.0 c.loop-name.dice c.args.links.now c.loop-name.links
    c.loop-name.invariant.4 c.in_default.ensures
