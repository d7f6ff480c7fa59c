-- `read_start_rows`: a bench over the outfit, which comes back.
use Rattle.std.proofs.Common.{Err, IsTrue, ap, refl, subst, sym, ◌∙◌}
use Rattle.kr_base.specs.Walks.{Talk}
use Rattle.kr_config.specs.Kept.{keeps}
use Rattle.kr_provider.specs.AskedLinks.{Among, AskedOnly}
use Rattle.kr_provider.specs.Names.{HasLinks, names_of}
use Rattle.kr_provider.proofs.AskedLists.{asked_none}
use Rattle.kr_cmd_messages.specs.declared.refusal.Stop.TheVariants.{NoMemory}
use Rattle.kr_cmd_steps.proofs.Rooms.{room}
use Rattle.kr_cmd_fleet.proofs.RowReads.{Leaves, lacks_first_row, read_by, unread_by}
use Rattle.kr_cmd_fleet.proofs.watch_start.read_start_rows.Goals as goal

pub returns-in_default-clause-does : goal.returns-in_default-clause-does
returns-in_default-clause-does g c = lacks_first_row g.L.Kms.link g.L.Kms.step
    c.args.published.now c.args.rows.now c.args.outfit.links (g.D.Dice.left c.args.outfit.dice)
    (g.D.Dice.count c.args.outfit.dice)

pub returns-in_default-clause-asked : goal.returns-in_default-clause-asked
returns-in_default-clause-asked g c =
    asked_none g.L.Kms.link (names_of g.L.Kms.link c.args.outfit.links) c.args.outfit.links

pub returns-in-Err-clause-does : goal.returns-in-Err-clause-does
returns-in-Err-clause-does g c =
    let link = g.L.Kms.link in
    let step = g.L.Kms.step in
    let p = c.args.published.now in
    let rows = c.args.rows.now in
    let olds = c.args.outfit.links in
    let left = g.D.Dice.left c.args.outfit.dice in
    let count = g.D.Dice.count c.args.outfit.dice in
    subst (λ l. Talk (Among step) olds l (Leaves link step p rows olds left count l (Err NoMemory)))
    (sym c.in-Err.ensures.returned.0) (lacks_first_row link step p rows olds left count)

pub returns-in-Err-clause-asked : goal.returns-in-Err-clause-asked
returns-in-Err-clause-asked g c =
    subst (λ l. AskedOnly g.L.Kms.link (names_of g.L.Kms.link c.args.outfit.links)
    c.args.outfit.links l) (sym c.in-Err.ensures.returned.0)
    (asked_none g.L.Kms.link (names_of g.L.Kms.link c.args.outfit.links) c.args.outfit.links)

pub adopt-requires : goal.adopt-requires
adopt-requires g c = record {
  links = subst (λ p. HasLinks (names_of g.L.Kms.link c.in-Ok-new.bench.links) p.rows)
      (sym c.in-Ok.ensures)
      (subst (λ b. HasLinks (names_of g.L.Kms.link b.links) c.args.published.now.rows)
      (sym c.in-Ok-new.ensures.ok) c.requires.links);
}

pub unreachable-requires : goal.unreachable-requires
unreachable-requires g c = room c.args.published.now c.in-Ok.published c.in-Ok-new.bench.pages
    (subst (λ p. IsTrue (keeps p.rows)) c.get.ensures c.known.ensures.kept)
    c.in-Ok.ensures (ap (λ b. b.pages) c.in-Ok-new.ensures.ok)
    (c.in_default-adopt.ensures.full.0 refl)

pub returns-in-Ok-read_rows-clause-does : goal.returns-in-Ok-read_rows-clause-does
returns-in-Ok-read_rows-clause-does g c = read_by g.L.Kms.link g.L.Kms.step c.args.published.now
    c.args.rows.now c.args.outfit.links (g.D.Dice.left c.args.outfit.dice)
    (g.D.Dice.count c.args.outfit.dice) c.in-Ok.published c.adopt.new.self.links
    c.in-Ok-read_rows.items c.read_rows.new.bench.links c.close-links.result.0
    c.adopt.new.self.published c.in-Ok-read_rows.ensures.read
    (ap (λ b. b.published) c.in-Ok-adopt.ensures.kept) c.in-Ok.ensures
    (ap (λ b. b.links) c.in-Ok-adopt.ensures.kept ∙ ap (λ b. b.links) c.in-Ok-new.ensures.ok)
    c.close-links.ensures.0

pub returns-in-Err-read_rows-clause-does : goal.returns-in-Err-read_rows-clause-does
returns-in-Err-read_rows-clause-does g c = unread_by g.L.Kms.link g.L.Kms.step
    c.args.published.now c.args.rows.now c.args.outfit.links (g.D.Dice.left c.args.outfit.dice)
    (g.D.Dice.count c.args.outfit.dice) c.in-Ok.published c.adopt.new.self.links
    c.in-Err-read_rows.why c.read_rows.new.bench.links c.close-links-in-Err-read_rows.result.0
    c.adopt.new.self.published c.in-Err-read_rows.ensures.read
    (ap (λ b. b.published) c.in-Ok-adopt.ensures.kept) c.in-Ok.ensures
    (ap (λ b. b.links) c.in-Ok-adopt.ensures.kept ∙ ap (λ b. b.links) c.in-Ok-new.ensures.ok)
    c.close-links-in-Err-read_rows.ensures.0 _ c.read_stop-stop.ensures
