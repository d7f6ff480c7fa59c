-- `adopted`: a page is there for each key.
use Rattle.std.proofs.Common.{ap, refl, subst, sym}
use Rattle.kr_provider.specs.Names.{HasLinks, names_of}
use Rattle.kr_cmd_steps.proofs.Rooms.{room}
use Rattle.kr_cmd_steps.proofs.bench.adopted.Goals as goal

pub adopt-requires : goal.adopt-requires
adopt-requires g c = record {
  links = subst (λ p. HasLinks (names_of g.L.Kms.link c.in-Ok-new.bench.links) p.rows)
      (sym c.in-Ok.ensures.ok)
      (subst (λ b. HasLinks (names_of g.L.Kms.link b.links) c.args.published.rows)
      (sym c.in-Ok-new.ensures.ok) c.requires.links);
}

pub unreachable-requires : goal.unreachable-requires
unreachable-requires g c = room c.args.published c.in-Ok.published c.in-Ok-new.bench.pages
    c.known.ensures.kept c.in-Ok.ensures.ok (ap (λ b. b.pages) c.in-Ok-new.ensures.ok)
    (c.in_default.ensures.full.0 refl)
