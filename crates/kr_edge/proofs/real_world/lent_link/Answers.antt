-- The count of the first link of the key goes out, or a new one.
use Rattle.std.proofs.Common.{List, ℕ, None, refl, sym, ◌∙◌}
use Rattle.kr_kms.specs.Outside.{same_link}
use Rattle.kr_edge.specs.RealWorld.{shelf_key, count_of}
use Rattle.kr_kms.proofs.Lent.{lent, links_decide, made, placed_by}
use Rattle.kr_edge.proofs.real_world.lent_link.Goals as goal

pub returns-in-Ok-clause-ok : goal.returns-in-Ok-clause-ok
returns-in-Ok-clause-ok c =
    lent same_link shelf_key (λ first. None) count_of links_decide c.args.links.now
    c.lend.new.self c.in-Some.at c.args.key (c.in-Ok.key, c.in-Ok.count)
    (placed_by (λ (name : List ℕ) entry. same_link (shelf_key entry) (c.args.key.0, name))
    c.in-Some.ensures.first c.as_str.ensures c.items.ensures) c.in-Ok.ensures.lent
    c.in-Ok.ensures.ok refl c.new.ensures.faults

pub returns-in-Ok-add-clause-ok : goal.returns-in-Ok-add-clause-ok
returns-in-Ok-add-clause-ok c =
    made same_link shelf_key (λ first. None) count_of links_decide c.args.links.now c.add.new.self
    c.args.key
    (placed_by (λ (name : List ℕ) entry. same_link (shelf_key entry) (c.args.key.0, name))
    (sym c.in-None.is ∙ c.link_place.ensures.first) c.as_str.ensures c.items.ensures)
    c.in-Ok-add.ensures.ok refl c.first.ensures.faults
