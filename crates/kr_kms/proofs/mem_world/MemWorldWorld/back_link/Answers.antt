-- The link is the first of its seat and plugin again.
use Rattle.std.proofs.Common.{ℕ, List, option_and_then, refl}
use Rattle.kr_kms.specs.MemWorld.{link_key}
use Rattle.kr_kms.specs.Outside.{same_link}
use Rattle.kr_kms.proofs.Lent.{not_taken, placed_by, returned, links_decide}
use Rattle.kr_kms.proofs.mem_world.MemWorldWorld.back_link.Goals as goal

pub unreachable-requires : goal.unreachable-requires
unreachable-requires g c =
    let key : ℕ × List ℕ = (c.args.seat, (g.L.Kms.link c.args.link).name) in
    absurd (not_taken (λ (o : ℕ × List ℕ). same_link o key) _
    (placed_by (λ (name : List ℕ) o. same_link o (c.args.seat, name)) c.in_default.ensures.first
    c.name.ensures c.taken_keys.ensures) c.requires)

pub returns-clause-back : goal.returns-clause-back
returns-clause-back g c =
    let link = g.L.Kms.link in
    returned same_link (link_key link) (option_and_then (λ entry. (link entry.1).status))
    (λ entry. (link entry.1).count) links_decide c.args.self.now.links c.put_back.new.self
    c.in-Some.at (c.args.seat, (link c.args.link).name) (c.args.seat, c.args.link) refl
    (placed_by (λ (name : List ℕ) o. same_link o (c.args.seat, name)) c.in-Some.ensures.first
    c.name.ensures c.taken_keys.ensures) c.put_back.ensures
