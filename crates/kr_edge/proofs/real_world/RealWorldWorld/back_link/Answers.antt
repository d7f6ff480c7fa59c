-- The count of the link is the first of its seat and plugin again.
use Rattle.std.proofs.Common.{ℕ, List, None}
use Rattle.kr_kms.specs.Outside.{same_link}
use Rattle.kr_edge.specs.RealWorld.{count_of}
use Rattle.kr_kms.proofs.Lent.{not_taken, placed_by, returned_keyed, links_decide}
use Rattle.kr_edge.proofs.real_world.RealWorldWorld.back_link.Goals as goal

pub unreachable-requires : goal.unreachable-requires
unreachable-requires g c =
    let key : ℕ × List ℕ = (c.args.seat, c.args.link.name) in
    absurd (not_taken (λ (o : ℕ × List ℕ). same_link o key) _
    (placed_by (λ (name : List ℕ) o. same_link o (c.args.seat, name)) c.in_default.ensures.first
    c.name.ensures c.taken_keys.ensures) c.requires)

pub returns-clause-back : goal.returns-clause-back
returns-clause-back g c =
    let key : ℕ × List ℕ = (c.args.seat, c.args.link.name) in
    returned_keyed same_link (λ first. None) count_of links_decide c.args.self.now.links
    c.return_keyed.new.self c.in-Some.at key c.args.link.lines.faults c.close.ensures
    (placed_by (λ (name : List ℕ) o. same_link o (c.args.seat, name)) c.in-Some.ensures.first
    c.name.ensures c.taken_keys.ensures) (c.return_keyed.ensures key)
