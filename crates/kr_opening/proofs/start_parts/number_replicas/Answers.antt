use Rattle.std.proofs.Common.{◌≡◌, ℕ, ◌+◌, List, ◌++◌, ◌∷◌, [], Option, sym, ap, subst, ◌∙◌, arith}
use Rattle.kr_opening.specs.inner.OpeningBoards.{joined_number}
use Rattle.kr_opening.proofs.Sharing.{AreNumbered, numbered_begin, numbered_end, numbered_room, numbered_step}
use Rattle.kr_opening.proofs.start_parts.number_replicas.Goals as goal

pub loop-replica-preserved : goal.loop-replica-preserved
loop-replica-preserved c =
    let step = numbered_step c.args.replicas.now c.loop-replica.current.items c.loop-replica.number
    c.loop-replica.replica-index c.replica-item.result
    c.loop-replica.invariant c.loop-replica-test.true c.replica-item.is in
    let items : c.push.new.self.items ≡ c.loop-replica.current.items ++ joined_number
    c.replica-item.result c.loop-replica.number ∷ [] =
    c.in_ok-push.ensures.items ∙ ap (λ x. c.loop-replica.current.items ++ x ∷ [])
    c.joined_number.ensures in
    subst (λ current. AreNumbered c.args.replicas.now current c.next_joined_number-number.result
    (c.loop-replica.replica-index + 1)) (sym items)
    (subst (λ n. AreNumbered c.args.replicas.now
    (c.loop-replica.current.items ++ joined_number c.replica-item.result c.loop-replica.number ∷
    []) n (c.loop-replica.replica-index + 1)) (sym c.next_joined_number-number.ensures) step)

pub loop-replica-init : goal.loop-replica-init
loop-replica-init c =
    subst (λ (current : List (Option ℕ)). AreNumbered c.args.replicas.now current 0 0)
    (sym c.new-current.ensures.items) (numbered_begin c.args.replicas.now)

pub next_joined_number-number-requires : goal.next_joined_number-number-requires
next_joined_number-number-requires c =
    let l = c.loop-replica in
    omega (
      arith,
      numbered_room c.args.replicas.now l.current.items l.number l.replica-index
          l.invariant,
      c.loop-replica-test.true,
      c.requires,
    )

pub returns : goal.returns
returns c =
    let l = c.loop-replica in
    numbered_end c.args.replicas.now l.current.items l.number l.replica-index l.invariant
    c.loop-replica-test.false
