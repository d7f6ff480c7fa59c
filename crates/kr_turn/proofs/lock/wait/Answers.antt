-- What the tactic leaves open of `wait`.
use Rattle.std.proofs.Common.{rules, ap, ◌∙◌}
use Rattle.kr_turn.proofs.Keeps.{looks}
use Rattle.kr_turn.proofs.lock.wait.Goals as goal

pub load-served-requires : goal.load-served-requires
load-served-requires g c = (
  search rules,
  search rules,
  looks _ _ _ _ _ _ _ _ c.args.ticket (ap (λ m. m.0.stage) c.loop.invariant.2 ∙ c.requires.waits.0)
      (ap (λ m. m.1) c.loop.invariant.2 ∙ c.requires.waits.1),
)

pub loop-preserved : goal.loop-preserved
loop-preserved g c = (
  c.load-served.ensures.0 ∙ c.loop.invariant.0,
  c.load-served.ensures.1 ∙ c.loop.invariant.1,
  (c.load-served.ensures.2 c.args.ticket (ap (λ m. m.0.stage) c.loop.invariant.2 ∙ c.requires.waits.0)).1
      c.if-served-ticket.false ∙ c.loop.invariant.2,
)
