-- A number is written group by group.
use Rattle.std.proofs.Common.{sym, subst, arith, ◌/◌, ◌∙◌}
use Rattle.kr_envelope.proofs.Numbers.{Shortens, shorten_begun, shorten_more, shorten_ended}
use Rattle.kr_envelope.proofs.canonical.push_number.Goals as goal

pub loop-rest-init : goal.loop-rest-init
loop-rest-init c = shorten_begun c.args.out.now.items c.args.n (omega arith)

pub loop-rest-preserved : goal.loop-rest-preserved
loop-rest-preserved c = subst (λ l. Shortens c.args.out.now.items l c.args.n (c.loop-rest.rest / 128)) (sym c.in_ok-push.ensures.items)
    (shorten_more c.args.out.now.items c.loop-rest.out.items c.args.n c.loop-rest.rest c.loop-rest.invariant c.loop-rest-test.true)

pub returns : goal.returns
returns c = c.in_ok-push-2.ensures.items ∙ shorten_ended c.args.out.now.items c.loop-rest.out.items c.args.n c.loop-rest.rest c.loop-rest.invariant (omega arith)
