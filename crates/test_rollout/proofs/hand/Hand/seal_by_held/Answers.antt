-- `seal_by_held`: what the seat holds seals the data.
use Rattle.std.proofs.Common.{subst}
use Rattle.kr_base.specs.Rules.{IsPath}
use Rattle.kr_provider.specs.Sealing.{IsSealing}
use Rattle.test_rollout.proofs.hand.Hand.seal_by_held.Goals as goal

pub returns : goal.returns
returns c =
    let place = c.is_place.ensures c.if-not-is_place.false in (
      subst IsPath c.as_str-text.ensures place.0,
      place.1,
      c.in_ok-held.held.now,
      c.in_ok-held.ensures,
      subst (λ q. IsSealing c.in_ok-held.held.now c.args.resource.now q c.args.plain.now
          c.in_ok-stored.stored) c.as_str-text.ensures c.in_ok-stored.ensures,
    )
