-- `replacing`: what the seat holds seals the row anew.
use Rattle.std.proofs.Common.{◌∙◌, refl, subst, sym}
use Rattle.kr_base.specs.Rules.{IsPath}
use Rattle.test_rollout.proofs.hand.Hand.replacing.Goals as goal

pub returns-in-Ok : goal.returns-in-Ok
returns-in-Ok c =
    let place = c.is_place.ensures c.if-not-is_place.false in (
      c.in_ok-held.held.now,
      c.in_ok-held.ensures,
      c.in_ok-row.row.now,
      c.in_ok-row.ensures,
      sym (c.in-Ok.ensures ∙ c.as_str-text.ensures),
      refl,
      subst IsPath c.as_str-text.ensures place.0,
      c.in_ok-stored.ensures,
    )
