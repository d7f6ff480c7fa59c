-- `publish_first`: with the first worker's outfit.
use Rattle.std.proofs.Common.{[], ap, get_or, set, subst, sym, ◌∙◌}
use Rattle.kr_provider.specs.Names.{names_of}
use Rattle.kr_cmd_fleet.specs.Fleets.{publishing}
use Rattle.kr_cmd_fleet.specs.declared.outfit.Outfit.{Outfit}
use Rattle.kr_cmd_fleet.specs.inner.Beginnings.{with_first}
use Rattle.kr_cmd_fleet.specs.inner.Plans.{named}
use Rattle.kr_cmd_fleet.specs.inner.FleetOutcomes.{published_in}
use Rattle.kr_cmd_steps.specs.Environment.{with_exchanges}
use Rattle.kr_cmd_fleet.specs.StartExchanges.{AsksFirst}
use Rattle.kr_cmd_fleet.specs.inner.Outfits.{AreLater, links_of, with_outfits}
use Rattle.kr_cmd_steps.specs.inner.Phases.{Does}
use Rattle.kr_cmd_fleet.proofs.Publishings.{first_asks, first_later, first_named, heard_first, may_each}
use Rattle.kr_cmd_fleet.proofs.fleet.publish_first.Goals as goal

pub publish_each-published-requires : goal.publish_each-published-requires
publish_each-published-requires g c =
    let outfits = c.args.outfits.0 in
    let first = c.index_mut-first.result.now in
    let is = c.index_mut-first.ensures.value
    ∙ ap (λ os. get_or os 0 first) c.into_vec-outfits.ensures in record {
      read = may_each c.args.plan.now c.requires.plan (names_of g.L.Kms.link first.links)
          (first_named g.L.Kms.link g.D.Dice.left g.D.Dice.count _ outfits first
          c.requires.some is c.requires.named)
          c.as_slice-files.result.now c.as_slice-replicas.result.now c.as_slice-files.ensures
          c.as_slice-replicas.ensures;
    }

pub returns-clause-does : goal.returns-clause-does
returns-clause-does g c =
    let link = g.L.Kms.link in
    let left = g.D.Dice.left in
    let count = g.D.Dice.count in
    let plan = c.args.plan.now in
    let outfits = c.args.outfits.0 in
    let first = c.index_mut-first.result.now in
    let is = c.index_mut-first.ensures.value
    ∙ ap (λ os. get_or os 0 first) c.into_vec-outfits.ensures in
    let each = c.publish_each-published in
    let talk = each.ensures.does in
    let es = talk.steps in
    let result = published_in each.result in
    let new : Outfit _ _ = record { links = each.new.links; dice = each.new.dice } in
    let next = publishing (named plan.files.0) [] plan.script.replicas.0 in
    let back_is = sym (c.from_vec.ensures ∙ ap (λ os. set os 0 new) c.into_vec-outfits.ensures) in (
      es,
      subst (λ back. AsksFirst g.L.Kms.step es (links_of outfits) (links_of back)) back_is
          (first_asks link left count g.L.Kms.step outfits first new es
          c.requires.some is talk.walk),
      λ a. subst (λ back. Does next (with_outfits link left count 0 outfits a)
          (with_outfits link left count 0 back (with_exchanges es a)) result) back_is
          (heard_first link left count next result outfits first new es
          c.requires.some is
          (λ b. subst (λ rs. Does (publishing (named plan.files.0) [] rs)
          (with_first link first.links (left first.dice) (count first.dice) b)
          (with_first link new.links (left new.dice) (count new.dice) (with_exchanges es b)) result)
          c.as_slice-replicas.ensures
          (subst (λ fs. Does (publishing (named fs) [] c.as_slice-replicas.result.now)
          (with_first link first.links (left first.dice) (count first.dice) b)
          (with_first link new.links (left new.dice) (count new.dice) (with_exchanges es b)) result)
          c.as_slice-files.ensures (talk.are.0 b))) a),
      talk.are.1,
    )

pub returns-clause-later : goal.returns-clause-later
returns-clause-later g c =
    let outfits = c.args.outfits.0 in
    let first = c.index_mut-first.result.now in
    let is = c.index_mut-first.ensures.value
    ∙ ap (λ os. get_or os 0 first) c.into_vec-outfits.ensures in
    let each = c.publish_each-published in
    let new : Outfit _ _ = record { links = each.new.links; dice = each.new.dice } in
    subst (λ back. AreLater g.L.Kms.link g.D.Dice.count outfits back)
    (sym (c.from_vec.ensures ∙ ap (λ os. set os 0 new) c.into_vec-outfits.ensures))
    (first_later g.L.Kms.link g.D.Dice.left g.D.Dice.count outfits first new
    c.requires.some is each.ensures.asked each.ensures.later)
