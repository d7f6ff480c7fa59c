-- `write`: its stages, one behind another.
use Rattle.std.proofs.Common.{◌≡◌, [], ◌∷◌, arith, ap, inl, refl, subst, sym, ◌∙◌, ◌≤◌}
use Rattle.kr_base.specs.Rules.{IsPath, IsResource}
use Rattle.kr_provider.specs.KeyPages.{size_of}
use Rattle.kr_fleet.specs.WriteCalls.{IsWrite}
use Rattle.kr_fleet.proofs.Putting.{writes_held}
use Rattle.kr_rollout.specs.declared.line.Did.TheVariants.{Put}
use Rattle.kr_history.specs.Parts.{AddsWithin}
use Rattle.kr_history.proofs.PartsAdd.{held_within, nothing_within, within_more}
use Rattle.kr_provider.specs.BenchKeys.{adoption_of}
use Rattle.kr_history.proofs.KeyMoments.{held_turn, in_turn_same, untaken_turn}
use Rattle.kr_history.proofs.Meanwhile.{by_stages, holds_adopted, still_holds}
use Rattle.kr_fleet.proofs.Quiet.{puts_quietly}
use Rattle.kr_fleet.proofs.writing.write.Goals as goal

pub returns-in-Err-clause-writes : goal.returns-in-Err-clause-writes
returns-in-Err-clause-writes g c =
    inl (c.in-Err.ensures.takes_up.0, ap (λ b. b.dice) c.in-Err.ensures.takes_up.1)

pub returns-in-Err-clause-keys : goal.returns-in-Err-clause-keys
returns-in-Err-clause-keys g c =
    (untaken_turn c.args.replica c.in-Err.why c.requires.idle c.in-Err.ensures.takes_up).leaves

pub returns-in-Err-clause-moments : goal.returns-in-Err-clause-moments
returns-in-Err-clause-moments g c =
    (untaken_turn c.args.replica c.in-Err.why c.requires.idle c.in-Err.ensures.takes_up).happens

pub put-written-requires-clause-held : goal.put-written-requires-clause-held
put-written-requires-clause-held g c = holds_adopted c.in-Ok-take_up.ensures.takes_up

pub hand_back-requires : goal.hand_back-requires
hand_back-requires g c = record {
  holds = still_holds c.in-Ok-take_up.ensures.takes_up (g.A.Acts.caller c.put-written.new.acts)
      c.put-written.ensures.holds;
}

pub put-written-requires-clause-path : goal.put-written-requires-clause-path
put-written-requires-clause-path g c =
    subst IsPath (sym c.in-Ok-copy.ensures) c.requires.path

pub put-written-requires-clause-resource : goal.put-written-requires-clause-resource
put-written-requires-clause-resource g c =
    subst IsResource (sym c.in-Ok.ensures) c.requires.resource

pub returns-in-Err-clause-adds : goal.returns-in-Err-clause-adds
returns-in-Err-clause-adds g c = within_more 1 3 0 0
    (Put c.args.path.now c.args.resource.now c.args.plain ∷ [])
    (g.A.Acts.caller c.args.acts.now) (g.A.Acts.caller c.take_up.new.acts) (omega arith) (omega arith)
    c.in-Err.ensures.adds

pub returns : goal.returns
returns g c =
    let t = c.in-Ok-take_up.ensures.takes_up in
    let back = c.hand_back.ensures in
    let stays = by_stages t c.put-written.new.bench c.hand_back.new.bench back.kept in
    let turn = held_turn t (puts_quietly t g.D.Dice.left g.D.Dice.count c.in-Ok.resource
    c.in-Ok-copy.path c.args.plain (g.A.Acts.caller c.put-written.new.acts)
    c.put-written.new.bench.dice c.put-written.result c.put-written.ensures.puts)
    (g.A.Acts.caller c.hand_back.new.acts) c.put-written.result c.hand_back.result
    c.put-written.new.bench c.hand_back.new.bench (ap adoption_of c.put-written.ensures.kept)
    back.cleared back.lets_go in
    record {
      writes = stays (λ x y. IsWrite g.D.Dice.left g.D.Dice.count c.args.resource.now
          c.args.path.now c.args.plain c.args.replica (g.A.Acts.caller c.args.acts.now) x.dice
          c.hand_back.result (g.A.Acts.caller c.hand_back.new.acts) y.dice)
          (writes_held t g.D.Dice.left g.D.Dice.count c.args.resource.now c.args.path.now
          c.in-Ok.resource c.in-Ok-copy.path c.args.plain (g.A.Acts.caller c.put-written.new.acts)
          (g.A.Acts.caller c.hand_back.new.acts) c.put-written.new.bench.dice c.put-written.result
          c.hand_back.result c.in-Ok.ensures c.in-Ok-copy.ensures c.put-written.ensures.puts
          back.lets_go);
      adds =
          let adopted = g.A.Acts.caller c.take_up.new.acts in
          let acted = g.A.Acts.caller c.put-written.new.acts in
          held_within 0 (Put c.args.path.now c.args.resource.now c.args.plain ∷ [])
          (g.A.Acts.caller c.args.acts.now) adopted acted (g.A.Acts.caller c.hand_back.new.acts)
          c.in-Ok-take_up.ensures.adds
          (subst (λ p. AddsWithin 1 0 (Put p c.args.resource.now c.args.plain ∷ []) adopted acted)
          c.in-Ok-copy.ensures
          (subst (λ r. AddsWithin 1 0 (Put c.in-Ok-copy.path r c.args.plain ∷ []) adopted acted)
          c.in-Ok.ensures c.put-written.ensures.adds))
          back.adds;
      honest = λ opens keeps. back.honest opens
          (c.put-written.ensures.honest opens (c.in-Ok-take_up.ensures.honest opens keeps));
      idle = back.idle;
      links = stays (λ x y. y.links ≡ x.links) (ap (λ b. b.links) c.put-written.ensures.kept);
      cache = stays (λ x y. y.cache ≡ x.cache) (ap (λ b. b.cache) c.put-written.ensures.kept);
      later = stays (λ x y. g.D.Dice.count x.dice ≤ g.D.Dice.count y.dice)
          c.put-written.ensures.later;
      keys = turn.leaves;
      moments = turn.happens;
      pages = back.cleared.size ∙ ap (λ b. size_of b.pages) c.put-written.ensures.kept
          ∙ t.takes.size;
      place = back.place ∙ c.put-written.ensures.place ∙ c.in-Ok-take_up.ensures.place;
    }

-- where nothing was taken up the bench is as it was
pub returns-in-Err-clause-links : goal.returns-in-Err-clause-links
returns-in-Err-clause-links g c = ap (λ b. b.links) c.in-Err.ensures.takes_up.1

pub returns-in-Err-clause-cache : goal.returns-in-Err-clause-cache
returns-in-Err-clause-cache g c = ap (λ b. b.cache) c.in-Err.ensures.takes_up.1

pub returns-in-Err-clause-pages : goal.returns-in-Err-clause-pages
returns-in-Err-clause-pages g c = ap (λ b. size_of b.pages) c.in-Err.ensures.takes_up.1

pub returns-in-Err-clause-later : goal.returns-in-Err-clause-later
returns-in-Err-clause-later g c =
    subst (λ b. g.D.Dice.count c.args.bench.now.dice ≤ g.D.Dice.count b.dice)
    (sym c.in-Err.ensures.takes_up.1) (omega arith)

pub returns-in-Err-clause-honest : goal.returns-in-Err-clause-honest
returns-in-Err-clause-honest g c = c.take_up.ensures.honest

pub returns-in-Err-clause-place : goal.returns-in-Err-clause-place
returns-in-Err-clause-place g c = c.take_up.ensures.place

pub returns-in_default : goal.returns-in_default
returns-in_default g c =
    let caller = g.A.Acts.caller c.args.acts.now in
    let turn = in_turn_same caller (adoption_of c.args.bench.now) c.requires.idle in
    record {
      writes = inl (inl refl, refl);
      adds = nothing_within 3 0 (Put c.args.path.now c.args.resource.now c.args.plain ∷ []) caller;
      honest = λ opens keeps. keeps;
      idle = c.requires.idle;
      links = refl;
      cache = refl;
      later = omega arith;
      keys = turn.leaves;
      moments = turn.happens;
      pages = refl;
      place = refl;
    }

pub returns-in_default-copy : goal.returns-in_default-copy
returns-in_default-copy g c =
    let caller = g.A.Acts.caller c.args.acts.now in
    let turn = in_turn_same caller (adoption_of c.args.bench.now) c.requires.idle in
    record {
      place = refl;
      pages = refl;
      moments = turn.happens;
      keys = turn.leaves;
      later = omega arith;
      cache = refl;
      links = refl;
      idle = c.requires.idle;
      honest = λ opens keeps. keeps;
      adds = nothing_within 3 0 (Put c.args.path.now c.args.resource.now c.args.plain ∷ []) caller;
      writes = inl (inl refl, refl);
    }
