-- `rewrite_next`: its stages, one behind another.
use Rattle.std.proofs.Common.{◌⊎◌, ◌≡◌, ◌≤◌, ℕ, Err, List, [], ap, arith, inl, refl, subst, sym, ◌∙◌}
use Rattle.kr_base.specs.Rules.{IsPath}
use Rattle.kr_base.proofs.Walks.{talk_none}
use Rattle.kr_base.specs.Walks.{Talk}
use Rattle.kr_provider.proofs.AskedLists.{asked_none}
use Rattle.kr_provider.specs.AskedLinks.{Among, AskedOnly}
use Rattle.kr_provider.specs.KeyPages.{size_of}
use Rattle.kr_provider.specs.Names.{names_of}
use Rattle.kr_history.specs.declared.call.CallNo.TheVariants as refusal
use Rattle.kr_history.proofs.PartsAdd.{nothing_within, within_behind, within_more}
use Rattle.kr_rewrite.proofs.RowTalks.{step_talked}
use Rattle.kr_rewrite.proofs.Rewriting.{let_go_to, step_held}
use Rattle.kr_rewrite.specs.DriveExchanges.{IsStepBy}
use Rattle.kr_rewrite.specs.Rewrites.{IsStep, Steps, UnsealsRow}
use Rattle.kr_provider.specs.BenchKeys.{adoption_of}
use Rattle.kr_history.proofs.KeyMoments.{held_turn, in_turn_same, untaken_turn}
use Rattle.kr_history.proofs.Meanwhile.{by_stages, holds_adopted, of_taken, still_holds}
use Rattle.kr_rewrite.proofs.Quiet.{steps_quietly}
use Rattle.kr_rewrite.proofs.step.rewrite_next.Goals as goal

pub returns-in_default : goal.returns-in_default
returns-in_default g c =
    let old = g.A.Acts.caller c.args.acts.now in
    let b = c.args.bench.now in
    let turn = in_turn_same old (adoption_of b) c.requires.idle in
    record {
      steps = inl (inl refl, (refl, refl));
      exchanged = talk_none (Among g.L.Kms.step) (IsStepBy g.D.Dice.left g.D.Dice.count
          c.args.replica c.args.after.now old b.cache b.dice (Err refusal.NoMemory) old b.cache
          b.dice) b.links (inl (inl refl, (refl, refl)));
      path = tt;
      adds = nothing_within 4 0 [] old;
      idle = c.requires.idle;
      asked = asked_none g.L.Kms.link (names_of g.L.Kms.link b.links) b.links;
      later = omega arith;
      pages = refl;
      keys = turn.leaves;
      moments = turn.happens;
      place = refl;
    }

pub returns-in-Err-clause-steps : goal.returns-in-Err-clause-steps
returns-in-Err-clause-steps g c =
    let same = c.in-Err.ensures.takes_up.1 in
    inl (c.in-Err.ensures.takes_up.0, (ap (λ x. x.links) same, ap (λ x. x.dice) same))

pub returns-in-Err-clause-adds : goal.returns-in-Err-clause-adds
returns-in-Err-clause-adds g c = within_more 1 4 0 0 [] (g.A.Acts.caller c.args.acts.now)
    (g.A.Acts.caller c.take_up.new.acts) (omega arith) (omega arith) c.in-Err.ensures.adds

pub returns-in-Err-clause-asked : goal.returns-in-Err-clause-asked
returns-in-Err-clause-asked g c =
    let links = c.args.bench.now.links in
    let names = names_of g.L.Kms.link links in
    subst (λ x. AskedOnly g.L.Kms.link names links x.links) (sym c.in-Err.ensures.takes_up.1)
    (asked_none g.L.Kms.link names links)

pub returns-in-Err-clause-later : goal.returns-in-Err-clause-later
returns-in-Err-clause-later g c =
    subst (λ x. g.D.Dice.count c.args.bench.now.dice ≤ g.D.Dice.count x.dice)
    (sym c.in-Err.ensures.takes_up.1) (omega arith)

pub returns-in-Err-clause-exchanged : goal.returns-in-Err-clause-exchanged
returns-in-Err-clause-exchanged g c =
    let old = g.A.Acts.caller c.args.acts.now in
    let new = g.A.Acts.caller c.take_up.new.acts in
    let b = c.args.bench.now in
    subst (λ x. Talk (Among g.L.Kms.step) b.links x.links (IsStepBy g.D.Dice.left g.D.Dice.count
    c.args.replica c.args.after.now old b.cache b.dice (Err c.in-Err.why) new x.cache x.dice))
    (sym c.in-Err.ensures.takes_up.1)
    (talk_none (Among g.L.Kms.step) (IsStepBy g.D.Dice.left g.D.Dice.count c.args.replica
    c.args.after.now old b.cache b.dice (Err c.in-Err.why) new b.cache b.dice) b.links
    (inl (c.in-Err.ensures.takes_up.0, (refl, refl))))

pub returns-in-Err-clause-keys : goal.returns-in-Err-clause-keys
returns-in-Err-clause-keys g c =
    (untaken_turn c.args.replica c.in-Err.why c.requires.idle c.in-Err.ensures.takes_up).leaves

pub returns-in-Err-clause-moments : goal.returns-in-Err-clause-moments
returns-in-Err-clause-moments g c =
    (untaken_turn c.args.replica c.in-Err.why c.requires.idle c.in-Err.ensures.takes_up).happens

pub step-done-requires-clause-held : goal.step-done-requires-clause-held
step-done-requires-clause-held g c = holds_adopted c.in-Ok-take_up.ensures.takes_up

pub hand_back-requires : goal.hand_back-requires
hand_back-requires g c = record {
  holds = still_holds c.in-Ok-take_up.ensures.takes_up (g.A.Acts.caller c.step-done.new.acts)
      c.step-done.ensures.holds;
}

pub step-done-requires-clause-path : goal.step-done-requires-clause-path
step-done-requires-clause-path g c =
    subst (λ (q : List ℕ). (q ≡ []) ⊎ IsPath q) (sym c.in-Ok.ensures) c.requires.path

pub returns : goal.returns
returns g c =
    let t = c.in-Ok-take_up.ensures.takes_up in
    let back = c.hand_back.ensures in
    let done = c.step-done.ensures in
    let old = g.A.Acts.caller c.args.acts.now in
    let adopted = g.A.Acts.caller c.take_up.new.acts in
    let acted = g.A.Acts.caller c.step-done.new.acts in
    let new = g.A.Acts.caller c.hand_back.new.acts in
    let x = c.take_up.new.bench in
    let y = c.step-done.new.bench in
    let stays = by_stages t y c.hand_back.new.bench back.kept in
    let turn = held_turn t (steps_quietly t g.L.Kms.link g.D.Dice.left g.D.Dice.count c.in-Ok.copy
    acted y c.step-done.result done.steps) new c.step-done.result c.hand_back.result y
    c.hand_back.new.bench (ap adoption_of done.kept) back.cleared back.lets_go in
    record {
      steps = stays (λ x y. IsStep g.L.Kms.link g.D.Dice.left g.D.Dice.count c.args.replica
          c.args.after.now old x.links x.dice c.hand_back.result new y.links y.dice)
          (step_held (UnsealsRow g.L.Kms.link) g.D.Dice.left g.D.Dice.count c.args.after.now
          c.in-Ok.copy c.args.replica old adopted acted new x.links y.links x.dice y.dice
          (t.number, t.p) c.step-done.result c.hand_back.result c.in-Ok.ensures t.adopts
          (of_taken t (λ p. Steps g.L.Kms.link g.D.Dice.left g.D.Dice.count p c.in-Ok.copy adopted
          x.links x.dice c.step-done.result acted y.links y.dice) done.steps) back.lets_go);
      exchanged = stays (λ x y. Talk (Among g.L.Kms.step) x.links y.links (IsStepBy g.D.Dice.left
          g.D.Dice.count c.args.replica c.args.after.now old x.cache x.dice c.hand_back.result new
          y.cache y.dice))
          (step_talked t (Among g.L.Kms.step) g.D.Dice.left g.D.Dice.count c.args.after.now
          c.in-Ok.copy acted new y c.step-done.result c.hand_back.result c.in-Ok.ensures
          done.exchanged back.lets_go);
      path = let_go_to acted new c.step-done.result c.hand_back.result back.lets_go done.path;
      adds = within_behind 3 1 0 0 [] old acted new (within_behind 1 2 0 0 [] old adopted acted
          c.in-Ok-take_up.ensures.adds done.adds) back.adds;
      idle = back.idle;
      asked = stays (λ x y. AskedOnly g.L.Kms.link (names_of g.L.Kms.link x.links) x.links y.links)
          done.asked;
      later = stays (λ x y. g.D.Dice.count x.dice ≤ g.D.Dice.count y.dice) done.later;
      pages = back.cleared.size ∙ ap (λ b. size_of b.pages) done.kept ∙ t.takes.size;
      keys = turn.leaves;
      moments = turn.happens;
      place = back.place ∙ done.place ∙ c.in-Ok-take_up.ensures.place;
    }
