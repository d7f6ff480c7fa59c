-- `read`: its stages, one behind another.
use Rattle.std.proofs.Common.{◌≡◌, Err, [], ap, arith, inl, refl, subst, sym, ◌∙◌}
use Rattle.kr_base.specs.Rules.{IsPath}
use Rattle.kr_provider.proofs.AskedLists.{asked_none}
use Rattle.kr_base.specs.Walks.{Talk}
use Rattle.kr_base.proofs.Walks.{talk_none}
use Rattle.kr_provider.specs.AskedLinks.{Among, AskedOnly}
use Rattle.kr_provider.specs.KeyPages.{size_of}
use Rattle.kr_provider.specs.Names.{names_of}
use Rattle.kr_fleet.specs.CallExchanges.{IsReadBy}
use Rattle.kr_fleet.specs.ReadCalls.{IsRead}
use Rattle.kr_fleet.proofs.Finding.{reads_held}
use Rattle.kr_fleet.proofs.ReadTalks.{read_talk}
use Rattle.kr_history.proofs.PartsAdd.{held_within, nothing_within, within_more}
use Rattle.kr_provider.specs.BenchKeys.{adoption_of}
use Rattle.kr_history.proofs.KeyMoments.{held_turn, in_turn_same, untaken_turn}
use Rattle.kr_history.proofs.Meanwhile.{by_stages, holds_adopted, still_holds}
use Rattle.kr_fleet.proofs.Quiet.{finds_quietly}
use Rattle.kr_fleet.proofs.reading.read.Goals as goal

pub returns-in_default : goal.returns-in_default
returns-in_default g c =
    let turn = in_turn_same (g.A.Acts.caller c.args.acts.now) (adoption_of c.args.bench.now)
    c.requires.idle in
    record {
      reads = inl (inl refl, refl);
      exchanged = talk_none (Among g.L.Kms.step) _ c.args.bench.now.links
          (inl (inl refl, (refl, refl)));
      adds = nothing_within 3 0 [] (g.A.Acts.caller c.args.acts.now);
      honest = λ opens keeps. keeps;
      idle = c.requires.idle;
      asked = asked_none g.L.Kms.link (names_of g.L.Kms.link c.args.bench.now.links)
          c.args.bench.now.links;
      dice = refl;
      keys = turn.leaves;
      moments = turn.happens;
      pages = refl;
      place = refl;
    }

pub returns-in-Err-clause-reads : goal.returns-in-Err-clause-reads
returns-in-Err-clause-reads g c =
    inl (c.in-Err.ensures.takes_up.0, ap (λ b. b.links) c.in-Err.ensures.takes_up.1)

pub returns-in-Err-clause-exchanged : goal.returns-in-Err-clause-exchanged
returns-in-Err-clause-exchanged g c = subst
    (λ n. Talk (Among g.L.Kms.step) c.args.bench.now.links n.links (IsReadBy c.args.path.now
    c.args.replica (g.A.Acts.caller c.args.acts.now) c.args.bench.now.cache (Err c.in-Err.why)
    (g.A.Acts.caller c.take_up.new.acts) n.cache))
    (sym c.in-Err.ensures.takes_up.1)
    (talk_none (Among g.L.Kms.step) _ c.args.bench.now.links
    (inl (c.in-Err.ensures.takes_up.0, (refl, refl))))

pub returns-in-Err-clause-adds : goal.returns-in-Err-clause-adds
returns-in-Err-clause-adds g c = within_more 1 3 0 0 [] (g.A.Acts.caller c.args.acts.now)
    (g.A.Acts.caller c.take_up.new.acts) (omega arith) (omega arith) c.in-Err.ensures.adds

pub returns-in-Err-clause-asked : goal.returns-in-Err-clause-asked
returns-in-Err-clause-asked g c =
    let names = names_of g.L.Kms.link c.args.bench.now.links in
    subst (λ n. AskedOnly g.L.Kms.link names c.args.bench.now.links n.links)
    (sym c.in-Err.ensures.takes_up.1) (asked_none g.L.Kms.link names c.args.bench.now.links)

pub returns-in-Err-clause-keys : goal.returns-in-Err-clause-keys
returns-in-Err-clause-keys g c =
    (untaken_turn c.args.replica c.in-Err.why c.requires.idle c.in-Err.ensures.takes_up).leaves

pub returns-in-Err-clause-moments : goal.returns-in-Err-clause-moments
returns-in-Err-clause-moments g c =
    (untaken_turn c.args.replica c.in-Err.why c.requires.idle c.in-Err.ensures.takes_up).happens

pub find-found-requires-clause-held : goal.find-found-requires-clause-held
find-found-requires-clause-held g c = holds_adopted c.in-Ok-take_up.ensures.takes_up

pub hand_back-requires : goal.hand_back-requires
hand_back-requires g c = record {
  holds = still_holds c.in-Ok-take_up.ensures.takes_up (g.A.Acts.caller c.find-found.new.acts)
      c.find-found.ensures.holds;
}

pub find-found-requires-clause-path : goal.find-found-requires-clause-path
find-found-requires-clause-path g c = subst IsPath (sym c.in-Ok.ensures) c.requires.path

pub returns : goal.returns
returns g c =
    let t = c.in-Ok-take_up.ensures.takes_up in
    let back = c.hand_back.ensures in
    let stays = by_stages t c.find-found.new.bench c.hand_back.new.bench back.kept in
    let turn = held_turn t (finds_quietly t g.L.Kms.link c.in-Ok.copy
    (g.A.Acts.caller c.find-found.new.acts) c.find-found.new.bench.links c.find-found.result
    c.find-found.ensures.finds) (g.A.Acts.caller c.hand_back.new.acts) c.find-found.result
    c.hand_back.result c.find-found.new.bench c.hand_back.new.bench
    (ap adoption_of c.find-found.ensures.kept) back.cleared back.lets_go in
    record {
      reads = stays (λ x y. IsRead g.L.Kms.link c.args.path.now c.args.replica
          (g.A.Acts.caller c.args.acts.now) x.links c.hand_back.result
          (g.A.Acts.caller c.hand_back.new.acts) y.links)
          (reads_held t g.L.Kms.link c.args.path.now c.in-Ok.copy
          (g.A.Acts.caller c.find-found.new.acts) (g.A.Acts.caller c.hand_back.new.acts)
          c.find-found.new.bench.links c.find-found.result c.hand_back.result c.in-Ok.ensures
          c.find-found.ensures.finds back.lets_go);
      exchanged = stays (λ x y. Talk (Among g.L.Kms.step) x.links y.links (IsReadBy
          c.args.path.now c.args.replica (g.A.Acts.caller c.args.acts.now) x.cache
          c.hand_back.result (g.A.Acts.caller c.hand_back.new.acts) y.cache))
          (read_talk t (Among g.L.Kms.step) c.args.path.now c.in-Ok.copy
          (g.A.Acts.caller c.find-found.new.acts) (g.A.Acts.caller c.hand_back.new.acts)
          c.find-found.new.bench c.find-found.result c.hand_back.result c.in-Ok.ensures
          c.find-found.ensures.exchanged back.lets_go);
      adds = held_within 0 [] (g.A.Acts.caller c.args.acts.now)
          (g.A.Acts.caller c.take_up.new.acts) (g.A.Acts.caller c.find-found.new.acts)
          (g.A.Acts.caller c.hand_back.new.acts) c.in-Ok-take_up.ensures.adds
          c.find-found.ensures.adds back.adds;
      honest = λ opens keeps. back.honest opens
          (c.find-found.ensures.honest opens (c.in-Ok-take_up.ensures.honest opens keeps));
      idle = back.idle;
      asked = stays (λ x y. AskedOnly g.L.Kms.link (names_of g.L.Kms.link x.links) x.links y.links)
          c.find-found.ensures.asked;
      dice = stays (λ x y. y.dice ≡ x.dice) (ap (λ b. b.dice) c.find-found.ensures.kept);
      keys = turn.leaves;
      moments = turn.happens;
      pages = back.cleared.size ∙ ap (λ b. size_of b.pages) c.find-found.ensures.kept
          ∙ t.takes.size;
      place = back.place ∙ c.find-found.ensures.place ∙ c.in-Ok-take_up.ensures.place;
    }
