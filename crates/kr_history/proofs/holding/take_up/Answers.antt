-- `take_up`: what was adopted is taken up.
use Rattle.std.proofs.Common.{refl}
use Rattle.kr_provider.specs.Names.{names_of}
use Rattle.kr_history.proofs.KeyMoments.{adopts_published}
use Rattle.kr_history.proofs.Nexts.{serves}
use Rattle.kr_history.proofs.holding.take_up.Goals as goal

pub returns-in-Err : goal.returns-in-Err
returns-in-Err g c = record {
  takes_up = (c.in-Err.ensures.adopts, refl);
  adds = c.in-Err.ensures.adds;
  honest = c.in-Err.ensures.honest;
  idle = c.in-Err.ensures.idle;
  place = c.in-Err.ensures.place;
}

pub adopt_configuration-requires-clause-links : goal.adopt_configuration-requires-clause-links
adopt_configuration-requires-clause-links g c = serves (g.A.Acts.caller c.args.acts.now).opening.names
    (names_of g.L.Kms.link c.args.bench.now.links) c.in-Ok.held.1.rows c.requires.links
    c.in-Ok.ensures.known.0.1

pub returns-clause-takes_up : goal.returns-clause-takes_up
returns-clause-takes_up g c =
    let b = c.adopt_configuration.ensures in record {
      number = c.in-Ok.held.0;
      p = c.in-Ok.held.1;
      adopts = c.in-Ok.ensures.adopts;
      holds = c.in-Ok.ensures.known.1;
      kept = b.taken;
      takes = adopts_published c.in-Ok.held.1 c.args.bench.now c.adopt_configuration.new.bench b.taken
          b.keys b.pages;
    }
