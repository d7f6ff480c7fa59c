-- `start`: no name of a plugin is needed.
use Rattle.std.proofs.Common.{refl, subst, sym}
use Rattle.kr_rollout.specs.Openings.{AreAmong, opening_by}
use Rattle.test_rollout.proofs.Starting.{bare_among, new_core}
use Rattle.test_rollout.proofs.terms.Terms.start.Goals as goal

pub start-requires-clause-names : goal.start-requires-clause-names
start-requires-clause-names c = subst (λ names. AreAmong names c.args.self.replicas.0)
    (sym c.new.ensures) (bare_among c.args.self.replicas.0 c.requires.2)

pub returns : goal.returns
returns c = new_core (opening_by c.args.store c.args.self.replicas.0 c.new.result.0
    c.as_slice-2.result.now) c.args.self.room c.args.self.replicas.0 c.args.self.reloads.items
    c.start.result refl c.as_slice-2.ensures.value c.start.ensures.starts
