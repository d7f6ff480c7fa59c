-- `hire_worker`: one more caller is ready.
use Rattle.std.proofs.Common.{◌∷◌, ◌++◌, []}
use Rattle.std.specs.Prelude.{IfSome}
use Rattle.std.proofs.lemmas.List.Elements.{All-push, All-same}
use Rattle.test_fleet_threads.specs.Ready.{MayRead}
use Rattle.test_fleet_threads.proofs.tests.readers.hire_worker.Goals as goal

pub returns-in-Some-clause-ready : goal.returns-in-Some-clause-ready
returns-in-Some-clause-ready g c = All-same
    (λ reader. IfSome reader.seat (MayRead g.L.Kms.link c.args.fleet.now reader.bench))
    c.push_in_room.new.self.0 (c.args.readers.now.0 ++ c.in-Some.reader ∷ [])
    c.push_in_room.ensures.items
    (All-push (λ reader. IfSome reader.seat (MayRead g.L.Kms.link c.args.fleet.now reader.bench))
    c.args.readers.now.0 c.in-Some.reader c.requires.ready c.in-Some.ensures.ready)
