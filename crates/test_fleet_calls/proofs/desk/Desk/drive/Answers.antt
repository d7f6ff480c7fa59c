-- `drive`: the call may be made, and what is kept holds behind it.
use Rattle.std.proofs.Common.{arith, ap, ◌∙◌, []}
use Rattle.std.specs.Prelude.{Result, Some}
use Rattle.kr_base.specs.InMemory.{InputState}
use Rattle.kr_provider.specs.Names.{names_of}
use Rattle.kr_history.specs.declared.call.CallNo.{CallNo}
use Rattle.kr_rewrite.specs.declared.outcome.Report.{Report}
use Rattle.test_fleet_calls.specs.Desks.{is_spent}
use Rattle.test_fleet_calls.proofs.Calling.{bench_asked, caller_after, drive_few, idle_at_end, links_serve}
use Rattle.test_fleet_calls.proofs.desk.Desk.drive.Goals as goal

pub drive-driven-requires-clause-links : goal.drive-driven-requires-clause-links
drive-driven-requires-clause-links g c = links_serve c.self.invariant

pub invariant_of-self : goal.invariant_of-self
invariant_of-self g c = let few = drive_few g.L.Kms.link
    (λ (d : InputState). Some d.bytes) (λ (d : InputState). d.calls.faults) c.args.replica
    c.args.after.now (g.A.Acts.caller c.self.inside.acts) c.self.inside.bench.links
    c.self.inside.bench.dice c.drive-driven.result
    (g.A.Acts.caller c.drive-driven.new.acts) c.drive-driven.new.bench.links
    c.drive-driven.new.bench.dice c.drive-driven.ensures.drives in (
      caller_after (g.A.Acts.caller c.self.inside.acts)
          (g.A.Acts.caller c.drive-driven.new.acts) c.self.inside.replicas c.self.inside.left
          c.self.inside.left few.0 0 [] c.self.inside.ended c.is_spent-self-inside.result
          c.self.invariant.0
          few.1 (omega arith)
          (idle_at_end c.drive-driven.result (g.A.Acts.caller c.drive-driven.new.acts)
          c.is_spent-self-inside.result c.drive-driven.ensures.idle
          (c.is_spent-self-inside.ensures ∙ ap
          (λ (x : Report × Result (Unit {0}) CallNo). is_spent x.1) c.parted-told.ensures)),
      bench_asked g.L.Kms.link (names_of g.L.Kms.link c.self.inside.bench.links) c.self.inside.bench
          c.drive-driven.new.bench
          c.self.invariant.1 c.drive-driven.ensures.asked c.drive-driven.ensures.pages,
    )
