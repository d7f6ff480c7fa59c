-- What the tactic leaves open of `write_replica`.
use Rattle.std.proofs.Common.{codes}
use Rattle.std.specs.String.{string_bytes}
use Rattle.test_script.specs.FleetText.{names_text}
use Rattle.test_script.proofs.Loops.{joined}
use Rattle.test_script.proofs.writing.write_replica.Goals as goal

pub returns : goal.returns
returns c = joined c.push_str-2.result (string_bytes c.args.out.now) (codes "replica")
    (names_text c.args.replica.now.0 c.args.replica.now.1) (codes ";")
    (string_bytes c.push_str.new.self) (string_bytes c.write_names.new.out)
    (string_bytes c.push_str-2.new.self) c.in_ok-push_str.ensures.bytes
    c.in_ok-write_names.ensures c.push_str-2.ensures.bytes
