-- `left`: as many as there are places up to the end.
use Rattle.std.proofs.Common.{ap, length, sym, ◌∙◌}
use Rattle.kr_workload.proofs.Streaming.{rest_long}
use Rattle.kr_workload.proofs.stream.Stream.left.Goals as goal

pub returns : goal.returns
returns c = sym (rest_long c.self.inside.generator.key c.self.inside.place)
    ∙ ap length c.self.view_is
