-- What the loop of `write_replies` keeps.
use Rattle.std.proofs.Common.{drop, map}
use Rattle.kr_script.specs.Fleets.{worker_of}
use Rattle.kr_script.specs.Output.{all_texts, lines_text}
use Rattle.kr_script.proofs.Spoken.{Spoke}
use Rattle.kr_script.proofs.fleet_output.write_replies.Given as goal

abbrev pub invariant-loop-place : goal.invariant-loop-place
invariant-loop-place g l = Spoke (g.K.Sink.held l.initial.sink) (g.K.Sink.held l.sink)
    (lines_text (all_texts 0 l.replies (map worker_of l.workers)))
    (lines_text (all_texts l.place l.replies (map worker_of (drop l.place l.workers))))
    (g.K.Sink.count l.initial.sink) (g.K.Sink.count l.sink)
