-- What the loop of `write_worker` keeps.
use Rattle.std.proofs.Common.{◌≡◌, ◌+◌, drop}
use Rattle.kr_script.specs.Output.{told_texts, lines_text}
use Rattle.kr_script.proofs.Spoken.{Spoke}
use Rattle.kr_script.proofs.fleet_output.write_worker.Given as goal

abbrev pub invariant-loop-reply : goal.invariant-loop-reply
invariant-loop-reply g l = Spoke (g.K.Sink.held l.initial.sink) (g.K.Sink.held l.sink)
    (lines_text (told_texts l.worker 1 l.replies))
    (lines_text (told_texts l.worker l.number (drop l.reply-index l.replies)))
    (g.K.Sink.count l.initial.sink) (g.K.Sink.count l.sink) × (l.number ≡ l.reply-index + 1)
