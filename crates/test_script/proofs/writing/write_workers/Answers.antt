-- What the tactic leaves open of `write_workers`.
use Rattle.std.proofs.Common.{◌++◌, ◌∙◌, ap}
use Rattle.std.specs.String.{string_bytes}
use Rattle.kr_script.specs.declared.script.Part.{Part}
use Rattle.kr_script.specs.Fleets.{worker_of}
use Rattle.test_script.specs.FleetText.{worker_text}
use Rattle.test_script.proofs.Loops.{texts_end, mapped}
use Rattle.test_script.proofs.writing.write_workers.Goals as goal

pub returns : goal.returns
returns c = texts_end (λ (worker : Part). worker_text (worker_of worker)) c.args.workers.now
    c.loop-worker.worker-index (string_bytes c.args.out.now) (string_bytes c.loop-worker.out)
    c.loop-worker.invariant c.loop-worker-test.false
    ∙ ap (λ l. string_bytes c.args.out.now ++ l) (mapped worker_text worker_of c.args.workers.now)
