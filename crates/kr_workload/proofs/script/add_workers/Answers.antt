-- `add_workers`: one more.
use Rattle.std.proofs.Common.{◌≡◌, ◌+◌, ◌*◌, [], ◌∷◌, map, ap, ◌∙◌, arith}
use Rattle.std.proofs.lemmas.List.{map-append}
use Rattle.kr_script.specs.Fleets.{worker_of}
use Rattle.kr_workload.specs.Loads.{load_worker}
use Rattle.kr_workload.proofs.Filling.{one_more}
use Rattle.kr_workload.proofs.script.add_workers.Goals as goal

pub loop-worker-preserved : goal.loop-worker-preserved
loop-worker-preserved c =
    let size = c.args.size in
    let worker = c.loop-worker.worker in
    let so = c.loop-worker.invariant.1 in
    let passed : 2 + worker * size + size ≡ 2 + (worker + 1) * size = omega arith in (
      one_more (load_worker c.args.pieces.now.0 size) worker (map worker_of c.args.workers.now.0)
          (map worker_of c.loop-worker.workers.0) (map worker_of c.add.new.list.0)
          (worker_of c.in_ok-part.part) c.loop-worker.invariant.0
          (ap (map worker_of) c.in_ok-add.ensures
          ∙ map-append worker_of c.loop-worker.workers.0 (c.in_ok-part.part ∷ []))
          (c.in_ok-part.ensures.part ∙ (λ i. load_worker (so i).0 size worker)),
      c.in_ok-part.ensures.passed ∙ (λ i. ((so i).0, (so i).1 + size))
          ∙ (λ i. (c.args.pieces.now.0, passed i)),
    )
