-- `load_files`: the replicas' files, then the lines'.
use Rattle.std.proofs.Common.{Err, Ok, ap, subst, ◌∙◌}
use Rattle.std.specs.List.{flat_map}
use Rattle.kr_script.specs.Fleets.{Worker, worker_of}
use Rattle.kr_script.specs.declared.script.Part.{Part}
use Rattle.std.proofs.Common.{map}
use Rattle.kr_cmd_fleet.specs.FleetFiles.{file_in, file_of_replica}
use Rattle.kr_cmd_fleet.specs.inner.Plans.{GoesThrough, named}
use Rattle.kr_cmd_fleet.proofs.FleetLoads.{lines_mentioned, through_cut, through_then}
use Rattle.kr_cmd_fleet.proofs.fleet_file.load_files.Goals as goal

pub returns-in-Err : goal.returns-in-Err
returns-in-Err g c =
    let old = g.W.World.told c.args.world.now in
    let new = g.W.World.told c.load_replicas.new.world in
    let f = named c.args.files.now.0 in
    let h = named c.load_replicas.new.files.0 in
    through_cut f h h (flat_map file_of_replica c.args.script.now.replicas.0) old new
    c.in-Err.stop (flat_map (λ (w : Worker). flat_map file_in w.lines)
    (map worker_of c.args.script.now.workers.0))
    (subst (λ rs. GoesThrough f h (flat_map file_of_replica rs) old new (Err c.in-Err.stop))
    c.as_slice.ensures c.in-Err.ensures)

pub returns : goal.returns
returns g c =
    let old = g.W.World.told c.args.world.now in
    let mid = g.W.World.told c.load_replicas.new.world in
    let new = g.W.World.told c.load_parts.new.world in
    let f = named c.args.files.now.0 in
    let h = named c.load_replicas.new.files.0 in
    let k = named c.load_parts.new.files.0 in
    let parts = c.args.script.now.workers.0 in
    through_then f h k (flat_map file_of_replica c.args.script.now.replicas.0)
    (flat_map (λ (w : Worker). flat_map file_in w.lines) (map worker_of parts)) old mid new
    (subst (λ rs. GoesThrough f h (flat_map file_of_replica rs) old mid (Ok tt))
    c.as_slice.ensures c.in-Ok.ensures) c.load_parts.result
    (subst (λ l. GoesThrough h k l mid new c.load_parts.result)
    (ap (flat_map (λ (part : Part). flat_map file_in part.lines.0)) c.as_slice-2.ensures
    ∙ lines_mentioned parts) c.load_parts.ensures)
