-- `load_line`: the file of a line that names one.
use Rattle.std.proofs.Common.{◌∷◌, [], subst, sym}
use Rattle.kr_cmd_fleet.specs.FleetFiles.{file_in}
use Rattle.kr_cmd_fleet.specs.inner.Plans.{GoesThrough, named}
use Rattle.kr_cmd_fleet.proofs.fleet_file.load_line.Goals as goal

pub returns-in-Reload : goal.returns-in-Reload
returns-in-Reload g c =
    let done = c.load_once in
    let old = g.W.World.told c.args.world.now in
    let new = g.W.World.told done.new.world in
    let f = named c.args.files.now.0 in
    let h = named done.new.files.0 in
    subst (λ l. GoesThrough f h (file_in l) old new done.result) (sym c.in-Reload.is)
    (subst (λ n. GoesThrough f h (n ∷ []) old new done.result) c.as_str.ensures done.ensures)

pub returns-in-Join : goal.returns-in-Join
returns-in-Join g c =
    let done = c.load_once-in-Join in
    let old = g.W.World.told c.args.world.now in
    let new = g.W.World.told done.new.world in
    let f = named c.args.files.now.0 in
    let h = named done.new.files.0 in
    subst (λ l. GoesThrough f h (file_in l) old new done.result) (sym c.in-Join.is)
    (subst (λ n. GoesThrough f h (n ∷ []) old new done.result) c.as_str-in-Join.ensures
    done.ensures)
