-- `load_replica`: the file of a replica that is in.
use Rattle.std.proofs.Common.{◌≡◌, ◌∷◌, [], ap, false, subst, sym, ◌∙◌}
use Rattle.std.specs.Prelude.{if◌then◌else◌}
use Rattle.std.specs.Str.{bytes_eq}
use Rattle.kr_cmd_fleet.specs.FleetFiles.{no_file}
use Rattle.kr_cmd_fleet.specs.inner.Plans.{GoesThrough, named}
use Rattle.kr_cmd_fleet.proofs.fleet_file.load_replica.Goals as goal

pub returns : goal.returns
returns g c =
    let done = c.load_once in
    let old = g.W.World.told c.args.world.now in
    let new = g.W.World.told done.new.world in
    let f = named c.args.files.now.0 in
    let h = named done.new.files.0 in
    let file = c.args.replica.now.1 in
    let other : bytes_eq file no_file ≡ false =
    ap (λ n. bytes_eq n no_file) (sym c.as_str-file.ensures) ∙ sym c.eq.ensures
    ∙ c.if-eq.false in
    subst (λ b. GoesThrough f h (if b then [] else file ∷ []) old new done.result) (sym other)
    (subst (λ n. GoesThrough f h (n ∷ []) old new done.result) c.as_str-file.ensures
    done.ensures)
