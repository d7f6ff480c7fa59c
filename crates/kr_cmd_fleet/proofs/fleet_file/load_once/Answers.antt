-- `load_once`: it is there already, or is loaded and kept.
use Rattle.std.proofs.Common.{◌≡◌, ◌∷◌, [], Err, None, Ok, ap, subst, sym, ◌∙◌}
use Rattle.kr_config.specs.Kept.{rows_of}
use Rattle.kr_config.specs.declared.settings.Settings.{Settings}
use Rattle.kr_workers.specs.Files as workers
use Rattle.kr_workers.specs.declared.files.SettingsFile.{SettingsFile}
use Rattle.kr_cmd_messages.specs.declared.refusal.Stop.TheVariants.{NoMemory}
use Rattle.kr_cmd_fleet.specs.FleetFiles.{file_entries}
use Rattle.kr_cmd_fleet.specs.inner.Plans.{GoesThrough, named}
use Rattle.kr_cmd_fleet.proofs.FleetLoads.{already, loaded, named_more, not_kept, not_loaded, same_rows}
use Rattle.kr_cmd_fleet.proofs.fleet_file.load_once.Given.{Over}
use Rattle.kr_cmd_fleet.proofs.fleet_file.load_once.Goals.{After-load_settings, In-Ok}
use Rattle.kr_cmd_fleet.proofs.fleet_file.load_once.Goals as goal

absent : (g : Over) (c : After-load_settings g)
    → file_entries (named c.args.files.now.0) c.args.name.now ≡ None
absent g c =
    let name = c.args.name.now in
    same_rows c.args.files.now.0 name
    ∙ ap (λ fs. workers.rows_at fs name) (sym c.as_slice.ensures) ∙ sym c.in-None.ensures

-- it was loaded, but there was no memory to keep it
unkept : (g : Over) (c : In-Ok g) → file_entries (named c.args.files.now.0) c.args.name.now ≡ None
    → GoesThrough (named c.args.files.now.0) (named c.args.files.now.0) (c.args.name.now ∷ [])
    (g.W.World.told c.args.world.now) (g.W.World.told c.load_settings.new.world) (Err NoMemory)
unkept g c none =
    let files = named c.args.files.now.0 in
    not_kept files c.args.name.now c.in-Ok.ensures.files c.in-Ok.ensures.objects none files
    c.in-Ok.settings c.in-Ok.ensures.settings c.in-Ok.ensures.asked

pub returns-in_default : goal.returns-in_default
returns-in_default g c =
    let files = c.args.files.now.0 in
    let name = c.args.name.now in
    already (named files) name (g.W.World.told c.args.world.now)
    (rows_of c.in_default.field-0.now.entries.0)
    (same_rows files name ∙ ap (λ fs. workers.rows_at fs name) (sym c.as_slice.ensures)
    ∙ sym c.in_default.ensures)

pub returns-in-Err : goal.returns-in-Err
returns-in-Err g c =
    let files = named c.args.files.now.0 in
    not_loaded files c.args.name.now c.in-Err.ensures.files c.in-Err.ensures.objects
    (absent g (goal.at.returns-in-Err g c).After-load_settings) files c.in-Err.stop
    c.in-Err.ensures.settings c.in-Err.ensures.asked

pub returns-in-Err-copy : goal.returns-in-Err-copy
returns-in-Err-copy g c = let here = goal.at.returns-in-Err-copy g c in
    unkept g here.In-Ok (absent g here.After-load_settings)

pub returns-in-Err-new : goal.returns-in-Err-new
returns-in-Err-new g c = let here = goal.at.returns-in-Err-new g c in
    unkept g here.In-Ok (absent g here.After-load_settings)

pub returns-in-Err-push : goal.returns-in-Err-push
returns-in-Err-push g c = let here = goal.at.returns-in-Err-push g c in
    unkept g here.In-Ok (absent g here.After-load_settings)

pub returns : goal.returns
returns g c =
    let name = c.args.name.now in
    let files = c.args.files.now.0 in
    let kept : SettingsFile = record {
      name = c.in-Ok-copy.name;
      settings = c.in-Ok-new.settings;
    } in
    let rows = rows_of c.in-Ok.settings.entries.0 in
    let more = named_more files c.push.new.self.0 kept name rows c.in-Ok-push.ensures.ok
    c.in-Ok-copy.ensures
    (ap (λ (s : Settings). rows_of s.entries.0) c.in-Ok-new.ensures.ok) in
    subst (λ fs. GoesThrough (named files) fs (name ∷ []) (g.W.World.told c.args.world.now)
    (g.W.World.told c.load_settings.new.world) (Ok tt)) (sym more)
    (loaded (named files) name c.in-Ok.ensures.files c.in-Ok.ensures.objects
    (absent g (goal.at.returns g c).After-load_settings)
    c.in-Ok.settings c.in-Ok.ensures.settings c.in-Ok.ensures.asked)
