-- What the world of the system tells.
use Rattle.std.specs.Prelude.{ℕ, List, slice_index_or, Option, None}
use Rattle.kr_kms.specs.MemWorld.{ShelfState, objects_by}
use Rattle.kr_kms.specs.Outside.{Objects, Outside, same_name, same_link}
use Rattle.kr_kms.specs.declared.file_faults.FileFaults.{FileFaults}
use Rattle.kr_kms.specs.declared.plugin.Status.{Status}
use Rattle.kr_edge.specs.declared.real_world.RealWorld.{RealWorld}

-- the counts of tapes that came back, by their names, and the names of those that are out
abbrev pub TapeCounts : Type 0
TapeCounts = ShelfState (List ℕ) (List ℕ × ℕ)

-- those of links, by seat and plugin
abbrev pub LinkCounts : Type 0
LinkCounts = ShelfState (ℕ × List ℕ) ((ℕ × List ℕ) × ℕ)

abbrev pub shelf_key : {K : Type 0} → K × ℕ → K
shelf_key entry = entry.0

abbrev pub count_of : {K : Type 0} → K × ℕ → ℕ
count_of entry = entry.1

-- what the counts of links tell
abbrev pub counted_links : LinkCounts → Objects (ℕ × List ℕ) (Option Status)
counted_links links = objects_by same_link shelf_key (λ first. None) count_of links

-- its files, where they are told; its counts, those of a seat by its number. It doesn't tell what
-- it was asked for and what it handed out, nor what its tapes hold and its plugins say
abbrev pub real_world : (file : List ℕ → Option (Option (List ℕ))) → (faults : FileFaults)
    → (dice_faults dice_out : List ℕ) → (tapes : TapeCounts) → (links : LinkCounts) → Outside
real_world file faults dice_faults dice_out tapes links = record {
  file = file;
  asked = None;
  faults = faults;
  dice = record {
    told = λ seat. None;
    faults = λ seat. slice_index_or dice_faults seat 0;
    out = λ seat. slice_index_or dice_out seat 0;
    handed = None;
  };
  tapes = objects_by same_name shelf_key (λ first. None) count_of tapes;
  links = counted_links links;
}

-- what such a world tells, whose system tells these files
abbrev pub seen : {S : Type 0} → (S → List ℕ → Option (Option (List ℕ))) → RealWorld S → Outside
seen told world = real_world (told world.system) world.faults world.dice_faults world.dice_out
    world.tapes world.links
