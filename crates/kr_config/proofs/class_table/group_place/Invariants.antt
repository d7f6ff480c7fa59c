-- What the loop of `group_place` keeps.
use Rattle.std.proofs.Common.{◌≡◌, take, false}
use Rattle.std.specs.List.{list_any}
use Rattle.kr_config.specs.Classes.{is_group}
use Rattle.kr_config.proofs.class_table.group_place.Given as goal

abbrev pub invariant-loop-i : goal.invariant-loop-i
invariant-loop-i l = list_any (is_group l.group) (take l.i l.classes) ≡ false
