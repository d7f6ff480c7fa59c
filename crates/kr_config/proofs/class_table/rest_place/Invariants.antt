-- What the loop of `rest_place` keeps.
use Rattle.std.proofs.Common.{◌≡◌, take, false}
use Rattle.std.specs.List.{list_any}
use Rattle.kr_config.specs.Classes.{is_rest}
use Rattle.kr_config.proofs.class_table.rest_place.Given as goal

abbrev pub invariant-loop-i : goal.invariant-loop-i
invariant-loop-i l = list_any is_rest (take l.i l.classes) ≡ false
