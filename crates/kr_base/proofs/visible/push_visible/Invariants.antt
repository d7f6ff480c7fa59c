-- What the loop of `push_visible` keeps.
use Rattle.std.proofs.Common.{◌≡◌, ◌++◌, map, take}
use Rattle.kr_base.specs.Visible.{visible_byte}
use Rattle.kr_base.proofs.visible.push_visible.Given as goal

abbrev pub invariant-loop-byte : goal.invariant-loop-byte
invariant-loop-byte l = l.bytes.items ≡ l.initial.bytes.items
    ++ map visible_byte (take l.byte-index l.foreign)
