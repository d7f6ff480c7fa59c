use Rattle.std.proofs.Common.{◌≡◌, true, take, length}
use Rattle.std.specs.List.{list_all}
use Rattle.std.specs.Str.{chars}
use Rattle.kr_yaml.specs.Characters.{is_allowed}
use Rattle.kr_yaml.proofs.characters.are_allowed.Given as goal

abbrev pub invariant-loop-character : goal.invariant-loop-character
invariant-loop-character l = list_all is_allowed (take (length l.yielded) (chars l.line)) ≡ true
