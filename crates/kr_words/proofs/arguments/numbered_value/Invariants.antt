-- What the loop of `numbered_value` keeps.
use Rattle.std.proofs.Common.{◌≡◌, slice_get, drop}
use Rattle.kr_words.specs.Options.{values_of}
use Rattle.kr_words.proofs.arguments.numbered_value.Given as goal

abbrev pub invariant-loop-option : goal.invariant-loop-option
invariant-loop-option l = slice_get (values_of l.options l.name) l.number
    ≡ slice_get (values_of (drop l.option-index l.options) l.name) l.left
