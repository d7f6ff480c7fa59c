-- What the loop of `stand_once` keeps.
use Rattle.std.proofs.Common.{◌≤◌, ◌⊎◌, All, take}
use Rattle.kr_words.specs.Names.{option_text, IsRepeatable}
use Rattle.kr_words.specs.Options.{count_options}
use Rattle.kr_words.proofs.Commands.{all_names}
use Rattle.kr_words.proofs.rules.stand_once.Given as goal

abbrev pub invariant-loop-name : goal.invariant-loop-name
invariant-loop-name l = All (λ name. IsRepeatable name ⊎ (count_options l.options (option_text name) ≤ 1))
    (take l.name-index all_names)
