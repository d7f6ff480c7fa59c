-- What the loop of `have_values` keeps.
use Rattle.std.proofs.Common.{All, take}
use Rattle.kr_words.specs.declared.name.OptionName.TheVariants.{Replica}
use Rattle.kr_words.specs.Names.{option_text}
use Rattle.kr_words.specs.Options.{count_options}
use Rattle.kr_words.specs.Rules.{IsOption}
use Rattle.kr_words.proofs.rules.have_values.Given as goal

abbrev pub invariant-loop-option : goal.invariant-loop-option
invariant-loop-option l = All (IsOption l.verb (count_options l.options (option_text Replica)))
    (take l.option-index l.options)
