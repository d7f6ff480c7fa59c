-- What the tactic leaves open of `are_whole`.
use Rattle.std.proofs.Common.{◌≤◌, rules, tests}
use Rattle.std.proofs.lemmas.Iterator.{cases_from_all, YieldsList-from_slice}
use Rattle.kr_words.specs.declared.name.OptionName.{OptionName}
use Rattle.kr_words.specs.Names.{option_text, required_options}
use Rattle.kr_words.specs.Options.{count_options}
use Rattle.kr_words.proofs.Loops.{all_is}
use Rattle.kr_words.proofs.rules.are_whole.Goals as goal

pub returns : goal.returns
returns c =
    let P = λ (name : OptionName). 1 ≤ count_options c.args.options.now (option_text name) in
    all_is P _ (required_options c.args.verb)
    (cases_from_all _ _ _ P (λ name. P name → ⊥) c.all.ensures.ran
    (YieldsList-from_slice (required_options c.args.verb) cc) (λ x q k. search (rules, tests))
    (λ x q k. search (rules, tests)))
