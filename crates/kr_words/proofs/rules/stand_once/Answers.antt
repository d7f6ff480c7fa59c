-- What the tactic leaves open of `stand_once`.
use Rattle.std.proofs.Common.{◌≤◌, ◌⊎◌, get_or, refl, subst, All}
use Rattle.std.proofs.lemmas.Bool.{false≢true}
use Rattle.std.proofs.lemmas.List.{take_all, get_or_default}
use Rattle.kr_words.specs.declared.name.OptionName.{OptionName}
use Rattle.kr_words.specs.declared.name.OptionName.TheVariants.{Config}
use Rattle.kr_words.specs.Names.{option_text, IsRepeatable}
use Rattle.kr_words.specs.Options.{count_options}
use Rattle.kr_words.proofs.Loops.{all_more}
use Rattle.kr_words.proofs.Commands.{all_names, each_name}
use Rattle.kr_words.proofs.rules.stand_once.Goals as goal

pub returns-then-not-may_stand : goal.returns-then-not-may_stand
returns-then-not-may_stand c = (
  λ e. absurd (false≢true e),
  λ each. let may =
      c.may_stand.ensures.1 (each (get_or all_names c.loop-name.name-index Config)) in
      let not = c.if-not-may_stand.true in cc,
)

pub loop-name-preserved : goal.loop-name-preserved
loop-name-preserved c =
    let P = λ (name : OptionName). IsRepeatable name
    ⊎ (count_options c.args.options.now (option_text name) ≤ 1) in
    all_more P all_names c.loop-name.name-index (get_or all_names c.loop-name.name-index Config)
    c.loop-name-test.true
    (get_or_default all_names c.loop-name.name-index Config
    (get_or all_names c.loop-name.name-index Config) c.loop-name-test.true)
    (c.may_stand.ensures.0 c.if-not-may_stand.false) c.loop-name.invariant

pub returns : goal.returns
returns c =
    let P = λ (name : OptionName). IsRepeatable name
    ⊎ (count_options c.args.options.now (option_text name) ≤ 1) in (
      λ t. each_name P (subst (All P)
          (take_all c.loop-name.name-index all_names c.loop-name-test.false) c.loop-name.invariant),
      λ _. refl,
    )
