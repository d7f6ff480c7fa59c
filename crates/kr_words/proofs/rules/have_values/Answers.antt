-- What the tactic leaves open of `have_values`.
use Rattle.std.proofs.Common.{subst, sym}
use Rattle.kr_words.specs.declared.name.OptionName.TheVariants.{Replica}
use Rattle.kr_words.specs.Names.{option_text}
use Rattle.kr_words.specs.Options.{count_options}
use Rattle.kr_words.specs.Rules.{IsOption}
use Rattle.kr_words.proofs.Loops.{all_more, all_stops, all_ends}
use Rattle.kr_words.proofs.rules.have_values.Goals as goal

pub returns-then-not-is_option : goal.returns-then-not-is_option
returns-then-not-is_option c =
    all_stops (IsOption c.args.verb (count_options c.args.options.now (option_text Replica)))
    c.args.options.now c.loop-option.option-index c.option-item.result
    c.loop-option-test.true c.option-item.is
    (λ is. let a = c.is_option.ensures.1
    (subst (λ n. IsOption c.args.verb n c.option-item.result) (sym c.count_named-replicas.ensures) is)
    in
    let b = c.if-not-is_option.true in cc)

pub loop-option-preserved : goal.loop-option-preserved
loop-option-preserved c =
    all_more (IsOption c.args.verb (count_options c.args.options.now (option_text Replica)))
    c.args.options.now c.loop-option.option-index c.option-item.result
    c.loop-option-test.true c.option-item.is
    (subst (λ n. IsOption c.args.verb n c.option-item.result) c.count_named-replicas.ensures
    (c.is_option.ensures.0 c.if-not-is_option.false)) c.loop-option.invariant

pub returns : goal.returns
returns c = all_ends (IsOption c.args.verb (count_options c.args.options.now (option_text Replica)))
    c.args.options.now c.loop-option.option-index c.loop-option-test.false c.loop-option.invariant
