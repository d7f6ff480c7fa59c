-- What the tactic leaves open of `read_words`.
use Rattle.std.proofs.Common.{◌≡◌, ◌∷◌, ap, sym, subst}
use Rattle.kr_words.specs.Grammar.{texts, HasFewReplicas, HasManyReplicas, IsAbovePage}
use Rattle.kr_words.specs.Grammar.{IsAboveSize, IsWithinSize}
use Rattle.kr_words.specs.declared.name.OptionName.TheVariants.{Limit, Size}
use Rattle.kr_words.specs.Names.{word_of, option_text}
use Rattle.kr_words.specs.Arguments.{IsWithin}
use Rattle.kr_words.specs.Rules.{IsCommand}
use Rattle.kr_words.specs.inner.Spelling.{HasNoSmall, HasNoFewReplicas}
use Rattle.kr_words.proofs.Meanings.{unspelled, misruled, means_with, above, above_page, many}
use Rattle.kr_words.proofs.read.read_words.Goals as goal

pub returns-in-Err-Usage : goal.returns-in-Err-Usage
returns-in-Err-Usage c =
    unspelled (texts c.args.words.now) _ (texts c.in-Some.rest.now)
    (ap texts c.in-Some.ensures.cases.0)
    (rw c.in-Err-Usage.field-0-is at c.in-Err-Usage.ensures)

pub returns-then-not-is_command : goal.returns-then-not-is_command
returns-then-not-is_command c =
    let verb = c.in-Some-parse_verb.verb in
    let f = ap texts c.in-Some.ensures.cases.0 in
    let a = c.as_str.ensures.value in
    let v = c.in-Some-parse_verb.ensures in
    let front : texts c.args.words.now ≡ word_of verb ∷ texts c.in-Some.rest.now = cc in
    misruled (texts c.args.words.now) verb (texts c.in-Some.rest.now) c.in-Ok.options.0 front
    c.in-Ok.ensures.0 c.in-Ok.ensures.1
    (λ m. let is = c.is_command.ensures.1 (subst (IsCommand verb) (sym c.as_slice.ensures) m) in
    let not = c.if-not-is_command.true in cc)

pub returns-then-not-has_few_replicas : goal.returns-then-not-has_few_replicas
returns-then-not-has_few_replicas c =
    means_with HasManyReplicas (ap texts c.in-Some.ensures.cases.0) c.as_str.ensures.value
    c.in-Some-parse_verb.ensures c.in-Ok.ensures.1 c.as_slice.ensures
    (c.is_command.ensures.0 c.if-not-is_command.false)
    (λ is. many is (subst HasNoFewReplicas c.as_slice-2.ensures c.if-not-has_few_replicas.ensures))

pub returns-then-not-fits_limit : goal.returns-then-not-fits_limit
returns-then-not-fits_limit c =
    let few = subst HasFewReplicas c.as_slice-2.ensures c.if-not-has_few_replicas.ensures in
    let none = subst (λ o. HasNoSmall o (option_text Size) 10000) c.as_slice-3.ensures
    c.if-not-fits_limit.ensures in
    let r = means_with (λ o. HasFewReplicas o × IsAboveSize o) (ap texts c.in-Some.ensures.cases.0)
    c.as_str.ensures.value c.in-Some-parse_verb.ensures c.in-Ok.ensures.1 c.as_slice.ensures
    (c.is_command.ensures.0 c.if-not-is_command.false) (λ is. (few, above is none)) in
    (r.0, r.1, r.2, r.3.0, r.3.1)

pub returns-then-not-fits_limit-2 : goal.returns-then-not-fits_limit-2
returns-then-not-fits_limit-2 c =
    let few = subst HasFewReplicas c.as_slice-2.ensures c.if-not-has_few_replicas.ensures in
    let size = subst (λ o. IsWithin o (option_text Size) 10000) c.as_slice-3.ensures
    c.if-not-fits_limit.ensures in
    let none = subst (λ o. HasNoSmall o (option_text Limit) 10000) c.as_slice-4.ensures
    c.if-not-fits_limit-2.ensures in
    let r = means_with (λ o. HasFewReplicas o × IsWithinSize o × IsAbovePage o)
    (ap texts c.in-Some.ensures.cases.0) c.as_str.ensures.value c.in-Some-parse_verb.ensures
    c.in-Ok.ensures.1 c.as_slice.ensures (c.is_command.ensures.0 c.if-not-is_command.false)
    (λ is. (few, size, above_page is none)) in
    (r.0, r.1, r.2, r.3.0, r.3.1, r.3.2)
