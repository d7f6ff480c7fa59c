-- What the tactic leaves open of `first_option`.
use Rattle.std.proofs.Common.{◌≡◌, ◌∷◌, ◌++◌, codes, None, Some, ap, ◌∙◌, arith}
use Rattle.std.proofs.lemmas.Str.Pattern.{split_parts}
use Rattle.kr_words.specs.Grammar.{texts}
use Rattle.kr_words.proofs.Spellings.{no_value, plain_bytes, none_left, dashed, joined, parted}
use Rattle.kr_words.proofs.Spellings.{none_begin, undashed}
use Rattle.kr_words.proofs.spelling.first_option.Goals as goal

pub returns-in_err-word : goal.returns-in_err-word
returns-in_err-word c = rw c.from_residual.ensures
    (none_begin (texts c.args.words.now)
    (ap texts (none_left c.args.words.now c.in_err-word.ensures.cases)))

pub returns-in_err-option : goal.returns-in_err-option
returns-in_err-option c =
    let f = ap texts c.in_ok-word.ensures.cases.0 in
    let e = c.as_str.ensures.value in
    let front : texts c.args.words.now ≡ c.as_str.result.now ∷ texts c.in_ok-word.rest.now = cc in
    rw c.from_residual-in_err-option.ensures
    (undashed (texts c.args.words.now) (texts c.in_ok-word.rest.now) c.as_str.result.now front
    c.in_err-option.ensures.cases)

pub returns-in_err-value-in-None : goal.returns-in_err-value-in-None
returns-in_err-value-in-None c =
    let option = c.in_ok-option.option.now in
    let first = c.in_ok-option.ensures.cases in
    let whole = dashed first.0 c.in_ok-word.ensures.cases.0 c.as_str.ensures.value first.1.1 first.2 in
    let last = ap (λ r. (codes "--" ++ option) ∷ texts r)
    (none_left c.in_ok-word.rest.now c.in_err-value-in-None.ensures.cases) in
    rw c.from_residual-in_err-value-in-None.ensures
    (no_value (texts c.args.words.now) option
    (plain_bytes option (split_parts 61 option None c.in-None.ensures.cases (omega arith)))
    (whole ∙ last))

pub returns-in-Some : goal.returns-in-Some
returns-in-Some c =
    let option = c.in_ok-option.option.now in
    let first = c.in_ok-option.ensures.cases in
    let whole = dashed first.0 c.in_ok-word.ensures.cases.0 c.as_str.ensures.value first.1.1 first.2 in
    let parts = split_parts 61 option (Some (c.in-Some.name, c.in-Some.value))
    c.in-Some.ensures.cases (omega arith) in (
      plain_bytes c.in-Some.name.now parts.1,
      joined (texts c.args.words.now) (texts c.in_ok-word.rest.now) option c.in-Some.name.now
          c.in-Some.value.now whole parts.0,
    )

pub returns-in_ok-value-in-None : goal.returns-in_ok-value-in-None
returns-in_ok-value-in-None c =
    let option = c.in_ok-option.option.now in
    let first = c.in_ok-option.ensures.cases in
    let whole = dashed first.0 c.in_ok-word.ensures.cases.0 c.as_str.ensures.value first.1.1 first.2 in
    let behind = texts c.in_ok-value-in-None.rest.now in
    let next : texts c.in_ok-word.rest.now ≡ c.as_str-in-None.result.now ∷ behind = let f =
    ap texts c.in_ok-value-in-None.ensures.cases.0 in cc in (
      plain_bytes option (split_parts 61 option None c.in-None.ensures.cases (omega arith)),
      parted (texts c.args.words.now) (texts c.in_ok-word.rest.now) option
          c.as_str-in-None.result.now behind whole next,
    )
