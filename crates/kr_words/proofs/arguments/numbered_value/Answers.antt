-- What the tactic leaves open of `numbered_value`.
use Rattle.std.proofs.Common.{◌≡◌, ℕ, ◌∙◌, Some, ap, sym, subst, true, slice_get, drop, ◌+◌}
use Rattle.kr_words.specs.Options.{is_named, values_of}
use Rattle.kr_words.proofs.ValuesAt.{found_here, counted_on, passed_over, none_left_over}
use Rattle.std.specs.Str.{bytes_eq}
use Rattle.kr_words.proofs.arguments.numbered_value.Goals as goal
use Rattle.kr_words.proofs.arguments.numbered_value.Goals.{then-eq+else-left-eq0, else-eq}

pub returns-then-left-eq0 : goal.returns-then-left-eq0
returns-then-left-eq0 c =
    let x = c.option-item.result in
    let here : is_named c.args.name.now x ≡ true =
    ap (λ t. bytes_eq t c.args.name.now) (sym c.as_str.ensures) ∙ sym c.eq.ensures
    ∙ c.if-eq.true in
    ap Some c.as_str-then-left-eq0.ensures
    ∙ found_here c.args.options.now c.args.name.now c.loop-option.option-index c.args.number
    c.loop-option.left x c.loop-option.invariant c.loop-option-test.true c.option-item.is here
    c.if-left-eq0.true

pub loop-option-preserved : goal.loop-option-preserved
loop-option-preserved c =
    let x = c.option-item.result in
    let next = λ (left : ℕ). slice_get (values_of c.args.options.now c.args.name.now) c.args.number
    ≡ slice_get (values_of (drop (c.loop-option.option-index + 1) c.args.options.now)
    c.args.name.now) left in
    elim c.if-eq.branch [
      | then-eq+else-left-eq0 w ↦ subst next (sym w.left-is)
          (counted_on c.args.options.now c.args.name.now c.loop-option.option-index c.args.number
          c.loop-option.left x c.loop-option.invariant c.loop-option-test.true c.option-item.is
          (ap (λ t. bytes_eq t c.args.name.now) (sym c.as_str.ensures) ∙ sym c.eq.ensures
          ∙ w.if-eq.true) w.if-left-eq0.false)
      | else-eq w ↦ subst next (sym w.left-is)
          (passed_over c.args.options.now c.args.name.now c.loop-option.option-index c.args.number
          c.loop-option.left x c.loop-option.invariant c.loop-option-test.true c.option-item.is
          (ap (λ t. bytes_eq t c.args.name.now) (sym c.as_str.ensures) ∙ sym c.eq.ensures
          ∙ w.if-eq.false))
    ]

pub returns : goal.returns
returns c = none_left_over c.args.options.now c.args.name.now c.loop-option.option-index
    c.args.number c.loop-option.left c.loop-option.invariant c.loop-option-test.false
