-- What the tactic would look for long in the reading of a flow list.
use Rattle.std.proofs.Common.{◌+◌, ◌-◌, length, Some, sym, ap, ◌∙◌, rules}
use Rattle.kr_yaml.specs.Bytes.{behind}
use Rattle.kr_yaml.specs.Shown.{views}
use Rattle.kr_yaml.specs.inner.ScalarReading.{leading_scalar, data_of, with_front}
use Rattle.kr_yaml.specs.inner.LineReading.{scalars}
use Rattle.kr_yaml.specs.declared.scalar.Context.TheVariants.{Flow}
use Rattle.kr_yaml.proofs.Flows.{scalars_begin, scalars_why, scalars_go_on, scalars_end, scalars_open, scalars_out, views_more}
use Rattle.kr_yaml.proofs.line.scalars.Goals as goal

pub scalars-init : goal.scalars-init
scalars-init c = (
  search rules,
  scalars_begin (length c.args.text.now) c.args.text.now
      ∙ ap (λ l. with_front (views l) (scalars (length c.args.text.now - 0) c.args.text.now))
      (sym c.new-trees.ensures),
)

pub returns-in-Err : goal.returns-in-Err
returns-in-Err c = scalars_why (length c.args.text.now) c.scalars.step c.args.text.now
    c.scalars.rest.now c.skip.result.now (views c.scalars.trees.0) c.in-Err.why c.scalars-test.true
    c.scalars.invariant.1 c.skip.ensures c.in-Err.ensures

pub returns-in-Some-strip_mark : goal.returns-in-Some-strip_mark
returns-in-Some-strip_mark c =
    let s = c.in-Ok.found.0 in
    let after = c.in-Ok.found.1.now in
    let more = c.in-Some-strip_mark.more.now in
    scalars_end (length c.args.text.now) c.scalars.step c.args.text.now c.scalars.rest.now
    (views c.scalars.trees.0) s after more c.scalars-test.true c.scalars.invariant.1
    (sym (ap (leading_scalar Flow) c.skip.ensures) ∙ c.in-Ok.ensures)
    (c.in-None.ensures ∙ ap (behind 44) c.skip-after.ensures)
    (c.in-Some-strip_mark.ensures ∙ ap (behind 93) c.skip-after.ensures)
    ∙ ap (λ l. Some (l, more)) (sym (views_more c.scalars.trees.0 c.push.new.self.0
    c.scalar_tree.result (data_of s) c.in-Ok-push.ensures.ok c.scalar_tree.ensures))

pub returns-in-None-strip_mark : goal.returns-in-None-strip_mark
returns-in-None-strip_mark c =
    scalars_open (length c.args.text.now) c.scalars.step c.args.text.now c.scalars.rest.now
    (views c.scalars.trees.0) c.in-Ok.found.0 c.in-Ok.found.1.now c.scalars-test.true
    c.scalars.invariant.1 (sym (ap (leading_scalar Flow) c.skip.ensures) ∙ c.in-Ok.ensures)
    (c.in-None.ensures ∙ ap (behind 44) c.skip-after.ensures)
    (c.in-None-strip_mark.ensures ∙ ap (behind 93) c.skip-after.ensures)

pub scalars-preserved : goal.scalars-preserved
scalars-preserved c =
    let s = c.in-Ok.found.0 in
    let n = length c.args.text.now in
    let more = c.in-Some.more.now in
    let on = scalars_go_on n c.scalars.step c.args.text.now c.scalars.rest.now
    (views c.scalars.trees.0) s c.in-Ok.found.1.now more c.scalars-test.true
    c.scalars.invariant.1 (sym (ap (leading_scalar Flow) c.skip.ensures) ∙ c.in-Ok.ensures)
    (c.in-Some.ensures ∙ ap (behind 44) c.skip-after.ensures) in (
      search rules,
      on ∙ ap (λ ds. with_front ds (scalars (n - (c.scalars.step + 1)) more))
          (sym (views_more c.scalars.trees.0 c.push.new.self.0 c.scalar_tree.result (data_of s)
          c.in-Ok-push.ensures.ok c.scalar_tree.ensures)),
    )

pub returns : goal.returns
returns c = scalars_out (length c.args.text.now) c.scalars.step c.args.text.now c.scalars.rest.now
    (views c.scalars.trees.0) c.scalars-test.false c.scalars.invariant.1
