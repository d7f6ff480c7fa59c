-- An entry is read field by field.
use Rattle.kr_envelope.specs.inner.Taking.{field_of}
use Rattle.kr_envelope.specs.Messages.{annotation}
use Rattle.kr_envelope.proofs.Items.{is_nothing, is_something}
use Rattle.kr_envelope.proofs.Objects.{entry_begun, entry_more, no_entry, whole_entry}
use Rattle.kr_envelope.proofs.item.entry.Goals as goal

pub loop-rest-init : goal.loop-rest-init
loop-rest-init c = entry_begun c.args.text.now

pub loop-rest-preserved : goal.loop-rest-preserved
loop-rest-preserved c = entry_more c.args.text.now c.loop-rest.rest.now c.loop-rest.key.now c.loop-rest.value.now c.latest-key.result.now c.latest-value.result.now c.in-Some.behind.now (field_of c.in-Some.field)
    c.loop-rest.invariant c.in-Some.ensures c.latest-key.ensures c.latest-value.ensures

pub returns-in_default : goal.returns-in_default
returns-in_default c = no_entry c.args.text.now c.loop-rest.rest.now c.loop-rest.key.now c.loop-rest.value.now c.loop-rest.invariant
    (is_something c.loop-rest.rest.now c.loop-rest-test.ensures) c.in_default.ensures

pub returns-in-Err : goal.returns-in-Err
returns-in-Err c = (annotation c.loop-rest.key.now c.loop-rest.value.now, whole_entry c.args.text.now c.loop-rest.rest.now c.loop-rest.key.now c.loop-rest.value.now c.loop-rest.invariant (is_nothing c.loop-rest.rest.now c.loop-rest-test.ensures), c.in-Err.ensures.cases.0)
