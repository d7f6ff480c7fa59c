-- The next item is what the next field says.
use Rattle.kr_envelope.specs.inner.Taking.{field_of}
use Rattle.kr_envelope.proofs.Items.{no_field, refused}
use Rattle.kr_envelope.proofs.item.take_item.Goals as goal

pub returns-in_default : goal.returns-in_default
returns-in_default c = no_field c.args.text.now c.in_default.ensures

pub returns-in-Err : goal.returns-in-Err
returns-in-Err c = refused c.args.text.now (field_of c.in-Some.field) c.in-Some.rest.now c.in-Some.ensures c.in-Err.why c.in-Err.ensures
