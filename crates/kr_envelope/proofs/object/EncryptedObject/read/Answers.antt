-- An object is read item by item.
use Rattle.kr_envelope.specs.inner.Reading.{item_of}
use Rattle.kr_envelope.proofs.Items.{is_nothing}
use Rattle.kr_envelope.proofs.Objects.{walk_begun, walk_more, walk_ended}
use Rattle.kr_envelope.proofs.object.EncryptedObject.read.Goals as goal

pub loop-rest-init : goal.loop-rest-init
loop-rest-init c = walk_begun c.args.bytes.now c.new-partial.result c.new-partial.ensures

pub loop-rest-preserved : goal.loop-rest-preserved
loop-rest-preserved c = walk_more c.args.bytes.now c.loop-rest.rest.now c.in-Ok.taken.1.now c.loop-rest.partial c.merge.new.self (item_of c.in-Ok.taken.0) c.loop-rest.invariant c.in-Ok.ensures.0 c.in-Ok.ensures.1
    (λ raw s. c.in-Ok-merge.ensures raw s)

pub returns : goal.returns
returns c = walk_ended c.args.bytes.now c.loop-rest.rest.now c.loop-rest.partial c.finish.result c.loop-rest.invariant (is_nothing c.loop-rest.rest.now c.loop-rest-test.ensures) (λ raw s. c.finish.ensures raw s)
