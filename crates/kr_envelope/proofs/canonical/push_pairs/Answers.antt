-- Annotations are written one behind another.
use Rattle.std.proofs.Common.{length, ap, ◌∙◌, arith, subst}
use Rattle.std.specs.Str.{IsUtf8}
use Rattle.kr_envelope.proofs.Numbers.{push_begun, push_more, push_ended, paired, size_at}
use Rattle.kr_envelope.proofs.canonical.push_pairs.Goals as goal

pub loop-key-init : goal.loop-key-init
loop-key-init c = push_begun c.args.out.now.items c.args.pairs.now

pub push_pair-requires-clause-key : goal.push_pair-requires-clause-key
push_pair-requires-clause-key c = omega (arith, ap length (c.as_bytes.ensures.value ∙ c.as_str.ensures), ap (λ p. length p.0) c.loop-key-item.is, size_at c.args.pairs.now c.loop-key.key-index c.loop-key-item.result c.loop-key-test.true, c.requires)

pub push_pair-requires-clause-value : goal.push_pair-requires-clause-value
push_pair-requires-clause-value c = omega (arith, ap length c.as_slice.ensures, ap (λ p. length p.1) c.loop-key-item.is, size_at c.args.pairs.now c.loop-key.key-index c.loop-key-item.result c.loop-key-test.true, c.requires)

pub loop-key-preserved : goal.loop-key-preserved
loop-key-preserved c = push_more c.args.out.now.items c.loop-key.out.items c.push_pair.new.out.items c.args.pairs.now c.loop-key.key-index c.loop-key-item.result c.loop-key.invariant c.loop-key-test.true c.loop-key-item.is
    (c.in_ok-push_pair.ensures ∙ paired c.as_bytes.result.now c.as_slice.result.now c.loop-key-item.result c.loop-key.out.items (c.as_bytes.ensures.value ∙ c.as_str.ensures) c.as_slice.ensures) (subst IsUtf8 c.as_str.ensures c.as_str.utf8)

pub returns : goal.returns
returns c = let done = push_ended c.args.out.now.items c.loop-key.out.items c.args.pairs.now c.loop-key.key-index c.loop-key.invariant c.loop-key-test.false in record { written = done.0; texts = done.1 }
