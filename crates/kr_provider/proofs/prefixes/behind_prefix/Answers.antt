-- `behind_prefix`: the parts of the prefix, one behind another, are the prefix.
use Rattle.std.proofs.Common.{None, Some, ◌∷◌, [], refl}
use Rattle.kr_provider.proofs.Behind.{stripped, without_head, without_name, without_colon, with_prefix}
use Rattle.kr_provider.proofs.prefixes.behind_prefix.Goals as goal

pub returns-in_default : goal.returns-in_default
returns-in_default c = without_head c.args.kind c.args.name.now c.args.bytes.now
    (stripped c.args.bytes.now _ _ None c.head.ensures c.in_default.ensures.cases)

pub returns-in_default-strip_prefix : goal.returns-in_default-strip_prefix
returns-in_default-strip_prefix c = without_name c.args.kind c.args.name.now c.args.bytes.now
    c.in-Some.named.now
    (stripped c.args.bytes.now _ _ (Some c.in-Some.named) c.head.ensures c.in-Some.ensures.cases)
    (stripped c.in-Some.named.now _ _ None c.as_bytes.ensures.value
    c.in_default-strip_prefix.ensures.cases)

pub returns-in_default-strip_prefix-2 : goal.returns-in_default-strip_prefix-2
returns-in_default-strip_prefix-2 c = without_colon c.args.kind c.args.name.now c.args.bytes.now
    c.in-Some.named.now c.in-Some-strip_prefix.ended.now
    (stripped c.args.bytes.now _ _ (Some c.in-Some.named) c.head.ensures c.in-Some.ensures.cases)
    (stripped c.in-Some.named.now _ _ (Some c.in-Some-strip_prefix.ended) c.as_bytes.ensures.value
    c.in-Some-strip_prefix.ensures.cases)
    (stripped c.in-Some-strip_prefix.ended.now (0x3A ∷ []) (0x3A ∷ []) None refl
    c.in_default-strip_prefix-2.ensures.cases)

pub returns : goal.returns
returns c = with_prefix c.args.kind c.args.name.now c.args.bytes.now c.in-Some.named.now
    c.in-Some-strip_prefix.ended.now c.in-Some-strip_prefix-2.rest.now
    (stripped c.args.bytes.now _ _ (Some c.in-Some.named) c.head.ensures c.in-Some.ensures.cases)
    (stripped c.in-Some.named.now _ _ (Some c.in-Some-strip_prefix.ended) c.as_bytes.ensures.value
    c.in-Some-strip_prefix.ensures.cases)
    (stripped c.in-Some-strip_prefix.ended.now (0x3A ∷ []) (0x3A ∷ [])
    (Some c.in-Some-strip_prefix-2.rest) refl c.in-Some-strip_prefix-2.ensures.cases)
