-- `prefix_and`: a prefix is its head, its name and a colon.
use Rattle.std.proofs.Common.{◌++◌, ◌∷◌, [], length, ap, arith, length-append}
use Rattle.kr_envelope.specs.Prefixes.{head, prefix}
use Rattle.kr_envelope.proofs.Prefixing.{headed}
use Rattle.kr_provider.proofs.sealing.prefix_and.Goals as goal

pub returns : goal.returns
returns c =
    let kind = c.args.kind in
    let name = c.args.name.now in
    omega (
      arith,
      ap length c.head.ensures,
      ap length c.as_bytes.ensures.value,
      ap length c.as_str.ensures,
      ap length (headed kind name []),
      length-append (prefix kind name) [],
      length-append (head kind) (name ++ 0x3A ∷ []),
      length-append name (0x3A ∷ []),
    )
