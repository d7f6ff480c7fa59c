-- `by_seed`: a body without a whole info is too short.
use Rattle.std.proofs.Common.{ap, arith, drop, length, take, length-drop}
use Rattle.kr_provider.specs.Envelopes.{value_key}
use Rattle.kr_provider.proofs.Bodies.{short_body}
use Rattle.kr_provider.proofs.sources.by_seed.Goals as goal

pub returns-then-bytes-lt-SEED : goal.returns-then-bytes-lt-SEED
returns-then-bytes-lt-SEED c = short_body (value_key c.args.seed.now (take 32 c.args.encrypted))
    c.args.path.now (drop 32 c.args.encrypted)
    (omega (
      arith,
      length-drop 32 c.args.encrypted,
      ap length c.as_slice-bytes.ensures,
      c.if-bytes-lt-SEED.true,
    ))
