use Rattle.std.proofs.Common.{arith}
use Rattle.kr_hkdf.proofs.Pads.{pad_more}
use Rattle.kr_hkdf.proofs.keyed_hash.padded.Goals as goal

pub loop-byte-preserved : goal.loop-byte-preserved
loop-byte-preserved c =
    let l = c.loop-byte in
    pad_more l.byte-items c.args.block c.args.pad l.byte-index (omega arith) l.invariant
