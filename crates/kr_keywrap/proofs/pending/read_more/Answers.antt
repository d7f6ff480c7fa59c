-- The bytes read stand behind those that were pending.
use Rattle.std.proofs.Common.{◌-◌, length, refl, arith}
use Rattle.kr_keywrap.proofs.Lines.{read_more}
use Rattle.kr_keywrap.proofs.pending.read_more.Goals as goal

pub returns-clause-bytes : goal.returns-clause-bytes
returns-clause-bytes g c =
    read_more (g.S.Source.left c.args.source.now) (g.S.Source.left c.read.new.self) c.args.bytes.now c.read.new.into c.args.filled (length c.args.bytes.now - c.args.filled) c.read.result
    c.requires refl (omega arith) c.read.ensures.bound c.read.ensures.bytes
