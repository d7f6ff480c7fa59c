use Rattle.std.proofs.Common.{Some, sym, ap}
use Rattle.kr_base.proofs.Places.{all_stay}
use Rattle.kr_base.proofs.mem_tape.MemTapeTape.cut.Goals as goal

pub returns-then-fails-clause-bytes : goal.returns-then-fails-clause-bytes
returns-then-fails-clause-bytes c = all_stay _ _ c.args.len (ap (λ v. v.bytes) (sym c.self.view_is))

pub returns-clause-bytes : goal.returns-clause-bytes
returns-clause-bytes c = rw (sym c.self.view_is) (ap Some c.truncate.ensures.items)
