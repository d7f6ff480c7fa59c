-- What the tactic finds late of `put_at`.
use Rattle.std.proofs.Common.{◌+◌, ◌++◌, length, take, drop, Some, sym, ap}
use Rattle.kr_base.proofs.mem_tape.MemTapeTape.put_at.Goals as goal

pub returns-then-fails-clause-bytes : goal.returns-then-fails-clause-bytes
returns-then-fails-clause-bytes c =
    let left = take c.if-above.left c.args.bytes.now in
    rw (sym c.self.view_is) (
      left ++ drop (c.args.at + length left) c.self.inside.bytes.items,
      ap (λ tape. Some tape.bytes) c.put.ensures,
    )

pub returns-clause-bytes : goal.returns-clause-bytes
returns-clause-bytes c =
    rw (sym c.self.view_is) (ap (λ tape. Some tape.bytes) c.put-2.ensures)
