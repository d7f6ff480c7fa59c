-- What the tactic finds late of `read_at`.
use Rattle.std.proofs.Common.{ℕ, length, arith, sym, ap, length-append, length-drop}
use Rattle.std.proofs.lemmas.List.{length-take}
use Rattle.kr_base.proofs.Transferring.{given-front, given-at}
use Rattle.kr_base.proofs.mem_tape.MemTapeTape.read_at.Goals as goal

pub returns-clause-bound : goal.returns-clause-bound
returns-clause-bound c = given-front c.copy_from_slice.new.self _
    (omega (arith, c.copy_from_slice.ensures.len, c.min-n.ensures, length-take {A = ℕ}))

pub returns-clause-bytes : goal.returns-clause-bytes
returns-clause-bytes c = rw (sym c.self.view_is) (
  omega (
    arith,
    c.copy_from_slice.ensures.len,
    c.min-n.ensures,
    ap length c.deref.ensures.value,
    length-append {A = ℕ},
    length-take {A = ℕ},
    length-drop {A = ℕ},
  ),
  given-at c.args.at _ c.deref.ensures.value c.copy_from_slice.ensures.after
      (omega (arith, c.copy_from_slice.ensures.len, c.min-n.ensures, length-take {A = ℕ})),
)
