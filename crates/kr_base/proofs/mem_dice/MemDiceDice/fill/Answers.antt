-- What the tactic finds late of `fill`.
use Rattle.std.proofs.Common.{sym, ◌∙◌}
use Rattle.std.proofs.lemmas.List.{take-append-drop}
use Rattle.kr_base.proofs.mem_dice.MemDiceDice.fill.Goals as goal

pub returns-clause-bytes : goal.returns-clause-bytes
returns-clause-bytes c = rw (sym c.self.view_is) (rw c.give.ensures.given (rw c.give.ensures.left
    (sym c.fails.ensures.bytes ∙ sym (take-append-drop _ _))))
