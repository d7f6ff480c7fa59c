-- The revision of the next row is one more than there are rows.
use Rattle.std.proofs.Common.{◌+◌, ap, arith}
use Rattle.kr_cmd_steps.specs.inner.Tapes.{stored_of}
use Rattle.kr_cmd_steps.proofs.Adding.{next_told, rows_within}
use Rattle.kr_cmd_store.proofs.storing.next_line.Goals as goal

pub overflow_add-next : goal.overflow_add-next
overflow_add-next g c = omega (
  arith,
  rows_within c.args.store.now.format c.args.store.now.rows c.known.ensures.0 c.known.ensures.1,
  c.known.ensures.2,
  c.known.ensures.3,
  c.requires.within,
  c.revision-next.ensures,
)

pub returns : goal.returns
returns g c = next_told (stored_of c.args.store.now) (c.revision-next.result + 1) c.revision_text.result
    (ap (λ n. n + 1) c.revision-next.ensures) c.revision_text.ensures
