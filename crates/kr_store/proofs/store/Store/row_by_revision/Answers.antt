-- Answers of Store::row_by_revision.
use Rattle.std.proofs.Common.{List, length, ◌-◌, get_or, Some, subst, sym, ap, ◌∙◌, arith}
use Rattle.kr_store.specs.declared.kept_row.KeptRow.{KeptRow}
use Rattle.kr_store.specs.Rows.{log_row_at}
use Rattle.kr_store.specs.Stores.{Kept, LendsRow, IsLent}
use Rattle.kr_store.proofs.Places.{lends_row, lends_none}
use Rattle.kr_store.proofs.store.Store.row_by_revision.Goals as goal

pub returns-in-Some : goal.returns-in-Some
returns-in-Some g c =
    let r = c.self.inside in
    let k = c.args.revision in
    let row = c.in-Some.row.now in
    let found = c.in-Some.ensures.lookup.3 in
    let lends = lends_row r.format r.rows.0 k row c.lend.result
    (omega (arith, c.if-revision-eq0.false))
    (omega (arith, found.0, ap (λ (l : List KeptRow). length l) c.as_slice.ensures))
    c.self.invariant.kept_rows
    (ap (λ (l : List KeptRow). get_or l (k - 1) row) (sym c.as_slice.ensures)
    ∙ sym (found.1 row)) c.lend.ensures in record {
      row = subst (λ (s : Kept). LendsRow s.rows k (Some c.lend.result)) c.self.view_is lends.0;
      rules = subst (λ (s : Kept). IsLent s.format c.lend.result) c.self.view_is lends.1;
    }

pub returns-in-None-clause-row : goal.returns-in-None-clause-row
returns-in-None-clause-row g c =
    let r = c.self.inside in
    ap (λ (s : Kept). log_row_at s.rows c.args.revision) (sym c.self.view_is)
    ∙ lends_none r.rows.0 c.args.revision (omega (arith, c.if-revision-eq0.false))
    (omega (
      arith,
      c.in-None.ensures.lookup.3,
      ap (λ (l : List KeptRow). length l)
          c.as_slice.ensures,
    ))
