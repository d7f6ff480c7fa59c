-- Answers of Store::append.
use Rattle.std.proofs.Common.{List, [], ◌∷◌, length, ◌+◌, ◌++◌, ◌≡◌, Err, subst, sym, ap, ◌∙◌, arith}
use Rattle.kr_store.specs.declared.rows.LogRow.{LogRow}
use Rattle.kr_store.specs.declared.answers.PutNo.{PutNo}
use Rattle.kr_store.specs.declared.kept_row.RowKind.{RowKind}
use Rattle.kr_store.specs.declared.kept_row.KeptRow.{KeptRow}
use Rattle.kr_store.specs.Rows.{MayChange}
use Rattle.kr_store.specs.File.{byte_kind}
use Rattle.kr_store.specs.Stores.{Kept, Puts, Wrote}
use Rattle.kr_store.specs.inner.Index.{AddsAs}
use Rattle.kr_store.specs.inner.KeptRows.{log_rows_of, IsChange}
use Rattle.kr_store.specs.inner.Store.{IsStore, kept_of}
use Rattle.kr_store.proofs.Loading.{log_rows_length}
use Rattle.kr_store.proofs.Written.{change_rules, full_at, wrote_at, not_written, put_not_written, store_written, next_fits}
use Rattle.kr_store.proofs.store.Store.append.Goals as goal

pub row_length-requires-clause-change : goal.row_length-requires-clause-change
row_length-requires-clause-change g c =
    subst (λ (k : Kept). IsChange k.format c.args.change) (sym c.self.view_is)
    (change_rules c.args.self.now.format c.args.self.now.rows c.args.path.now c.args.change
    c.requires.change)

pub make_row-requires-clause-change : goal.make_row-requires-clause-change
make_row-requires-clause-change g c =
    subst (λ (k : Kept). IsChange k.format c.args.change) (sym c.self.view_is)
    (change_rules c.args.self.now.format c.args.self.now.rows c.args.path.now c.args.change
    c.requires.change)

pub returns-then-needed-self : goal.returns-then-needed-self
returns-then-needed-self g c =
    let r = c.self.inside in
    let row : LogRow = record { path = c.args.path.now; change = c.args.change } in
    full_at r.format r.rows.0 r.index r.limit r.log c.args.self.now row c.end-at.result
    c.row_length.result c.self.invariant c.self.view_is c.end-at.ensures
    (c.row_length.ensures.length (length r.rows.0 + 1)) c.if-needed-self.true

pub invariant_of-self-in-Err-write_row : goal.invariant_of-self-in-Err-write_row
invariant_of-self-in-Err-write_row g c =
    let r = c.self.inside in
    let now = c.write_row.new in
    subst (λ (rows : List KeptRow). IsStore r.format rows now.index r.limit now.log)
    (sym c.reserve.ensures.items)
    (not_written r.format r.rows.0 r.index now.index r.limit r.log now.log c.args.self.now
    c.args.path.now c.kind-kind.result (length c.as_slice.result.now + 1) c.as_slice-2.result.now
    c.self.invariant c.self.view_is c.args.change c.in-Ok-make_row.made.row c.in-Err-write_row.why
    c.kind-kind.ensures c.in-Ok-make_row.ensures.row c.requires.change c.in-Err-write_row.ensures)

pub returns-in-Err-write_row : goal.returns-in-Err-write_row
returns-in-Err-write_row g c =
    let r = c.self.inside in
    let now = c.write_row.new in
    let row : LogRow = record { path = c.args.path.now; change = c.args.change } in
    subst (λ (rows : List KeptRow). Puts c.args.self.now (kept_of r.format rows r.limit now.log) row
    (Err c.refusal.result)) (sym c.reserve.ensures.items)
    (subst (λ (why : PutNo). Puts c.args.self.now (kept_of r.format r.rows.0 r.limit now.log) row
    (Err why)) (sym c.refusal.ensures)
    (put_not_written r.format r.rows.0 r.index now.index r.limit r.log now.log c.args.self.now
    c.args.path.now c.kind-kind.result (length c.as_slice.result.now + 1) c.as_slice-2.result.now
    c.self.invariant c.self.view_is row c.end-at.result c.row_length.result c.in-Err-write_row.why
    c.end-at.ensures (c.row_length.ensures.length (length r.rows.0 + 1)) c.if-needed-self.false
    c.in-Err-write_row.ensures))

pub invariant_of-self-2 : goal.invariant_of-self-2
invariant_of-self-2 g c =
    let r = c.self.inside in
    let now = c.write_row.new in
    let w = c.in-Ok-write_row.ensures in
    let k = length c.as_slice.result.now + 1 in
    let made = c.in-Ok-make_row.made.row in
    let row : LogRow = record { path = c.args.path.now; change = c.args.change } in
    let kind_is : c.kind-kind.result ≡ byte_kind c.args.change =
    c.kind-kind.ensures ∙ ap (λ (r : LogRow). byte_kind r.change) c.in-Ok-make_row.ensures.row in
    let may : MayChange r.format (log_rows_of r.rows.0) c.args.path.now c.args.change =
    subst (λ (k : Kept). MayChange k.format k.rows c.args.path.now c.args.change)
    (sym c.self.view_is) c.requires.change in
    subst (λ (rows : List KeptRow). IsStore r.format rows now.index r.limit now.log)
    (sym (c.push_in_room.ensures.items
    ∙ ap (λ (rows : List KeptRow). rows ++ made ∷ []) c.reserve.ensures.items))
    (store_written r.format r.rows.0 r.index now.index r.limit r.log now.log
    c.as_slice-2.result.now made row k c.end-at.result c.self.invariant w.0
    (ap (λ (l : List KeptRow). length l + 1) (c.as_slice.ensures ∙ c.reserve.ensures.items))
    c.end-at.ensures (c.as_slice-2.ensures ∙ c.in-Ok-make_row.ensures.bytes)
    (subst (λ (kind : RowKind). AddsAs r.index now.index k c.args.path.now kind) kind_is w.1)
    c.in-Ok-make_row.ensures.row c.in-Ok-make_row.ensures.rule
    (record {
      revision = omega (
        arith,
        log_rows_length r.rows.0,
        next_fits r.format r.rows.0 r.index r.limit r.log c.self.invariant,
      );
      path = c.requires.path;
      change = may;
    })
    (omega (arith, c.row_length.ensures.length k, c.if-needed-self.false)))

pub returns : goal.returns
returns g c =
    let r = c.self.inside in
    let log = c.write_row.new.log in
    let w = c.in-Ok-write_row.ensures in
    let k = length c.as_slice.result.now + 1 in
    let made = c.in-Ok-make_row.made.row in
    let row : LogRow = record { path = c.args.path.now; change = c.args.change } in
    subst (λ (rows : List KeptRow). Wrote c.args.self.now (kept_of r.format rows r.limit log) row k)
    (sym (c.push_in_room.ensures.items
    ∙ ap (λ (rows : List KeptRow). rows ++ made ∷ []) c.reserve.ensures.items))
    (wrote_at r.format r.rows.0 r.index r.limit r.log log c.args.self.now row made c.end-at.result
    c.row_length.result k c.self.invariant c.self.view_is c.end-at.ensures
    (c.row_length.ensures.length (length r.rows.0 + 1)) c.if-needed-self.false
    c.in-Ok-make_row.ensures.row
    (ap (λ (l : List KeptRow). length l + 1) (c.as_slice.ensures ∙ c.reserve.ensures.items))
    (omega (
      arith,
      w.0.1,
      c.end-at.ensures,
      ap length (c.as_slice-2.ensures ∙ c.in-Ok-make_row.ensures.bytes),
      c.row_length.ensures.length k,
    ))
    w.0.2 w.2 w.3)
