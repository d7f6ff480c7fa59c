-- Answers of Reader::row.
use Rattle.std.proofs.Common.{ℕ, List, Ok, Err, subst, sym}
use Rattle.kr_store.specs.Breaches.{Read, behind, head_part, change_part, put_part}
use Rattle.kr_store.specs.declared.format.Format.{Format}
use Rattle.kr_store.specs.declared.rows.LogRow.{LogRow}
use Rattle.kr_store.specs.inner.Reading.{Reads, put_bytes, kept_bytes}
use Rattle.kr_store.specs.declared.kept_row.RowKind.{RowKind}
use Rattle.kr_store.proofs.Parts.{reads_head}
use Rattle.kr_store.proofs.Steps.{stops_behind, stops_first}
use Rattle.kr_store.proofs.reader.Reader.row.Goals as goal

abbrev behind_head : Format → RowKind × List ℕ → List ℕ → Read LogRow
behind_head format head rest =
    behind (change_part format head.0 rest)
    (λ change rest. Ok (record { path = head.1; change = change }, rest))

pub returns-in-Err-put-clause-reads : goal.returns-in-Err-put-clause-reads
returns-in-Err-put-clause-reads g c =
    let format = c.args.format in
    let k = c.args.revision in
    let head = c.in-Ok.head in
    stops_behind _ c.head.new.self c.put.new.self _ (head_part k) (behind_head format) head
    put_bytes (kept_bytes k) c.in-Err-put.stop c.in-Ok.ensures.reads.gives
    c.in-Ok.ensures.reads.advances
    (λ rest. reads_head k head.0 head.1 rest c.ranges.revision.fits c.in-Ok.ensures.rule)
    (subst (λ (kd : RowKind). Reads c.head.new.self c.put.new.self put_bytes
    (λ rest. behind (change_part format kd rest)
    (λ change rest. Ok (record { path = head.1; change = change }, rest)))
    (Err c.in-Err-put.stop)) (sym c.in-Put.is)
    (stops_first c.head.new.self c.put.new.self (put_part format)
    (λ change rest. Ok (record { path = head.1; change = change }, rest)) put_bytes put_bytes
    c.in-Err-put.stop c.in-Err-put.ensures.reads))
