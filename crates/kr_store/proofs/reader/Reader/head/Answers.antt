-- Answers of Reader::head.
use Rattle.std.proofs.Common.{ℕ, List, Ok}
use Rattle.std.specs.Int.{w64, to_be_bytes}
use Rattle.kr_store.specs.Breaches.{Read, behind, kind_part, revision_part, path_part}
use Rattle.kr_store.specs.File.{text_bytes}
use Rattle.kr_store.specs.inner.Reading.{head_bytes}
use Rattle.kr_store.specs.declared.kept_row.RowKind.{RowKind}
use Rattle.kr_store.proofs.Parts.{reads_kind, reads_revision}
use Rattle.kr_store.proofs.Steps.{stops_behind, stops_first}
use Rattle.kr_store.proofs.reader.Reader.head.Goals as goal

-- what is read behind the kind, and behind the revision
abbrev behind_revision : RowKind → ℕ → List ℕ → Read (RowKind × List ℕ)
behind_revision kind k rest = behind (path_part rest) (λ path rest. Ok ((kind, path), rest))

abbrev behind_kind : ℕ → RowKind → List ℕ → Read (RowKind × List ℕ)
behind_kind k kind rest = behind (revision_part k rest) (behind_revision kind)

pub returns-in-Err-clause-reads : goal.returns-in-Err-clause-reads
returns-in-Err-clause-reads g c = let k = c.args.revision in
    stops_behind _ c.kind.new.self c.revision.new.self _ kind_part (behind_kind k) c.in_ok-kind.kind
    (λ (u : Unit {0}). to_be_bytes w64 k) (head_bytes k) c.in-Err.stop
    c.in_ok-kind.ensures.reads.gives c.in_ok-kind.ensures.reads.advances
    (reads_kind c.in_ok-kind.kind)
    (stops_first c.kind.new.self c.revision.new.self (revision_part k)
    (behind_revision c.in_ok-kind.kind) (λ (u : Unit {0}). to_be_bytes w64 k)
    (λ (u : Unit {0}). to_be_bytes w64 k) c.in-Err.stop c.in-Err.ensures.reads)

pub returns-in-Err-path-clause-reads : goal.returns-in-Err-path-clause-reads
returns-in-Err-path-clause-reads g c = let k = c.args.revision in
    stops_behind _ c.kind.new.self c.path.new.self _ kind_part
    (behind_kind k) c.in_ok-kind.kind text_bytes (head_bytes k) c.in-Err-path.stop
    c.in_ok-kind.ensures.reads.gives c.in_ok-kind.ensures.reads.advances
    (reads_kind c.in_ok-kind.kind)
    (stops_behind c.kind.new.self c.revision.new.self c.path.new.self _ (revision_part k)
    (behind_revision c.in_ok-kind.kind) k text_bytes text_bytes c.in-Err-path.stop
    c.in-Ok.ensures.reads.gives c.in-Ok.ensures.reads.advances
    (λ rest. reads_revision k rest c.ranges.revision.fits)
    (stops_first c.revision.new.self c.path.new.self path_part
    (λ path rest. Ok ((c.in_ok-kind.kind, path), rest)) text_bytes text_bytes c.in-Err-path.stop
    c.in-Err-path.ensures.reads))
