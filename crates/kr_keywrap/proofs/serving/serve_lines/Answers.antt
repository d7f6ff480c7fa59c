-- Line by line until one ends it.
use Rattle.std.proofs.Common.{◌≡◌, ◌<◌, Ok, length, refl, ap, ◌∙◌, subst, arith}
use Rattle.std.proofs.KnownBytes.{Appends-nil}
use Rattle.kr_base.proofs.Counting.{Rose-later}
use Rattle.kr_base.specs.Faults.{Rose}
use Rattle.kr_keywrap.specs.Answer.{Plugin}
use Rattle.kr_keywrap.specs.declared.serving.Next.{Next}
use Rattle.kr_keywrap.specs.inner.Lines.{ServesNext}
use Rattle.kr_keywrap.proofs.Counts.{counts_behind, source_counts}
use Rattle.kr_keywrap.proofs.Loops.{goes_more, served_done, served_many}
use Rattle.kr_keywrap.proofs.Nexts.{ends_behind, none_of, nothing_starves, some_of, stops, stops_behind}
use Rattle.kr_keywrap.proofs.serving.serve_lines.Goals as goal

pub returns-in-Err : goal.returns-in-Err
returns-in-Err g c = record {
  served = nothing_starves (record { words = c.args.words.now; rounds = c.args.rounds; key_id = c.args.key_id.now }) (g.S.Source.left c.args.source.now) (g.K.Sink.held c.args.sink.now) _ _;
  faults = (refl, refl);
  source = omega arith;
  sink = omega arith;
}

pub loop-preserved : goal.loop-preserved
loop-preserved g c =
    let plugin : Plugin = record { words = c.args.words.now; rounds = c.args.rounds; key_id = c.args.key_id.now } in
    let l = c.loop in
    let one = c.in-Ok-serve_next.ensures.serves in
    let b = g.S.Source.left l.source in
    let d = g.S.Source.left c.serve_next.new.source in
    let i = g.K.Sink.held l.sink in
    let j = g.K.Sink.held c.serve_next.new.sink in
    let R : Type 0 = Rose (g.S.Source.count l.source) (g.S.Source.count c.serve_next.new.source) in
    let Q : Type 0 = Rose (g.K.Sink.count l.sink) (g.K.Sink.count c.serve_next.new.sink) in
    let line = subst (λ (n : Next). ServesNext plugin d i j one.all c.serve_next.new.pending R Q (Ok n)) c.in-Answered.is one.serves in record {
      goes = goes_more plugin (g.S.Source.left c.args.source.now) b d (g.K.Sink.held c.args.sink.now) i j l.pending one.all l.counter l.invariant.goes one.grows c.serve_next.new.pending line;
      source = c.in-Ok-serve_next.ensures.faults.0 ∙ l.invariant.source;
      sink = c.in-Ok-serve_next.ensures.faults.1 ∙ l.invariant.sink;
    }

pub returns-in-Err-serve_next : goal.returns-in-Err-serve_next
returns-in-Err-serve_next g c =
    let plugin : Plugin = record { words = c.args.words.now; rounds = c.args.rounds; key_id = c.args.key_id.now } in
    let l = c.loop in record {
      served =
          stops plugin (g.S.Source.left c.args.source.now) (g.S.Source.left l.source) (g.S.Source.left c.serve_next.new.source)
          (g.K.Sink.held c.args.sink.now) (g.K.Sink.held l.sink) (g.K.Sink.held c.serve_next.new.sink) l.pending c.serve_next.new.pending l.counter _ _ _ _ c.in-Err-serve_next.why
          l.invariant.goes c.in-Err-serve_next.ensures.serves
          (Rose-later (g.S.Source.count c.args.source.now) (g.S.Source.count l.source) (g.S.Source.count c.serve_next.new.source) (omega (arith, l.invariant.source)))
          (Rose-later (g.K.Sink.count c.args.sink.now) (g.K.Sink.count l.sink) (g.K.Sink.count c.serve_next.new.sink) (omega (arith, l.invariant.sink))) (omega arith);
      faults = counts_behind c.in-Err-serve_next.why _ _ _ _ _ _ l.invariant.source l.invariant.sink c.in-Err-serve_next.ensures.faults;
      source = omega (arith, l.invariant.source, c.in-Err-serve_next.ensures.source);
      sink = omega (arith, l.invariant.sink, c.in-Err-serve_next.ensures.sink);
    }

pub returns-in-Ended : goal.returns-in-Ended
returns-in-Ended g c =
    let plugin : Plugin = record { words = c.args.words.now; rounds = c.args.rounds; key_id = c.args.key_id.now } in
    let l = c.loop in
    let one = c.in-Ok-serve_next.ensures.serves in
    let b = g.S.Source.left l.source in
    let d = g.S.Source.left c.serve_next.new.source in
    let i = g.K.Sink.held l.sink in
    let j = g.K.Sink.held c.serve_next.new.sink in
    let R : Type 0 = Rose (g.S.Source.count l.source) (g.S.Source.count c.serve_next.new.source) in
    let Q : Type 0 = Rose (g.K.Sink.count l.sink) (g.K.Sink.count c.serve_next.new.sink) in
    let last = subst (λ (n : Next). ServesNext plugin d i j one.all c.serve_next.new.pending R Q (Ok n)) c.in-Ended.is one.serves in record {
      served = served_done plugin (g.S.Source.left c.args.source.now) b d (g.K.Sink.held c.args.sink.now) i j l.pending one.all l.counter l.invariant.goes one.grows _ _ last (omega arith);
      faults = (c.in-Ok-serve_next.ensures.faults.0 ∙ l.invariant.source, c.in-Ok-serve_next.ensures.faults.1 ∙ l.invariant.sink);
      source = omega (arith, l.invariant.source, c.in-Ok-serve_next.ensures.source);
      sink = omega (arith, l.invariant.sink, c.in-Ok-serve_next.ensures.sink);
    }

pub returns-in-Err-next_line : goal.returns-in-Err-next_line
returns-in-Err-next_line g c =
    let plugin : Plugin = record { words = c.args.words.now; rounds = c.args.rounds; key_id = c.args.key_id.now } in
    let l = c.loop in record {
      served =
          stops_behind plugin (g.S.Source.left c.args.source.now) (g.S.Source.left l.source) (g.S.Source.left c.next_line.new.source)
          (g.K.Sink.held c.args.sink.now) (g.K.Sink.held l.sink) l.pending c.next_line.new.pending l.counter (Rose (g.S.Source.count l.source) (g.S.Source.count c.next_line.new.source)) _ _ c.in-Err-next_line.why
          l.invariant.goes c.in-Err-next_line.ensures.grows c.in-Err-next_line.ensures.finds
          (Rose-later (g.S.Source.count c.args.source.now) (g.S.Source.count l.source) (g.S.Source.count c.next_line.new.source) (omega (arith, l.invariant.source))) (omega arith);
      faults = counts_behind c.in-Err-next_line.why _ _ _ _ _ _ l.invariant.source l.invariant.sink
          (source_counts c.in-Err-next_line.why _ _ _ c.in-Err-next_line.ensures.once);
      source = omega (arith, l.invariant.source, c.in-Err-next_line.ensures.later);
      sink = omega (arith, l.invariant.sink);
    }

pub returns-then-not-is_empty : goal.returns-then-not-is_empty
returns-then-not-is_empty g c =
    let plugin : Plugin = record { words = c.args.words.now; rounds = c.args.rounds; key_id = c.args.key_id.now } in
    let l = c.loop in
    let some : 0 < length c.next_line.new.pending =
    omega (arith, ap length c.as_slice.ensures.bytes, some_of (length c.as_slice.result.now) c.if-not-is_empty.ensures) in record {
      served =
          served_many plugin (g.S.Source.left c.args.source.now) (g.S.Source.left l.source) (g.S.Source.left c.next_line.new.source)
          (g.K.Sink.held c.args.sink.now) (g.K.Sink.held l.sink) (g.K.Sink.held l.sink) l.pending c.next_line.new.pending l.counter l.invariant.goes c.in-Ok-next_line.ensures.grows _ _
          (Appends-nil (g.K.Sink.held l.sink)) some (omega arith);
      faults = (c.in-Ok-next_line.ensures.once ∙ l.invariant.source, l.invariant.sink);
      source = omega (arith, l.invariant.source, c.in-Ok-next_line.ensures.later);
      sink = omega (arith, l.invariant.sink);
    }

pub returns : goal.returns
returns g c =
    let plugin : Plugin = record { words = c.args.words.now; rounds = c.args.rounds; key_id = c.args.key_id.now } in
    let l = c.loop in
    let none : length c.next_line.new.pending ≡ 0 =
    omega (arith, ap length c.as_slice.ensures.bytes, none_of (length c.as_slice.result.now) c.if-not-is_empty.ensures) in record {
      served =
          ends_behind plugin (g.S.Source.left c.args.source.now) (g.S.Source.left l.source) (g.S.Source.left c.next_line.new.source)
          (g.K.Sink.held c.args.sink.now) (g.K.Sink.held l.sink) l.pending c.next_line.new.pending l.counter (Rose (g.S.Source.count l.source) (g.S.Source.count c.next_line.new.source)) _ _ c.in-Ok-next_line.place
          l.invariant.goes c.in-Ok-next_line.ensures.grows c.in-Ok-next_line.ensures.finds none (omega arith);
      faults = (c.in-Ok-next_line.ensures.once ∙ l.invariant.source, l.invariant.sink);
      source = omega (arith, l.invariant.source, c.in-Ok-next_line.ensures.later);
      sink = omega (arith, l.invariant.sink);
    }
