-- A line, the last line, or why there is none.
use Rattle.std.proofs.Common.{ℕ, List, Option, Some, None, Ok, refl, subst, take, arith, rules}
use Rattle.kr_base.specs.Faults.{Rose}
use Rattle.kr_keywrap.specs.Answer.{Plugin}
use Rattle.kr_keywrap.specs.inner.Lines.{Finds}
use Rattle.kr_keywrap.specs.Serving.{CountsFaults}
use Rattle.kr_keywrap.proofs.Counts.{sink_counts, source_counts}
use Rattle.kr_keywrap.proofs.Nexts.{last_failed, last_served, line_failed, line_served, none_found}
use Rattle.kr_keywrap.proofs.serving.serve_next.Goals as goal

pub returns-in_err-found : goal.returns-in_err-found
returns-in_err-found g c =
    let plugin : Plugin = record { words = c.args.words.now; rounds = c.args.rounds; key_id = c.args.key_id.now } in
    let all : List ℕ = c.next_line.new.pending in
    let left : Option (List ℕ) = g.S.Source.left c.next_line.new.source in
    let held : Option (List ℕ) = g.K.Sink.held c.args.sink.now in
    let R : Type 0 = Rose (g.S.Source.count c.args.source.now) (g.S.Source.count c.next_line.new.source) in
    let Q : Type 0 = Rose (g.K.Sink.count c.args.sink.now) (g.K.Sink.count c.args.sink.now) in
    record {
      serves = record { all = all; grows = c.in_err-found.ensures.grows; serves = let stop = none_found plugin left held all all R Q c.in_err-found.field-0.0 c.in_err-found.ensures.finds in search (rules, stop) };
      faults = let stop : CountsFaults c.in_err-found.field-0.0 (g.S.Source.count c.args.source.now) (g.S.Source.count c.next_line.new.source)
          (g.K.Sink.count c.args.sink.now) (g.K.Sink.count c.args.sink.now) =
          source_counts c.in_err-found.field-0.0 _ _ _ c.in_err-found.ensures.once in search (rules, stop);
      source = c.in_err-found.ensures.later;
      sink = omega arith;
    }

pub returns-in_ok-serve_line-in-Some : goal.returns-in_ok-serve_line-in-Some
returns-in_ok-serve_line-in-Some g c =
    let plugin : Plugin = record { words = c.args.words.now; rounds = c.args.rounds; key_id = c.args.key_id.now } in
    let all : List ℕ = c.next_line.new.pending in
    let left : Option (List ℕ) = g.S.Source.left c.next_line.new.source in
    let held : Option (List ℕ) = g.K.Sink.held c.args.sink.now in
    let R : Type 0 = Rose (g.S.Source.count c.args.source.now) (g.S.Source.count c.next_line.new.source) in
    let Q : Type 0 = Rose (g.K.Sink.count c.args.sink.now) (g.K.Sink.count c.serve_line.new.sink) in
    let finds : Finds left all R (Ok (Some c.in-Some.place)) = subst (λ (f : Option ℕ). Finds left all R (Ok f)) c.in-Some.is c.in_ok-found.ensures.finds in
    record {
      serves = record {
        all = all;
        grows = c.in_ok-found.ensures.grows;
        serves = line_served plugin held (g.K.Sink.held c.serve_line.new.sink) all c.serve_line.new.pending (take c.in-Some.place all) c.in-Some.place
            finds.0 finds.1 refl c.in_ok-serve_line-in-Some.ensures.left c.in_ok-serve_line-in-Some.ensures.writes;
      };
      faults = (c.in_ok-found.ensures.once, c.in_ok-serve_line-in-Some.ensures.once);
      source = c.in_ok-found.ensures.later;
      sink = c.in_ok-serve_line-in-Some.ensures.sink;
    }

pub returns-in_err-serve_line-in-Some : goal.returns-in_err-serve_line-in-Some
returns-in_err-serve_line-in-Some g c =
    let plugin : Plugin = record { words = c.args.words.now; rounds = c.args.rounds; key_id = c.args.key_id.now } in
    let all : List ℕ = c.next_line.new.pending in
    let left : Option (List ℕ) = g.S.Source.left c.next_line.new.source in
    let held : Option (List ℕ) = g.K.Sink.held c.args.sink.now in
    let R : Type 0 = Rose (g.S.Source.count c.args.source.now) (g.S.Source.count c.next_line.new.source) in
    let Q : Type 0 = Rose (g.K.Sink.count c.args.sink.now) (g.K.Sink.count c.serve_line.new.sink) in
    let finds : Finds left all R (Ok (Some c.in-Some.place)) = subst (λ (f : Option ℕ). Finds left all R (Ok f)) c.in-Some.is c.in_ok-found.ensures.finds in
    record {
      serves = record {
        all = all;
        grows = c.in_ok-found.ensures.grows;
        serves = let stop = line_failed plugin left held (g.K.Sink.held c.serve_line.new.sink) all c.serve_line.new.pending (take c.in-Some.place all) c.in-Some.place R Q
            c.in_err-serve_line-in-Some.field-0.0 finds.0 finds.1 refl c.in_err-serve_line-in-Some.ensures.writes in search (rules, stop);
      };
      faults = let stop : CountsFaults c.in_err-serve_line-in-Some.field-0.0 (g.S.Source.count c.args.source.now) (g.S.Source.count c.next_line.new.source)
          (g.K.Sink.count c.args.sink.now) (g.K.Sink.count c.serve_line.new.sink) =
          sink_counts c.in_err-serve_line-in-Some.field-0.0 _ _ _ _ c.in_ok-found.ensures.once c.in_err-serve_line-in-Some.ensures.once in search (rules, stop);
      source = c.in_ok-found.ensures.later;
      sink = c.in_err-serve_line-in-Some.ensures.sink;
    }

pub returns-in_ok-serve_last-in-None : goal.returns-in_ok-serve_last-in-None
returns-in_ok-serve_last-in-None g c =
    let plugin : Plugin = record { words = c.args.words.now; rounds = c.args.rounds; key_id = c.args.key_id.now } in
    let all : List ℕ = c.next_line.new.pending in
    let left : Option (List ℕ) = g.S.Source.left c.next_line.new.source in
    let held : Option (List ℕ) = g.K.Sink.held c.args.sink.now in
    let R : Type 0 = Rose (g.S.Source.count c.args.source.now) (g.S.Source.count c.next_line.new.source) in
    let Q : Type 0 = Rose (g.K.Sink.count c.args.sink.now) (g.K.Sink.count c.serve_last.new.sink) in
    let finds : Finds left all R (Ok None) = subst (λ (f : Option ℕ). Finds left all R (Ok f)) c.in-None.is c.in_ok-found.ensures.finds in
    record {
      serves = record {
        all = all;
        grows = c.in_ok-found.ensures.grows;
        serves = last_served plugin left held (g.K.Sink.held c.serve_last.new.sink) all c.as_slice.result.now R finds c.as_slice.ensures.bytes c.in_ok-serve_last-in-None.ensures.writes;
      };
      faults = (c.in_ok-found.ensures.once, c.in_ok-serve_last-in-None.ensures.once);
      source = c.in_ok-found.ensures.later;
      sink = c.in_ok-serve_last-in-None.ensures.sink;
    }

pub returns-in_err-serve_last-in-None : goal.returns-in_err-serve_last-in-None
returns-in_err-serve_last-in-None g c =
    let plugin : Plugin = record { words = c.args.words.now; rounds = c.args.rounds; key_id = c.args.key_id.now } in
    let all : List ℕ = c.next_line.new.pending in
    let left : Option (List ℕ) = g.S.Source.left c.next_line.new.source in
    let held : Option (List ℕ) = g.K.Sink.held c.args.sink.now in
    let R : Type 0 = Rose (g.S.Source.count c.args.source.now) (g.S.Source.count c.next_line.new.source) in
    let Q : Type 0 = Rose (g.K.Sink.count c.args.sink.now) (g.K.Sink.count c.serve_last.new.sink) in
    let finds : Finds left all R (Ok None) = subst (λ (f : Option ℕ). Finds left all R (Ok f)) c.in-None.is c.in_ok-found.ensures.finds in
    record {
      serves = record {
        all = all;
        grows = c.in_ok-found.ensures.grows;
        serves = let stop = last_failed plugin left held (g.K.Sink.held c.serve_last.new.sink) all all c.as_slice.result.now R Q
            c.in_err-serve_last-in-None.field-0.0 finds c.as_slice.ensures.bytes c.in_err-serve_last-in-None.ensures.writes in search (rules, stop);
      };
      faults = let stop : CountsFaults c.in_err-serve_last-in-None.field-0.0 (g.S.Source.count c.args.source.now) (g.S.Source.count c.next_line.new.source)
          (g.K.Sink.count c.args.sink.now) (g.K.Sink.count c.serve_last.new.sink) =
          sink_counts c.in_err-serve_last-in-None.field-0.0 _ _ _ _ c.in_ok-found.ensures.once c.in_err-serve_last-in-None.ensures.once in search (rules, stop);
      source = c.in_ok-found.ensures.later;
      sink = c.in_err-serve_last-in-None.ensures.sink;
    }
