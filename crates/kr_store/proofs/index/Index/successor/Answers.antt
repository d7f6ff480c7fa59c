-- Answers of Index::successor.
use Rattle.std.proofs.Common.{ℕ, List}
use Rattle.std.specs.List.{filter}
use Rattle.kr_paths.specs.Paths.{is_behind}
use Rattle.kr_store.proofs.Above.{none_above, first_above}
use Rattle.kr_store.proofs.Entries.{tail_of, first_is, first_none}
use Rattle.kr_store.proofs.index.Index.successor.Goals as goal

pub returns-in-None : goal.returns-in-None
returns-in-None c = none_above (λ (k : List ℕ). k) c.args.path.now c.args.self.now.live
    (first_none (filter (is_behind c.args.path.now) c.args.self.now.live) c.in-None.ensures)

pub returns-in-Some : goal.returns-in-Some
returns-in-Some c =
    let e : List ℕ × ℕ = (c.in-Some.found.0.now, c.in-Some.found.1) in
    let behind : List (List ℕ × ℕ) = filter (is_behind c.args.path.now) c.args.self.now.live in
    let first = first_above (λ (k : List ℕ). k) c.args.path.now c.args.self.now.live e
    (tail_of behind) c.known.ensures (first_is behind e c.in-Some.ensures) in
    (e.0, first.above_it, first.has, first.least)
