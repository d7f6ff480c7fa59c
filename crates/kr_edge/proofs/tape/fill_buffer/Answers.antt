-- What was read stands behind what was filled.
use Rattle.std.proofs.Common.{length, ◌-◌, ◌∙◌, subst, arith}
use Rattle.kr_edge.specs.Placed.{ReadsSome}
use Rattle.kr_edge.proofs.Lines.{mid_long}
use Rattle.kr_edge.proofs.Pieces.{filled_more}
use Rattle.kr_edge.proofs.Stops.{more_often, none_more}
use Rattle.kr_edge.proofs.tape.fill_buffer.Goals as goal

pub loop-filled-preserved : goal.loop-filled-preserved
loop-filled-preserved g c =
    let told = g.F.PlacedFile.told c.args.file.now in
    let into = c.loop-filled.into in
    let filled = c.loop-filled.filled in
    let piece = c.read_again.new.into in
    let n = c.in_ok-n.n in
    let whole = mid_long into piece filled c.loop-filled.invariant.within (omega arith) in
    record {
      same = whole ∙ c.loop-filled.invariant.same;
      within = omega (arith, whole, c.in_ok-n.ensures.bound.0, c.loop-filled.invariant.within);
      told = c.read_again.ensures.same ∙ c.loop-filled.invariant.told;
      read = filled_more told c.args.at filled (length into - filled) n c.in-Some.place into piece
          (omega arith) c.loop-filled.invariant.within c.in_ok-n.ensures.bound.0
          c.loop-filled.invariant.read
          (subst (λ o. ReadsSome o c.in-Some.place n piece) c.loop-filled.invariant.told
          c.in_ok-n.ensures.bytes);
      later = more_often 0 0 _ _ _ c.loop-filled.invariant.later c.read_again.ensures.later;
      calm = none_more _ _ _ c.loop-filled.invariant.calm c.in_ok-n.ensures.once;
    }

pub returns-then-n-eq0-clause-once : goal.returns-then-n-eq0-clause-once
returns-then-n-eq0-clause-once g c =
    none_more _ _ _ c.loop-filled.invariant.calm c.in_ok-n.ensures.once
