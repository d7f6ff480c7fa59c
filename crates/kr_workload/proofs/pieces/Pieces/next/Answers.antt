-- `next`: a piece is drawn, and passed.
use Rattle.std.proofs.Common.{◌≡◌, ◌*◌, ℕ, length, ap, arith, subst, ◌∙◌}
use Rattle.std.specs.Prelude.{IfOk}
use Rattle.kr_workload.specs.Streams.{stream_key, piece}
use Rattle.kr_workload.proofs.Streaming.{piece_drawn, rest_long}
use Rattle.kr_workload.proofs.pieces.Pieces.next.Goals as goal

pub draw-requires : goal.draw-requires
draw-requires c =
    let seed = c.self.inside.seed in
    let number = c.self.inside.number in
    omega (
      arith,
      c.requires.few,
      ap (λ (v : ℕ × ℕ). v.1) c.self.view_is,
      ap length c.self.invariant,
      rest_long (stream_key seed 0) (32 * number),
    )

pub invariant_of-self : goal.invariant_of-self
invariant_of-self c = (piece_drawn c.self.inside.seed c.self.inside.number _ _ _
    (omega (arith, c.requires.few, ap (λ (v : ℕ × ℕ). v.1) c.self.view_is)) c.self.invariant
    c.draw.ensures.long c.draw.ensures.drawn).1

pub returns-clause-piece : goal.returns-clause-piece
returns-clause-piece c =
    subst (λ bytes. IfOk c.copy.result (λ copy. copy ≡ bytes))
    ((piece_drawn c.self.inside.seed c.self.inside.number _ _ _
    (omega (arith, c.requires.few, ap (λ (v : ℕ × ℕ). v.1) c.self.view_is)) c.self.invariant
    c.draw.ensures.long c.draw.ensures.drawn).0
    ∙ ap (λ (v : ℕ × ℕ). piece v.0 v.1) c.self.view_is) c.copy.ensures
