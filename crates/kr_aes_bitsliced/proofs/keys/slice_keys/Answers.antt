use Rattle.std.proofs.Common.{◌∙◌, arith}
use Rattle.std.proofs.lemmas.List.{length-set}
use Rattle.std.proofs.lemmas.List.Edits.{fill_by_more}
use Rattle.std.proofs.lemmas.List.FromFn.{fill_by_all}
use Rattle.kr_aes_bitsliced.specs.KeyPlanes.{key_planes, round_planes}
use Rattle.kr_aes_bitsliced.proofs.keys.slice_keys.Goals as goal

pub loop-round-preserved : goal.loop-round-preserved
loop-round-preserved c =
    let inv = c.loop-round.invariant in
    let words = c.args.words.now in
    let keys = c.loop-round.keys in
    let round = c.loop-round.round in record {
      size = length-set keys round c.round_planes.result ∙ inv.size;
      done = λ k other lt.
          rw c.round_planes.ensures
          (fill_by_more (round_planes words) keys round other (omega arith)
          (λ j h. inv.done j other h) k lt);
    }

pub returns : goal.returns
unfolding key_planes
returns c =
    let inv = c.loop-round.invariant in
    let words = c.args.words.now in
    fill_by_all (round_planes words) c.loop-round.keys 15 (round_planes words 0) inv.size
    (λ k lt. inv.done k (round_planes words 0) (omega arith))
