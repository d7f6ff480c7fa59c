use Rattle.std.proofs.Common.{◌≡◌, ◌+◌, ◌*◌, ◌-◌, ◌≤◌, List, ℕ, [], ◌∷◌, ◌++◌, length, take, sym, ap, ◌∙◌, arith}
use Rattle.std.specs.Int.{div_ceil}
use Rattle.std.proofs.lemmas.List.{take_all}
use Rattle.kr_hkdf.specs.Hmac.{hmac}
use Rattle.kr_hkdf.specs.Hkdf.{hkdf_expand, output_blocks, output_block}
use Rattle.kr_hkdf.proofs.Blocks.{output_block-more, written_block, write_block}
use Rattle.kr_hkdf.proofs.expand.Goals as goal

pub loop-index-preserved : goal.loop-index-preserved
loop-index-preserved c =
    let prk = c.args.prk.now in
    let info = c.args.info.now in
    let l = c.loop-index in
    let n = l.index in
    let fits : 32 * n ≤ length l.out = omega (arith, c.min-end.ensures) in
    let previous = written_block prk info l.out n c.saturating_sub.result fits c.saturating_sub.ensures l.invariant.written in
    let block : c.output_block-block.result ≡ output_block prk info (n + 1) =
    c.output_block-block.ensures prk c.new-keyed.ensures
    ∙ ap (λ (t : List ℕ). hmac prk (t ++ info ++ (n + 1) ∷ [])) previous
    ∙ sym (output_block-more prk info n) in
    let step = write_block prk info l.out c.copy_from_slice.new.self n c.min-end.result fits c.min-end.ensures l.invariant.written
    (c.copy_from_slice.ensures.after ∙ ap (take (c.min-end.result - 32 * n)) block) in
    record {
      same_length = step.0 ∙ l.invariant.same_length;
      written = step.1 ∙ ap (λ (size : ℕ). take size (output_blocks prk info (n + 1))) (sym step.0);
    }

pub returns : goal.returns
unfolding hkdf_expand
returns c =
    let l = c.loop-index in
    let count : l.index ≡ div_ceil (length c.args.out.now) 32 = omega (arith, c.div_ceil-index-end.ensures) in
    let enough : length l.out ≤ 32 * l.index = omega arith in
    sym (take_all (32 * l.index) l.out enough) ∙ l.invariant.written
    ∙ ap (λ (size : ℕ). take size (output_blocks c.args.prk.now c.args.info.now l.index)) l.invariant.same_length
    ∙ ap (λ (n : ℕ). take (length c.args.out.now) (output_blocks c.args.prk.now c.args.info.now n)) count
