-- `fill`: the body stands in the middle.
use Rattle.std.proofs.Common.{◌≡◌, ℕ, ap, arith, ◌+◌, ◌-◌, ◌∙◌}
use borrow.Rule.Slice.PartMut.{put_mid}
use Rattle.kr_provider.specs.Envelopes.{seed_body}
use Rattle.kr_provider.proofs.Framed.{data_of_part}
use Rattle.kr_provider.proofs.seed_sealing.fill.Goals as goal

pub returns : goal.returns
returns c =
    let size : ℕ = 44 + c.args.size + 16 in
    let end : ℕ = c.args.start + 32 + 12 + c.args.size + 16 in
    let long : end - c.args.start ≡ size = omega arith in
    ap (λ k. put_mid c.args.start k c.args.value.now c.write_body.new.room) long
    ∙ ap (put_mid c.args.start size c.args.value.now) (c.write_body.ensures
    ∙ ap (λ plain. seed_body c.args.seed.now c.args.path.now plain c.args.drawn.now)
    (data_of_part c.args.value.now c.args.start end c.args.size (omega arith)))
