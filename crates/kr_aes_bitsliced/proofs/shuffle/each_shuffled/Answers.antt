-- Each plane is shuffled.
use Rattle.kr_aes_bitsliced.proofs.ByteBits.{each_of_eight}
use Rattle.kr_aes_bitsliced.proofs.PlaneMoves.{moved_bytes}
use Rattle.kr_aes_bitsliced.proofs.shuffle.each_shuffled.Goals as goal

pub returns : goal.returns
returns g c = λ b row column hb hr hc.
    moved_bytes _ c.args.planes _
    (each_of_eight _ c.shuffled.ensures c.shuffled-2.ensures c.shuffled-3.ensures c.shuffled-4.ensures
    c.shuffled-5.ensures c.shuffled-6.ensures c.shuffled-7.ensures c.shuffled-8.ensures) b row column hr hc
