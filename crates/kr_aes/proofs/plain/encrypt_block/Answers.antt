use Rattle.std.proofs.Common.{◌≡◌, refl, sym, arith}
use Rattle.kr_aes.specs.Cipher.{after_rounds, cipher, round_count}
use Rattle.kr_aes.proofs.RoundCounts.{after_rounds_next, some_rounds}
use Rattle.kr_aes.proofs.plain.encrypt_block.Goals as goal

pub loop-round-init : goal.loop-round-init
unfolding after_rounds
loop-round-init c = c.add_round_key.ensures

pub loop-round-preserved : goal.loop-round-preserved
loop-round-preserved c =
    rw (c.add_round_key-in-loop-round.ensures, c.mix_columns.ensures, c.shift_rows.ensures, c.sub_bytes.ensures, c.loop-round.invariant)
    (sym (after_rounds_next c.args.words.now c.args.block.now c.loop-round.round c.loop-round.auto.round))

pub returns : goal.returns
unfolding cipher
returns c =
    let at : c.loop-round.round ≡ round_count c.args.rounds = omega (arith, some_rounds c.args.rounds, c.count-last.ensures) in
    rw (c.add_round_key-2.ensures, c.shift_rows-2.ensures, c.sub_bytes-2.ensures, c.loop-round.invariant, c.count-last.ensures, at) refl
