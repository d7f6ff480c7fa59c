use Rattle.std.proofs.Common.{ℕ, ◌≡◌, ◌<◌, ◌+◌, ◌-◌, ◌*◌, ◌∙◌, length, refl, sym, arith}
use Rattle.std.proofs.lemmas.List.{append-nil, length-set}
use Rattle.std.proofs.lemmas.List.Elements.{All-from_get_or}
use Rattle.kr_aes.specs.Cipher.{round_count}
use Rattle.kr_aes.specs.KeyExpansion.{first_words}
use Rattle.kr_aes.proofs.Expansion.{KeyRounds, KeyRounds-of, first_words_more, zeros_more, padded_from}
use Rattle.kr_aes.proofs.expand.Goals as goal

pub loop-i-init : goal.loop-i-init
unfolding first_words
loop-i-init c = record { size = c.told-words; front = refl }

pub loop-i-preserved : goal.loop-i-preserved
loop-i-preserved c =
    let inv = c.loop-i.invariant in
    let key : KeyRounds (length c.args.key.now) (round_count c.in-Some.rounds) = KeyRounds-of _ c.in-Some.rounds c.in-Some.ensures in record {
      size = length-set c.loop-i.words c.loop-i.i c.next_word.result ∙ inv.size;
      front = first_words_more c.args.key.now c.loop-i.words c.loop-i.i c.next_word.result key.some (omega arith) inv.front c.next_word.ensures;
    }

pub loop-i-2-init : goal.loop-i-2-init
loop-i-2-init c =
    let inv = c.loop-i.invariant in
    let count : ℕ = 4 * (c.count.result + 1) in
    let at : c.loop-i.i ≡ count = omega arith in
    let none : count - count ≡ 0 = omega arith in record {
      size = inv.size;
      front = rw none (rw at at inv.front ∙ sym (append-nil (first_words c.args.key.now count)));
    }

pub loop-i-2-preserved : goal.loop-i-2-preserved
loop-i-2-preserved c =
    let inv = c.loop-i-2.invariant in
    let count : ℕ = 4 * (c.count.result + 1) in record {
      size = length-set c.loop-i-2.words c.loop-i-2.i 0 ∙ inv.size;
      front = zeros_more (first_words c.args.key.now count) c.loop-i-2.words c.loop-i-2.i count (omega arith) (omega arith) inv.front;
    }

pub returns-clause-written : goal.returns-clause-written
returns-clause-written c =
    let inv = c.loop-i-2.invariant in
    let key : KeyRounds (length c.args.key.now) (round_count c.in-Some.rounds) = KeyRounds-of _ c.in-Some.rounds c.in-Some.ensures in
    padded_from c.args.key.now c.loop-i-2.words (4 * (c.count.result + 1)) c.loop-i-2.i inv.size (omega arith) (omega arith) inv.front

pub returns-clause-schedule : goal.returns-clause-schedule
returns-clause-schedule c = record {
  key = c.args.key.now;
  bytes = All-from_get_or (λ byte. byte < 256) c.args.key.now 0 (λ i lt. (c.type_inv.key i).fits);
  size = c.in-Some.ensures;
  expansion =
      let inv = c.loop-i-2.invariant in
      let key : KeyRounds (length c.args.key.now) (round_count c.in-Some.rounds) = KeyRounds-of _ c.in-Some.rounds c.in-Some.ensures in
      padded_from c.args.key.now c.loop-i-2.words (4 * (c.count.result + 1)) c.loop-i-2.i inv.size (omega arith) (omega arith) inv.front;
}
