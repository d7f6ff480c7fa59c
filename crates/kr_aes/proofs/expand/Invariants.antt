use Rattle.std.proofs.Common.{◌≡◌, ◌-◌, ◌++◌, length, take, replicate}
use Rattle.kr_aes.specs.KeyExpansion.{first_words}
use Rattle.kr_aes.proofs.expand.Given as goal

abbrev pub invariant-loop-i : goal.invariant-loop-i
invariant-loop-i l = record {
  size : length l.words ≡ 60;
  front : take l.i l.words ≡ first_words l.key l.i;
}

abbrev pub invariant-loop-i-2 : goal.invariant-loop-i-2
invariant-loop-i-2 l = record {
  size : length l.words ≡ 60;
  front : take l.i l.words ≡ first_words l.key l.count ++ replicate (l.i - l.count) 0;
}
