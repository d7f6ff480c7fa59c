-- The blocks after the steps that were taken.
use Rattle.std.proofs.Common.{◌≡◌}
use Rattle.kr_aes.specs.Cipher.{cipher}
use Rattle.kr_keywrap.specs.KeyWrap.{Registers, initial_value, wrapped_steps}
use Rattle.kr_keywrap.proofs.key_wrap.wrap_blocks.Given as goal

abbrev pub invariant-loop-step : goal.invariant-loop-step
invariant-loop-step l =
    ◌≡◌ {A = Registers} (record { a = l.a; r = l.blocks })
    (wrapped_steps (cipher l.words l.rounds) (record { a = initial_value; r = l.fn.blocks }) l.step)
