-- The blocks after the steps that were undone.
use Rattle.std.proofs.Common.{◌≡◌, ℕ, List}
use Rattle.kr_aes.specs.EquivalentInverse.{inverse_schedule}
use Rattle.kr_aes.specs.InverseCipher.{inverse_cipher}
use Rattle.kr_keywrap.specs.KeyWrap.{steps_of, unwrapped_steps}
use Rattle.kr_keywrap.proofs.key_wrap.unwrap_blocks.Given as goal

abbrev pub invariant-loop-step : goal.invariant-loop-step
invariant-loop-step l = (words : List ℕ) → l.inverse ≡ inverse_schedule words l.rounds
    → unwrapped_steps (inverse_cipher words l.rounds) (record { a = l.a; r = l.blocks }) l.step
    ≡ unwrapped_steps (inverse_cipher words l.rounds) (record { a = l.register; r = l.fn.blocks }) (steps_of l.fn.blocks)
