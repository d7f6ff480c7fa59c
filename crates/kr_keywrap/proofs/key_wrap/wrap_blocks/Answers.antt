-- The steps are taken from the first to the last.
use Rattle.std.proofs.Common.{◌≡◌, ℕ, ◌*◌, ◌/◌, ◌+◌, List, length, ap, ◌∙◌, arith}
use Rattle.kr_aes.specs.Cipher.{cipher}
use Rattle.kr_keywrap.specs.KeyWrap.{Registers, initial_value, wrap_step, wrapped_steps}
use Rattle.kr_keywrap.proofs.Blocks.{wrapped_more, wrapped_none}
use Rattle.kr_keywrap.proofs.key_wrap.wrap_blocks.Goals as goal

pub loop-step-init : goal.loop-step-init
loop-step-init c = wrapped_none (cipher c.args.words.now c.args.rounds) (record { a = initial_value; r = c.args.blocks.now })

pub loop-step-preserved : goal.loop-step-preserved
loop-step-preserved c =
    let encipher : List ℕ → List ℕ = cipher c.args.words.now c.args.rounds in
    let start : Registers = record { a = initial_value; r = c.args.blocks.now } in
    c.wrap_step-next.ensures ∙ ap (wrap_step encipher (c.loop-step.step + 1)) c.loop-step.invariant ∙ wrapped_more encipher start c.loop-step.step

pub returns : goal.returns
returns c =
    let start : Registers = record { a = initial_value; r = c.args.blocks.now } in
    let at : c.loop-step.step ≡ 6 * (length c.args.blocks.now / 8) = omega arith in
    c.loop-step.invariant ∙ ap (wrapped_steps (cipher c.args.words.now c.args.rounds) start) at
