-- The steps are undone from the last to the first.
use Rattle.std.proofs.Common.{◌≡◌, ℕ, ◌-◌, List, refl, sym, ap, ◌∙◌, arith}
use Rattle.kr_aes.specs.InverseCipher.{inverse_cipher}
use Rattle.kr_keywrap.specs.KeyWrap.{Registers, unwrapped_steps}
use Rattle.kr_keywrap.proofs.Blocks.{unwrapped_all, unwrapped_less}
use Rattle.kr_keywrap.proofs.key_wrap.unwrap_blocks.Goals as goal

pub loop-step-init : goal.loop-step-init
loop-step-init c = λ words is. refl

pub loop-step-preserved : goal.loop-step-preserved
loop-step-preserved c = λ words is.
    let decipher : List ℕ → List ℕ = inverse_cipher words c.args.rounds in
    let l = c.loop-step in
    ap (λ s. unwrapped_steps decipher s (l.step - 1)) (c.unwrap_step-next.ensures words is)
    ∙ unwrapped_less decipher (record { a = l.a; r = l.blocks }) l.step (omega arith)
    ∙ l.invariant words is

pub returns : goal.returns
returns c = λ words is.
    let decipher : List ℕ → List ℕ = inverse_cipher words c.args.rounds in
    let l = c.loop-step in
    let at : l.step ≡ 0 = omega arith in
    let now : Registers = record { a = l.a; r = l.blocks } in
    sym (unwrapped_all decipher now) ∙ ap (unwrapped_steps decipher now) (sym at) ∙ l.invariant words is
