use Rattle.std.proofs.Common.{◌≡◌, ◌+◌, ◌*◌, ◌-◌, ◌/◌, ◌%◌, ℕ, List, length, drop, sym, ap, ◌∙◌, arith}
use Rattle.std.proofs.lemmas.List.{length-drop}
use Rattle.kr_aes.specs.InverseCipher.{inverse_cipher}
use Rattle.kr_modes.specs.inner.Opened.{opened_from}
use Rattle.kr_modes.proofs.Opened.{opened_all, opened_none}
use Rattle.kr_modes.proofs.cbc.decrypt.Goals as goal

pub returns : goal.returns
returns c =
    let old : List ℕ = c.args.buffer.now in
    let new : List ℕ = c.decrypt_each.new.buffer in
    let decipher : List ℕ → List ℕ = inverse_cipher c.args.words.now c.args.rounds in
    let count : ℕ = (length old - c.args.from) / 16 - 1 in
    let eighths : length c.decrypt_eights.new.buffer ≡ length old = c.decrypt_eights.auto.buffer in
    let long : length new ≡ length old = c.decrypt_each.auto.buffer ∙ eighths in
    let all : length new ≡ c.args.from + 16 * count + 16 = omega (arith, long, c.requires.from, c.requires.whole) in
    let size : length (drop c.args.from old) - 16 ≡ 16 * count =
    omega (arith, length-drop c.args.from old, c.requires.from, c.requires.whole) in
    let by_eights : 8 * (count / 8) ≡ count - count % 8 = omega arith in
    let same : (length c.decrypt_eights.new.buffer - c.args.from) / 16 - 1 ≡ count =
    ap (λ (n : ℕ). (n - c.args.from) / 16 - 1) eighths in
    sym (opened_all decipher new c.args.from count (length (drop c.args.from old) - 16) all size)
    ∙ ap (λ (i : ℕ). opened_from decipher c.args.from i new) (sym same)
    ∙ c.decrypt_each.ensures
    ∙ ap (λ (i : ℕ). opened_from decipher c.args.from i c.decrypt_eights.new.buffer) (sym by_eights)
    ∙ c.decrypt_eights.ensures
    ∙ opened_none decipher old c.args.from
