use Rattle.std.proofs.Common.{◌≡◌, ◌-◌, ℕ, List, length, take, drop, Ok, sym, ap, ◌∙◌, arith}
use Rattle.std.proofs.lemmas.List.{length-drop, length-take}
use Rattle.kr_aes.specs.InverseCipher.{inverse_cipher}
use Rattle.kr_modes.proofs.Opening.{cbc_none, cbc_some}
use Rattle.kr_modes.proofs.cbc.open.Goals as goal

-- how long the data are, where the buffer has kept its length
data_length : (old new : List ℕ) (from : ℕ) → length new ≡ length old
    → length new - from - 16 ≡ length (drop from old) - 16
data_length old new from kept = omega (arith, length-drop from old, kept)

pub returns-in-Some-clause-opened : goal.returns-in-Some-clause-opened
returns-in-Some-clause-opened c =
    let old : List ℕ = c.args.buffer.now in
    let size : ℕ = length c.decrypt.new.buffer - c.args.from - 16 in
    let long = length-drop c.args.from old in
    cbc_some (inverse_cipher c.args.words.now c.args.rounds) (drop c.args.from old) c.decrypt.new.buffer size c.in-Some.length
    (omega (arith, long, c.requires.from)) (omega (arith, long, c.requires.whole))
    (ap (λ (k : ℕ). take k c.decrypt.new.buffer) (data_length old c.decrypt.new.buffer c.args.from c.decrypt.auto.buffer) ∙ c.decrypt.ensures)
    (omega (arith, length-take size c.decrypt.new.buffer, c.in-Some.ensures.within)) c.in-Some.ensures.value
    ∙ ap Ok (sym c.wipe_behind.ensures.front)

pub returns-in-None-clause-opened : goal.returns-in-None-clause-opened
returns-in-None-clause-opened c =
    let old : List ℕ = c.args.buffer.now in
    let size : ℕ = length c.decrypt.new.buffer - c.args.from - 16 in
    let long = length-drop c.args.from old in
    cbc_none (inverse_cipher c.args.words.now c.args.rounds) (drop c.args.from old) c.decrypt.new.buffer size
    (omega (arith, long, c.requires.from)) (omega (arith, long, c.requires.whole))
    (ap (λ (k : ℕ). take k c.decrypt.new.buffer) (data_length old c.decrypt.new.buffer c.args.from c.decrypt.auto.buffer) ∙ c.decrypt.ensures)
    c.in-None.ensures.value
