use Rattle.std.proofs.Common.{◌≡◌, ◌+◌, ◌-◌, ℕ, List, length, take, drop, sym, ap, ◌∙◌, arith, Ok}
use Rattle.std.proofs.lemmas.List.{length-drop, length-take-le, take-append-le, take_rest}
use Rattle.std.proofs.lemmas.Slice.{between_is}
use Rattle.kr_aes.specs.Cipher.{cipher}
use Rattle.kr_modes.specs.Gcm.{gctr}
use Rattle.kr_modes.proofs.gcm.gcm_unseal_in_place.Goals as goal

pub returns-clause-opened : goal.returns-clause-opened
returns-clause-opened c =
    let encipher : List ℕ → List ℕ = cipher c.args.words.now c.args.rounds in
    let old : List ℕ = c.args.buffer.now in
    let from : ℕ = c.args.from in
    let size : ℕ = c.in_ok-size.size in
    let rest = take_rest old from in
    let fits : size + 16 ≡ length (drop from old) = c.in_ok-size.ensures.within ∙ ap length rest in
    let many : length (drop from old) ≡ length old - from = length-drop from old in
    let sum : from + size - from ≡ size = omega arith in
    let bytes : drop from (take (from + size) old) ≡ take size (drop from old) =
    sym (between_is old from (from + size)) ∙ ap (λ (k : ℕ). take k (drop from old)) sum in
    let long : length (drop from (take (from + size) old)) ≡ size =
    ap length bytes ∙ length-take-le size (drop from old) (omega (arith, fits)) in
    let room : length c.gctr.new.buffer ≡ from + size =
    c.gctr.auto.buffer ∙ length-take-le (from + size) old (omega (arith, many, fits, c.requires.from)) in
    (rw rest at c.in_ok-size.ensures.opened)
    ∙ ap Ok (ap (gctr encipher c.args.nonce.now) (sym bytes)
    ∙ sym c.gctr.ensures
    ∙ ap (λ (k : ℕ). take k c.gctr.new.buffer) long
    ∙ sym (take-append-le size c.gctr.new.buffer (drop (from + size) old) (omega (arith, room)))
    ∙ sym c.wipe_behind.ensures.front)
