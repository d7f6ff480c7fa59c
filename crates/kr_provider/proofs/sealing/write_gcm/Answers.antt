-- `write_gcm`: the nonce, and the sealed data behind it.
use Rattle.std.proofs.Common.{◌≡◌, ℕ, List, ◌-◌, ◌++◌, length, take, drop, ap, ◌∙◌, arith, length-drop}
use Rattle.kr_aes.specs.Cipher.{cipher}
use Rattle.kr_modes.specs.Gcm.{gcm}
use Rattle.kr_provider.proofs.sealing.write_gcm.Goals as goal

pub returns : goal.returns
returns c =
    let value : List ℕ = c.args.value.now in
    let body : List ℕ = c.split_at_mut-first.result.1.now in
    let body_is : body ≡ drop 12 (drop c.args.start value) =
    c.split_at_mut-first.ensures.back ∙ ap (drop 12) c.split_at_mut-room.ensures.back in
    let size : length body - 16 ≡ c.args.size = omega (
      arith,
      ap length body_is,
      length-drop 12 (drop c.args.start value),
      length-drop c.args.start value,
      c.requires.size,
    ) in
    (λ i. c.split_at_mut-room.ensures.front i
    ++ (c.copy_from_slice.ensures.after i ++ c.gcm_seal_in_place.ensures i))
    ∙ (λ i. take c.args.start value
    ++ (c.args.nonce.now ++ gcm (cipher (c.requires.words i) (c.key_rounds-rounds.ensures.rounds i))
    c.args.nonce.now (c.as_bytes.ensures.value i) (take (size i) (body_is i))))
