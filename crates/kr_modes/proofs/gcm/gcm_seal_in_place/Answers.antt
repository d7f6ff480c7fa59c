use Rattle.std.proofs.Common.{◌≡◌, ◌-◌, ◌≤◌, ℕ, List, ◌++◌, length, take, drop, sym, ap, ◌∙◌, arith}
use Rattle.std.proofs.lemmas.List.{length-append, length-take-le, take_all, take_at}
use Rattle.kr_aes.specs.Cipher.{cipher}
use Rattle.kr_modes.specs.Gcm.{gcm, gcm_tag, gctr}
use Rattle.kr_modes.proofs.Streams.{put_end}
use Rattle.kr_modes.proofs.gcm.gcm_seal_in_place.Goals as goal

pub returns : goal.returns
unfolding gcm
returns c =
    let encipher : List ℕ → List ℕ = cipher c.args.words.now c.args.rounds in
    let old : List ℕ = c.args.buffer.now in
    let n : ℕ = length old - 16 in
    let sealed : List ℕ = c.gctr.new.buffer in
    let rest : List ℕ = drop n old in
    let whole : length (take n old) ≡ n = length-take-le n old (omega arith) in
    let size : length sealed ≡ n = c.gctr.auto.buffer ∙ whole in
    let is : sealed ≡ gctr encipher c.args.nonce.now (take n old) = sym (take_all (length (take n old)) sealed (omega (arith, size, whole))) ∙ c.gctr.ensures in
    let front : take n (sealed ++ rest) ≡ sealed = take_at sealed rest n size in
    let most : length rest ≤ length (sealed ++ rest) - n = omega (arith, length-append sealed rest) in
    let tag = c.copy_from_slice.ensures.after ∙ c.compute_tag-tag.ensures in
    put_end sealed rest c.copy_from_slice.new.self n (length (sealed ++ rest) - n) size most
    ∙ ap (λ (t : List ℕ). sealed ++ t) (tag ∙ ap (gcm_tag encipher c.args.nonce.now c.args.aad.now) front)
    ∙ ap (λ (s : List ℕ). s ++ gcm_tag encipher c.args.nonce.now c.args.aad.now s) is
