use Rattle.std.proofs.Common.{◌≡◌, ◌-◌, ◌++◌, ℕ, List, length, take, drop, ap, ◌∙◌, arith}
use Rattle.std.proofs.lemmas.List.{length-drop, length-append, take_at}
use Rattle.kr_aes.specs.Cipher.{cipher}
use Rattle.kr_modes.specs.Gcm.{gcm}
use Rattle.kr_modes.proofs.gcm.gcm_seal.Goals as goal

pub returns : goal.returns
returns c =
    let plain : List ℕ = c.args.plain.now in
    let rest : List ℕ = drop (length plain) c.args.out.now in
    let copied : List ℕ = c.copy_from_slice.new.self ++ rest in
    let long : length c.copy_from_slice.new.self ≡ length plain = ap length c.copy_from_slice.ensures.after in
    let size : length copied - 16 ≡ length plain =
    omega (arith, length-append c.copy_from_slice.new.self rest, length-drop (length plain) c.args.out.now, c.requires.size, long) in
    let front : take (length copied - 16) copied ≡ plain =
    ap (λ (k : ℕ). take k copied) size ∙ take_at c.copy_from_slice.new.self rest (length plain) long ∙ c.copy_from_slice.ensures.after in
    c.gcm_seal_in_place.ensures ∙ ap (gcm (cipher c.args.words.now c.args.rounds) c.args.nonce.now c.args.aad.now) front
