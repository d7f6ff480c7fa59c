use Rattle.std.proofs.Common.{◌≡◌, ◌++◌, ℕ, List, length, take, drop, refl, ap, ◌∙◌}
use Rattle.std.proofs.lemmas.List.{take_at}
use Rattle.kr_aes.specs.Cipher.{cipher}
use Rattle.kr_modes.specs.Cbc.{cbc}
use Rattle.kr_modes.specs.Padding.{pad}
use Rattle.kr_modes.proofs.cbc.cbc_seal.Goals as goal

pub returns : goal.returns
returns c =
    let plain : List ℕ = c.args.plain.now in
    let rest : List ℕ = drop (length plain) c.args.out.now in
    let front : take (length plain) (c.copy_from_slice.new.self ++ rest) ≡ plain =
    ap (λ (xs : List ℕ). take (length plain) (xs ++ rest)) c.copy_from_slice.ensures.after ∙ take_at plain rest (length plain) refl in
    c.cbc_seal_in_place.ensures ∙ ap (λ (text : List ℕ). cbc (cipher c.args.words.now c.args.rounds) c.args.iv.now (pad text)) front
