use Rattle.std.proofs.Common.{◌-◌, ℕ, List, length, refl, sym, ◌∙◌, arith}
use Rattle.std.proofs.lemmas.Bool.{both_ways}
use Rattle.std.proofs.lemmas.List.{take_rest}
use Rattle.kr_aes.specs.Cipher.{cipher}
use Rattle.kr_modes.proofs.Opening.{gcm_bad_tag, gcm_short, gcm_some}
use Rattle.kr_modes.proofs.gcm.checked_length.Goals as goal

pub returns-then-body-lt-TAG-clause-opened : goal.returns-then-body-lt-TAG-clause-opened
returns-then-body-lt-TAG-clause-opened c = gcm_short (cipher c.args.words.now c.args.rounds) c.args.nonce.now c.args.aad.now c.args.body.now c.if-body-lt-TAG.true

pub returns-then-not-is_same-clause-opened : goal.returns-then-not-is_same-clause-opened
returns-then-not-is_same-clause-opened c =
    let body : List ℕ = c.args.body.now in
    gcm_bad_tag (cipher c.args.words.now c.args.rounds) c.args.nonce.now c.args.aad.now body (length body - 16) (omega arith) refl
    (λ same. both_ways c.is_same.result c.if-not-is_same.true (c.is_same.ensures.1 (take_rest body (length body - 16) ∙ same ∙ sym c.compute_tag-tag.ensures)))

pub returns-clause-opened : goal.returns-clause-opened
returns-clause-opened c =
    let body : List ℕ = c.args.body.now in
    let size : ℕ = length body - 16 in
    let same = sym (take_rest body size) ∙ c.is_same.ensures.0 c.if-not-is_same.false ∙ c.compute_tag-tag.ensures in
    gcm_some (cipher c.args.words.now c.args.rounds) c.args.nonce.now c.args.aad.now body size (omega arith) refl same
