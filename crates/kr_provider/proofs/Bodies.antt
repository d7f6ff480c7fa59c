-- Bodies with a nonce in front.
use Rattle.std.proofs.Common.{◌≡◌, ℕ, ◌+◌, ◌<◌, List, length, take, drop, sym, ◌∙◌, ap, arith, length-drop, drop-drop}
use Rattle.std.specs.Prelude.{if◌then◌else◌, nat_lt, ok_or, Err}
use Rattle.kr_modes.specs.declared.ModeNo.TheVariants.{Short, BadTag}
use Rattle.kr_modes.specs.Gcm.{gcm_opened, ungcm}
use Rattle.kr_provider.specs.Ciphers.{cipher_under}
use Rattle.kr_provider.specs.declared.refusal.ValueNo.TheVariants as value
use Rattle.kr_provider.specs.Reading.{gcm_reading, body_reading, refused}

-- a body without a whole nonce is too short
pub short_body : (key path body : List ℕ) → length body < 12
    → gcm_reading key path body ≡ refused value.Short
unfolding gcm_opened
short_body key path body h =
    let none : length (drop 12 body) ≡ 0 = length-drop 12 body ∙ omega arith in
    ap (λ n. body_reading (if nat_lt n 16 then Err Short else ok_or
    (ungcm (cipher_under key) (take 12 body) path (drop 12 body)) BadTag)) none

-- a body that stands behind other bytes
pub body_parts : (key path value nonce : List ℕ) (from k : ℕ) → k ≡ 12
    → nonce ≡ take k (drop from value)
    → gcm_reading key path (drop from value)
    ≡ body_reading (gcm_opened (cipher_under key) nonce path (drop (from + 12) value))
body_parts key path value nonce from k size is =
    let first : take 12 (drop from value) ≡ nonce = (λ i. take (sym size i) (drop from value)) ∙ sym is in
    let rest : drop 12 (drop from value) ≡ drop (from + 12) value = drop-drop 12 from value in
    (λ i. body_reading (gcm_opened (cipher_under key) (first i) path (rest i)))
