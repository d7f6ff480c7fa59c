-- How long the canonical bytes of an object are, by the length of its data.
use Rattle.std.proofs.Common.{◌≡◌, ℕ, suc, ◌+◌, ◌*◌, ◌^◌, ◌<◌, ◌≤◌, List, [], ◌∷◌, ◌++◌, length, refl, ◌∙◌, ap, arith}
use Rattle.std.specs.List.{flat_map}
use Rattle.std.proofs.lemmas.List.{length-append}
use Rattle.kr_base.specs.Limits.{pairs_size}
use Rattle.kr_base.specs.Pairs.{Pairs}
use Rattle.kr_envelope.specs.declared.object.SourceKind.{SourceKind}
use Rattle.kr_envelope.specs.declared.object.SourceKind.TheVariants.{Key, Seed}
use Rattle.kr_envelope.specs.declared.object.EncryptedObject.{EncryptedObject}
use Rattle.kr_envelope.specs.Canonical.{shortest, content_field, content_size, pair_field, kind_field, canonical, IsWritable, frame_of}
use Rattle.kr_envelope.proofs.Numbers.{shortest_is}
use Rattle.kr_envelope.proofs.RoundTrip.{content_length, limits}

content_sized : (n : ℕ) (content : List ℕ) → length (content_field n content) ≡ content_size (length content)
content_sized n [] = refl
content_sized n (byte ∷ bytes) = ap (λ k. suc k) (length-append (shortest (length (byte ∷ bytes))) (byte ∷ bytes)) ∙ omega arith

-- the data's field, and what the object has without data
pub canonical_size : (o : EncryptedObject) → length (canonical o) ≡ content_size (length o.encrypted) + length (canonical (frame_of o))
canonical_size o =
    length-append (content_field 1 o.encrypted) (canonical (frame_of o))
    ∙ ap (λ k. k + length (canonical (frame_of o))) (content_sized 1 o.encrypted)

pair_length : (pair : List ℕ × List ℕ) → length pair.0 + length pair.1 ≤ 32768 → length (pair_field pair) ≤ 33 + (length pair.0 + length pair.1)
pair_length pair h =
    let text : List ℕ = content_field 1 pair.0 ++ content_field 2 pair.1 in
    let parts : length text ≤ 22 + (length pair.0 + length pair.1) = omega (arith, length-append (content_field 1 pair.0) (content_field 2 pair.1), content_length 1 pair.0 (omega arith), content_length 2 pair.1 (omega arith)) in
    let long : length text < 2 ^ 64 = omega arith in
    let size = shortest_is (length text) long in
    omega (arith, length-append (shortest (length text)) text, size.short)

pairs_length : (pairs : Pairs) → pairs_size pairs ≤ 32768 → length (flat_map pair_field pairs) ≤ 33 * length pairs + pairs_size pairs
pairs_length [] h = omega arith
pairs_length (pair ∷ pairs) h =
    let head : length (pair_field pair) ≤ 33 + (length pair.0 + length pair.1) = pair_length pair (omega arith) in
    let tail : length (flat_map pair_field pairs) ≤ 33 * length pairs + pairs_size pairs = pairs_length pairs (omega arith) in
    omega (arith, length-append (pair_field pair) (flat_map pair_field pairs), head, tail)

kind_length : (n : SourceKind) → length (kind_field n) ≤ 2
kind_length Key = omega arith
kind_length Seed = omega arith

-- an object that may be written has few bytes beside its data
pub canonical_length : (o : EncryptedObject) → IsWritable o → length o.encrypted < 2 ^ 64 → length (canonical o) ≤ length o.encrypted + 43299
canonical_length o w f =
    let l = limits o w in
    let pairs : List ℕ = flat_map pair_field o.annotations in
    let kinds : List ℕ = kind_field o.kind in
    let annotated : length pairs ≤ 33 * length o.annotations + pairs_size o.annotations = pairs_length o.annotations l.3.1 in
    let last : length (pairs ++ kinds) ≤ 41218 = omega (arith, length-append pairs kinds, annotated, l.3.0, l.3.1, kind_length o.kind) in
    let third : length (content_field 3 o.source ++ (pairs ++ kinds)) ≤ 42253 = omega (arith, length-append (content_field 3 o.source) (pairs ++ kinds), last, content_length 3 o.source (omega (arith, l.2.1)), l.2.1) in
    let second : length (content_field 2 o.key_id ++ (content_field 3 o.source ++ (pairs ++ kinds))) ≤ 43288 = omega (arith, length-append (content_field 2 o.key_id) (content_field 3 o.source ++ (pairs ++ kinds)), third, content_length 2 o.key_id (omega (arith, l.1.1)), l.1.1) in
    omega (arith, length-append (content_field 1 o.encrypted) (content_field 2 o.key_id ++ (content_field 3 o.source ++ (pairs ++ kinds))), second, content_length 1 o.encrypted f)
