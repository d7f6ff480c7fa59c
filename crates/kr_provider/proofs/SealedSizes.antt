-- How long sealed values are, and that the object of a plugin's value may be written.
use Rattle.std.proofs.Common.{◌≡◌, ℕ, suc, ◌+◌, ◌≤◌, Bool, true, false, List, [], ◌∷◌, ◌++◌, length, take, drop, Some, None, Ok, Err, Option, Result, refl, sym, ◌∙◌, ap, subst, arith, rules, length-drop}
use Rattle.std.specs.Prelude.{All, Contains, IfOk, cond, find, if◌then◌else◌, nat_lt}
use Rattle.std.specs.List.{list_all}
use Rattle.std.specs.Option.{option_map, option_map_or}
use Rattle.std.specs.Str.{bytes_eq}
use Rattle.std.proofs.lemmas.Bool.Decides.{nat_tests}
use Rattle.std.proofs.lemmas.List.{length-append, length-take-le}
use Rattle.kr_aes.specs.KeyExpansion.{padded_schedule}
use Rattle.kr_aes.proofs.Blocks.{length-cipher}
use Rattle.kr_base.specs.Rules.{IsName}
use Rattle.kr_modes.specs.Cbc.{cbc}
use Rattle.kr_modes.specs.Gcm.{gcm}
use Rattle.kr_modes.specs.Padding.{pad}
use Rattle.kr_modes.proofs.Sealed.{length-cbc-pad, length-gcm}
use Rattle.kr_envelope.specs.declared.prefix.Kind.{Kind}
use Rattle.kr_envelope.specs.declared.prefix.Kind.TheVariants as kind
use Rattle.kr_envelope.specs.Canonical.{canonical, content_size, frame_of, IsWritable, IsReadBack}
use Rattle.kr_envelope.specs.Prefixes.{head, prefix, is_marked}
use Rattle.kr_envelope.proofs.RoundTrip.{read_back, within_limits}
use Rattle.kr_envelope.proofs.Sizes.{canonical_length, canonical_size}
use Rattle.kr_config.specs.declared.who.Who.{Who}
use Rattle.kr_config.specs.declared.who.Who.TheVariants.{Identity, Aescbc, Aesgcm, Kms}
use Rattle.kr_config.specs.Providers.{is_provider}
use Rattle.kr_config.proofs.Inversions.{left as and_left}
use Rattle.kr_kms.specs.Seeds.{IsSeedRow}
use Rattle.kr_kms.specs.declared.seeds.SeedRow.{SeedRow}
use Rattle.kr_provider.specs.Ciphers.{cipher_under, rounds_under}
use Rattle.kr_provider.specs.Envelopes.{gcm_body, sealed_object, seed_body, value_key}
use Rattle.kr_provider.specs.Laws.{SealingIsSized}
use Rattle.kr_provider.specs.Publication.{list_at, seed_of, writer_at}
use Rattle.kr_provider.specs.Readers.{writer_of}
use Rattle.kr_provider.specs.Sealing.{IsBytes, Seals, draw_size, sealed_by, value_by, value_size}
use Rattle.kr_provider.specs.declared.refusal.SealNo.{SealNo}
use Rattle.kr_provider.proofs.Lists.{listed}
use Rattle.kr_provider.proofs.Rivals.{key_name, name_of}
use Rattle.kr_provider.proofs.SealedReads.{value_is}

-- what a test finds is there, and passes it
pub found : {X : Type 0} (test : X → Bool) (xs : List X) (x : X) → find test xs ≡ Some x
    → (test x ≡ true) × Contains xs x
found test [] x e = absurd (cc)
found test (y ∷ ys) x e = at (test y) refl e (found test ys x)
  where
    at : (b : Bool) → test y ≡ b → cond b (Some y) (find test ys) ≡ Some x
        → (find test ys ≡ Some x → (test x ≡ true) × Contains ys x)
        → (test x ≡ true) × Contains (y ∷ ys) x
    at true t e more = let same : y ≡ x = cc in (ap test (sym same) ∙ t, (0, omega arith, same))
    at false t e more = let c = more e in (c.0, (suc c.1.0, omega (arith, c.1.1), c.1.2))

pub of_all : {X : Type 0} (P : X → Type 0) (xs : List X) (x : X) → All P xs → Contains xs x → P x
of_all P xs x a c = subst P c.2 (a c.0 x c.1)

-- data that were sealed aren't too large
pub data_fits : (seeds : List SeedRow) (who : Who) (path plain drawn value : List ℕ)
    → sealed_by seeds who path plain drawn ≡ Some value → length plain ≤ 2097152
data_fits seeds who path plain drawn value e = within (nat_lt 2097152 (length plain)) refl e
  where
    below : nat_lt 2097152 (length plain) ≡ false → length plain ≤ 2097152
    below f = grind (arith, nat_tests)

    within : (b : Bool) → nat_lt 2097152 (length plain) ≡ b
        → (if b then None else value_by seeds who path plain drawn) ≡ Some value
        → length plain ≤ 2097152
    within true t e = absurd (cc)
    within false t e = below t

-- ---- a plugin's object

gcm_size : (key path plain nonce : List ℕ) → length nonce ≡ 12
    → length (gcm_body key path plain nonce) ≡ 12 + (length plain + 16)
gcm_size key path plain nonce size =
    length-append nonce (gcm (cipher_under key) nonce path plain)
    ∙ omega (
      arith,
      size,
      length-gcm (cipher_under key) nonce path plain
          (length-cipher (padded_schedule key) (rounds_under key)),
    )

pub seed_size : (seed path plain drawn : List ℕ) → length drawn ≡ 44
    → length (seed_body seed path plain drawn) ≡ 32 + (12 + (length plain + 16))
seed_size seed path plain drawn size =
    let info = take 32 drawn in
    let nonce = drop 32 drawn in
    let info_size : length info ≡ 32 = length-take-le 32 drawn (omega (arith, size)) in
    let nonce_size : length nonce ≡ 12 = length-drop 32 drawn ∙ omega (arith, size) in
    length-append info (gcm_body (value_key seed info) path plain nonce)
    ∙ omega (arith, info_size, gcm_size (value_key seed info) path plain nonce nonce_size)

writable : (row : SeedRow) (path plain drawn : List ℕ) → IsSeedRow row → IsBytes 44 drawn
    → IsWritable (sealed_object row path plain drawn)
writable row path plain drawn r b =
    within_limits (sealed_object row path plain drawn)
    (omega (arith, seed_size row.seed path plain drawn b.0)) r.key_id r.source r.annotations

pub written : (row : SeedRow) (path plain drawn : List ℕ) → IsSeedRow row → length plain ≤ 2097152
    → IsBytes 44 drawn → IsReadBack (canonical (sealed_object row path plain drawn))
    (sealed_object row path plain drawn)
written row path plain drawn r f b =
    read_back (canonical (sealed_object row path plain drawn)) (sealed_object row path plain drawn) refl
    (writable row path plain drawn r b)
    (record {
      fits = omega (arith, f, seed_size row.seed path plain drawn b.0);
      key_id =
          r.text;
      keys = r.keys;
      sorted = r.sorted;
    })

-- ---- values

of_value : (value result : List ℕ) → Some value ≡ Some result → length result ≡ length value
of_value value result e = let same : value ≡ result = cc in ap (λ (l : List ℕ). length l) (sym same)

pub size_by : (seeds : List SeedRow) (who : Who) (path plain drawn value : List ℕ)
    → IsBytes (draw_size who) drawn → value_by seeds who path plain drawn ≡ Some value
    → length value ≡ value_size seeds who (length plain)
size_by seeds Identity path plain drawn value b e = bare (is_marked plain) e
  where
    bare : (m : Bool) → (if m then None else Some plain) ≡ Some value → length value ≡ length plain
    bare true e = absurd (cc)
    bare false e = of_value plain value e
size_by seeds (Aescbc name secret) path plain drawn value b e =
    let start = prefix kind.Aescbc name in
    let sealed = cbc (cipher_under secret) drawn (pad plain) in
    of_value (start ++ (drawn ++ sealed)) value e ∙ length-append start (drawn ++ sealed)
    ∙ ap (λ n. length start + n) (length-append drawn sealed ∙ ap (λ n. n + length sealed) b.0
    ∙ ap (λ n. 16 + n) (length-cbc-pad (cipher_under secret)
    (length-cipher (padded_schedule secret) (rounds_under secret)) drawn plain))
size_by seeds (Aesgcm name secret) path plain drawn value b e =
    let start = prefix kind.Aesgcm name in
    let body = gcm_body secret path plain drawn in
    of_value (start ++ body) value e ∙ length-append start body
    ∙ ap (λ n. length start + n) (gcm_size secret path plain drawn b.0)
size_by seeds (Kms name) path plain drawn value b e = by_row (seed_of name seeds) e
  where
    by_row : (o : Option SeedRow) → option_map
        (λ row. prefix kind.Kms name ++ canonical (sealed_object row path plain drawn)) o ≡ Some value
        → length value ≡ option_map_or (λ row.
        length (prefix kind.Kms name) + (content_size (32 + (12 + (length plain + 16)))
        + length (canonical (frame_of (sealed_object row [] [] []))))) o 0
    by_row None e = absurd (cc)
    by_row (Some row) e =
        let start = prefix kind.Kms name in
        let object = sealed_object row path plain drawn in
        of_value (start ++ canonical object) value e ∙ length-append start (canonical object)
        ∙ ap (λ n. length start + n) (canonical_size object
        ∙ ap (λ n. content_size n + length (canonical (frame_of object)))
        (seed_size row.seed path plain drawn b.0))

-- a prefix has few bytes
head_length : (k : Kind) → length (head k) ≤ 18
head_length kind.Aescbc = first_of (omega arith, search rules)
head_length other = first_of (omega arith, search rules)

prefix_length : (k : Kind) (name : List ℕ) → IsName name → length (prefix k name) ≤ 272
unfolding prefix
prefix_length k name n = omega (
  arith,
  length-append (head k)
      (name ++ 0x3A ∷ []),
  length-append name (0x3A ∷ []),
  head_length k,
  n.1,
)

-- a value that a prefix and at most 32 bytes stand beside
few_keyed : (seeds : List SeedRow) (who : Who) (k : Kind) (name path plain drawn value : List ℕ)
    → IsName name → IsBytes (draw_size who) drawn → length plain ≤ 2097152
    → value_by seeds who path plain drawn ≡ Some value
    → value_size seeds who (length plain) ≤ length (prefix k name) + (length plain + 32)
    → length value ≤ 2162688
few_keyed seeds who k name path plain drawn value n b f e few = omega (
  arith,
  size_by seeds who path plain drawn value b e,
  f,
  few,
  prefix_length k name n,
)

few_by : (seeds : List SeedRow) (who : Who) (path plain drawn value : List ℕ) → All IsSeedRow seeds
    → is_provider who ≡ true → IsBytes (draw_size who) drawn → length plain ≤ 2097152
    → value_by seeds who path plain drawn ≡ Some value → length value ≤ 2162688
few_by seeds Identity path plain drawn value a p b f e =
    omega (arith, size_by seeds Identity path plain drawn value b e, f)
few_by seeds (Aescbc name secret) path plain drawn value a p b f e = few_keyed seeds
    (Aescbc name secret) kind.Aescbc name path plain drawn value (key_name name secret p) b f e
    (omega arith)
few_by seeds (Aesgcm name secret) path plain drawn value a p b f e = few_keyed seeds
    (Aesgcm name secret) kind.Aesgcm name path plain drawn value (key_name name secret p) b f e
    (omega arith)
few_by seeds (Kms name) path plain drawn value a p b f e = by_row (seed_of name seeds) refl e
  where
    by_row : (o : Option SeedRow) → seed_of name seeds ≡ o
        → option_map (λ row. prefix kind.Kms name ++ canonical (sealed_object row path plain drawn)) o
        ≡ Some value → length value ≤ 2162688
    by_row None s e = absurd (cc)
    by_row (Some row) s e =
        let start = prefix kind.Kms name in
        let object = sealed_object row path plain drawn in
        let long : length (seed_body row.seed path plain drawn) ≤ 2097212 =
        omega (arith, seed_size row.seed path plain drawn b.0, f) in
        let r = of_all IsSeedRow seeds row a (found (λ q. bytes_eq q.name name) seeds row s).1 in
        let all = canonical_length object (writable row path plain drawn r b)
        (omega (arith, long)) in
        omega (
          arith,
          of_value (start ++ canonical object) value e,
          length-append start
              (canonical object),
          all,
          long,
          prefix_length kind.Kms name (name_of name p),
        )

-- the writer of a resource is a provider
first_provider : (list : List Who) → 1 ≤ length list → list_all is_provider list ≡ true
    → is_provider (writer_of list) ≡ true
first_provider [] s t = absurd (omega arith)
first_provider (who ∷ rest) s t = and_left (is_provider who) (list_all is_provider rest) t

pub sealing_is_sized : SealingIsSized
sealing_is_sized = record {
  size = λ seeds who path plain drawn value b e.
      size_by seeds who path plain drawn value b (value_is seeds who path plain drawn value e);
  few = λ p resource path plain value published s.
      let who = writer_at p resource in
      let rules = listed p.rows resource published.kept in
      few_by p.seeds who path plain s.drawn value published.seeds
      (first_provider (list_at p resource) rules.some rules.providers) s.fits
      (data_fits p.seeds who path plain s.drawn value s.is)
      (value_is p.seeds who path plain s.drawn value s.is);
}

-- ---- answers of a call that seals

module _ {D : Type 0} (left : D → Option (List ℕ)) (count : D → ℕ) where
  pub few_of : (seeds : List SeedRow) (who : Who) (path plain : List ℕ) (old new : D)
      (result : Result (List ℕ) SealNo) → All IsSeedRow seeds → is_provider who ≡ true
      → Seals left count seeds who path plain old new result
      → IfOk result (λ value. length value ≤ 2162688)
  few_of seeds who path plain old new (Ok value) a p s =
      few_by seeds who path plain s.0 value a p s.1
      (data_fits seeds who path plain s.0 value s.2) (value_is seeds who path plain s.0 value s.2)
  few_of seeds who path plain old new (Err why) a p s = tt
