-- A value of aesgcm or of a plugin, and the tag of a path.
use Rattle.std.proofs.Common.{◌≡◌, ℕ, ◌-◌, ◌≤◌, Bool, true, false, List, length, take, drop, Option, Some, None, Result, Ok, Err, refl, sym, ◌∙◌, ap, subst, arith, length-drop}
use Rattle.std.specs.Prelude.{if◌then◌else◌, nat_lt, bytes_eq, ok_or, ◌==◌, ◌↔◌}
use Rattle.std.proofs.lemmas.Bool.Decides.{nat_tests}
use Rattle.std.proofs.lemmas.Bool.{eqb-true, eqb-false}
use Rattle.std.proofs.lemmas.Option.{none-some, same_Some}
use Rattle.std.proofs.lemmas.Slice.Eq.{bytes_eq-Decides}
use Rattle.kr_modes.specs.declared.ModeNo.TheVariants.{Short, BadTag}
use Rattle.kr_modes.specs.Gcm.{gcm_opened, gcm_tag, gctr, ungcm}
use Rattle.kr_envelope.specs.declared.object.EncryptedObject.{EncryptedObject}
use Rattle.kr_envelope.specs.declared.object.ObjectNo.{ObjectNo}
use Rattle.kr_envelope.specs.declared.object.ObjectNo.TheVariants as object
use Rattle.kr_envelope.specs.declared.object.SourceKind.{SourceKind}
use Rattle.kr_envelope.specs.declared.object.SourceKind.TheVariants.{Key, Seed}
use Rattle.kr_config.specs.declared.who.Who.TheVariants.{Aesgcm}
use Rattle.kr_provider.specs.Ciphers.{cipher_under}
use Rattle.kr_provider.specs.Envelopes.{value_key}
use Rattle.kr_provider.specs.Laws.{HasTagIn, HasTagOf, HasTagUnder, IsData, ReadsUnderItsTag}
use Rattle.kr_provider.specs.Readers.{body_by}
use Rattle.kr_provider.specs.Reading.{Reading, gcm_reading, reader_reading, body_reading, body_under, source_reading, seed_length, object_reading, object_refusal}

not_short : (n : ℕ) → nat_lt (n - 12) 16 ≡ false → 28 ≤ n
not_short n e = grind (arith, nat_tests)

long : (n : ℕ) → 28 ≤ n → nat_lt (n - 12) 16 ≡ false
long n h = grind (arith, nat_tests)

by_cases : (b c : Bool) (plain : List ℕ) (P Q : Type 0) → (b ≡ false → P) → (P → b ≡ false)
    → (c ≡ true → Q) → (Q → c ≡ true)
    → IsData (body_reading (if b then Err Short else ok_or (if c then Some plain else None) BadTag))
    ↔ (P × Q)
by_cases true c plain P Q f g h k = (λ t. absurd t, λ both. let e = g both.0 in absurd (cc))
by_cases false true plain P Q f g h k = (λ t. (f refl, h refl), λ both. tt)
by_cases false false plain P Q f g h k = (λ t. absurd t, λ both. let e = k both.1 in absurd (cc))

under_tag : (key path body : List ℕ) → IsData (gcm_reading key path body) ↔ HasTagOf key path body
unfolding gcm_opened ungcm
under_tag key path body =
    let sealed = drop 12 body in
    let size = length sealed - 16 in
    let tag = gcm_tag (cipher_under key) (take 12 body) path (take size sealed) in
    let sized : length sealed ≡ length body - 12 = length-drop 12 body in
    let same = bytes_eq-Decides (drop size sealed) tag in
    by_cases (nat_lt (length sealed) 16) (bytes_eq (drop size sealed) tag)
    (gctr (cipher_under key) (take 12 body) (take size sealed)) (28 ≤ length body)
    (drop size sealed ≡ tag)
    (λ e. not_short (length body) (ap (λ n. nat_lt n 16) (sym sized) ∙ e))
    (λ h. ap (λ n. nat_lt n 16) sized ∙ long (length body) h) same.0 same.1

-- ---- a plugin's value

under_source : (kind : SourceKind) (source path encrypted : List ℕ)
    → IsData (body_under kind source path encrypted) ↔ HasTagUnder kind source path encrypted
under_source Key key path encrypted = under_tag key path encrypted
under_source Seed seed path encrypted =
    under_tag (value_key seed (take 32 encrypted)) path (drop 32 encrypted)

-- a source of another length reads nothing
sized_source : (kind : SourceKind) (source path encrypted : List ℕ)
    → IsData (source_reading kind source path encrypted)
    ↔ ((length source ≡ 32) × HasTagUnder kind source path encrypted)
sized_source kind source path encrypted = by (length source == 32) refl
  where
    under : IsData (body_under kind source path encrypted)
        ↔ HasTagUnder kind source path encrypted
    under = under_source kind source path encrypted

    by : (v : Bool) → (length source == 32) ≡ v
        → IsData (if v then body_under kind source path encrypted else seed_length)
        ↔ ((length source ≡ 32) × HasTagUnder kind source path encrypted)
    by true e = (λ t. (eqb-true (length source) 32 e, under.0 t), λ both. under.1 both.1)
    by false e = (λ t. absurd t, λ both. absurd (eqb-false (length source) 32 e both.0))

in_object : (read : Result EncryptedObject ObjectNo) (source : Option (List ℕ)) (path : List ℕ)
    → IsData (object_reading read source path)
    ↔ HasTagIn (record { object = read; source = source }) path
in_object (Ok object) (Some source) path =
    let s = sized_source object.kind source path object.encrypted in (
      λ t. (object, source, refl, refl, (s.0 t).0, (s.0 t).1),
      given,
    )
  where
    given : HasTagIn (record { object = Ok object; source = Some source }) path
        → IsData (object_reading (Ok object) (Some source) path)
    given (own, bytes, o, b, sized, tag) =
        let same : object ≡ own = (let q : object ≡ own = cc in q) in
        let bytes_are : source ≡ bytes = same_Some source bytes b in
        (sized_source object.kind source path object.encrypted).1 (
          ap (λ (x : List ℕ). length x) bytes_are ∙ sized,
          subst (λ (x : EncryptedObject). HasTagUnder x.kind source path x.encrypted) (sym same)
              (subst (λ (x : List ℕ). HasTagUnder own.kind x path own.encrypted) (sym bytes_are)
              tag),
        )
in_object (Ok object) None path =
    (λ t. absurd t, λ tag. absurd (none-some tag.1 tag.3))
in_object (Err why) source path = (λ t. absurd (no_data why t), λ tag. absurd (err_is tag.0 tag.2))
  where
    err_is : (own : EncryptedObject) → ◌≡◌ {A = Result EncryptedObject ObjectNo} (Err why) (Ok own)
        → ⊥
    err_is own e = cc

    no_data : (why : ObjectNo) → IsData (object_refusal why) → ⊥
    no_data (object.Wire at) t = absurd t
    no_data object.KeyId t = absurd t
    no_data object.Source t = absurd t
    no_data object.Annotations t = absurd t
    no_data object.SourceType t = absurd t
    no_data object.NoData t = absurd t
    no_data (object.NotUtf8 at) t = absurd t
    no_data object.NoMemory t = absurd t

-- ---- the law

pub under_its_tag : ReadsUnderItsTag
under_its_tag = record {
  aesgcm = λ envelope list name secret path bytes r.
      let body = body_by (Aesgcm name secret) bytes in
      let P : Reading → Type 0 = λ reading. IsData reading ↔ HasTagOf secret path body in
      subst P (sym (ap (λ o. reader_reading envelope o path bytes) r)) (under_tag secret path body);
  kms = λ envelope list name path bytes r.
      let P : Reading → Type 0 = λ reading. IsData reading ↔ HasTagIn envelope path in
      subst P (sym (ap (λ o. reader_reading envelope o path bytes) r))
      (in_object envelope.object envelope.source path);
}
