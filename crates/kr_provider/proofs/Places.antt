-- The reader of a value, by its place in the list.
use Rattle.std.proofs.Common.{◌≡◌, ℕ, zero, suc, ◌<◌, ◌≤◌, ◌-◌, Bool, true, false, List, [], ◌∷◌, length, drop, get_or, Option, Some, None, Ok, inl, inr, refl, sym, ◌∙◌, ap, subst, arith}
use Rattle.std.specs.Prelude.{◌&&◌, ◌||◌, not, nat_eq}
use Rattle.std.proofs.lemmas.Bool.Decides.{nat_tests}
use Rattle.std.proofs.lemmas.Bool.{cases_lt}
use Rattle.std.proofs.lemmas.List.{drop_all, length-drop}
use Rattle.std.proofs.lemmas.List.Quantifiers.{position-Some}
use Rattle.kr_config.specs.declared.who.Who.{Who}
use Rattle.kr_config.specs.declared.who.Who.TheVariants.{Identity, Kms}
use Rattle.kr_config.specs.Providers.{is_kms}
use Rattle.kr_kms.specs.declared.seeds.SeedRow.{SeedRow}
use Rattle.kr_kms.proofs.Lent.{found_at, no_place}
use Rattle.kr_provider.specs.Envelopes.{Envelope}
use Rattle.kr_envelope.specs.declared.object.EncryptedObject.{EncryptedObject}
use Rattle.kr_provider.specs.Publication.{seed_of}
use Rattle.kr_provider.specs.Readers.{body_by, is_reader, prefix_by, reader_in, reader_place, writer_of}
use Rattle.kr_provider.specs.Reading.{is_current, is_rotated, is_stale}
use Rattle.kr_provider.specs.inner.Sources.{IsReadBy}

pub reader_found : (list : List Who) (bytes : List ℕ) (place : ℕ) (who : Who)
    → reader_place list bytes ≡ Some place → who ≡ get_or list place who
    → reader_in list bytes ≡ Some who
reader_found list bytes place who e is = found_at (is_reader bytes) list place who e is

pub reader_within : (list : List Who) (bytes : List ℕ) (place : ℕ) (who : Who)
    → reader_place list bytes ≡ Some place → place < length list
reader_within list bytes place who e = (position-Some (is_reader bytes) list place who e).0

pub reader_reads : (list : List Who) (bytes : List ℕ) (place : ℕ) (who : Who)
    → reader_place list bytes ≡ Some place → who ≡ get_or list place who
    → is_reader bytes who ≡ true
reader_reads list bytes place who e is = ap (is_reader bytes) is
    ∙ (position-Some (is_reader bytes) list place who e).1

pub unread : (list : List Who) (bytes : List ℕ) → reader_place list bytes ≡ None
    → reader_in list bytes ≡ None
unread list bytes e = no_place (is_reader bytes) list e

-- ---- whether the reader is the first

later : (i : ℕ) → nat_eq (suc i) 0 ≡ false
later i = grind (arith, nat_tests)

pub read_by : (list : List Who) (bytes body : List ℕ) (place : ℕ) (who : Who) → 1 ≤ length list
    → reader_place list bytes ≡ Some place → who ≡ get_or list place who
    → body ≡ body_by who bytes → IsReadBy list bytes who body (nat_eq place 0)
read_by [] bytes body place who some e is b = absurd (omega (arith, some))
read_by (first ∷ rest) bytes body place who some e is b =
    let at = position-Some (is_reader bytes) (first ∷ rest) place first e in record {
      reader = reader_found (first ∷ rest) bytes place who e is;
      body_is = b;
      first_is = by_place place at.1 at.2;
      writer = λ t. sym (is ∙ ap (λ i. get_or (first ∷ rest) i who) (same place t));
    }
  where
    same : (i : ℕ) → nat_eq i 0 ≡ true → i ≡ 0
    same zero t = refl
    same (suc i) t = let f = later i in absurd (cc)

    by_place : (i : ℕ) → is_reader bytes (get_or (first ∷ rest) i first) ≡ true
        → ((k : ℕ) → k < i → is_reader bytes (get_or (first ∷ rest) k first) ≡ false)
        → is_reader bytes first ≡ nat_eq i 0
    by_place zero t f = t
    by_place (suc i) t f = f 0 (omega arith) ∙ sym (later i)

pub read_by_plugin : (list : List Who) (bytes body : List ℕ) (place : ℕ) (who : Who)
    (name asked : List ℕ) → 1 ≤ length list → reader_place list bytes ≡ Some place
    → who ≡ get_or list place who → body ≡ body_by who bytes → who ≡ Kms name → asked ≡ name
    → IsReadBy list bytes (Kms asked) body (nat_eq place 0)
read_by_plugin list bytes body place who name asked some e is b k s =
    subst (λ w. IsReadBy list bytes w body (nat_eq place 0)) (k ∙ ap (λ n. Kms n) (sym s))
    (read_by list bytes body place who some e is b)

pub no_plugin : (who : Who) → ((name : List ℕ) → who ≡ Kms name → ⊥) → is_kms who ≡ false
no_plugin (Kms name) n = absurd (n name refl)
no_plugin other n = refl

pub not_rotated : (envelope : Envelope) (seeds : List SeedRow) (who : Who) → is_kms who ≡ false
    → is_rotated envelope seeds who ≡ false
not_rotated envelope seeds (Kms name) e = absurd (cc)
not_rotated envelope seeds other e = refl

-- a value that no plugin reads is stale where another reads it than the first
pub stale_by_first : (envelope : Envelope) (seeds : List SeedRow) (list : List Who)
    (bytes body : List ℕ) (who : Who) (first : Bool) → is_kms who ≡ false
    → IsReadBy list bytes who body first → is_stale envelope seeds list bytes ≡ not first
stale_by_first envelope seeds list bytes body who true k r =
    ap (λ b. not b || is_rotated envelope seeds (writer_of list)) r.first_is
    ∙ ap (is_rotated envelope seeds) (r.writer refl) ∙ not_rotated envelope seeds who k
stale_by_first envelope seeds list bytes body who false k r =
    ap (λ b. not b || is_rotated envelope seeds (writer_of list)) r.first_is

-- one that a plugin reads is stale where its object isn't current, too
pub stale_by_plugin : (object : EncryptedObject) (source : Option (List ℕ)) (seeds : List SeedRow)
    (row : SeedRow) (list : List Who) (bytes body name : List ℕ) (first : Bool)
    → seed_of name seeds ≡ Some row → IsReadBy list bytes (Kms name) body first
    → is_stale (record { object = Ok object; source = source }) seeds list bytes
    ≡ not (first && is_current (Some row) (Ok object))
stale_by_plugin object source seeds row list bytes body name true s r =
    ap (λ b. not b || is_rotated (record { object = Ok object; source = source }) seeds
    (writer_of list)) r.first_is
    ∙ ap (is_rotated (record { object = Ok object; source = source }) seeds) (r.writer refl)
    ∙ ap (λ o. not (is_current o (Ok object))) s
stale_by_plugin object source seeds row list bytes body name false s r =
    ap (λ b. not b || is_rotated (record { object = Ok object; source = source }) seeds
    (writer_of list)) r.first_is

-- ---- where the body begins

behind : (k : ℕ) (bytes : List ℕ) → drop (length bytes - length (drop k bytes)) bytes ≡ drop k bytes
behind k bytes = elim (cases_lt (length bytes) k) [
  | inr within ↦
      let at : length bytes - length (drop k bytes) ≡ k = omega (arith, length-drop k bytes) in
      ap (λ n. drop n bytes) at
  | inl past ↦
      let at : length bytes - length (drop k bytes) ≡ length bytes = omega (arith, length-drop k bytes) in
      ap (λ n. drop n bytes) at ∙ drop_all (length bytes) bytes (omega arith) ∙ sym (drop_all k bytes (omega arith))
]

-- the body of a value, by how much stands before it
pub body_behind : (who : Who) (bytes body value : List ℕ) → bytes ≡ value → body ≡ body_by who bytes
    → drop (length bytes - length body) value ≡ body_by who value
body_behind who bytes body value same is =
    (λ i. drop (length (same i) - length (there i)) value)
    ∙ behind (length (prefix_by who)) value
  where
    there : body ≡ body_by who value
    there = is ∙ ap (body_by who) same

-- before what identity reads nothing stands
pub bare_behind : (who : Who) (bytes body : List ℕ) → body ≡ body_by who bytes → who ≡ Identity
    → length bytes - length body ≡ 0
bare_behind who bytes body is e =
    let whole : body ≡ bytes = is ∙ ap (λ w. body_by w bytes) e in
    let long : length body ≡ length bytes = ap length whole in
    omega (arith, long)
