-- A value's reading: it is one, and where no plugin reads it, it is one whatever sources open to.
use Rattle.std.proofs.Common.{◌≡◌, ◌≢◌, ℕ, inl, inr, Bool, true, false, List, [], ◌∷◌, Some, None, Err, Option, Result, refl, sym, ◌∙◌, ap}
use Rattle.std.specs.Prelude.{⊤, cond, find}
use Rattle.std.specs.List.{list_any}
use Rattle.kr_envelope.specs.declared.object.EncryptedObject.{EncryptedObject}
use Rattle.kr_envelope.specs.declared.object.ObjectNo.{ObjectNo}
use Rattle.kr_envelope.specs.declared.object.ObjectNo.TheVariants.{NoMemory}
use Rattle.kr_envelope.specs.Limits.{AreOne}
use Rattle.kr_envelope.proofs.OneReading as objects
use Rattle.kr_config.specs.declared.who.Who.{Who}
use Rattle.kr_config.specs.declared.who.Who.TheVariants.{Kms}
use Rattle.kr_config.specs.Providers.{is_kms}
use Rattle.kr_kms.specs.Opens.{Opens}
use Rattle.kr_provider.specs.Envelopes.{Envelope, HasEnvelope, HasObject, source_by, unknown}
use Rattle.kr_provider.specs.Laws.{HasOneReading, ReadsSomehow, ReadsWithoutPlugin}
use Rattle.kr_provider.specs.Readers.{body_by, is_reader, reader_in}
use Rattle.kr_provider.specs.Reading.{object_reading, reader_reading}
use Rattle.kr_provider.proofs.Booleans.{or_left, or_right}

pub both_answered : (a b : Result EncryptedObject ObjectNo) → a ≢ Err NoMemory → b ≢ Err NoMemory
    → AreOne a b → a ≡ b
both_answered a b n m one = elim one [
  | inl e ↦ absurd (n e)
  | inr more ↦ elim more [ inl e ↦ absurd (m e) | inr e ↦ e ]
]

same_reading : (opens : Opens) (reader : Option Who) (path bytes : List ℕ) (e f : Envelope)
    → HasEnvelope opens reader bytes e → HasEnvelope opens reader bytes f
    → reader_reading e reader path bytes ≡ reader_reading f reader path bytes
same_reading opens (Some (Kms name)) path bytes e f h g =
    let one : e.object ≡ f.object = both_answered e.object f.object h.0.1 g.0.1
    (objects.one_reading (body_by (Kms name) bytes) e.object f.object h.0.0 g.0.0) in
    ap (λ o. object_reading o e.source path) one
    ∙ ap (λ s. object_reading f.object s path) (h.1 ∙ ap (source_by opens name) one ∙ sym g.1)
same_reading opens other path bytes e f h g = refl

pub one_reading : HasOneReading
one_reading opens list path bytes a b r s = sym r.2
    ∙ same_reading opens (reader_in list bytes) path bytes r.0 s.0 r.1 s.1 ∙ s.2

-- ---- some unwrapped source

object_there : (opens : Opens) (reader : Option Who) (bytes : List ℕ) (e : Envelope)
    → HasEnvelope opens reader bytes e → HasObject reader bytes e.object
object_there opens (Some (Kms name)) bytes e h = h.0
object_there opens other bytes e h = tt

pub somehow : ReadsSomehow
somehow opens list path bytes reading r = (
  r.0,
  object_there opens
      (reader_in list bytes) bytes r.0 r.1,
  r.2,
)

-- ---- no plugin

abbrev pub IsNoPlugin : Option Who → Type 0
IsNoPlugin None = ⊤
IsNoPlugin (Some who) = is_kms who ≡ false

pub no_plugin : (list : List Who) (bytes : List ℕ) → list_any is_kms list ≡ false
    → IsNoPlugin (reader_in list bytes)
no_plugin [] bytes e = tt
no_plugin (who ∷ rest) bytes e =
    first (is_reader bytes who) (or_left (is_kms who) (list_any is_kms rest) e)
    (no_plugin rest bytes (or_right (is_kms who) (list_any is_kms rest) e))
  where
    first : (b : Bool) → is_kms who ≡ false → IsNoPlugin (find (is_reader bytes) rest)
        → IsNoPlugin (cond b (Some who) (find (is_reader bytes) rest))
    first true here more = here
    first false here more = more

pub any_envelope : (reader : Option Who) (path bytes : List ℕ) (e f : Envelope) → IsNoPlugin reader
    → reader_reading e reader path bytes ≡ reader_reading f reader path bytes
any_envelope (Some (Kms name)) path bytes e f n = absurd (cc)
any_envelope other path bytes e f n = refl

pub has_unknown : (opens : Opens) (reader : Option Who) (bytes : List ℕ) → IsNoPlugin reader
    → HasEnvelope opens reader bytes unknown
has_unknown opens (Some (Kms name)) bytes n = absurd (cc)
has_unknown opens other bytes n = tt

pub without_plugin : ReadsWithoutPlugin
without_plugin opens list path bytes reading e =
    let reader = reader_in list bytes in
    let none = no_plugin list bytes e in (
      (λ r. any_envelope reader path bytes unknown r.0 none ∙ r.2),
      (λ is. (unknown, has_unknown opens reader bytes none, is)),
    )
