-- Where settings name no plugin, no link is asked, and a value is read by any envelope.
use Rattle.std.proofs.Common.{◌≡◌, ℕ, false, List, [], ◌∷◌, Option, Some, Result, Ok, Err, refl, sym, ◌∙◌, ap, subst, arith}
use Rattle.std.specs.Prelude.{◌||◌, not}
use Rattle.std.specs.List.{list_any}
use Rattle.kr_config.specs.declared.who.Who.{Who}
use Rattle.kr_config.specs.declared.who.Who.TheVariants.{Kms}
use Rattle.kr_config.specs.Kept.{ConfigEntry}
use Rattle.kr_config.specs.Lists.{list_of}
use Rattle.kr_config.specs.Providers.{is_kms}
use Rattle.kr_kms.specs.Calls.{Link}
use Rattle.kr_kms.specs.declared.seeds.SeedRow.{SeedRow}
use Rattle.kr_provider.specs.AskedLinks.{AskedOnly}
use Rattle.kr_provider.specs.Envelopes.{Envelope}
use Rattle.kr_provider.specs.Publication.{names_plugin}
use Rattle.kr_provider.specs.Readers.{is_reader, reader_in, writer_of}
use Rattle.kr_provider.specs.Reading.{Unseals, is_stale}
use Rattle.kr_provider.specs.Unsealing.{UnsealsBy, plugin_reading}
use Rattle.kr_provider.specs.declared.refusal.Opened.{Opened}
use Rattle.kr_provider.specs.declared.refusal.UnsealNo.{UnsealNo}
use Rattle.kr_provider.specs.declared.refusal.UnsealNo.TheVariants.{Refused, PluginFailed, NoMemory}
use Rattle.kr_provider.specs.inner.Scan.{AreNamedIn}
use Rattle.kr_provider.proofs.BenchLinks.{unsealed_asks}
use Rattle.kr_provider.proofs.Booleans.{or_left}
use Rattle.kr_provider.proofs.Lists.{no_names}
use Rattle.kr_provider.proofs.OneReading.{IsNoPlugin, any_envelope, no_plugin}
use Rattle.kr_provider.proofs.Places.{not_rotated}
use Rattle.kr_provider.proofs.PluginNames.{list_named}

-- ---- the list of a resource

none_named : (list : List Who) → AreNamedIn [] list → list_any is_kms list ≡ false
none_named [] n = refl
none_named (Kms name ∷ list) n = absurd (omega (arith, n.0.1))
none_named (other ∷ list) n = none_named list n.1

pub none_listed : (rows : List ConfigEntry) (resource : List ℕ) → names_plugin rows ≡ false
    → list_any is_kms (list_of rows resource) ≡ false
none_listed rows resource e = none_named (list_of rows resource)
    (subst (λ names. AreNamedIn names (list_of rows resource)) (no_names rows e)
    (list_named rows resource))

writer_no_plugin : (list : List Who) → list_any is_kms list ≡ false
    → is_kms (writer_of list) ≡ false
writer_no_plugin [] e = refl
writer_no_plugin (who ∷ rest) e = or_left (is_kms who) (list_any is_kms rest) e

-- ---- links

-- no plugin of none is asked
pub none_asked : {L : Type 0} (link : L → Link) (olds news : List L) → AskedOnly link [] olds news
    → news ≡ olds
none_asked link [] [] a = refl
none_asked link (old ∷ olds) (new ∷ news) a =
    let first = a.1 (λ c. absurd (omega (arith, c.1))) in
    let rest = none_asked link olds news a.2 in
    (λ i. first i ∷ rest i)
none_asked link other another a = absurd a

no_name : (reader : Option Who) → IsNoPlugin reader → plugin_reading reader ≡ []
no_name (Some (Kms name)) n = absurd (cc)
no_name other n = refl

-- ---- readings

same_stale : (e f : Envelope) (seeds : List SeedRow) (list : List Who) (bytes : List ℕ)
    → list_any is_kms list ≡ false → is_stale e seeds list bytes ≡ is_stale f seeds list bytes
same_stale e f seeds list bytes n =
    let writer = writer_no_plugin list n in
    ap (λ b. not (is_reader bytes (writer_of list)) || b)
    (not_rotated e seeds (writer_of list) writer ∙ sym (not_rotated f seeds (writer_of list) writer))

module _ {L : Type 0} (link : L → Link) (seeds : List SeedRow) (list : List Who)
    (path bytes : List ℕ) (olds news : List L) where
  by_any : (e : Envelope) (result : Result Opened UnsealNo) → list_any is_kms list ≡ false
      → Unseals e seeds list path bytes result → (f : Envelope)
      → Unseals f seeds list path bytes result
  by_any e (Ok opened) n u f = (
    any_envelope (reader_in list bytes) path bytes f e (no_plugin list bytes n) ∙ u.0,
    u.1 ∙ same_stale e f seeds list bytes n,
  )
  by_any e (Err (Refused why)) n u f =
      any_envelope (reader_in list bytes) path bytes f e (no_plugin list bytes n) ∙ u
  by_any e (Err (PluginFailed name)) n u f = u
  by_any e (Err NoMemory) n u f = tt

  pub read_by_any : (result : Result Opened UnsealNo) → list_any is_kms list ≡ false
      → UnsealsBy link seeds list path bytes olds result news → (envelope : Envelope)
      → Unseals envelope seeds list path bytes result
  read_by_any (Ok opened) n u envelope = by_any u.envelope (Ok opened) n u.is envelope
  read_by_any (Err (Refused why)) n u envelope =
      by_any u.envelope (Err (Refused why)) n u.is envelope
  read_by_any (Err (PluginFailed name)) n u envelope =
      let none : IsNoPlugin (Some (Kms name)) = subst IsNoPlugin u.reader
      (no_plugin list bytes n) in absurd (cc)
  read_by_any (Err NoMemory) n u envelope = tt

  pub unasked : (result : Result Opened UnsealNo) → list_any is_kms list ≡ false
      → UnsealsBy link seeds list path bytes olds result news → news ≡ olds
  unasked result n u = none_asked link olds news
      (subst (λ names. AskedOnly link names olds news)
      (no_name (reader_in list bytes) (no_plugin list bytes n))
      (unsealed_asks link seeds list path bytes olds news result u))
