-- The links of a bench, which serve its configuration after each call.
use Rattle.std.proofs.Common.{ℕ, List, Option, Some, None, Result, Err, inl, refl, sym, subst}
use Rattle.std.specs.Prelude.{IfSome}
use Rattle.kr_config.specs.declared.who.Who.{Who}
use Rattle.kr_kms.specs.Calls.{Link}
use Rattle.kr_kms.specs.declared.seeds.SeedRow.{SeedRow}
use Rattle.kr_provider.specs.AskedLinks.{AskedOnly}
use Rattle.kr_provider.specs.Names.{HasAdoptedLinks, names_of}
use Rattle.kr_provider.specs.Publication.{Publication, list_at}
use Rattle.kr_provider.specs.Readers.{reader_in}
use Rattle.kr_provider.specs.Unsealing.{UnsealsBy, plugin_reading}
use Rattle.kr_provider.specs.declared.refusal.Opened.{Opened}
use Rattle.kr_provider.specs.declared.refusal.UnsealNo.{UnsealNo}
use Rattle.kr_provider.specs.declared.refusal.UnsealNo.TheVariants.{PluginFailed, NoMemory}
use Rattle.kr_provider.proofs.AskedLists.{asked_none, names_stay}

module _ {L : Type 0} (link : L → Link) where
  pub adopted_stay : (names : List (List ℕ)) (olds news : List L) (o : Option Publication)
      → AskedOnly link names olds news → HasAdoptedLinks (names_of link olds) o
      → HasAdoptedLinks (names_of link news) o
  adopted_stay names olds news o a h =
      subst (λ l. HasAdoptedLinks l o) (sym (names_stay link names olds news a)) h

  pub unsealed_asks : (seeds : List SeedRow) (list : List Who) (path bytes : List ℕ)
      (olds news : List L) (result : Result Opened UnsealNo)
      → UnsealsBy link seeds list path bytes olds result news
      → AskedOnly link (plugin_reading (reader_in list bytes)) olds news
  unsealed_asks seeds list path bytes olds news (Err (PluginFailed name)) u =
      subst (λ o. AskedOnly link (plugin_reading o) olds news) (sym u.reader) u.others
  unsealed_asks seeds list path bytes olds news other u = u.asked

  pub unsealed_stay : (resource path bytes : List ℕ) (olds news : List L)
      (o : Option Publication) (result : Result Opened UnsealNo)
      → IfSome o (λ p. UnsealsBy link p.seeds (list_at p resource) path bytes olds result news)
      → HasAdoptedLinks (names_of link olds) o → HasAdoptedLinks (names_of link news) o
  unsealed_stay resource path bytes olds news None result u h = tt
  unsealed_stay resource path bytes olds news (Some p) result u h =
      adopted_stay (plugin_reading (reader_in (list_at p resource) bytes)) olds news (Some p)
      (unsealed_asks p.seeds (list_at p resource) path bytes olds news result u) h

  -- there was no memory for a copy of the value, and no link was asked
  pub uncopied : (resource path bytes : List ℕ) (links : List L)
      (o : Option Publication) → IfSome o (λ p. UnsealsBy link p.seeds (list_at p resource)
      path bytes links (Err NoMemory) links)
  uncopied resource path bytes links None = tt
  uncopied resource path bytes links (Some p) = record {
    asked = asked_none link (plugin_reading (reader_in (list_at p resource) bytes)) links;
    unasked = inl refl;
  }
