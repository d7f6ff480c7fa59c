-- What a bench of a configuration without plugins reads.
use Rattle.std.proofs.Common.{◌≡◌, ℕ, false, List, Option, None, Some, Result, Ok, IfSome, subst}
use Rattle.std.specs.Prelude.{IfOk}
use Rattle.kr_kms.specs.Calls.{Link}
use Rattle.kr_kms.specs.Opens.{Opens}
use Rattle.kr_provider.specs.Envelopes.{unknown}
use Rattle.kr_provider.specs.Publication.{Publication, list_at, names_plugin}
use Rattle.kr_provider.specs.Reading.{HasSomeReading, data_of}
use Rattle.kr_provider.specs.Unsealing.{UnsealsBy}
use Rattle.kr_provider.specs.declared.refusal.Opened.{Opened}
use Rattle.kr_provider.specs.declared.refusal.UnsealNo.{UnsealNo}
use Rattle.test_support.specs.declared.wrong.Wrong.{Wrong}
use Rattle.kr_provider.proofs.OneReading.{somehow, without_plugin}
use Rattle.kr_provider.proofs.WithoutPlugins.{none_listed, read_by_any}

no_source : Opens
no_source key = None

module _ {L : Type 0} (link : L → Link) (resource path bytes : List ℕ)
    (olds news : List L) (opened : Opened) where
  reads_by : (p : Publication) → names_plugin p.rows ≡ false
      → UnsealsBy link p.seeds (list_at p resource) path bytes olds (Ok opened) news
      → HasSomeReading (list_at p resource) path bytes (data_of opened.plain)
  reads_by p plain u =
      let none = none_listed p.rows resource plain in
      let by = read_by_any link p.seeds (list_at p resource) path bytes olds news (Ok opened)
      none u unknown in
      somehow no_source (list_at p resource) path bytes (data_of opened.plain)
      ((without_plugin no_source (list_at p resource) path bytes (data_of opened.plain) none).1
      by.0)

  pub reads : (held : Option Publication) (result : Result Opened UnsealNo) → result ≡ Ok opened
      → IfSome held (λ p. UnsealsBy link p.seeds (list_at p resource) path bytes olds result
      news) → IfSome held (λ p. names_plugin p.rows ≡ false
      → HasSomeReading (list_at p resource) path bytes (data_of opened.plain))
  reads None result is u = tt
  reads (Some p) result is u = λ plain. reads_by p plain
      (subst (λ r. UnsealsBy link p.seeds (list_at p resource) path bytes olds r news) is u)

-- what a bench that adopted the configuration tells of the row's texts
pub opened_by : (held : Option Publication) (given p : Publication)
    (by_resource resource by_path path by_stored stored : List ℕ) (result : Result (List ℕ) Wrong)
    → held ≡ Some p → given ≡ p → by_resource ≡ resource → by_path ≡ path → by_stored ≡ stored
    → names_plugin given.rows ≡ false
    → IfSome held (λ q. names_plugin q.rows ≡ false → IfOk result (λ plain.
    HasSomeReading (list_at q by_resource) by_path by_stored (data_of plain)))
    → IfOk result (λ plain. HasSomeReading (list_at p resource) path stored (data_of plain))
opened_by held given p by_resource resource by_path path by_stored stored result is same r s t e
    told =
    let plain : names_plugin p.rows ≡ false =
    subst (λ (q : Publication). names_plugin q.rows ≡ false) same e in
    let by : names_plugin p.rows ≡ false → IfOk result (λ read.
    HasSomeReading (list_at p by_resource) by_path by_stored (data_of read)) =
    subst (λ (h : Option Publication). IfSome h (λ q. names_plugin q.rows ≡ false
    → IfOk result (λ read. HasSomeReading (list_at q by_resource) by_path by_stored
    (data_of read)))) is told in
    subst (λ x. IfOk result (λ read. HasSomeReading (list_at p x) path stored (data_of read))) r
    (subst (λ x. IfOk result (λ read. HasSomeReading (list_at p by_resource) x stored
    (data_of read))) s
    (subst (λ x. IfOk result (λ read. HasSomeReading (list_at p by_resource) by_path x
    (data_of read))) t (by plain)))
