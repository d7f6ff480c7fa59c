-- A new bench has a page for each key of settings that keep their rules.
use Rattle.std.proofs.Common.{◌≡◌, ◌<◌, IsTrue, ap, subst, arith}
use Rattle.kr_config.specs.Kept.{keeps, count_entry_keys}
use Rattle.kr_provider.specs.KeyPages.{KeyPages, size_of, free_pages}
use Rattle.kr_provider.specs.Publication.{Publication}
use Rattle.kr_provider.proofs.Lists.{few_keys}

pub room : (made shared : Publication) (pages : KeyPages) → IsTrue (keeps made.rows)
    → shared ≡ made → pages ≡ free_pages 64 → size_of pages < count_entry_keys shared.rows → ⊥
room made shared pages kept same new full =
    let few = few_keys made.rows kept in
    let size : size_of pages ≡ 64 = ap size_of new in
    let more = subst (λ p. size_of pages < count_entry_keys p.rows) same full in
    omega (arith, few, size, more)
