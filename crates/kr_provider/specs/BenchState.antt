-- What contracts see of a bench.
use Rattle.std.specs.Prelude.{List, Option}
use Rattle.kr_kms.specs.Cache.{CacheState}
use Rattle.kr_provider.specs.KeyPages.{KeyPages}
use Rattle.kr_provider.specs.Publication.{Publication}

-- its links, its random source, the configuration that it adopted last, the pages that its keys
-- have, and the seeds that plugins unwrapped
pub record BenchState (L D : Type 0) : Type 0 where
  pub links : List L
  pub dice : D
  pub published : Option Publication
  pub pages : KeyPages
  pub cache : CacheState

-- the configuration and the pages alone
pub record Adoption : Type 0 where
  pub published : Option Publication
  pub pages : KeyPages
