-- The writer of a published configuration.
use Rattle.std.proofs.Common.{◌≡◌, ℕ, ◌<◌, List, [], ◌∷◌, length, get_or, ap, ◌∙◌, arith}
use Rattle.kr_config.specs.declared.who.Who.{Who}
use Rattle.kr_config.specs.Patterns.{matches}
use Rattle.kr_provider.specs.Publication.{Publication, IsPublished, list_at}
use Rattle.kr_provider.specs.Readers.{writer_of}
use Rattle.kr_opening.proofs.Passing.{first_some, rows_keep}

-- a resource's list isn't empty, and its first provider writes
pub list_some : (p : Publication) (resource : List ℕ) (list : List Who) → IsPublished p
    → list ≡ list_at p resource → 0 < length list
list_some p resource list k e = omega (
  arith,
  first_some
      (λ pattern. matches pattern resource) p.rows (rows_keep p.rows k.kept),
  ap
      (λ (l : List Who). length l) e,
)

pub first_writes : (p : Publication) (resource : List ℕ) (list : List Who) (who : Who)
    → IsPublished p → list ≡ list_at p resource → who ≡ get_or list 0 who
    → who ≡ writer_of (list_at p resource)
first_writes p resource list who k e is = by list (list_some p resource list k e) is
    ∙ ap writer_of e
  where
    by : (l : List Who) → 0 < length l → who ≡ get_or l 0 who → who ≡ writer_of l
    by [] l e = absurd (omega arith)
    by (first ∷ rest) l e = e
