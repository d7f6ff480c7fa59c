-- `KeyPages::new`: a new pool is a stack of which nothing is out.
use Rattle.std.proofs.Common.{ap, ◌∙◌, arith, length, List, ℕ}
use Rattle.std.proofs.lemmas.List.{length-replicate}
use Rattle.kr_pages.specs.Pool.{zero_page}
use Rattle.kr_provider.proofs.Stacks.{IsStack-free_pages}
use Rattle.kr_provider.proofs.key_pages.KeyPages.new.Goals as goal

pub invariant_of-result : goal.invariant_of-result
invariant_of-result c =
    let size = ap (λ (l : List (List ℕ)). length l) c.in-Ok.ensures.pages
    ∙ length-replicate c.args.size zero_page in (
      IsStack-free_pages _ c.in-Ok.ensures.pool c.args.size c.in-Ok.ensures.pages c.in-Ok.ensures.free
          (c.reserve.ensures.items ∙ c.new-out.ensures),
      omega (arith, size, c.in-Ok-reserve.ensures.ok),
    )

pub returns-in-Ok-reserve-clause-stack : goal.returns-in-Ok-reserve-clause-stack
returns-in-Ok-reserve-clause-stack c = (invariant_of-result c).0
