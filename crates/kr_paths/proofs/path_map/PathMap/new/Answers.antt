use Rattle.std.proofs.Common.{◌≡◌, length, refl, sym, subst}
use Rattle.kr_paths.specs.inner.Parts.{AreParts, joined}
use Rattle.kr_paths.proofs.Orders.{sorted_nil}
use Rattle.kr_paths.proofs.path_map.PathMap.new.Goals as goal

pub invariant_of-result : goal.invariant_of-result
invariant_of-result c = subst (λ l. AreParts l × (0 ≡ length (joined l))) (sym c.new.ensures.items) ((tt, sorted_nil), refl)
