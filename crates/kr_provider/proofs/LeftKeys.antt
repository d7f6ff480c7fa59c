-- What calls leave of key pages, one after another.
use Rattle.std.proofs.Common.{◌≡◌, ◌||◌, Bool, true, false, sym, ap, subst, ◌∙◌}
use Rattle.kr_provider.specs.BenchKeys.{ClearsKeys, LeavesKeys}
use Rattle.kr_provider.specs.BenchState.{Adoption}
use Rattle.kr_provider.specs.KeyPages.{size_of}

-- pages with as many were laid down
pub laid_down : (old mid new : Adoption) → size_of mid.pages ≡ size_of old.pages
    → ClearsKeys mid new → ClearsKeys old new
laid_down old mid new e c = record {
  none = c.none;
  keys = c.keys;
  size = c.size ∙ e;
}

-- one call after another
pub leaves_then : (first second : Bool) (old mid new : Adoption) → LeavesKeys first old mid
    → LeavesKeys second mid new → LeavesKeys (first || second) old new
leaves_then false false old mid new a b = b ∙ a
leaves_then false true old mid new a c =
    laid_down old mid new (ap (λ (k : Adoption). size_of k.pages) a) c
leaves_then true false old mid new c b = subst (ClearsKeys old) (sym b) c
leaves_then true true old mid new a c = laid_down old mid new a.size c
