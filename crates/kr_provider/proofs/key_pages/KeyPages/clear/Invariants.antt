-- `KeyPages::clear`: the pages are a stack of one size.
use Rattle.std.proofs.Common.{◌≡◌, ◌+◌, ◌≤◌, length}
use Rattle.kr_provider.specs.inner.Stack.{IsStack}
use Rattle.kr_provider.proofs.key_pages.KeyPages.clear.Given as goal

abbrev pub invariant-loop-page : goal.invariant-loop-page
invariant-loop-page l = IsStack (record { pool = l.self-inside.pool; out = l.self-inside.out.0 })
    × (length l.self-inside.pool.pages ≤ length l.self-inside.out.0 + l.self-inside.out.1)
    × (length l.self-inside.pool.pages ≡ length l.initial.self-inside.pool.pages)

abbrev pub decreases-loop-page : goal.decreases-loop-page
decreases-loop-page l = length l.self-inside.out.0
