-- `keep_all`: what is kept and what is still to come are all keys.
use Rattle.std.proofs.Common.{◌≡◌, ◌++◌, drop, map}
use Rattle.kr_aes.specs.KeyExpansion.{padded_schedule}
use Rattle.kr_config.specs.Kept.{rows_of}
use Rattle.kr_provider.specs.KeyPages.{words_out, secrets_in, size_of}
use Rattle.kr_provider.specs.inner.Stack.{IsStack}
use Rattle.kr_provider.proofs.adopted.keep_all.Given as goal

abbrev pub invariant-loop-entry : goal.invariant-loop-entry
invariant-loop-entry l = IsStack l.pages × (size_of l.pages ≡ size_of l.initial.pages)
    × (words_out l.pages ++ map padded_schedule
    (secrets_in (rows_of (drop l.entry-index l.entries)))
    ≡ map padded_schedule (secrets_in (rows_of l.entries)))
