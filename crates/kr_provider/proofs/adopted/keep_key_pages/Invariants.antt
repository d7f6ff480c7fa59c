-- `keep_key_pages`: what is kept and what is still to come are the keys of the providers.
use Rattle.std.proofs.Common.{◌≡◌, ◌++◌, drop, map}
use Rattle.kr_aes.specs.KeyExpansion.{padded_schedule}
use Rattle.kr_provider.specs.KeyPages.{words_out, secrets_among, size_of}
use Rattle.kr_provider.specs.inner.Stack.{IsStack}
use Rattle.kr_provider.proofs.adopted.keep_key_pages.Given as goal

abbrev pub invariant-loop-who : goal.invariant-loop-who
invariant-loop-who l = IsStack l.pages × (size_of l.pages ≡ size_of l.initial.pages)
    × (words_out l.pages ++ map padded_schedule (secrets_among (drop l.who-index l.providers))
    ≡ words_out l.initial.pages ++ map padded_schedule (secrets_among l.providers))
