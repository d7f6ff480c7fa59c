-- `secret_place`: the keys that were passed and those still to come are all of them.
use Rattle.std.proofs.Common.{◌≡◌, ◌+◌, drop, length}
use Rattle.kr_config.specs.Kept.{rows_of}
use Rattle.kr_provider.specs.KeyPages.{secrets_in}
use Rattle.kr_provider.specs.inner.Scan.{place_from}
use Rattle.kr_provider.proofs.adopted.secret_place.Given as goal

abbrev pub invariant-loop-entry : goal.invariant-loop-entry
invariant-loop-entry l = (place_from l.before
    (secrets_in (rows_of (drop l.entry-index l.entries))) l.secret
    ≡ place_from 0 (secrets_in (rows_of l.entries)) l.secret)
    × (l.before + length (secrets_in (rows_of (drop l.entry-index l.entries)))
    ≡ length (secrets_in (rows_of l.entries)))
