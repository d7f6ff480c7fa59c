-- `provider_key_place`: the place counts the keys that were passed.
use Rattle.std.proofs.Common.{◌≡◌, ◌+◌, drop, length}
use Rattle.kr_provider.specs.KeyPages.{secrets_among}
use Rattle.kr_provider.specs.inner.Scan.{place_from}
use Rattle.kr_provider.proofs.adopted.provider_key_place.Given as goal

abbrev pub invariant-loop-who : goal.invariant-loop-who
invariant-loop-who l = (place_from l.place (secrets_among (drop l.who-index l.providers)) l.secret
    ≡ place_from l.before (secrets_among l.providers) l.secret)
    × (l.place + length (secrets_among (drop l.who-index l.providers))
    ≡ l.before + length (secrets_among l.providers))
