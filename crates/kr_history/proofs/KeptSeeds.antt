-- What is kept behind a reading opens, by what agrees with its exchanges.
use Rattle.std.proofs.Common.{sym, subst}
use Rattle.kr_kms.specs.Cache.{AreOpenBy, CacheState}
use Rattle.kr_kms.proofs.Opening.{fetch_open}
use Rattle.kr_provider.specs.Envelopes.{seed_key}
use Rattle.kr_provider.specs.Exchanges.{fetched, no_memory, unasked}
use Rattle.kr_history.specs.ExchangeLaws.{KeptSeedsOpen}

pub kept_open : KeptSeedsOpen
kept_open opens seeds list path bytes cache result after _ (no_memory is same) agree so =
    subst (λ (c : CacheState). AreOpenBy opens c.rows) (sym same) so
kept_open opens seeds list path bytes cache result after _
    (unasked envelope has takes none n u same) agree so =
    subst (λ (c : CacheState). AreOpenBy opens c.rows) (sym same) so
kept_open opens seeds list path bytes cache result after es
    (fetched name object source reader is may fetches u) agree so =
    (fetch_open opens (seed_key name object) cache source after es fetches agree so).0
