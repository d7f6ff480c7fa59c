-- What the tactic leaves open of `has_few_replicas`.
use Rattle.std.proofs.Common.{inl, arith}
use Rattle.kr_words.proofs.read.has_few_replicas.Goals as goal

pub returns-then-count_named-gt-REPLICA_LIMIT : goal.returns-then-count_named-gt-REPLICA_LIMIT
returns-then-count_named-gt-REPLICA_LIMIT c =
    inl (omega (arith, c.count_named.ensures, c.if-count_named-gt-REPLICA_LIMIT.true))
