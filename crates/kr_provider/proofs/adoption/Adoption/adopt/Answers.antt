-- `Adoption::adopt`: the settings have few keys, each of a good length.
use Rattle.kr_provider.proofs.Lists.{few_keys, rows_keep}
use Rattle.kr_provider.proofs.adoption.Adoption.adopt.Goals as goal

pub count_keys-requires : goal.count_keys-requires
count_keys-requires c =
    let few = few_keys c.get.result.now.rows c.entries.ensures.kept.kept in
    record { few = rw c.entries.ensures.rows few }

pub keep_all-requires-clause-rules : goal.keep_all-requires-clause-rules
keep_all-requires-clause-rules c =
    let rules = rows_keep c.get-2.result.now.rows c.entries-2.ensures.kept.kept in
    rw c.entries-2.ensures.rows rules
