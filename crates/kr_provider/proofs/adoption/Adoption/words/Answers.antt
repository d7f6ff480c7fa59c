-- `Adoption::words`: the settings have few keys.
use Rattle.kr_provider.proofs.Lists.{few_keys}
use Rattle.kr_provider.proofs.adoption.Adoption.words.Goals as goal

pub provider_key_words-requires-clause-few : goal.provider_key_words-requires-clause-few
provider_key_words-requires-clause-few c =
    let few = few_keys c.published.result.now.rows c.entries.ensures.kept.kept in
    rw c.entries.ensures.rows few
