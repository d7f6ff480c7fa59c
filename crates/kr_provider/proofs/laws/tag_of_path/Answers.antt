-- The law of tags.
use Rattle.kr_provider.proofs.Tags.{under_its_tag}
use Rattle.kr_provider.proofs.laws.tag_of_path.Goals as goal

pub returns : goal.returns
returns c = under_its_tag
