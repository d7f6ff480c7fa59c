use Rattle.kr_history.proofs.WithoutPlugin as proved
use Rattle.kr_history.proofs.laws_content.honest_without_plugin.Goals as goal

pub returns : goal.returns
returns c = proved.honest_without_plugin
