use Rattle.kr_history.proofs.WithoutPlugin as proved
use Rattle.kr_history.proofs.laws_content.content_without_plugin.Goals as goal

pub returns : goal.returns
returns c = proved.content_without_plugin
