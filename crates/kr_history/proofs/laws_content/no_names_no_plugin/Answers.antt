use Rattle.kr_history.proofs.NoNames as proved
use Rattle.kr_history.proofs.laws_content.no_names_no_plugin.Goals as goal

pub returns : goal.returns
returns c = proved.no_names_no_plugin
