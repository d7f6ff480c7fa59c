-- The law is the lemma.
use Rattle.kr_keywrap.proofs.Opening.{key_link_agrees}
use Rattle.kr_keywrap.proofs.laws.key_links_agree.Goals as goal

pub returns : goal.returns
returns g c = key_link_agrees g.R.Ring.keys
