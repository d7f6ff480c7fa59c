use Rattle.kr_watch.proofs.ChangeLaws as proved
use Rattle.kr_watch.proofs.laws.next_line_is_next.Goals as goal

pub returns : goal.returns
returns c = proved.next_line_is_next
