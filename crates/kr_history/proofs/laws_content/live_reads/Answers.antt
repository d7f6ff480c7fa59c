use Rattle.kr_history.proofs.ContentReads as proved
use Rattle.kr_history.proofs.laws_content.live_reads.Goals as goal

pub returns : goal.returns
returns c = proved.live_reads
