use Rattle.kr_history.proofs.KeptHonest as proved
use Rattle.kr_history.proofs.laws_calls.rows_are_written.Goals as goal

pub returns : goal.returns
returns c = proved.rows_are_written
