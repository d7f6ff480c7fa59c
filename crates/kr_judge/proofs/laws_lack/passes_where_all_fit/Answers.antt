use Rattle.kr_judge.proofs.Lacking.{passes_where_all_fit}
use Rattle.kr_judge.proofs.laws_lack.passes_where_all_fit.Goals as goal

pub returns : goal.returns
returns c = passes_where_all_fit
