use Rattle.kr_history.proofs.Judging as proved
use Rattle.kr_history.proofs.laws_fit.starts_where_it_fits.Goals as goal

pub returns : goal.returns
returns c = proved.starts_where_it_fits
