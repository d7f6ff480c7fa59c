use Rattle.kr_history.proofs.Judging as proved
use Rattle.kr_history.proofs.laws_fit.opening_fits.Goals as goal

pub returns : goal.returns
returns c = proved.opening_fits
