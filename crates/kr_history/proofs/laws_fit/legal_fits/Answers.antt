use Rattle.kr_history.proofs.Fitting as proved
use Rattle.kr_history.proofs.laws_fit.legal_fits.Goals as goal

pub returns : goal.returns
returns c = proved.legal_fits
