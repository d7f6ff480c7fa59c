use Rattle.kr_history.proofs.HonestSeats as proved
use Rattle.kr_history.proofs.laws_content.honest_by_seats.Goals as goal

pub returns : goal.returns
returns c = proved.honest_by_seats
