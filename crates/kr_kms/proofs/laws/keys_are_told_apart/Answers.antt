-- Names, seats and links are told apart by their tests.
use Rattle.kr_kms.proofs.Lent.{links_decide, names_decide, seats_decide}
use Rattle.kr_kms.proofs.laws.keys_are_told_apart.Goals as goal

pub returns : goal.returns
returns c = (seats_decide, names_decide, links_decide)
