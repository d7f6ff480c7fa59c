use Rattle.kr_aes.proofs.Expansion.{slice_index-key_schedule}
use Rattle.kr_aes.proofs.laws.words_of_schedule.Goals as goal

pub returns : goal.returns
returns c = slice_index-key_schedule
