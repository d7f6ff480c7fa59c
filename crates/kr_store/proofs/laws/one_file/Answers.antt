-- Answers of one_file.
use Rattle.kr_store.proofs.OneReading.{file_once}
use Rattle.kr_store.proofs.laws.one_file.Goals as goal

pub returns : goal.returns
returns c = file_once
