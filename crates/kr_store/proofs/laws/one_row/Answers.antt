-- Answers of one_row.
use Rattle.kr_store.proofs.Places.{row_follows, row_stays, live_at_revision}
use Rattle.kr_store.proofs.laws.one_row.Goals as goal

pub returns : goal.returns
returns c = record { follows = row_follows; stays = row_stays; live = live_at_revision }
