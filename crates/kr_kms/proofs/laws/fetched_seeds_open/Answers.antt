-- A fetch.
use Rattle.kr_kms.proofs.Opening.{fetch_open}
use Rattle.kr_kms.proofs.laws.fetched_seeds_open.Goals as goal

pub returns : goal.returns
returns c = fetch_open
