-- The law of a bench's pages over every list of calls.
use Rattle.kr_provider.proofs.FollowedPages.{follows}
use Rattle.kr_provider.proofs.laws.pages_follow_calls.Goals as goal

pub returns : goal.returns
returns g c = follows
