use Rattle.kr_cmd_laws.proofs.Starts.{watches_ask}
use Rattle.kr_cmd_laws.proofs.fleet_plugins.watches_ask.Goals as goal

pub returns : goal.returns
returns c = watches_ask
