-- Answers of Index::set_live.
use Rattle.std.proofs.Common.{refl}
use Rattle.kr_store.proofs.Entries.{put_at}
use Rattle.kr_store.proofs.index.Index.set_live.Goals as goal

pub returns-clause-ok : goal.returns-clause-ok
returns-clause-ok c = (
  put_at c.args.self.now.live c.insert.new.self c.args.path c.args.revision c.in_ok-insert.ensures.ok,
  λ q. refl,
)
