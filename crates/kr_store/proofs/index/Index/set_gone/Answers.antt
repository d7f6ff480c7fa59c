-- Answers of Index::set_gone.
use Rattle.std.proofs.Common.{refl}
use Rattle.kr_store.proofs.Entries.{put_at}
use Rattle.kr_store.proofs.index.Index.set_gone.Goals as goal

pub returns-clause-ok : goal.returns-clause-ok
returns-clause-ok c = (
  λ q. refl,
  put_at c.args.self.now.gone c.insert.new.self c.args.path c.args.revision c.in_ok-insert.ensures.ok,
)
