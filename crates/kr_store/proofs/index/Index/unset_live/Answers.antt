-- Answers of Index::unset_live.
use Rattle.std.proofs.Common.{refl}
use Rattle.kr_store.proofs.Entries.{gone_at}
use Rattle.kr_store.proofs.index.Index.unset_live.Goals as goal

pub returns : goal.returns
returns c = (
  gone_at c.args.self.now.live c.remove-revision.new.self c.args.path.now c.known.ensures c.remove-revision.ensures.removed,
  λ q. refl,
)
