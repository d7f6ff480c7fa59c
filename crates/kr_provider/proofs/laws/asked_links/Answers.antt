-- The law of links that were asked.
use Rattle.kr_provider.proofs.AskedLists.{asked_none, asked_then, rose_later, twin}
use Rattle.kr_provider.proofs.laws.asked_links.Goals as goal

pub returns : goal.returns
returns g c = λ names. record {
  none = asked_none g.L.Kms.link names;
  both = asked_then g.L.Kms.link names;
  twin = twin g.L.Kms.link names;
  rose = rose_later g.L.Kms.link names;
}
