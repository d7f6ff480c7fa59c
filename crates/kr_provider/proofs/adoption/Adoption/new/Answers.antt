-- `Adoption::new`: where nothing is adopted no page is out.
use Rattle.std.proofs.Common.{[], ap}
use Rattle.kr_provider.specs.KeyPages.{words_out}
use Rattle.kr_provider.proofs.Stacks.{holds}
use Rattle.kr_provider.proofs.adoption.Adoption.new.Goals as goal

pub invariant_of-result : goal.invariant_of-result
invariant_of-result c = holds [] c.in_ok-pages.pages c.in_ok-pages.ensures.stack (ap words_out c.in_ok-pages.ensures.free_pages)
