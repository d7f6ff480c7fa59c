-- `KeyPages::keep`: a page is free, and the words go into it alone.
use Rattle.std.proofs.Common.{ℕ, List, ap, arith, length}
use Rattle.std.proofs.lemmas.List.{length-set, length_push}
use Rattle.kr_provider.proofs.Stacks.{IsStack-with_page, words_out-with_page}
use Rattle.kr_provider.proofs.key_pages.KeyPages.keep.Goals as goal

pub invariant_of-self : goal.invariant_of-self
invariant_of-self c =
    let size = length-set c.take.new.self.pages c.in-Ok.page c.expand.new.words in
    let was = ap (λ (l : List (List ℕ)). length l) c.in-Ok.ensures.taken.pages in
    let long = length_push c.self.inside.out.0 c.in-Ok.page in
    rw c.push_in_room.ensures.items (
      IsStack-with_page _ c.take.new.self c.in-Ok.page c.expand.new.words c.self.invariant.0
          c.in-Ok.ensures.pool c.in-Ok.ensures.taken,
      omega (arith, size, was, long, c.self.invariant.1, c.push_in_room.ensures.room),
    )

pub returns-clause-stack : goal.returns-clause-stack
returns-clause-stack c = (invariant_of-self c).0

pub returns-clause-held : goal.returns-clause-held
returns-clause-held c =
    rw (c.push_in_room.ensures.items, ← c.self.view_is, ← c.in-Ok-expand.ensures.written)
    (words_out-with_page _ c.take.new.self c.in-Ok.page c.expand.new.words c.self.invariant.0
    c.in-Ok.ensures.taken)
