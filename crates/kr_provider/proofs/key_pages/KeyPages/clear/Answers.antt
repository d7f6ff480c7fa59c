-- `KeyPages::clear`: the last page goes back first.
use Rattle.std.proofs.Common.{rules, ◌∙◌, ap, arith, length}
use Rattle.std.proofs.lemmas.List.{length-set, length_push}
use Rattle.kr_pages.specs.Pool.{zero_page}
use Rattle.kr_provider.proofs.Stacks.{IsStack-without_page, last_out, nothing_held}
use Rattle.kr_provider.proofs.key_pages.KeyPages.clear.Goals as goal

pub give-requires-clause-out : goal.give-requires-clause-out
give-requires-clause-out c = last_out c.loop-page.self-inside.pool c.pop.new.self.0 c.in-Some.page
    (rw c.in-Some.ensures.items at c.loop-page.invariant.0)

pub loop-page-preserved : goal.loop-page-preserved
loop-page-preserved c =
    let inv = c.loop-page.invariant in
    let size = length-set c.loop-page.self-inside.pool.pages c.in-Some.page zero_page in
    let long = ap length c.in-Some.ensures.items ∙ length_push c.pop.new.self.0 c.in-Some.page in
    rw c.give.ensures.given (
      IsStack-without_page c.loop-page.self-inside.pool c.pop.new.self.0 c.in-Some.page
          (rw c.in-Some.ensures.items at inv.0) (rw c.give.ensures.given at c.give.ensures.pool),
      omega (arith, size, long, inv.1, c.in-Some.ensures.room),
      size ∙ inv.2,
    )

pub returns-clause-stack : goal.returns-clause-stack
returns-clause-stack c = search rules

pub returns-clause-out : goal.returns-clause-out
returns-clause-out c = search rules

pub returns-clause-keys : goal.returns-clause-keys
returns-clause-keys c = nothing_held _ (returns-clause-stack c) (returns-clause-out c)
