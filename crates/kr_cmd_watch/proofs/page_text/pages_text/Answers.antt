-- `pages_text`: one more page was taken.
use Rattle.std.proofs.Common.{◌++◌, ◌∙◌, ap, subst}
use Rattle.kr_watch.specs.Pages.{IsPage}
use Rattle.kr_cmd_watch.specs.WatchTexts.{page_text}
use Rattle.kr_cmd_watch.proofs.PageTexts.{TakesPage, fewer, taking_all, taking_more, taking_none}
use Rattle.kr_cmd_watch.proofs.page_text.pages_text.Goals.{In_ok-add_page}
use Rattle.kr_cmd_watch.proofs.page_text.pages_text.Goals as goal

turn : (c : In_ok-add_page) → TakesPage c.args.resource.now c.args.limit c.args.watch.now.items
    c.loop-after.after c.loop-after.text.items c.add_page.new.text.items c.in_ok-page.page
turn c = record {
  in_order = c.known.ensures;
  some = c.requires;
  so_far = c.loop-after.invariant;
  is = subst (λ a. IsPage c.args.watch.now.items c.args.resource.now a c.args.limit
      c.in_ok-page.page) c.as_str.ensures c.in_ok-page.ensures;
  more = c.in_ok-add_page.ensures
      ∙ ap (λ i. c.loop-after.text.items ++ page_text i) c.as_slice.ensures;
}

pub loop-after-init : goal.loop-after-init
loop-after-init c = taking_none c.args.resource.now c.args.limit c.args.watch.now.items
    c.new-after.result c.new-text.result.items c.new-after.ensures c.new-text.ensures.items

pub loop-after-preserved : goal.loop-after-preserved
loop-after-preserved c = taking_more (turn (goal.at.loop-after-preserved c).In_ok-add_page)
    c.in-Some.path c.in-Some.is

pub loop-after-smaller : goal.loop-after-smaller
loop-after-smaller c = fewer (turn (goal.at.loop-after-smaller c).In_ok-add_page) c.in-Some.path
    c.in-Some.is

pub returns-in-None : goal.returns-in-None
returns-in-None c = taking_all (turn (goal.at.returns-in-None c).In_ok-add_page) c.in-None.is
    c.add.new.text.items c.in_ok-add-in-None.ensures.added
