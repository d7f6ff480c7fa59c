-- The last item's path.
use Rattle.std.proofs.Common.{◌<◌, length, None, Some, sym, ◌∙◌, ap}
use Rattle.std.specs.Option.{option_map}
use Rattle.std.proofs.lemmas.Bool.{ltb-true}
use Rattle.kr_watch.specs.declared.item.Item.{Item}
use Rattle.kr_watch.proofs.PageFacts.{last_is}
use Rattle.kr_watch.proofs.page.last_path.Goals as goal

pub returns-in_ok-copy-in-Some : goal.returns-in_ok-copy-in-Some
returns-in_ok-copy-in-Some c =
    let items = c.args.items.now in
    let last = c.in-Some.ensures.item in
    let some : 0 < length items = ltb-true 0 (length items) (sym last.0) in
    ap Some (c.in_ok-copy-in-Some.ensures ∙ c.as_str.ensures
    ∙ ap (λ (item : Item). item.path) (c.get.ensures ∙ last.1))
    ∙ ap (option_map (λ (item : Item). item.path))
    (sym (last_is None items c.in-Some.item.now some))
