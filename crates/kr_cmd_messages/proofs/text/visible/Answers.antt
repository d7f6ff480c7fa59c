use Rattle.std.proofs.Common.{◌≡◌, true, false, subst, sym, ◌∙◌, ap, ◌++◌}
use Rattle.std.specs.Str.{IsUtf8}
use Rattle.std.proofs.lemmas.Str.{IsUtf8-from_ascii}
use Rattle.kr_base.specs.Visible.{visible}
use Rattle.kr_cmd_messages.proofs.VisibleTexts.{visible_ascii}
use Rattle.kr_cmd_messages.proofs.text.visible.Goals as goal

pub unreachable-requires : goal.unreachable-requires
unreachable-requires c =
    let ascii = IsUtf8-from_ascii (visible c.args.foreign.now) (visible_ascii c.args.foreign.now) in
    let h : false ≡ true =
    c.in-Err.ensures.succeeds
    (subst IsUtf8
    (sym (c.in_ok-push_visible.ensures
    ∙ ap (λ l. l ++ visible c.args.foreign.now) c.in-Ok.ensures.items)) ascii) in cc
