-- `prefixed`: the prefix, and zeros behind it.
use Rattle.std.proofs.Common.{◌++◌, ◌∙◌}
use Rattle.kr_envelope.specs.Prefixes.{prefix}
use Rattle.kr_provider.proofs.Marked.{grown}
use Rattle.kr_provider.proofs.sealing.prefixed.Goals as goal

pub returns-in-Ok-resize : goal.returns-in-Ok-resize
returns-in-Ok-resize c = c.in-Ok-resize.ensures.items
    ∙ grown c.push_prefix.new.out.items (prefix c.args.kind c.args.name.now) c.len-start.result
    c.args.zeros _ (c.in-Ok-push_prefix.ensures
    ∙ (λ i. c.in-Ok.ensures.items i ++ prefix c.args.kind (c.as_str.ensures i)))
    c.len-start.ensures c.push_prefix.new.out.ok.0
