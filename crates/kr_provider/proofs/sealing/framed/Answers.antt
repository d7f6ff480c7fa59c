-- `framed`: the front, the data behind it, and zeros.
use Rattle.std.proofs.Common.{◌++◌, drop, length, refl, ap, ◌∙◌}
use Rattle.kr_provider.proofs.Filled.{all_new}
use Rattle.kr_provider.proofs.Framed.{framed_is, longer_is}
use Rattle.kr_provider.proofs.sealing.framed.Goals as goal

pub returns : goal.returns
returns c =
    let front = c.args.front.now in
    let counted = c.into_vec-value.result.ok.0 in
    all_new _ c.write_front.new.value c.deref_mut.result.now c.copy_within.new.self.items _ refl
    c.write_front.auto.value c.deref_mut.ensures.value c.copy_within.new.self.ok.0
    ∙ c.write_front.ensures
    ∙ ap (λ l. front ++ drop (length front) l) c.deref_mut.ensures.value
    ∙ framed_is front c.args.plain c.resize.new.self.items c.copy_within.new.self.items
    c.len-size.result c.args.zeros
    (c.len-size.ensures ∙ counted ∙ ap length c.into_vec-value.ensures)
    (c.in-Ok.ensures.items ∙ longer_is c.into_vec-value.result.items c.args.plain (length front)
    c.len-size.result c.args.zeros _ c.into_vec-value.ensures c.len-size.ensures counted)
    c.copy_within.ensures.items
