use Rattle.std.proofs.Common.{ap, ◌∙◌}
use Rattle.kr_modes.specs.Ghash.{polynomial}
use Rattle.kr_modes.proofs.Numbers.{turned_bytes}
use Rattle.kr_modes.proofs.ghash.polynomial_block.Goals as goal

pub returns : goal.returns
returns c = c.number.ensures ∙ ap polynomial c.to_be_bytes-block.ensures ∙ turned_bytes c.args.p
