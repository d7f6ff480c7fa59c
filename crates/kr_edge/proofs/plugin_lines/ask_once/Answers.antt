-- The question is the request's line.
use Rattle.std.proofs.Common.{◌∙◌, inl}
use Rattle.kr_edge.proofs.Asking.{cut_off_as}
use Rattle.kr_edge.proofs.plugin_lines.ask_once.Goals as goal

pub returns-in_default : goal.returns-in_default
returns-in_default g c =
    inl (cut_off_as _ _ _ _ (c.as_slice.ensures ∙ c.in-Ok.ensures.text) c.in_default.ensures.err)
