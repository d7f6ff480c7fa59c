use Rattle.std.specs.Prelude.{get_or, []}
use Rattle.std.proofs.Common.{slice_index, ap, ◌∙◌}
use Rattle.kr_aes.specs.declared.tables.TheConstants.{FORWARD}
use Rattle.kr_aes.proofs.ColumnWords.{forward_keyed}
use Rattle.kr_aes.proofs.columns.forward.Goals as goal

pub returns : goal.returns
returns c =
    forward_keyed c.args.a c.args.b c.args.c c.args.d c.args.key _ _ _ _
    (c.forward_0.ensures ∙ ap (λ xs. slice_index (get_or FORWARD 0 []) (slice_index xs 0)) c.to_be_bytes.ensures)
    (c.forward_1.ensures ∙ ap (λ xs. slice_index (get_or FORWARD 1 []) (slice_index xs 1)) c.to_be_bytes-2.ensures)
    (c.forward_2.ensures ∙ ap (λ xs. slice_index (get_or FORWARD 2 []) (slice_index xs 2)) c.to_be_bytes-3.ensures)
    (c.forward_3.ensures ∙ ap (λ xs. slice_index (get_or FORWARD 3 []) (slice_index xs 3)) c.to_be_bytes-4.ensures)
