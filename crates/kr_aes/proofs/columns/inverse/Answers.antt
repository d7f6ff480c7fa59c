use Rattle.std.specs.Prelude.{get_or, []}
use Rattle.std.proofs.Common.{slice_index, ap, ◌∙◌}
use Rattle.kr_aes.specs.declared.tables.TheConstants.{INVERSE}
use Rattle.kr_aes.proofs.ColumnWords.{inverse_keyed}
use Rattle.kr_aes.proofs.columns.inverse.Goals as goal

pub returns : goal.returns
returns c =
    inverse_keyed c.args.a c.args.b c.args.c c.args.d c.args.key _ _ _ _
    (c.inverse_0.ensures ∙ ap (λ xs. slice_index (get_or INVERSE 0 []) (slice_index xs 0)) c.to_be_bytes.ensures)
    (c.inverse_1.ensures ∙ ap (λ xs. slice_index (get_or INVERSE 1 []) (slice_index xs 1)) c.to_be_bytes-2.ensures)
    (c.inverse_2.ensures ∙ ap (λ xs. slice_index (get_or INVERSE 2 []) (slice_index xs 2)) c.to_be_bytes-3.ensures)
    (c.inverse_3.ensures ∙ ap (λ xs. slice_index (get_or INVERSE 3 []) (slice_index xs 3)) c.to_be_bytes-4.ensures)
