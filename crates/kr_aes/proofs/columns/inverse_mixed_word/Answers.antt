use Rattle.std.specs.Prelude.{get_or, []}
use Rattle.std.proofs.Common.{slice_index, ap, ◌∙◌}
use Rattle.kr_aes.specs.declared.tables.TheConstants.{INVERSE}
use Rattle.kr_aes.specs.Cipher.{sbox}
use Rattle.kr_aes.proofs.MixedWords.{mixed_from_tables}
use Rattle.kr_aes.proofs.columns.inverse_mixed_word.Goals as goal

pub returns : goal.returns
returns c =
    mixed_from_tables c.args.word _ _ _ _ c.inverse_0.type_inv c.inverse_1.type_inv c.inverse_2.type_inv c.inverse_3.type_inv
    (c.inverse_0.ensures ∙ ap (slice_index (get_or INVERSE 0 [])) (c.sbox.ensures ∙ ap (λ xs. sbox (slice_index xs 0)) c.to_be_bytes.ensures))
    (c.inverse_1.ensures ∙ ap (slice_index (get_or INVERSE 1 [])) (c.sbox-2.ensures ∙ ap (λ xs. sbox (slice_index xs 1)) c.to_be_bytes-2.ensures))
    (c.inverse_2.ensures ∙ ap (slice_index (get_or INVERSE 2 [])) (c.sbox-3.ensures ∙ ap (λ xs. sbox (slice_index xs 2)) c.to_be_bytes-3.ensures))
    (c.inverse_3.ensures ∙ ap (slice_index (get_or INVERSE 3 [])) (c.sbox-4.ensures ∙ ap (λ xs. sbox (slice_index xs 3)) c.to_be_bytes-4.ensures))
