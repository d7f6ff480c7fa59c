use Rattle.kr_aes.proofs.columns.last_inverse.Goals as goal

pub returns : goal.returns
returns c =
    λ row lt. rw (c.to_be_bytes.ensures, c.to_be_bytes-2.ensures, c.to_be_bytes-3.ensures, c.to_be_bytes-4.ensures) at (rw (c.inverse_sbox.ensures, c.inverse_sbox-2.ensures, c.inverse_sbox-3.ensures, c.inverse_sbox-4.ensures) at (c.keyed.ensures row lt))
