use Rattle.kr_aes.proofs.columns.last_forward.Goals as goal

pub returns : goal.returns
returns c =
    λ row lt. rw (c.to_be_bytes.ensures, c.to_be_bytes-2.ensures, c.to_be_bytes-3.ensures, c.to_be_bytes-4.ensures) at (rw (c.sbox.ensures, c.sbox-2.ensures, c.sbox-3.ensures, c.sbox-4.ensures) at (c.keyed.ensures row lt))
