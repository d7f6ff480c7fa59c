-- What an inverse cipher gives is a block.
use Rattle.std.proofs.Common.{◌≡◌, ℕ, ◌<◌, ◌-◌, ◌==◌, List, length, arith}
use Rattle.kr_aes.specs.declared.Rounds.{Rounds}
use Rattle.kr_aes.specs.Cipher.{IsBlock, cell, round_count, sbox}
use Rattle.kr_aes.specs.InverseCipher.{after_inverse_rounds, inverse_cipher, inverse_sbox, inverse_shift_rows, inverse_sub_bytes}
use Rattle.kr_aes.proofs.Blocks.{IsBlock-add_round_key, IsBlock-cell_state}
use Rattle.kr_aes.proofs.Search.{find-lt}

inverse_sbox-lt : (b : ℕ) → inverse_sbox b < 256
unfolding inverse_sbox
inverse_sbox-lt b = find-lt (λ c. sbox c == b) 0 256 256 (omega arith) (omega arith)

pub IsBlock-inverse_sub_bytes : (state : List ℕ) → IsBlock (inverse_sub_bytes state)
unfolding inverse_sub_bytes
IsBlock-inverse_sub_bytes state =
    IsBlock-cell_state (λ row column. inverse_sbox (cell state row column)) (λ row column. inverse_sbox-lt (cell state row column))

pub IsBlock-inverse_cipher : (words : List ℕ) (rounds : Rounds) (block : List ℕ) → IsBlock (inverse_cipher words rounds block)
unfolding inverse_cipher
IsBlock-inverse_cipher words rounds block =
    let before : List ℕ = inverse_shift_rows (after_inverse_rounds words (round_count rounds) block (round_count rounds - 1)) in
    IsBlock-add_round_key words 0 (inverse_sub_bytes before) (IsBlock-inverse_sub_bytes before)

pub length-inverse_cipher : (words : List ℕ) (rounds : Rounds) (block : List ℕ) → length (inverse_cipher words rounds block) ≡ 16
length-inverse_cipher words rounds block = (IsBlock-inverse_cipher words rounds block).size
