use Rattle.std.proofs.Common.{◌≡◌, ◌-◌, ℕ, List, refl, ap, ◌∙◌}
use Rattle.kr_aes.specs.Cipher.{add_round_key, round_count}
use Rattle.kr_aes.specs.declared.Rounds.{Rounds}
use Rattle.kr_aes.specs.InverseCipher.{inverse_cipher}
use Rattle.kr_aes.specs.EquivalentInverse.{after_equivalent_rounds, equivalent_inverse_cipher, inverse_schedule}
use Rattle.kr_aes.specs.inner.Columns.{DoesRounds, block_of_columns}
use Rattle.kr_aes.proofs.Equivalent.{equivalent_is_inverse}
use Rattle.kr_aes.proofs.decrypt_block_by_inverse.Goals as goal

-- the first eight rounds
eight : (inverse block : List ℕ) (last : ℕ) (s t u v w : List ℕ)
    → block_of_columns s ≡ add_round_key inverse last block
    → DoesRounds inverse last 0 2 s t → DoesRounds inverse last 2 2 t u → DoesRounds inverse last 4 2 u v
    → DoesRounds inverse last 6 2 v w → block_of_columns w ≡ after_equivalent_rounds inverse last block 8
unfolding after_equivalent_rounds
eight inverse block last s t u v w first one two three four =
    four block (three block (two block (one block first)))

-- where all rounds but two are done
counted : (inverse : List ℕ) (rounds : Rounds) (block : List ℕ) (last done : ℕ) (state : List ℕ)
    → last ≡ round_count rounds → done ≡ round_count rounds - 2
    → state ≡ after_equivalent_rounds inverse last block done
    → state ≡ after_equivalent_rounds inverse (round_count rounds) block (round_count rounds - 2)
counted inverse rounds block last done state last_is done_is is =
    is ∙ (λ i. after_equivalent_rounds inverse (last_is i) block (done_is i))

-- under a schedule of the inverse cipher it is the inverse cipher's
undone : (inverse : List ℕ) (rounds : Rounds) (block result : List ℕ)
    → result ≡ equivalent_inverse_cipher inverse rounds block
    → (words : List ℕ) → inverse ≡ inverse_schedule words rounds → result ≡ inverse_cipher words rounds block
undone inverse rounds block result result_is words is =
    result_is ∙ ap (λ s. equivalent_inverse_cipher s rounds block) is ∙ equivalent_is_inverse words rounds block

pub returns-in-Ten-clause-equivalent : goal.returns-in-Ten-clause-equivalent
returns-in-Ten-clause-equivalent c =
    c.last_two_inverse.ensures c.args.block.now (counted c.args.inverse.now c.args.rounds c.args.block.now _ 8 _ c.count-last.ensures (rw c.in-Ten.is refl) (eight c.args.inverse.now c.args.block.now _ c.first-state.result c.two_inverse-state.result c.two_inverse-state-2.result c.two_inverse-state-3.result c.two_inverse-eight.result c.first-state.ensures c.two_inverse-state.ensures c.two_inverse-state-2.ensures c.two_inverse-state-3.ensures c.two_inverse-eight.ensures))

pub returns-in-Ten-clause-inverse : goal.returns-in-Ten-clause-inverse
returns-in-Ten-clause-inverse c =
    undone c.args.inverse.now c.args.rounds c.args.block.now _ (returns-in-Ten-clause-equivalent c)

pub returns-in-Twelve-clause-equivalent : goal.returns-in-Twelve-clause-equivalent
returns-in-Twelve-clause-equivalent c =
    c.last_two_inverse-in-Twelve.ensures c.args.block.now (counted c.args.inverse.now c.args.rounds c.args.block.now _ 10 _ c.count-last.ensures (rw c.in-Twelve.is refl) (c.two_inverse-ten.ensures c.args.block.now (eight c.args.inverse.now c.args.block.now _ c.first-state.result c.two_inverse-state.result c.two_inverse-state-2.result c.two_inverse-state-3.result c.two_inverse-eight.result c.first-state.ensures c.two_inverse-state.ensures c.two_inverse-state-2.ensures c.two_inverse-state-3.ensures c.two_inverse-eight.ensures)))

pub returns-in-Twelve-clause-inverse : goal.returns-in-Twelve-clause-inverse
returns-in-Twelve-clause-inverse c =
    undone c.args.inverse.now c.args.rounds c.args.block.now _ (returns-in-Twelve-clause-equivalent c)

pub returns-in-Fourteen-clause-equivalent : goal.returns-in-Fourteen-clause-equivalent
returns-in-Fourteen-clause-equivalent c =
    c.last_two_inverse-in-Fourteen.ensures c.args.block.now (counted c.args.inverse.now c.args.rounds c.args.block.now _ 12 _ c.count-last.ensures (rw c.in-Fourteen.is refl) (c.two_inverse-twelve.ensures c.args.block.now (c.two_inverse-ten-in-Fourteen.ensures c.args.block.now (eight c.args.inverse.now c.args.block.now _ c.first-state.result c.two_inverse-state.result c.two_inverse-state-2.result c.two_inverse-state-3.result c.two_inverse-eight.result c.first-state.ensures c.two_inverse-state.ensures c.two_inverse-state-2.ensures c.two_inverse-state-3.ensures c.two_inverse-eight.ensures))))

pub returns-in-Fourteen-clause-inverse : goal.returns-in-Fourteen-clause-inverse
returns-in-Fourteen-clause-inverse c =
    undone c.args.inverse.now c.args.rounds c.args.block.now _ (returns-in-Fourteen-clause-equivalent c)
