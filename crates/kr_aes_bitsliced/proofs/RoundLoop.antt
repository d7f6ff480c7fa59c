-- What the loops over the rounds keep: each block of the state is that of the rounds done.
use Rattle.std.proofs.Common.{◌≡◌, ℕ, ◌+◌, ◌-◌, ◌<◌, ◌≤◌, List, ap, ◌∙◌, arith}
use Rattle.kr_aes.specs.declared.Rounds.{Rounds}
use Rattle.kr_aes.specs.Cipher.{round_count}
use Rattle.kr_aes.proofs.RoundCounts.{some_rounds}
use Rattle.kr_aes_bitsliced.specs.declared.planes.Planes.{Planes}
use Rattle.kr_aes_bitsliced.specs.KeyPlanes.{key_planes}
use Rattle.kr_aes_bitsliced.specs.inner.Planes.{sliced_block}

-- `after` gives a block after so many rounds under a schedule
abbrev pub AreDone : (List ℕ → List ℕ → ℕ → List ℕ) → List Planes → Planes → Planes → ℕ → Type 0
AreDone after keys state planes done = (words : List ℕ) → keys ≡ key_planes words → (b : ℕ) → b < 8
    → sliced_block state b ≡ after words (sliced_block planes b) done

pub record SoFar (after : List ℕ → List ℕ → ℕ → List ℕ) (keys : List Planes) (state planes : Planes)
    (round last : ℕ) : Type 0 where
  pub some : 1 ≤ round
  pub within : round ≤ last
  pub blocks : AreDone after keys state planes (round - 1)

pub begun : (after : List ℕ → List ℕ → ℕ → List ℕ) (keys : List Planes) (state planes : Planes)
    (rounds : Rounds) (last : ℕ) → last ≡ round_count rounds → AreDone after keys state planes 0
    → SoFar after keys state planes 1 last
begun after keys state planes rounds last is blocks = record {
  some = omega arith;
  within = omega (arith, some_rounds rounds, is);
  blocks = blocks;
}

-- one more round
pub one_more : (after : List ℕ → List ℕ → ℕ → List ℕ) (keys : List Planes) (state next planes : Planes)
    (round last : ℕ) → SoFar after keys state planes round last → round < last
    → ((words : List ℕ) → keys ≡ key_planes words → (b : ℕ) → b < 8
    → sliced_block state b ≡ after words (sliced_block planes b) (round - 1)
    → sliced_block next b ≡ after words (sliced_block planes b) (round + 1 - 1))
    → SoFar after keys next planes (round + 1) last
one_more after keys state next planes round last so_far left more = record {
  some = omega arith;
  within = omega arith;
  blocks = λ words is b lt. more words is b lt (so_far.blocks words is b lt);
}

-- where no round is left but the last
pub all_but_one : (after : List ℕ → List ℕ → ℕ → List ℕ) (keys : List Planes) (state planes : Planes)
    (round last count : ℕ) → SoFar after keys state planes round last → last ≤ round → last ≡ count
    → AreDone after keys state planes (count - 1)
all_but_one after keys state planes round last count so_far none_left is words same b lt =
    let at : round - 1 ≡ count - 1 = omega (arith, so_far.within) in
    so_far.blocks words same b lt ∙ ap (after words (sliced_block planes b)) at
