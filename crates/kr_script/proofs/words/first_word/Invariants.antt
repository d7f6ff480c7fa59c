-- What the loop of `first_word` keeps, and what it goes down.
use Rattle.std.proofs.Common.{◌≡◌, length}
use denote.Text.{Utf8}
use denote.Shadow.{shadow}
use Rattle.kr_script.specs.Rows.{words_of}
use Rattle.kr_script.proofs.words.first_word.Given as goal

abbrev pub invariant-loop-front : goal.invariant-loop-front
invariant-loop-front l = shadow (Utf8 l.rest) × (words_of l.rest ≡ words_of l.text)

abbrev pub decreases-loop-front : goal.decreases-loop-front
decreases-loop-front l = length l.rest
