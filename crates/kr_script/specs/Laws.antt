-- Laws of the definitions.
use Rattle.std.specs.Prelude.{◌≡◌, ℕ, ◌^◌, ◌<◌, ◌==◌, not, Bool, true, List, length, Result}
use Rattle.std.specs.List.{list_all}
use Rattle.kr_rollout.specs.declared.line.Line.{Line}
use Rattle.kr_script.specs.Output.{Replies, journal_texts, all_texts, output_texts, fleet_output}
use Rattle.kr_script.specs.declared.script.ScriptNo.{ScriptNo}
use Rattle.kr_script.specs.Fleets.{Fleet}
use Rattle.kr_script.specs.Meanings.{MeansScript}

-- a text means one thing alone
abbrev pub OneFleetMeaning : Type 0
OneFleetMeaning = (bytes : List ℕ) (one other : Result Fleet ScriptNo)
    → MeansScript bytes one → MeansScript bytes other → one ≡ other

-- and each text means some thing
abbrev pub SomeFleetMeaning : Type 0
SomeFleetMeaning = (bytes : List ℕ) → (meaning : Result Fleet ScriptNo) × MeansScript bytes meaning

-- The lines of the output can be told apart: where no line holds an LF, which names, paths and
-- providers never do, one text is that of one list of journal lines and of replies, as they are
-- printed.
abbrev pub is_one_line : List ℕ → Bool
is_one_line text = list_all (λ byte. not (byte == 0x0A)) text

abbrev pub ToldApart : Type 0
ToldApart = (fleet : Fleet) (one other : List Line) (told more : Replies)
    → length one < 2 ^ 64 → length other < 2 ^ 64
    → list_all is_one_line (output_texts fleet one told) ≡ true
    → list_all is_one_line (output_texts fleet other more) ≡ true
    → fleet_output fleet one told ≡ fleet_output fleet other more
    → (journal_texts fleet 0 one ≡ journal_texts fleet 0 other)
    × (all_texts 0 told fleet.workers ≡ all_texts 0 more fleet.workers)
