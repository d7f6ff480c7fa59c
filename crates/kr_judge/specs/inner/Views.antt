-- Kept generations as contracts see them.
use Rattle.std.specs.Prelude.{List, map}
use Rattle.kr_config.specs.Kept.{rows_of}
use Rattle.kr_judge.specs.declared.generation.JudgedGeneration.{JudgedGeneration}
use Rattle.kr_judge.specs.Boards.{GenerationState}

abbrev pub generation_of : JudgedGeneration → GenerationState
generation_of kept = record {
  replica = kept.replica;
  rows = rows_of kept.settings.entries.0;
  current = kept.current;
  holders = kept.holders;
}

abbrev pub generations_of : List JudgedGeneration → List GenerationState
generations_of kept = map generation_of kept
