-- A refusal that was read is one that is printed.
use Rattle.std.proofs.Common.{ℕ, List, Err}
use Rattle.kr_script.specs.declared.script.ScriptNo.{ScriptNo}
use Rattle.kr_script.specs.declared.script.ScriptNo.TheVariants.{Breach, Replicas, Workers, TooLarge}
use Rattle.kr_script.specs.declared.script.ScriptNo.TheVariants.{NoMemory}
use Rattle.kr_script.specs.Meanings.{ReadsScript}
use Rattle.test_script.specs.Answers.{Prints, TellsFile}

pub refused : (file printed : List ℕ) (why : ScriptNo) → ReadsScript file (Err why)
    → Prints (Err why) printed → TellsFile file printed
refused file printed (Breach line) read told = (Err (Breach line), read, told)
refused file printed Replicas read told = (Err Replicas, read, told)
refused file printed Workers read told = (Err Workers, read, told)
refused file printed TooLarge read told = (Err TooLarge, read, told)
refused file printed NoMemory read told = absurd told
