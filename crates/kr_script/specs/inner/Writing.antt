-- How far a text was written.
use Rattle.std.specs.Prelude.{◌≡◌, ℕ, ◌≤◌, List, Option, Result, OnOk, OnErr, IsErrOf}
use Rattle.std.specs.Io.KnownBytes.{Appends}
use Rattle.kr_base.specs.Faults.{Rose, counted, tells_fault}
use Rattle.kr_base.specs.Streams.{AppendsFront}
use Rattle.kr_script.specs.Output.{write_failed}
use Rattle.kr_script.specs.declared.told.WriteNo.{WriteNo}
use Rattle.kr_script.specs.declared.told.WriteNo.TheVariants.{Failed}

-- The sink took the text, or after a refusal a prefix of it; its count rose by one where it failed,
-- and else it is as before: what failed isn't written again.
pub record Wrote {T : Type 0} (before now : Option (List ℕ)) (faults count : ℕ) (text : List ℕ)
    (result : Result T WriteNo) : Type 0 where
  pub ok : OnOk result (Appends before now text)
  pub err : OnErr result (AppendsFront before now text)
  pub later : faults ≤ count
  pub failed : IsErrOf result Failed → Rose faults count
  pub once : count ≡ counted (tells_fault write_failed result) faults
