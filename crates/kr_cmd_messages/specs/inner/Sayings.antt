-- That a line was written.
use Rattle.std.specs.Prelude.{ℕ, List, Result, OnOk, OnErr}
use Rattle.std.specs.Io.KnownBytes.{Appends}
use Rattle.kr_base.specs.Faults.{IsCounted}
use Rattle.kr_base.specs.Streams.{AppendsFront}
use Rattle.kr_cmd_messages.specs.Receipts.{Receipt}

-- the line was written, or a prefix of it before a fault
pub record Says {T E : Type 0} (sink : Receipt) (line : List ℕ) (result : Result T E)
    : Type 0 where
  pub ok : OnOk result (Appends sink.old sink.new line)
  pub err : OnErr result (AppendsFront sink.old sink.new line)
  pub cause : IsCounted sink.old_faults sink.new_faults result
