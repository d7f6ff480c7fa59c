-- A file that was read whole, one that holds more than the limit, and one that failed.
use Rattle.std.proofs.Common.{Err, ap, inl, inr, refl, rules, subst}
use Rattle.kr_base.specs.Streams.{ReadsWhole}
use Rattle.kr_edge.proofs.Loaded.{long_file, whole_file}
use Rattle.kr_edge.proofs.real_world.RealWorldWorld.load.Goals as goal

pub returns-in-Err-TooLong-clause-file : goal.returns-in-Err-TooLong-clause-file
returns-in-Err-TooLong-clause-file g c =
    let told = g.S.System.told c.args.self.now.system c.args.name.now in
    let first = g.S.File.Source.left c.in-Ok.file in
    let last = g.S.File.Source.left c.read_all.new.source in
    long_file told first last c.args.limit c.in-Ok.ensures.bytes
    (subst (λ w. ReadsWhole first last c.args.limit (Err w)) c.in-Err-TooLong.field-0-is c.in-Err-TooLong.ensures.whole)

pub returns-in-Err-NoMemory-clause-asked : goal.returns-in-Err-NoMemory-clause-asked
returns-in-Err-NoMemory-clause-asked g c = inl refl

pub returns-in-Ok-read_all-clause-file : goal.returns-in-Ok-read_all-clause-file
returns-in-Ok-read_all-clause-file g c =
    let whole = c.in-Ok-read_all.ensures.whole in (
      whole_file (g.S.System.told c.args.self.now.system c.args.name.now)
          (g.S.File.Source.left c.in-Ok.file) (g.S.File.Source.left c.read_all.new.source)
          c.in-Ok-read_all.bytes c.in-Ok.ensures.bytes whole.0 whole.1,
      whole.2,
    )

pub returns-in-Err-Failed-clause-calls : goal.returns-in-Err-Failed-clause-calls
returns-in-Err-Failed-clause-calls g c = inl (search rules)

pub returns-clause-calls : goal.returns-clause-calls
returns-clause-calls g c = inr (
  record {
    first = c.in-Ok.file;
    last = c.read_all.new.source;
    opened = c.in-Ok.ensures.bytes;
    failed = c.in-Err-Failed-read_all.ensures.failed (ap Err c.in-Err-Failed-read_all.field-0-is);
  },
  c.in-Ok.ensures.noted,
)
