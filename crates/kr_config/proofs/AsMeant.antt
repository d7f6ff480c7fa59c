-- What is read of a text that means settings.
use Rattle.std.proofs.Common.{◌≡◌, Ok, Err, refl, sym}
use Rattle.kr_config.specs.declared.refusal.ConfigErr.TheVariants.{No, NoMemory}
use Rattle.kr_config.specs.Kept.{rows_of}
use Rattle.kr_config.proofs.Inversions.{same_ok}
use Rattle.kr_config.proofs.OneMeaning.{one_meaning}
use Rattle.kr_config.specs.Laws.{ReadsAsMeant}

pub reads_as_meant : ReadsAsMeant
reads_as_meant text rows (Ok settings) m r = sym (same_ok rows (rows_of settings.entries.0)
    (one_meaning text (Ok rows) (Ok (rows_of settings.entries.0)) m r))
reads_as_meant text rows (Err (No why)) m r =
    absurd (let e = one_meaning text (Ok rows) (Err why) m r in cc)
reads_as_meant text rows (Err NoMemory) m r = refl
