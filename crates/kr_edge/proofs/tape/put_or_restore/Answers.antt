-- What stands before the place stays, and the old length was asked for.
use Rattle.std.proofs.Common.{◌∙◌, inl, subst}
use Rattle.kr_base.specs.Tapes.{KeepsFront}
use Rattle.kr_edge.proofs.Pieces.{front_of_all, front_restored, length_restored}
use Rattle.kr_edge.proofs.tape.put_or_restore.Goals as goal

pub returns-in_default-clause-bytes : goal.returns-in_default-clause-bytes
returns-in_default-clause-bytes g c = front_of_all _ _ c.args.at c.in_default.ensures.same

pub returns-in_default-clause-restored : goal.returns-in_default-clause-restored
returns-in_default-clause-restored g c = inl (c.in_default.ensures.same, c.in_default.ensures.lengths)

pub returns-in-Err-clause-bytes : goal.returns-in-Err-clause-bytes
returns-in-Err-clause-bytes g c =
    let old = g.F.PlacedFile.told c.args.file.now in
    let mid = g.F.PlacedFile.told c.put_all.new.file in
    front_restored old mid (g.F.PlacedFile.told c.set_len-restored.new.self) c.args.at
    c.in-Ok.before c.set_len-restored.result c.requires c.in-Ok.ensures.length
    (subst (λ o. KeepsFront o mid c.args.at) c.in-Ok.ensures.same c.in-Err.ensures.bytes)
    c.set_len-restored.ensures.bytes

pub returns-in-Err-clause-restored : goal.returns-in-Err-clause-restored
returns-in-Err-clause-restored g c =
    length_restored (g.F.PlacedFile.told c.args.file.now) (g.F.PlacedFile.told c.put_all.new.file)
    (g.F.PlacedFile.told c.set_len-restored.new.self) c.in-Ok.before c.set_len-restored.result
    c.in-Ok.ensures.length c.set_len-restored.ensures.bytes
    (c.in-Err.ensures.lengths ∙ c.in-Ok.ensures.lengths) c.set_len-restored.ensures.lengths
