-- A file that is there, and too long or more than there is memory for.
use Rattle.std.proofs.Common.{inl, refl, rules}
use Rattle.kr_kms.proofs.mem_world.MemWorldWorld.load.Goals as goal

pub returns-then-file-limit-clause-gives : goal.returns-then-file-limit-clause-gives
returns-then-file-limit-clause-gives g c = (c.in-Some.file.now, search rules, search rules)

pub returns-then-file-limit-clause-file : goal.returns-then-file-limit-clause-file
returns-then-file-limit-clause-file g c = (c.in-Some.file.now, search rules, search rules)

pub returns-in-Err-clause-gives : goal.returns-in-Err-clause-gives
returns-in-Err-clause-gives g c = (c.in-Some.file.now, search rules, search rules)

pub returns-in-Err-clause-asked : goal.returns-in-Err-clause-asked
returns-in-Err-clause-asked g c = inl refl
