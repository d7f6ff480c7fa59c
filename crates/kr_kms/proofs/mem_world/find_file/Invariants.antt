-- What was looked at isn't the file.
use Rattle.std.proofs.Common.{◌≡◌, drop}
use Rattle.kr_kms.specs.MemWorld.{file_of}
use Rattle.kr_kms.proofs.mem_world.find_file.Given as goal

abbrev pub invariant-loop-file : goal.invariant-loop-file
invariant-loop-file l = file_of l.files l.name ≡ file_of (drop l.file-index l.files) l.name
