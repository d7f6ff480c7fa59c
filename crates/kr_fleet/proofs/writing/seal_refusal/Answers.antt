-- `seal_refusal`: by cases.
use Rattle.std.proofs.Common.{sym, ap}
use Rattle.kr_fleet.specs.inner.Stages.{seal_refusal}
use Rattle.kr_fleet.proofs.writing.seal_refusal.Goals as goal

pub returns-in-LooksEncrypted : goal.returns-in-LooksEncrypted
returns-in-LooksEncrypted c = sym (ap seal_refusal c.in-LooksEncrypted.is)

pub returns-in-TooLarge : goal.returns-in-TooLarge
returns-in-TooLarge c = sym (ap seal_refusal c.in-TooLarge.is)

pub returns-in-DiceFailed : goal.returns-in-DiceFailed
returns-in-DiceFailed c = sym (ap seal_refusal c.in-DiceFailed.is)

pub returns-in-NoMemory : goal.returns-in-NoMemory
returns-in-NoMemory c = sym (ap seal_refusal c.in-NoMemory.is)
