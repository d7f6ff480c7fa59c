-- An answer is that of a link: what was served is within the limits.
use Rattle.std.proofs.Common.{inr, IsTrue, false}
use Rattle.kr_kms.proofs.Masks.{wraps, is_so}
use Rattle.kr_kms.proofs.table_plugin.TablePluginKms.wrap.Goals as goal

pub returns-in-Ok-clause-wraps : goal.returns-in-Ok-clause-wraps
returns-in-Ok-clause-wraps c =
    wraps c.args.self.now c.fails.new.self c.args.plain.now c.in-Ok.wrapped
    (is_so c.serves.result c.serves.ensures
    (λ n. let failed : IsTrue false = c.if-fails.ensures.failed.1 (inr n) in cc))
    c.if-fails.ensures.after c.in-Ok.ensures
