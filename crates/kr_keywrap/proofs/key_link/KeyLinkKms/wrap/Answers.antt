-- An answer is that of a link: what was wrapped is within the limits.
use Rattle.std.proofs.Common.{refl, rules}
use Rattle.kr_keywrap.proofs.Opening.{asks_ok}
use Rattle.kr_keywrap.proofs.key_link.KeyLinkKms.wrap.Goals as goal

pub returns-clause-wraps : goal.returns-clause-wraps
returns-clause-wraps g c = (
  asks_ok c.args.self.now c.fails-2.new.self c.in-Ok.wrapped c.if-fails.ensures.after,
  c.in-Ok.ensures.limits,
)

pub returns-clause-asked : goal.returns-clause-asked
returns-clause-asked g c = record {
  own = refl;
  answers = search rules;
  tells = c.in-Ok.ensures.limits;
}
