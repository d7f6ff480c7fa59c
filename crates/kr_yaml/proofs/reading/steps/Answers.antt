use Rattle.std.proofs.Common.{sym, ◌∙◌, subst, arith}
use Rattle.std.proofs.lemmas.Iterator.Consumers.{YieldsList-end}
use Rattle.std.proofs.lemmas.Iterator.Adapters.{YieldsList-from_vec}
use Rattle.kr_yaml.specs.inner.Seen.{token_view, token_views}
use Rattle.kr_yaml.specs.inner.Progress.{Extends}
use Rattle.kr_yaml.proofs.Heads.{token_push}
use Rattle.kr_yaml.proofs.Following.{extends_more, same_items}
use Rattle.kr_yaml.proofs.reading.steps.Goals as goal

pub tokens-preserved : goal.tokens-preserved
tokens-preserved c = subst (λ ts. Extends c.args.progress c.args.line ts c.in-Ok.progress)
    (sym (token_push c.tokens.yielded c.in-Some.token))
    (extends_more c.args.progress c.tokens.progress c.in-Ok.progress c.args.line
    (token_views c.tokens.yielded) (token_view c.in-Some.token) c.tokens.invariant
    c.in-Ok.ensures)

pub returns : goal.returns
returns c =
    let t = YieldsList-end (YieldsList-from_vec c.into_vec-token-items.result.items
    c.into_iter-token-iterator.ensures.into_iter_gives.0 (let l =
    c.into_iter-token-iterator.ensures.into_iter_gives.1 in omega arith)) c.tokens.yielded
    c.tokens.token-iterator c.tokens.yielded_by c.next.result c.next.new.self c.in-None.is
    c.next.ensures.steps in
    subst (λ l. Extends c.args.progress c.args.line (token_views l) c.tokens.progress)
    (sym (same_items c.tokens.yielded) ∙ t.0 ∙ c.into_vec-token-items.ensures)
    c.tokens.invariant
