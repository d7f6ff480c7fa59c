-- Answers of Store::delete.
use Rattle.std.proofs.Common.{sym, ◌∙◌}
use Rattle.kr_store.proofs.Shared.{deletes_by}
use Rattle.kr_store.proofs.Written.{live_seen}
use Rattle.kr_store.proofs.store.Store.delete.Goals as goal

pub append-requires-clause-change : goal.append-requires-clause-change
append-requires-clause-change g c =
    let r = c.self.inside in
    live_seen r.format r.rows.0 r.limit r.log c.args.self.now r.index c.args.path.now
    c.in-Some._live c.self.view_is c.self.invariant.indexed (sym c.live.ensures ∙ c.in-Some.is)

pub returns-in-Ok-append : goal.returns-in-Ok-append
returns-in-Ok-append g c =
    let r = c.self.inside in (
      live_seen r.format r.rows.0 r.limit r.log c.args.self.now r.index c.args.path.now
          c.in-Some._live c.self.view_is c.self.invariant.indexed (sym c.live.ensures
          ∙ c.in-Some.is),
      c.in-Ok-append.ensures,
    )

pub returns-in-Err-append : goal.returns-in-Err-append
returns-in-Err-append g c =
    let r = c.self.inside in
    deletes_by c.args.self.now c.append.new.self c.args.path.now c.in-Err-append.why
    (live_seen r.format r.rows.0 r.limit r.log c.args.self.now r.index c.args.path.now
    c.in-Some._live c.self.view_is c.self.invariant.indexed (sym c.live.ensures ∙ c.in-Some.is))
    c.in-Err-append.ensures
