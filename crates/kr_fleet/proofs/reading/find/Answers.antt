-- `find`: what was fetched is unsealed.
use Rattle.std.proofs.Common.{List, ℕ, length, ◌≤◌, ap, subst, sym, ◌∙◌}
use Rattle.std.specs.Prelude.{IfSome}
use Rattle.kr_base.specs.Limits.{path_limit, value_limit}
use Rattle.kr_provider.proofs.AskedLists.{asked_none}
use Rattle.kr_provider.specs.AskedLinks.{Among}
use Rattle.kr_provider.specs.Names.{names_of}
use Rattle.kr_store.specs.declared.rows.Row.{Row}
use Rattle.kr_fleet.proofs.Finding.{IsAt, fetch_absent, fetch_refused, find_done}
use Rattle.kr_fleet.proofs.ReadTalks.{absent_talk, found_talk, refused_talk}
use Rattle.kr_fleet.proofs.Single.{some_all, some_there}
use Rattle.kr_fleet.proofs.reading.find.Goals as goal

pub fetch-requires-clause-held : goal.fetch-requires-clause-held
fetch-requires-clause-held g c = some_there _ _ c.requires.held.held

pub returns-in-Err-clause-finds : goal.returns-in-Err-clause-finds
returns-in-Err-clause-finds g c = some_all _ c.args.bench.now.published (λ p.
    fetch_refused g.L.Kms.link c.args.path (g.A.Acts.caller c.args.acts.now)
    (g.A.Acts.caller c.fetch.new.acts) c.args.bench.now.links c.args.bench.now.links p
    c.in-Err.why c.in-Err.ensures.fetches)

pub returns-in-Err-clause-asked : goal.returns-in-Err-clause-asked
returns-in-Err-clause-asked g c = asked_none g.L.Kms.link
    (names_of g.L.Kms.link c.args.bench.now.links) c.args.bench.now.links

pub returns-in_default-clause-finds : goal.returns-in_default-clause-finds
returns-in_default-clause-finds g c = some_all _ c.args.bench.now.published (λ p.
    fetch_absent g.L.Kms.link c.args.path (g.A.Acts.caller c.args.acts.now)
    (g.A.Acts.caller c.fetch.new.acts) c.args.bench.now.links c.args.bench.now.links p
    c.in-Ok.found c.in_default.is c.in-Ok.ensures.fetches)

pub returns-in_default-clause-asked : goal.returns-in_default-clause-asked
returns-in_default-clause-asked g c = asked_none g.L.Kms.link
    (names_of g.L.Kms.link c.args.bench.now.links) c.args.bench.now.links

pub unseal-opened-requires-clause-adopted : goal.unseal-opened-requires-clause-adopted
unseal-opened-requires-clause-adopted g c = some_there _ _ c.requires.held.adopted

pub unseal-opened-requires-clause-path : goal.unseal-opened-requires-clause-path
unseal-opened-requires-clause-path g c =
    let at = subst (λ f. IfSome f (IsAt c.args.path)) c.in-Some.is c.in-Ok.ensures.row in
    subst (λ (p : List ℕ). length p ≤ path_limit)
    (sym (ap (λ (r : Row). r.path) c.get-lent.ensures ∙ at.0)) c.requires.path.1

pub unseal-opened-requires-clause-fits : goal.unseal-opened-requires-clause-fits
unseal-opened-requires-clause-fits g c =
    let at = subst (λ f. IfSome f (IsAt c.args.path)) c.in-Some.is c.in-Ok.ensures.row in
    subst (λ (r : Row). length r.stored ≤ value_limit) (sym c.get-lent.ensures) at.1

pub returns-clause-finds : goal.returns-clause-finds
returns-clause-finds g c =
    let at = subst (λ f. IfSome f (IsAt c.args.path)) c.in-Some.is c.in-Ok.ensures.row in
    find_done g.L.Kms.link c.args.path (g.A.Acts.caller c.args.acts.now)
    (g.A.Acts.caller c.fetch.new.acts) c.args.bench.now.links c.unseal-opened.new.bench.links
    c.args.bench.now.published c.in-Ok.found c.in-Some.row c.get-lent.result.now
    c.unseal-opened.result c.row_value.result c.known.ensures c.requires.held
    c.in-Ok.ensures.fetches c.in-Some.is at
    c.get-lent.ensures c.unseal-opened.ensures.opened c.row_value.ensures

pub returns-in-Err-clause-exchanged : goal.returns-in-Err-clause-exchanged
returns-in-Err-clause-exchanged g c = some_all _ c.args.bench.now.published (λ p.
    refused_talk (Among g.L.Kms.step) c.args.path (g.A.Acts.caller c.args.acts.now)
    (g.A.Acts.caller c.fetch.new.acts) c.args.bench.now.links c.args.bench.now.links
    c.args.bench.now.cache c.args.bench.now.cache p c.in-Err.why c.in-Err.ensures.fetches)

pub returns-in_default-clause-exchanged : goal.returns-in_default-clause-exchanged
returns-in_default-clause-exchanged g c = some_all _ c.args.bench.now.published (λ p.
    absent_talk (Among g.L.Kms.step) c.args.path (g.A.Acts.caller c.args.acts.now)
    (g.A.Acts.caller c.fetch.new.acts) c.args.bench.now.links c.args.bench.now.links
    c.args.bench.now.cache c.args.bench.now.cache p c.in-Ok.found c.in_default.is
    c.in-Ok.ensures.fetches)

pub returns-clause-exchanged : goal.returns-clause-exchanged
returns-clause-exchanged g c =
    let at = subst (λ f. IfSome f (IsAt c.args.path)) c.in-Some.is c.in-Ok.ensures.row in
    found_talk (Among g.L.Kms.step) c.args.path (g.A.Acts.caller c.args.acts.now)
    (g.A.Acts.caller c.fetch.new.acts) c.args.bench.now.links c.unseal-opened.new.bench.links
    c.args.bench.now.cache c.unseal-opened.new.bench.cache c.args.bench.now.published c.in-Ok.found
    c.in-Some.row c.get-lent.result.now c.unseal-opened.result c.row_value.result c.known.ensures
    c.requires.held c.in-Ok.ensures.fetches c.in-Some.is at c.get-lent.ensures
    c.unseal-opened.ensures.exchanged c.row_value.ensures
