-- `by_plugin`: the answer is that of the value that the plugin reads.
use Rattle.std.proofs.Common.{refl, sym, subst, Ok, Err, rules}
use Rattle.kr_provider.specs.AskedLinks.{Among}
use Rattle.kr_provider.specs.Unsealing.{UnsealsBy}
use Rattle.kr_base.proofs.Walks.{talk_so}
use Rattle.kr_provider.proofs.ReadTalks.{read_object, talk_refused}
use Rattle.kr_provider.proofs.Cached.{failed_heeds, object_heeds, opened_heeds}
use Rattle.kr_provider.proofs.Unsealings.{object_fails, object_opens, object_refuses}
use Rattle.kr_provider.proofs.values.by_plugin.Goals as goal

pub returns-in_err-object-clause-opened : goal.returns-in_err-object-clause-opened
returns-in_err-object-clause-opened g c = λ seeds list bytes is_row r.
    let stop = object_refuses g.L.Kms.link seeds list c.args.path.now bytes c.args.name.now
    c.args.body.now c.args.first c.args.links.now c.in_err-object.field-0.0 r c.in_err-object.ensures.is in search (rules, stop)

pub returns-in_err-plain-clause-opened : goal.returns-in_err-plain-clause-opened
returns-in_err-plain-clause-opened g c = λ seeds list bytes is_row r.
    let stop = object_fails g.L.Kms.link seeds list c.args.path.now bytes c.args.name.now
    c.args.body.now c.args.first c.args.row.now is_row c.in_ok-object.object r
    c.in_ok-object.ensures.is c.args.links.now c.unseal_object.new.links c.in_err-plain.field-0.0
    c.in_err-plain.ensures.opened in search (rules, stop)

pub returns-clause-opened : goal.returns-clause-opened
returns-clause-opened g c = λ seeds list bytes is_row r.
    subst (λ s. UnsealsBy g.L.Kms.link seeds list c.args.path.now bytes
    c.args.links.now (Ok (record { plain = c.in_ok-plain.plain; stale = s }))
    c.unseal_object.new.links) (sym c.is_stale-stale.ensures)
    (object_opens g.L.Kms.link seeds list c.args.path.now bytes c.args.name.now
    c.args.body.now c.args.first c.args.row.now is_row c.in_ok-object.object r
    c.in_ok-object.ensures.is c.args.links.now c.unseal_object.new.links
    c.in_ok-plain.plain c.in_ok-plain.ensures.opened)

pub returns-in_err-object-clause-cached : goal.returns-in_err-object-clause-cached
returns-in_err-object-clause-cached g c = λ seeds list bytes is_row r name object source reader
    has is.
    let stop = object_heeds c.args.cache.now.rows seeds list c.args.path.now bytes c.args.links.now
    c.args.links.now c.args.name.now c.args.body.now c.args.first r c.in_err-object.field-0.0 refl
    c.in_err-object.ensures.is name object source reader has is in
    (stop.0, λ may. let gives = stop.1 may in search (rules, gives))

pub returns-in_err-plain-clause-cached : goal.returns-in_err-plain-clause-cached
returns-in_err-plain-clause-cached g c = λ seeds list bytes is_row r name object source reader
    has is.
    let stop = failed_heeds c.args.cache.now.rows seeds list c.args.path.now bytes c.args.links.now
    c.unseal_object.new.links c.args.name.now c.args.body.now c.args.first r c.args.row.now is_row
    c.in_ok-object.object c.in_ok-object.ensures.is _ c.in_err-plain.ensures.cached
    c.in_err-plain.field-0.0 refl name object source reader has is in
    (stop.0, λ may. let gives = stop.1 may in search (rules, gives))

pub returns-clause-cached : goal.returns-clause-cached
returns-clause-cached g c = λ seeds list bytes is_row r.
    opened_heeds c.args.cache.now.rows seeds list c.args.path.now bytes c.args.links.now
    c.unseal_object.new.links c.args.name.now c.args.body.now c.args.first r c.args.row.now is_row
    c.in_ok-object.object c.in_ok-object.ensures.is _ c.in_ok-plain.ensures.cached
    c.in_ok-plain.plain _ refl c.is_stale-stale.ensures

pub returns-in_err-object-clause-exchanged : goal.returns-in_err-object-clause-exchanged
returns-in_err-object-clause-exchanged g c = λ seeds list bytes is_row r.
    let stop = talk_refused seeds list c.args.path.now bytes c.args.cache.now c.args.name.now
    c.args.body.now c.args.first r (Among g.L.Kms.step) c.args.links.now
    c.in_err-object.field-0.0 c.in_err-object.ensures.is in search (rules, stop)

pub returns-in_err-plain-clause-exchanged : goal.returns-in_err-plain-clause-exchanged
returns-in_err-plain-clause-exchanged g c = λ seeds list bytes is_row r.
    let stop = talk_so _ _ _ _ _ c.in_err-plain.ensures.exchanged (λ es unseals.
    read_object seeds list c.args.path.now bytes c.args.cache.now c.args.name.now c.args.body.now
    c.args.first r c.args.row.now is_row c.in_ok-object.object c.in_ok-object.ensures.is _ refl
    (Err c.in_err-plain.field-0.0) c.unseal_object.new.cache es unseals) in search (rules, stop)

pub returns-clause-exchanged : goal.returns-clause-exchanged
returns-clause-exchanged g c = λ seeds list bytes is_row r.
    talk_so _ _ _ _ _ c.in_ok-plain.ensures.exchanged (λ es unseals.
    read_object seeds list c.args.path.now bytes c.args.cache.now c.args.name.now c.args.body.now
    c.args.first r c.args.row.now is_row c.in_ok-object.object c.in_ok-object.ensures.is
    c.is_stale-stale.result c.is_stale-stale.ensures (Ok c.in_ok-plain.plain)
    c.unseal_object.new.cache es unseals)
