-- `rewrite`: the value that was found is unsealed, and sealed anew where it is stale.
use Rattle.std.proofs.Common.{◌≤◌, [], Err, Ok, ap, inr, refl, subst, sym, ◌∙◌}
use Rattle.std.specs.Prelude.{IfSome}
use Rattle.kr_base.specs.Rules.{IsPath}
use Rattle.kr_provider.proofs.AskedLists.{asked_none}
use Rattle.kr_base.specs.Walks.{Talk}
use Rattle.kr_provider.specs.AskedLinks.{Among, AskedOnly}
use Rattle.kr_provider.specs.Exchanges.{ReadsBy}
use Rattle.kr_provider.specs.Names.{names_of}
use Rattle.kr_provider.specs.Publication.{list_at}
use Rattle.kr_provider.specs.Reading.{HasSomeReading, data_of}
use Rattle.kr_provider.specs.Unsealing.{UnsealsBy}
use Rattle.kr_history.specs.declared.call.CallNo.TheVariants as refusal
use Rattle.kr_history.proofs.PartsAdd.{nothing_within}
use Rattle.kr_rewrite.specs.declared.outcome.Step.TheVariants as step
use Rattle.kr_rewrite.specs.DriveExchanges.{ReadsRow, before, behind}
use Rattle.kr_rewrite.specs.Rewrites.{Rewrites, UnsealsRow}
use Rattle.kr_rewrite.specs.inner.Stages.{ResealsRow, RewritesRowBy}
use Rattle.kr_rewrite.proofs.RowTalks.{nothing_by, reads_row, talk_by}
use Rattle.kr_rewrite.proofs.Options.{holds_at, holds_of, is_there}
use Rattle.kr_rewrite.proofs.Rewriting.{fresh_rewritten, reads_data, stale_rewritten, unread_rewritten, unread_to}
use Rattle.kr_rewrite.proofs.row.rewrite.Goals as goal

pub returns-in_default-clause-rewrites : goal.returns-in_default-clause-rewrites
returns-in_default-clause-rewrites g c =
    let h = c.requires.held in
    let old = g.A.Acts.caller c.args.acts.now in
    let b = c.args.bench.now in
    holds_at (λ p. Rewrites g.L.Kms.link g.D.Dice.left g.D.Dice.count p
    c.args.row.now old b.links b.dice (Err refusal.NoMemory) old b.links b.dice)
    b.published h.p h.adopted (inr ((refl, refl, refl), refl))

pub returns-in_default-clause-adds : goal.returns-in_default-clause-adds
returns-in_default-clause-adds g c = nothing_within 1 0 [] (g.A.Acts.caller c.args.acts.now)

pub returns-in_default-clause-asked : goal.returns-in_default-clause-asked
returns-in_default-clause-asked g c = asked_none g.L.Kms.link
    (names_of g.L.Kms.link c.args.bench.now.links) c.args.bench.now.links

pub unseal-requires-clause-adopted : goal.unseal-requires-clause-adopted
unseal-requires-clause-adopted g c = is_there _ _ c.requires.held.adopted

pub unseal-requires-clause-path : goal.unseal-requires-clause-path
unseal-requires-clause-path g c = c.requires.rules.0.1

pub unseal-requires-clause-fits : goal.unseal-requires-clause-fits
unseal-requires-clause-fits g c = c.requires.rules.1.1

pub returns-in-Err-clause-rewrites : goal.returns-in-Err-clause-rewrites
returns-in-Err-clause-rewrites g c =
    let h = c.requires.held in
    let old = g.A.Acts.caller c.args.acts.now in
    let b = c.args.bench.now in
    let n = c.unseal.new.bench in
    holds_at (λ p. Rewrites g.L.Kms.link g.D.Dice.left g.D.Dice.count p
    c.args.row.now old b.links b.dice c.unread_step.result old n.links n.dice)
    b.published h.p h.adopted
    (unread_rewritten (UnsealsRow g.L.Kms.link) g.D.Dice.left
    g.D.Dice.count h.p c.args.row.now b.links n.links c.in-Ok.path
    (c.in-Ok.ensures ∙ c.as_str.ensures) old old b.dice
    n.dice n.dice (ap (λ x. x.dice) c.in-Err.ensures.kept) c.in-Err.why c.unread_step.result
    (holds_of (λ p. UnsealsBy g.L.Kms.link p.seeds
    (list_at p c.args.row.now.resource) c.args.row.now.path c.args.row.now.stored b.links
    (Err c.in-Err.why) n.links) b.published h.p h.adopted c.in-Err.ensures.opened)
    c.unread_step.ensures)

pub returns-in-Err-clause-path : goal.returns-in-Err-clause-path
returns-in-Err-clause-path g c = unread_to c.in-Ok.path c.args.row.now.path c.in-Err.why
    c.unread_step.result (c.in-Ok.ensures ∙ c.as_str.ensures) c.requires.rules.0
    c.unread_step.ensures

pub returns-in-Err-clause-adds : goal.returns-in-Err-clause-adds
returns-in-Err-clause-adds g c = nothing_within 1 0 [] (g.A.Acts.caller c.args.acts.now)

pub returns-then-not-stale-clause-rewrites : goal.returns-then-not-stale-clause-rewrites
returns-then-not-stale-clause-rewrites g c =
    let h = c.requires.held in
    let old = g.A.Acts.caller c.args.acts.now in
    let b = c.args.bench.now in
    let n = c.unseal.new.bench in
    holds_at (λ p. Rewrites g.L.Kms.link g.D.Dice.left g.D.Dice.count p
    c.args.row.now old b.links b.dice (Ok (step.Fresh c.in-Ok.path)) old n.links n.dice)
    b.published h.p h.adopted
    (fresh_rewritten (UnsealsRow g.L.Kms.link) g.D.Dice.left
    g.D.Dice.count h.p c.args.row.now b.links n.links c.in-Ok.path
    (c.in-Ok.ensures ∙ c.as_str.ensures) old old b.dice
    n.dice n.dice (ap (λ x. x.dice) c.in-Ok-unseal.ensures.kept) c.in-Ok-unseal.opened
    (holds_of (λ p. UnsealsBy g.L.Kms.link p.seeds
    (list_at p c.args.row.now.resource) c.args.row.now.path c.args.row.now.stored b.links
    (Ok c.in-Ok-unseal.opened) n.links) b.published h.p h.adopted c.in-Ok-unseal.ensures.opened)
    c.if-not-stale.true)

pub returns-then-not-stale-clause-path : goal.returns-then-not-stale-clause-path
returns-then-not-stale-clause-path g c =
    subst (λ q. IsPath q) (sym (c.in-Ok.ensures ∙ c.as_str.ensures)) c.requires.rules.0

pub returns-then-not-stale-clause-adds : goal.returns-then-not-stale-clause-adds
returns-then-not-stale-clause-adds g c = nothing_within 1 0 [] (g.A.Acts.caller c.args.acts.now)

pub reseal-requires-clause-held : goal.reseal-requires-clause-held
reseal-requires-clause-held g c =
    let h = c.requires.held in record {
      number = h.number;
      p = h.p;
      adopted = ap (λ x. x.published) c.in-Ok-unseal.ensures.kept ∙ h.adopted;
      held = h.held;
    }

pub reseal-requires-clause-path : goal.reseal-requires-clause-path
reseal-requires-clause-path g c = c.in-Ok.ensures ∙ c.as_str.ensures

pub reseal-requires-clause-reads : goal.reseal-requires-clause-reads
reseal-requires-clause-reads g c =
    let h = c.requires.held in
    let b = c.args.bench.now in
    let n = c.unseal.new.bench in
    holds_at (λ p. HasSomeReading (list_at p c.args.row.now.resource) c.args.row.now.path
    c.args.row.now.stored (data_of c.in-Ok-unseal.opened.plain))
    n.published h.p (ap (λ x. x.published) c.in-Ok-unseal.ensures.kept ∙ h.adopted)
    (reads_data g.L.Kms.link h.p c.args.row.now b.links n.links
    c.in-Ok-unseal.opened
    (holds_of (λ p. UnsealsBy g.L.Kms.link p.seeds
    (list_at p c.args.row.now.resource) c.args.row.now.path c.args.row.now.stored b.links
    (Ok c.in-Ok-unseal.opened) n.links) b.published h.p h.adopted c.in-Ok-unseal.ensures.opened))

pub returns-clause-rewrites : goal.returns-clause-rewrites
returns-clause-rewrites g c =
    let h = c.requires.held in
    let old = g.A.Acts.caller c.args.acts.now in
    let new = g.A.Acts.caller c.reseal.new.acts in
    let b = c.args.bench.now in
    let n = c.unseal.new.bench in
    let m = c.reseal.new.bench in
    let opened = c.in-Ok-unseal.opened in
    let links = ap (λ x. x.links) c.reseal.ensures.kept in
    subst (λ l. IfSome b.published (λ p. Rewrites g.L.Kms.link g.D.Dice.left
    g.D.Dice.count p c.args.row.now old b.links b.dice c.reseal.result new l m.dice)) (sym links)
    (holds_at (λ p. Rewrites g.L.Kms.link g.D.Dice.left g.D.Dice.count p
    c.args.row.now old b.links b.dice c.reseal.result new n.links m.dice)
    b.published h.p h.adopted
    (stale_rewritten (UnsealsRow g.L.Kms.link) g.D.Dice.left
    g.D.Dice.count h.p c.args.row.now b.links n.links c.in-Ok.path
    (c.in-Ok.ensures ∙ c.as_str.ensures) old new b.dice
    n.dice m.dice (ap (λ x. x.dice) c.in-Ok-unseal.ensures.kept) opened c.reseal.result
    (holds_of (λ p. UnsealsBy g.L.Kms.link p.seeds
    (list_at p c.args.row.now.resource) c.args.row.now.path c.args.row.now.stored b.links
    (Ok opened) n.links) b.published h.p h.adopted c.in-Ok-unseal.ensures.opened)
    c.if-not-stale.false
    (holds_of (λ p. ResealsRow g.D.Dice.left g.D.Dice.count p c.args.row.now opened.plain old
    n.dice c.reseal.result new m.dice) n.published h.p
    (ap (λ x. x.published) c.in-Ok-unseal.ensures.kept ∙ h.adopted) c.reseal.ensures.reseals)))

pub returns-clause-asked : goal.returns-clause-asked
returns-clause-asked g c = subst (λ l. AskedOnly g.L.Kms.link
    (names_of g.L.Kms.link c.args.bench.now.links) c.args.bench.now.links l)
    (sym (ap (λ x. x.links) c.reseal.ensures.kept)) c.in-Ok-unseal.ensures.asked

pub returns-clause-later : goal.returns-clause-later
returns-clause-later g c = subst
    (λ d. g.D.Dice.count d ≤ g.D.Dice.count c.reseal.new.bench.dice)
    (ap (λ x. x.dice) c.in-Ok-unseal.ensures.kept) c.reseal.ensures.later

pub returns-in_default-clause-exchanged : goal.returns-in_default-clause-exchanged
returns-in_default-clause-exchanged g c =
    let h = c.requires.held in
    let old = g.A.Acts.caller c.args.acts.now in
    let b = c.args.bench.now in
    nothing_by (Among g.L.Kms.step) b.published h.p h.adopted (λ p. RewritesRowBy g.D.Dice.left
    g.D.Dice.count p c.args.row.now old b.cache b.dice (Err refusal.NoMemory) old b.cache b.dice)
    b.links (inr ((refl, refl, refl), refl))

pub returns-in-Err-clause-exchanged : goal.returns-in-Err-clause-exchanged
returns-in-Err-clause-exchanged g c =
    let h = c.requires.held in
    let old = g.A.Acts.caller c.args.acts.now in
    let row = c.args.row.now in
    let b = c.args.bench.now in
    let n = c.unseal.new.bench in
    talk_by (Among g.L.Kms.step) b.published h.p h.adopted
    (λ p. ReadsBy p.seeds (list_at p row.resource) row.path row.stored b.cache (Err c.in-Err.why)
    n.cache) (λ p. RewritesRowBy g.D.Dice.left g.D.Dice.count p row old b.cache b.dice
    c.unread_step.result old n.cache n.dice) b.links n.links c.in-Err.ensures.exchanged
    (λ es r. unread_rewritten ReadsRow g.D.Dice.left g.D.Dice.count h.p row (before b.cache es)
    (behind n.cache) c.in-Ok.path (c.in-Ok.ensures ∙ c.as_str.ensures) old old b.dice n.dice n.dice
    (ap (λ x. x.dice) c.in-Err.ensures.kept) c.in-Err.why c.unread_step.result
    (reads_row h.p row b.cache n.cache (Err c.in-Err.why) es r) c.unread_step.ensures)

pub returns-then-not-stale-clause-exchanged : goal.returns-then-not-stale-clause-exchanged
returns-then-not-stale-clause-exchanged g c =
    let h = c.requires.held in
    let old = g.A.Acts.caller c.args.acts.now in
    let row = c.args.row.now in
    let b = c.args.bench.now in
    let n = c.unseal.new.bench in
    let opened = c.in-Ok-unseal.opened in
    talk_by (Among g.L.Kms.step) b.published h.p h.adopted
    (λ p. ReadsBy p.seeds (list_at p row.resource) row.path row.stored b.cache (Ok opened) n.cache)
    (λ p. RewritesRowBy g.D.Dice.left g.D.Dice.count p row old b.cache b.dice
    (Ok (step.Fresh c.in-Ok.path)) old n.cache n.dice) b.links n.links
    c.in-Ok-unseal.ensures.exchanged
    (λ es r. fresh_rewritten ReadsRow g.D.Dice.left g.D.Dice.count h.p row (before b.cache es)
    (behind n.cache) c.in-Ok.path (c.in-Ok.ensures ∙ c.as_str.ensures) old old b.dice n.dice n.dice
    (ap (λ x. x.dice) c.in-Ok-unseal.ensures.kept) opened
    (reads_row h.p row b.cache n.cache (Ok opened) es r) c.if-not-stale.true)

pub returns-clause-exchanged : goal.returns-clause-exchanged
returns-clause-exchanged g c =
    let h = c.requires.held in
    let old = g.A.Acts.caller c.args.acts.now in
    let new = g.A.Acts.caller c.reseal.new.acts in
    let row = c.args.row.now in
    let b = c.args.bench.now in
    let n = c.unseal.new.bench in
    let m = c.reseal.new.bench in
    let opened = c.in-Ok-unseal.opened in
    let linked = ap (λ x. x.links) c.reseal.ensures.kept in
    let cached = ap (λ x. x.cache) c.reseal.ensures.kept in
    subst (λ l. IfSome b.published (λ p. Talk (Among g.L.Kms.step) b.links l (RewritesRowBy
    g.D.Dice.left g.D.Dice.count p row old b.cache b.dice c.reseal.result new m.cache m.dice)))
    (sym linked)
    (subst (λ k. IfSome b.published (λ p. Talk (Among g.L.Kms.step) b.links n.links (RewritesRowBy
    g.D.Dice.left g.D.Dice.count p row old b.cache b.dice c.reseal.result new k m.dice)))
    (sym cached)
    (talk_by (Among g.L.Kms.step) b.published h.p h.adopted
    (λ p. ReadsBy p.seeds (list_at p row.resource) row.path row.stored b.cache (Ok opened) n.cache)
    (λ p. RewritesRowBy g.D.Dice.left g.D.Dice.count p row old b.cache b.dice c.reseal.result new
    n.cache m.dice) b.links n.links c.in-Ok-unseal.ensures.exchanged
    (λ es r. stale_rewritten ReadsRow g.D.Dice.left g.D.Dice.count h.p row (before b.cache es)
    (behind n.cache) c.in-Ok.path (c.in-Ok.ensures ∙ c.as_str.ensures) old new b.dice n.dice m.dice
    (ap (λ x. x.dice) c.in-Ok-unseal.ensures.kept) opened c.reseal.result
    (reads_row h.p row b.cache n.cache (Ok opened) es r) c.if-not-stale.false
    (holds_of (λ p. ResealsRow g.D.Dice.left g.D.Dice.count p row opened.plain old n.dice
    c.reseal.result new m.dice) n.published h.p
    (ap (λ x. x.published) c.in-Ok-unseal.ensures.kept ∙ h.adopted) c.reseal.ensures.reseals))))
