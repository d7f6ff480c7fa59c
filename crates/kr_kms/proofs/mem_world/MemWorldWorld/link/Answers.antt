-- The first link of the seat to the plugin goes out.
use Rattle.std.proofs.Common.{ℕ, List, inl, inr, option_and_then, refl, sym, ◌∙◌, ap}
use Rattle.std.specs.List.{remove}
use Rattle.std.specs.Option.{option_map_or}
use Rattle.kr_kms.specs.MemWorld.{LinkShelf, link_key}
use Rattle.kr_kms.specs.Outside.{same_link}
use Rattle.kr_kms.proofs.Lent.{lent, link_is, links_decide, none_given, of_key, not_lent, one_given, placed}
use Rattle.kr_kms.proofs.mem_world.MemWorldWorld.link.Goals as goal

pub returns-in_default-clause-gives : goal.returns-in_default-clause-gives
returns-in_default-clause-gives g c =
    let key : ℕ × List ℕ = (c.args.seat, c.args.plugin.now) in (
      none_given (λ entry. entry.1) (of_key same_link (link_key g.L.Kms.link) key)
          c.in_default.ensures.first c.items.ensures,
      c.rise.ensures.next,
    )

pub returns-in_default-copy-clause-gives : goal.returns-in_default-copy-clause-gives
returns-in_default-copy-clause-gives g c = not_lent (λ entry. entry.1)
    (of_key same_link (link_key g.L.Kms.link) (c.args.seat, c.args.plugin.now))
    c.in-Some.ensures.first c.items.ensures

pub returns-in-Ok-lend-clause-gives : goal.returns-in-Ok-lend-clause-gives
returns-in-Ok-lend-clause-gives g c =
    let key : ℕ × List ℕ = (c.args.seat, c.args.plugin.now) in (
      one_given (λ entry. entry.1) (of_key same_link (link_key g.L.Kms.link) key)
          c.in-Some.ensures.first c.items.ensures c.in-Ok-lend.ensures.lent,
      refl,
    )

pub returns-in-Ok-lend-clause-gone : goal.returns-in-Ok-lend-clause-gone
returns-in-Ok-lend-clause-gone g c =
    let key : ℕ × List ℕ = (c.args.seat, c.args.plugin.now) in
    let old = c.args.self.now.links.items in
    ap (λ (s : LinkShelf g.row.L.Denot). s.items) c.in-Ok-lend.ensures.ok
    ∙ ap (λ place. option_map_or (remove old) place old)
    (sym (placed (of_key same_link (link_key g.L.Kms.link) key) c.in-Some.ensures.first
    c.items.ensures))

pub returns-in-Ok-lend-clause-ok : goal.returns-in-Ok-lend-clause-ok
returns-in-Ok-lend-clause-ok g c =
    let link = g.L.Kms.link in
    let key : ℕ × List ℕ = (c.args.seat, c.args.plugin.now) in
    lent same_link (link_key link) (option_and_then (λ entry. (link entry.1).status))
    (λ entry. (link entry.1).count) links_decide c.args.self.now.links c.lend.new.self c.in-Some.at
    key (c.in-Ok-lend._seat, c.in-Ok-lend.link)
    (placed (of_key same_link (link_key link) key) c.in-Some.ensures.first c.items.ensures)
    c.in-Ok-lend.ensures.lent c.in-Ok-lend.ensures.ok
    (ap (λ (name : List ℕ). (c.args.seat, name)) c.in-Ok.ensures) refl

pub returns-in-Ok-lend-clause-link : goal.returns-in-Ok-lend-clause-link
returns-in-Ok-lend-clause-link g c =
    let link = g.L.Kms.link in
    let key : ℕ × List ℕ = (c.args.seat, c.args.plugin.now) in
    link_is link c.args.self.now.links c.in-Some.at c.args.seat c.args.plugin.now
    (c.in-Ok-lend._seat, c.in-Ok-lend.link)
    (placed (of_key same_link (link_key link) key) c.in-Some.ensures.first c.items.ensures)
    c.in-Ok-lend.ensures.lent

pub returns-in-Err-clause-gives : goal.returns-in-Err-clause-gives
returns-in-Err-clause-gives g c = not_lent (λ entry. entry.1)
    (of_key same_link (link_key g.L.Kms.link) (c.args.seat, c.args.plugin.now))
    c.in-Some.ensures.first c.items.ensures

-- why none is lent, and what is noted of it

pub returns-in-Err-clause-refusals : goal.returns-in-Err-clause-refusals
returns-in-Err-clause-refusals g c = inr refl

pub returns-in_default-copy-clause-refusals : goal.returns-in_default-copy-clause-refusals
returns-in_default-copy-clause-refusals g c = inr refl

pub returns-in_default-clause-refusals : goal.returns-in_default-clause-refusals
returns-in_default-clause-refusals g c = inl refl

pub returns-in_default-copy-clause-asked : goal.returns-in_default-copy-clause-asked
returns-in_default-copy-clause-asked g c = inl refl

pub returns-in-Err-clause-asked : goal.returns-in-Err-clause-asked
returns-in-Err-clause-asked g c = inl refl
