-- The link goes out by a copy of its plugin's name, over the program that was started.
use Rattle.std.proofs.Common.{◌≡◌, ◌⊎◌, ℕ, List, None, rules, true, false, inl, inr, is_some, refl, ◌∙◌, ap, subst}
use Rattle.kr_kms.specs.Outside.{HandsOut, same_link}
use Rattle.kr_edge.specs.RealWorld.{counted_links}
use Rattle.kr_edge.specs.Stores.{plugin_start}
use Rattle.kr_edge.specs.SystemCalls.{with_note}
use Rattle.kr_edge.proofs.Lending.{started_so}
use Rattle.kr_edge.proofs.real_world.RealWorldWorld.link.Goals as goal

-- what is left of the calls where memory lacked for a start
not_started : {A B C : Type 0} → A ⊎ B → A ⊎ B ⊎ C
not_started (inl a) = inl a
not_started (inr b) = inr (inl b)

pub returns-in-Ok-lent_link-clause-ok : goal.returns-in-Ok-lent_link-clause-ok
returns-in-Ok-lent_link-clause-ok g c =
    let links = counted_links c.args.self.now.links in
    subst (λ (name : List ℕ). HandsOut same_link links (counted_links c.lent_link.new.links)
    (c.args.seat, name) c.in-Ok-lent_link.link.lines.faults) c.in-Ok-Ok-Ok.ensures'
    c.in-Ok-lent_link.ensures.ok

pub returns-in-Ok-lent_link-clause-link : goal.returns-in-Ok-lent_link-clause-link
returns-in-Ok-lent_link-clause-link g c =
    let links = counted_links c.args.self.now.links in
    let name = c.in-Ok-lent_link.ensures.name ∙ c.in-Ok-Ok-Ok.ensures in
    let count = c.in-Ok-lent_link.ensures.ok.count_is
    ∙ ap (λ (name : List ℕ). links.faults (c.args.seat, name)) c.in-Ok-Ok-Ok.ensures' in
    λ i. record { name = name i; count = count i; status = None }

pub returns-in_default-take_ends-clause-calls : goal.returns-in_default-take_ends-clause-calls
returns-in_default-take_ends-clause-calls g c =
    inr (started_so c.args.program.now (g.S.System.calls c.args.self.now.system)
    (g.S.System.calls c.start.new.system) _ _ false c.in-Ok.ensures.calls c.take_ends.ensures
    (ap is_some c.in_default-take_ends.is))

pub returns-in-Ok-lent_link-clause-calls : goal.returns-in-Ok-lent_link-clause-calls
returns-in-Ok-lent_link-clause-calls g c =
    started_so c.args.program.now (g.S.System.calls c.args.self.now.system)
    (g.S.System.calls c.start.new.system) _ _ true c.in-Ok.ensures.calls c.take_ends.ensures
    (ap is_some c.in-Some.is)

pub returns-in-Err-clause-calls : goal.returns-in-Err-clause-calls
returns-in-Err-clause-calls g c =
    inr (inr (started_so c.args.program.now (g.S.System.calls c.args.self.now.system)
    (g.S.System.calls c.start.new.system) _ _ true c.in-Ok.ensures.calls c.take_ends.ensures
    (ap is_some c.in-Some.is)))

-- why none is lent, and what is noted of it where memory lacks
pub returns-in_default-clause-calls : goal.returns-in_default-clause-calls
returns-in_default-clause-calls g c = inl refl

pub returns-in_default-clause-refusals : goal.returns-in_default-clause-refusals
returns-in_default-clause-refusals g c = inr refl

pub returns-in_default-clause-asked : goal.returns-in_default-clause-asked
returns-in_default-clause-asked g c = inl refl

pub returns-in-Err-NoMemory-clause-refusals : goal.returns-in-Err-NoMemory-clause-refusals
returns-in-Err-NoMemory-clause-refusals g c = inr refl

pub returns-in-Err-NoMemory-clause-asked : goal.returns-in-Err-NoMemory-clause-asked
returns-in-Err-NoMemory-clause-asked g c = inl refl

pub returns-in-Err-Failed-clause-refusals : goal.returns-in-Err-Failed-clause-refusals
returns-in-Err-Failed-clause-refusals g c = inl refl

pub returns-in_default-take_ends-clause-refusals : goal.returns-in_default-take_ends-clause-refusals
returns-in_default-take_ends-clause-refusals g c = inl refl

pub returns-in-Err-clause-refusals : goal.returns-in-Err-clause-refusals
returns-in-Err-clause-refusals g c = inr refl

pub returns-in-Err-clause-asked : goal.returns-in-Err-clause-asked
returns-in-Err-clause-asked g c = inl refl

-- by which calls of the system

pub returns-in-Err-NoMemory-clause-calls : goal.returns-in-Err-NoMemory-clause-calls
returns-in-Err-NoMemory-clause-calls g c =
    let old = g.S.System.calls c.args.self.now.system in
    let new = g.S.System.calls c.start.new.system in
    let left : (new ≡ old) ⊎ (new ≡ with_note (plugin_start c.args.program.now false false) old) =
    search rules in
    not_started left

pub returns-in-Err-Failed-clause-calls : goal.returns-in-Err-Failed-clause-calls
returns-in-Err-Failed-clause-calls g c = inl (search rules)
