-- One more change.
use Rattle.std.proofs.Common.{arith, sym, ◌∙◌, ap, subst}
use Rattle.kr_watch.specs.declared.change.ObjectChange.{ObjectChange}
use Rattle.kr_watch.specs.inner.Keeping.{IsKept}
use Rattle.kr_watch.proofs.KeepSteps.{all_kept, first_dropped, nothing_dropped, rest_kept, rest_last, still_kept}
use Rattle.kr_watch.proofs.change_list.ChangeList.keep.Goals as goal

pub invariant_of-self : goal.invariant_of-self
invariant_of-self c =
    still_kept c.self.inside.keep c.self.inside.oldest c.args.change c.self.view_is
    c.self.invariant c.requires.next c.push_back_reserved.ensures.items
    (omega (arith, c.if-len-self.true, c.len.ensures, c.push_back_reserved.new.self.ok.0))

pub returns-then-len-self-clause-kept : goal.returns-then-len-self-clause-kept
returns-then-len-self-clause-kept c =
    all_kept c.self.inside.keep c.self.inside.oldest c.args.change c.self.view_is
    c.self.invariant c.requires.next c.push_back_reserved.ensures.items
    (omega (arith, c.if-len-self.true, c.len.ensures, c.push_back_reserved.new.self.ok.0))

pub returns-then-len-self-clause-dropped : goal.returns-then-len-self-clause-dropped
returns-then-len-self-clause-dropped c =
    nothing_dropped c.self.inside.keep c.self.inside.oldest c.args.change c.self.view_is
    c.self.invariant c.requires.next c.push_back_reserved.ensures.items
    (omega (arith, c.if-len-self.true, c.len.ensures, c.push_back_reserved.new.self.ok.0))

pub invariant_of-self-2 : goal.invariant_of-self-2
invariant_of-self-2 c =
    subst (λ (x : ObjectChange). IsKept c.self.inside.keep x.revision c.pop_front.new.self.items)
    (sym c.get.ensures)
    (rest_kept c.self.inside.keep c.self.inside.oldest c.args.change c.self.view_is
    c.self.invariant c.requires.next c.push_back_reserved.ensures.items c.in-Some.dropped
    c.in-Some.ensures.items
    (omega (arith, c.if-len-self.false, c.len.ensures, c.push_back_reserved.new.self.ok.0)))

pub returns-clause-kept : goal.returns-clause-kept
returns-clause-kept c =
    rest_last c.self.inside.keep c.self.inside.oldest c.args.change c.self.view_is
    c.self.invariant c.requires.next c.push_back_reserved.ensures.items c.in-Some.dropped
    c.in-Some.ensures.items
    (omega (arith, c.if-len-self.false, c.len.ensures, c.push_back_reserved.new.self.ok.0))

pub returns-clause-dropped : goal.returns-clause-dropped
returns-clause-dropped c =
    ap (λ (x : ObjectChange). x.revision) c.get.ensures
    ∙ first_dropped c.self.inside.keep c.self.inside.oldest c.args.change c.self.view_is
    c.self.invariant c.requires.next c.push_back_reserved.ensures.items c.in-Some.dropped
    c.in-Some.ensures.items
    (omega (arith, c.if-len-self.false, c.len.ensures, c.push_back_reserved.new.self.ok.0))
