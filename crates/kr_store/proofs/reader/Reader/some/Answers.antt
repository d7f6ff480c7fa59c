-- Answers of Reader::some.
use Rattle.std.proofs.Common.{◌≡◌, ◌+◌, ◌-◌, ◌<◌, ◌≤◌, min, ◌++◌, length, take, drop, None, refl, sym, ◌∙◌, ap, subst, arith, length-take}
use Rattle.std.proofs.lemmas.List.{take_at}
use Rattle.kr_store.specs.inner.Reading.{Ahead, Takes}
use Rattle.kr_store.proofs.Steps.{rest_of, seen, untold}
use Rattle.kr_store.proofs.Lookahead.{takes_next, reads_front, handed, goes_on, none_ahead, hands_on, hands_first, still_room, read_ahead, goes_by}
use Rattle.kr_store.proofs.reader.Reader.some.Goals as goal

pub returns-then-used-self-clause-read : goal.returns-then-used-self-clause-read
returns-then-used-self-clause-read g c =
    let r = c.self.inside in
    let i = c.self.invariant in
    let told = g.T.Tape.told r.tape in
    let count = g.T.Tape.count r.tape in
    let n = c.fill_front-n.result in
    let into = c.fill_front-n.new.into in
    subst (λ (a : Ahead). (0 < n) × (n ≤ length into) × Takes a
    (seen told (r.place + n) r.end count) (take n into)) c.self.view_is
    (hands_on told told r.place r.end count count r.start r.filled n
    (length c.args.into.now) r.ahead.items c.deref.result.now into refl i.2 c.if-used-self.true
    i.5 c.deref.ensures.value i.6 c.requires.some c.fill_front-n.auto.into
    c.fill_front-n.ensures.count c.fill_front-n.ensures.same)

pub returns-then-into-len-clause-read : goal.returns-then-into-len-clause-read
returns-then-into-len-clause-read g c =
    let r = c.self.inside in
    let told = g.T.Tape.told in
    let count = g.T.Tape.count in
    let now = c.read_at.new.self in
    let n = c.in-Ok.n in
    let into = c.read_at.new.into in
    subst (λ (a : Ahead). (0 < n) × (n ≤ length into) × Takes a
    (seen (told now) (r.place + n) r.end (count now)) (take n into)) c.self.view_is (
      omega (arith, c.if-n-eq0.false),
      c.in-Ok.ensures.bound.0,
      takes_next (told r.tape) (told now) r.place r.end (count r.tape)
          (count now) n into c.in-Ok.ensures.same c.in-Ok.ensures.bound.0
          (reads_front (told r.tape) r.place n into c.in-Ok.ensures.bytes),
    )

pub returns-clause-read : goal.returns-clause-read
returns-clause-read g c =
    let r = c.self.inside in
    let told = g.T.Tape.told in
    let count = g.T.Tape.count in
    let now = c.read_at-2.new.self in
    let n = c.fill_front-n-2.result in
    let into = c.fill_front-n-2.new.into in
    subst (λ (a : Ahead). (0 < n) × (n ≤ length into) × Takes a
    (seen (told now) (r.place + n) r.end (count now)) (take n into)) c.self.view_is
    (hands_first (told r.tape) (told now) r.place r.end (count r.tape)
    (count now) c.in-Ok-read_at.n n (length c.args.into.now) c.read_at-2.new.into
    c.deref-2.result.now into c.in-Ok-read_at.ensures.same c.if-found-eq0.false
    c.in-Ok-read_at.ensures.bound.0 (c.deref-2.ensures.value ∙ take_at c.read_at-2.new.into _ _
    (c.read_at-2.auto.into ∙ c.deref_mut.ensures.len)) c.in-Ok-read_at.ensures.bytes
    c.requires.some c.fill_front-n-2.auto.into c.fill_front-n-2.ensures.count
    c.fill_front-n-2.ensures.same)

pub invariant_of-self : goal.invariant_of-self
invariant_of-self g c =
    let r = c.self.inside in
    let i = c.self.invariant in
    let h = handed (r.place - r.start) r.filled c.fill_front-n.result (length c.args.into.now)
    r.ahead.items c.if-used-self.true i.5 c.requires.some (c.fill_front-n.ensures.count
    ∙ ap (λ xs. min (length (take (r.filled - (r.place - r.start)) (drop (r.place - r.start) xs)))
    (length c.args.into.now)) c.deref.ensures.value) in
    let within : r.place + length c.args.into.now ≤ r.end =
    subst (λ (a : Ahead). a.place + length c.args.into.now ≤ a.end) (sym c.self.view_is)
    c.requires.within in (
      omega (arith, h.2, within),
      i.1,
      omega (arith, i.2),
      omega (arith, h.1, i.2, i.3),
      i.4,
      i.5,
      i.6,
      i.7,
    )

pub returns-then-used-self-clause-advances : goal.returns-then-used-self-clause-advances
returns-then-used-self-clause-advances g c =
    let r = c.self.inside in
    let told = g.T.Tape.told r.tape in
    let count = g.T.Tape.count r.tape in
    let n = c.fill_front-n.result in
    let within : r.place + length c.args.into.now ≤ r.end =
    subst (λ (a : Ahead). a.place + length c.args.into.now ≤ a.end) (sym c.self.view_is)
    c.requires.within in
    goes_by told r.place (r.place + n) r.end count c.args.self.now c.self.invariant.1
    (omega (arith, within, c.fill_front-n.ensures.count)) c.self.view_is

pub returns-in-Err-clause-advances : goal.returns-in-Err-clause-advances
returns-in-Err-clause-advances g c =
    let r = c.self.inside in
    let now = c.read_at.new.self in
    goes_on (g.T.Tape.told r.tape) (g.T.Tape.told now) r.place r.place r.end
    (g.T.Tape.count r.tape) (g.T.Tape.count now) _ c.args.self.now
    c.in-Err.ensures.same c.self.invariant.1 c.self.invariant.0 c.in-Err.ensures.cause
    c.self.view_is

pub returns-then-n-eq0-clause-advances : goal.returns-then-n-eq0-clause-advances
returns-then-n-eq0-clause-advances g c =
    let r = c.self.inside in
    let now = c.read_at.new.self in
    goes_on (g.T.Tape.told r.tape) (g.T.Tape.told now) r.place r.place r.end
    (g.T.Tape.count r.tape) (g.T.Tape.count now) _ c.args.self.now
    c.in-Ok.ensures.same c.self.invariant.1 c.self.invariant.0 c.in-Ok.ensures.cause
    c.self.view_is

pub returns-then-into-len-clause-advances : goal.returns-then-into-len-clause-advances
returns-then-into-len-clause-advances g c =
    let r = c.self.inside in
    let now = c.read_at.new.self in
    let n = c.in-Ok.n in
    let within : r.place + length c.args.into.now ≤ r.end =
    subst (λ (a : Ahead). a.place + length c.args.into.now ≤ a.end) (sym c.self.view_is)
    c.requires.within in
    goes_on (g.T.Tape.told r.tape) (g.T.Tape.told now) r.place (r.place + n) r.end
    (g.T.Tape.count r.tape) (g.T.Tape.count now) _ c.args.self.now
    c.in-Ok.ensures.same c.self.invariant.1
    (omega (arith, within, c.in-Ok.ensures.bound.0, c.read_at.auto.into)) c.in-Ok.ensures.cause
    c.self.view_is

pub returns-in-Err-read_at-clause-advances : goal.returns-in-Err-read_at-clause-advances
returns-in-Err-read_at-clause-advances g c =
    let r = c.self.inside in
    let now = c.read_at-2.new.self in
    goes_on (g.T.Tape.told r.tape) (g.T.Tape.told now) r.place r.place r.end
    (g.T.Tape.count r.tape) (g.T.Tape.count now) _ c.args.self.now
    c.in-Err-read_at.ensures.same c.self.invariant.1 c.self.invariant.0
    c.in-Err-read_at.ensures.cause c.self.view_is

pub returns-then-found-eq0-clause-advances : goal.returns-then-found-eq0-clause-advances
returns-then-found-eq0-clause-advances g c =
    let r = c.self.inside in
    let now = c.read_at-2.new.self in
    goes_on (g.T.Tape.told r.tape) (g.T.Tape.told now) r.place r.place r.end
    (g.T.Tape.count r.tape) (g.T.Tape.count now) _ c.args.self.now
    c.in-Ok-read_at.ensures.same c.self.invariant.1 c.self.invariant.0
    c.in-Ok-read_at.ensures.cause c.self.view_is

pub returns-clause-advances : goal.returns-clause-advances
returns-clause-advances g c =
    let r = c.self.inside in
    let now = c.read_at-2.new.self in
    let n = c.fill_front-n-2.result in
    let within : r.place + length c.args.into.now ≤ r.end =
    subst (λ (a : Ahead). a.place + length c.args.into.now ≤ a.end) (sym c.self.view_is)
    c.requires.within in
    goes_on (g.T.Tape.told r.tape) (g.T.Tape.told now) r.place (r.place + n) r.end
    (g.T.Tape.count r.tape) (g.T.Tape.count now) _ c.args.self.now
    c.in-Ok-read_at.ensures.same c.self.invariant.1
    (omega (arith, within, c.fill_front-n-2.ensures.count)) c.in-Ok-read_at.ensures.cause
    c.self.view_is

pub invariant_of-self-in-Err : goal.invariant_of-self-in-Err
invariant_of-self-in-Err g c =
    let r = c.self.inside in
    let i = c.self.invariant in
    none_ahead (g.T.Tape.told r.tape) (g.T.Tape.told c.read_at.new.self) r.place r.end
    (length r.ahead.items) (g.T.Tape.loose c.read_at.new.self) c.in-Err.ensures.same i.0 i.1 i.4
    (c.in-Err.ensures.cuts ∙ i.7)

pub invariant_of-self-then-n-eq0 : goal.invariant_of-self-then-n-eq0
invariant_of-self-then-n-eq0 g c =
    let r = c.self.inside in
    let i = c.self.invariant in
    none_ahead (g.T.Tape.told r.tape) (g.T.Tape.told c.read_at.new.self) r.place r.end
    (length r.ahead.items) (g.T.Tape.loose c.read_at.new.self) c.in-Ok.ensures.same i.0 i.1 i.4
    (c.in-Ok.ensures.cuts ∙ i.7)

pub invariant_of-self-then-into-len : goal.invariant_of-self-then-into-len
invariant_of-self-then-into-len g c =
    let r = c.self.inside in
    let i = c.self.invariant in
    let within : r.place + length c.args.into.now ≤ r.end =
    subst (λ (a : Ahead). a.place + length c.args.into.now ≤ a.end) (sym c.self.view_is)
    c.requires.within in
    none_ahead (g.T.Tape.told r.tape) (g.T.Tape.told c.read_at.new.self) (r.place + c.in-Ok.n)
    r.end (length r.ahead.items) (g.T.Tape.loose c.read_at.new.self) c.in-Ok.ensures.same
    (omega (arith, within, c.in-Ok.ensures.bound.0, c.read_at.auto.into)) i.1 i.4
    (c.in-Ok.ensures.cuts ∙ i.7)

pub returns-then-n-eq0-clause-read : goal.returns-then-n-eq0-clause-read
returns-then-n-eq0-clause-read g c =
    let r = c.self.inside in
    let i = c.self.invariant in
    let within : r.place + length c.args.into.now ≤ r.end =
    subst (λ (a : Ahead). a.place + length c.args.into.now ≤ a.end) (sym c.self.view_is)
    c.requires.within in
    let left : rest_of r.place (g.T.Tape.told r.tape) ≡ None =
    untold (g.T.Tape.told r.tape) r.place r.end c.read_at.new.into c.in-Ok.n i.1
    (omega (arith, within, c.requires.some)) (omega (arith, c.read_at.auto.into, c.requires.some))
    c.if-n-eq0.true c.in-Ok.ensures.bytes in
    (sym (ap (λ (a : Ahead). a.left) c.self.view_is) ∙ left, refl)

pub returns-then-found-eq0-clause-read : goal.returns-then-found-eq0-clause-read
returns-then-found-eq0-clause-read g c =
    let r = c.self.inside in
    let i = c.self.invariant in
    let within : r.place + length c.args.into.now ≤ r.end =
    subst (λ (a : Ahead). a.place + length c.args.into.now ≤ a.end) (sym c.self.view_is)
    c.requires.within in
    let left : rest_of r.place (g.T.Tape.told r.tape) ≡ None =
    untold (g.T.Tape.told r.tape) r.place r.end c.read_at-2.new.into c.in-Ok-read_at.n i.1
    (omega (arith, within, c.requires.some))
    (omega (arith, c.read_at-2.auto.into, c.deref_mut.ensures.len, i.4)) c.if-found-eq0.true
    c.in-Ok-read_at.ensures.bytes in
    (sym (ap (λ (a : Ahead). a.left) c.self.view_is) ∙ left, refl)

pub invariant_of-self-2 : goal.invariant_of-self-2
invariant_of-self-2 g c =
    let r = c.self.inside in
    let i = c.self.invariant in
    let n = c.fill_front-n-2.result in
    let found = c.in-Ok-read_at.n in
    let within : r.place + length c.args.into.now ≤ r.end =
    subst (λ (a : Ahead). a.place + length c.args.into.now ≤ a.end) (sym c.self.view_is)
    c.requires.within in
    read_ahead (g.T.Tape.told r.tape) (g.T.Tape.told c.read_at-2.new.self) r.place n r.end found
    r.ahead.len c.read_at-2.new.into (drop (length c.read_at-2.new.into) r.ahead.items)
    (g.T.Tape.loose c.read_at-2.new.self) c.in-Ok-read_at.ensures.same i.1 (omega (arith, within, c.fill_front-n-2.ensures.count))
    (omega (arith, c.fill_front-n-2.ensures.count, length-take found c.deref-2.result.now))
    (c.read_at-2.auto.into ∙ c.deref_mut.ensures.len)
    (omega (arith, i.4, c.read_at-2.auto.into, ap length c.deref_mut.ensures.value))
    c.in-Ok-read_at.ensures.bound.0 c.in-Ok-read_at.ensures.bytes
    (c.in-Ok-read_at.ensures.cuts ∙ i.7)

pub invariant_of-self-in-Err-read_at : goal.invariant_of-self-in-Err-read_at
invariant_of-self-in-Err-read_at g c =
    let r = c.self.inside in
    let i = c.self.invariant in
    let into = c.read_at-2.new.into in
    let rest = drop (length into) r.ahead.items in
    none_ahead (g.T.Tape.told r.tape) (g.T.Tape.told c.read_at-2.new.self) r.place r.end
    (length (take r.ahead.len (into ++ rest))) (g.T.Tape.loose c.read_at-2.new.self)
    c.in-Err-read_at.ensures.same i.0 i.1
    (still_room into rest r.ahead.len (c.read_at-2.auto.into ∙ c.deref_mut.ensures.len)
    (omega (arith, i.4, c.read_at-2.auto.into, ap length c.deref_mut.ensures.value)))
    (c.in-Err-read_at.ensures.cuts ∙ i.7)

pub invariant_of-self-then-found-eq0 : goal.invariant_of-self-then-found-eq0
invariant_of-self-then-found-eq0 g c =
    let r = c.self.inside in
    let i = c.self.invariant in
    let into = c.read_at-2.new.into in
    let rest = drop (length into) r.ahead.items in
    none_ahead (g.T.Tape.told r.tape) (g.T.Tape.told c.read_at-2.new.self) r.place r.end
    (length (take r.ahead.len (into ++ rest))) (g.T.Tape.loose c.read_at-2.new.self)
    c.in-Ok-read_at.ensures.same i.0 i.1
    (still_room into rest r.ahead.len (c.read_at-2.auto.into ∙ c.deref_mut.ensures.len)
    (omega (arith, i.4, c.read_at-2.auto.into, ap length c.deref_mut.ensures.value)))
    (c.in-Ok-read_at.ensures.cuts ∙ i.7)
