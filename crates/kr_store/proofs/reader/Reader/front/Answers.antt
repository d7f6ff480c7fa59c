-- Answers of Reader::front.
use Rattle.std.proofs.Common.{inl, inr, arith, ◌∙◌, sym, subst}
use Rattle.kr_store.specs.inner.Reading.{Moves}
use Rattle.kr_store.proofs.Steps.{untold_magic, named_by, named_calm}
use Rattle.kr_store.proofs.reader.Reader.front.Goals as goal

pub returns-in-Err-Breach-clause-names : goal.returns-in-Err-Breach-clause-names
returns-in-Err-Breach-clause-names g c = elim
    (rw c.in-Err-Breach.field-0-is at c.in-Err-Breach.ensures.short) [
      | inl few ↦ absurd (omega (arith, few, c.requires.start, c.requires.size))
      | inr untold ↦ untold_magic c.args.self.now untold
          (omega (arith, c.requires.some, c.requires.size))
    ]

pub returns-in-Err-Breach-clause-advances : goal.returns-in-Err-Breach-clause-advances
returns-in-Err-Breach-clause-advances g c =
    rw c.in-Err-Breach.field-0-is at c.in-Err-Breach.ensures.advances

pub returns-in-Err-Failed-clause-advances : goal.returns-in-Err-Failed-clause-advances
returns-in-Err-Failed-clause-advances g c =
    rw c.in-Err-Failed.field-0-is at c.in-Err-Failed.ensures.advances

pub returns-clause-advances : goal.returns-clause-advances
returns-clause-advances g c = subst (λ failed. Moves failed c.args.self.now c.fill.new.self)
    (sym (named_calm c.fill.new.into c.named_format.result c.named_format.ensures))
    c.in-Ok.ensures.advances

pub returns-clause-names : goal.returns-clause-names
returns-clause-names g c =
    named_by c.args.self.now c.fill.new.self c.fill.new.into c.named_format.result
    c.in-Ok.ensures.read c.in-Ok.ensures.advances c.requires.start
    (omega (arith, c.requires.some, c.fill.auto.into)) (c.fill.auto.into ∙ c.requires.size)
    c.named_format.ensures
