-- Answers of Reader::path_text.
use Rattle.std.proofs.Common.{◌≡◌, true, false, sym, ◌∙◌, subst, ap}
use Rattle.kr_base.specs.Rules.{is_path}
use Rattle.kr_store.proofs.Parts.{bad_path, not_path}
use Rattle.kr_store.proofs.Steps.{breaks_here, was_broken}
use Rattle.kr_store.proofs.reader.Reader.path_text.Goals as goal

pub returns-in_default-clause-reads : goal.returns-in_default-clause-reads
returns-in_default-clause-reads g c = was_broken _ c.sized.new.self _ _ _
    c.in_ok-bytes.ensures.reads.advances
    (breaks_here _ c.sized.new.self _ _ _ c.in_ok-bytes.ensures.reads.gives
    c.in_ok-bytes.ensures.reads.advances
    (λ rest. bad_path c.in_ok-bytes.bytes.items rest c.in_ok-bytes.ensures.length
    (not_path c.in_ok-bytes.bytes.items
    (λ u. let e : false ≡ true = c.in_default.ensures.succeeds u in cc))))

pub returns-then-not-path_ok-clause-reads : goal.returns-then-not-path_ok-clause-reads
returns-then-not-path_ok-clause-reads g c = was_broken _ c.sized.new.self _ _ _
    c.in_ok-bytes.ensures.reads.advances
    (breaks_here _ c.sized.new.self _ _ _
    c.in_ok-bytes.ensures.reads.gives c.in_ok-bytes.ensures.reads.advances
    (λ rest. bad_path c.in_ok-bytes.bytes.items rest c.in_ok-bytes.ensures.length
    (subst (λ p. is_path p ≡ false) (c.as_str.ensures.value
    ∙ ap (λ v. v.items) c.in-Ok.ensures.ok) (sym c.path_ok.ensures.test
    ∙ c.if-not-path_ok.true))))
