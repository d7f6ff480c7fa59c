-- `write_unfit`: the begin of the line, the verdict, the line's end.
use Rattle.std.proofs.Common.{◌≡◌, ℕ, List, [], ◌++◌, ◌∙◌, ap, append_assoc, codes, decimal}
use Rattle.kr_judge.specs.Texts.{verdict_text}
use Rattle.kr_judge.specs.declared.verdict.Verdict.{Verdict}
use Rattle.kr_cmd_messages.specs.Message.{refusal_line}
use Rattle.kr_cmd_messages.specs.declared.refusal.Refusal.TheVariants.{Unfit}
use Rattle.kr_cmd_messages.proofs.Pieces.{says_by, says_cut, says_behind}
use Rattle.kr_cmd_messages.proofs.message.write_unfit.Goals as goal

abbrev begin : (digits : List ℕ) → List ℕ
begin digits = codes "kmsrest: text 49 " ++ (digits ++ (codes " " ++ []))

abbrev rest : Verdict → List ℕ
rest verdict = verdict_text verdict ++ codes "\n"

same_line : (digits : List ℕ) (replica : ℕ) (verdict : Verdict) → digits ≡ decimal replica
    → begin digits ++ rest verdict ≡ refusal_line (Unfit replica verdict)
same_line digits replica verdict e =
    ap (λ d. begin d ++ rest verdict) e
    ∙ ap (λ l. codes "kmsrest: text 49 " ++ l)
    (append_assoc (decimal replica) (codes " ") (rest verdict))

pub returns-in-Err : goal.returns-in-Err
returns-in-Err g c =
    let verdict = c.args.verdict.now in
    let digits = c.format-digits.result.now in
    says_by (same_line digits c.args.replica verdict c.format-digits.ensures.text)
    (says_cut (begin digits) (rest verdict) c.in-Err.ensures)

pub returns-in-Err-write : goal.returns-in-Err-write
returns-in-Err-write g c =
    let verdict = c.args.verdict.now in
    let digits = c.format-digits.result.now in
    says_by (same_line digits c.args.replica verdict c.format-digits.ensures.text)
    (says_behind {b = g.E.Sink.held c.say.new.errors}
    {count = g.E.Sink.count c.say.new.errors} (begin digits) (rest verdict) _
    c.in-Ok.ensures.ok c.in-Ok.ensures.cause.once (says_cut (verdict_text verdict) (codes "\n") (record {
      ok = tt;
      err = c.in-Err-write.ensures.err;
      cause = c.in-Err-write.ensures.cause;
    })))

pub returns : goal.returns
returns g c =
    let verdict = c.args.verdict.now in
    let digits = c.format-digits.result.now in
    says_by (same_line digits c.args.replica verdict c.format-digits.ensures.text)
    (says_behind (begin digits) (rest verdict) c.write_text.result c.in-Ok.ensures.ok
    c.in-Ok.ensures.cause.once
    (says_behind (verdict_text verdict) (codes "\n") c.write_text.result c.in-Ok-write.ensures.ok
    c.in-Ok-write.ensures.cause.once c.write_text.ensures))
