use Rattle.std.proofs.Common.{◌≡◌, ℕ, List, ◌++◌, ◌∙◌, ap, codes, decimal}
use Rattle.kr_config.specs.Refusals.{code_of, first_number, second_number}
use Rattle.kr_config.specs.declared.refusal.ConfigNo.{ConfigNo}
use Rattle.kr_cmd_messages.specs.Message.{breach_line}
use Rattle.kr_cmd_messages.proofs.Pieces.{says_by}
use Rattle.kr_cmd_messages.proofs.message.write_breach.Goals as goal

abbrev line : List ℕ → List ℕ → List ℕ → List ℕ
line code first second = codes "kmsrest: text " ++ (code ++ (codes " " ++ (first
    ++ (codes " " ++ (second ++ codes "\n")))))

pieces : (code first second : List ℕ) (why : ConfigNo)
    → code ≡ decimal (code_of why) → first ≡ decimal (first_number why)
    → second ≡ decimal (second_number why) → line code first second ≡ breach_line why
pieces code first second why c f s =
    ap (λ d. line d first second) c ∙ ap (λ d. line (decimal (code_of why)) d second) f
    ∙ ap (λ d. line (decimal (code_of why)) (decimal (first_number why)) d) s

pub returns : goal.returns
returns g c = says_by (pieces c.format-code.result.now c.format-first.result.now
    c.format-second.result.now c.args.why
    (c.format-code.ensures.text ∙ ap decimal c.code.ensures)
    (c.format-first.ensures.text ∙ ap decimal c.first_number.ensures)
    (c.format-second.ensures.text ∙ ap decimal c.second_number.ensures)) c.say.ensures
