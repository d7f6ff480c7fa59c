-- `write_report`: nine pieces, which are four lines.
use Rattle.std.proofs.Common.{◌≡◌, ℕ, List, [], ◌++◌, sym, ◌∙◌, ap, append_assoc, codes, decimal}
use Rattle.kr_cmd_messages.specs.Reports.{report_text}
use Rattle.kr_cmd_messages.specs.declared.report.RewriteCounts.{RewriteCounts}
use Rattle.kr_cmd_messages.proofs.Pieces.{says_by}
use Rattle.kr_cmd_messages.proofs.report.write_report.Goals as goal

abbrev last : (left : List ℕ) → List ℕ
last left = codes "left " ++ (left ++ codes "\n")

abbrev changes : (changed left : List ℕ) → List ℕ
changes changed left = codes "changed " ++ ((changed ++ codes "\n") ++ last left)

abbrev spelled : (rewritten fresh changed left : List ℕ) → List ℕ
spelled rewritten fresh changed left = codes "rewritten " ++ (rewritten ++ (codes "\nfresh "
    ++ (fresh ++ (codes "\nchanged " ++ (changed ++ (codes "\nleft "
    ++ (left ++ (codes "\n" ++ []))))))))

lines_are : (rewritten fresh changed left : List ℕ) → spelled rewritten fresh changed left
    ≡ codes "rewritten " ++ ((rewritten ++ codes "\n")
    ++ (codes "fresh " ++ ((fresh ++ codes "\n") ++ changes changed left)))
lines_are rewritten fresh changed left =
    let third : changed ++ (codes "\n" ++ last left) ≡ (changed ++ codes "\n") ++ last left =
    sym (append_assoc changed (codes "\n") (last left)) in
    let second : fresh ++ (codes "\nchanged " ++ (changed ++ (codes "\n" ++ last left)))
    ≡ (fresh ++ codes "\n") ++ changes changed left =
    ap (λ l. fresh ++ (codes "\nchanged " ++ l)) third
    ∙ sym (append_assoc fresh (codes "\n") (changes changed left)) in
    let behind = codes "fresh " ++ ((fresh ++ codes "\n") ++ changes changed left) in
    let first : rewritten ++ (codes "\nfresh " ++ (fresh ++ (codes "\nchanged "
    ++ (changed ++ (codes "\n" ++ last left))))) ≡ (rewritten ++ codes "\n") ++ behind =
    ap (λ l. rewritten ++ (codes "\nfresh " ++ l)) second
    ∙ sym (append_assoc rewritten (codes "\n") behind) in
    ap (λ l. codes "rewritten " ++ l) first

report_is : (counts : RewriteCounts) (a b c d : List ℕ) → a ≡ decimal counts.rewritten
    → b ≡ decimal counts.fresh → c ≡ decimal counts.changed → d ≡ decimal counts.left
    → spelled a b c d ≡ report_text counts
report_is counts a b c d a_is b_is c_is d_is =
    (λ i. spelled (a_is i) (b_is i) (c_is i) (d_is i))
    ∙ lines_are (decimal counts.rewritten) (decimal counts.fresh) (decimal counts.changed)
    (decimal counts.left)

pub returns : goal.returns
returns g c = says_by (report_is c.args.counts _ _ _ _ c.format.ensures.text c.format-2.ensures.text
    c.format-3.ensures.text c.format-4.ensures.text) c.say.ensures
