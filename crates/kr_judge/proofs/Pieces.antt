-- The pieces of a verdict's text.
use Rattle.std.proofs.Common.{◌≡◌, ℕ, List, ◌++◌, sym, ◌∙◌, ap, append_assoc, append-nil}
use Rattle.std.specs.Prelude.{codes, []}
use Rattle.kr_config.specs.declared.class.Class.{Class}
use Rattle.kr_config.specs.declared.who.Who.{Who}
use Rattle.kr_judge.specs.declared.verdict.Verdict.TheVariants.{DropsStored}
use Rattle.kr_judge.specs.Texts.{who_text, class_text, place_text, verdict_text}

pub stored_pieces : (shown path kind name : List ℕ) (who : Who) → shown ≡ path → kind ++ name ≡ who_text who → codes "drops-stored " ++ (shown ++ (codes " " ++ (kind ++ (name ++ [])))) ≡ verdict_text (DropsStored path who)
stored_pieces shown path kind name who is named =
    ap (λ l. codes "drops-stored " ++ (shown ++ (codes " " ++ l))) (ap (λ n. kind ++ n) (append-nil name) ∙ named)
    ∙ ap (λ p. codes "drops-stored " ++ (p ++ (codes " " ++ who_text who))) is

pub placed_pieces : (reason digits all text kind name : List ℕ) (class : Class) (who : Who) → all ++ text ≡ class_text class → kind ++ name ≡ who_text who
    → reason ++ (digits ++ (codes " " ++ (all ++ (text ++ (codes " " ++ (kind ++ (name ++ []))))))) ≡ reason ++ place_text digits class who
placed_pieces reason digits all text kind name class who shown named =
    ap (λ l. reason ++ (digits ++ (codes " " ++ (all ++ (text ++ (codes " " ++ l)))))) (ap (λ n. kind ++ n) (append-nil name) ∙ named)
    ∙ ap (λ l. reason ++ (digits ++ (codes " " ++ l))) (sym (append_assoc all text (codes " " ++ who_text who)) ∙ ap (λ t. t ++ (codes " " ++ who_text who)) shown)
