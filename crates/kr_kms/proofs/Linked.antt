-- What a link keeps over many exchanges.
use Rattle.std.proofs.Common.{◌≡◌, List, [], ◌∷◌, ◌∙◌, ap}
use Rattle.kr_base.specs.Walks.{Walk}
use Rattle.kr_kms.specs.Calls.{Link}
use Rattle.kr_kms.specs.Exchanges.{Exchange, KeepsLink, counted_all}

module _ {L : Type 0} (step : L → Exchange → L → Type 0) (link : L → Link)
    (keeps : (old : L) (exchange : Exchange) (new : L) → step old exchange new → KeepsLink (link old) exchange (link new)) where
  pub walk_name : (old : L) (es : List Exchange) (new : L) → Walk step old es new → (link new).name ≡ (link old).name
  walk_name old [] new w = ap (λ (l : L). (link l).name) w
  walk_name old (e ∷ es) new w = walk_name w.0 es new w.2 ∙ (keeps old e w.0 w.1).named

  pub walk_status : (old : L) (es : List Exchange) (new : L) → Walk step old es new → (link new).status ≡ (link old).status
  walk_status old [] new w = ap (λ (l : L). (link l).status) w
  walk_status old (e ∷ es) new w = walk_status w.0 es new w.2 ∙ (keeps old e w.0 w.1).tells

  pub walk_count : (old : L) (es : List Exchange) (new : L) → Walk step old es new → (link new).count ≡ counted_all es (link old).count
  walk_count old [] new w = ap (λ (l : L). (link l).count) w
  walk_count old (e ∷ es) new w = walk_count w.0 es new w.2 ∙ ap (counted_all es) (keeps old e w.0 w.1).counts
