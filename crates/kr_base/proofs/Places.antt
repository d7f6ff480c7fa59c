-- What stays of the bytes before a place.
use Rattle.std.proofs.Common.{◌≡◌, ℕ, List, drop, Some, sym, ◌∙◌, ap}
use Rattle.std.proofs.lemmas.List.{take-append-drop}
use Rattle.kr_base.specs.Tapes.{KeepsFront}

-- all the bytes stay, so those before the place do
pub all_stay : (held now : List ℕ) (at : ℕ) → held ≡ now → KeepsFront (Some held) (Some now) at
all_stay held now at is = (drop at held, ap Some (sym is ∙ sym (take-append-drop at held)))
