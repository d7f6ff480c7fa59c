-- The links of a list after some of them were asked.
use Rattle.std.specs.Prelude.{◌≡◌, ℕ, List, [], ◌∷◌, ◌++◌, Contains, ⊤}
use Rattle.kr_base.specs.Faults.{Rose}
use Rattle.kr_kms.specs.Calls.{Link, IsSameLink}

-- each link is the same plugin's, and those to other plugins than these weren't asked
abbrev pub AskedOnly : {L : Type 0} → (L → Link) → List (List ℕ) → List L → List L → Type 0
AskedOnly link names [] [] = ⊤
AskedOnly link names [] (new ∷ news) = ⊥
AskedOnly link names (old ∷ olds) [] = ⊥
AskedOnly link names (old ∷ olds) (new ∷ news) = IsSameLink (link old) (link new)
    × ((Contains names (link old).name → ⊥) → new ≡ old) × AskedOnly link names olds news

-- one link was asked, that to the plugin of this name, and the others stay; `Asks` says what was
-- asked of it
pub record AsksOne {L : Type 0} (link : L → Link) (name : List ℕ) (Asks : L → L → Type 0)
    (olds news : List L) : Type 0 where
  pub front : List L
  pub behind : List L
  pub old : L
  pub new : L
  pub olds_are : olds ≡ front ++ old ∷ behind
  pub news_are : news ≡ front ++ new ∷ behind
  pub named : (link old).name ≡ name
  pub same : IsSameLink (link old) (link new)
  pub asks : Asks old new

-- the link to the plugin of this name has that
pub record HasLinkWith {L : Type 0} (link : L → Link) (name : List ℕ) (Has : Link → Type 0)
    (links : List L) : Type 0 where
  pub it : L
  pub there : Contains links it
  pub named : (link it).name ≡ name
  pub has : Has (link it)

-- the count of faults rose of the link to the plugin of this name
pub record FaultRose {L : Type 0} (link : L → Link) (name : List ℕ) (olds news : List L)
    : Type 0 where
  pub old : L
  pub new : L
  pub old_there : Contains olds old
  pub new_there : Contains news new
  pub old_named : (link old).name ≡ name
  pub new_named : (link new).name ≡ name
  pub rose : Rose (link old).count (link new).count

-- one of the links took this step, and the others stay
pub record Among {L E : Type 0} (step : L → E → L → Type 0) (olds : List L) (exchange : E)
    (news : List L) : Type 0 where
  pub front : List L
  pub behind : List L
  pub old : L
  pub new : L
  pub olds_are : olds ≡ front ++ old ∷ behind
  pub news_are : news ≡ front ++ new ∷ behind
  pub steps : step old exchange new
