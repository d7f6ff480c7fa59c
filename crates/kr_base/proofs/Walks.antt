-- Walks go on, and what is said of their steps.
use Rattle.std.proofs.Common.{List, [], ◌∷◌, ◌++◌, refl, subst}
use Rattle.kr_base.specs.Walks.{Walk, Talk}

module _ {S E : Type 0} (step : S → E → S → Type 0) where
  pub walk_then : (a b : List E) (old mid new : S) → Walk step old a mid → Walk step mid b new → Walk step old (a ++ b) new
  walk_then [] b old mid new v w = subst (λ s. Walk step s b new) v w
  walk_then (e ∷ a) b old mid new v w = (v.0, v.1, walk_then a b v.0 mid new v.2 w)

  -- nothing was asked
  pub talk_none : (Are : List E → Type 0) (s : S) → Are [] → Talk step s s Are
  talk_none Are s h = record { steps = []; walk = refl; are = h }

  -- one thing was
  pub talk_one : (Are : List E → Type 0) (old : S) (e : E) (new : S) → step old e new → Are (e ∷ []) → Talk step old new Are
  talk_one Are old e new s h = record { steps = e ∷ []; walk = (new, s, refl); are = h }

  -- two things were
  pub talk_two : (Are : List E → Type 0) (old : S) (e : E) (mid : S) (f : E) (new : S) → step old e mid → step mid f new → Are (e ∷ f ∷ []) → Talk step old new Are
  talk_two Are old e mid f new s t h = record { steps = e ∷ f ∷ []; walk = (mid, s, (new, t, refl)); are = h }

  -- one talk after another
  pub talk_then : (A B C : List E → Type 0) (old mid new : S) → Talk step old mid A → Talk step mid new B → ((a b : List E) → A a → B b → C (a ++ b)) → Talk step old new C
  talk_then A B C old mid new v w both = record {
    steps = v.steps ++ w.steps;
    walk = walk_then v.steps w.steps old mid new v.walk w.walk;
    are = both v.steps w.steps v.are w.are;
  }

  -- of the same steps something else holds
  pub talk_so : (A B : List E → Type 0) (old new : S) → Talk step old new A → ((a : List E) → A a → B a) → Talk step old new B
  talk_so A B old new v so = record { steps = v.steps; walk = v.walk; are = so v.steps v.are }
