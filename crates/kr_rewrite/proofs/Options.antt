-- What holds of a value that is there.
use Rattle.std.specs.Prelude.{IfSome, IsSome}
use Rattle.std.proofs.Common.{◌≡◌, Option, Some, refl, sym, subst}

module _ {X : Type 0} (P : X → Type 0) (o : Option X) (x : X) (is : o ≡ Some x) where
  pub holds_of : IfSome o P → P x
  holds_of h = subst (λ v. IfSome v P) is h

  pub holds_at : P x → IfSome o P
  holds_at h = subst (λ v. IfSome v P) (sym is) h

pub is_there : {X : Type 0} (o : Option X) (x : X) → o ≡ Some x → IsSome o
is_there o x is = subst (λ v. IsSome v) (sym is) refl
