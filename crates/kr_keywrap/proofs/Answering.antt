-- Answers of a plugin by their tests.
use Rattle.std.proofs.Common.{◌≡◌, ℕ, List, length, codes, Result, Ok, Err, IfOk, ◌∙◌, refl, inl, inr}
use Rattle.std.proofs.lemmas.Bool.{cases_Bool}
use Rattle.kr_kms_wire.specs.declared.replies.Answered.{Answered}
use Rattle.kr_kms_wire.specs.declared.replies.Answered.TheVariants.{Reply, Error}
use Rattle.kr_kms_wire.specs.declared.replies.Reply.TheVariants as reply
use Rattle.kr_keywrap.specs.Answer.{Plugin, wrap_answer, wrapped_bytes}
use Rattle.kr_keywrap.specs.KeyWrap.{IsWrappable, is_wrappable}
use Rattle.kr_keywrap.proofs.Bodies.{wrappable_from, wrappable_true}

-- what is answered is this, and so that
pub same_answer : {E : Type 0} (result : Result Answered E) (x y : Answered) → x ≡ y → IfOk result (λ answered. answered ≡ x) → IfOk result (λ answered. answered ≡ y)
same_answer (Ok answered) x y same is = is ∙ same
same_answer (Err why) x y same is = tt

pub wraps_none : (plugin : Plugin) (plain : List ℕ) → (IsWrappable (length plain) → ⊥) → Error (codes "length") ≡ wrap_answer plugin plain
wraps_none plugin plain none = elim (cases_Bool (is_wrappable (length plain))) [
  | inl size ↦ absurd (none (wrappable_from (length plain) size))
  | inr other ↦ rw other refl
]

pub wraps_some : (plugin : Plugin) (plain : List ℕ) → IsWrappable (length plain) → Reply (reply.Encrypt (wrapped_bytes plugin plain)) ≡ wrap_answer plugin plain
wraps_some plugin plain size = rw (wrappable_true (length plain) size) refl
