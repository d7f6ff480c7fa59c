-- What the ending of a fleet tells of its replies.
use Rattle.std.specs.List.{list_any}
use Rattle.std.proofs.Common.{◌≡◌, ◌≢◌, ℕ, zero, suc, ◌||◌, is_some, slice_get, Bool, true, false, List, [], ◌∷◌, Contains, if◌then◌else◌, Some, refl, ap, sym, subst, ◌∙◌, arith}
use Rattle.std.proofs.lemmas.Bool.{false≢true}
use Rattle.std.proofs.lemmas.Option.{same_Some}
use Rattle.kr_script.specs.declared.told.Told.{Told}
use Rattle.kr_workers.specs.declared.ending.Ending.{Ending}
use Rattle.kr_workers.specs.declared.ending.Ending.TheVariants as ending
use Rattle.kr_workers.specs.Endings.{EndingsAreTold, HasReplyOf, first_ending, is_same, reply_ending, kinds, some_is}

-- ---- kinds

same_kind : (a b : Ending) → is_same a b ≡ true → a ≡ b
same_kind ending.Done ending.Done e = refl
same_kind ending.Refused ending.Refused e = refl
same_kind ending.Unhealthy ending.Unhealthy e = refl
same_kind ending.Full ending.Full e = refl
same_kind ending.Memory ending.Memory e = refl
same_kind ending.Fault ending.Fault e = refl
same_kind other another e = absurd (false≢true e)

itself : (a : Ending) → is_same a a ≡ true
itself ending.Done = refl
itself other = refl

-- it is among the kinds that are looked for
looked_for : (kind : Ending) → kind ≢ ending.Done → Contains kinds kind
looked_for ending.Done other = absurd (other refl)
looked_for ending.Fault other = (0, omega arith, refl)
looked_for ending.Memory other = (1, omega arith, refl)
looked_for ending.Full other = (2, omega arith, refl)
looked_for ending.Unhealthy other = (3, omega arith, refl)
looked_for ending.Refused other = (4, omega arith, refl)

-- ---- an element that passes a test

record Passes {X : Type 0} (test : X → Bool) (xs : List X) : Type 0 where
  at : ℕ
  it : X
  it_is : slice_get xs at ≡ Some it
  passes : test it ≡ true

passes_by : {X : Type 0} (test : X → Bool) (x : X) (xs : List X) (here : Bool) → test x ≡ here
    → (list_any test xs ≡ true → Passes test xs) → (here || list_any test xs) ≡ true
    → Passes test (x ∷ xs)
passes_by test x xs true e rest any = record { at = 0; it = x; it_is = refl; passes = e }
passes_by test x xs false e rest any = let p = rest any in
    record { at = suc p.at; it = p.it; it_is = p.it_is; passes = p.passes }

passes_there : {X : Type 0} (test : X → Bool) (xs : List X) → list_any test xs ≡ true
    → Passes test xs
passes_there test [] any = absurd (false≢true any)
passes_there test (x ∷ xs) any = passes_by test x xs (test x) refl (passes_there test xs) any

any_by : (here there : Bool) → there ≡ true → (here || there) ≡ true
any_by true there e = refl
any_by false there e = e

there_any : {X : Type 0} (test : X → Bool) (xs : List X) (at : ℕ) (x : X)
    → slice_get xs at ≡ Some x → test x ≡ true → list_any test xs ≡ true
there_any test [] at x is e = absurd (false≢true (ap is_some is))
there_any test (y ∷ xs) zero x is e =
    ap (λ b. b || list_any test xs) (ap test (same_Some y x is) ∙ e)
there_any test (y ∷ xs) (suc at) x is e =
    any_by (test y) (list_any test xs) (there_any test xs at x is e)

-- ---- a reply of a kind

module _ (kind : Ending) (replies : List (List Told × ℕ)) where
  abbrev of_kind : Told → Bool
  of_kind reply = is_same (reply_ending reply) kind

  abbrev has_kind : List Told × ℕ → Bool
  has_kind told = list_any of_kind told.0

  some_there : some_is kind replies ≡ true → HasReplyOf kind replies
  some_there any =
      let told = passes_there has_kind replies any in
      let reply = passes_there of_kind told.it.0 told.passes in record {
        number = told.at;
        at = reply.at;
        told = told.it;
        reply = reply.it;
        told_is = told.it_is;
        reply_is = reply.it_is;
        kind_is = same_kind (reply_ending reply.it) kind reply.passes;
      }

  there_some : HasReplyOf kind replies → some_is kind replies ≡ true
  there_some h = there_any has_kind replies h.number h.told h.told_is
      (there_any of_kind h.told.0 h.at h.reply h.reply_is
      (ap (λ (k : Ending). is_same k kind) h.kind_is ∙ itself kind))

-- ---- the first kind that some reply is of

first_by : (kind : Ending) (others : List Ending) (replies : List (List Told × ℕ)) (here : Bool)
    → some_is kind replies ≡ here
    → (first_ending others replies ≢ ending.Done → HasReplyOf (first_ending others replies) replies)
    → (if here then kind else first_ending others replies) ≢ ending.Done
    → HasReplyOf (if here then kind else first_ending others replies) replies
first_by kind others replies true e rest other = some_there kind replies e
first_by kind others replies false e rest other = rest other

first_told : (others : List Ending) (replies : List (List Told × ℕ))
    → first_ending others replies ≢ ending.Done → HasReplyOf (first_ending others replies) replies
first_told [] replies other = absurd (other refl)
first_told (kind ∷ others) replies other = first_by kind others replies (some_is kind replies) refl
    (first_told others replies) other

-- no kind that is looked for is that of a fleet in which all was done
abbrev AllElse : List Ending → Type 0
AllElse others = (kind : Ending) → Contains others kind → kind ≢ ending.Done

none_by : (kind : Ending) (others : List Ending) (replies : List (List Told × ℕ)) (here : Bool)
    → some_is kind replies ≡ here → kind ≢ ending.Done
    → (if here then kind else first_ending others replies) ≡ ending.Done
    → (some_is kind replies ≡ true → ⊥) × (first_ending others replies ≡ ending.Done)
none_by kind others replies true e other done = absurd (other done)
none_by kind others replies false e other done = (λ t. absurd (false≢true (sym e ∙ t)), done)

none_there : (others : List Ending) (replies : List (List Told × ℕ)) → AllElse others
    → first_ending others replies ≡ ending.Done → (kind : Ending) → Contains others kind
    → some_is kind replies ≡ true → ⊥
none_there [] replies apart done kind c t = absurd (omega (arith, c.1))
none_there (one ∷ others) replies apart done kind (zero, l, e) t =
    (none_by one others replies (some_is one replies) refl (apart one (0, omega arith, refl))
    done).0
    (ap (λ (k : Ending). some_is k replies) e ∙ t)
none_there (one ∷ others) replies apart done kind (suc at, l, e) t = none_there others replies
    (λ other c. apart other (suc c.0, omega (arith, c.1), c.2))
    (none_by one others replies (some_is one replies) refl (apart one (0, omega arith, refl))
    done).1
    kind (at, omega (arith, l), e) t

-- each kind that is looked for tells apart
kind_else : (kind : Ending) → kind ≡ ending.Done → is_same kind ending.Done ≡ true
kind_else kind e = ap (λ (k : Ending). is_same k ending.Done) e

pub not_fault : ending.Fault ≢ ending.Done
not_fault e = absurd (false≢true (kind_else ending.Fault e))

pub not_memory : ending.Memory ≢ ending.Done
not_memory e = absurd (false≢true (kind_else ending.Memory e))

pub not_full : ending.Full ≢ ending.Done
not_full e = absurd (false≢true (kind_else ending.Full e))

pub not_unhealthy : ending.Unhealthy ≢ ending.Done
not_unhealthy e = absurd (false≢true (kind_else ending.Unhealthy e))

pub not_refused : ending.Refused ≢ ending.Done
not_refused e = absurd (false≢true (kind_else ending.Refused e))

no_done : AllElse kinds
no_done kind (zero, l, e) = subst (λ (k : Ending). k ≢ ending.Done) e not_fault
no_done kind (suc zero, l, e) = subst (λ (k : Ending). k ≢ ending.Done) e not_memory
no_done kind (suc (suc zero), l, e) = subst (λ (k : Ending). k ≢ ending.Done) e not_full
no_done kind (suc (suc (suc zero)), l, e) =
    subst (λ (k : Ending). k ≢ ending.Done) e not_unhealthy
no_done kind (suc (suc (suc (suc zero))), l, e) =
    subst (λ (k : Ending). k ≢ ending.Done) e not_refused
no_done kind (suc (suc (suc (suc (suc at)))), l, e) = absurd (omega (arith, l))

pub endings_are_told : EndingsAreTold
endings_are_told = record {
  some = λ replies other. first_told kinds replies other;
  none = λ replies done kind other h. none_there kinds replies no_done done kind
      (looked_for kind other) (there_some kind replies h);
}
