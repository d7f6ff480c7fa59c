-- The ending of a load, by that of its replies.
use Rattle.std.proofs.Common.{◌≡◌, ℕ, ◌⊎◌, inl, inr, Bool, true, false, List, [], ◌∷◌, refl, sym, ap, ◌∙◌}
use Rattle.std.specs.Prelude.{◌&&◌, ◌||◌, cond, if◌then◌else◌}
use Rattle.std.specs.List.{filter, list_any}
use Rattle.std.proofs.lemmas.Bool.{false≢true}
use Rattle.std.proofs.lemmas.Map.Views.{any-filter_same}
use Rattle.kr_script.specs.declared.told.Told.{Told}
use Rattle.kr_script.specs.declared.told.Told.TheVariants as told
use Rattle.kr_workers.specs.Endings.{gravest_ending, is_same, reply_ending, some_is}
use Rattle.kr_workers.specs.declared.ending.Ending.{Ending}
use Rattle.kr_workers.specs.declared.ending.Ending.TheVariants as ending
use Rattle.kr_workload.specs.Endings.{counts, ending_of_load, without_verdicts}
use Rattle.kr_workload.specs.inner.Refusing.{ending_of_refusals, refuses, some_refuses}

-- a reply that doesn't count is a refusal
counts_unless : (reply : Told) → (counts reply ≡ true) ⊎ (reply_ending reply ≡ ending.Refused)
counts_unless (told.Refused verdict) = inr refl
counts_unless other = inl refl

-- so one of another kind counts
other_counts : (kind : Ending) → is_same ending.Refused kind ≡ false → (reply : Told)
    → is_same (reply_ending reply) kind ≡ true → counts reply ≡ true
other_counts kind apart reply same = elim (counts_unless reply) [
  | inl it ↦ it
  | inr it ↦ absurd (false≢true (sym apart ∙ ap (λ k. is_same k kind) (sym it) ∙ same))
]

-- there is one of another kind among those that count where there is one among all
same_among : (kind : Ending) → is_same ending.Refused kind ≡ false
    → (replies : List (List Told × ℕ))
    → some_is kind (without_verdicts replies) ≡ some_is kind replies
same_among kind apart [] = refl
same_among kind apart (told ∷ replies) = λ i.
    any-filter_same (λ reply. is_same (reply_ending reply) kind) counts true
    (other_counts kind apart) told.0 i || same_among kind apart replies i

filtered : (test : Told → Bool) (b : Bool) (reply : Told) (rest : List Told) (found : Bool)
    → list_any test rest ≡ found
    → list_any test (cond b (reply ∷ rest) rest) ≡ ((b && test reply) || found)
filtered test true reply rest found e = ap (λ t. test reply || t) e
filtered test false reply rest found e = e

refusals_in : (told : List Told)
    → list_any (λ reply. is_same (reply_ending reply) ending.Refused) (filter counts told)
    ≡ list_any refuses told
refusals_in [] = refl
refusals_in (reply ∷ told) =
    filtered (λ r. is_same (reply_ending r) ending.Refused) (counts reply) reply
    (filter counts told) (list_any refuses told) (refusals_in told)

-- a refusal among those that count
refusals_among : (replies : List (List Told × ℕ))
    → some_is ending.Refused (without_verdicts replies) ≡ some_refuses replies
refusals_among [] = refl
refusals_among (told ∷ replies) =
    λ i. refusals_in told.0 i || refusals_among replies i

-- the first kind that there is
abbrev pub pick : (fault memory full unhealthy refused : Bool) → Ending
pick fault memory full unhealthy refused =
    if fault then ending.Fault else if memory then ending.Memory else if full then ending.Full
    else if unhealthy then ending.Unhealthy else if refused then ending.Refused else ending.Done

refused_at : (a b c d r s : Bool) → pick a b c d r ≡ ending.Refused
    → (if s then ending.Refused else ending.Done) ≡ pick a b c d s
refused_at false false false false r s e = refl
refused_at other b c d r s e = absurd (false≢true (ap (λ k. is_same k ending.Refused) e))

other_at : (a b c d r s : Bool) (k : Ending) → pick a b c d r ≡ k
    → is_same k ending.Refused ≡ false → (s ≡ true → r ≡ true) → k ≡ pick a b c d s
other_at false false false false true s k e apart back =
    absurd (false≢true (sym apart ∙ ap (λ k. is_same k ending.Refused) (sym e)))
other_at false false false false false true k e apart back = absurd (false≢true (back refl))
other_at other b c d r s k e apart back = sym e

-- the load's ending by the tests of its replies
pub load_picks : (replies : List (List Told × ℕ)) → ending_of_load replies
    ≡ pick (some_is ending.Fault replies) (some_is ending.Memory replies)
    (some_is ending.Full replies) (some_is ending.Unhealthy replies) (some_refuses replies)
load_picks replies = λ i. pick (same_among ending.Fault refl replies i)
    (same_among ending.Memory refl replies i) (same_among ending.Full refl replies i)
    (same_among ending.Unhealthy refl replies i) (refusals_among replies i)

refuses_back : (told : List Told) → list_any refuses told ≡ true
    → list_any (λ reply. is_same (reply_ending reply) ending.Refused) told ≡ true
refuses_back [] h = h
refuses_back (reply ∷ told) h = one (counts reply)
    (is_same (reply_ending reply) ending.Refused) (list_any refuses told)
    (list_any (λ r. is_same (reply_ending r) ending.Refused) told) (refuses_back told) h
  where
    one : (b t rest all : Bool) → (rest ≡ true → all ≡ true) → ((b && t) || rest) ≡ true
        → (t || all) ≡ true
    one true true rest all back h = refl
    one true false rest all back h = back h
    one false true rest all back h = refl
    one false false rest all back h = back h

some_back : (replies : List (List Told × ℕ)) → some_refuses replies ≡ true
    → some_is ending.Refused replies ≡ true
some_back [] h = h
some_back (told ∷ replies) h = either (list_any refuses told.0) (some_refuses replies)
    (list_any (λ r. is_same (reply_ending r) ending.Refused) told.0)
    (some_is ending.Refused replies) (refuses_back told.0) (some_back replies) h
  where
    either : (a b c d : Bool) → (a ≡ true → c ≡ true) → (b ≡ true → d ≡ true)
        → (a || b) ≡ true → (c || d) ≡ true
    either true b c d first second h = ap (λ t. t || d) (first refl)
    either false b true d first second h = refl
    either false b false d first second h = second h

pub refused_ends : (replies : List (List Told × ℕ)) → gravest_ending replies ≡ ending.Refused
    → ending_of_refusals replies ≡ ending_of_load replies
refused_ends replies e =
    refused_at (some_is ending.Fault replies) (some_is ending.Memory replies)
    (some_is ending.Full replies) (some_is ending.Unhealthy replies)
    (some_is ending.Refused replies) (some_refuses replies) e ∙ sym (load_picks replies)

pub other_ends : (replies : List (List Told × ℕ)) (kind : Ending) → gravest_ending replies ≡ kind
    → is_same kind ending.Refused ≡ false → kind ≡ ending_of_load replies
other_ends replies kind e apart =
    other_at (some_is ending.Fault replies) (some_is ending.Memory replies)
    (some_is ending.Full replies) (some_is ending.Unhealthy replies)
    (some_is ending.Refused replies) (some_refuses replies) kind e apart
    (some_back replies) ∙ sym (load_picks replies)
