-- Whether a write has failed since the last one that was done, by what the entries tell.
use Rattle.std.proofs.Common.{◌≡◌, ℕ, ◌<◌, ◌≤◌, ◌-◌, ◌^◌, ◌⊎◌, inl, inr, Bool, true, false, List, [], ◌∷◌, ◌++◌, All, refl, ap, ◌∙◌, arith}
use Rattle.std.proofs.lemmas.List.Elements.{All-head, All-tail}
use Rattle.kr_base.proofs.Counting.{Rose-later}
use Rattle.kr_base.specs.Faults.{Rose}
use Rattle.kr_base.specs.Numbering.{next_number}
use Rattle.kr_rollout.specs.Histories.{IsRun, ends_torn, state_from, torn_from}
use Rattle.kr_rollout.specs.Openings.{start_of}
use Rattle.kr_rollout.specs.States.{State}
use Rattle.kr_rollout.specs.Steps.{HidesNoFault, after, tears}
use Rattle.kr_rollout.specs.Writes.{Writes}
use Rattle.kr_rollout.specs.declared.line.Gave.{Gave}
use Rattle.kr_rollout.specs.declared.line.Gave.TheVariants.{Written, StoreFailed}
use Rattle.kr_rollout.specs.declared.opening.Entry.{Entry}
use Rattle.kr_rollout.specs.declared.opening.Opening.{Opening}
use Rattle.kr_history.specs.LineLaws.{TellsNoWrite, TornBy, TornIsTold}

-- ---- by the last entry that tells of a write

torn_both : (torn : Bool) (history more : List Entry)
    → torn_from torn (history ++ more) ≡ torn_from (torn_from torn history) more
torn_both torn [] more = refl
torn_both torn (e ∷ history) more = torn_both (tears e.line.gave torn) history more

unwritten : (gave : Gave) (torn : Bool) → TellsNoWrite gave → tears gave torn ≡ torn
unwritten (Written revision) torn t = absurd t
unwritten StoreFailed torn t = absurd t
unwritten other torn t = refl

stays_torn : (torn : Bool) (more : List Entry)
    → All (λ (e : Entry). TellsNoWrite e.line.gave) more → torn_from torn more ≡ torn
stays_torn torn [] t = refl
stays_torn torn (e ∷ more) t =
    ap (λ (now : Bool). torn_from now more) (unwritten e.line.gave torn
    (All-head (λ (x : Entry). TellsNoWrite x.line.gave) e more t))
    ∙ stays_torn torn more (All-tail (λ (x : Entry). TellsNoWrite x.line.gave) e more t)

says : (gave : Gave) (torn now : Bool) → now ≡ tears gave torn → TornBy gave now
says (Written revision) torn now e = e
says StoreFailed torn now e = e
says other torn now e = tt

-- ---- the count behind a write that failed

top_stays : (before now : ℕ) → before ≡ 2 ^ 64 - 1 → now ≡ next_number before → now ≡ 2 ^ 64 - 1
top_stays before now e n = grind arith

top_kept : (gave : Gave) (before now : ℕ) → HidesNoFault gave before now → before ≡ 2 ^ 64 - 1
    → now ≡ 2 ^ 64 - 1
top_kept StoreFailed before now h e = top_stays before now e h
top_kept other before now h e = h ∙ e

rose_more : (gave : Gave) (first before now : ℕ) → HidesNoFault gave before now → before ≤ now
    → Rose first before → Rose first now
rose_more gave first before now h l (inl rose) = inl (omega arith)
rose_more gave first before now h l (inr top) = inr (top.0, top_kept gave before now h top.1)

rose_along : (o : Opening) (st : State) (history : List Entry) (first : ℕ) → IsRun o st history
    → Rose first st.count → Rose first (state_from st history).count
rose_along o st [] first r rose = rose
rose_along o st (e ∷ history) first r rose =
    rose_along o (after st e) history first r.1
    (rose_more e.line.gave first st.count e.line.faults r.0.faults r.0.counted rose)

-- a write has failed by this answer, or had before
torn_by : (o : Opening) (st : State) (e : Entry) (gave : Gave) (torn : Bool)
    → Writes gave o st e → tears gave torn ≡ true → (torn ≡ true) ⊎ Rose st.count e.line.faults
torn_by o st e StoreFailed torn w is = inr w.3
torn_by o st e (Written revision) torn w is = absurd (let wrong : false ≡ true = is in cc)
torn_by o st e other torn w is = inl is

pub torn_rose : (o : Opening) (st : State) (torn : Bool) (history : List Entry)
    → IsRun o st history → torn_from torn history ≡ true
    → (torn ≡ true) ⊎ Rose st.count (state_from st history).count
torn_rose o st torn [] r is = inl is
torn_rose o st torn (e ∷ history) r is =
    by (torn_rose o (after st e) (tears e.line.gave torn) history r.1 is)
  where
    last : ℕ
    last = (state_from (after st e) history).count

    by : (tears e.line.gave torn ≡ true) ⊎ Rose e.line.faults last
        → (torn ≡ true) ⊎ Rose st.count last
    by (inl now) = at (torn_by o st e e.line.gave torn r.0.writes now)
      where
        at : (torn ≡ true) ⊎ Rose st.count e.line.faults → (torn ≡ true) ⊎ Rose st.count last
        at (inl before) = inl before
        at (inr rose) = inr (rose_along o (after st e) history st.count r.1 rose)
    by (inr rose) = inr (Rose-later st.count e.line.faults last r.0.counted rose)

pub torn_is_told : TornIsTold
torn_is_told = record {
  by_last = λ o history more e t. says e.line.gave (ends_torn o history)
      (ends_torn o (history ++ e ∷ more)) (torn_both o.torn history (e ∷ more)
      ∙ stays_torn (tears e.line.gave (ends_torn o history)) more t);
  by_none = λ o history t. stays_torn o.torn history t;
  rose = λ o history l is. torn_rose o (start_of o) o.torn history l.runs is;
}
