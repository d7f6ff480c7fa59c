-- What a seat keeps honest stays so: with one more event of its own, and with others' entries.
use Rattle.std.proofs.Common.{◌≡◌, ◌⊎◌, inl, inr, ℕ, ◌+◌, ◌==◌, Bool, true, false, cond, List, [], ◌∷◌, ◌++◌, length, refl, sym, ap, subst, ◌∙◌, append-nil, arith, length-append}
use Rattle.std.proofs.lemmas.List.{append_assoc}
use Rattle.std.proofs.lemmas.List.Elements.{filter-append}
use Rattle.std.proofs.lemmas.Bool.{eq-eqb, false≢true}
use Rattle.kr_base.specs.Lines.{of_seat}
use Rattle.kr_kms.specs.Opens.{Opens}
use Rattle.kr_rollout.specs.declared.opening.Entry.{Entry}
use Rattle.kr_rollout.specs.declared.opening.Opening.{Opening}
use Rattle.kr_rollout.specs.Entries.{seat_of}
use Rattle.kr_rollout.specs.States.{State}
use Rattle.kr_rollout.specs.Openings.{start_of}
use Rattle.kr_rollout.specs.Steps.{after, new_rows}
use Rattle.kr_rollout.specs.Histories.{state_from}
use Rattle.kr_rollout.specs.Callers.{reloads_in, brings_settings, gave_of}
use Rattle.kr_history.specs.Acting.{Caller}
use Rattle.kr_history.specs.Honesty.{HonestBy, IsHonest, KeepsHonest}
use Rattle.kr_history.specs.CallLaws.{HonestyFollows, HonestyStands, BudgetFollows, written_rows, RowsAreWritten}
use Rattle.kr_rollout.proofs.Budgets.{reloads_more}
use Rattle.kr_history.proofs.HonestSeats.{honest_by_entries}

-- ---- the place of an entry in a history with one more

-- it is the last one, or stands before it
record IsLast {X : Type 0} (xs : List X) (x : X) (front : List X) (y : X) : Type 0 where
  front_is : front ≡ xs
  item_is : y ≡ x

record IsBefore {X : Type 0} (xs front : List X) (y : X) : Type 0 where
  between : List X
  is : xs ≡ front ++ y ∷ between

abbrev head_or : {X : Type 0} → X → List X → X
head_or d [] = d
head_or d (x ∷ xs) = x

abbrev tail_of : {X : Type 0} → List X → List X
tail_of [] = []
tail_of (x ∷ xs) = xs

placed : {X : Type 0} (xs : List X) (x : X) (front : List X) (y : X) (rest : List X)
    → xs ++ x ∷ [] ≡ front ++ y ∷ rest → IsLast xs x front y ⊎ IsBefore xs front y
placed [] x [] y rest e = inl (record { front_is = refl; item_is = sym (ap (head_or x) e) })
placed [] x (f ∷ front) y rest e =
    absurd (omega (arith, ap length e, length-append front (y ∷ rest)))
placed (z ∷ xs) x [] y rest e =
    inr (record { between = xs; is = ap (λ h. h ∷ xs) (ap (head_or z) e) })
placed (z ∷ xs) x (f ∷ front) y rest e = by (placed xs x front y rest (ap tail_of e))
  where
    same : z ≡ f
    same = ap (head_or z) e

    by : IsLast xs x front y ⊎ IsBefore xs front y
        → IsLast (z ∷ xs) x (f ∷ front) y ⊎ IsBefore (z ∷ xs) (f ∷ front) y
    by (inl l) = inl (record { front_is = (λ i. sym same i ∷ l.front_is i); item_is = l.item_is })
    by (inr b) = inr (record { between = b.between; is = λ i. same i ∷ b.is i })

-- ---- one entry more, others' entries more

module _ (opens : Opens) (o : Opening) (seat : ℕ) where
  keeps_one : (history : List Entry) (e : Entry) → KeepsHonest opens o seat history
      → (e.line.seat ≡ seat → IsHonest opens o history → IsHonest opens o (history ++ e ∷ []))
      → KeepsHonest opens o seat (history ++ e ∷ [])
  keeps_one history e keeps own front y rest is seat_is honest =
      by (placed history e front y rest is)
    where
      by : IsLast history e front y ⊎ IsBefore history front y
          → IsHonest opens o (front ++ y ∷ [])
      by (inl l) =
          let at = own (ap (λ (x : Entry). x.line.seat) (sym l.item_is) ∙ seat_is)
          (subst (IsHonest opens o) l.front_is honest) in
          subst (IsHonest opens o) (λ i. sym l.front_is i ++ sym l.item_is i ∷ []) at
      by (inr b) = keeps front y b.between b.is seat_is honest

  keeps_others : (history others : List Entry) → KeepsHonest opens o seat history
      → of_seat seat_of seat others ≡ [] → KeepsHonest opens o seat (history ++ others)
  keeps_others history [] keeps apart =
      subst (KeepsHonest opens o seat) (sym (append-nil history)) keeps
  keeps_others history (e ∷ others) keeps apart =
      by (e.line.seat == seat) refl apart (keeps_others (history ++ e ∷ []) others)
    where
      by : (b : Bool) → (e.line.seat == seat) ≡ b
          → cond b (e ∷ of_seat seat_of seat others) (of_seat seat_of seat others) ≡ []
          → (KeepsHonest opens o seat (history ++ e ∷ [])
          → of_seat seat_of seat others ≡ []
          → KeepsHonest opens o seat ((history ++ e ∷ []) ++ others))
          → KeepsHonest opens o seat (history ++ e ∷ others)
      by true is apart more = absurd (omega (arith, ap length apart))
      by false is apart more =
          subst (KeepsHonest opens o seat) (append_assoc history (e ∷ []) others)
          (more (keeps_one history e keeps
          (λ own. absurd (false≢true (sym is ∙ eq-eqb e.line.seat seat own)))) apart)

pub honesty_follows : HonestyFollows
honesty_follows opens old new asked given a honest keeps =
    let e = a.entry in
    let o = old.opening in
    subst (λ (c : Caller). KeepsHonest opens c.opening c.seat c.seen) (sym a.new_is)
    (keeps_one opens o old.seat (old.seen ++ a.others) e
    (keeps_others opens o old.seat old.seen a.others keeps a.apart)
    (λ own front. (honest_by_entries.more opens o (old.seen ++ a.others) e front).1
    (subst (λ gave. HonestBy gave e.line.did opens e) (sym a.records.gave_is)
    (subst (λ done. HonestBy (gave_of given) done opens e) (sym a.records.did_is)
    (honest front)))))

none_more : (n m : List Entry) → length (n ++ m) ≡ length n → m ≡ []
none_more n [] e = refl
none_more n (x ∷ m) e = absurd (omega (arith, e, length-append n (x ∷ m)))

pub honesty_stands : HonestyStands
honesty_stands opens o history seat seen mine stands own keeps =
    let more = stands.front.0 in
    let parts : of_seat seat_of seat seen ++ of_seat seat_of seat more
    ≡ of_seat seat_of seat seen =
    sym (filter-append (λ (e : Entry). seat_of e == seat) seen more)
    ∙ ap (of_seat seat_of seat) stands.front.1 ∙ stands.whole ∙ sym own in
    subst (KeepsHonest opens o seat) stands.front.1
    (keeps_others opens o seat seen more keeps
    (none_more (of_seat seat_of seat seen) (of_seat seat_of seat more) (ap length parts)))

-- ---- budgets and rows

one_brought : (e : Entry) → reloads_in (e ∷ []) ≡ cond (brings_settings e.line.did) 1 0
one_brought e = omega arith

pub budget_follows : BudgetFollows
budget_follows old new asked given a =
    ap (λ (c : Caller). reloads_in c.mine) a.new_is
    ∙ reloads_more old.mine (a.entry ∷ [])
    ∙ ap (λ n. reloads_in old.mine + n) (one_brought a.entry
    ∙ ap {B = ℕ} (λ done. cond (brings_settings done) 1 0) a.records.did_is)

rows_from : (st : State) (history : List Entry)
    → (state_from st history).rows ≡ st.rows ++ written_rows history
rows_from st [] = sym (append-nil st.rows)
rows_from st (e ∷ history) = rows_from (after st e) history
    ∙ append_assoc st.rows (new_rows e.line.gave e.line.did e.row) (written_rows history)

pub rows_are_written : RowsAreWritten
rows_are_written o history = rows_from (start_of o) history
