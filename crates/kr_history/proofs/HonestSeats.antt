-- A history that each seat keeps honest is honest.
use Rattle.std.proofs.Common.{◌≡◌, ℕ, suc, ◌<◌, List, [], ◌∷◌, ◌++◌, length, refl, sym, subst, ◌∙◌, append-nil, arith, length-append}
use Rattle.std.specs.Prelude.{All}
use Rattle.std.proofs.lemmas.List.{append_assoc, get_or_append_left}
use Rattle.std.proofs.lemmas.List.Elements.{All-nil, All-cons, All-append}
use Rattle.kr_kms.specs.Opens.{Opens}
use Rattle.kr_rollout.specs.declared.opening.Entry.{Entry}
use Rattle.kr_rollout.specs.declared.opening.Opening.{Opening}
use Rattle.kr_rollout.specs.States.{State}
use Rattle.kr_rollout.specs.Openings.{start_of}
use Rattle.kr_rollout.specs.Steps.{after}
use Rattle.kr_rollout.specs.Histories.{IsRun}
use Rattle.kr_history.specs.Honesty.{IsHonest, IsHonestEntry, KeepsHonest}
use Rattle.kr_history.specs.ContentLaws.{HonestByEntries, HonestBySeats}

entries_front : {X : Type 0} (P : X → Type 0) (xs ys : List X) → All P (xs ++ ys) → All P xs
entries_front P xs ys a k d l = subst P (get_or_append_left xs ys d k l)
    (a k d (omega (arith, l, length-append xs ys)))

last_entry : {X : Type 0} (P : X → Type 0) (xs : List X) (x : X) → All P (xs ++ x ∷ []) → P x
last_entry P [] x a = a 0 x (omega arith)
last_entry P (y ∷ xs) x a = last_entry P xs x (λ k d l. a (suc k) d (omega arith))

honest_front : (opens : Opens) (o : Opening) (history more : List Entry)
    → IsHonest opens o (history ++ more) → IsHonest opens o history
honest_front opens o history more h = record {
  opening = h.opening;
  entries = entries_front (IsHonestEntry opens) history more h.entries;
}

honest_more : (opens : Opens) (o : Opening) (history : List Entry) (e : Entry)
    → IsHonest opens o history → IsHonestEntry opens e → IsHonest opens o (history ++ e ∷ [])
honest_more opens o history e h own = record {
  opening = h.opening;
  entries = All-append (IsHonestEntry opens) history (e ∷ []) h.entries
      (All-cons (IsHonestEntry opens) e [] own (All-nil (IsHonestEntry opens)));
}

pub honest_by_entries : HonestByEntries
honest_by_entries = record {
  front = honest_front;
  more = λ opens o history e h. (
    (λ all. last_entry (IsHonestEntry opens) history e all.entries),
    honest_more opens o history e h,
  );
}

-- the rest of a history, whose front is honest
honest_rest : (opens : Opens) (o : Opening) (st : State) (history front rest : List Entry)
    → history ≡ front ++ rest → IsRun o st rest → IsHonest opens o front
    → ((seat : ℕ) → seat < length o.reloads → KeepsHonest opens o seat history)
    → IsHonest opens o history
honest_rest opens o st history front [] is r honest keeps =
    subst (IsHonest opens o) (sym (is ∙ append-nil front)) honest
honest_rest opens o st history front (e ∷ rest) is r honest keeps =
    honest_rest opens o (after st e) history (front ++ e ∷ []) rest
    (is ∙ sym (append_assoc front (e ∷ []) rest)) r.1
    (keeps e.line.seat r.0.seat front e rest is refl honest) keeps

pub honest_by_seats : HonestBySeats
honest_by_seats opens o history l opening keeps =
    honest_rest opens o (start_of o) history [] history refl l.runs opening keeps
