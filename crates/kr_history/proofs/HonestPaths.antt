-- In an honest history the seeds of each generation open, and what stands at each path is honest.
use Rattle.std.proofs.Common.{◌≡◌, ◌⊎◌, inl, inr, ℕ, zero, suc, ◌+◌, List, [], ◌∷◌, ◌++◌, Option, None, Some, IsSome, IfSome, refl, sym, subst, arith}
use Rattle.std.specs.Prelude.{All}
use Rattle.std.specs.List.{slice_get}
use Rattle.std.specs.Option.{option_map}
use Rattle.std.proofs.lemmas.Option.{none-some, same_Some}
use Rattle.kr_store.specs.declared.rows.Row.{Row}
use Rattle.kr_kms.specs.Opens.{Opens}
use Rattle.kr_provider.specs.Publication.{Publication, writer_at}
use Rattle.kr_opening.specs.declared.generation.Generation.{Generation}
use Rattle.kr_opening.specs.Replicas.{generations_from}
use Rattle.kr_rollout.specs.declared.line.Did.{Did}
use Rattle.kr_rollout.specs.declared.line.Did.TheVariants.{Put, Replace}
use Rattle.kr_rollout.specs.declared.line.Gave.{Gave}
use Rattle.kr_rollout.specs.declared.line.Gave.TheVariants.{Adopted, Written}
use Rattle.kr_rollout.specs.declared.opening.Entry.{Entry}
use Rattle.kr_rollout.specs.declared.opening.Opening.{Opening}
use Rattle.kr_rollout.specs.Openings.{start_of}
use Rattle.kr_rollout.specs.States.{State}
use Rattle.kr_rollout.specs.Steps.{IsStep, after}
use Rattle.kr_rollout.specs.Histories.{IsLegal, IsRun, state_from, state_of}
use Rattle.kr_history.specs.ContentLaws.{HonestAtEach}
use Rattle.kr_history.specs.Honesty.{HonestBy, IsHonest, IsHonestEntry, KeepsData, SeedsOpen, WritesHonestly}
use Rattle.kr_history.proofs.ContentReads.{seed_opens}
use Rattle.kr_history.proofs.Effects.{Effect, stays, adopts, lets_go, leaves, gives, puts_value, deletes_row, replaces_value, Holds, effect_of, entry_with, holds}
use Rattle.kr_history.proofs.Fitting.{new_or_old}
use Rattle.kr_history.proofs.HonestSeats.{honest_by_entries}

-- ---- the seeds of each generation open

abbrev pub AllOpen : Opens → State → Type 0
AllOpen opens st = (number : ℕ) (g : Generation) → slice_get st.generations number ≡ Some g
    → SeedsOpen opens g.published

module _ (opens : Opens) (o : Opening) (st : State) (all : AllOpen opens st) (e : Entry) where
  opened_after : IsHonestEntry opens e → Effect o st e → AllOpen opens (after st e)
  opened_after honest (stays quiet is) = subst (AllOpen opens) (sym is) all
  opened_after honest (adopts replica number at quiet is) = subst (AllOpen opens) (sym is) all
  opened_after honest (lets_go quiet is) = subst (AllOpen opens) (sym is) all
  opened_after honest (leaves replica quiet is) = subst (AllOpen opens) (sym is) all
  opened_after honest (gives replica p l published pass gave quiet is) =
      subst (AllOpen opens) (sym is) (λ n g at. by n g (new_or_old st.generations
      (record { replica = replica; published = p }) g n at))
    where
      by : (n : ℕ) (g : Generation)
          → (slice_get st.generations n ≡ Some g)
          ⊎ (◌≡◌ {A = Generation} (record { replica = replica; published = p }) g)
          → SeedsOpen opens g.published
      by n g (inl old) = all n g old
      by n g (inr same) = subst (λ (x : Generation). SeedsOpen opens x.published) same
          (gave opens honest)
  opened_after honest (puts_value own resource plain stored p check h sealing opened changes is) =
      subst (AllOpen opens) (sym is) all
  opened_after honest (deletes_row own was changes is) = subst (AllOpen opens) (sym is) all
  opened_after honest (replaces_value own stored old p check h was sealed gave quiet is) =
      subst (AllOpen opens) (sym is) all

opened_run : (opens : Opens) (o : Opening) (st : State) (history : List Entry)
    → AllOpen opens st → IsRun o st history → All (IsHonestEntry opens) history
    → AllOpen opens (state_from st history)
opened_run opens o st [] all run honest = all
opened_run opens o st (e ∷ history) all run honest = opened_run opens o (after st e) history
    (opened_after opens o st all e (honest 0 e (omega arith)) (effect_of o st e run.0)) run.1
    (λ i d l. honest (suc i) d (omega arith))

opened_from : (opens : Opens) (k : ℕ) (rs : List (Option Publication)) (n : ℕ) (g : Generation)
    → All (λ replica. IfSome replica (SeedsOpen opens)) rs
    → slice_get (generations_from k rs) n ≡ Some g → SeedsOpen opens g.published
opened_from opens k [] n g all e = absurd (none-some g e)
opened_from opens k (None ∷ rs) n g all e =
    opened_from opens (k + 1) rs n g (λ i d l. all (suc i) d (omega arith)) e
opened_from opens k (Some p ∷ rs) zero g all e =
    subst (λ (x : Generation). SeedsOpen opens x.published)
    (same_Some (record { replica = k; published = p }) g e) (all 0 None (omega arith))
opened_from opens k (Some p ∷ rs) (suc n) g all e =
    opened_from opens (k + 1) rs n g (λ i d l. all (suc i) d (omega arith)) e

pub history_opened : (opens : Opens) (o : Opening) (history : List Entry) → IsLegal o history
    → IsHonest opens o history → AllOpen opens (state_of o history)
history_opened opens o history l honest = opened_run opens o (start_of o) history
    (λ n g e. opened_from opens 0 o.replicas n g honest.opening e) l.runs honest.entries

-- ---- what an entry writes

module _ (opens : Opens) (o : Opening) (st : State) (all : AllOpen opens st) (seat : ℕ)
    (held : Option ℕ) (faults : ℕ) (published : Option Publication) (row replaced : Option Row)
  where
    abbrev entry : Did → Gave → Entry
    entry done given = entry_with seat held faults published row replaced done given

    generation_opens : (p : Publication) → Holds st seat p → SeedsOpen opens p
    generation_opens p h = by (slice_get st.generations h.number) refl h.published
      where
        by : (x : Option Generation) → slice_get st.generations h.number ≡ x
            → option_map (λ (g : Generation). g.published) x ≡ Some p → SeedsOpen opens p
        by None is e = absurd (none-some p e)
        by (Some g) is e = subst (SeedsOpen opens) (same_Some g.published p e)
            (all h.number g is)

    held_seeds : (done : Did) (revision : ℕ) (p : Publication)
        → IsStep o st (entry done (Written revision)) → IsSome held → published ≡ Some p
        → SeedsOpen opens p
    held_seeds done revision p s some is = generation_opens p
        (holds o st seat held faults published row replaced done revision p s some is)

    writes_at : (path : List ℕ) (done : Did) (given : Gave) → IsStep o st (entry done given)
        → HonestBy given done opens (entry done given)
        → WritesHonestly given done opens path (entry done given)
    writes_at path done (Adopted number) s h = tt
    writes_at path (Put own resource plain) (Written revision) s h = λ same p is.
        seed_opens opens p.seeds (writer_at p resource)
        (held_seeds (Put own resource plain) revision p s s.answer.0 is)
    writes_at path (Replace own from) (Written revision) s h = λ same.
        let k = subst (λ q. KeepsData opens q (entry (Replace own from) (Written revision))) same
        h in record {
          keeps = k;
          opens_it = seed_opens opens k.p.seeds (writer_at k.p k.old.resource)
              (held_seeds (Replace own from) revision k.p s s.answer.0 k.held);
        }
    writes_at path done other s h = tt

-- ---- what stands at each path

step_there : (o : Opening) (st : State) (front : List Entry) (e : Entry) (rest : List Entry)
    → IsRun o st (front ++ e ∷ rest) → IsStep o (state_from st front) e
step_there o st [] e rest r = r.0
step_there o st (x ∷ front) e rest r = step_there o (after st x) front e rest r.1

run_front : (o : Opening) (st : State) (front rest : List Entry) → IsRun o st (front ++ rest)
    → IsRun o st front
run_front o st [] rest r = tt
run_front o st (x ∷ front) rest r = (r.0, run_front o (after st x) front rest r.1)

at_middle : {X : Type 0} (P : X → Type 0) (xs : List X) (x : X) (ys : List X)
    → All P (xs ++ x ∷ ys) → P x
at_middle P [] x ys a = a 0 x (omega arith)
at_middle P (y ∷ xs) x ys a = at_middle P xs x ys (λ k d l. a (suc k) d (omega arith))

pub honest_at_each : HonestAtEach
honest_at_each opens o history path l honest front e rest is quiet =
    let runs = subst (λ h. IsRun o (start_of o) h) is l.runs in
    let whole = subst (λ h. IsHonest opens o h) is honest in
    let before : IsLegal o front = record {
      opens = l.opens;
      fit = l.fit;
      runs = run_front o (start_of o) front (e ∷ rest) runs;
    } in
    writes_at opens o (state_of o front)
    (history_opened opens o front before (honest_by_entries.front opens o front (e ∷ rest) whole))
    e.line.seat e.line.held e.line.faults e.published e.row e.replaced path e.line.did e.line.gave
    (step_there o (start_of o) front e rest runs)
    (at_middle (IsHonestEntry opens) front e rest whole.entries)
