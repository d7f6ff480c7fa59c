-- What an entry does to the state: one of a few kinds.
use Rattle.std.proofs.Common.{◌≡◌, ℕ, ◌<◌, List, [], ◌∷◌, ◌++◌, length, Option, None, Some, IsSome, refl, sym, ap, subst, ◌∙◌, append-nil}
use Rattle.std.specs.Prelude.{slice_set, if◌then◌else◌}
use Rattle.std.specs.Str.{bytes_eq}
use Rattle.std.proofs.lemmas.Option.{same_Some}
use Rattle.kr_store.specs.declared.format.Check.{Check}
use Rattle.kr_store.specs.declared.rows.LogRow.{LogRow}
use Rattle.kr_store.specs.declared.rows.Row.{Row}
use Rattle.kr_store.specs.Rows.{live, put_of, delete_of, row_of, put_at}
use Rattle.kr_store.proofs.Places.{row_stays}
use Rattle.kr_kms.specs.Opens.{Opens}
use Rattle.kr_provider.specs.Publication.{Publication, IsPublished, SeedOpens, list_at, writer_at}
use Rattle.kr_provider.specs.Reading.{data_of, HasReading, HasSomeReading}
use Rattle.kr_provider.specs.Sealing.{IsSealing}
use Rattle.kr_judge.specs.declared.need.Need.{Need}
use Rattle.kr_judge.specs.declared.verdict.Verdict.TheVariants.{Pass}
use Rattle.kr_judge.specs.Boards.{set_need, drop_need}
use Rattle.kr_rollout.specs.declared.line.Did.{Did}
use Rattle.kr_rollout.specs.declared.line.Did.TheVariants.{Adopt, Put, Delete, Replace, LetGo, Reload, Join, Leave}
use Rattle.kr_rollout.specs.declared.line.Gave.{Gave}
use Rattle.kr_rollout.specs.declared.line.Gave.TheVariants.{Adopted, Found, Absent, Written, Changed, Released, Reloaded, Joined, Refused, Moved, Present, Departed, Gone, StoreFailed, StoreFull, Nothing}
use Rattle.kr_rollout.specs.declared.opening.Entry.{Entry}
use Rattle.kr_rollout.specs.declared.opening.Opening.{Opening}
use Rattle.kr_opening.specs.Checks.{written_check}
use Rattle.kr_rollout.specs.Entries.{published_at, generation_named_by}
use Rattle.kr_rollout.specs.States.{State, current_of, held_by, verdict_on}
use Rattle.kr_rollout.specs.Steps.{IsStep, after, put_need, put_row}
use Rattle.kr_rollout.specs.Judgements.{with_configuration}
use Rattle.kr_history.specs.Contents.{puts, deletes, change_at}
use Rattle.kr_history.specs.Honesty.{SeedsOpen, KeepsData, IsHonestEntry, WritesHonestly}
use Rattle.kr_rollout.proofs.Revisions.{live_at}

-- it isn't a change of any content
abbrev pub LeavesContent : Entry → Type 0
LeavesContent e = (path : List ℕ) → change_at e.line.gave e.line.did path ≡ None

-- the value is a sealing of the data as which the row reads
pub record SealsAnew (opens : Opens) (p : Publication) (path : List ℕ) (old : Row)
    (stored : List ℕ) : Type 0 where
  pub plain : List ℕ
  pub reads : HasReading opens (list_at p old.resource) path old.stored (data_of plain)
  pub sealing : IsSealing p old.resource path plain stored

-- it is one with some unwrapped source
pub record SealsSomehow (p : Publication) (path : List ℕ) (old : Row) (stored : List ℕ)
    : Type 0 where
  pub plain : List ℕ
  pub reads : HasSomeReading (list_at p old.resource) path old.stored (data_of plain)
  pub sealing : IsSealing p old.resource path plain stored

-- the seat holds a generation of this configuration
pub record Holds (st : State) (seat : ℕ) (p : Publication) : Type 0 where
  pub number : ℕ
  pub held : held_by st seat ≡ Some number
  pub published : published_at st.generations (Some number) ≡ Some p

abbrev pub need_by : Publication → (path resource : List ℕ) → Need
need_by p path resource =
    record { path = path; resource = resource; who = writer_at p resource }

-- the state with one more value
abbrev pub with_value : State → Publication → (path resource stored : List ℕ) → Option Check
    → ℕ → State
with_value st p path resource stored check count = record st {
  needs = set_need st.needs (need_by p path resource);
  rows = st.rows ++ put_of path resource stored check ∷ [];
  count = count;
}

pub data Effect (o : Opening) (st : State) (e : Entry) : Type 0 where
  stays : LeavesContent e → after st e ≡ record st { count = e.line.faults } → Effect o st e
  adopts : (replica number : ℕ) → current_of st replica ≡ Some number → LeavesContent e
      → after st e ≡ record st {
        held = slice_set st.held e.line.seat (Some number);
        count = e.line.faults;
      } → Effect o st e
  lets_go : LeavesContent e
      → after st e ≡ record st {
        held = slice_set st.held e.line.seat None;
        count = e.line.faults;
      } → Effect o st e
  leaves : (replica : ℕ) → LeavesContent e
      → after st e ≡ record st {
        current = slice_set st.current replica None;
        count = e.line.faults;
      } → Effect o st e
  gives : (replica : ℕ) (p : Publication) → replica < length o.replicas → IsPublished p
      → verdict_on st replica p.rows ≡ Pass
      → ((opens : Opens) → IsHonestEntry opens e → SeedsOpen opens p) → LeavesContent e
      → after st e ≡ record (with_configuration st replica p) { count = e.line.faults }
      → Effect o st e
  puts_value : (path resource plain stored : List ℕ) (p : Publication) (check : Option Check)
      → Holds st e.line.seat p → IsSealing p resource path plain stored
      → ((opens : Opens) → WritesHonestly e.line.gave e.line.did opens path e
      → SeedOpens opens p.seeds (writer_at p resource))
      → ((own : List ℕ) → change_at e.line.gave e.line.did own
      ≡ (if bytes_eq path own then Some (puts plain) else None))
      → after st e ≡ with_value st p path resource stored check e.line.faults → Effect o st e
  deletes_row : (path : List ℕ) → IsSome (live st.rows path)
      → ((own : List ℕ) → change_at e.line.gave e.line.did own
      ≡ (if bytes_eq path own then Some deletes else None))
      → after st e ≡ record st {
        needs = drop_need st.needs path;
        rows = st.rows ++ delete_of path ∷ [];
        count = e.line.faults;
      } → Effect o st e
  replaces_value : (path stored : List ℕ) (old : Row) (p : Publication) (check : Option Check)
      → Holds st e.line.seat p → live st.rows path ≡ Some old → SealsSomehow p path old stored
      → ((opens : Opens) → WritesHonestly e.line.gave e.line.did opens path e
      → SealsAnew opens p path old stored × SeedOpens opens p.seeds (writer_at p old.resource))
      → LeavesContent e
      → after st e ≡ with_value st p path old.resource stored check e.line.faults → Effect o st e

-- ---- the states

unchanged : (st : State) (current held : List (Option ℕ)) (needs : List Need) (count : ℕ)
    → ◌≡◌ {A = State} (record {
      generations = st.generations ++ [];
      current = current;
      held = held;
      needs = needs;
      rows = st.rows ++ [];
      count = count;
    })
    (record {
      generations = st.generations;
      current = current;
      held = held;
      needs = needs;
      rows = st.rows;
      count = count;
    })
unchanged st current held needs count =
    let g = append-nil st.generations in let r = append-nil st.rows in
    (λ i. record {
      generations = g i;
      current = current;
      held = held;
      needs = needs;
      rows = r i;
      count = count;
    })

pub given : (st : State) (replica number : ℕ) (p : Publication) (count : ℕ)
    → number ≡ length st.generations
    → ◌≡◌ {A = State} (record {
      generations = st.generations ++ record { replica = replica; published = p } ∷ [];
      current = slice_set st.current replica (Some number);
      held = st.held;
      needs = st.needs;
      rows = st.rows ++ [];
      count = count;
    })
    (record (with_configuration st replica p) { count = count })
given st replica number p count e = let r = append-nil st.rows in
    (λ i. record {
      generations = st.generations ++ record { replica = replica; published = p } ∷ [];
      current = slice_set st.current replica (Some (e i));
      held = st.held;
      needs = st.needs;
      rows = r i;
      count = count;
    })

wrote : (st : State) (needs : List Need) (more : List LogRow) (count : ℕ)
    → ◌≡◌ {A = State} (record {
      generations = st.generations ++ [];
      current = st.current;
      held = st.held;
      needs = needs;
      rows = st.rows ++ more;
      count = count;
    })
    (record st { needs = needs; rows = st.rows ++ more; count = count })
wrote st needs more count = let g = append-nil st.generations in
    (λ i. record {
      generations = g i;
      current = st.current;
      held = st.held;
      needs = needs;
      rows = st.rows ++ more;
      count = count;
    })

some_is : (x : Option ℕ) → IsSome x → (n : ℕ) × (x ≡ Some n)
some_is None s = absurd (none_is s)
  where
    none_is : IsSome {T = ℕ} None → ⊥
    none_is e = cc
some_is (Some n) s = (n, refl)

-- a row that is replaced is still there behind more rows
pub replaced_row : (rows more : List LogRow) (path : List ℕ) (from : ℕ) (old : Row)
    → live rows path ≡ Some old → old.revision ≡ from → put_at (rows ++ more) from ≡ Some old
replaced_row rows more path from old is at =
    let l = live_at rows path old is in
    ap (put_at (rows ++ more)) (sym at) ∙ row_stays rows more old.revision l.within ∙ l.row_is

-- ---- the kinds

-- an entry by its parts
abbrev pub entry_with : (seat : ℕ) → (held : Option ℕ) → (faults : ℕ) → Option Publication
    → (row replaced : Option Row) → Did → Gave → Entry
entry_with seat held faults published row replaced did gave = record {
  line = record { seat = seat; did = did; held = held; gave = gave; faults = faults };
  published = published;
  row = row;
  replaced = replaced;
}

module _ (o : Opening) (st : State) (seat : ℕ) (held : Option ℕ) (faults : ℕ)
    (published : Option Publication) (row replaced : Option Row) where
  abbrev entry : Did → Gave → Entry
  entry did gave = entry_with seat held faults published row replaced did gave

  -- what was written, was so by what the seat holds
  pub holds : (did : Did) (revision : ℕ) (p : Publication) → IsStep o st (entry did (Written revision))
      → IsSome held → published ≡ Some p → Holds st seat p
  holds did revision p s some is =
      let n = some_is held some in
      record {
        number = n.0;
        held = sym s.held ∙ n.1;
        published = sym (ap (λ gs. published_at gs (Some n.0)) (append-nil st.generations))
            ∙ sym (ap (λ h. published_at (st.generations ++ []) (generation_named_by h
            (Written revision))) n.1)
            ∙ sym (ap (λ (e : Entry). e.published) s.payload) ∙ is;
      }

  value_written : (p : Publication) (path resource stored : List ℕ) (check : Option Check)
      (revision : ℕ) → published ≡ Some p
      → row ≡ Some (record {
        path = path;
        resource = resource;
        revision = revision;
        stored = stored;
        check = check;
      })
      → ◌≡◌ {A = State} (record {
        generations = st.generations ++ [];
        current = st.current;
        held = st.held;
        needs = put_need published row st.needs;
        rows = st.rows ++ put_row row;
        count = faults;
      })
      (with_value st p path resource stored check faults)
  value_written p path resource stored check revision p_is row_is =
      let g = append-nil st.generations in
      (λ i. record {
        generations = g i;
        current = st.current;
        held = st.held;
        needs = put_need (p_is i) (row_is i) st.needs;
        rows = st.rows ++ put_row (row_is i);
        count = faults;
      })

  anew : (opens : Opens) (p : Publication) (old : Row) (did : Did) (path resource stored : List ℕ)
      (check : Option Check) (revision : ℕ) → KeepsData opens path (entry did (Written revision))
      → published ≡ Some p
      → row ≡ Some (record {
        path = path;
        resource = resource;
        revision = revision;
        stored = stored;
        check = check;
      })
      → replaced ≡ Some old → SealsAnew opens p path old stored
  anew opens p old did path resource stored check revision k p_is row_is old_is =
      let same_p = same_Some k.p p (sym k.held ∙ p_is) in
      let same_old = same_Some k.old old (sym k.replaced ∙ old_is) in
      let same_new = ap (λ (r : Row). r.stored) (same_Some k.new _ (sym k.written ∙ row_is)) in
      record {
        plain = k.plain;
        reads = subst (λ (q : Publication). HasReading opens (list_at q old.resource) path
            old.stored (data_of k.plain)) same_p
            (subst (λ (r : Row). HasReading opens (list_at k.p r.resource) path r.stored
            (data_of k.plain)) same_old k.reads);
        sealing = subst (λ (q : Publication). IsSealing q old.resource path k.plain stored) same_p
            (subst (λ (r : Row). IsSealing k.p r.resource path k.plain stored) same_old
            (subst (λ v. IsSealing k.p k.old.resource path k.plain v) same_new k.sealing));
      }

  anew_opens : (opens : Opens) (p : Publication) (old : Row) (did : Did) (path : List ℕ)
      (revision : ℕ) → (k : KeepsData opens path (entry did (Written revision)))
      → SeedOpens opens k.p.seeds (writer_at k.p k.old.resource) → published ≡ Some p
      → replaced ≡ Some old → SeedOpens opens p.seeds (writer_at p old.resource)
  anew_opens opens p old did path revision k opened p_is old_is =
      subst (λ (q : Publication). SeedOpens opens q.seeds (writer_at q old.resource))
      (same_Some k.p p (sym k.held ∙ p_is))
      (subst (λ (r : Row). SeedOpens opens k.p.seeds (writer_at k.p r.resource))
      (same_Some k.old old (sym k.replaced ∙ old_is)) opened)

  put_effect : (path resource plain : List ℕ) (revision : ℕ)
      → IsStep o st (entry (Put path resource plain) (Written revision))
      → Effect o st (entry (Put path resource plain) (Written revision))
  put_effect path resource plain revision s =
      let w = s.writes in
      let p = w.1.0 in
      let sealed = w.1.2 in
      let check = written_check o.format p resource in
      puts_value path resource plain sealed.stored p check
      (holds (Put path resource plain) revision p s s.answer.0 w.1.1) sealed.sealing
      (λ opens h. h refl p w.1.1) (λ own. refl)
      (value_written p path resource sealed.stored check revision w.1.1
      (w.3 ∙ ap (λ (r : LogRow). row_of revision r.path r.change) sealed.row_is))

  replace_effect : (path : List ℕ) (from revision : ℕ)
      → IsStep o st (entry (Replace path from) (Written revision))
      → Effect o st (entry (Replace path from) (Written revision))
  replace_effect path from revision s =
      let w = s.writes in
      let p = w.1.0 in
      let old = w.1.1 in
      let sealed = w.1.5.sealed in
      let check = written_check o.format p old.resource in
      let row_is = w.3 ∙ ap (λ (r : LogRow). row_of revision r.path r.change) sealed.row_is in
      let old_is = ap (λ (e : Entry). e.replaced) s.payload
      ∙ replaced_row st.rows (put_row row) path from old w.1.3 w.1.4 in
      replaces_value path sealed.stored old p check
      (holds (Replace path from) revision p s s.answer.0 w.1.2) w.1.3
      (record { plain = w.1.5.plain; reads = w.1.5.reads; sealing = sealed.sealing })
      (λ opens h. let k = h refl in (
        anew opens p old (Replace path from) path old.resource sealed.stored check revision k.keeps
            w.1.2 row_is old_is,
        anew_opens opens p old (Replace path from) path revision k.keeps k.opens_it w.1.2 old_is,
      ))
      (λ own. refl)
      (value_written p path old.resource sealed.stored check revision w.1.2 row_is)

  effect_by : (did : Did) (gave : Gave) → IsStep o st (entry did gave)
      → Effect o st (entry did gave)
  effect_by (Adopt replica) (Adopted number) s = adopts replica number s.answer.1 (λ path. refl)
      (unchanged st st.current (slice_set st.held seat (Some number)) st.needs faults)
  effect_by LetGo Released s = lets_go (λ path. refl)
      (unchanged st st.current (slice_set st.held seat None) st.needs faults)
  effect_by (Leave replica) (Departed number) s = leaves replica (λ path. refl)
      (unchanged st (slice_set st.current replica None) st.held st.needs faults)
  effect_by (Reload replica p expect) (Reloaded number) s = gives replica p s.rules.0 s.rules.1.0 s.answer.1.0
      (λ opens h. h) (λ path. refl) (given st replica number p faults s.answer.1.1)
  effect_by (Join replica p) (Joined number) s = gives replica p s.rules.0 s.rules.1.0 s.answer.1.0
      (λ opens h. h) (λ path. refl) (given st replica number p faults s.answer.1.1)
  effect_by (Put path resource plain) (Written revision) s = put_effect path resource plain revision s
  effect_by (Delete path) (Written revision) s = deletes_row path s.answer.0 (λ own. refl) (wrote st (drop_need st.needs path) (delete_of path ∷ []) faults)
  effect_by (Replace path from) (Written revision) s = replace_effect path from revision s
  effect_by did (Found revision) s = stays (λ path. refl)
      (unchanged st st.current st.held st.needs faults)
  effect_by did Absent s = stays (λ path. refl)
      (unchanged st st.current st.held st.needs faults)
  effect_by did (Changed revision) s = stays (λ path. refl)
      (unchanged st st.current st.held st.needs faults)
  effect_by did (Refused verdict) s = stays (λ path. refl)
      (unchanged st st.current st.held st.needs faults)
  effect_by did (Moved number) s = stays (λ path. refl)
      (unchanged st st.current st.held st.needs faults)
  effect_by did (Present number) s = stays (λ path. refl)
      (unchanged st st.current st.held st.needs faults)
  effect_by did (Gone replica) s = stays (λ path. refl)
      (unchanged st st.current st.held st.needs faults)
  effect_by did StoreFailed s = stays (λ path. refl)
      (unchanged st st.current st.held st.needs faults)
  effect_by did (StoreFull needed) s = stays (λ path. refl)
      (unchanged st st.current st.held st.needs faults)
  effect_by did Nothing s = stays (λ path. refl)
      (unchanged st st.current st.held st.needs faults)
  effect_by other another s = absurd s.answer

pub effect_of : (o : Opening) (st : State) (e : Entry) → IsStep o st e → Effect o st e
effect_of o st e s = effect_by o st e.line.seat e.line.held e.line.faults e.published e.row
    e.replaced e.line.did e.line.gave s
