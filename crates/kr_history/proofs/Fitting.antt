-- In a legal history the state is sound, and so fits.
use Rattle.std.proofs.Common.{◌≡◌, ℕ, zero, suc, ◌<◌, ◌≤◌, ◌+◌, ◌⊎◌, Bool, true, false, List, [], ◌∷◌, ◌++◌, length, replicate, Contains, Option, None, Some, IfSome, refl, sym, ap, subst, ◌∙◌, arith, inl, inr, length-append, IsTrue}
use Rattle.std.specs.Prelude.{slice_set, if◌then◌else◌, All, ◌-◌}
use Rattle.std.specs.List.{slice_get}
use Rattle.std.specs.Option.{option_map}
use Rattle.std.specs.Ordering.{match_ordering}
use Rattle.std.specs.Str.{bytes_eq}
use Rattle.std.specs.declared.cmp.Ordering.{Ordering}
use Rattle.std.specs.declared.cmp.Ordering.TheVariants.{Less, Equal, Greater}
use Rattle.std.proofs.lemmas.Bool.{cases_eq}
use Rattle.std.proofs.lemmas.List.{length-set, get_or-set_same, get_or-set_other}
use Rattle.std.proofs.lemmas.Option.{none-some, same_Some, slice_get_within}
use Rattle.kr_store.specs.declared.format.Check.{Check}
use Rattle.kr_store.specs.declared.rows.LogRow.{LogRow}
use Rattle.kr_store.specs.Rows.{delete_of}
use Rattle.kr_config.specs.declared.class.Class.TheVariants.{Exact}
use Rattle.kr_config.specs.declared.who.Who.{Who}
use Rattle.kr_config.specs.Kept.{ConfigEntry, keeps}
use Rattle.kr_config.specs.Nexts.{name_cmp}
use Rattle.kr_config.specs.Lists.{list_of}
use Rattle.kr_provider.specs.Publication.{Publication, IsPublished, writer_at}
use Rattle.kr_provider.specs.Readers.{writer_of}
use Rattle.kr_judge.specs.declared.need.Need.{Need}
use Rattle.kr_judge.specs.declared.verdict.Verdict.TheVariants.{Pass}
use Rattle.kr_judge.specs.Boards.{set_need, drop_need}
use Rattle.kr_judge.specs.Verdicts.{first}
use Rattle.kr_opening.proofs.Passing.{class_some}
use Rattle.kr_opening.specs.declared.generation.Generation.{Generation}
use Rattle.kr_rollout.specs.declared.opening.Entry.{Entry}
use Rattle.kr_rollout.specs.declared.opening.Opening.{Opening}
use Rattle.kr_rollout.specs.States.{State, number_at, IsLive, IsLiveNumber, verdict_on}
use Rattle.kr_rollout.specs.Openings.{start_of, IsAdmitted, IsOpening}
use Rattle.kr_opening.specs.Replicas.{generations_from, current_from}
use Rattle.kr_rollout.specs.Fits.{IsFit}
use Rattle.kr_judge.specs.LiveFits.{AreFit}
use Rattle.kr_rollout.specs.Steps.{after}
use Rattle.kr_rollout.specs.Histories.{state_from, state_of, IsRun, IsLegal}
use Rattle.kr_rollout.specs.Judgements.{with_configuration}
use Rattle.kr_history.specs.FitLaws.{LegalFits}
use Rattle.kr_history.proofs.Effects.{Effect, stays, adopts, lets_go, leaves, gives, puts_value, deletes_row, replaces_value, Holds, need_by, with_value, effect_of}
use Rattle.kr_history.proofs.Sound.{contains_at, set_there, there_at, IsOwn, IsSound, next_fits, get_new, old_more, rows_of_number}

-- ---- what is live

pub live_less : (Live More : List ConfigEntry → Type 0) (needs : List Need)
    → ((rows : List ConfigEntry) → Live rows → More rows) → AreFit More needs → AreFit Live needs
live_less Live More needs to f = record {
  writers = λ rows other class a b. f.writers rows other class (to rows a) (to other b);
  stored = λ rows need a there. f.stored rows need (to rows a) there;
}

-- what a seat holds is live
pub held_live : (st : State) (seat : ℕ) (p : Publication) → Holds st seat p → IsLive st p.rows
held_live st seat p h = (
  h.number,
  inr (contains_at st.held seat h.number h.held),
  ap (option_map (λ (q : Publication). q.rows)) h.published,
)

-- ---- needs

pub set_needs : (needs : List Need) (need x : Need) → Contains (set_need needs need) x
    → Contains needs x ⊎ (need ≡ x)
set_needs [] need x (zero, l, e) = inr e
set_needs [] need x (suc k, l, e) = absurd (omega (arith, l))
set_needs (own ∷ needs) need x c = by (name_cmp need.path own.path) (set_needs needs need x) c
  where
    further : Contains needs x ⊎ (need ≡ x) → Contains (own ∷ needs) x ⊎ (need ≡ x)
    further (inl r) = inl (suc r.0, omega (arith, r.1), r.2)
    further (inr e) = inr e

    by : (order : Ordering) → (Contains (set_need needs need) x → Contains needs x ⊎ (need ≡ x))
        → Contains (match_ordering order (need ∷ own ∷ needs) (need ∷ needs)
        (own ∷ set_need needs need)) x
        → Contains (own ∷ needs) x ⊎ (need ≡ x)
    by Less again (zero, l, e) = inr e
    by Less again (suc k, l, e) = inl (k, omega arith, e)
    by Equal again (zero, l, e) = inr e
    by Equal again (suc k, l, e) = inl (suc k, omega arith, e)
    by Greater again (zero, l, e) = inl (0, omega arith, e)
    by Greater again (suc k, l, e) = further (again (k, omega arith, e))

pub drop_needs : (needs : List Need) (path : List ℕ) (x : Need)
    → Contains (drop_need needs path) x → Contains needs x
drop_needs [] path x c = c
drop_needs (own ∷ needs) path x c = by (bytes_eq own.path path) (drop_needs needs path x) c
  where
    by : (b : Bool) → (Contains (drop_need needs path) x → Contains needs x)
        → Contains (if b then needs else own ∷ drop_need needs path) x → Contains (own ∷ needs) x
    by true again c = (suc c.0, omega (arith, c.1), c.2)
    by false again (zero, l, e) = (0, omega arith, e)
    by false again (suc k, l, e) =
        let r = again (k, omega arith, e) in (suc r.0, omega (arith, r.1), r.2)

writes_first : (list : List Who) → 1 ≤ length list → first list ≡ Some (writer_of list)
writes_first [] l = absurd (omega (arith, l))
writes_first (who ∷ list) l = refl

-- a value that is written needs the writer of a live configuration
value_fits : (st : State) (p : Publication) (path resource : List ℕ) → IsTrue (keeps p.rows)
    → IsLive st p.rows → IsFit st
    → AreFit (IsLive st) (set_need st.needs (need_by p path resource))
value_fits st p path resource kept own f = record {
  writers = f.writers;
  stored = λ rows need l there. by rows need l
      (set_needs st.needs (need_by p path resource) need there);
}
  where
    by : (rows : List ConfigEntry) (need : Need) → IsLive st rows
        → Contains st.needs need ⊎ (need_by p path resource ≡ need)
        → Contains (list_of rows need.resource) need.who
    by rows need l (inl there) = f.stored rows need l there
    by rows need l (inr same) = subst (λ (n : Need). Contains (list_of rows n.resource) n.who) same
        (f.writers rows p.rows (Exact resource) l own (writer_at p resource)
        (writes_first (list_of p.rows resource) (class_some p.rows kept (Exact resource))))

-- ---- numbers

number_set : (numbers : List (Option ℕ)) (at : ℕ) (x : Option ℕ) (place n : ℕ)
    → number_at (slice_set numbers at x) place ≡ Some n
    → ((place ≡ at) × (x ≡ Some n)) ⊎ (number_at numbers place ≡ Some n)
number_set numbers at x place n e = elim (cases_eq place at) [
  | inl same ↦
      (let l = (there_at (slice_set numbers at x) place n e).0 in
      inl (
        same,
        sym (get_or-set_same numbers at x None
            (omega (arith, l, same, length-set numbers at x)))
            ∙ ap (number_at (slice_set numbers at x)) (sym same) ∙ e,
      ))
  | inr other ↦ inr (sym (get_or-set_other numbers at place x None other) ∙ e)
]

pub new_or_old : {X : Type 0} (xs : List X) (y x : X) (n : ℕ) → slice_get (xs ++ y ∷ []) n ≡ Some x
    → (slice_get xs n ≡ Some x) ⊎ (y ≡ x)
new_or_old [] y x zero e = inr (same_Some y x e)
new_or_old [] y x (suc n) e = absurd (none-some x e)
new_or_old (z ∷ xs) y x zero e = inl e
new_or_old (z ∷ xs) y x (suc n) e = new_or_old xs y x n e

-- ---- one entry

module _ (o : Opening) (st : State) (sound : IsSound o st) where
  sound_adopts : (seat replica number count : ℕ) → number_at st.current replica ≡ Some number
      → IsSound o (record st { held = slice_set st.held seat (Some number); count = count })
  sound_adopts seat replica number count e =
      let next : State = record st { held = slice_set st.held seat (Some number); count = count } in
      record {
        replicas = sound.replicas;
        own = sound.own;
        held = λ n c. elim (set_there st.held seat (Some number) (Some n) c) [
          | inl same ↦
              (let g = sound.own replica number e in
              subst (λ m. m < length st.generations) (same_Some number n same)
              (slice_get_within st.generations number g.generation g.there))
          | inr old ↦ sound.held n (old.0, old.2, old.3)
        ];
        kept = sound.kept;
        fit = live_less (IsLive next) (IsLive st) st.needs
            (λ rows l. (l.0, was l.0 l.1, l.2)) sound.fit;
      }
    where
      was : (n : ℕ) → Contains st.current (Some n)
          ⊎ Contains (slice_set st.held seat (Some number)) (Some n) → IsLiveNumber st n
      was n (inl c) = inl c
      was n (inr c) = elim (set_there st.held seat (Some number) (Some n) c) [
        | inl same ↦ inl (subst (Contains st.current) same (contains_at st.current replica number e))
        | inr old ↦ inr (old.0, old.2, old.3)
      ]

  sound_lets_go : (seat count : ℕ)
      → IsSound o (record st { held = slice_set st.held seat None; count = count })
  sound_lets_go seat count =
      let next : State = record st { held = slice_set st.held seat None; count = count } in
      record {
        replicas = sound.replicas;
        own = sound.own;
        held = λ n c. sound.held n (was n c);
        kept = sound.kept;
        fit = live_less (IsLive next) (IsLive st) st.needs
            (λ rows l. (l.0, live l.0 l.1, l.2)) sound.fit;
      }
    where
      was : (n : ℕ) → Contains (slice_set st.held seat None) (Some n) → Contains st.held (Some n)
      was n c = elim (set_there st.held seat None (Some n) c) [
        | inl same ↦ absurd (none-some n same)
        | inr old ↦ (old.0, old.2, old.3)
      ]

      live : (n : ℕ) → Contains st.current (Some n)
          ⊎ Contains (slice_set st.held seat None) (Some n) → IsLiveNumber st n
      live n (inl c) = inl c
      live n (inr c) = inr (was n c)

  sound_leaves : (replica count : ℕ)
      → IsSound o (record st { current = slice_set st.current replica None; count = count })
  sound_leaves replica count =
      let next : State =
      record st { current = slice_set st.current replica None; count = count } in
      record {
        replicas = length-set st.current replica None ∙ sound.replicas;
        own = λ place n e. elim (number_set st.current replica None place n e) [
          | inl same ↦ absurd (none-some n same.1)
          | inr old ↦ sound.own place n old
        ];
        held = sound.held;
        kept = sound.kept;
        fit = live_less (IsLive next) (IsLive st) st.needs
            (λ rows l. (l.0, live l.0 l.1, l.2)) sound.fit;
      }
    where
      live : (n : ℕ) → Contains (slice_set st.current replica None) (Some n)
          ⊎ Contains st.held (Some n) → IsLiveNumber st n
      live n (inr c) = inr c
      live n (inl c) = elim (set_there st.current replica None (Some n) c) [
        | inl same ↦ absurd (none-some n same)
        | inr old ↦ inl (old.0, old.2, old.3)
      ]

  sound_gives : (replica count : ℕ) (p : Publication) → replica < length o.replicas
      → IsPublished p → verdict_on st replica p.rows ≡ Pass
      → IsSound o (record (with_configuration st replica p) { count = count })
  sound_gives replica count p l published pass =
      let new : Generation = record { replica = replica; published = p } in
      record {
        replicas = length-set st.current replica (Some (length st.generations)) ∙ sound.replicas;
        own = λ place n e. elim (number_set st.current replica (Some (length st.generations))
            place n e) [
              | inl same ↦ record {
                generation = new;
                there = ap (slice_get (st.generations ++ new ∷ []))
                    (sym (same_Some (length st.generations) n same.1)) ∙ get_new st.generations new;
                replica_is = sym same.0;
              }
              | inr old ↦
                  (let g = sound.own place n old in
                  record {
                    generation = g.generation;
                    there = old_more st.generations (new ∷ []) n g.generation g.there;
                    replica_is = g.replica_is;
                  })
            ];
        held = λ n c. omega (arith, sound.held n c, length-append st.generations (new ∷ []));
        kept = λ n g e. elim (new_or_old st.generations new g n e) [
          | inl old ↦ sound.kept n g old
          | inr same ↦ subst (λ (x : Generation). IsPublished x.published) same published
        ];
        fit = next_fits o st sound replica p published pass;
      }

  -- a configuration that is held keeps its rules
  held_keeps : (seat : ℕ) (p : Publication) → Holds st seat p → IsTrue (keeps p.rows)
  held_keeps seat p h =
      let g = rows_of_number st.generations h.number p.rows
      (ap (option_map (λ (q : Publication). q.rows)) h.published) in
      subst (λ r. IsTrue (keeps r)) g.2 (sound.kept h.number g.0 g.1).kept

  sound_value : (seat count : ℕ) (p : Publication) (path resource stored : List ℕ)
      (check : Option Check) → Holds st seat p
      → IsSound o (with_value st p path resource stored check count)
  sound_value seat count p path resource stored check h = record {
    replicas = sound.replicas;
    own = sound.own;
    held = sound.held;
    kept = sound.kept;
    fit = value_fits st p path resource (held_keeps seat p h) (held_live st seat p h) sound.fit;
  }

  sound_deletes : (path : List ℕ) (rows : List LogRow) (count : ℕ)
      → IsSound o (record st { needs = drop_need st.needs path; rows = rows; count = count })
  sound_deletes path rows count = record {
    replicas = sound.replicas;
    own = sound.own;
    held = sound.held;
    kept = sound.kept;
    fit = record {
      writers = sound.fit.writers;
      stored = λ settings need l there. sound.fit.stored settings need l
          (drop_needs st.needs path need there);
    };
  }

  pub sound_after : (e : Entry) → Effect o st e → IsSound o (after st e)
  sound_after e (stays leaves_it is) = subst (IsSound o) (sym is) (record {
    replicas = sound.replicas;
    own = sound.own;
    held = sound.held;
    kept = sound.kept;
    fit = sound.fit;
  })
  sound_after e (adopts replica number at leaves_it is) =
      subst (IsSound o) (sym is) (sound_adopts e.line.seat replica number e.line.faults at)
  sound_after e (lets_go leaves_it is) =
      subst (IsSound o) (sym is) (sound_lets_go e.line.seat e.line.faults)
  sound_after e (leaves replica leaves_it is) =
      subst (IsSound o) (sym is) (sound_leaves replica e.line.faults)
  sound_after e (gives replica p l published pass honest leaves_it is) =
      subst (IsSound o) (sym is) (sound_gives replica e.line.faults p l published pass)
  sound_after e (puts_value path resource plain stored p check h sealing opened changes is) =
      subst (IsSound o) (sym is)
      (sound_value e.line.seat e.line.faults p path resource stored check h)
  sound_after e (deletes_row path live changes is) =
      subst (IsSound o) (sym is)
      (sound_deletes path (st.rows ++ delete_of path ∷ []) e.line.faults)
  sound_after e (replaces_value path stored old p check h live sealed honest leaves_it is) =
      subst (IsSound o) (sym is)
      (sound_value e.line.seat e.line.faults p path old.resource stored check h)

-- ---- from an opening on

own_from : (k m : ℕ) (rs : List (Option Publication)) (place n : ℕ)
    → number_at (current_from m rs) place ≡ Some n
    → (m ≤ n) × IsOwn (generations_from k rs) (k + place) (n - m)
own_from k m (None ∷ rs) (suc place) n e =
    let r = own_from (k + 1) m rs place n e in (
      r.0,
      record {
        generation = r.1.generation;
        there = r.1.there;
        replica_is = omega (arith, r.1.replica_is);
      },
    )
own_from k m (Some p ∷ rs) zero n e =
    let same = same_Some m n e in
    let first : n - m ≡ 0 = omega (arith, same) in (
      omega (arith, same),
      record {
        generation = record { replica = k; published = p };
        there = ap (slice_get (generations_from k (Some p ∷ rs))) first;
        replica_is = omega arith;
      },
    )
own_from k m (Some p ∷ rs) (suc place) n e =
    let r = own_from (k + 1) (m + 1) rs place n e in
    let further : n - m ≡ suc (n - (m + 1)) = omega (arith, r.0) in (
      omega (arith, r.0),
      record {
        generation = r.1.generation;
        there = ap (slice_get (generations_from k (Some p ∷ rs))) further ∙ r.1.there;
        replica_is = omega (arith, r.1.replica_is);
      },
    )
own_from k m other place n e = absurd (none-some n e)

kept_from : (names : List (List ℕ)) (k : ℕ) (rs : List (Option Publication)) (n : ℕ)
    (g : Generation) → All (λ replica. IfSome replica (IsAdmitted names)) rs
    → slice_get (generations_from k rs) n ≡ Some g → IsPublished g.published
kept_from names k [] n g all e = absurd (none-some g e)
kept_from names k (None ∷ rs) n g all e =
    kept_from names (k + 1) rs n g (λ i d l. all (suc i) d (omega arith)) e
kept_from names k (Some p ∷ rs) zero g all e =
    subst (λ (x : Generation). IsPublished x.published)
    (same_Some (record { replica = k; published = p }) g e) (all 0 None (omega arith)).0
kept_from names k (Some p ∷ rs) (suc n) g all e =
    kept_from names (k + 1) rs n g (λ i d l. all (suc i) d (omega arith)) e

current_size : (m : ℕ) (rs : List (Option Publication)) → length (current_from m rs) ≡ length rs
current_size m [] = refl
current_size m (None ∷ rs) = ap suc (current_size m rs)
current_size m (Some p ∷ rs) = ap suc (current_size (m + 1) rs)

none_held : (n k : ℕ) → Contains (replicate n None) (Some k) → ⊥
none_held zero k c = omega (arith, c.1)
none_held (suc n) k (zero, l, e) = none-some k e
none_held (suc n) k (suc i, l, e) = none_held n k (i, omega arith, e)

start_own : (o : Opening) (place n : ℕ) → number_at (start_of o).current place ≡ Some n
    → IsOwn (start_of o).generations place n
start_own o place n e =
    let at : 0 + place ≡ place = omega arith in
    let number : n - 0 ≡ n = omega arith in
    subst (λ p. IsOwn (start_of o).generations p n) at
    (subst (λ m. IsOwn (start_of o).generations (0 + place) m) number
    (own_from 0 0 o.replicas place n e).1)

pub start_sound : (o : Opening) → IsOpening o → IsFit (start_of o) → IsSound o (start_of o)
start_sound o opens fit = record {
  replicas = current_size 0 o.replicas;
  own = λ place n e. start_own o place n e;
  held = λ n c. absurd (none_held (length o.reloads) n c);
  kept = λ n g e. kept_from o.names 0 o.replicas n g opens.admitted e;
  fit = fit;
}

-- ---- histories

pub sound_run : (o : Opening) (st : State) (history : List Entry) → IsSound o st
    → IsRun o st history → IsSound o (state_from st history)
sound_run o st [] sound r = sound
sound_run o st (e ∷ history) sound r =
    sound_run o (after st e) history (sound_after o st sound e (effect_of o st e r.0)) r.1

pub legal_sound : (o : Opening) (history : List Entry) → IsLegal o history
    → IsSound o (state_of o history)
legal_sound o history l =
    sound_run o (start_of o) history (start_sound o l.opens l.fit) l.runs

pub legal_fits : LegalFits
legal_fits o history l = (legal_sound o history l).fit
