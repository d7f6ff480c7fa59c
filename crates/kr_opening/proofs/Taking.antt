-- The replicas' settings are taken up one by one.
use Rattle.std.proofs.Common.{◌≡◌, ℕ, zero, suc, ◌<◌, ◌≤◌, ◌+◌, true, List, [], ◌∷◌, ◌++◌, length, get_or, take, Contains, Option, None, Some, Result, Ok, Err, refl, sym, ap, subst, ◌∙◌, arith, inl, inr, ◌⊎◌, length-take}
use Rattle.std.specs.Prelude.{◌&&◌, not}
use Rattle.std.specs.Option.{option_map}
use Rattle.std.proofs.lemmas.Bool.{ne_eqb}
use Rattle.std.proofs.lemmas.List.{take_all}
use Rattle.std.proofs.lemmas.List.Elements.{Contains-push_cases}
use Rattle.std.proofs.lemmas.Option.{none-some, same_Some, slice_get-get_or}
use Rattle.kr_config.specs.declared.class.Class.{Class}
use Rattle.kr_config.specs.declared.settings.Settings.{Settings}
use Rattle.kr_config.specs.Kept.{ConfigEntry, rows_of}
use Rattle.kr_config.specs.Lists.{list_of, class_list}
use Rattle.kr_judge.specs.Fits.{ReadsWriter}
use Rattle.kr_judge.specs.declared.need.Need.{Need}
use Rattle.kr_judge.specs.Boards.{GenerationState, BoardState, left_by, without_current, added_generation, given_to}
use Rattle.kr_judge.specs.Verdicts.{is_other}
use Rattle.kr_judge.proofs.Parts.{take_at_more}
use Rattle.kr_opening.specs.declared.opening_board.StartNo.{StartNo}
use Rattle.kr_opening.specs.declared.opening_board.StartNo.TheVariants.{Unfit, NoMemory}
use Rattle.kr_opening.specs.Starts.{opening_generations, AllFit, IsUnfit}
use Rattle.kr_opening.specs.inner.OpeningBoards.{Admits, TakesUp, TakesAllUp}
use Rattle.kr_judge.proofs.Lacking.{reads_own}
use Rattle.kr_opening.proofs.Passing.{passed, AreReadable}
use Rattle.kr_opening.specs.Replicas.{rows_in, settings_rows}

taken_none : (k : ℕ) (rs : List (Option (List ConfigEntry)))
    → opening_generations k (rs ++ None ∷ []) ≡ opening_generations k rs
taken_none k [] = refl
taken_none k (None ∷ rs) = taken_none (k + 1) rs
taken_none k (Some rows ∷ rs) = ap (λ ts. added_generation k rows ∷ ts) (taken_none (k + 1) rs)

taken_some : (k : ℕ) (rs : List (Option (List ConfigEntry))) (rows : List ConfigEntry) (n : ℕ) → k + length rs ≡ n
    → opening_generations k (rs ++ Some rows ∷ [])
    ≡ opening_generations k rs ++ added_generation n rows ∷ []
taken_some k [] rows n e = ap (λ m. added_generation m rows ∷ []) (omega (arith, e))
taken_some k (None ∷ rs) rows n e = taken_some (k + 1) rs rows n (omega (arith, e))
taken_some k (Some first ∷ rs) rows n e =
    ap (λ ts. added_generation k first ∷ ts) (taken_some (k + 1) rs rows n (omega (arith, e)))

pub taken_few : (k : ℕ) (rs : List (Option (List ConfigEntry)))
    → length (opening_generations k rs) ≤ length rs
taken_few k [] = omega arith
taken_few k (None ∷ rs) = omega (arith, taken_few (k + 1) rs)
taken_few k (Some rows ∷ rs) = omega (arith, taken_few (k + 1) rs)

-- none of them is the replica's
left_alone : (k i : ℕ) (rs : List (Option (List ConfigEntry))) → k + length rs ≤ i
    → without_current i (opening_generations k rs) ≡ opening_generations k rs
left_alone k i [] l = refl
left_alone k i (None ∷ rs) l = left_alone (k + 1) i rs (omega arith)
left_alone k i (Some rows ∷ rs) l =
    let head : left_by i (added_generation k rows) ≡ added_generation k rows =
    ap (λ b. record { replica = k; rows = rows; current = true && not b; holders = 0 })
    (ne_eqb k i (λ e. omega (arith, e))) in
    let tail = left_alone (k + 1) i rs (omega arith) in
    (λ j. head j ∷ tail j)

-- settings that are taken up are a live generation, of another replica
taken_there : (k i : ℕ) (rs : List (Option (List ConfigEntry))) (rows : List ConfigEntry) → k + length rs ≤ i
    → Contains rs (Some rows)
    → (t : GenerationState) × Contains (opening_generations k rs) t × (is_other i t ≡ true) × (t.rows ≡ rows)
taken_there k i [] rows l (p, w, e) = absurd (omega (arith, w))
taken_there k i (None ∷ rs) rows l (zero, w, e) = absurd (none-some rows e)
taken_there k i (None ∷ rs) rows l (suc p, w, e) =
    taken_there (k + 1) i rs rows (omega arith) (p, omega arith, e)
taken_there k i (Some first ∷ rs) rows l (zero, w, e) = (
  added_generation k first,
  (0, omega arith, refl),
  ap (λ b. not (b && true))
      (ne_eqb k i (λ d. omega (arith, d))),
  same_Some first rows e,
)
taken_there k i (Some first ∷ rs) rows l (suc p, w, e) =
    let t = taken_there (k + 1) i rs rows (omega arith) (p, omega arith, e) in
    (t.0, (suc t.1.0, omega (arith, t.1.1), t.1.2), t.2, t.3)

-- ---- they fit

none_fit : (needs : List Need) → AllFit [] needs
none_fit needs = record {
  writers = λ rows other class (k, l, e) there. absurd (omega (arith, l));
  stored = λ rows need (k, l, e) there. absurd (omega (arith, l));
}

fit_gap : (rs : List (Option (List ConfigEntry))) (needs : List Need) → AllFit rs needs
    → AllFit (rs ++ None ∷ []) needs
fit_gap rs needs f = record {
  writers = λ rows other class a b. f.writers rows other class (old rows a) (old other b);
  stored = λ rows need a there. f.stored rows need (old rows a) there;
}
  where
    old : (rows : List ConfigEntry) → Contains (rs ++ None ∷ []) (Some rows) → Contains rs (Some rows)
    old rows a = elim (Contains-push_cases rs None (Some rows) a) [
      | inl c ↦ c
      | inr e ↦ absurd
          (none-some rows e)
    ]

reads_as : {x y one other : List ConfigEntry} (class : Class) → x ≡ one → y ≡ other
    → ReadsWriter (class_list x class) (class_list y class)
    → ReadsWriter (class_list one class) (class_list other class)
reads_as class e f reads = subst (λ (r : List ConfigEntry × List ConfigEntry).
    ReadsWriter (class_list r.0 class) (class_list r.1 class)) (λ i. (e i, f i)) reads

fit_more : (rs : List (Option (List ConfigEntry))) (needs : List Need) (i : ℕ) (rows : List ConfigEntry)
    → length rs ≤ i → AreReadable needs (opening_generations 0 rs) i rows → AllFit rs needs
    → AllFit (rs ++ Some rows ∷ []) needs
fit_more rs needs i rows l p f = record {
  writers = λ a b class ca cb. by a b class (Contains-push_cases rs (Some rows) (Some a) ca)
      (Contains-push_cases rs (Some rows) (Some b) cb);
  stored = λ a need ca there. kept a need there (Contains-push_cases rs (Some rows) (Some a) ca);
}
  where
    by : (a b : List ConfigEntry) (class : Class) → Contains rs (Some a) ⊎ (Some rows ≡ Some a)
        → Contains rs (Some b) ⊎ (Some rows ≡ Some b)
        → ReadsWriter (class_list b class) (class_list a class)
    by a b class (inl ca) (inl cb) = f.writers a b class ca cb
    by a b class (inl ca) (inr eb) =
        let t = taken_there 0 i rs a (omega (arith, l)) ca in
        reads_as class (same_Some rows b eb) t.3 (p.is_read t.0 t.1 t.2 class)
    by a b class (inr ea) (inl cb) =
        let t = taken_there 0 i rs b (omega (arith, l)) cb in
        reads_as class t.3 (same_Some rows a ea) (p.reads t.0 t.1 t.2 class)
    by a b class (inr ea) (inr eb) =
        reads_as class (same_Some rows b eb) (same_Some rows a ea)
        (reads_own (class_list rows class))

    kept : (a : List ConfigEntry) (need : Need) → Contains needs need
        → Contains rs (Some a) ⊎ (Some rows ≡ Some a) → Contains (list_of a need.resource) need.who
    kept a need there (inl ca) = f.stored a need ca there
    kept a need there (inr ea) = subst (λ r. Contains (list_of r need.resource) need.who)
        (same_Some rows a ea) (p.stored need there)

-- ---- the loop

-- the board after the first i replicas, which fit
pub record AreTaken (rs : List (Option (List ConfigEntry))) (old now : BoardState) (i : ℕ) : Type 0 where
  pub board_is : now ≡ record old { generations = opening_generations 0 (take i rs) }
  pub fit : AllFit (take i rs) old.needs

pub taken_begin : (rs : List (Option (List ConfigEntry))) (old : BoardState) → old.generations ≡ []
    → AreTaken rs old old 0
taken_begin rs old e = record {
  board_is = ap (λ gs. record old { generations = gs }) e;
  fit =
      none_fit old.needs;
}

rows_at : (replicas : List (Option Settings)) (i : ℕ) (o : Option Settings) → i < length replicas
    → o ≡ get_or replicas i o
    → option_map (λ (s : Settings). rows_of s.entries.0) o
    ≡ get_or (rows_in replicas) i (option_map (λ (s : Settings). rows_of s.entries.0) o)
rows_at [] i o l e = absurd (omega arith)
rows_at (x ∷ xs) zero o l e = ap (option_map (λ (s : Settings). rows_of s.entries.0)) e
rows_at (x ∷ xs) (suc i) o l e = rows_at xs i o (omega arith) e

rows_long : (replicas : List (Option Settings)) → length (rows_in replicas) ≡ length replicas
rows_long [] = refl
rows_long (x ∷ xs) = ap suc (rows_long xs)

one_more : (replicas : List (Option Settings)) (i : ℕ) (o : Option Settings) → i < length replicas
    → o ≡ get_or replicas i o
    → take (i + 1) (rows_in replicas) ≡ take i (rows_in replicas) ++ option_map
    (λ (s : Settings). rows_of s.entries.0) o ∷ []
one_more replicas i o l e = take_at_more (rows_in replicas) i
    (option_map (λ (s : Settings). rows_of s.entries.0) o) (omega (arith, rows_long replicas))
    (rows_at replicas i o l e)

pub taken_gap : (replicas : List (Option Settings)) (old now : BoardState) (i : ℕ)
    → AreTaken (rows_in replicas) old now i → i < length replicas → None ≡ get_or replicas i None
    → AreTaken (rows_in replicas) old now (i + 1)
taken_gap replicas old now i t l e =
    let more = one_more replicas i None l e in
    record {
      board_is = t.board_is ∙ ap (λ gs. record old { generations = gs })
          (sym (ap (opening_generations 0) more ∙ taken_none 0 (take i (rows_in replicas))));
      fit = subst (λ rs. AllFit rs old.needs) (sym more)
          (fit_gap (take i (rows_in replicas)) old.needs t.fit);
    }

pub taken_more : (replicas : List (Option Settings)) (old now next : BoardState) (i : ℕ)
    (s : Settings) → AreTaken (rows_in replicas) old now i → i < length replicas
    → Some s ≡ get_or replicas i (Some s)
    → Admits i (rows_of s.entries.0) now next (Ok tt) → AreTaken (rows_in replicas) old next (i + 1)
taken_more replicas old now next i s t l e takes =
    let rs = take i (rows_in replicas) in
    let rows = rows_of s.entries.0 in
    let more = one_more replicas i (Some s) l e in
    let size : length rs ≡ i = omega (arith, length-take i (rows_in replicas), rows_long replicas)
    in
    let w = subst (λ (b : BoardState). Admits i rows b next (Ok tt)) t.board_is takes in
    let board : given_to i rows (opening_generations 0 rs)
    ≡ opening_generations 0 (take (i + 1) (rows_in replicas)) =
    ap (λ gs. gs ++ added_generation i rows ∷ []) (left_alone 0 i rs (omega (arith, size)))
    ∙ sym (ap (opening_generations 0) more ∙ taken_some 0 rs rows i (omega (arith, size))) in
    record {
      board_is = w.1 ∙ ap (λ gs. record old { generations = gs }) board;
      fit = subst (λ l. AllFit l old.needs) (sym more)
          (fit_more rs old.needs i rows (omega (arith, size))
          (passed old.needs (opening_generations 0 rs) i rows w.0) t.fit);
    }

stops_at : (replicas : List (Option Settings)) (old now next : BoardState) (i : ℕ) (s : Settings)
    (why : StartNo) → AreTaken (rows_in replicas) old now i → i < length replicas
    → Some s ≡ get_or replicas i (Some s) → Admits i (rows_of s.entries.0) now next (Err why)
    → TakesAllUp (rows_in replicas) old next (Err why)
stops_at replicas old now next i s NoMemory t l e w = tt
stops_at replicas old now next i s (Unfit other verdict) t l e w =
    let rows = rows_of s.entries.0 in
    let v = subst (λ (b : BoardState). Admits i rows b next (Err (Unfit other verdict))) t.board_is
    w in
    subst (λ n. IsUnfit (rows_in replicas) old.needs n verdict) (sym v.0) (record {
      rows = rows;
      is = slice_get-get_or (rows_in replicas) i (Some rows) (omega (arith, rows_long replicas))
          ∙ ap Some (sym (rows_at replicas i (Some s) l e));
      before = t.fit;
      verdict_is = v.1;
      refused = v.2;
    })
stops_at replicas old now next i s other t l e w = absurd w

pub taken_step : (replicas : List (Option Settings)) (old now next : BoardState) (i : ℕ)
    (o : Option Settings) → AreTaken (rows_in replicas) old now i → i < length replicas
    → o ≡ get_or replicas i o → TakesUp i (settings_rows o) now next (Ok tt)
    → AreTaken (rows_in replicas) old next (i + 1)
taken_step replicas old now next i None t l e w =
    subst (λ (b : BoardState). AreTaken (rows_in replicas) old b (i + 1)) (sym w.0)
    (taken_gap replicas old now i t l e)
taken_step replicas old now next i (Some s) t l e w = taken_more replicas old now next i s t l e w

pub taking_stops : (replicas : List (Option Settings)) (old now next : BoardState) (i : ℕ)
    (o : Option Settings) (why : StartNo) → AreTaken (rows_in replicas) old now i
    → i < length replicas
    → o ≡ get_or replicas i o → TakesUp i (settings_rows o) now next (Err why)
    → TakesAllUp (rows_in replicas) old next (Err why)
taking_stops replicas old now next i None why t l e w = absurd (clash w.1)
  where
    clash : ◌≡◌ {A = Result (Unit {0}) StartNo} (Err why) (Ok tt) → ⊥
    clash e = cc
taking_stops replicas old now next i (Some s) why t l e w =
    stops_at replicas old now next i s why t l e w

pub taken_end : (replicas : List (Option Settings)) (old now : BoardState) (i : ℕ)
    → AreTaken (rows_in replicas) old now i → length replicas ≤ i
    → TakesAllUp (rows_in replicas) old now (Ok tt)
taken_end replicas old now i t l =
    let all = take_all i (rows_in replicas) (omega (arith, rows_long replicas)) in (
      subst (λ rs. AllFit rs old.needs) all t.fit,
      t.board_is
          ∙ ap (λ rs. record old { generations = opening_generations 0 rs }) all,
    )

pub taken_idle : (rs : List (Option (List ConfigEntry))) (old now : BoardState) (i : ℕ)
    → AreTaken rs old now i → old.proposal ≡ None → now.proposal ≡ None
taken_idle rs old now i t e = ap (λ (b : BoardState). b.proposal) t.board_is ∙ e

pub taken_room : (replicas : List (Option Settings)) (old now : BoardState) (i : ℕ)
    → AreTaken (rows_in replicas) old now i → i < length replicas → length replicas ≤ old.room
    → length now.generations < now.room
taken_room replicas old now i t l r =
    let few = taken_few 0 (take i (rows_in replicas)) in
    let size = length-take i (rows_in replicas) in
    let g = ap (λ (b : BoardState). length b.generations) t.board_is in
    let room = ap (λ (b : BoardState). b.room) t.board_is in
    omega (arith, few, size, g, room, rows_long replicas)
