-- The state at an opening: its board, and what holds of it.
use Rattle.std.proofs.Common.{◌≡◌, ℕ, zero, suc, ◌<◌, ◌≤◌, ◌+◌, Bool, true, false, List, [], ◌∷◌, length, get_or, take, cond, replicate, count_by, Contains, Option, None, Some, Ok, IfSome, refl, sym, ap, subst, ◌∙◌, arith, ◌⊎◌, inl, inr}
use Rattle.std.specs.Prelude.{◌||◌, sum, All}
use Rattle.std.specs.List.{slice_get, list_any}
use Rattle.std.specs.Option.{option_map}
use Rattle.std.proofs.lemmas.Bool.{eq-eqb, cases_eq, cases_order}
use Rattle.std.proofs.lemmas.List.{length-replicate, take_all}
use Rattle.std.proofs.lemmas.List.Sums.{sum_by-cons}
use Rattle.std.proofs.lemmas.Option.{none-some, same_Some}
use Rattle.kr_store.specs.Rows.{AreRows}
use Rattle.kr_store.specs.Stores.{Kept}
use Rattle.kr_config.specs.Kept.{ConfigEntry}
use Rattle.kr_provider.specs.Publication.{Publication, IsPublished}
use Rattle.kr_judge.specs.declared.need.Need.{Need}
use Rattle.kr_judge.specs.Boards.{BoardState}
use Rattle.kr_opening.specs.declared.generation.Generation.{Generation}
use Rattle.kr_rollout.specs.declared.opening.Opening.{Opening}
use Rattle.kr_rollout.specs.States.{number_at, is_number, judged_generations, board_generations, IsLive}
use Rattle.kr_rollout.specs.Openings.{start_of, room_of, board, opening_by, NamesAmong, AreAmong, IsAdmitted}
use Rattle.kr_opening.specs.Needs.{needs_of}
use Rattle.kr_opening.specs.Replicas.{first_rows, generations_from, current_from, settings_of, IsFirstIn}
use Rattle.kr_rollout.specs.Fits.{IsFit}
use Rattle.kr_judge.specs.LiveFits.{AreFit}
use Rattle.kr_rollout.specs.Histories.{IsLegal}
use Rattle.kr_opening.specs.Starts.{opening_generations, MayStart, Boards}
use Rattle.kr_rollout.specs.Laws.{BoardAtStart}
use Rattle.kr_rollout.specs.inner.Rollouts.{RolloutState, opening_of, state_with, IsRollout}

-- ---- numbers

number_itself : (n : ℕ) → is_number n (Some n) ≡ true
number_itself n = eq-eqb n n refl

or_left : (a b : Bool) → a ≡ true → (a || b) ≡ true
or_left true b e = refl
or_left false b e = cc

or_right : (a b : Bool) → b ≡ true → (a || b) ≡ true
or_right true b e = refl
or_right false b e = e

-- each generation is a replica's current one
next_above : (m j : ℕ) → m ≤ j → (m ≡ j → ⊥) → m + 1 ≤ j
next_above m j l n = by (cases_order m j)
  where
    by : (m ≡ j) ⊎ ((m < j) ⊎ (j < m)) → m + 1 ≤ j
    by (inl e) = absurd (n e)
    by (inr (inl h)) = omega arith
    by (inr (inr h)) = absurd (omega arith)

is_current : (k m : ℕ) (rs : List (Option Publication)) (j : ℕ) → m ≤ j
    → j < m + length (generations_from k rs) → list_any (is_number j) (current_from m rs) ≡ true
is_current k m [] j a b = absurd (omega arith)
is_current k m (None ∷ rs) j a b = is_current (k + 1) m rs j a b
is_current k m (Some p ∷ rs) j a b = by (cases_eq m j)
    (λ l. is_current (k + 1) (m + 1) rs j l (omega arith))
  where
    by : (m ≡ j) ⊎ (m ≡ j → ⊥) → (m + 1 ≤ j
        → list_any (is_number j) (current_from (m + 1) rs) ≡ true)
        → (is_number j (Some m) || list_any (is_number j) (current_from (m + 1) rs)) ≡ true
    by (inl e) again = or_left (is_number j (Some m))
        (list_any (is_number j) (current_from (m + 1) rs)) (eq-eqb m j e)
    by (inr n) again = or_right (is_number j (Some m))
        (list_any (is_number j) (current_from (m + 1) rs)) (again (next_above m j a n))

nobody : (j n : ℕ) → count_by (is_number j) (replicate n None) ≡ 0
nobody j zero = refl
nobody j (suc n) = omega (
  arith,
  sum_by-cons (λ x. cond (is_number j x) 1 0) None
      (replicate n None),
  nobody j n,
)

same_taken : (current held : List (Option ℕ)) (k m : ℕ) (rs : List (Option Publication))
    → ((j : ℕ) → m ≤ j → j < m + length (generations_from k rs)
    → list_any (is_number j) current ≡ true)
    → ((j : ℕ) → count_by (is_number j) held ≡ 0)
    → judged_generations current held m (generations_from k rs) ≡ opening_generations k (settings_of rs)
same_taken current held k m [] c h = refl
same_taken current held k m (None ∷ rs) c h = same_taken current held (k + 1) m rs c h
same_taken current held k m (Some p ∷ rs) c h =
    let a = c m (omega arith) (omega arith) in
    let b = h m in
    let rest = same_taken current held (k + 1) (m + 1) rs
    (λ j low high. c j (omega arith) (omega arith)) h in
    (λ i. record { replica = k; rows = p.rows; current = a i; holders = b i } ∷ rest i)

pub start_taken : (o : Opening) → board_generations (start_of o)
    ≡ opening_generations 0 (settings_of o.replicas)
start_taken o = same_taken (current_from 0 o.replicas)
    (replicate (length o.reloads) None) 0 0 o.replicas
    (λ j low high. is_current 0 0 o.replicas j low high) (λ j. nobody j (length o.reloads))

pub start_board : (o : Opening) → board o (start_of o)
    ≡ record {
      generations = opening_generations 0 (settings_of o.replicas);
      needs =
          needs_of (first_rows (settings_of o.replicas)) o.rows;
      proposal = None;
      room =
          length o.replicas + sum o.reloads;
    }
start_board o = ap (λ gs. record {
  generations = gs;
  needs =
      needs_of (first_rows (settings_of o.replicas)) o.rows;
  proposal = None;
  room = room_of o;
})
    (start_taken o)

pub board_at_start : BoardAtStart
board_at_start o made b = b.1 ∙ sym (start_board o)

-- ---- what holds

current_long : (m : ℕ) (rs : List (Option Publication)) → length (current_from m rs) ≡ length rs
current_long m [] = refl
current_long m (None ∷ rs) = ap suc (current_long m rs)
current_long m (Some p ∷ rs) = ap suc (current_long (m + 1) rs)

current_numbers : (k m : ℕ) (rs : List (Option Publication)) (place n : ℕ)
    → number_at (current_from m rs) place ≡ Some n → n < m + length (generations_from k rs)
current_numbers k m (None ∷ rs) (suc place) n e = current_numbers (k + 1) m rs place n e
current_numbers k m (Some p ∷ rs) zero n e = omega (arith, same_Some m n e)
current_numbers k m (Some p ∷ rs) (suc place) n e =
    omega (arith, current_numbers (k + 1) (m + 1) rs place n e)
current_numbers k m other place n e = absurd (none-some n e)

-- the replica at a place took up the generation of its number
record IsOwner (k m : ℕ) (rs : List (Option Publication)) (place n : ℕ) : Type 0 where
  at : ℕ
  number : n ≡ m + at
  replica : option_map (λ (g : Generation). g.replica) (slice_get (generations_from k rs) at)
      ≡ Some (k + place)

further_on : (k place : ℕ) → ◌≡◌ {A = Option ℕ} (Some (k + 1 + place)) (Some (k + suc place))
further_on k place = let e : k + 1 + place ≡ k + suc place = omega arith in ap Some e

at_first : (k : ℕ) → ◌≡◌ {A = Option ℕ} (Some k) (Some (k + 0))
at_first k = let e : k ≡ k + 0 = omega arith in ap Some e

current_owner : (k m : ℕ) (rs : List (Option Publication)) (place n : ℕ)
    → number_at (current_from m rs) place ≡ Some n → IsOwner k m rs place n
current_owner k m (None ∷ rs) (suc place) n e =
    let r = current_owner (k + 1) m rs place n e in
    record { at = r.at; number = r.number; replica = r.replica ∙ further_on k place }
current_owner k m (Some p ∷ rs) zero n e =
    record { at = 0; number = omega (arith, same_Some m n e); replica = at_first k }
current_owner k m (Some p ∷ rs) (suc place) n e =
    let r = current_owner (k + 1) (m + 1) rs place n e in
    record {
      at = suc r.at;
      number = omega (arith, r.number);
      replica = r.replica ∙ further_on k place;
    }
current_owner k m other place n e = absurd (none-some n e)

at_start : (place : ℕ) → ◌≡◌ {A = Option ℕ} (Some (0 + place)) (Some place)
at_start place = let e : 0 + place ≡ place = omega arith in ap Some e

own_at : (rs : List (Option Publication)) (place n : ℕ)
    → number_at (current_from 0 rs) place ≡ Some n
    → option_map (λ (g : Generation). g.replica) (slice_get (generations_from 0 rs) n) ≡ Some place
own_at rs place n e =
    let r = current_owner 0 0 rs place n e in
    let m : n ≡ r.at = omega (arith, r.number) in
    ap (λ j. option_map (λ (g : Generation). g.replica) (slice_get (generations_from 0 rs) j)) m
    ∙ r.replica ∙ at_start place

none_there : (n place : ℕ) → number_at (replicate n None) place ≡ None
none_there zero place = refl
none_there (suc n) zero = refl
none_there (suc n) (suc place) = none_there n place

pub start_rollout : (o : Opening) → length o.reloads ≤ 64
    → IsRollout o (start_of o) (board o (start_of o))
start_rollout o few = record {
  board_is = refl;
  current = λ place n e. omega (arith, current_numbers 0 0 o.replicas place n e);
  own = own_at o.replicas;
  held = λ place n e. absurd (none-some n (sym (none_there (length o.reloads) place) ∙ e));
  replicas = current_long 0 o.replicas;
  seats = length-replicate (length o.reloads) None;
  few = few;
}

-- ---- it fits

fit_less : (Live More : List ConfigEntry → Type 0) (needs : List Need)
    → ((rows : List ConfigEntry) → Live rows → More rows) → AreFit More needs → AreFit Live needs
fit_less Live More needs to f = record {
  writers = λ rows other class a b. f.writers rows other class (to rows a) (to other b);
  stored = λ rows need a there. f.stored rows need (to rows a) there;
}

is_replicas : (k : ℕ) (rs : List (Option Publication)) (n : ℕ) (rows : List ConfigEntry)
    → option_map (λ (p : Publication). p.rows)
    (option_map (λ (g : Generation). g.published) (slice_get (generations_from k rs) n)) ≡ Some rows
    → Contains (settings_of rs) (Some rows)
is_replicas k [] n rows e = absurd (none-some rows e)
is_replicas k (None ∷ rs) n rows e = let c =
    is_replicas (k + 1) rs n rows e in (suc c.0, omega (arith, c.1), c.2)
is_replicas k (Some p ∷ rs) zero rows e = (0, omega arith, e)
is_replicas k (Some p ∷ rs) (suc n) rows e = let c =
    is_replicas (k + 1) rs n rows e in (suc c.0, omega (arith, c.1), c.2)

pub start_fits : (o : Opening) → MayStart o.rows (settings_of o.replicas) → IsFit (start_of o)
start_fits o m = fit_less (IsLive (start_of o))
    (λ rows. Contains (settings_of o.replicas) (Some rows)) (start_of o).needs
    (λ rows l. is_replicas 0 o.replicas l.0 rows l.2) m.fit

-- ---- a core with no line

pub admitted : (names : List (List ℕ)) (rs : List (Option Publication)) → AreAmong names rs
    → All (λ replica. IfSome replica IsPublished) rs
    → All (λ replica. IfSome replica (IsAdmitted names)) rs
admitted names rs a p k d l = by (get_or rs k d) (p k d l) (a k d l)
  where
    by : (o : Option Publication) → IfSome o IsPublished → IfSome o (λ q. NamesAmong names q.rows)
        → IfSome o (IsAdmitted names)
    by None x y = tt
    by (Some q) x y = (x, y)

pub start_legal : (o : Opening) → AreRows o.format o.rows → IsFirstIn o.replicas
    → All (λ replica. IfSome replica (IsAdmitted o.names)) o.replicas
    → MayStart o.rows (settings_of o.replicas) → IsLegal o []
start_legal o rows first each m = record {
  opens = record { rows = rows; first = first; admitted = each; readable = m.readable; secrets = m.secrets };
  fit = start_fits o m;
  runs = tt;
}

-- ---- the rollout that is made

module _ (store : Kept) (rs : List (Option Publication)) (names : List (List ℕ)) (reloads : List ℕ)
    (b : BoardState) {slice : List (Option Publication)} {seats : ℕ} {generations : List Generation}
    {current held : List (Option ℕ)} {kept : List ℕ} {first count : ℕ} {torn : Bool} {room : ℕ}
    {settings : List (Option (List ConfigEntry))}
    (slice_is : slice ≡ rs) (seats_is : length reloads ≡ seats)
    (first_is : first ≡ length store.rows) (count_is : count ≡ store.count)
    (torn_is : torn ≡ store.torn) (generations_are : generations ≡ generations_from 0 slice)
    (current_are : current ≡ current_from 0 slice) (held_are : held ≡ replicate seats None)
    (kept_is : kept ≡ reloads) (room_fits : room ≡ length slice + sum reloads)
    (settings_are : settings ≡ settings_of slice)
    (judged : Boards store.rows settings room (Ok b)) where
  generations_is : generations ≡ generations_from 0 rs
  generations_is = generations_are ∙ ap (generations_from 0) slice_is

  current_is : current ≡ current_from 0 rs
  current_is = current_are ∙ ap (current_from 0) slice_is

  held_is : held ≡ replicate (length reloads) None
  held_is = held_are ∙ ap (λ n. replicate n None) (sym seats_is)

  room_is : room ≡ length rs + sum reloads
  room_is = room_fits ∙ ap (λ (l : List (Option Publication)). length l + sum reloads) slice_is

  boards : Boards store.rows (settings_of rs) room (Ok b)
  boards = subst (λ s. Boards store.rows s room (Ok b)) (settings_are ∙ ap settings_of slice_is)
      judged

  board_is : b ≡ board (opening_by store rs names reloads)
      (start_of (opening_by store rs names reloads))
  board_is = boards.1 ∙ ap (λ n. record {
    generations = opening_generations 0 (settings_of rs);
    needs = needs_of (first_rows (settings_of rs)) store.rows;
    proposal = None;
    room = n;
  })
      room_is
      ∙ sym (start_board (opening_by store rs names reloads))

  opened : ◌≡◌ {A = RolloutState} (record {
    opening = opening_of store first rs names kept count torn;
    state = state_with store b generations current held;
    torn = store.torn;
  })
      (record {
        opening = opening_by store rs names reloads;
        state =
            start_of (opening_by store rs names reloads);
        torn = store.torn;
      })
  opened =
      let r : take first store.rows ≡ store.rows = ap (λ n. take n store.rows) first_is
      ∙ take_all (length store.rows) store.rows (omega arith) in
      let n : b.needs ≡ needs_of (first_rows (settings_of rs)) store.rows =
      ap (λ (x : BoardState). x.needs) board_is in
      (λ i. record {
        opening = record {
          format = store.format;
          rows = r i;
          replicas = rs;
          names = names;
          reloads = kept_is i;
          limit =
              store.limit;
          count = count_is i;
          torn = torn_is i;
        };
        state = record {
          generations = generations_is i;
          current = current_is i;
          held = held_is i;
          needs = n i;
          rows = store.rows;
          count = store.count;
        };
        torn = store.torn;
      })

  pub opened_rollout : length reloads ≤ 64 → IsRollout (opening_of store first rs names kept count torn)
      (state_with store b generations current held) b
  opened_rollout few =
      subst (λ (c : RolloutState). IsRollout c.opening c.state b) (sym opened)
      (subst (λ x. IsRollout (opening_by store rs names reloads)
      (start_of (opening_by store rs names reloads)) x) (sym board_is)
      (start_rollout (opening_by store rs names reloads) few))

  pub starts : AreRows store.format store.rows → IsFirstIn rs → AreAmong names rs
      → All (λ replica. IfSome replica IsPublished) slice
      → IsLegal (opening_by store rs names reloads) [] × MayStart store.rows (settings_of rs)
      × ◌≡◌ {A = RolloutState} (record {
        opening = opening_of store first rs names kept count torn;
        state = state_with store b generations current held;
        torn = store.torn;
      }) (record {
        opening = opening_by store rs names reloads;
        state = start_of (opening_by store rs names reloads);
        torn = store.torn;
      })
  starts rows in_first among published = (
    start_legal (opening_by store rs names reloads) rows in_first
        (admitted names rs among
        (subst (All (λ replica. IfSome replica IsPublished)) slice_is published)) boards.0,
    boards.0,
    opened,
  )
