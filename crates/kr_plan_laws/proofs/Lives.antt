-- What is live after an entry was live before it, or is what the entry gave a replica.
use Rattle.std.proofs.Common.{◌≡◌, ℕ, zero, suc, ◌⊎◌, List, [], ◌∷◌, ◌++◌, length, Contains, Option, None, Some, refl, sym, ap, subst, ◌∙◌, inl, inr, arith}
use Rattle.std.specs.Prelude.{slice_set}
use Rattle.std.specs.List.{slice_get}
use Rattle.std.specs.Option.{option_map}
use Rattle.std.proofs.lemmas.Option.{none-some, same_Some, slice_get_within}
use Rattle.kr_config.specs.Kept.{ConfigEntry}
use Rattle.kr_config.proofs.ListParts.{cases}
use Rattle.kr_provider.specs.Publication.{Publication}
use Rattle.kr_opening.specs.declared.generation.Generation.{Generation}
use Rattle.kr_rollout.specs.declared.line.Did.{Did}
use Rattle.kr_rollout.specs.declared.line.Did.TheVariants.{Adopt, Fetch, After, Put, Delete, Replace, LetGo, Reload, Join, Leave}
use Rattle.kr_rollout.specs.declared.line.Gave.{Gave}
use Rattle.kr_rollout.specs.declared.line.Gave.TheVariants.{Adopted, Found, Absent, Written, Changed, Released, Reloaded, Joined, Refused, Moved, Present, Departed, Gone, StoreFailed, StoreFull, Nothing}
use Rattle.kr_rollout.specs.declared.opening.Entry.{Entry}
use Rattle.kr_rollout.specs.declared.opening.Opening.{Opening}
use Rattle.kr_rollout.specs.States.{State, IsLive, IsLiveNumber}
use Rattle.kr_rollout.specs.Steps.{IsStep, after, new_generation, new_generations}
use Rattle.kr_history.proofs.Effects.{Effect, stays, adopts, lets_go, leaves, gives, puts_value, deletes_row, replaces_value, effect_of}
use Rattle.kr_history.proofs.HeldFacts.{of_number}
use Rattle.kr_history.proofs.Sound.{contains_at, set_there, IsSound, number_rows, rows_of_number}
use Rattle.kr_plan_laws.specs.LiveStates.{IsLiveBy}

-- ---- what an entry gives

-- the settings that an event gives a replica
abbrev pub IsGiven : Did → List ConfigEntry → Type 0
IsGiven (Reload replica p expect) rows = p.rows ≡ rows
IsGiven (Join replica p) rows = p.rows ≡ rows
IsGiven did rows = ⊥

pub none_in : {X : Type 0} (x : X) → Contains [] x → ⊥
none_in x c = omega (arith, c.1)

-- the configuration that it gives
abbrev pub IsBrought : Did → Publication → Type 0
IsBrought (Reload replica p expect) own = p ≡ own
IsBrought (Join replica p) own = p ≡ own
IsBrought did own = ⊥

own_given : (own g : Generation) (did : Did) → IsBrought did own.published
    → Contains (own ∷ []) g → IsBrought did g.published
own_given own g did is c = elim (cases own g [] c) [
  | inl e ↦ subst (λ (x : Generation). IsBrought did x.published) e is
  | inr n ↦ absurd (none_in g n)
]

brought_in : (did : Did) (g : Generation) → Contains (new_generation did) g
    → IsBrought did g.published
brought_in (Reload replica p expect) g c = own_given
    (record { replica = replica; published = p }) g (Reload replica p expect) refl c
brought_in (Join replica p) g c = own_given
    (record { replica = replica; published = p }) g (Join replica p) refl c
brought_in (Adopt replica) g c = absurd (none_in g c)
brought_in (Fetch path) g c = absurd (none_in g c)
brought_in (After path) g c = absurd (none_in g c)
brought_in (Put path resource plain) g c = absurd (none_in g c)
brought_in (Delete path) g c = absurd (none_in g c)
brought_in (Replace path revision) g c = absurd (none_in g c)
brought_in LetGo g c = absurd (none_in g c)
brought_in (Leave replica) g c = absurd (none_in g c)

pub brought_by : (gave : Gave) (did : Did) (g : Generation) → Contains (new_generations gave did) g
    → IsBrought did g.published
brought_by (Reloaded number) did g c = brought_in did g c
brought_by (Joined number) did g c = brought_in did g c
brought_by (Adopted number) did g c = absurd (none_in g c)
brought_by (Found revision) did g c = absurd (none_in g c)
brought_by Absent did g c = absurd (none_in g c)
brought_by (Written revision) did g c = absurd (none_in g c)
brought_by (Changed revision) did g c = absurd (none_in g c)
brought_by Released did g c = absurd (none_in g c)
brought_by (Refused verdict) did g c = absurd (none_in g c)
brought_by (Moved number) did g c = absurd (none_in g c)
brought_by (Present number) did g c = absurd (none_in g c)
brought_by (Departed number) did g c = absurd (none_in g c)
brought_by (Gone replica) did g c = absurd (none_in g c)
brought_by StoreFailed did g c = absurd (none_in g c)
brought_by (StoreFull needed) did g c = absurd (none_in g c)
brought_by Nothing did g c = absurd (none_in g c)

rows_given : (did : Did) (p : Publication) → IsBrought did p → IsGiven did p.rows
rows_given (Reload replica own expect) p is = ap (λ (q : Publication). q.rows) is
rows_given (Join replica own) p is = ap (λ (q : Publication). q.rows) is
rows_given (Adopt replica) p is = absurd is
rows_given (Fetch path) p is = absurd is
rows_given (After path) p is = absurd is
rows_given (Put path resource plain) p is = absurd is
rows_given (Delete path) p is = absurd is
rows_given (Replace path revision) p is = absurd is
rows_given LetGo p is = absurd is
rows_given (Leave replica) p is = absurd is

pub given_by : (gave : Gave) (did : Did) (g : Generation) → Contains (new_generations gave did) g
    → IsGiven did g.published.rows
given_by gave did g c = rows_given did g.published (brought_by gave did g c)

-- what is at a number behind more is there without these, or is one of them
pub old_or_more : {X : Type 0} (xs ys : List X) (n : ℕ) (x : X) → slice_get (xs ++ ys) n ≡ Some x
    → (slice_get xs n ≡ Some x) ⊎ Contains ys x
old_or_more [] [] n x e = absurd (none-some x e)
old_or_more [] (y ∷ ys) zero x e = inr (0, omega arith, same_Some y x e)
old_or_more [] (y ∷ ys) (suc n) x e = elim (old_or_more [] ys n x e) [
  | inl none ↦ absurd (none-some x none)
  | inr c ↦ inr (suc c.0, omega (arith, c.1), c.2)
]
old_or_more (z ∷ xs) ys zero x e = inl e
old_or_more (z ∷ xs) ys (suc n) x e = old_or_more xs ys n x e

-- ---- which numbers are live

module _ (o : Opening) (st : State) (sound : IsSound o st) (e : Entry) where
  -- a number that is live then was so before, or is the next one
  abbrev pub Known : ℕ → Type 0
  Known n = IsLiveNumber st n ⊎ (n ≡ length st.generations)

  set_current : (replica n : ℕ) (x : Option ℕ) → ((x ≡ Some n) → Known n)
      → Contains (slice_set st.current replica x) (Some n) ⊎ Contains st.held (Some n) → Known n
  set_current replica n x same (inr held) = inl (inr held)
  set_current replica n x same (inl c) =
      elim (set_there st.current replica x (Some n) c) [
        | inl is ↦ same is
        | inr old ↦ inl (inl (old.0, old.2, old.3))
      ]

  set_held : (seat n : ℕ) (x : Option ℕ) → ((x ≡ Some n) → Known n)
      → Contains st.current (Some n) ⊎ Contains (slice_set st.held seat x) (Some n) → Known n
  set_held seat n x same (inl current) = inl (inl current)
  set_held seat n x same (inr c) =
      elim (set_there st.held seat x (Some n) c) [
        | inl is ↦ same is
        | inr old ↦ inl (inr (old.0, old.2, old.3))
      ]

  pub live_number : Effect o st e → (n : ℕ) → IsLiveNumber (after st e) n → Known n
  live_number (stays quiet is) n l = inl (subst (λ (s : State). IsLiveNumber s n) is l)
  live_number (adopts replica number at quiet is) n l =
      set_held e.line.seat n (Some number)
      (λ same. inl (inl (subst (λ m. Contains st.current (Some m)) (same_Some number n same)
      (contains_at st.current replica number at))))
      (subst (λ (s : State). IsLiveNumber s n) is l)
  live_number (lets_go quiet is) n l =
      set_held e.line.seat n None (λ same. absurd (none-some n same))
      (subst (λ (s : State). IsLiveNumber s n) is l)
  live_number (leaves replica quiet is) n l =
      set_current replica n None (λ same. absurd (none-some n same))
      (subst (λ (s : State). IsLiveNumber s n) is l)
  live_number (gives replica p w published pass honest quiet is) n l =
      set_current replica n (Some (length st.generations))
      (λ same. inr (sym (same_Some (length st.generations) n same)))
      (subst (λ (s : State). IsLiveNumber s n) is l)
  live_number (puts_value path resource plain stored p check h sealing opened changes is) n l =
      inl (subst (λ (s : State). IsLiveNumber s n) is l)
  live_number (deletes_row path live changes is) n l =
      inl (subst (λ (s : State). IsLiveNumber s n) is l)
  live_number (replaces_value path stored old p check h live sealed honest quiet is) n l =
      inl (subst (λ (s : State). IsLiveNumber s n) is l)

  -- ---- settings that are live

  pub live_after : IsStep o st e → (rows : List ConfigEntry) → IsLive (after st e) rows
      → IsLive st rows ⊎ IsGiven e.line.did rows
  live_after step rows (n, l, is) =
      let g = rows_of_number (after st e).generations n rows is in
      elim (old_or_more st.generations (new_generations e.line.gave e.line.did) n g.0 g.1) [
        | inl old ↦ elim (live_number (effect_of o st e step) n l) [
          | inl live ↦ inl (n, live, number_rows st.generations n g.0 old ∙ ap Some g.2)
          | inr next ↦ absurd (omega (arith, next, slice_get_within st.generations n g.0 old))
        ]
        | inr new ↦ inr (subst (IsGiven e.line.did) g.2
            (given_by e.line.gave e.line.did g.0 new))
      ]

  -- ---- configurations that are live

  pub live_by_after : IsStep o st e → (p : Publication) → IsLiveBy (after st e) p
      → IsLiveBy st p ⊎ IsBrought e.line.did p
  live_by_after step p (n, l, is) =
      let f = of_number (after st e).generations n p is in
      elim (old_or_more st.generations (new_generations e.line.gave e.line.did) n f.g f.there) [
        | inl old ↦ elim (live_number (effect_of o st e step) n l) [
          | inl live ↦ inl (
            n,
            live,
            ap (option_map (λ (g : Generation). g.published)) old ∙ ap Some f.is,
          )
          | inr next ↦ absurd (omega (arith, next, slice_get_within st.generations n f.g old))
        ]
        | inr new ↦ inr (subst (IsBrought e.line.did) f.is
            (brought_by e.line.gave e.line.did f.g new))
      ]
