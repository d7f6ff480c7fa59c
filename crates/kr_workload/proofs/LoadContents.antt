-- The content at a path of a load: what its worker put there, once it did.
use Rattle.std.specs.Prelude.{All, Contains, if◌then◌else◌}
use Rattle.std.specs.Str.{bytes_eq}
use Rattle.std.proofs.Common.{◌≡◌, ℕ, zero, suc, ◌<◌, ◌≤◌, ◌⊎◌, Bool, true, false, List, [], ◌∷◌, get_or, Option, None, Some, inl, inr, refl, ap, sym, subst, ◌∙◌, arith}
use Rattle.std.proofs.lemmas.List.Elements.{All-head, All-tail}
use Rattle.std.proofs.lemmas.Slice.Eq.{bytes_eq-Decides}
use Rattle.kr_history.specs.Contents.{ContentChange, change_at, last_change, puts}
use Rattle.kr_rollout.specs.Entries.{seat_of}
use Rattle.kr_rollout.specs.declared.line.Did.{Did}
use Rattle.kr_rollout.specs.declared.line.Did.TheVariants as did
use Rattle.kr_rollout.specs.declared.line.Gave.{Gave}
use Rattle.kr_rollout.specs.declared.line.Gave.TheVariants as gave
use Rattle.kr_rollout.specs.declared.opening.Entry.{Entry}
use Rattle.kr_store.specs.Rows.{later}
use Rattle.kr_workload.specs.Loads.{object_path, plain_of}
use Rattle.kr_workload.proofs.LoadHistories.{IsLoadEntry, IsLoads}
use Rattle.kr_workload.proofs.LoadTexts.{one_number, one_worker}

-- ---- changes

-- it is this one, or there is none
abbrev IsOnly : ContentChange → Option ContentChange → Type 0
IsOnly change found = (found ≡ None) ⊎ (found ≡ Some change)

module _ (path : List ℕ) (change : ContentChange) where
  abbrev Only : Entry → Type 0
  Only e = IsOnly change (change_at e.line.gave e.line.did path)

  later_only : (a b : Option ContentChange) → IsOnly change a → IsOnly change b
      → IsOnly change (later a b)
  later_only None b first second = second
  later_only (Some x) b first second = first

  last_only : (history : List Entry) → All Only history → IsOnly change (last_change history path)
  last_only [] all = inl refl
  last_only (e ∷ history) all = later_only (last_change history path)
      (change_at e.line.gave e.line.did path)
      (last_only history (All-tail Only e history all)) (All-head Only e history all)

  behind : (a b : Option ContentChange) → IsOnly change a → b ≡ Some change
      → later a b ≡ Some change
  behind a b (inl none) is = ap (λ o. later o b) none ∙ is
  behind a b (inr some) is = ap (λ o. later o b) some

  before : (a b : Option ContentChange) → a ≡ Some change → later a b ≡ Some change
  before a b some = ap (λ o. later o b) some

  last_is : (history : List Entry) → All Only history → (e : Entry) → Contains history e
      → change_at e.line.gave e.line.did path ≡ Some change
      → last_change history path ≡ Some change
  last_is [] all e (k, below, is) made = absurd (omega (arith, below))
  last_is (first ∷ history) all e (zero, below, is) made =
      behind (last_change history path) (change_at first.line.gave first.line.did path)
      (last_only history (All-tail Only first history all))
      (ap (λ (x : Entry). change_at x.line.gave x.line.did path) is ∙ made)
  last_is (first ∷ history) all e (suc k, below, is) made =
      before (last_change history path) (change_at first.line.gave first.line.did path)
      (last_is history (All-tail Only first history all) e (k, omega (arith, below), is) made)

-- ---- of a load

module _ (seed size worker number : ℕ) (small : size ≤ 10000) (few : worker < 4)
    (below : number < size) where
  by_put : (seat other : ℕ) → seat < 4 → other < size → (own : List ℕ)
      → own ≡ object_path seat other → (b : Bool) → bytes_eq own (object_path worker number) ≡ b
      → IsOnly (puts (plain_of seed size worker number))
      (if b then Some (puts (plain_of seed size seat other)) else None)
  by_put seat other less down own is false apart = inl refl
  by_put seat other less down own is true same =
      let e : object_path seat other ≡ object_path worker number =
      sym is ∙ (bytes_eq-Decides own (object_path worker number)).0 same in
      let seats : seat ≡ worker = one_worker seat worker other number less few e in
      let numbers : other ≡ number = one_number seat worker other number less few
      (omega (arith, down, small)) (omega (arith, below, small)) e in
      inr (λ i. Some (puts (plain_of seed size (seats i) (numbers i))))

  change_only : (seat : ℕ) → seat < 4 → (given : Gave) (asked : Did)
      → IsLoads seed size seat asked
      → IsOnly (puts (plain_of seed size worker number))
      (change_at given asked (object_path worker number))
  change_only seat less (gave.Written revision) (did.Put own resource plain) (other, down, is, r, p)
      = subst (λ (d : List ℕ). IsOnly (puts (plain_of seed size worker number))
      (if bytes_eq own (object_path worker number) then Some (puts d) else None)) (sym p)
      (by_put seat other less down own is (bytes_eq own (object_path worker number)) refl)
  change_only seat less (gave.Written revision) (did.Delete own) is = absurd is
  change_only seat less other asked is = inl refl

  only_entry : (e : Entry) → IsLoadEntry seed size e
      → IsOnly (puts (plain_of seed size worker number))
      (change_at e.line.gave e.line.did (object_path worker number))
  only_entry e own = change_only (seat_of e) own.seat e.line.gave e.line.did own.asks

  -- the object was put, and nothing else ever is at its path
  pub stays_put : (history : List Entry) → All (IsLoadEntry seed size) history → (e : Entry)
      → Contains history e → (resource : List ℕ) (revision : ℕ)
      → e.line.did ≡ did.Put (object_path worker number) resource (plain_of seed size worker number)
      → e.line.gave ≡ gave.Written revision
      → last_change history (object_path worker number)
      ≡ Some (puts (plain_of seed size worker number))
  stays_put history all e there resource revision did_is gave_is =
      last_is (object_path worker number) (puts (plain_of seed size worker number)) history
      (λ k d in_it. only_entry (get_or history k d) (all k d in_it)) e there
      ((λ i. change_at (gave_is i) (did_is i) (object_path worker number))
      ∙ ap (λ b. if b then Some (puts (plain_of seed size worker number)) else None)
      ((bytes_eq-Decides (object_path worker number) (object_path worker number)).1 refl))
