-- What a step leaves as it was: what is known of other views, and what the slot has.
use Rattle.std.proofs.Common.{◌≡◌, ℕ, ◌<◌, ◌≤◌, ◌≢◌, List, length, set, sym, ap, ◌∙◌, subst, ⊎_elim}
use Rattle.std.proofs.Common.{arith, Option, Some, None}
use mathlib.Core.Option.{Option as Maybe, none, some, some-injective}
use lib.ListN.{get_elem?}
use Rattle.atomic_table.proofs.Lists.{at_set, set_else}
use Rattle.kr_turn.specs.declared.view.Stage.{Stage}
use Rattle.kr_turn.specs.declared.view.Stage.TheVariants.{Blank, Filling, Idle, Waiting, Holding}
use Rattle.kr_turn.specs.declared.view.Stage.TheVariants.{Gone}
use Rattle.kr_turn.specs.declared.view.Terms.{Terms}
use Rattle.kr_turn.specs.declared.view.View.{View}
use Rattle.kr_turn.specs.inner.Rule.{SpeaksFor, IsSeat, Knows, Has, IsOut}

module _ {L G : Type 0} (seat_of : L → ℕ) (terms : Terms G) (log log' : List L) (made made' : ℕ)
    (owner owner' : ℕ → ℕ) (tickets tickets' : ℕ) (holder holder' : ℕ → ℕ) (j : ℕ) where
  -- what others know stays where: there is a seat; whom the view answers for it still does; nobody
  -- makes seats there; its ticket is still its; and it isn't served, or nothing of that changes
  pub record Leaves : Type 0 where
    pub begun : 0 < made
    pub answers : (number : ℕ) (seen mine : List L)
        → SpeaksFor seat_of terms log made owner j number seen mine
        → SpeaksFor seat_of terms log' made' owner' j number seen mine
    pub makes : j ≡ 0 → made ≡ made'
    pub waits : (ticket : ℕ) → holder ticket ≡ j → length log ≤ ticket → ticket < tickets
        → (holder' ticket ≡ j) × (length log' ≤ ticket) × (ticket < tickets')
    pub holds : holder (length log) ≡ j → length log < tickets
        → (holder' (length log') ≡ j) × (length log' < tickets') × (log ≡ log')

  module _ (leaves : Leaves) where
    pub seat_stays : (v : View L G) → IsSeat seat_of terms log made owner j v
        → IsSeat seat_of terms log' made' owner' j v
    seat_stays v known = record {
      terms_are = known.terms_are;
      itself = leaves.answers v.number v.seen v.mine known.itself;
      ended = λ i part e. leaves.answers part.number part.seen part.mine (known.ended i part e);
      makes = λ k e. let m = known.makes k e in (m.0, m.1 ∙ leaves.makes m.0);
    }

    pub stays : (v : View L G) (stage : Stage L)
        → Knows seat_of terms log made owner tickets holder j v stage
        → Knows seat_of terms log' made' owner' tickets' holder' j v stage
    stays v Blank known = let some_made = leaves.begun in let none_made = known.none_made in
        absurd (omega arith)
    stays v Filling known = let some_made = leaves.begun in let none_made = known.none_made in
        absurd (omega arith)
    stays v Idle known = seat_stays v known
    stays v (Waiting ticket) known = let w = leaves.waits ticket known.2 known.3 known.4 in
        (seat_stays v known.0, known.1, w.0, w.1, w.2)
    stays v (Holding served) known = let h = leaves.holds known.2 known.3 in
        (seat_stays v known.0, known.1, h.0, h.1, known.4 ∙ h.2)
    stays v Gone known = tt

module _ {L G : Type 0} where
  -- each view after one view has changed
  pub each_set : (K K' : ℕ → View L G → Type 0) (vs : List (View L G)) (id : ℕ) (w : View L G)
      → ((j : ℕ) (u : View L G) → get_elem? vs j ≡ some u → K j u) → K' id w
      → ((j : ℕ) (u : View L G) → j ≢ id → K j u → K' j u) → (j : ℕ) (u : View L G)
      → get_elem? (set vs id w) j ≡ some u → K' j u
  each_set K K' vs id w each mine others j u e =
      ⊎_elim (λ (t : (j ≡ id) × (w ≡ u)).
      subst (λ (x : ℕ × View L G). K' x.0 x.1) (λ i. (sym t.0 i, t.1 i)) mine)
      (λ (t : (j ≢ id) × (get_elem? vs j ≡ some u)). others j u t.0 (each j u t.1))
      (at_set vs id j w u e)

  -- two views at one index are one
  pub same_view : (vs : List (View L G)) (i j : ℕ) (v u : View L G) → get_elem? vs i ≡ some v
      → get_elem? vs j ≡ some u → i ≡ j → u ≡ v
  same_view vs i j v u at there e =
      some-injective u v (sym there ∙ (ap (get_elem? vs) (sym e) ∙ at))

  -- a view that hasn't the slot in hand isn't where one is that has
  pub not_out : (vs : List (View L G)) (i j : ℕ) (v u : View L G) → get_elem? vs i ≡ some v
      → get_elem? vs j ≡ some u → (IsOut v.stage → ⊥) → IsOut u.stage → i ≢ j
  not_out vs i j v u at there rests out e = rests
      (subst (λ (z : View L G). IsOut z.stage) (same_view vs i j v u at there e) out)

module _ {S L G : Type 0} (lines : S → List L) (basis : S → G) (room : S → ℕ) (terms : Terms G)
    (log : List L) (made : ℕ) where
  -- the slot stays where a view that hasn't it in hand changes
  pub slot_set : (vs : List (View L G)) (id : ℕ) (v w : View L G) → get_elem? vs id ≡ some v
      → (IsOut v.stage → ⊥) → (content : Maybe (Option S))
      → Has lines basis room terms log made vs content
      → Has lines basis room terms log made (set vs id w) content
  slot_set vs id v w at rests (some None) has = has
  slot_set vs id v w at rests (some (Some y)) has = has
  slot_set vs id v w at rests none has = let apart : has.0 ≢ id =
      λ e. not_out vs id has.0 v has.1 at has.2 rests has.3 (sym e) in
      (has.0, has.1, set_else vs id has.0 w apart ∙ has.2, has.3)
