-- To join two seats keeps the rule, and what the last state of the table says.
use Rattle.std.proofs.Common.{◌≡◌, ℕ, zero, suc, ◌+◌, ◌<◌, ◌≢◌, ◌⊎◌, List, [], ◌∷◌, set, sym, refl}
use Rattle.std.proofs.Common.{ap, ◌∙◌, subst, inl, inr, ⊎_elim, arith, Option, Some, None}
use mathlib.Core.Option.{Option as Maybe, none, some, some-injective}
use mathlib.Core.List.{IsPrefix}
use lib.ListN.{get_elem?}
use Rattle.atomic_table.specs.Table.{State, Joins, Final, Seen}
use Rattle.atomic_table.proofs.Lists.{set_else}
use Rattle.kr_turn.specs.declared.view.Stage.{Stage}
use Rattle.kr_turn.specs.declared.view.Stage.TheVariants.{Filling, Idle, Holding}
use Rattle.kr_turn.specs.declared.view.Terms.{Terms}
use Rattle.kr_turn.specs.declared.view.ViewPart.{ViewPart}
use Rattle.kr_turn.specs.declared.view.View.{View}
use Rattle.kr_base.specs.Lines.{of_seat, Stands}
use Rattle.kr_turn.specs.inner.Rule.{SpeaksFor, IsSeat, Knows, Has, IsOut, KeepsRule, lefts}
use Rattle.kr_turn.specs.inner.Rule.{gone_view}
use Rattle.kr_turn.specs.inner.Steps.{joined_view, part_of}
use Rattle.kr_turn.specs.inner.Endings.{Covers, Ending}
use Rattle.kr_turn.proofs.Orders.{Table, lefts_set, put, put_here, put_else}
use Rattle.kr_turn.proofs.Stays.{stays, each_set, not_out, slot_set}
use Rattle.kr_turn.proofs.Keeps.{known, regrouped}

at_cons : {A : Type 0} (x : A) (xs : List A) (i : ℕ) (a : A) → get_elem? (x ∷ xs) i ≡ some a
    → ((k : ℕ) × (get_elem? xs k ≡ some a)) ⊎ (x ≡ a)
at_cons x xs zero a e = inr (some-injective x a e)
at_cons x xs (suc i) a e = inl (i, e)

module _ {S L G : Type 0} (lines : S → List L) (basis : S → G) (room : S → ℕ) (seat_of : L → ℕ)
    (terms : Terms G) where
  abbrev Rule : Table S L G → Type 0
  Rule = KeepsRule lines basis room seat_of terms

  pub joins : (id : ℕ) (v : View L G) (other : ℕ) (w : View L G) → v.stage ≡ Idle → w.stage ≡ Idle
      → w.ended ≡ [] → Joins Rule id v other w (joined_view v w) gone_view
  joins id v other w v_rests w_rests w_alone s r at apart there =
      let both : View L G = joined_view v w in
      let at_w : get_elem? s.views other ≡ some w =
      sym (set_else s.views id other both apart) ∙ there in
      let vs : List (View L G) = set s.views id both in
      let seat : IsSeat seat_of terms r.log r.made r.owner id v =
      known lines basis room seat_of terms s r id v at Idle v_rests in
      let ending : IsSeat seat_of terms r.log r.made r.owner other w =
      known lines basis room seat_of terms s r other w at_w Idle w_rests in
      let owner : ℕ → ℕ = put r.owner w.number id in
      let moved : lefts vs + v.left ≡ lefts s.views + (v.left + w.left) =
      lefts_set s.views id v both at in
      let spent : lefts (set vs other gone_view) + w.left ≡ lefts vs + 0 =
      lefts_set vs other w gone_view there in
      let all_left = r.left_is in
      let K : ℕ → View L G → Type 0 =
      λ j u. Knows seat_of terms r.log r.made r.owner r.tickets r.holder j u u.stage in
      let K' : ℕ → View L G → Type 0 =
      λ j u. Knows seat_of terms r.log r.made owner r.tickets r.holder j u u.stage in
      let answers : (j : ℕ) → j ≢ other → (m : ℕ) (seen mine : List L)
      → SpeaksFor seat_of terms r.log r.made r.owner j m seen mine
      → SpeaksFor seat_of terms r.log r.made owner j m seen mine
      = λ j far m seen mine a. record {
        owned = put_else r.owner w.number id m
            (λ e. far (sym a.owned ∙ (ap r.owner e ∙ ending.itself.owned))) ∙ a.owned;
        known = a.known;
        front = a.front;
        whole = a.whole;
        own = a.own;
      } in
      let far_id : id ≢ other = λ e. apart (sym e) in
      let the_joined : IsSeat seat_of terms r.log r.made owner id both = record {
        terms_are = seat.terms_are;
        itself = answers id far_id v.number v.seen v.mine seat.itself;
        ended = λ i part e. ⊎_elim (λ h.
            answers id far_id part.number part.seen part.mine (seat.ended h.0 part h.1))
            (λ h. subst (λ (z : ViewPart L).
            SpeaksFor seat_of terms r.log r.made owner id z.number z.seen z.mine) h record {
              owned = put_here r.owner w.number id w.number refl;
              known = ending.itself.known;
              front = ending.itself.front;
              whole = ending.itself.whole;
              own = ending.itself.own;
            })
            (at_cons (part_of w) v.ended i part e);
        makes = seat.makes;
      } in
      let mine : K' id both = subst
      (λ (z : Stage L). Knows seat_of terms r.log r.made owner r.tickets r.holder id both z)
      (sym v_rests) the_joined in
      let begun : 0 < r.made = let k = seat.itself.known in omega arith in
      let others : (j : ℕ) (u : View L G) → j ≢ id → K j u → j ≢ other
      → K' j u = λ j u not_id k far.
      stays seat_of terms r.log r.log r.made r.made r.owner owner r.tickets r.tickets r.holder
      r.holder j record {
        begun = begun;
        answers = answers j far;
        makes = λ e. refl;
        waits = λ ticket h a b. (h, a, b);
        holds = λ h b. (h, b, refl);
      } u u.stage k in
      let v_out : IsOut v.stage → ⊥ = λ out. subst (λ (z : Stage L). IsOut z) v_rests out in
      let w_out : IsOut w.stage → ⊥ = λ out. subst (λ (z : Stage L). IsOut z) w_rests out in
      regrouped lines basis room seat_of terms s r (set vs other gone_view) r.made owner
      (omega arith) (omega arith) r.few
      (slot_set lines basis room terms r.log r.made vs other w gone_view there w_out
      r.content (slot_set lines basis room terms r.log r.made s.views id v both at v_out
      r.content r.slot))
      (each_set (λ j u. j ≢ other → K' j u) K' vs other gone_view
      (each_set K (λ j u. j ≢ other → K' j u) s.views id both r.each (λ far. mine) others) tt
      (λ j u far k. k far))

  stands_of : (log : List L) (made : ℕ) (owner : ℕ → ℕ) (index number : ℕ) (seen mine : List L)
      (y : S) → lines y ≡ log → SpeaksFor seat_of terms log made owner index number seen mine
      → Stands seat_of (lines y) number seen mine
  stands_of log made owner index number seen mine y is a =
      record {
        front = subst (λ (l : List L). IsPrefix seen l) (sym is) a.front;
        whole =
            ap (of_seat seat_of number) is ∙ a.whole;
      }

  -- the view that answers for a seat, where one view answers for all
  one_owner : (s : Table S L G) (r : Rule s) (id : ℕ) (v : View L G)
      → IsSeat seat_of terms r.log r.made r.owner id v → Covers terms v → (number : ℕ)
      → number < r.made → r.owner number ≡ id
  one_owner s r id v seat all number low = let few = r.few in
      ⊎_elim (λ e. ap r.owner (sym e) ∙ seat.itself.owned)
      (λ h. ap r.owner (sym h.3) ∙ (seat.ended h.0 h.1 h.2).owned) (all number (omega arith))

  nobody_out : (s : Table S L G) (r : Rule s) (id : ℕ) (v : View L G) → get_elem? s.views id ≡ some v
      → v.stage ≡ Idle → Covers terms v → (k : ℕ) (u : View L G) → get_elem? s.views k ≡ some u
      → (stage : Stage L) → u.stage ≡ stage → IsOut stage → k ≡ id
  nobody_out s r id v at rests all k u at_u Filling is out = let none_made =
      (known lines basis room seat_of terms s r k u at_u Filling is).none_made in
      let some_made = (known lines basis room seat_of terms s r id v at Idle rests).itself.known in
      absurd (omega arith)
  nobody_out s r id v at rests all k u at_u (Holding served) is out = let own =
      (known lines basis room seat_of terms s r k u at_u (Holding served) is).0.itself in
      sym own.owned ∙ one_owner s r id v
      (known lines basis room seat_of terms s r id v at Idle rests) all u.number own.known
  nobody_out s r id v at rests all k u at_u other is out = absurd out

  ends_at : (xs : List (Option S)) (s : Table S L G) (r : Rule s) (id : ℕ) (v : View L G)
      → get_elem? s.views id ≡ some v → v.stage ≡ Idle → Covers terms v
      → ((k : ℕ) (y : Option S) → get_elem? s.homes k ≡ some (some y) → get_elem? xs k ≡ some y)
      → (content : Maybe (Option S)) → s.homes ≡ content ∷ []
      → Has lines basis room terms r.log r.made s.views content
      → Ending lines basis room seat_of terms v xs
  ends_at xs s r id v at rests all homes (some None) is has = let some_made =
      (known lines basis room seat_of terms s r id v at Idle rests).itself.known in
      absurd (omega arith)
  ends_at xs s r id v at rests all homes none is has =
      let same : has.0 ≡ id = nobody_out s r id v at rests all has.0 has.1 has.2 has.1.stage refl
      has.3 in
      absurd (not_out s.views id has.0 v has.1 at has.2
      (λ out. subst (λ (z : Stage L). IsOut z) rests out) has.3 (sym same))
  ends_at xs s r id v at rests all homes (some (Some y)) is has =
      let seat = known lines basis room seat_of terms s r id v at Idle rests in
      let few = r.few in (
        y,
        homes 0 (Some y) (ap (λ (hs : List (Maybe (Option S))). get_elem? hs 0) is),
        record {
          basis_is = has.2;
          room_is = has.3;
          itself = stands_of r.log r.made r.owner id v.number v.seen v.mine y has.1 seat.itself;
          ended = λ i part e. stands_of r.log r.made r.owner id part.number part.seen part.mine y
              has.1 (seat.ended i part e);
          no_other = λ number high. ap (of_seat seat_of number) has.1
              ∙ r.unmade number (omega arith);
        },
      )

  pub ends : (ws : List ℕ) (xs : List (Option S)) (id : ℕ) (v : View L G) → v.stage ≡ Idle
      → Covers terms v → Final (Seen Rule id v) ws xs → Ending lines basis room seat_of terms v xs
  ends ws xs id v rests all last =
      ends_at xs last.0 last.1.0 id v last.1.1 rests all last.4 last.1.0.content last.1.0.homes_are
      last.1.0.slot
