-- The steps that make seats keep the rule: the first state of the table, to empty the slot, to fill
-- it, and to split a seat.
use Rattle.std.proofs.Common.{◌≡◌, ℕ, zero, suc, ◌+◌, ◌<◌, ◌≤◌, ◌≢◌, ◌⊎◌, List, [], ◌∷◌, ◌++◌}
use Rattle.std.proofs.Common.{length, set, sum, take, get_or, slice_index, slice_set, sym, refl, ap}
use Rattle.std.proofs.Common.{◌∙◌, subst, inl, inr, ⊎_elim, arith, length-set, Option, Some, None}
use mathlib.Core.Option.{Option as Maybe, none, some, some-injective, some-ne-none}
use lib.ListN.{get_elem?}
use lib.Seq.{set-get_or}
use Rattle.std.proofs.lemmas.List.Sums.{sum_by_more}
use Rattle.atomic_table.specs.Table.{State, Act, step, takes, gives, stepped, carried_after, Valid}
use Rattle.atomic_table.specs.Table.{Allows, Splits, opening, rest, put_back}
use Rattle.atomic_table.proofs.Lists.{set_here, at_longer}
use Rattle.kr_turn.specs.declared.view.Stage.{Stage}
use Rattle.kr_turn.specs.declared.view.Stage.TheVariants.{Blank, Filling, Idle, Waiting, Holding}
use Rattle.kr_turn.specs.declared.view.Stage.TheVariants.{Gone}
use Rattle.kr_turn.specs.declared.view.Terms.{Terms}
use Rattle.kr_turn.specs.declared.view.View.{View}
use Rattle.kr_base.specs.Lines.{of_seat}
use Rattle.kr_turn.specs.inner.Rule.{IsSeat, Knows, Has, IsOut, KeepsRule, lefts, blank_view}
use Rattle.kr_turn.specs.inner.Rule.{idle_view}
use Rattle.kr_turn.specs.Keys.{seat_budget}
use Rattle.kr_turn.specs.inner.Steps.{SeatState, filling_view, opening_view, next_of, new_of}
use Rattle.kr_turn.specs.inner.Steps.{Empties, Fills}
use Rattle.kr_turn.proofs.Orders.{Table, lefts_set, lefts_more, in_range, put, put_here, put_else}
use Rattle.kr_turn.proofs.Stays.{stays, each_set, not_out, slot_set}
use Rattle.kr_turn.proofs.Keeps.{known, regrouped, taken_out}

-- the last of a list stands at its end
at_end : {A : Type 0} (l : List A) (a b : A) (j : ℕ) → get_elem? (l ++ a ∷ []) j ≡ some b
    → (get_elem? l j ≡ some b) ⊎ ((j ≡ length l) × (a ≡ b))
at_end [] a b zero e = inr (refl, some-injective a b e)
at_end [] a b (suc j) e = absurd (some-ne-none b (sym e))
at_end (x ∷ xs) a b zero e = inl e
at_end (x ∷ xs) a b (suc j) e = ⊎_elim (λ h. inl h) (λ h. inr (ap suc h.0, h.1)) (at_end xs a b j e)

module _ {S L G : Type 0} (lines : S → List L) (basis : S → G) (room : S → ℕ) (seat_of : L → ℕ)
    (terms : Terms G) where
  abbrev Rule : Table S L G → Type 0
  Rule = KeepsRule lines basis room seat_of terms

  begins_each : (j : ℕ) (u : View L G) → get_elem? (blank_view terms ∷ []) j ≡ some u
      → Knows seat_of terms [] 0 (λ n. 0) 0 (λ n. 0) j u u.stage
  begins_each zero u e = subst
      (λ (z : View L G). Knows seat_of terms [] 0 (λ n. 0) 0 (λ n. 0) 0 z z.stage)
      (some-injective (blank_view terms) u e) record
      { first = refl; none_made = refl; no_line = refl }
  begins_each (suc j) u e = absurd (some-ne-none u (sym e))

  pub begins : sum terms.budgets ≤ terms.room → sum terms.budgets < 18446744073709551616
      → Rule (opening (0 ∷ 0 ∷ []) (None ∷ []) (blank_view terms))
  begins roomy small = record {
    log = [];
    tickets = 0;
    made = 0;
    owner = λ n. 0;
    holder = λ n. 0;
    content = some None;
    words_are = refl;
    homes_are = refl;
    left_is = refl;
    small = small;
    roomy = roomy;
    behind = omega arith;
    few = omega arith;
    unmade = λ number h. refl;
    slot = refl;
    each = begins_each;
  }

  -- where there is no seat yet, the slot is in hand at the first view alone
  out_first : (s : Table S L G) (r : Rule s) (k : ℕ) (u : View L G) → get_elem? s.views k ≡ some u
      → r.made ≡ 0 → (stage : Stage L) → u.stage ≡ stage → IsOut stage → k ≡ 0
  out_first s r k u at none_made Filling is out =
      (known lines basis room seat_of terms s r k u at Filling is).first
  out_first s r k u at none_made (Holding served) is out = let some_made =
      (known lines basis room seat_of terms s r k u at (Holding served) is).0.itself.known in
      absurd (omega arith)
  out_first s r k u at none_made other is out = absurd out

  empties_at : (slots : ℕ) (s : Table S L G) (r : Rule s) (id : ℕ) (m : SeatState S L G)
      → get_elem? s.views id ≡ some m.0 → m.0.stage ≡ Blank → m.1 ≡ []
      → (content : Maybe (Option S)) → s.homes ≡ content ∷ []
      → Has lines basis room terms r.log r.made s.views content
      → (w : View L G) × (a : Act (Option S)) × Valid s.homes m.1 a
      × Rule (stepped s 0 (slice_index s.words 0) id m.1 w a)
      × Empties (step slots 0 0 0 none) m (slice_index s.words 0) (w, carried_after m.1 a)
  empties_at slots s r id m at is bare (some (Some y)) homes has = let none_made =
      (known lines basis room seat_of terms s r id m.0 at Blank is).none_made in
      let some_made = has.0 in absurd (omega arith)
  empties_at slots s r id m at is bare none homes has =
      let k = known lines basis room seat_of terms s r id m.0 at Blank is in
      let there : has.0 ≡ 0 = out_first s r has.0 has.1 has.2 k.none_made has.1.stage refl has.3 in
      absurd (not_out s.views id has.0 m.0 has.1 at has.2
      (λ out. subst (λ (z : Stage L). IsOut z) is out) has.3 (k.first ∙ sym there))
  empties_at slots s r id m at is bare (some None) homes has =
      let v : View L G = m.0 in
      let k = known lines basis room seat_of terms s r id v at Blank is in
      let w : View L G = filling_view v in (
        w,
        takes 0 None,
        ap (λ (hs : List (Maybe (Option S))). get_elem? hs 0) homes,
        taken_out lines basis room seat_of terms s r id 0 m.1 v w None at refl tt homes
            record { first = k.first; none_made = k.none_made; no_line = k.no_line },
        ap (λ (cs : List (ℕ × Option S)). let z : SeatState S L G = (w, (0, None) ∷ cs) in z) bare,
      )

  pub empties : (slots id : ℕ) (m : SeatState S L G) → m.0.stage ≡ Blank → m.1 ≡ []
      → Allows Rule slots id m 0 (λ n. n) (Empties (step slots 0 0 0 none) m)
  empties slots id m is bare s r _ at _ =
      empties_at slots s r id m at is bare r.content r.homes_are r.slot

  -- where there is no seat yet, no other view knows anything
  none_else : (log : List L) (made made' : ℕ) (owner owner' : ℕ → ℕ) (tickets : ℕ) (holder : ℕ → ℕ)
      (j : ℕ) (v : View L G) → made ≡ 0 → j ≢ 0 → (stage : Stage L)
      → Knows seat_of terms log made owner tickets holder j v stage
      → Knows seat_of terms log made' owner' tickets holder j v stage
  none_else log made made' owner owner' tickets holder j v none_made other Idle k = let some_made =
      k.itself.known in absurd (omega arith)
  none_else log made made' owner owner' tickets holder j v none_made other (Waiting ticket) k =
      let some_made = k.0.itself.known in absurd (omega arith)
  none_else log made made' owner owner' tickets holder j v none_made other (Holding served) k =
      let some_made = k.0.itself.known in absurd (omega arith)
  none_else log made made' owner owner' tickets holder j v none_made other Gone k = tt
  none_else log made made' owner owner' tickets holder j v none_made other another k = absurd (other k.first)

  pub fills : (slots id : ℕ) (m : SeatState S L G) (y : S) → m.0 ≡ filling_view (blank_view terms)
      → m.1 ≡ (0, Some y) ∷ [] → lines y ≡ [] → basis y ≡ terms.basis → room y ≡ terms.room
      → 0 < length terms.budgets
      → Allows Rule slots id m 0 (λ n. n) (Fills (step slots 0 0 0 none) m)
  fills slots id m y is carries no_lines basis_is room_is some_budget s r _ at _ =
      let v : View L G = m.0 in
      let k = known lines basis room seat_of terms s r id v at Filling
      (ap (λ (u : View L G). u.stage) is) in
      let w : View L G = opening_view v in
      let none_made : r.made ≡ 0 = k.none_made in
      let moved : lefts (set s.views id w) + v.left ≡ lefts s.views + seat_budget v.terms 0 =
      lefts_set s.views id v w at in
      let none_left : v.left ≡ 0 = ap (λ (u : View L G). u.left) is in
      let terms_are : v.terms ≡ Some terms = ap (λ (u : View L G). u.terms) is in
      let budget : seat_budget v.terms 0 ≡ get_or terms.budgets 0 0 =
      ap (λ (t : Option (Terms G)). seat_budget t 0) terms_are in
      let all_left = r.left_is in
      let none_summed : sum (take r.made terms.budgets) ≡ sum (take 0 terms.budgets) =
      ap (λ (n : ℕ). sum (take n terms.budgets)) none_made in
      let summed : sum (take (0 + 1) terms.budgets)
      ≡ sum (take 0 terms.budgets) + get_or terms.budgets 0 0 =
      sum_by_more (λ x. x) terms.budgets 0 0 some_budget in
      let none_of : of_seat seat_of 0 r.log ≡ [] = r.unmade 0 (omega arith) in (
        w,
        gives,
        tt,
        record {
          log = r.log;
          tickets = r.tickets;
          made = 1;
          owner = put r.owner 0 id;
          holder = r.holder;
          content = some (Some y);
          words_are = set-get_or s.words 0 0 ∙ r.words_are;
          homes_are = ap (put_back s.homes) carries
              ∙ ap (λ (hs : List (Maybe (Option S))). slice_set hs 0 (some (Some y))) r.homes_are;
          left_is = omega arith;
          small = r.small;
          roomy = r.roomy;
          behind = r.behind;
          few = omega arith;
          unmade = λ number h. r.unmade number (omega arith);
          slot = (omega arith, no_lines ∙ sym k.no_line, basis_is, room_is);
          each = each_set (λ j u. Knows seat_of terms r.log r.made r.owner r.tickets r.holder j u
              u.stage) (λ j u. Knows seat_of terms r.log 1 (put r.owner 0 id) r.tickets r.holder j u
              u.stage) s.views id w r.each
              record {
                terms_are = terms_are;
                itself = record {
                  owned = put_here r.owner 0 id 0 refl;
                  known = omega arith;
                  front =
                      (r.log, refl);
                  whole = none_of;
                  own = refl;
                };
                ended = λ i part e. absurd (some-ne-none part (sym e));
                makes = λ n e. (k.first, let same : 1 ≡ n = cc in sym same);
              }
              (λ j u other x. none_else r.log r.made 1 r.owner (put r.owner 0 id) r.tickets r.holder
              j u none_made (λ e. other (e ∙ sym k.first)) u.stage x);
        },
        ap (λ (cs : List (ℕ × Option S)). let z : SeatState S L G = (w, rest cs) in z) carries,
      )

  -- the slot stays where a seat that rests is split
  slot_split : (log : List L) (made made' : ℕ) (vs : List (View L G)) (id : ℕ) (v w n : View L G)
      → get_elem? vs id ≡ some v → (IsOut v.stage → ⊥) → 0 < made → 0 < made'
      → (content : Maybe (Option S)) → Has lines basis room terms log made vs content
      → Has lines basis room terms log made' (set vs id w ++ n ∷ []) content
  slot_split log made made' vs id v w n at rests begun begun' (some None) has = absurd (omega arith)
  slot_split log made made' vs id v w n at rests begun begun' (some (Some y)) has =
      (begun', has.1, has.2, has.3)
  slot_split log made made' vs id v w n at rests begun begun' none has = let h =
      slot_set lines basis room terms log made vs id v w at rests none has in
      (h.0, h.1, at_longer (set vs id w) (n ∷ []) h.0 h.1 h.2, h.3)

  pub splits : (id number left made : ℕ) → made < length terms.budgets
      → let v : View L G = idle_view (Some terms) number [] [] left [] (Some made) in
      Splits Rule id v (next_of v) (new_of v)
  splits id number left made room_left s r at =
      let v : View L G = idle_view (Some terms) number [] [] left [] (Some made) in
      let seat : IsSeat seat_of terms r.log r.made r.owner id v = r.each id v at in
      let maker = seat.makes made refl in
      let first : id ≡ 0 = maker.0 in
      let made_is : made ≡ r.made = maker.1 in
      let here : number < r.made = seat.itself.known in
      let w : View L G = next_of v in
      let n : View L G = new_of v in
      let end : ℕ = length s.views in
      let owner : ℕ → ℕ = put (put r.owner number end) made id in
      let moved : lefts (set s.views id w) + left ≡ lefts s.views + get_or terms.budgets made 0 =
      lefts_set s.views id v w at in
      let more : lefts (set s.views id w ++ n ∷ []) ≡ lefts (set s.views id w) + left =
      lefts_more (set s.views id w) n in
      let all_left = r.left_is in
      let summed : sum (take (r.made + 1) terms.budgets)
      ≡ sum (take r.made terms.budgets) + get_or terms.budgets r.made 0 =
      sum_by_more (λ x. x) terms.budgets r.made 0 (omega arith) in
      let budget : get_or terms.budgets made 0 ≡ get_or terms.budgets r.made 0 =
      ap (λ (i : ℕ). get_or terms.budgets i 0) made_is in
      let K : ℕ → View L G → Type 0 =
      λ j u. Knows seat_of terms r.log r.made r.owner r.tickets r.holder j u u.stage in
      let K' : ℕ → View L G → Type 0 =
      λ j u. Knows seat_of terms r.log (r.made + 1) owner r.tickets r.holder j u u.stage in
      let the_maker : K' id w = record {
        terms_are = refl;
        itself = record {
          owned = put_here (put r.owner number end) made id made refl;
          known =
              omega arith;
          front = (r.log, refl);
          whole = r.unmade made (omega arith);
          own = refl;
        };
        ended = λ i part e. absurd (some-ne-none part (sym e));
        makes = λ k e. (first, let same : made + 1 ≡ k = cc in omega arith);
      } in
      let the_new : K' end n = record {
        terms_are = refl;
        itself = record {
          owned = put_else (put r.owner number end) made id number
              (λ e. omega arith) ∙ put_here r.owner number end number refl;
          known =
              omega arith;
          front = (r.log, refl);
          whole = seat.itself.whole;
          own = refl;
        };
        ended = λ i part e. absurd (some-ne-none part (sym e));
        makes = λ k e. absurd (cc);
      } in
      let others : (j : ℕ) (u : View L G) → j ≢ id → K j u
      → K' j u = λ j u other k. stays seat_of terms r.log r.log r.made (r.made + 1) r.owner
      owner r.tickets r.tickets r.holder r.holder j record {
        begun = omega arith;
        answers = λ m seen mine a. record {
          owned = put_else (put r.owner number end) made id m
              (λ e. let low = a.known in omega arith)
              ∙ (put_else r.owner number end m
              (λ e. other (sym a.owned ∙ (ap r.owner e ∙ seat.itself.owned))) ∙ a.owned);
          known = let low = a.known in omega arith;
          front = a.front;
          whole = a.whole;
          own = a.own;
        };
        makes = λ e. absurd (other (e ∙ sym first));
        waits = λ ticket h a b. (h, a, b);
        holds = λ h b. (h, b, refl);
      } u u.stage k in
      regrouped lines basis room seat_of terms s r (set s.views id w ++ n ∷ []) (r.made + 1) owner
      (omega arith) (omega arith) (omega arith)
      (slot_split r.log r.made (r.made + 1) s.views id v w n at (λ out. out) (omega arith)
      (omega arith) r.content r.slot)
      (λ j u e. ⊎_elim (λ h. each_set K K' s.views id w r.each the_maker others j u h)
      (λ h. subst (λ (x : ℕ × View L G). K' x.0 x.1)
      (λ i. (sym (h.0 ∙ length-set s.views id w) i, h.1 i)) the_new)
      (at_end (set s.views id w) n u j e))
