-- A whole turn, put together from its steps.
use Rattle.std.proofs.Common.{◌≡◌, ℕ, List, [], ◌∷◌, ◌++◌, length, drop, sym, ap, ◌∙◌, subst, Some}
use Rattle.atomic_table.specs.Table.{rest}
use Rattle.atomic_table.specs.declared.shared.Seat.{Seat}
use Rattle.kr_turn.specs.declared.view.Stage.TheVariants.{Idle}
use Rattle.kr_turn.specs.declared.view.Terms.{Terms}
use Rattle.kr_turn.specs.declared.view.View.{View}
use Rattle.kr_base.specs.Lines.{of_seat}
use Rattle.kr_turn.specs.Lines.{IsTurn}
use Rattle.kr_turn.specs.inner.Steps.{SeatState, waiting_view, holding_view, served_to, view_after}
use Rattle.kr_turn.specs.inner.Steps.{carried_lines, IsServed, IsTurned}
use Rattle.kr_turn.specs.inner.Tokens.{resting_token}
use Rattle.kr_turn.proofs.Orders.{drop_own, none_between, of_seat_own}

module _ {S : Type 0} where
  abbrev in_hand : S → List (ℕ × S) → S
  in_hand d [] = d
  in_hand d (x ∷ xs) = x.1

  -- what is in hand is one value
  pub one_in_hand : (cs cs' : List (ℕ × S)) (k n : ℕ) (x y : S) → cs ≡ (k, x) ∷ cs'
      → cs ≡ (n, y) ∷ rest cs → y ≡ x
  one_in_hand cs cs' k n x y a b = ap (in_hand x) (sym b ∙ a)

  pub has_in_hand : (cs : List (ℕ × S)) (k : ℕ) (x : S) → cs ≡ (k, x) ∷ [] → cs ≡ (k, x) ∷ rest cs
  has_in_hand cs k x a = a ∙ ap (λ (l : List (ℕ × S)). (k, x) ∷ rest l) (sym a)

pub some_same : {A : Type 0} (x y : A) → Some x ≡ Some y → x ≡ y
some_same x y e = cc

pub rests_by : {S L G : Type 0} (t : Seat S (View L G)) (number left : ℕ) → t.me.0.stage ≡ Idle
    → t.me.0.number ≡ number → t.me.0.left ≡ left → t.me.0.ended ≡ [] → t.me.1 ≡ []
    → t ≡ resting_token t number left
rests_by t number left a b c d e =
    λ i. record t {
      me = (record t.me.0 { stage = a i; number = b i; left = c i; ended = d i }, e i);
    }

module _ {S L G E A : Type 0} (lines : S → List L) (basis : S → G) (room : S → ℕ) (seat_of : L → ℕ)
    (law : G → List L → Type 0) (tells : G → List L → ℕ → E → A → L → Type 0)
    (v : View L G) (ticket : ℕ) (m2 m4 : SeatState S L G) (y y' : S) (x : L) (number : ℕ)
    (served : IsServed lines basis room seat_of ticket (waiting_view v ticket, []) m2)
    (number_is : v.number ≡ number)
    (same : y ≡ served.state) (view_is : m4.0
    ≡ holding_view (waiting_view v ticket) (lines served.state))
    (carries : m4.1 ≡ (0, Some y') ∷ []) (lines_are : lines y' ≡ lines y ++ x ∷ [])
    (own : seat_of x ≡ number) where
  pub turned_held : (room y' ≡ room y) × (basis y' ≡ basis y)
      → IsTurned lines basis room seat_of ticket m4
  turned_held kept = record {
    log = lines served.state;
    line = x;
    state = y';
    terms = served.terms;
    stage_is = ap (λ (u : View L G). u.stage) view_is;
    carries = carries;
    count = served.count;
    lines_are = lines_are ∙ ap (λ (z : S). lines z ++ x ∷ []) same;
    mine = own ∙ (sym number_is ∙ ap (λ (u : View L G). u.number) (sym view_is));
    terms_are = ap (λ (u : View L G). u.terms) view_is ∙ served.terms_are;
    basis_is = kept.1 ∙ (ap basis same ∙ served.basis_is);
    room_is = kept.0 ∙ (ap room same ∙ served.room_is);
  }

  pub makes_turn : (event : E) (answer : A) (w : View L G)
      → w ≡ view_after m4.0 (carried_lines lines m4.1)
      → tells (basis y) (lines y) number event answer x → law (basis y) (lines y)
      → law (basis y) (lines y')
      → (terms : Terms G) → v.terms ≡ Some terms
      → IsTurn seat_of law tells terms.basis number event answer v.seen v.mine w.seen w.mine
  makes_turn event answer w w_is told before after terms terms_are =
      let others : List L = served.front.0 in
      let split : v.seen ++ others ≡ lines served.state = served.front.1 in
      let held : carried_lines lines m4.1 ≡ lines served.state ++ x ∷ [] =
      ap (carried_lines lines) carries ∙ (lines_are ∙ ap (λ (z : S). lines z ++ x ∷ []) same) in
      let seen_is : w.seen ≡ (v.seen ++ others) ++ x ∷ [] =
      ap (λ (u : View L G). u.seen) w_is
      ∙ (held ∙ ap (λ (l : List L). l ++ x ∷ []) (sym split)) in
      let mine_is : w.mine ≡ v.mine ++ x ∷ [] =
      ap (λ (u : View L G). u.mine) w_is
      ∙ (ap (λ (u : View L G). u.mine
      ++ drop (length (served_to u.stage)) (carried_lines lines m4.1)) view_is
      ∙ ap (λ (l : List L). v.mine ++ l)
      (ap (drop (length (lines served.state))) held ∙ drop_own (lines served.state) x)) in
      let basis_is : basis y ≡ terms.basis =
      ap basis same ∙ (served.basis_is
      ∙ ap (λ (z : Terms G). z.basis)
      (some_same served.terms terms (sym served.terms_are ∙ terms_are))) in
      let before_is : lines y ≡ v.seen ++ others = ap lines same ∙ sym split in
      let after_is : lines y' ≡ w.seen =
      lines_are ∙ (ap (λ (l : List L). l ++ x ∷ []) before_is ∙ sym seen_is) in
      record {
        others = others;
        line = x;
        seen_is = seen_is;
        mine_is = mine_is;
        apart = subst (λ (n : ℕ). of_seat seat_of n others ≡ []) number_is
            (none_between seat_of v.number v.seen others (lines served.state) v.mine split
            served.whole served.own);
        own = own;
        whole = ap (of_seat seat_of number)
            (sym after_is ∙ (lines_are ∙ ap (λ (z : S). lines z ++ x ∷ []) same))
            ∙ (of_seat_own seat_of number (lines served.state) x own
            ∙ (ap (λ (l : List L). l ++ x ∷ [])
            (subst (λ (n : ℕ). of_seat seat_of n (lines served.state) ≡ v.mine) number_is
            served.whole) ∙ sym mine_is));
        told = subst (λ (z : G × List L). tells z.0 z.1 number event answer x)
            (λ i. (basis_is i, before_is i)) told;
        law_before = subst (λ (z : G × List L). law z.0 z.1) (λ i. (basis_is i, before_is i))
            before;
        law_after = subst (λ (z : G × List L). law z.0 z.1) (λ i. (basis_is i, after_is i)) after;
      }
