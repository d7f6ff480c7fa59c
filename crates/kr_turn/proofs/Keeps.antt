-- The steps of a turn keep the rule: to draw, to look, and to pass on.
use Rattle.std.proofs.Common.{◌≡◌, ℕ, ◌+◌, ◌-◌, ◌%◌, ◌^◌, ◌<◌, ◌≤◌, ◌≢◌, List, [], ◌∷◌, ◌++◌}
use Rattle.std.proofs.Common.{length, drop, set, sum, take, slice_index, slice_set, sym, refl, ap}
use Rattle.std.proofs.Common.{◌∙◌, subst, arith, mod-eq_of_lt, length-append, Option, Some, None}
use mathlib.Core.Option.{Option as Maybe, none, some, some-ne-none}
use mathlib.Core.Logic.{dite}
use mathlib.Core.List.{IsPrefix}
use native.Mathlib.Decide.{ℕ_discrete}
use lib.ListN.{get_elem?}
use lib.Seq.{set-get_or}
use Rattle.std.proofs.lemmas.List.Sums.{sum_by-take-le}
use Rattle.atomic_table.specs.Table.{State, Act, step, keeps, takes, gives, stepped, carried_after}
use Rattle.atomic_table.specs.Table.{Valid, Allows, rest, put_back}
use Rattle.atomic_table.proofs.Lists.{set_here, set_again}
use Rattle.kr_turn.specs.declared.view.Stage.{Stage}
use Rattle.kr_turn.specs.declared.view.Stage.TheVariants.{Filling, Idle, Waiting, Holding}
use Rattle.kr_turn.specs.declared.view.Terms.{Terms}
use Rattle.kr_turn.specs.declared.view.ViewPart.{ViewPart}
use Rattle.kr_turn.specs.declared.view.View.{View}
use Rattle.kr_base.specs.Lines.{of_seat}
use Rattle.kr_turn.specs.inner.Rule.{IsSeat, Knows, Has, IsOut, KeepsRule, lefts}
use Rattle.kr_turn.specs.inner.Steps.{SeatState, waiting_view, holding_view, served_to, view_after}
use Rattle.kr_turn.specs.inner.Steps.{carried_lines, Draws, Looks, Passes, IsTurned}
use Rattle.kr_turn.proofs.Orders.{prefix_more, prefix_whole, drop_own, of_seat_own, of_seat_other}
use Rattle.kr_turn.proofs.Orders.{Table, lefts_set, in_range, put, put_here, put_else}
use Rattle.kr_turn.proofs.Stays.{stays, each_set, not_out, slot_set}

module _ {S L G : Type 0} (lines : S → List L) (basis : S → G) (room : S → ℕ) (seat_of : L → ℕ)
    (terms : Terms G) where
  abbrev Rule : Table S L G → Type 0
  Rule = KeepsRule lines basis room seat_of terms

  -- whatever it waits for, it is the same seat
  reseated : {log : List L} {made : ℕ} {owner : ℕ → ℕ} {id : ℕ} (v : View L G) (stage : Stage L)
      (left : ℕ) → IsSeat seat_of terms log made owner id v
      → IsSeat seat_of terms log made owner id (record v { stage = stage; left = left })
  reseated v stage left seat = record {
    terms_are = seat.terms_are;
    itself = seat.itself;
    ended = seat.ended;
    makes = seat.makes;
  }

  pub known : (s : Table S L G) (r : Rule s) (id : ℕ) (v : View L G) → get_elem? s.views id ≡ some v
      → (stage : Stage L) → v.stage ≡ stage
      → Knows seat_of terms r.log r.made r.owner r.tickets r.holder id v stage
  known s r id v at stage is =
      subst (λ (z : Stage L). Knows seat_of terms r.log r.made r.owner r.tickets r.holder id v z) is
      (r.each id v at)

  -- where there is a seat, a view that has the slot in hand holds the ticket that is served
  pub out_alone : (s : Table S L G) (r : Rule s) (k : ℕ) (u : View L G) → get_elem? s.views k ≡ some u
      → 0 < r.made → (stage : Stage L) → u.stage ≡ stage → IsOut stage → r.holder (length r.log) ≡ k
  out_alone s r k u at begun Filling is out = let none_made =
      (known s r k u at Filling is).none_made in absurd (omega arith)
  out_alone s r k u at begun (Holding served) is out = (known s r k u at (Holding served) is).2
  out_alone s r k u at begun other is out = absurd out

  -- the slot goes out to a view that has as many turns left
  pub taken_out : (s : Table S L G) (r : Rule s) (id word : ℕ) (own : List (ℕ × Option S))
      (v w : View L G) (x : Option S) → get_elem? s.views id ≡ some v → w.left ≡ v.left
      → IsOut w.stage → s.homes ≡ some x ∷ []
      → Knows seat_of terms r.log r.made r.owner r.tickets r.holder id w w.stage
      → Rule (stepped s word (slice_index s.words word) id own w (takes 0 x))
  taken_out s r id word own v w x at as_many out homes knows =
      let moved : lefts (set s.views id w) + v.left ≡ lefts s.views + w.left =
      lefts_set s.views id v w at in
      let all_left = r.left_is in
      let K : ℕ → View L G → Type 0 =
      λ j u. Knows seat_of terms r.log r.made r.owner r.tickets r.holder j u u.stage in
      record {
        log = r.log;
        tickets = r.tickets;
        made = r.made;
        owner = r.owner;
        holder = r.holder;
        content = none;
        words_are = set-get_or s.words word 0 ∙ r.words_are;
        homes_are = ap (λ (hs : List (Maybe (Option S))). slice_set hs 0 none) homes;
        left_is = omega arith;
        small = r.small;
        roomy = r.roomy;
        behind = r.behind;
        few = r.few;
        unmade = r.unmade;
        slot = (id, w, set_here s.views id w (in_range s.views id v at), out);
        each = each_set K K s.views id w r.each knows (λ j u other x. x);
      }

  -- the views change and the seats that are made, and neither words nor the slot
  pub regrouped : (s : Table S L G) (r : Rule s) (views : List (View L G)) (made : ℕ)
      (owner : ℕ → ℕ) → r.tickets + lefts views ≡ sum (take made terms.budgets) → r.made ≤ made
      → made ≤ length terms.budgets → Has lines basis room terms r.log made views r.content
      → ((j : ℕ) (u : View L G) → get_elem? views j ≡ some u
      → Knows seat_of terms r.log made owner r.tickets r.holder j u u.stage)
      → Rule record { words = s.words; homes = s.homes; views = views }
  regrouped s r views made owner left_is more few slot each = record {
    log = r.log;
    tickets = r.tickets;
    made = made;
    owner = owner;
    holder = r.holder;
    content = r.content;
    words_are = r.words_are;
    homes_are = r.homes_are;
    left_is = left_is;
    small = r.small;
    roomy = r.roomy;
    behind = r.behind;
    few = few;
    unmade = λ number h. r.unmade number (omega arith);
    slot = slot;
    each = each;
  }

  pub draws : (slots id : ℕ) (m : SeatState S L G) → m.0.stage ≡ Idle → m.0.ended ≡ []
      → 0 < m.0.left → Allows Rule slots id m 0 (λ n. (n + 1) % 2 ^ 64)
      (Draws (step slots 0 1 0 none) m)
  draws slots id m idle none_ended some_left s r _ at _ =
      let v : View L G = m.0 in
      let seat : IsSeat seat_of terms r.log r.made r.owner id v = known s r id v at Idle idle in
      let begun : 0 < r.made = let k = seat.itself.known in omega arith in
      let n : ℕ = slice_index s.words 0 in
      let n_is : n ≡ r.tickets = ap (λ (ws : List ℕ). slice_index ws 0) r.words_are in
      let w : View L G = waiting_view v n in
      let moved : lefts (set s.views id w) + v.left ≡ lefts s.views + (v.left - 1) =
      lefts_set s.views id v w at in
      let part : sum (take r.made terms.budgets) ≤ sum terms.budgets =
      sum_by-take-le (λ x. x) terms.budgets r.made in
      let all_left = r.left_is in
      let small = r.small in
      let behind = r.behind in
      let fits : n + 1 < 2 ^ 64 = omega arith in
      let word : (n + 1) % 2 ^ 64 ≡ r.tickets + 1 =
      mod-eq_of_lt fits ∙ ap (λ (k : ℕ). k + 1) n_is in
      let t : ℕ = r.tickets in (
        w,
        keeps,
        tt,
        record {
          log = r.log;
          tickets = t + 1;
          made = r.made;
          owner = r.owner;
          holder = put r.holder t id;
          content = r.content;
          words_are = ap (λ (ws : List ℕ). slice_set ws 0 ((n + 1) % 2 ^ 64)) r.words_are
              ∙ ap (λ (k : ℕ). k ∷ length r.log ∷ []) word;
          homes_are = r.homes_are;
          left_is = omega arith;
          small = r.small;
          roomy = r.roomy;
          behind = omega arith;
          few = r.few;
          unmade = r.unmade;
          slot = slot_set lines basis room terms r.log r.made s.views id v w at
              (λ out. subst (λ (z : Stage L). IsOut z) idle out) r.content r.slot;
          each = each_set (λ j u. Knows seat_of terms r.log r.made r.owner t r.holder j u u.stage)
              (λ j u. Knows seat_of terms r.log r.made r.owner (t + 1) (put r.holder t id) j u
              u.stage) s.views id w r.each (
                reseated v (Waiting n) (v.left - 1) seat,
                none_ended,
                put_here r.holder t id n n_is,
                omega arith,
                omega arith,
              )
              (λ j u other k. stays seat_of terms r.log r.log r.made r.made r.owner r.owner t
              (t + 1) r.holder (put r.holder t id) j record {
                begun = begun;
                answers = λ number seen mine x. x;
                makes = λ _. refl;
                waits = λ ticket h a b. (
                  put_else r.holder t id ticket (λ e. omega arith)
                      ∙ h,
                  a,
                  omega arith,
                );
                holds = λ h b. (
                  put_else r.holder t id (length r.log) (λ e. omega arith)
                      ∙ h,
                  omega arith,
                  refl,
                );
              } u u.stage k);
        },
        (refl, fits),
      )

  -- the state that the slot has goes to the seat that is served
  serves : (slots : ℕ) (s : Table S L G) (r : Rule s) (id : ℕ) (m : SeatState S L G) (ticket : ℕ)
      → get_elem? s.views id ≡ some m.0 → m.0.stage ≡ Waiting ticket → m.1 ≡ []
      → slice_index s.words 1 ≡ ticket
      → (content : Maybe (Option S)) → s.homes ≡ content ∷ []
      → Has lines basis room terms r.log r.made s.views content
      → (w : View L G) × (a : Act (Option S)) × Valid s.homes m.1 a
      × Rule (stepped s 1 (slice_index s.words 1) id m.1 w a)
      × Looks lines basis room seat_of (step slots 1 0 0 none) m (slice_index s.words 1)
      (w, carried_after m.1 a)
  serves slots s r id m ticket at waits bare here (some None) homes has = let begun =
      (known s r id m.0 at (Waiting ticket) waits).0.itself.known in absurd (omega arith)
  serves slots s r id m ticket at waits bare here none homes has =
      let k = known s r id m.0 at (Waiting ticket) waits in
      let n_is : slice_index s.words 1 ≡ length r.log =
      ap (λ (ws : List ℕ). slice_index ws 1) r.words_are in
      let begun : 0 < r.made = let b = k.0.itself.known in omega arith in
      let alone : r.holder (length r.log) ≡ has.0 =
      out_alone s r has.0 has.1 has.2 begun has.1.stage refl has.3 in
      let same : id ≡ has.0 = sym k.2 ∙ (ap r.holder (sym here ∙ n_is) ∙ alone) in
      absurd (not_out s.views id has.0 m.0 has.1 at has.2
      (λ out. subst (λ (z : Stage L). IsOut z) waits out) has.3 same)
  serves slots s r id m ticket at waits bare here (some (Some y)) homes has =
      let v : View L G = m.0 in
      let k = known s r id v at (Waiting ticket) waits in
      let seat : IsSeat seat_of terms r.log r.made r.owner id v = k.0 in
      let begun : 0 < r.made = has.0 in
      let lines_is : lines y ≡ r.log = has.1 in
      let n_is : slice_index s.words 1 ≡ length r.log =
      ap (λ (ws : List ℕ). slice_index ws 1) r.words_are in
      let count : length r.log ≡ ticket = sym n_is ∙ here in
      let w : View L G = holding_view v (lines y) in
      let part : sum (take r.made terms.budgets) ≤ sum terms.budgets =
      sum_by-take-le (λ x. x) terms.budgets r.made in
      let all_left = r.left_is in
      let roomy = r.roomy in
      let drawn : ticket < r.tickets = k.4 in
      let long : length (lines y) ≡ length r.log = ap length lines_is in
      let room_is : room y ≡ terms.room = has.3 in (
        w,
        takes 0 (Some y),
        ap (λ (hs : List (Maybe (Option S))). get_elem? hs 0) homes,
        taken_out s r id 1 m.1 v w (Some y) at refl tt homes (
          reseated v (Holding (lines y)) v.left seat,
          k.1,
          ap r.holder count ∙ k.2,
          omega arith,
          lines_is,
        ),
        λ t waits_t. let same : t ≡ ticket = cc in (
          (λ _. record {
            state = y;
            terms = terms;
            now = ap (λ (cs : List (ℕ × Option S)). let z : SeatState S L G =
                (w, (0, Some y) ∷ cs) in z) bare;
            count = long ∙ (count ∙ sym same);
            terms_are = seat.terms_are;
            basis_is = has.2;
            room_is = room_is;
            fits = omega arith;
            front = subst (λ (l : List L). IsPrefix v.seen l) (sym lines_is) seat.itself.front;
            whole = ap (of_seat seat_of v.number) lines_is ∙ seat.itself.whole;
            own = seat.itself.own;
          }),
          λ elsewhere. absurd (elsewhere (here ∙ sym same)),
        ),
      )

  -- a look at another ticket changes nothing
  unchanged : (s : Table S L G) (r : Rule s) (id : ℕ) (m : SeatState S L G) → get_elem? s.views id ≡ some m.0
      → Rule (stepped s 1 (slice_index s.words 1) id m.1 m.0 keeps)
  unchanged s r id m at = subst
      (λ (x : List ℕ × List (View L G)). Rule record { words = x.0; homes = s.homes; views = x.1 })
      (λ i. (sym (set-get_or s.words 1 0) i, sym (set_again s.views id m.0 at) i)) r

  pub looks : (slots id : ℕ) (m : SeatState S L G) (ticket : ℕ) → m.0.stage ≡ Waiting ticket
      → m.1 ≡ [] → Allows Rule slots id m 1 (λ n. n)
      (Looks lines basis room seat_of (step slots 1 0 0 none) m)
  looks slots id m ticket waits bare s r _ at _ = dite (ℕ_discrete (slice_index s.words 1) ticket)
      (λ here. serves slots s r id m ticket at waits bare here r.content r.homes_are r.slot)
      (λ elsewhere. (
        m.0,
        keeps,
        tt,
        unchanged s r id m at,
        λ t waits_t. let same : t ≡ ticket =
            cc in ((λ here. absurd (elsewhere (here ∙ same))), λ _. refl),
      ))

  pub passes : (slots id : ℕ) (m : SeatState S L G) (ticket : ℕ)
      → IsTurned lines basis room seat_of ticket m
      → Allows Rule slots id m 1 (λ n. ticket + 1)
      (λ n. Passes lines (step slots 1 (ticket + 1) 0 none) m (ticket + 1))
  passes slots id m ticket t s r _ at _ =
      let v : View L G = m.0 in
      let k = known s r id v at (Holding t.log) t.stage_is in
      let seat : IsSeat seat_of terms r.log r.made r.owner id v = k.0 in
      let begun : 0 < r.made = let b = seat.itself.known in omega arith in
      let drawn : length r.log < r.tickets = k.3 in
      let count : length r.log ≡ ticket = sym (ap length k.4) ∙ t.count in
      let x : L = t.line in
      let after : List L = r.log ++ x ∷ [] in
      let longer : length after ≡ length r.log + 1 = length-append r.log (x ∷ []) in
      let state_lines : lines t.state ≡ after =
      t.lines_are ∙ ap (λ (l : List L). l ++ x ∷ []) k.4 in
      let held : carried_lines lines m.1 ≡ after =
      ap (carried_lines lines) t.carries ∙ state_lines in
      let w : View L G = view_after v (carried_lines lines m.1) in
      let added : w.mine ≡ v.mine ++ x ∷ [] =
      ap (λ (l : List L). v.mine ++ l)
      (ap (λ (z : Stage L). drop (length (served_to z)) (carried_lines lines m.1)) t.stage_is
      ∙ (ap (λ (l : List L). drop (length l) (carried_lines lines m.1)) k.4
      ∙ (ap (drop (length r.log)) held ∙ drop_own r.log x))) in
      let whole : of_seat seat_of v.number after ≡ w.mine =
      of_seat_own seat_of v.number r.log x t.mine
      ∙ (ap (λ (l : List L). l ++ x ∷ []) seat.itself.whole ∙ sym added) in
      let moved : lefts (set s.views id w) + v.left ≡ lefts s.views + v.left =
      lefts_set s.views id v w at in
      let all_left = r.left_is in
      let same_terms : Some t.terms ≡ Some terms = sym t.terms_are ∙ seat.terms_are in
      let terms_is : t.terms ≡ terms = cc in (
        w,
        gives,
        tt,
        record {
          log = after;
          tickets = r.tickets;
          made = r.made;
          owner = r.owner;
          holder = r.holder;
          content = some (Some t.state);
          words_are = ap (λ (ws : List ℕ). slice_set ws 1 (ticket + 1)) r.words_are
              ∙ ap (λ (n : ℕ). r.tickets ∷ n ∷ []) (omega arith);
          homes_are = ap (put_back s.homes) t.carries
              ∙ ap (λ (hs : List (Maybe (Option S))). slice_set hs 0 (some (Some t.state)))
              r.homes_are;
          left_is = omega arith;
          small = r.small;
          roomy = r.roomy;
          behind = omega arith;
          few = r.few;
          unmade = λ number none_yet. let here = seat.itself.known in
              of_seat_other seat_of number r.log x (λ e. let mine = t.mine in omega arith)
              ∙ r.unmade number none_yet;
          slot = (
            begun,
            state_lines,
            t.basis_is ∙ ap (λ (z : Terms G). z.basis) terms_is,
            t.room_is
                ∙ ap (λ (z : Terms G). z.room) terms_is,
          );
          each = each_set (λ j u. Knows seat_of terms r.log r.made r.owner r.tickets r.holder j u
              u.stage) (λ j u. Knows seat_of terms after r.made r.owner r.tickets r.holder j u
              u.stage) s.views id w r.each
              record {
                terms_are = seat.terms_are;
                itself = record {
                  owned = seat.itself.owned;
                  known = seat.itself.known;
                  front =
                      prefix_whole w.seen after held;
                  whole = whole;
                  own =
                      ap (of_seat seat_of v.number) held ∙ whole;
                };
                ended = λ i part e. absurd (some-ne-none part
                    (sym e ∙ ap (λ (l : List (ViewPart L)). get_elem? l i) k.1));
                makes = seat.makes;
              }
              (λ j u other y. stays seat_of terms r.log after r.made r.made r.owner r.owner
              r.tickets r.tickets r.holder r.holder j record {
                begun = begun;
                answers = λ number seen mine a. record {
                  owned = a.owned;
                  known = a.known;
                  front = prefix_more seen r.log x a.front;
                  whole = of_seat_other seat_of number r.log x
                      (λ e. other (sym a.owned ∙ (ap r.owner (sym e ∙ t.mine) ∙ seat.itself.owned)))
                      ∙ a.whole;
                  own = a.own;
                };
                makes = λ _. refl;
                waits = λ n h a b. (
                  h,
                  (let apart : n ≢ length r.log =
                      λ e. other (sym h ∙ (ap r.holder e ∙ k.2)) in omega arith),
                  b,
                );
                holds = λ h b. absurd (other (sym h ∙ k.2));
              } u u.stage y);
        },
        ap (λ (cs : List (ℕ × Option S)). let z : SeatState S L G = (w, rest cs) in z) t.carries,
      )
