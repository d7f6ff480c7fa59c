-- What a core is started with, and the hands that its seats begin with.
use Rattle.std.proofs.Common.{◌≡◌, ℕ, zero, suc, ◌+◌, ◌-◌, ◌<◌, ◌≤◌, Bool, true, false, not, List, [], ◌∷◌, ◌++◌, length, map, get_or, drop, take, Option, None, Some, refl, sym, ap, subst, ◌∙◌, arith}
use Rattle.std.specs.Prelude.{sum, slice_get, Result, Ok, Err, IfOk, ◌&&◌, IfSome}
use Rattle.std.specs.List.{list_all}
use Rattle.std.proofs.lemmas.List.Elements.{All-cons, All-nil}
use Rattle.std.proofs.lemmas.List.{drop_all, length-map, map-append, take_all}
use Rattle.std.proofs.lemmas.List.Sums.{sum_by-cons}
use Rattle.std.proofs.lemmas.Option.{none-some, same_Some}
use Rattle.kr_base.specs.Lines.{of_seat}
use Rattle.kr_provider.specs.Publication.{Publication, names_plugin}
use Rattle.kr_rollout.specs.declared.opening.Opening.{Opening}
use Rattle.kr_opening.specs.declared.opening_board.StartNo.{StartNo}
use Rattle.kr_rollout.specs.Entries.{seat_of}
use Rattle.kr_rollout.specs.Openings.{NamesAmong, AreAmong}
use Rattle.kr_history.specs.Acting.{Caller, only_caller}
use Rattle.kr_rollout.specs.Cores.{CoreState}
use Rattle.kr_rollout.specs.CoreStarts.{Starts}
use Rattle.test_rollout.specs.declared.hand.Hand.{Hand}
use Rattle.test_rollout.specs.Hands.{AreHands, IsHand, IsNew, fresh, is_bare}
use Rattle.test_rollout.proofs.Hands.{plain_names}

-- ---- no plugin is named

not_true : (b : Bool) → not b ≡ true → b ≡ false
not_true true e = absurd (cc)
not_true false e = refl

both_left : (a b : Bool) → (a && b) ≡ true → a ≡ true
both_left true b e = refl
both_left false b e = absurd (cc)

both_right : (a b : Bool) → (a && b) ≡ true → b ≡ true
both_right true b e = e
both_right false b e = absurd (cc)

bare_names : (replica : Option Publication) → is_bare replica ≡ true
    → IfSome replica (λ p. NamesAmong [] p.rows)
bare_names None e = tt
bare_names (Some p) e = plain_names [] p.rows (not_true (names_plugin p.rows) e)

pub bare_among : (replicas : List (Option Publication)) → list_all is_bare replicas ≡ true
    → AreAmong [] replicas
bare_among [] e = All-nil (λ replica. IfSome replica (λ p. NamesAmong [] p.rows))
bare_among (replica ∷ replicas) e =
    All-cons (λ replica. IfSome replica (λ p. NamesAmong [] p.rows)) replica replicas
    (bare_names replica (both_left (is_bare replica) (list_all is_bare replicas) e))
    (bare_among replicas (both_right (is_bare replica) (list_all is_bare replicas) e))

-- ---- the begin

fresh_at : (o : Opening) (seat replicas left : ℕ) → get_or o.reloads seat 0 ≡ left
    → replicas ≡ length o.replicas → IsHand o seat [] (fresh replicas left)
fresh_at o seat replicas left e r = record {
  held = refl;
  found = refl;
  left = omega (arith, e);
  replicas = r;
}

fresh_there : (replicas : ℕ) (reloads : List ℕ) (seat : ℕ) (hand : Hand)
    → slice_get (map (fresh replicas) reloads) seat ≡ Some hand
    → hand ≡ fresh replicas (get_or reloads seat 0)
fresh_there replicas [] seat hand e = absurd (none-some hand e)
fresh_there replicas (n ∷ reloads) zero hand e = sym (same_Some (fresh replicas n) hand e)
fresh_there replicas (n ∷ reloads) (suc seat) hand e = fresh_there replicas reloads seat hand e

-- how many replicas the new core has
many_are : (replicas : List (Option Publication)) (reloads : List ℕ) (c : CoreState) (many : ℕ)
    → IsNew replicas reloads c → many ≡ length replicas → many ≡ length c.opening.replicas
many_are replicas reloads c many n e = e ∙ ap length (sym n.replicas_are)

pub hands_begin : (replicas : List (Option Publication)) (reloads : List ℕ) (c : CoreState)
    (many : ℕ) (hands : List Hand) → IsNew replicas reloads c → many ≡ length replicas
    → hands ≡ map (fresh many) reloads → AreHands c hands
hands_begin replicas reloads c many hands n e is = record {
  many = ap length is ∙ length-map reloads (fresh many) ∙ ap length (sym n.reloads_are);
  each = λ seat hand there.
      let same = fresh_there many reloads seat hand
      (ap (λ hs. slice_get hs seat) (sym is) ∙ there) in
      subst (λ h. IsHand c.opening seat (of_seat seat_of seat h) hand) (sym n.history)
      (subst (λ x. IsHand c.opening seat [] x) (sym same)
      (fresh_at c.opening seat many (get_or reloads seat 0)
      (ap (λ xs. get_or xs seat 0) n.reloads_are) (many_are replicas reloads c many n e)));
}

-- ---- an only caller

pub own_begin : (replicas : List (Option Publication)) (reloads : List ℕ) (c : CoreState)
    → IsNew replicas reloads c → of_seat seat_of 0 c.history ≡ c.history
own_begin replicas reloads c n =
    subst (λ h. of_seat seat_of 0 h ≡ h) (sym n.history) refl

pub seat_begin : (replicas : List (Option Publication)) (reloads : List ℕ) (c : CoreState)
    → IsNew replicas reloads c → 1 ≤ length reloads → 0 < length c.opening.reloads
seat_begin replicas reloads c n l =
    subst (λ xs. 0 < length xs) (sym n.reloads_are) (omega (arith, l))

hand_begin : (replicas : List (Option Publication)) (reloads : List ℕ) (c : CoreState)
    (many left : ℕ) → IsNew replicas reloads c → many ≡ length replicas
    → left ≡ get_or reloads 0 0
    → IsHand c.opening 0 c.history (fresh many left)
hand_begin replicas reloads c many left n e f =
    subst (λ h. IsHand c.opening 0 h (fresh many left)) (sym n.history)
    (fresh_at c.opening 0 many left (ap (λ xs. get_or xs 0 0) n.reloads_are ∙ sym f)
    (many_are replicas reloads c many n e))

pub alone_begin : (replicas : List (Option Publication)) (reloads : List ℕ) (c : CoreState)
    (solo : Caller) (many left : ℕ) → IsNew replicas reloads c → many ≡ length replicas
    → left ≡ get_or reloads 0 0 → solo ≡ only_caller c
    → IsHand solo.opening solo.seat solo.mine (fresh many left)
alone_begin replicas reloads c solo many left n e f is =
    subst (λ (x : Caller). IsHand x.opening x.seat x.mine (fresh many left)) (sym is)
    (hand_begin replicas reloads c many left n e f)

-- ---- a core that begins

pub new_core : {S : Type 0} (o : Opening) (room : ℕ) (replicas : List (Option Publication))
    (reloads : List ℕ) (result : Result CoreState (StartNo × S)) → o.replicas ≡ replicas
    → o.reloads ≡ reloads → Starts o room result
    → IfOk result (λ core. IsNew replicas reloads core)
new_core o room replicas reloads (Err refused) e f s = tt
new_core o room replicas reloads (Ok core) e f s = record {
  history = ap (λ (c : CoreState). c.history) s.1;
  replicas_are = ap (λ (c : CoreState). c.opening.replicas) s.1 ∙ e;
  reloads_are = ap (λ (c : CoreState). c.opening.reloads) s.1 ∙ f;
}

-- ---- loops

take_more : (xs : List ℕ) (i : ℕ) → i < length xs
    → take (suc i) xs ≡ take i xs ++ get_or xs i 0 ∷ []
take_more [] i l = absurd (omega (arith, l))
take_more (x ∷ xs) zero l = refl
take_more (x ∷ xs) (suc i) l = ap (λ ys. x ∷ ys) (take_more xs i (omega (arith, l)))

-- what is left is enough for the numbers still to come, so the room is for all
pub record IsWithin (numbers : List ℕ) (room left i : ℕ) : Type 0 where
  pub is : sum (drop i numbers) ≤ left → sum numbers ≤ room

drop_sum : (numbers : List ℕ) (i : ℕ) → i < length numbers
    → sum (drop i numbers) ≡ get_or numbers i 0 + sum (drop (suc i) numbers)
drop_sum [] i l = absurd (omega (arith, l))
drop_sum (n ∷ numbers) zero l = sum_by-cons (λ (k : ℕ). k) n numbers
drop_sum (n ∷ numbers) (suc i) l = drop_sum numbers i (omega (arith, l))

pub within_begin : (numbers : List ℕ) (room : ℕ) → IsWithin numbers room room 0
within_begin numbers room = record { is = λ h. h }

pub within_more : (numbers : List ℕ) (room left i n : ℕ) → IsWithin numbers room left i
    → i < length numbers → n ≡ get_or numbers i 0 → n ≤ left
    → IsWithin numbers room (left - n) (i + 1)
within_more numbers room left i n w l e f =
    let one : i + 1 ≡ suc i = omega arith in record {
      is = λ h. w.is (omega (
        arith,
        e,
        f,
        drop_sum numbers i l,
        subst (λ k. sum (drop k numbers) ≤ left - n) one h,
      ));
    }

pub within_end : (numbers : List ℕ) (room left i : ℕ) → IsWithin numbers room left i
    → i ≡ length numbers → sum numbers ≤ room
within_end numbers room left i w e =
    w.is (subst (λ xs. sum xs ≤ left) (sym (drop_all i numbers (omega (arith, e)))) (omega arith))

-- a hand for each of the first ones
pub record AreFresh (replicas : ℕ) (reloads : List ℕ) (hands : List Hand) (i : ℕ) : Type 0 where
  pub is : hands ≡ map (fresh replicas) (take i reloads)

pub fresh_begin : (replicas : ℕ) (reloads : List ℕ) → AreFresh replicas reloads [] 0
fresh_begin replicas reloads = record { is = refl }

pub fresh_more : (replicas : ℕ) (reloads : List ℕ) (hands : List Hand) (i n : ℕ)
    → AreFresh replicas reloads hands i → i < length reloads → n ≡ get_or reloads i 0
    → AreFresh replicas reloads (hands ++ fresh replicas n ∷ []) (i + 1)
fresh_more replicas reloads hands i n f l e =
    let one : suc i ≡ i + 1 = omega arith in record {
      is = ap (λ hs. hs ++ fresh replicas n ∷ []) f.is
          ∙ ap (λ k. map (fresh replicas) (take i reloads) ++ fresh replicas k ∷ []) e
          ∙ sym (map-append (fresh replicas) (take i reloads) (get_or reloads i 0 ∷ []))
          ∙ ap (map (fresh replicas)) (sym (take_more reloads i l))
          ∙ ap (λ k. map (fresh replicas) (take k reloads)) one;
    }

pub fresh_end : (replicas : ℕ) (reloads : List ℕ) (hands : List Hand) (i : ℕ)
    → AreFresh replicas reloads hands i → i ≡ length reloads
    → hands ≡ map (fresh replicas) reloads
fresh_end replicas reloads hands i f e =
    f.is ∙ ap (map (fresh replicas)) (take_all i reloads (omega (arith, e)))
