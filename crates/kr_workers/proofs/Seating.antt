-- Seats that are given to workers, and taken back.
use Rattle.std.proofs.Common.{◌≡◌, ℕ, zero, suc, ◌<◌, ◌+◌, List, [], ◌∷◌, ◌++◌, length, set, map, get_or, take, drop, drop-cons, append-nil, None, Some, refl, ap, sym, subst, ◌∙◌, arith}
use Rattle.std.specs.Prelude.{All}
use Rattle.std.proofs.lemmas.List.{append_assoc, length-append, length-map, length-take-le, map-append, take_more}
use Rattle.kr_rollout.specs.declared.opening.Entry.{Entry}
use Rattle.kr_rollout.specs.declared.opening.Opening.{Opening}
use Rattle.kr_fleet.specs.declared.shared_core.SharedCore.{SharedCore}
use Rattle.kr_turn.specs.declared.seat.Place.{Place}
use Rattle.kr_workers.specs.declared.worker.Worker.{Worker}
use Rattle.kr_workers.specs.inner.SeatedWorkers.{with_seats, without_seat}

-- a list whose length is one more has a last element
pub record HasLast {X : Type 0} (xs : List X) (n : ℕ) : Type 0 where
  pub front : List X
  pub last : X
  pub parted : xs ≡ front ++ last ∷ []
  pub long : length front ≡ n

pub last_of : {X : Type 0} (xs : List X) (n : ℕ) → length xs ≡ n + 1 → HasLast xs n
last_of (x ∷ []) zero e = record { front = []; last = x; parted = refl; long = refl }
last_of (x ∷ (y ∷ xs)) (suc n) e =
    let h = last_of (y ∷ xs) n (omega (arith, e)) in record {
      front = x ∷ h.front;
      last = h.last;
      parted = ap (λ l. x ∷ l) h.parted;
      long = ap suc h.long;
    }
last_of other n e = absurd (omega (arith, e))

pub set_between : {X : Type 0} (front back : List X) (old new : X)
    → set (front ++ old ∷ back) (length front) new ≡ front ++ new ∷ back
set_between [] back old new = refl
set_between (x ∷ front) back old new = ap (λ l. x ∷ l) (set_between front back old new)

pub get_between : {X : Type 0} (front back : List X) (it d : X)
    → get_or (front ++ it ∷ back) (length front) d ≡ it
get_between [] back it d = refl
get_between (x ∷ front) back it d = get_between front back it d

-- so many seats are still to be given, to the first workers
pub record IsSeating {T L D : Type 0} (seats now : List (Place (SharedCore T) Entry Opening))
    (workers workers_now : List (Worker T L D)) : Type 0 where
  pub given : List (Place (SharedCore T) Entry Opening)
  pub seats_are : seats ≡ now ++ given
  pub front : List (Worker T L D)
  pub back : List (Worker T L D)
  pub workers_are : workers ≡ front ++ back
  pub now_are : workers_now ≡ front ++ with_seats given back
  pub long : length front ≡ length now
  pub as_long : length back ≡ length given

module _ {T L D : Type 0} (seats : List (Place (SharedCore T) Entry Opening))
    (workers : List (Worker T L D)) where
  pub none_seated : length seats ≡ length workers → IsSeating seats seats workers workers
  none_seated same = record {
    given = [];
    seats_are = sym (append-nil seats);
    front = workers;
    back = [];
    workers_are = sym (append-nil workers);
    now_are = sym (append-nil workers);
    long = sym same;
    as_long = refl;
  }

-- ---- the next seat, from the last on

module _ {T L D : Type 0} (seats : List (Place (SharedCore T) Entry Opening))
    (workers : List (Worker T L D)) (none : All (λ (w : Worker T L D). w.seat ≡ None) workers)
    (now rest : List (Place (SharedCore T) Entry Opening))
    (seat : Place (SharedCore T) Entry Opening)
    (workers_now : List (Worker T L D)) (s : IsSeating seats now workers workers_now)
    (last : now ≡ rest ++ seat ∷ []) where
  behind : HasLast s.front (length rest)
  behind = last_of s.front (length rest)
      (s.long ∙ ap length last ∙ length-append rest (seat ∷ []))

  now_is : workers_now ≡ behind.front ++ behind.last ∷ with_seats s.given s.back
  now_is = s.now_are ∙ ap (λ l. l ++ with_seats s.given s.back) behind.parted
      ∙ append_assoc behind.front (behind.last ∷ []) (with_seats s.given s.back)

  were : workers ≡ behind.front ++ behind.last ∷ s.back
  were = s.workers_are ∙ ap (λ l. l ++ s.back) behind.parted
      ∙ append_assoc behind.front (behind.last ∷ []) s.back

  at_is : (d : Worker T L D) → get_or workers_now (length rest) d ≡ behind.last
  at_is d = (λ i. get_or (now_is i) (sym behind.long i) d)
      ∙ get_between behind.front (with_seats s.given s.back) behind.last d

  was : (d : Worker T L D) → get_or workers (length rest) d ≡ behind.last
  was d = (λ i. get_or (were i) (sym behind.long i) d)
      ∙ get_between behind.front s.back behind.last d

  -- it has none yet
  pub there_none : (d : Worker T L D) → (get_or workers_now (length rest) d).seat ≡ None
  there_none d = let e = ap length were in
      let f = length-append behind.front (behind.last ∷ s.back) in
      let g = behind.long in
      ap (λ (w : Worker T L D). w.seat) (at_is d ∙ sym (was d))
      ∙ none (length rest) d (omega (arith, e, f, g))

  pub sit_next : (d : Worker T L D) → IsSeating seats rest workers (set workers_now (length rest)
      (record (get_or workers_now (length rest) d) { seat = Some seat }))
  sit_next d = record {
    given = seat ∷ s.given;
    seats_are = s.seats_are ∙ ap (λ l. l ++ s.given) last
        ∙ append_assoc rest (seat ∷ []) s.given;
    front = behind.front;
    back = behind.last ∷ s.back;
    workers_are = were;
    now_are = (λ i. set (now_is i) (sym behind.long i) (record (at_is d i) { seat = Some seat }))
        ∙ set_between behind.front (with_seats s.given s.back) behind.last
        (record behind.last { seat = Some seat });
    long = behind.long;
    as_long = ap suc s.as_long;
  }

  -- the same of the worker at that place, as a loop has it
  pub none_at : (k : ℕ) (it : Worker T L D) → k ≡ length rest → it ≡ get_or workers_now k it
      → it.seat ≡ None
  none_at k it at is = ap (λ (w : Worker T L D). w.seat) (is ∙ (λ i. get_or workers_now (at i) it))
      ∙ there_none it

  pub sit_at : (k : ℕ) (it new : Worker T L D) → k ≡ length rest → it ≡ get_or workers_now k it
      → new ≡ record it { seat = Some seat }
      → IsSeating seats rest workers (set workers_now k new)
  sit_at k it new at is sits =
      let here = is ∙ (λ i. get_or workers_now (at i) it) in
      let there = sits ∙ (λ i. record (here i) { seat = Some seat }) in
      subst (λ l. IsSeating seats rest workers l) (λ i. set workers_now (sym at i) (sym there i))
      (sit_next it)

-- ---- seats that are taken back, from the first on

-- so many were
pub record IsUnseating {T L D : Type 0} (workers : List (Worker T L D)) (k : ℕ)
    (seats : List (Place (SharedCore T) Entry Opening)) (now : List (Worker T L D))
    : Type 0 where
  pub seats_are : map Some seats ≡ map (λ (w : Worker T L D). w.seat) (take k workers)
  pub now_are : now ≡ map without_seat (take k workers) ++ drop k workers

module _ {T L D : Type 0} (workers : List (Worker T L D)) where
  module _ (k : ℕ) (seats : List (Place (SharedCore T) Entry Opening))
      (now : List (Worker T L D)) (s : IsUnseating workers k seats now)
      (below : k < length workers) where
    front_long : length (map (without_seat {T = T} {L = L} {D = D}) (take k workers)) ≡ k
    front_long = length-map (take k workers) without_seat
        ∙ length-take-le k workers (omega (arith, below))

    here : (d : Worker T L D) → now ≡ map without_seat (take k workers)
        ++ get_or workers k d ∷ drop (suc k) workers
    here d = s.now_are
        ∙ ap (λ l. map without_seat (take k workers) ++ l) (drop-cons workers k d below)

    pub still_is : (d : Worker T L D) → get_or now k d ≡ get_or workers k d
    still_is d = (λ i. get_or (here d i) (sym front_long i) d)
        ∙ get_between (map without_seat (take k workers)) (drop (suc k) workers) (get_or workers k d) d

    pub unseat_next : (d : Worker T L D) (seat : Place (SharedCore T) Entry Opening)
        → (get_or now k d).seat ≡ Some seat
        → IsUnseating workers (k + 1) (seats ++ seat ∷ [])
        (set now k (without_seat (get_or now k d)))
    unseat_next d seat is =
        let w = get_or workers k d in
        let one : suc k ≡ k + 1 = omega arith in
        record {
          seats_are = map-append Some seats (seat ∷ [])
              ∙ (λ i. s.seats_are i ++ sym
              (sym (ap (λ (v : Worker T L D). v.seat) (still_is d)) ∙ is) i ∷ [])
              ∙ sym (map-append (λ (v : Worker T L D). v.seat) (take k workers) (w ∷ []))
              ∙ ap (λ l. map (λ (v : Worker T L D). v.seat) l) (sym (take_more workers k d below));
          now_are = (λ i. set (here d i) (sym front_long i) (without_seat (still_is d i)))
              ∙ set_between (map without_seat (take k workers)) (drop (suc k) workers) w (without_seat w)
              ∙ sym (append_assoc (map without_seat (take k workers)) (without_seat w ∷ [])
              (drop (suc k) workers))
              ∙ (λ i. sym (map-append without_seat (take k workers) (w ∷ [])) i ++ drop (one i) workers)
              ∙ ap (λ l. map without_seat l ++ drop (k + 1) workers)
              (sym (take_more workers k d below));
        }

    -- the same of the worker there, as a loop has it
    pub unseat_at : (it new : Worker T L D) (seat : Place (SharedCore T) Entry Opening)
        (more : List (Place (SharedCore T) Entry Opening)) → it ≡ get_or now k it
        → it.seat ≡ Some seat → new ≡ without_seat it → more ≡ seats ++ seat ∷ []
        → IsUnseating workers (k + 1) more (set now k new)
    unseat_at it new seat more is has stands all =
        let there = stands ∙ ap without_seat is in
        subst (λ l. IsUnseating workers (k + 1) l (set now k new)) (sym all)
        (subst (λ w. IsUnseating workers (k + 1) (seats ++ seat ∷ []) (set now k w)) (sym there)
        (unseat_next it seat (ap (λ (w : Worker T L D). w.seat) (sym is) ∙ has)))
