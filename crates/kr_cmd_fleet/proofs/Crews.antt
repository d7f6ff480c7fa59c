-- Workers that are made one after the other, and let go again; and what they leave.
use Rattle.std.specs.Prelude.{All, Result, Ok, Err, IfOk, OnErr, OnOk, false}
use Rattle.std.specs.Result.{is_err}
use Rattle.std.proofs.Common.{◌≡◌, ℕ, zero, suc, ◌<◌, ◌≤◌, ◌+◌, List, [], ◌∷◌, ◌++◌, length, map, get_or, reverse, append-nil, None, Option, refl, ap, sym, subst, ◌∙◌, arith}
use Rattle.std.proofs.lemmas.Bool.{false≢true}
use Rattle.std.proofs.lemmas.List.{append_assoc, get_or-map, get_or_append_left, get_or_push, length-append, length-map, length-reverse, map-append, reverse-append, reverse-reverse}
use Rattle.std.proofs.lemmas.List.Elements.{All-contains_itself}
use Rattle.kr_kms.specs.Calls.{Link}
use Rattle.kr_kms.specs.Exchanges.{Exchange}
use Rattle.kr_provider.specs.AskedLinks.{AskedOnly}
use Rattle.kr_provider.specs.Names.{names_of}
use Rattle.kr_history.specs.Calls.{AreServed}
use Rattle.kr_rollout.specs.Cores.{CoreState}
use Rattle.kr_rollout.specs.declared.opening.Entry.{Entry}
use Rattle.kr_rollout.specs.declared.opening.Opening.{Opening}
use Rattle.kr_script.specs.declared.script.Part.{Part}
use Rattle.kr_script.specs.declared.told.Told.{Told}
use Rattle.kr_workers.specs.Histories.{IsOneHistory}
use Rattle.kr_workers.specs.Workers.{MayBegin}
use Rattle.kr_workers.specs.declared.files.SettingsFile.{SettingsFile}
use Rattle.kr_workers.specs.declared.worker.Worker.{Worker}
use Rattle.kr_cmd_fleet.specs.declared.outfit.Outfit.{Outfit}
use Rattle.kr_cmd_fleet.specs.inner.Crews.{HiresFirst, IsCrew, IsFresh, outfit_of, outfits_of}
use Rattle.kr_cmd_fleet.specs.inner.Outfits.{AreLater, AreNamed, IsLater}

pub none_long : {X : Type 0} (xs : List X) → length xs ≡ 0 → xs ≡ []
none_long [] e = refl
none_long (x ∷ xs) e = absurd (omega (arith, e))

-- what holds where a result is no error
pub ok_holds : {A E P : Type 0} (result : Result A E) → is_err result ≡ false → OnOk result P → P
ok_holds (Ok done) fine holds = holds
ok_holds (Err why) fine holds = absurd (false≢true (sym fine))

-- the element at a place
at_of : {X : Type 0} (xs : List X) (k : ℕ) → k < length xs → X
at_of [] k l = absurd (omega (arith, l))
at_of (x ∷ xs) zero l = x
at_of (x ∷ xs) (suc k) l = at_of xs k (omega (arith, l))

-- ---- hired

module _ {T L D : Type 0} where
  -- the next part's worker is fresh
  fresh_more : (parts : List Part) (workers : List (Worker T L D)) (part : Part)
      (worker : Worker T L D)
      → ((i : ℕ) (p : Part) (w : Worker T L D) → i < length workers
      → IsFresh (get_or parts i p) (get_or workers i w))
      → length workers < length parts → part ≡ get_or parts (length workers) part
      → IsFresh part worker → (i : ℕ) (p : Part) (w : Worker T L D)
      → i < length (workers ++ worker ∷ [])
      → IsFresh (get_or parts i p) (get_or (workers ++ worker ∷ []) i w)
  fresh_more [] workers part worker before below is own i p w l = absurd (omega (arith, below))
  fresh_more (q ∷ parts) [] part worker before below is own zero p w l =
      subst (λ (r : Part). IsFresh r worker) is own
  fresh_more (q ∷ parts) [] part worker before below is own (suc i) p w l =
      absurd (omega (arith, l))
  fresh_more (q ∷ parts) (v ∷ workers) part worker before below is own zero p w l =
      before 0 p w (omega arith)
  fresh_more (q ∷ parts) (v ∷ workers) part worker before below is own (suc i) p w l =
      fresh_more parts workers part worker (λ j r u k. before (suc j) r u (omega (arith, k)))
      (omega (arith, below)) is own i p w (omega (arith, l))

  pub none_hired : (parts : List Part) (outfits left : List (Outfit L D))
      (workers : List (Worker T L D)) (room : ℕ) → workers ≡ [] → reverse left ≡ outfits
      → HiresFirst parts outfits workers left room
  none_hired parts outfits left workers room none are = record {
    outfits_are = ap (λ (ws : List (Worker T L D)). outfits_of ws ++ reverse left) none ∙ are;
    fresh = λ i p w l. absurd (omega (arith, l, ap length none));
    room_left = omega (arith, ap length none);
  }

  module _ (parts : List Part) (outfits : List (Outfit L D)) (workers : List (Worker T L D))
      (left : List (Outfit L D)) (room : ℕ) (h : HiresFirst parts outfits workers left room) where
    -- as many as there are outfits
    pub hired_long : length workers + length left ≡ length outfits
    hired_long =
        let all = ap length h.outfits_are in
        let parted = length-append (outfits_of workers) (reverse left) in
        let own = length-map workers (outfit_of {T = T} {L = L} {D = D}) in
        let turned = length-reverse left in omega (arith, all, parted, own, turned)

    -- the last outfit that was left has a worker
    pub hired_next : (more : List (Outfit L D)) (outfit : Outfit L D) (worker : Worker T L D)
        (part : Part) (index : ℕ) (workers_now : List (Worker T L D)) (room_now : ℕ)
        → left ≡ more ++ outfit ∷ [] → outfit_of worker ≡ outfit
        → length workers ≡ index → index < length parts → part ≡ get_or parts index part
        → IsFresh part worker → workers_now ≡ workers ++ worker ∷ [] → room_now ≡ room + 1
        → HiresFirst parts outfits workers_now more room_now
    hired_next more outfit worker part index workers_now room_now last has as_many below is own
        now_are room_is =
        let fits = h.room_left in
        let longer = length-append workers (worker ∷ []) in
        subst (λ (ws : List (Worker T L D)). HiresFirst parts outfits ws more room_now)
        (sym now_are) (record {
          outfits_are = ap (λ l. l ++ reverse more) (map-append outfit_of workers (worker ∷ []))
              ∙ append_assoc (outfits_of workers) (outfit_of worker ∷ []) (reverse more)
              ∙ (λ i. outfits_of workers ++ has i ∷ reverse more)
              ∙ ap (λ l. outfits_of workers ++ l) (sym (reverse-append more (outfit ∷ []))
              ∙ ap reverse (sym last))
              ∙ h.outfits_are;
          fresh = fresh_more parts workers part worker h.fresh (omega (arith, as_many, below))
              (is ∙ ap (λ n. get_or parts n part) (sym as_many)) own;
          room_left = omega (arith, fits, longer, room_is);
        })

    -- an outfit that was taken is put back
    pub hired_back : (more left_now : List (Outfit L D)) (outfit back : Outfit L D) (room_now : ℕ)
        → left ≡ more ++ outfit ∷ [] → left_now ≡ more ++ back ∷ [] → back ≡ outfit
        → room_now ≡ room → HiresFirst parts outfits workers left_now room_now
    hired_back more left_now outfit back room_now last now_is same room_is =
        let left_is = now_is ∙ (λ i. more ++ same i ∷ []) ∙ sym last in
        subst (λ l. HiresFirst parts outfits workers l room_now) (sym left_is)
        (subst (λ n. HiresFirst parts outfits workers left n) (sym room_is) h)

    -- none has a seat yet
    pub none_seated : length parts ≡ length outfits
        → All (λ (w : Worker T L D). w.seat ≡ None) workers
    none_seated as_many = λ k d l.
        let long = hired_long in
        (h.fresh k (at_of parts k (omega (arith, l, long, as_many))) d l).no_seat

-- all were hired, or the crew gives back what it has
module _ {T L D : Type 0} (parts : List Part) (outfits turned : List (Outfit L D))
    (workers made : List (Worker T L D)) (left : List (Outfit L D)) (room : ℕ)
    (h : HiresFirst parts (reverse turned) workers left room)
    (is_turned : turned ≡ reverse outfits) (as_many : length outfits ≡ length parts)
    (are : made ≡ workers) where
  in_order : reverse turned ≡ outfits
  in_order = ap reverse is_turned ∙ reverse-reverse outfits

  now : HiresFirst parts outfits made left room
  now = subst (λ (ws : List (Worker T L D)). HiresFirst parts outfits ws left room) (sym are)
      (subst (λ l. HiresFirst parts l workers left room) in_order h)

  pub hired_seats : All (λ (w : Worker T L D). w.seat ≡ None) made
  hired_seats = none_seated parts outfits made left room now (sym as_many)

  pub hired_room : length made ≤ room
  hired_room = now.room_left

  pub hired_long_enough : length made ≤ length parts
  hired_long_enough =
      let long = hired_long parts outfits made left room now in omega (arith, long, as_many)

  pub hired_outfits : outfits_of made ++ reverse left ≡ outfits
  hired_outfits = now.outfits_are

  pub crew_hired : left ≡ [] → IsCrew parts outfits made
  crew_hired none_left =
      let long = hired_long parts outfits made left room now in
      let none = ap length none_left in record {
        outfits_are = sym (append-nil (outfits_of made))
            ∙ ap (λ l. outfits_of made ++ reverse l) (sym none_left)
            ∙ now.outfits_are;
        many = omega (arith, long, none, as_many);
        fresh = λ i p w l. now.fresh i p w (omega (arith, l, long, none, as_many));
      }

-- ---- let go

-- workers that are still to be let go, and what those behind them gave back
pub record LetsRest {T L D : Type 0} (workers : List (Worker T L D)) (first : List (Outfit L D))
    (rest : List (Worker T L D)) (outfits : List (Outfit L D)) (room : ℕ)
    (replies : List (List Told × ℕ)) (reply_room : ℕ) : Type 0 where
  pub outfits_are : outfits ++ reverse (outfits_of rest) ≡ first ++ reverse (outfits_of workers)
  pub replies_are : replies ++ reverse (map (λ (w : Worker T L D). w.told) rest)
      ≡ reverse (map (λ (w : Worker T L D). w.told) workers)
  pub seats : All (λ (w : Worker T L D). w.seat ≡ None) rest
  pub room_left : length rest ≤ room
  pub replies_left : length rest ≤ reply_room

module _ {T L D : Type 0} where
  pub none_let : (workers : List (Worker T L D)) (first : List (Outfit L D))
      (room reply_room : ℕ) (replies : List (List Told × ℕ)) → length replies ≡ 0
      → All (λ (w : Worker T L D). w.seat ≡ None) workers → length workers ≤ room
      → length workers ≤ reply_room
      → LetsRest workers first workers first room replies reply_room
  none_let workers first room reply_room replies none seats fits replies_fit = record {
    outfits_are = refl;
    replies_are =
        ap (λ l. l ++ reverse (map (λ (w : Worker T L D). w.told) workers))
        (none_long replies none);
    seats = seats;
    room_left = fits;
    replies_left = replies_fit;
  }

  module _ (workers : List (Worker T L D)) (first : List (Outfit L D))
      (rest : List (Worker T L D)) (outfits : List (Outfit L D)) (room : ℕ)
      (replies : List (List Told × ℕ)) (reply_room : ℕ)
      (h : LetsRest workers first rest outfits room replies reply_room) where
    module _ (more : List (Worker T L D)) (worker : Worker T L D)
        (last : rest ≡ more ++ worker ∷ []) where
      pub last_seat : worker.seat ≡ None
      last_seat = sym (ap (λ (w : Worker T L D). w.seat)
          (ap (λ ws. get_or ws (length more) worker) last
          ∙ get_or_push more worker worker (length more) refl))
          ∙ h.seats (length more) worker
          (omega (arith, ap length last, length-append more (worker ∷ [])))

      pub let_next : (outfit : Outfit L D) (told : List Told × ℕ)
          (outfits_now : List (Outfit L D)) (replies_now : List (List Told × ℕ))
          (room_now reply_now : ℕ) → outfit ≡ outfit_of worker → told ≡ worker.told
          → outfits_now ≡ outfits ++ outfit ∷ [] → replies_now ≡ replies ++ told ∷ []
          → room_now + 1 ≡ room → reply_now + 1 ≡ reply_room
          → LetsRest workers first more outfits_now room_now replies_now reply_now
      let_next outfit told outfits_now replies_now room_now reply_now own said outfits_is replies_is
          room_is reply_is =
          let fits = h.room_left in
          let replies_fit = h.replies_left in
          let long = ap length last ∙ length-append more (worker ∷ []) in
          let tell = λ (w : Worker T L D). w.told in
          record {
            outfits_are = ap (λ l. l ++ reverse (outfits_of more)) outfits_is
                ∙ append_assoc outfits (outfit ∷ []) (reverse (outfits_of more))
                ∙ (λ i. outfits ++ own i ∷ reverse (outfits_of more))
                ∙ ap (λ l. outfits ++ l)
                (sym (reverse-append (outfits_of more) (outfit_of worker ∷ []))
                ∙ ap reverse (sym (map-append outfit_of more (worker ∷ [])))
                ∙ ap (λ (ws : List (Worker T L D)). reverse (outfits_of ws)) (sym last))
                ∙ h.outfits_are;
            replies_are = ap (λ l. l ++ reverse (map tell more)) replies_is
                ∙ append_assoc replies (told ∷ []) (reverse (map tell more))
                ∙ (λ i. replies ++ said i ∷ reverse (map tell more))
                ∙ ap (λ l. replies ++ l)
                (sym (reverse-append (map tell more) (worker.told ∷ []))
                ∙ ap reverse (sym (map-append tell more (worker ∷ [])))
                ∙ ap (λ (ws : List (Worker T L D)). reverse (map tell ws)) (sym last))
                ∙ h.replies_are;
            seats = λ k d l. sym (ap (λ (w : Worker T L D). w.seat)
                (ap (λ ws. get_or ws k d) last
                ∙ get_or_append_left more (worker ∷ []) d k l))
                ∙ h.seats k d (omega (arith, l, long));
            room_left = omega (arith, fits, long, room_is);
            replies_left = omega (arith, replies_fit, long, reply_is);
          }

    module _ (none : rest ≡ []) where
      pub all_outfits : reverse outfits ≡ outfits_of workers ++ reverse first
      all_outfits = ap reverse (sym (append-nil outfits)
          ∙ ap (λ (ws : List (Worker T L D)). outfits ++ reverse (outfits_of ws)) (sym none)
          ∙ h.outfits_are)
          ∙ reverse-append first (reverse (outfits_of workers))
          ∙ ap (λ l. l ++ reverse first) (reverse-reverse (outfits_of workers))

      pub all_replies : reverse replies ≡ map (λ (w : Worker T L D). w.told) workers
      all_replies = ap reverse (sym (append-nil replies)
          ∙ ap (λ (ws : List (Worker T L D)).
          replies ++ reverse (map (λ (w : Worker T L D). w.told) ws)) (sym none)
          ∙ h.replies_are)
          ∙ reverse-reverse (map (λ (w : Worker T L D). w.told) workers)

-- ---- what workers have in the end

-- no link leads elsewhere, and no count of faults fell
module _ {T L D : Type 0} (link : L → Link) (count : D → ℕ) where
  pub later_each : (olds news : List (Worker T L D)) → length news ≡ length olds
      → ((i : ℕ) (d : Worker T L D) → i < length olds
      → IsLater link count (outfit_of (get_or olds i d)) (outfit_of (get_or news i d)))
      → AreLater link count (outfits_of olds) (outfits_of news)
  later_each [] [] same each = tt
  later_each (old ∷ olds) (new ∷ news) same each = (
    each 0 old (omega arith),
    later_each olds news (omega (arith, same)) (λ i d l. each (suc i) d (omega (arith, l))),
  )
  later_each other another same each = absurd (omega (arith, same))

module _ {T L D : Type 0} (link : L → Link) (step : L → Exchange → L → Type 0)
    (left : D → Option (List ℕ))
    (count : D → ℕ) (files : List SettingsFile) (history : List Entry) (o : Opening)
    (parts : List Part) (budgets : List ℕ) (old new : List (Worker T L D))
    (as_many : length old ≡ length parts)
    (one : IsOneHistory link step left count files history o parts budgets old new) where
  pub workers_later : AreLater link count (outfits_of old) (outfits_of new)
  workers_later = later_each link count old new one.many (λ i d l.
      let inside : i < length parts = omega (arith, l, as_many) in
      let s = one.each i (at_of parts i inside) d inside in record {
        links = subst (λ links. AskedOnly link (names_of link (get_or old i d).bench.links)
            (get_or old i d).bench.links links) (sym s.links_are) s.asked_only;
        dice = subst (λ dice. count (get_or old i d).bench.dice ≤ count dice) (sym s.dice_are)
            s.later;
      })

-- no bench of a crew keeps a seed
pub all_cold : {T L D : Type 0} (parts : List Part) (outfits : List (Outfit L D))
    (workers : List (Worker T L D)) → IsCrew parts outfits workers
    → All (λ (w : Worker T L D). w.bench.cache.rows ≡ []) workers
all_cold parts outfits workers is i d below =
    let within : i < length parts = omega (arith, below, is.many) in
    (is.fresh i (at_of parts i within) d within).cold

-- ---- a crew at a core

module _ {T L D : Type 0} (link : L → Link) (names served : List (List ℕ))
    (parts lent : List Part) (outfits : List (Outfit L D)) (workers : List (Worker T L D))
    (is : IsCrew parts outfits workers) where
  begins : names ≡ served → AreNamed link served (outfits_of workers) → (i : ℕ)
      (part : Part) (worker : Worker T L D) → i < length parts
      → MayBegin link names (get_or parts i part) (get_or workers i worker)
  begins same named i part worker l =
      let f = is.fresh i part worker l in
      let many = is.many in
      let below : i < length workers = omega (arith, l, many) in
      let long = length-map workers (outfit_of {T = T} {L = L} {D = D}) in
      let there = get_or-map outfit_of workers i worker (outfit_of worker) below in
      let own : names_of link (get_or workers i worker).bench.links ≡ names =
      ap (λ (o : Outfit L D). names_of link o.links) (sym there)
      ∙ named i (outfit_of worker) (omega (arith, below, long)) ∙ sym same in record {
        no_seat = f.no_seat;
        none_told = f.none_told;
        room = f.room;
        links = subst (λ linked. AreServed names linked) (sym own) (All-contains_itself names);
        pages = f.pages;
      }

  -- each worker may begin with its part as it was lent, since it has a link to each plugin
  pub may_begin : lent ≡ parts → names ≡ served
      → AreNamed link served (outfits_of workers) → (i : ℕ) (part : Part)
      (worker : Worker T L D) → i < length lent
      → MayBegin link names (get_or lent i part) (get_or workers i worker)
  may_begin same_parts same named =
      subst (λ (ps : List Part). (i : ℕ) (part : Part) (worker : Worker T L D) → i < length ps
      → MayBegin link names (get_or ps i part) (get_or workers i worker))
      (sym same_parts) (begins same named)

module _ {T L D : Type 0} (link : L → Link) (step : L → Exchange → L → Type 0)
    (left : D → Option (List ℕ))
    (count : D → ℕ) (files : List SettingsFile) (o : Opening) (parts : List Part)
    (budgets : List ℕ) (old new : List (Worker T L D)) where
  -- however the fleet ended, there are as many workers
  pub still_many : {E : Type 0} (result : Result CoreState E)
      → IfOk result (λ end. IsOneHistory link step left count files end.history o parts
      budgets
      old new) → OnErr result (new ≡ old) → length new ≡ length old
  still_many (Ok end) one same = one.many
  still_many (Err refused) one same = ap length same

-- the files, the parts and the budgets as they were lent are the plan's
module _ {T L D : Type 0} (link : L → Link) (step : L → Exchange → L → Type 0)
    (left : D → Option (List ℕ))
    (count : D → ℕ) (files lent_files : List SettingsFile) (history : List Entry) (o : Opening)
    (parts lent_parts : List Part) (budgets lent_budgets : List ℕ)
    (old new : List (Worker T L D)) where
  pub one_as_asked : lent_files ≡ files → lent_parts ≡ parts → lent_budgets ≡ budgets
      → IsOneHistory link step left count lent_files history o lent_parts lent_budgets old new
      → IsOneHistory link step left count files history o parts budgets old new
  one_as_asked same_files same_parts same_budgets one =
      subst (λ fs. IsOneHistory link step left count fs history o parts budgets old new)
      same_files
      (subst (λ ps. IsOneHistory link step left count lent_files history o ps budgets old new)
      same_parts
      (subst (λ bs. IsOneHistory link step left count lent_files history o lent_parts bs old
      new)
      same_budgets one))
