-- What the links of outfits were asked before the workers had them.
use Rattle.std.proofs.Common.{◌≡◌, ℕ, suc, ◌+◌, Bool, List, [], ◌∷◌, ◌++◌, length, Err, Option, refl, sym, ◌∙◌, ap, subst, arith}
use Rattle.std.specs.Prelude.{All}
use Rattle.kr_kms.specs.Calls.{Link}
use Rattle.kr_kms.specs.Exchanges.{Exchange}
use Rattle.kr_base.specs.Walks.{Walk}
use Rattle.kr_base.proofs.Walks.{walk_then}
use Rattle.kr_provider.specs.AskedLinks.{Among}
use Rattle.kr_workers.specs.declared.worker.Worker.{Worker}
use Rattle.kr_cmd_fleet.specs.StartExchanges.{AreOfSeats, AsksFirst, WereAsked, keys_of, links_in}
use Rattle.kr_cmd_messages.specs.declared.refusal.Stop.{Stop}
use Rattle.kr_cmd_steps.specs.Environment.{Environment, with_exchanges}
use Rattle.kr_cmd_steps.specs.Steps.{Steps, hearing}
use Rattle.kr_cmd_steps.specs.inner.Lent.{Name}
use Rattle.kr_cmd_steps.proofs.Hearing.{around_none}
use Rattle.kr_cmd_fleet.specs.FleetFiles.{FleetPlan}
use Rattle.kr_cmd_fleet.specs.Fleets.{Begun}
use Rattle.kr_cmd_fleet.specs.declared.outfit.Outfit.{Outfit}
use Rattle.kr_cmd_fleet.specs.inner.FleetOutcomes.{Beginning, RunsBy}
use Rattle.kr_cmd_fleet.specs.inner.Crews.{outfits_of}
use Rattle.kr_cmd_fleet.specs.inner.Outfits.{OutfitsHanded, links_of}
use Rattle.kr_cmd_fleet.specs.inner.Workings.{AsksOutfits, BeginsLent, StartsLent, StaysIdle, TakesOutfits}
use Rattle.kr_cmd_fleet.specs.declared.fleet.Record.{Record}
use Rattle.kr_kms.specs.Outside.{Outside}
use Rattle.kr_cmd_fleet.proofs.Handed.{With, handed_none, links_long, links_push}
use Rattle.kr_cmd_fleet.proofs.Outfits.{LinksOf}
use Rattle.std.proofs.lemmas.List.Elements.{All-nil}

-- ---- links by seats

module _ {L : Type 0} (Has : ℕ → L → Type 0) where
  -- one more seat has the last number
  pub seats_push : (seat at : ℕ) (front : List (List L)) (last : List L)
      → at ≡ seat + length front → AreOfSeats Has seat front → All (Has at) last
      → AreOfSeats Has seat (front ++ last ∷ [])
  seats_push seat at [] last e are has =
      let here : at ≡ seat = omega (arith, e) in (subst (λ s. All (Has s) last) here has, tt)
  seats_push seat at (links ∷ front) last e are has =
      (are.0, seats_push (suc seat) at front last (omega (arith, e)) are.1 has)

module _ {L D : Type 0} where
  -- one more outfit
  pub outfits_push : (Has : ℕ → L → Type 0) (front more : List (Outfit L D)) (last : Outfit L D)
      (at : ℕ) → more ≡ front ++ last ∷ [] → length front ≡ at → AreOfSeats Has 0 (links_of front)
      → All (Has at) last.links → AreOfSeats Has 0 (links_of more)
  outfits_push Has front more last at is long are has =
      subst (λ os. AreOfSeats Has 0 (links_of os)) (sym is)
      (subst (AreOfSeats Has 0) (sym (links_push front last))
      (seats_push Has 0 at (links_of front) last.links (omega (arith, long, links_long front)) are
      has))

-- ---- one list behind another

pub asks_then : {L : Type 0} (step : L → Exchange → L → Type 0) (es fs : List Exchange)
    (olds mids news : List (List L)) → AsksFirst step es olds mids → AsksFirst step fs mids news
    → AsksFirst step (es ++ fs) olds news
asks_then step es fs olds mids news a b =
    let e : a.new ∷ a.others ≡ b.old ∷ b.others = sym a.news_are ∙ b.olds_are in
    let here : a.new ≡ b.old = cc in
    let there : a.others ≡ b.others = cc in record {
      old = a.old;
      new = b.new;
      others = a.others;
      olds_are = a.olds_are;
      news_are = b.news_are ∙ ap (λ others. b.new ∷ others) (sym there);
      walk = walk_then (Among step) es fs a.old a.new b.new a.walk
          (subst (λ l. Walk (Among step) l fs b.new) (sym here) b.walk);
    }

-- ---- workers with these outfits

module _ {T L D : Type 0} where
  pub workers_links : (workers : List (Worker T L D))
      → links_in workers ≡ links_of (outfits_of workers)
  workers_links [] = refl
  workers_links (worker ∷ workers) = ap (λ l. worker.bench.links ∷ l) (workers_links workers)

  module _ (told : Option (List Exchange)) (es : List Exchange) (outs back : List (Outfit L D))
    where
      pub takes_asks : (heard : Option (List Exchange)) (asked : List Exchange)
          (workers ended : List (Worker T L D))
          → TakesOutfits told es outs back heard asked workers ended
          → AsksOutfits told es (links_of outs) (links_of back) heard asked workers ended
      takes_asks heard asked workers ended k = (
        k.0,
        k.1,
        workers_links workers ∙ ap links_of k.2,
        workers_links ended ∙ ap links_of k.3,
      )

  module _ (told : Option (List Exchange)) (es : List Exchange) (step : L → Exchange → L → Type 0)
      (lent took : ℕ → L → Type 0) (olds begun back : List (List L))
      (given : AreOfSeats lent 0 olds) (asks : AsksFirst step es olds begun)
      (taken : AreOfSeats took 0 back) where
    pub asks_lent : (heard : Option (List Exchange)) (asked : List Exchange)
        (workers ended : List (Worker T L D))
        → AsksOutfits told es begun back heard asked workers ended
        → BeginsLent told es step lent took begun back heard asked workers ended
    asks_lent heard asked workers ended k = (
      k.0,
      k.1,
      record {
        given = olds;
        lent_are = given;
        asks = subst (AsksFirst step es olds) (sym k.2) asks;
        took_are = subst (AreOfSeats took 0) (sym k.3) taken;
      },
      k.2,
      k.3,
    )

-- ---- nothing was asked

module _ {L : Type 0} (link : L → Link) (lent took : ℕ → L → Type 0)
    (step : L → Exchange → L → Type 0) where
  -- no link was handed out
  abbrev pub none_were : {old new : Outside} → new.links ≡ old.links
      → WereAsked link lent took step [] old new
  none_were {old} same = record {
    given = [] ∷ [];
    begun = [] ∷ [];
    back = [] ∷ [];
    handed = ap (λ (o : LinksOf). o.handed) same ∙ handed_none old.links.handed;
    lent_are = (All-nil (lent 0), tt);
    asks = record {
      old = [];
      new = [];
      others = [];
      olds_are = refl;
      news_are = refl;
      walk = refl;
    };
    took_are = (All-nil (took 0), tt);
  }

  -- nor before or behind
  abbrev pub were_within : {es : List Exchange} {old out mid new : Outside} → out.links ≡ old.links
      → new.links ≡ mid.links → WereAsked link lent took step es out mid
      → WereAsked link lent took step es old new
  were_within before behind w = record {
    given = w.given;
    begun = w.begun;
    back = w.back;
    handed = ap (λ (o : LinksOf). o.handed) behind ∙ w.handed
        ∙ ap (λ (o : LinksOf). With (keys_of link 0 w.given) o.handed) before;
    lent_are = w.lent_are;
    asks = w.asks;
    took_are = w.took_are;
  }

  pub idle_asks : (links : List (List L)) (last : List L)
      → AsksFirst step [] (links ++ last ∷ []) (links ++ last ∷ [])
  idle_asks [] last = record {
    old = last;
    new = last;
    others = [];
    olds_are = refl;
    news_are = refl;
    walk = refl;
  }
  idle_asks (links ∷ others) last = record {
    old = links;
    new = links;
    others = others ++ last ∷ [];
    olds_are = refl;
    news_are = refl;
    walk = refl;
  }

  -- some were, and came back unasked
  abbrev pub idle_were : (links : List (List L)) {old mid new : Outside}
      → OutfitsHanded link lent took old mid links → new.links.handed ≡ mid.links.handed
      → AreOfSeats lent 0 links → AreOfSeats took 0 links
      → WereAsked link lent took step [] old new
  idle_were links h same given taken = let all = links ++ h.lost ∷ [] in record {
    given = all;
    begun = all;
    back = all;
    handed = same ∙ h.handed;
    lent_are = seats_push lent 0 (length links) links h.lost (omega arith) given h.lent_are;
    asks = idle_asks links h.lost;
    took_are = seats_push took 0 (length links) links h.lost (omega arith) taken h.took_are;
  }

-- where links weren't asked, a fleet that ran so, whatever is said of its workers, started from
-- none
pub not_started : (T : Type 0) {L D : Type 0} (link : L → Link)
    (step : L → Exchange → L → Type 0) (lent took : ℕ → L → Type 0)
    (left : D → Option (List ℕ)) (count : D → ℕ) (watched : Bool) (plan : FleetPlan)
    (steps : Name → Steps Begun) (old new : Name → Environment → Environment) (stop : Stop) (world : Outside)
    → ((Begins : Beginning T L D) (name : Name) (a : Environment)
    → RunsBy T link step left count Begins watched (steps name) name plan (old name a)
    (new name a) (Err stop))
    → StartsLent link lent took step world world (λ es begun back.
    StaysIdle {A = Record} (Err stop) begun back
    × ((name : Name) (a : Environment) → RunsBy T link step left count
    (BeginsLent (hearing es a.heard) es step lent took begun back) watched (steps name) name plan
    (old name a) (new name (with_exchanges es a)) (Err stop)))
not_started T {L} link step lent took left count watched plan steps old new stop world ends =
    record {
      exchanges = [];
      asked = none_were link lent took step refl;
      done = (
        refl,
        λ name a.
            let none : List (List L) = [] ∷ [] in
            let Begins = BeginsLent (hearing [] a.heard) [] step lent took none none in
            subst (λ b. RunsBy T link step left count Begins watched (steps name) name plan
            (old name a) (new name b) (Err stop)) (sym (around_none a)) (ends Begins name a),
      );
    }
