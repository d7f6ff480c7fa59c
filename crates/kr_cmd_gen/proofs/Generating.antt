-- A load over a store: its workers' random sources stand as if they were those of their seats.
use Rattle.std.proofs.Common.{◌≡◌, ℕ, ◌+◌, List, [], ◌∷◌, ◌++◌, length, map, Option, Result, Ok, Err, refl, sym, ◌∙◌, ap, subst, inl, inr, arith}
use Rattle.std.specs.Prelude.{false}
use Rattle.std.specs.List.{range_with_len}
use Rattle.std.proofs.lemmas.List.{get_or_append_left, length-append, length-map, map-append}
use Rattle.std.proofs.lemmas.List.Elements.{All-append, All-cons, All-head, All-nil, All-tail}
use Rattle.std.proofs.lemmas.List.FromFn.{map-range_with_len_more}
use Rattle.std.proofs.Math.Seq.{get_or-append_seam}
use Rattle.std.proofs.Math.ListN.{get_or}
use Rattle.kr_kms.specs.Calls.{Link}
use Rattle.kr_kms.specs.Exchanges.{Exchange}
use Rattle.kr_kms.specs.Outside.{KeepsFiles, KeepsObjects, Outside}
use Rattle.kr_kms.specs.declared.world.WorldCall.TheVariants.{Tape}
use Rattle.kr_kms.specs.declared.world.Access.{Access}
use Rattle.kr_kms.specs.declared.world.Access.TheVariants.{ToMake}
use Rattle.kr_provider.specs.Names.{names_of}
use Rattle.kr_workload.specs.Streams.{StreamState, link_faults, left_in, worker_dice}
use Rattle.kr_cmd_steps.specs.Environment.{Environment, IsHome, with_world}
use Rattle.kr_cmd_steps.specs.Phases.{tape_for}
use Rattle.kr_cmd_fleet.specs.FleetFiles.{FleetPlan}
use Rattle.kr_cmd_fleet.specs.Fleets.{Begun}
use Rattle.kr_cmd_gen.specs.GeneratedLoads.{LeavesOthers, lent_sources, load_over, streams_of, with_sources, with_streams}
use Rattle.kr_cmd_steps.specs.Steps.{Steps}
use Rattle.kr_cmd_fleet.specs.declared.fleet.Record.{Record}
use Rattle.kr_cmd_fleet.specs.declared.outfit.Outfit.{Outfit}
use Rattle.kr_cmd_messages.specs.declared.refusal.Object.TheVariants.{Store}
use Rattle.kr_cmd_messages.specs.declared.refusal.Stop.{Stop}
use Rattle.kr_cmd_messages.specs.declared.refusal.Stop.TheVariants.{Words, NoMemory}
use Rattle.kr_cmd_fleet.specs.inner.FleetOutcomes.{Anyhow, RunsBy}
use Rattle.kr_cmd_gen.specs.inner.LoadOutcomes.{AreBare, SettlesLoad, sources_in}
use Rattle.kr_cmd_steps.specs.inner.Lent.{with_lent_dice, with_lent_links, with_lent_tape}
use Rattle.kr_cmd_fleet.specs.inner.Outfits.{AreLater, AreNamed, with_outfits}
use Rattle.kr_cmd_steps.specs.inner.Phases.{AskedUnless}
use Rattle.kr_cmd_steps.specs.inner.Tapes.{LentTape, NoTape, ReturnedTape, ReturnsSettled, with_settled}
use Rattle.kr_cmd_fleet.specs.inner.Workings.{Outfits}
use Rattle.kr_cmd_fleet.proofs.SettledRuns.{over_settled}
use Rattle.kr_cmd_steps.proofs.RunTo.{home_refl, reach}
use Rattle.kr_cmd_steps.proofs.Lending.{home_same}
use Rattle.kr_cmd_fleet.proofs.Outfits.{later_named}
use Rattle.kr_cmd_steps.proofs.Tapes.{not_lent}

-- ---- outfits

module _ {L : Type 0} (link : L → Link) where
  outfits_seeded : (seat : ℕ) (outfits : Outfits L StreamState) → AreBare outfits → (a : Environment)
      → with_outfits link left_in link_faults seat outfits a
      ≡ with_world (record a.world {
        dice = lent_sources seat (sources_in outfits) a.world.dice;
      }) a
  outfits_seeded seat [] bare a = refl
  outfits_seeded seat (outfit ∷ outfits) bare a =
      ap (λ links. with_lent_links link seat links (with_lent_dice seat (left_in outfit.dice)
      (link_faults outfit.dice) (with_outfits link left_in link_faults (seat + 1) outfits a)))
      (All-head (λ (o : Outfit L StreamState). o.links ≡ []) outfit outfits bare)
      ∙ ap (with_lent_dice seat (left_in outfit.dice) (link_faults outfit.dice))
      (outfits_seeded (seat + 1) outfits
      (All-tail (λ (o : Outfit L StreamState). o.links ≡ []) outfit outfits bare) a)

  -- with the store's tape
  pub crew_seeded : (name : List ℕ) (told : Option (List ℕ)) (count : ℕ)
      (outfits : Outfits L StreamState) → AreBare outfits → (a : Environment)
      → with_outfits link left_in link_faults 0 outfits (with_lent_tape name told count a)
      ≡ with_lent_tape name told count (with_sources (sources_in outfits) a)
  crew_seeded name told count outfits bare a =
      outfits_seeded 0 outfits bare (with_lent_tape name told count a)

  no_links : (links : List L) → names_of link links ≡ [] → links ≡ []
  no_links [] e = refl
  no_links (first ∷ more) e = absurd (let long = ap length e in omega (arith, long))

  pub bare_named : (outfits : Outfits L StreamState) → AreBare outfits
      → AreNamed link [] outfits
  bare_named outfits bare = λ k d lt. ap (names_of link) (bare k d lt)

  named_bare : (outfits : Outfits L StreamState) → AreNamed link [] outfits → AreBare outfits
  named_bare outfits named = λ k d lt. no_links (get_or outfits k d).links (named k d lt)

  -- those that come back have no links either
  pub later_bare : (olds news : Outfits L StreamState) → AreLater link link_faults olds news
      → AreBare olds → AreBare news
  later_bare olds news later bare = named_bare news
      (later_named link left_in link_faults [] olds news later (bare_named olds bare))

-- ---- the last one

module _ {L : Type 0} (olds news : Outfits L StreamState) (last : Outfit L StreamState)
    (pop : olds ≡ news ++ last ∷ []) (bare : AreBare olds) where
  bare_both : AreBare (news ++ last ∷ [])
  bare_both = subst AreBare pop bare

  pub bare_front : AreBare news
  bare_front = λ k d lt.
      ap (λ (o : Outfit L StreamState). o.links)
      (sym (get_or_append_left news (last ∷ []) d k lt))
      ∙ bare_both k d (omega (arith, lt, length-append news (last ∷ [])))

  pub bare_last : last.links ≡ []
  bare_last =
      ap (λ (o : Outfit L StreamState). o.links) (sym (get_or-append_seam news last [] last))
      ∙ bare_both (length news) last (omega (arith, length-append news (last ∷ [])))

-- ---- one more

pub none_bare : {L : Type 0} (outfits : Outfits L StreamState) → outfits ≡ [] → AreBare outfits
none_bare {L} outfits none = subst (λ (os : Outfits L StreamState). AreBare os) (sym none)
    (All-nil (λ (o : Outfit L StreamState). o.links ≡ []))

module _ {L : Type 0} (outfits more : Outfits L StreamState) (one : Outfit L StreamState)
    (push : more ≡ outfits ++ one ∷ []) where
  pub more_bare : one.links ≡ [] → AreBare outfits → AreBare more
  more_bare none bare = subst (λ (os : Outfits L StreamState). AreBare os) (sym push)
      (All-append (λ (o : Outfit L StreamState). o.links ≡ []) outfits (one ∷ []) bare
      (All-cons (λ (o : Outfit L StreamState). o.links ≡ []) one [] none
      (All-nil (λ (o : Outfit L StreamState). o.links ≡ []))))

  pub more_sources : (seed seat : ℕ) → one.dice ≡ worker_dice seed seat
      → sources_in outfits ≡ map (worker_dice seed) (range_with_len 0 seat)
      → sources_in more ≡ map (worker_dice seed) (range_with_len 0 (seat + 1))
  more_sources seed seat source are = ap (λ (os : Outfits L StreamState). sources_in os) push
      ∙ map-append (λ (o : Outfit L StreamState). o.dice) outfits (one ∷ [])
      ∙ (λ i. are i ++ source i ∷ [])
      ∙ sym (map-range_with_len_more (worker_dice seed) 0 seat seat (omega arith))

-- there are four
pub sources_many : {L : Type 0} (seed : ℕ) (outfits : Outfits L StreamState)
    → sources_in outfits ≡ streams_of seed → length outfits ≡ 4
sources_many {L} seed outfits are =
    sym (length-map outfits (λ (o : Outfit L StreamState). o.dice)) ∙ ap length are

-- ---- the world with sources

abbrev seeded_world : List StreamState → Outside → Outside
seeded_world sources world = record world { dice = lent_sources 0 sources world.dice }

no_tape_seeded : (sources : List StreamState) (old new : Outside) (name : List ℕ)
    (access : Access) (stop : Stop) → NoTape old new name access stop
    → NoTape (seeded_world sources old) (seeded_world sources new) name access stop
no_tape_seeded sources old new name access (Words why) n = n
no_tape_seeded sources old new name access other n = n

module _ (sources : List StreamState) {old new : Outside} where
  lent_seeded : {name : List ℕ} {access : Access} {told : Option (List ℕ)} {count : ℕ}
      → LentTape name access old new told count
      → LentTape name access (seeded_world sources old) (seeded_world sources new) told count
  lent_seeded h = record {
    out = h.out;
    tape = h.tape;
    files = record { file = h.files.file; later = h.files.later };
    asked = h.asked;
    dice = ap (lent_sources 0 sources) h.dice;
    links = h.links;
  }

  back_seeded : {name : List ℕ} {told : Option (List ℕ)} {count : ℕ}
      → ReturnedTape name old new told count
      → ReturnedTape name (seeded_world sources old) (seeded_world sources new) told count
  back_seeded h = record {
    home = h.home;
    tape = h.tape;
    file = h.file;
    faults = h.faults;
    asked = h.asked;
    dice = ap (lent_sources 0 sources) h.dice;
    links = h.links;
  }

settled_seeded : (sources : List StreamState) (old new : Outside) (name : List ℕ)
    (back : Option (List ℕ)) (n : ℕ) (made result : Result Record Stop)
    → ReturnsSettled name Store old new back n made result
    → ReturnsSettled name Store (seeded_world sources old) (seeded_world sources new) back n made
    result
settled_seeded sources old new name back n (Ok made) (Ok x) (same, returned) =
    (same, back_seeded sources {old = with_settled name old} {new = new} returned)
settled_seeded sources old new name back n (Ok made) (Err stop) (later, rose, same, returned) =
    (later, rose, same, back_seeded sources {old = old} {new = new} returned)
settled_seeded sources old new name back n (Err why) result (same, returned) =
    (same, back_seeded sources {old = old} {new = new} returned)

-- ---- what a load over a store gives

module _ (T : Type 0) {L : Type 0} (link : L → Link)
    (step : L → Exchange → L → Type 0) (seed : ℕ) (store : List ℕ) (plan : FleetPlan) where
  abbrev Settles : Steps Begun → (old new : Environment) → Result Record Stop → Type 0
  Settles steps old new result = SettlesLoad T link step seed steps store plan old new result

  -- memory lacked before anything was asked for
  pub load_lacks : (a : Environment) → Settles (load_over store plan) a a (Err NoMemory)
  load_lacks a = (
    streams_of seed,
    inl (record {
      home = home_refl (with_streams seed a);
      ends = λ l s. inr (reach l (inl (refl, refl)) s);
    }),
  )

  module _ {old out : Outside} (steps : Steps Begun) (a : Environment) where
    -- no tape was handed out
    pub load_untaped : (stop : Stop) → KeepsFiles old out → KeepsObjects old out
        → NoTape old out store ToMake stop
        → AskedUnless old.asked out.asked (Tape store ToMake) stop
        → Settles (tape_for store ToMake steps) (with_world old a) (with_world out a) (Err stop)
    load_untaped stop files objects none asked = (
      streams_of seed,
      inl (not_lent (record { file = files.file; later = files.later }) (record {
        dice = ap (lent_sources 0 (streams_of seed)) objects.dice;
        tapes = objects.tapes;
        links = objects.links;
      }) a store ToMake stop (no_tape_seeded (streams_of seed) old out store ToMake stop none)
          asked),
    )

    -- the tape is borrowed for the load, is settled behind it, and comes back
    pub load_taped : {given : Option (List ℕ)} {first : ℕ} (new : Outside)
        (back : Option (List ℕ)) (n : ℕ) (before after : List StreamState)
        (made result : Result Record Stop) → before ≡ streams_of seed
        → LentTape store ToMake old out given first
        → ReturnsSettled store Store out new back n made result
        → RunsBy T link step left_in link_faults (Anyhow T L StreamState) false steps store
        plan
        (with_lent_tape store given first (with_sources before (with_world out a)))
        (with_lent_tape store back n (with_sources after (with_world out a))) made
        → Settles (tape_for store ToMake steps) (with_world old a) (with_world new a) result
    load_taped {given} {first} new back n before after made result whole h returned r = (
      after,
      over_settled T link step left_in link_faults (Anyhow T L StreamState) false store plan
          steps a a (seeded_world (streams_of seed) old) (seeded_world (streams_of seed) out) given
          first
          (seeded_world after out) (seeded_world after new) back n made result
          (lent_seeded (streams_of seed) {old = old} {new = out} h)
          (settled_seeded after out new store back n made result returned)
          (subst (λ sources. RunsBy T link step left_in link_faults (Anyhow T L StreamState)
          false steps store plan
          (with_lent_tape store given first (with_sources sources (with_world out a)))
          (with_lent_tape store back n (with_sources after (with_world out a))) made) whole r),
    )

-- of the world nothing but the tape was used
pub others_stay : {old out : Outside} {name : List ℕ} {given : Option (List ℕ)} {first : ℕ}
    (new : Outside) (back : Option (List ℕ)) (n : ℕ) (made result : Result Record Stop)
    → LentTape name ToMake old out given first
    → ReturnsSettled name Store out new back n made result → LeavesOthers old new
others_stay new back n (Ok m) (Ok x) h (same, returned) =
    record { dice = returned.dice ∙ h.dice; links = returned.links ∙ h.links }
others_stay new back n (Ok m) (Err stop) h (later, rose, same, returned) =
    record { dice = returned.dice ∙ h.dice; links = returned.links ∙ h.links }
others_stay new back n (Err why) result h (same, returned) =
    record { dice = returned.dice ∙ h.dice; links = returned.links ∙ h.links }

-- so all is home that was so as the sources stood among it
pub home_unseeded : (seed : ℕ) (sources : List StreamState) (old new : Environment)
    → LeavesOthers old.world new.world
    → IsHome (with_streams seed old) (with_sources sources new) → IsHome old new
home_unseeded seed sources old new others h = record {
  files = record { file = h.files.file; later = h.files.later };
  dice = home_same others.dice;
  tapes = h.tapes;
  links = home_same others.links;
  input = h.input;
}
