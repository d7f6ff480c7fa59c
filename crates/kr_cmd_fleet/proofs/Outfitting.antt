-- How outfits are borrowed, one behind another, and come back.
use Rattle.std.proofs.Common.{◌≡◌, ◌≢◌, ℕ, zero, suc, ◌+◌, ◌<◌, ◌≤◌, ◌⊎◌, List, [], ◌∷◌, ◌++◌, length, get_or, drop, drop-cons, append-nil, Option, Some, Result, Ok, Err, Contains, refl, sym, ◌∙◌, ap, subst, inl, inr, arith}
use Rattle.std.specs.Prelude.{Bool, true, false, ◌==◌, if◌then◌else◌, ◌-◌}
use Rattle.std.proofs.lemmas.Bool.Decides.{Decides-eqb}
use Rattle.std.proofs.lemmas.List.{length_push}
use Rattle.std.specs.Prelude.{All}
use Rattle.std.proofs.lemmas.List.Elements.{All-cons, All-nil, All-pop, All-push, Contains-append_cases}
use Rattle.kr_config.specs.Kept.{ConfigEntry}
use Rattle.kr_kms.specs.Calls.{Link}
use Rattle.kr_kms.specs.Outside.{HandsOut, KeepsFiles, KeepsObjects, Objects, Outside, at_key, file_faults, same_link, same_seat}
use Rattle.kr_kms.specs.declared.world.WorldCall.{WorldCall}
use Rattle.kr_kms.specs.declared.world.WorldCall.TheVariants as calls
use Rattle.kr_kms.proofs.Lent.{links_decide, seats_decide}
use Rattle.kr_provider.specs.Names.{names_of}
use Rattle.kr_provider.specs.PluginOrder.{plugin_order}
use Rattle.kr_cmd_steps.specs.Environment.{Environment, with_lent, with_world}
use Rattle.kr_cmd_fleet.specs.Fleets.{equipping}
use Rattle.kr_cmd_steps.specs.Plugins.{borrow_links_of}
use Rattle.kr_cmd_steps.specs.Steps.{Steps, and_then, borrow_dice, borrow_link, linking, with_asked}
use Rattle.kr_cmd_fleet.specs.declared.outfit.Outfit.{Outfit}
use Rattle.kr_cmd_steps.specs.declared.programs.Program.{Program}
use Rattle.kr_cmd_messages.specs.declared.refusal.Stop.{Stop}
use Rattle.kr_cmd_messages.specs.declared.refusal.Stop.TheVariants.{NoMemory}
use Rattle.kr_cmd_steps.specs.inner.Lent.{Tapes, lent_links, with_lent_dice, with_lent_links, with_tapes}
use Rattle.kr_cmd_fleet.specs.StartExchanges.{keys_at, keys_of}
use Rattle.kr_cmd_fleet.specs.inner.Outfits.{AreNamed, AreOut, IsOut, KeepsOthers, LinksHanded, Opens, OpensLinks, OutfitReturn, OutfitsHanded, equipping_one, links_of, with_outfits}
use Rattle.kr_cmd_steps.specs.inner.ProgramNames.{names_in}
use Rattle.kr_cmd_steps.specs.inner.Phases.{AskedUnless, DiceLoan, Does, LendsNothing, LinkLoan, LinkReturn}
use Rattle.kr_cmd_steps.proofs.Apart.{files_apart, link_apart, link_back_apart, loan_apart, objects_apart}
use Rattle.kr_cmd_steps.proofs.RunTo.{IsSeen, borrowed, dice_seen, given, goes_on, lent_dice, not_linked, not_opened, nothing, reach, seen_home, seen_stays, stops}
use Rattle.kr_cmd_steps.proofs.Lending.{AreSeen, by_key, no_more, seen_behind}
use Rattle.kr_cmd_steps.proofs.Linked.{is_new, links_then, loan_within, one_linked, return_within}
use Rattle.kr_cmd_steps.proofs.Links.{lent_link, link_back, links_seen, seen_links}
use Rattle.kr_cmd_fleet.proofs.Handed.{With, handed_none, handed_then, keys_end, keys_push, lent_handed, links_long, links_push}
use Rattle.kr_cmd_fleet.proofs.Outfits.{LinksOf, out_apart}
use Rattle.kr_cmd_steps.proofs.HeardLinks.{loan_handed}

-- ---- steps

-- all are equipped, and then what follows
pub equipped_then : {A : Type 0} (programs : List Program) (seat seats : ℕ) (next : Steps A)
    → and_then (equipping programs seat seats nothing) (λ u. next)
    ≡ equipping programs seat seats next
equipped_then programs seat zero next = refl
equipped_then programs seat (suc more) next = λ i. borrow_dice seat (
    (links_then seat programs (equipping programs (seat + 1) more nothing) (λ u. next)
    ∙ (λ j. borrow_links_of seat programs (equipped_then programs (seat + 1) more next j))) i)

-- one is equipped, and then what follows
pub one_then : {A : Type 0} (programs : List Program) (seat : ℕ) (next : Steps A)
    → and_then (equipping_one seat programs) (λ u. next)
    ≡ borrow_dice seat (borrow_links_of seat programs next)
one_then programs seat next =
    λ i. borrow_dice seat (links_then seat programs nothing (λ u. next) i)

-- ---- the world while outfits are out

module _ {L D : Type 0} (link : L → Link) (left : D → Option (List ℕ)) (count : D → ℕ) where
  abbrev pub dice_behind : ℕ → List (Outfit L D) → Objects ℕ (Option (List ℕ))
      → Objects ℕ (Option (List ℕ))
  dice_behind seat [] x = x
  dice_behind seat (outfit ∷ outfits) x = with_lent same_seat seat (left outfit.dice)
      (count outfit.dice) (dice_behind (seat + 1) outfits x)

  abbrev pub links_behind : ℕ → List (Outfit L D) → LinksOf → LinksOf
  links_behind seat [] x = x
  links_behind seat (outfit ∷ outfits) x =
      lent_links link seat outfit.links (links_behind (seat + 1) outfits x)

  abbrev pub world_behind : ℕ → List (Outfit L D) → Outside → Outside
  world_behind seat outfits world = record world {
    dice = dice_behind seat outfits world.dice;
    links = links_behind seat outfits world.links;
  }

  pub behind_is : (seat : ℕ) (outfits : List (Outfit L D)) (world : Outside) (a : Environment)
      → with_outfits link left count seat outfits (with_world world a)
      ≡ with_world (world_behind seat outfits world) a
  behind_is seat [] world a = refl
  behind_is seat (outfit ∷ outfits) world a = ap (λ b. with_lent_links link seat outfit.links
      (with_lent_dice seat (left outfit.dice) (count outfit.dice) b))
      (behind_is (seat + 1) outfits world a)

  seen_dice : (seat : ℕ) (outfits : List (Outfit L D)) {x y : Objects ℕ (Option (List ℕ))}
      → AreSeen x y → AreSeen (dice_behind seat outfits x) (dice_behind seat outfits y)
  seen_dice seat [] s = s
  seen_dice seat (outfit ∷ outfits) s = seen_behind same_seat seat (left outfit.dice)
      (no_more (count outfit.dice)) (seen_dice (seat + 1) outfits s)

  seen_links_behind : (seat : ℕ) (outfits : List (Outfit L D)) {x y : LinksOf} → AreSeen x y
      → AreSeen (links_behind seat outfits x) (links_behind seat outfits y)
  seen_links_behind seat [] s = s
  seen_links_behind seat (outfit ∷ outfits) s =
      seen_links link seat outfit.links (seen_links_behind (seat + 1) outfits s)

  -- one more is the last
  pub with_last : (seat at : ℕ) (front : List (Outfit L D)) (last : Outfit L D) (a : Environment)
      → at ≡ seat + length front → with_outfits link left count seat (front ++ last ∷ []) a
      ≡ with_outfits link left count seat front (with_outfits link left count at (last ∷ []) a)
  with_last seat at [] last a e =
      ap (λ s. with_outfits link left count s (last ∷ []) a) (omega (arith, e))
  with_last seat at (outfit ∷ front) last a e = ap (λ b. with_lent_links link seat outfit.links
      (with_lent_dice seat (left outfit.dice) (count outfit.dice) b))
      (with_last (seat + 1) at front last a (omega (arith, e)))

  module _ (front : List (Outfit L D)) where
    abbrev Before : Outside → Outside
    Before world = world_behind 0 front world

    seen_within : {call : WorldCall} {old new : Outside} → IsSeen call old new
        → IsSeen call (Before old) (Before new)
    seen_within s = record {
      files = record { file = s.files.file; later = s.files.later };
      asked = s.asked;
      dice = seen_dice 0 front s.dice;
      tapes = s.tapes;
      links = seen_links_behind 0 front s.links;
    }

    files_within : {old new : Outside} → KeepsFiles old new → KeepsFiles (Before old) (Before new)
    files_within h = record { file = h.file; later = h.later }

    objects_within : {old new : Outside} → KeepsObjects old new
        → KeepsObjects (Before old) (Before new)
    objects_within h = record {
      dice = ap (dice_behind 0 front) h.dice;
      tapes = h.tapes;
      links = ap (links_behind 0 front) h.links;
    }

    does_within : {A : Type 0} {step : Steps A} {result : Result A Stop} (old new : Outside)
        (a : Environment) → Does step (with_world (Before old) a) (with_world (Before new) a) result
        → Does step (with_outfits link left count 0 front (with_world old a))
        (with_outfits link left count 0 front (with_world new a)) result
    does_within {step = step} {result} old new a d =
        subst (λ b. Does step b (with_outfits link left count 0 front (with_world new a)) result)
        (sym (behind_is 0 front old a))
        (subst (λ b. Does step (with_world (Before old) a) b result)
        (sym (behind_is 0 front new a)) d)

    -- ---- a random source

    pub dice_borrowed : (seat : ℕ) {old out : Outside} (given : Option (List ℕ)) (n : ℕ)
        (a : Environment) → DiceLoan seat old out given n
        → Does (borrow_dice seat nothing) (with_outfits link left count 0 front (with_world old a))
        (with_outfits link left count 0 front (with_world (dice_seen seat given n out) a)) (Ok tt)
    dice_borrowed seat {old} {out} given n a loan = does_within old (dice_seen seat given n out) a
        (borrowed (seen_within (lent_dice seat loan)) a (λ l. inr (inr (refl, refl))))

    pub dice_refused : (seat : ℕ) {A : Type 0} {next : Steps A} {old new : Outside} (a : Environment)
        → KeepsFiles old new → KeepsObjects old new → (stop : Stop)
        → LendsNothing old.faults.dice new.faults.dice (file_faults new) stop
        → AskedUnless old.asked new.asked (calls.RandomSource seat) stop
        → Does (borrow_dice seat next) (with_outfits link left count 0 front (with_world old a))
        (with_outfits link left count 0 front (with_world new a)) (Err stop)
    dice_refused seat {old = old} {new} a files objects stop why asked = does_within old new a
        (not_opened {old = Before old} {new = Before new} (files_within files)
        (objects_within objects) a seat stop why asked)

    -- ---- a link of it

    module _ (seat : ℕ) {plugin program : List ℕ} (links : List L) where
      pub link_borrowed : (it : L) {old out : Outside} (a : Environment)
          → LinkLoan seat plugin program old out (link it)
          → Does (borrow_link seat plugin program nothing)
          (with_outfits link left count 0 front (with_world (links_seen link seat links old) a))
          (with_outfits link left count 0 front
          (with_world (links_seen link seat (links ++ it ∷ []) out) a)) (Ok tt)
      link_borrowed it {old} {out} a loan =
          does_within (links_seen link seat links old)
          (links_seen link seat (links ++ it ∷ []) out) a
          (borrowed (seen_within (lent_link link seat links it loan)) a
          (λ l. inr (inr (refl, refl))))

      pub link_refused : {A : Type 0} {next : Steps A} {old new : Outside} (a : Environment)
          → KeepsFiles old new → KeepsObjects old new → (stop : Stop)
          → LendsNothing old.faults.links new.faults.links (file_faults new) stop
          → AskedUnless old.asked new.asked (calls.Link seat plugin program) stop
          → Does (borrow_link seat plugin program next)
          (with_outfits link left count 0 front (with_world (links_seen link seat links old) a))
          (with_outfits link left count 0 front (with_world (links_seen link seat links new) a))
          (Err stop)
      link_refused {old = old} {new} a files objects stop why asked =
          does_within (links_seen link seat links old) (links_seen link seat links new) a
          (not_linked {old = Before (links_seen link seat links old)}
          {new = Before (links_seen link seat links new)}
          (record { file = files.file; later = files.later })
          (record {
            dice = ap (dice_behind 0 front) objects.dice;
            tapes = objects.tapes;
            links = ap (λ x. links_behind 0 front (lent_links link seat links x)) objects.links;
          })
          a seat plugin program stop why asked)

      -- it was handed out, and came back for want of memory
      pub link_lacked : {A : Type 0} {next : Steps A} (it : L) {old out back : Outside} (a : Environment)
          → LinkLoan seat plugin program old out (link it) → LinkReturn seat out back (link it)
          → Does (borrow_link seat plugin program next)
          (with_outfits link left count 0 front (with_world (links_seen link seat links old) a))
          (with_outfits link left count 0 front (with_world (links_seen link seat links back) a))
          (Err NoMemory)
      link_lacked {next = next} it {old} {out} {back} a loan returned =
          let seen = subst (λ w. IsSeen (calls.Link seat plugin program)
          (links_seen link seat links old) w) (link_back link seat links it returned)
          (lent_link link seat links it loan) in
          does_within (links_seen link seat links old) (links_seen link seat links back) a
          (awaited (seen_within seen) a)
        where
          awaited : {x y : Outside} → IsSeen (calls.Link seat plugin program) x y → (b : Environment)
              → Does (borrow_link seat plugin program next) (with_world x b) (with_world y b)
              (Err NoMemory)
          awaited seen b = record {
            home = seen_home seen b;
            ends = λ l s. inl (
              linking seat plugin,
              tt,
              reach (with_asked (calls.Link seat plugin program) l) (inr (inl (refl, refl)))
                  (seen_stays seen b l s),
            );
          }

-- ---- links one behind another

-- ---- what is out of other seats

not_at : (seat other : ℕ) (plugin name : List ℕ) → other ≢ seat
    → at_key same_link (seat, plugin) 1 (other, name) ≡ 0
not_at seat other plugin name n = by_key links_decide (λ (b : ℕ). b ≡ 0) (seat, plugin)
    (other, name) 1 0 (λ e. absurd (n (sym (ap (λ (key : ℕ × List ℕ). key.0) e)))) (λ o. refl)

not_its : (seat other : ℕ) → other ≢ seat → at_key same_seat seat 1 other ≡ 0
not_its seat other n = by_key seats_decide (λ (b : ℕ). b ≡ 0) seat other 1 0
    (λ e. absurd (n (sym e))) (λ o. refl)

at_itself : (key : ℕ × List ℕ) → at_key same_link key 1 key ≡ 1
at_itself key = ap (λ (b : Bool). if b then 1 else 0) ((links_decide key key).1 refl)

pub dice_out : {seat count : ℕ} {old new : Objects ℕ (Option (List ℕ))}
    → HandsOut same_seat old new seat count → 0 < new.out seat
dice_out {seat} h = omega (
  arith,
  h.out seat,
  ap {B = ℕ} (λ (b : Bool). if b then 1 else 0) ((seats_decide seat seat).1 refl),
)

module _ {seat : ℕ} where
  pub others_trans : {a b c : Outside} → KeepsOthers seat a b → KeepsOthers seat b c
      → KeepsOthers seat a c
  others_trans p q = record {
    dice = λ other n. q.dice other n ∙ p.dice other n;
    links = λ other name n. q.links other name n ∙ p.links other name n;
  }

  pub others_same : {old new : Outside} → KeepsObjects old new → KeepsOthers seat old new
  others_same h = record {
    dice = λ other n. ap (λ o. o.out other) h.dice;
    links = λ other name n. ap (λ o. o.out (other, name)) h.links;
  }

  pub others_linked : {plugin program : List ℕ} {old new : Outside} {it : Link}
      → LinkLoan seat plugin program old new it → KeepsOthers seat old new
  others_linked {plugin} h = record {
    dice = λ other n. ap (λ o. o.out other) h.dice;
    links = λ other name n. omega (
      arith,
      h.out.out (other, name),
      not_at seat other plugin name n,
    );
  }

  pub others_unlinked : {old new : Outside} {it : Link} → LinkReturn seat old new it
      → KeepsOthers seat old new
  others_unlinked {it = it} h = record {
    dice = λ other n. ap (λ o. o.out other) h.dice;
    links = λ other name n. omega (
      arith,
      h.home.out (other, name),
      not_at seat other it.name name n,
    );
  }

  pub others_lent : {old new : Outside} {left : Option (List ℕ)} {count : ℕ}
      → DiceLoan seat old new left count → KeepsOthers seat old new
  others_lent h = record {
    dice = λ other n. omega (arith, h.out.out other, not_its seat other n);
    links = λ other name n. ap (λ o. o.out (other, name)) h.links;
  }

  pub others_back : {L D : Type 0} (link : L → Link) (left : D → Option (List ℕ))
      (count : D → ℕ) {old new : Outside} (outfit : Outfit L D)
      → OutfitReturn link left count seat old new outfit → KeepsOthers seat old new
  others_back link left count {old} {new} outfit h = record {
    dice = λ other n. ap (λ o. o.out other) h.dice_is
        ∙ (let e : old.dice.out other - at_key same_seat seat 1 other ≡ old.dice.out other =
        omega (arith, not_its seat other n) in e);
    links = λ other name n. ap (λ o. o.out (other, name)) h.links_are
        ∙ out_apart link seat other n outfit.links old.links name;
  }

-- ---- links one behind another

none_left : {X : Type 0} (xs : List X) (n : ℕ) → length xs ≤ n → drop n xs ≡ []
none_left [] zero h = refl
none_left [] (suc n) h = refl
none_left (x ∷ xs) zero h = absurd (omega (arith, h))
none_left (x ∷ xs) (suc n) h = none_left xs n (omega (arith, h))

no_more_names : (names : List (List ℕ)) → names ++ [] ≡ names
no_more_names [] = refl
no_more_names (name ∷ names) = ap (λ l. name ∷ l) (no_more_names names)

pub names_end : {L : Type 0} (link : L → Link) (links : List L) (last : L)
    → names_of link (links ++ last ∷ []) ≡ names_of link links ++ (link last).name ∷ []
names_end link [] last = refl
names_end link (first ∷ links) last = ap (λ l. (link first).name ∷ l) (names_end link links last)

module _ {L D : Type 0} (link : L → Link) (left : D → Option (List ℕ)) (count : D → ℕ)
    (seat : ℕ) (programs : List Program) (first : Outside) where
  -- what is around while these links are out, and a random source
  abbrev Here : D → List (Outfit L D) → Tapes → Environment → List L → Outside → Environment
  Here dice front tapes a links now = with_outfits link left count 0 front
      (with_outfits link left count seat (record { links = links; dice = dice } ∷ [])
      (with_world (with_tapes tapes now) a))

  -- so many of the links were borrowed: what the other steps do completes all of them
  pub record IsLinking (at : ℕ) (now : Outside) (links : List L) : Type 0 where
    pub far : (dice : D) (front : List (Outfit L D)) (tapes : Tapes) (a end : Environment)
        (result : Result (Unit {0}) Stop)
        → Does (borrow_links_of seat (drop at programs) nothing)
        (Here dice front tapes a links now) end result
        → Does (borrow_links_of seat programs nothing) (Here dice front tapes a [] first) end
        result
    pub named : names_of link links ++ names_in (drop at programs) ≡ names_in programs
    pub out : (name : List ℕ) → Contains (names_of link links) name
        → 0 < now.links.out (seat, name)
    pub others : KeepsOthers seat first now
    pub dice : now.dice ≡ first.dice
    pub tapes : now.tapes ≡ first.tapes
    pub handed : now.links.handed ≡ With (keys_at link seat links) first.links.handed

  pub no_link : (links : List L) → links ≡ [] → IsLinking 0 first links
  no_link links none = subst (λ l. IsLinking 0 first l) (sym none) (record {
    far = λ dice front tapes a end result d. d;
    named = refl;
    out = λ name c. absurd (omega (arith, c.1));
    others = record { dice = λ other n. refl; links = λ other name n. refl };
    dice = refl;
    tapes = refl;
    handed = handed_none first.links.handed;
  })

  pub all_opened : (at : ℕ) (now : Outside) (links : List L) → IsLinking at now links
      → length programs ≤ at → OpensLinks link left count seat programs first now links (Ok tt)
  all_opened at now links so h = λ dice front tapes a.
      so.far dice front tapes a (Here dice front tapes a links now) (Ok tt)
      (subst (λ ps. Does (borrow_links_of seat ps nothing) (Here dice front tapes a links now)
      (Here dice front tapes a links now) (Ok tt)) (sym (none_left programs at h))
      (given tt (Here dice front tapes a links now)))

  pub all_named : (at : ℕ) (now : Outside) (links : List L) → IsLinking at now links
      → length programs ≤ at → names_of link links ≡ names_in programs
  all_named at now links so h = sym (no_more_names (names_of link links))
      ∙ ap (λ ps. names_of link links ++ names_in ps) (sym (none_left programs at h)) ∙ so.named

  -- one more link is to be borrowed
  pub record IsTurn (at : ℕ) (now : Outside) (links : List L) (plugin file : List ℕ) : Type 0 where
    pub rows : List ConfigEntry
    pub order : names_in programs ≡ plugin_order rows
    pub so : IsLinking at now links
    pub program : Program
    pub less : at < length programs
    pub is : program ≡ get_or programs at program
    pub plugin_is : plugin ≡ program.plugin
    pub file_is : file ≡ program.file

  module _ {at : ℕ} {now : Outside} {links : List L} {plugin file : List ℕ}
      (turn : IsTurn at now links plugin file) where
    next_program : drop at programs ≡ turn.program ∷ drop (at + 1) programs
    next_program = let one : suc at ≡ at + 1 = omega arith in
        drop-cons programs at turn.program turn.less
        ∙ (λ i. sym turn.is i ∷ drop (one i) programs)

    by_next : {old end : Environment} {result : Result (Unit {0}) Stop}
        → Does (borrow_link seat plugin file
        (borrow_links_of seat (drop (at + 1) programs) nothing)) old end result
        → Does (borrow_links_of seat (drop at programs) nothing) old end result
    by_next {old} {end} {result} d =
        let rest = borrow_links_of seat (drop (at + 1) programs) nothing in
        subst (λ ps. Does (borrow_links_of seat ps nothing) old end result) (sym next_program)
        (subst (λ n. Does (borrow_link seat n turn.program.file rest) old end result)
        turn.plugin_is
        (subst (λ n. Does (borrow_link seat plugin n rest) old end result) turn.file_is d))

    in_order : names_of link links ++ names_in (turn.program ∷ drop (at + 1) programs)
        ≡ plugin_order turn.rows
    in_order = ap (λ ps. names_of link links ++ names_in ps) (sym next_program)
        ∙ turn.so.named ∙ turn.order

    -- a link wasn't handed out
    pub refused_handed : (lent took : ℕ → L → Type 0) (next : Outside) → KeepsObjects now next
        → LinksHanded link lent took seat first next links
    refused_handed lent took next objects = record {
      lost = [];
      handed = ap (λ (o : LinksOf). o.handed) objects.links ∙ turn.so.handed
          ∙ ap (λ l. With (keys_at link seat l) first.links.handed) (sym (append-nil links));
      lent_are = All-nil (lent seat);
      took_are = All-nil (took seat);
    }

    pub refused_link : (next : Outside) → KeepsFiles now next → KeepsObjects now next
        → (stop : Stop)
        → LendsNothing now.faults.links next.faults.links (file_faults next) stop
        → AskedUnless now.asked next.asked (calls.Link seat plugin file) stop
        → OpensLinks link left count seat programs first next links (Err stop)
    refused_link next files objects stop why asked = λ dice front tapes a.
        turn.so.far dice front tapes a (Here dice front tapes a links next) (Err stop)
        (by_next (link_refused link left count front seat links
        {old = dice_seen seat (left dice) (count dice) (with_tapes tapes now)}
        {new = dice_seen seat (left dice) (count dice) (with_tapes tapes next)} a
        (record { file = files.file; later = files.later })
        (record {
          dice = ap (with_lent same_seat seat (left dice) (count dice)) objects.dice;
          tapes = refl;
          links = objects.links;
        })
        stop why asked))

    module _ (it : L) (out : Outside) (loan : LinkLoan seat plugin file now out (link it)) where
      its_name : (link it).name ≡ turn.program.plugin
      its_name = ap (λ l. l.name) loan.link_is ∙ turn.plugin_is

      pub new_name : Contains (names_of link links) (link it).name → ⊥
      new_name =
          is_new link turn.rows links turn.program (drop (at + 1) programs) in_order it its_name

      handed_now : out.links.handed
          ≡ With (keys_at link seat links ++ (seat, (link it).name) ∷ []) first.links.handed
      handed_now = handed_then (keys_at link seat links) ((seat, (link it).name) ∷ [])
          first.links.handed turn.so.handed
          (loan_handed loan)

      pub one_link : (more : List L) → more ≡ links ++ it ∷ [] → IsLinking (at + 1) out more
      one_link more more_is = record {
        far = λ dice front tapes a end result d. turn.so.far dice front tapes a end result
            (by_next (goes_on (borrow_link seat plugin file nothing)
            (λ u. borrow_links_of seat (drop (at + 1) programs) nothing) tt
            (link_borrowed link left count front seat links it a
            (loan_within (left dice) (count dice) (link_apart tapes loan)))
            (subst (λ l. Does (borrow_links_of seat (drop (at + 1) programs) nothing)
            (Here dice front tapes a l out) end result) more_is d)));
        named = one_linked link turn.rows links turn.program (drop (at + 1) programs) in_order it
            its_name more more_is ∙ sym turn.order;
        out = λ name c. stands name (Contains-append_cases (names_of link links)
            ((link it).name ∷ []) name (subst (λ l. Contains l name)
            (ap (names_of link) more_is ∙ names_end link links it) c));
        others = others_trans turn.so.others (others_linked loan);
        dice = loan.dice ∙ turn.so.dice;
        tapes = loan.tapes ∙ turn.so.tapes;
        handed = handed_now ∙ ap (λ keys. With keys first.links.handed)
            (sym (keys_end link seat links it) ∙ ap (keys_at link seat) (sym more_is));
      }
        where
          only : (name : List ℕ) → Contains ((link it).name ∷ []) name → (link it).name ≡ name
          only name (zero, lt, e) = e
          only name (suc k, lt, e) = absurd (omega (arith, lt))

          stands : (name : List ℕ)
              → Contains (names_of link links) name ⊎ Contains ((link it).name ∷ []) name
              → 0 < out.links.out (seat, name)
          stands name (inl c) = omega (arith, turn.so.out name c, loan.out.out (seat, name))
          stands name (inr c) = subst (λ n. 0 < out.links.out (seat, n))
              (sym (ap (λ l. l.name) loan.link_is) ∙ only name c)
              (omega (arith, loan.out.out (seat, plugin), at_itself (seat, plugin)))

      pub is_out : (name : List ℕ) → name ≡ (link it).name → 0 < out.links.out (seat, name)
      is_out name e = subst (λ n. 0 < out.links.out (seat, n))
          (sym (e ∙ ap (λ l. l.name) loan.link_is))
          (omega (arith, loan.out.out (seat, plugin), at_itself (seat, plugin)))

      -- it found no room, and came back
      module _ (again : L) (back : Outside) (returned : LinkReturn seat out back (link again))
          (same : again ≡ it) where
        pub lacked_link : (still : List L) → still ≡ links
            → OpensLinks link left count seat programs first back still (Err NoMemory)
        lacked_link still still_is = subst
            (λ l. OpensLinks link left count seat programs first back l (Err NoMemory))
            (sym still_is) (λ dice front tapes a.
            turn.so.far dice front tapes a (Here dice front tapes a links back) (Err NoMemory)
            (by_next (link_lacked link left count front seat links it
            {old = dice_seen seat (left dice) (count dice) (with_tapes tapes now)} a
            (loan_within (left dice) (count dice) (link_apart tapes loan))
            (return_within (left dice) (count dice) (link_back_apart tapes
            (subst (λ l. LinkReturn seat out back (link l)) same returned))))))

        pub lacked_handed : {lent took : ℕ → L → Type 0} → lent seat it → took seat again
            → (still : List L) → still ≡ links → LinksHanded link lent took seat first back still
        lacked_handed {lent} {took} given taken still still_is = record {
          lost = it ∷ [];
          handed = returned.home.handed ∙ handed_now
              ∙ ap (λ keys. With keys first.links.handed) (sym (keys_end link seat links it)
              ∙ ap (λ l. keys_at link seat (l ++ it ∷ [])) (sym still_is));
          lent_are = All-cons (lent seat) it [] given (All-nil (lent seat));
          took_are = All-cons (took seat) it [] (subst (took seat) same taken)
              (All-nil (took seat));
        }

        pub still_out : (still : List L) → still ≡ links → (name : List ℕ)
            → Contains (names_of link still) name → 0 < back.links.out (seat, name)
        still_out still still_is name c = omega (
          arith,
          turn.so.out name (subst (λ l. Contains (names_of link l) name) still_is c),
          loan.out.out (seat, name),
          returned.home.out (seat, name),
          ap (λ n. at_key same_link (seat, n) 1 (seat, name))
              (ap (λ l. (link l).name) same ∙ ap (λ l. l.name) loan.link_is),
        )

-- ---- outfits one behind another

module _ {L D : Type 0} (link : L → Link) (left : D → Option (List ℕ)) (count : D → ℕ) where
  -- an outfit's random source was borrowed, and its links
  pub equips_one : (seat : ℕ) (programs : List Program) (first mid now : Outside)
      (outfit : Outfit L D) → DiceLoan seat first mid (left outfit.dice) (count outfit.dice)
      → OpensLinks link left count seat programs mid now outfit.links (Ok tt)
      → Opens link left count seat programs first now (Ok outfit)
  equips_one seat programs first mid now outfit loan opens = λ front tapes a.
      goes_on (borrow_dice seat nothing) (λ u. borrow_links_of seat programs nothing) tt
      (dice_borrowed link left count front seat (left outfit.dice) (count outfit.dice) a
      (loan_apart tapes loan)) (opens outfit.dice front tapes a)

  -- it wasn't handed out
  pub refuses_dice : (seat : ℕ) (programs : List Program) (first now : Outside)
      → KeepsFiles first now → KeepsObjects first now → (stop : Stop)
      → LendsNothing first.faults.dice now.faults.dice (file_faults now) stop
      → AskedUnless first.asked now.asked (calls.RandomSource seat) stop
      → Opens link left count seat programs first now (Err stop)
  refuses_dice seat programs first now files objects stop why asked = λ front tapes a.
      dice_refused link left count front seat {old = with_tapes tapes first}
      {new = with_tapes tapes now} a (files_apart tapes files) (objects_apart tapes objects) stop
      why asked

  pub outfit_back : (seat : ℕ) (outfit : Outfit L D) {old new : Outside}
      → OutfitReturn link left count seat old new outfit → (tapes : Tapes) (a : Environment)
      → with_outfits link left count seat (outfit ∷ []) (with_world (with_tapes tapes old) a)
      ≡ with_world (with_tapes tapes new) a
  outfit_back seat outfit h tapes a = λ i. record a {
    world = record {
      file = sym h.file i;
      asked = sym h.asked i;
      faults = sym h.faults i;
      dice = sym h.dice_is i;
      tapes = tapes;
      links = sym h.links_are i;
    };
  }

  -- a link of it wasn't borrowed, and all of it came back
  pub refuses_links : (seat : ℕ) (programs : List Program) (first mid now new : Outside)
      (outfit : Outfit L D) → DiceLoan seat first mid (left outfit.dice) (count outfit.dice)
      → (stop : Stop) → OpensLinks link left count seat programs mid now outfit.links (Err stop)
      → OutfitReturn link left count seat now new outfit
      → Opens link left count seat programs first new (Err stop)
  refuses_links seat programs first mid now new outfit loan stop opens returned =
      λ front tapes a. subst (λ b. Does (equipping_one seat programs)
      (with_outfits link left count 0 front (with_world (with_tapes tapes first) a))
      (with_outfits link left count 0 front b) (Err stop))
      (outfit_back seat outfit returned tapes a)
      (goes_on (borrow_dice seat nothing) (λ u. borrow_links_of seat programs nothing) tt
      (dice_borrowed link left count front seat (left outfit.dice) (count outfit.dice) a
      (loan_apart tapes loan)) (opens outfit.dice front tapes a))

  module _ (programs : List Program) (seats : ℕ) (first : Outside) where
    -- so many outfits were borrowed: what the other steps do completes all of them
    pub record IsOutfitting (at : ℕ) (now : Outside) (outfits : List (Outfit L D)) : Type 0 where
      pub far : (tapes : Tapes) (a end : Environment) (result : Result (Unit {0}) Stop)
          → Does (equipping programs at (seats - at) nothing)
          (with_outfits link left count 0 outfits (with_world (with_tapes tapes now) a)) end
          result
          → Does (equipping programs 0 seats nothing) (with_world (with_tapes tapes first) a) end
          result
      pub many : length outfits ≡ at
      pub named : AreNamed link (names_in programs) outfits
      pub out : AreOut (names_in programs) at now
      pub tapes : now.tapes ≡ first.tapes
      pub handed : now.links.handed ≡ With (keys_of link 0 (links_of outfits)) first.links.handed

    pub no_outfit : (outfits : List (Outfit L D)) → outfits ≡ [] → IsOutfitting 0 first outfits
    no_outfit outfits none = subst (λ os. IsOutfitting 0 first os) (sym none) (record {
      far = λ tapes a end result d. let all : seats - 0 ≡ seats = omega arith in
          subst (λ n. Does (equipping programs 0 n nothing) (with_world (with_tapes tapes first) a)
          end result) all d;
      many = refl;
      named = λ k o lt. absurd (omega (arith, lt));
      out = λ seat lt. absurd (omega (arith, lt));
      tapes = refl;
      handed = handed_none first.links.handed;
    })

    module _ (at : ℕ) (now : Outside) (outfits : List (Outfit L D))
        (so : IsOutfitting at now outfits) where
      pub all_outfits : seats ≤ at → (tapes : Tapes) (a : Environment)
          → Does (equipping programs 0 seats nothing) (with_world (with_tapes tapes first) a)
          (with_outfits link left count 0 outfits (with_world (with_tapes tapes now) a)) (Ok tt)
      all_outfits h tapes a =
          let here = with_outfits link left count 0 outfits
          (with_world (with_tapes tapes now) a) in
          let none : 0 ≡ seats - at = omega (arith, h) in
          so.far tapes a here (Ok tt) (subst (λ n. Does (equipping programs at n nothing) here here
          (Ok tt)) none (given tt here))

      module _ (less : at < seats) (next : Outside) where
        one_more : suc (seats - (at + 1)) ≡ seats - at
        one_more = omega (arith, less)

        by_one : {old end : Environment} {result : Result (Unit {0}) Stop}
            → Does (and_then (equipping_one at programs)
            (λ u. equipping programs (at + 1) (seats - (at + 1)) nothing)) old end result
            → Does (equipping programs at (seats - at) nothing) old end result
        by_one {old} {end} {result} d =
            subst (λ n. Does (equipping programs at n nothing) old end result) one_more
            (subst (λ s. Does s old end result)
            (one_then programs at (equipping programs (at + 1) (seats - (at + 1)) nothing)) d)

        pub one_outfit : (outfit : Outfit L D) (more : List (Outfit L D))
            → more ≡ outfits ++ outfit ∷ []
            → Opens link left count at programs now next (Ok outfit)
            → names_of link outfit.links ≡ names_in programs
            → IsOut (names_in programs) at next → KeepsOthers at now next
            → next.tapes ≡ now.tapes
            → next.links.handed ≡ With (keys_at link at outfit.links) now.links.handed
            → IsOutfitting (at + 1) next more
        one_outfit outfit more more_is opens named out others tapes handed = record {
          far = λ tapes a end result d. so.far tapes a end result (by_one
              (goes_on (equipping_one at programs)
              (λ u. equipping programs (at + 1) (seats - (at + 1)) nothing) tt
              (opens outfits tapes a)
              (subst (λ b. Does (equipping programs (at + 1) (seats - (at + 1)) nothing) b end
              result) (ap (λ os. with_outfits link left count 0 os
              (with_world (with_tapes tapes next) a)) more_is
              ∙ with_last link left count 0 at outfits outfit
              (with_world (with_tapes tapes next) a) (omega (arith, so.many))) d)));
          many = ap length more_is ∙ length_push outfits outfit ∙ ap (λ n. n + 1) so.many;
          named = subst (AreNamed link (names_in programs)) (sym more_is)
              (All-push (λ (o : Outfit L D). names_of link o.links ≡ names_in programs) outfits
              outfit so.named named);
          out = λ seat lt. each seat lt (Decides-eqb seat at).0 (seat == at) refl;
          tapes = tapes ∙ so.tapes;
          handed = handed_then (keys_of link 0 (links_of outfits)) (keys_at link at outfit.links)
              first.links.handed so.handed handed ∙ ap (λ keys. With keys first.links.handed)
              (sym (keys_push link 0 at (links_of outfits) outfit.links
              (omega (arith, so.many, links_long outfits)))
              ∙ ap (keys_of link 0) (sym (ap links_of more_is ∙ links_push outfits outfit)));
        }
          where
            each : (seat : ℕ) → seat < at + 1 → (seat == at ≡ true → seat ≡ at) → (q : Bool)
                → seat == at ≡ q → IsOut (names_in programs) seat next
            each seat lt same true e =
                subst (λ s. IsOut (names_in programs) s next) (sym (same e)) out
            each seat lt same false e =
                let n : seat ≢ at = λ is. absurd (let t : true ≡ false =
                sym ((Decides-eqb seat at).1 is) ∙ e in cc) in
                let was = so.out seat (omega (arith, lt, n)) in record {
                  dice = omega (arith, was.dice, others.dice seat n);
                  links = λ name c. omega (arith, was.links name c, others.links seat name n);
                }

        pub outfit_unhanded : {lent took : ℕ → L → Type 0}
            → LinksHanded link lent took at now next []
            → OutfitsHanded link lent took first next (links_of outfits)
        outfit_unhanded {lent} {took} h =
            let here : at ≡ length (links_of outfits) =
            omega (arith, so.many, links_long outfits) in record {
              lost = h.lost;
              handed = handed_then (keys_of link 0 (links_of outfits)) (keys_at link at h.lost)
                  first.links.handed so.handed h.handed ∙ ap (λ keys. With keys first.links.handed)
                  (sym (keys_push link 0 at (links_of outfits) h.lost (omega (arith, here))));
              lent_are = subst (λ s. All (lent s) h.lost) here h.lent_are;
              took_are = subst (λ s. All (took s) h.lost) here h.took_are;
            }

        pub outfit_refused : (stop : Stop) → Opens link left count at programs now next (Err stop)
            → (tapes : Tapes) (a : Environment) → Does (equipping programs 0 seats nothing)
            (with_world (with_tapes tapes first) a)
            (with_outfits link left count 0 outfits (with_world (with_tapes tapes next) a))
            (Err stop)
        outfit_refused stop opens tapes a = so.far tapes a
            (with_outfits link left count 0 outfits (with_world (with_tapes tapes next) a))
            (Err stop)
            (by_one (stops (equipping_one at programs)
            (λ u. equipping programs (at + 1) (seats - (at + 1)) nothing) stop
            (opens outfits tapes a)))

        pub still_all_out : KeepsOthers at now next → AreOut (names_in programs) at next
        still_all_out others = λ seat lt. let n : seat ≢ at = λ is. omega (arith, is, lt) in
            let was = so.out seat lt in record {
              dice = omega (arith, was.dice, others.dice seat n);
              links = λ name c. omega (arith, was.links name c, others.links seat name n);
            }

  -- ---- they come back

  module _ (names : List (List ℕ)) (first : List (Outfit L D)) (old : Outside) where
    -- these are still out, and the others were given back
    pub record AreClosing (outfits : List (Outfit L D)) (now : Outside) : Type 0 where
      pub back : (tapes : Tapes) (a : Environment)
          → with_outfits link left count 0 first (with_world (with_tapes tapes old) a)
          ≡ with_outfits link left count 0 outfits (with_world (with_tapes tapes now) a)
      pub named : AreNamed link names outfits
      pub out : AreOut names (length outfits) now
      pub tapes : now.tapes ≡ old.tapes
      pub handed : now.links.handed ≡ old.links.handed
      pub few : length outfits ≤ length first

    pub none_closed : AreNamed link names first → AreOut names (length first) old
        → AreClosing first old
    none_closed named out = record {
      back = λ tapes a. refl;
      named = named;
      out = out;
      tapes = refl;
      handed = refl;
      few = omega arith;
    }

    module _ (outfits rest : List (Outfit L D)) (last : Outfit L D) (now : Outside)
        (so : AreClosing outfits now) (is : outfits ≡ rest ++ last ∷ []) where
      one_less : length outfits ≡ length rest + 1
      one_less = ap length is ∙ length_push rest last

      parts : AreNamed link names rest × (names_of link last.links ≡ names)
      parts = All-pop (λ (o : Outfit L D). names_of link o.links ≡ names) outfits rest
          (Some last) is so.named

      pub last_out : IsOut (names_of link last.links) (length rest) now
      last_out = subst (λ ns. IsOut ns (length rest) now) (sym parts.1)
          (so.out (length rest) (omega (arith, one_less)))

      pub one_closed : (new : Outside)
          → OutfitReturn link left count (length rest) now new last → AreClosing rest new
      one_closed new h =
          let others = others_back link left count last h in record {
            back = λ tapes a. so.back tapes a
                ∙ ap (λ os. with_outfits link left count 0 os
                (with_world (with_tapes tapes now) a)) is
                ∙ with_last link left count 0 (length rest) rest last
                (with_world (with_tapes tapes now) a) (omega arith)
                ∙ ap (λ b. with_outfits link left count 0 rest b)
                (outfit_back (length rest) last h tapes a);
            named = parts.0;
            out = λ seat lt. let n : seat ≢ length rest = λ e. omega (arith, e, lt) in
                let was = so.out seat (omega (arith, lt, one_less)) in record {
                  dice = omega (arith, was.dice, others.dice seat n);
                  links = λ name c. omega (arith, was.links name c, others.links seat name n);
                };
            tapes = h.tapes ∙ so.tapes;
            handed = ap (λ (o : LinksOf). o.handed) h.links_are
                ∙ lent_handed link (length rest) last.links now.links ∙ so.handed;
            few = omega (arith, so.few, one_less);
          }

    pub all_closed : (outfits : List (Outfit L D)) (now : Outside) → AreClosing outfits now
        → outfits ≡ [] → (tapes : Tapes) (a : Environment)
        → with_outfits link left count 0 first (with_world (with_tapes tapes old) a)
        ≡ with_world (with_tapes tapes now) a
    all_closed outfits now so none tapes a = so.back tapes a
        ∙ ap (λ os. with_outfits link left count 0 os (with_world (with_tapes tapes now) a)) none
