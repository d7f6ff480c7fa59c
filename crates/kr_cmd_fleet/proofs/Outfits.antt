-- What is around while outfits are out, and what each worker then has of it.
use Rattle.std.proofs.Common.{◌≡◌, ◌≢◌, ℕ, zero, suc, ◌+◌, ◌<◌, List, [], ◌∷◌, length, get_or, Option, Contains, refl, sym, ◌∙◌, ap, subst, arith}
use Rattle.std.specs.Prelude.{true, false, if◌then◌else◌}
use Rattle.std.specs.List.{AllByRecursion, IsDistinct}
use Rattle.std.specs.List.Sorted.{IsStrictlySortedBy}
use Rattle.std.specs.Ordering.{is_lt}
use Rattle.std.specs.Str.{bytes_eq}
use Rattle.std.specs.declared.cmp.Ordering.TheVariants.{Less}
use Rattle.std.proofs.lemmas.List.Elements.{Contains-get_or}
use Rattle.std.proofs.lemmas.Slice.Eq.{bytes_eq-Decides}
use Rattle.kr_config.specs.Kept.{ConfigEntry, plugins_in}
use Rattle.kr_config.specs.Nexts.{name_cmp}
use Rattle.kr_kms.specs.Calls.{Link}
use Rattle.kr_kms.specs.Exchanges.{Exchange}
use Rattle.kr_kms.specs.Outside.{Objects, at_key, same_link, same_seat}
use Rattle.kr_kms.specs.declared.plugin.Status.{Status}
use Rattle.kr_kms.proofs.Lent.{links_decide, seats_decide}
use Rattle.kr_provider.specs.AskedLinks.{AskedOnly}
use Rattle.kr_provider.specs.Names.{AreDistinct, names_of}
use Rattle.kr_provider.specs.PluginOrder.{plugin_order}
use Rattle.kr_provider.proofs.NameOrder.{comes_earlier, not_itself, to_false}
use Rattle.kr_provider.proofs.PluginOrder.{order_ascends}
use Rattle.kr_provider.proofs.AskedLists.{asked_none, asked_then, names_stay}
use Rattle.kr_cmd_steps.specs.Environment.{Environment, AreHome, IsHome, with_exchanges, with_lent}
use Rattle.kr_cmd_fleet.specs.Fleets.{IsEquipped}
use Rattle.kr_cmd_fleet.specs.declared.outfit.Outfit.{Outfit}
use Rattle.kr_cmd_steps.specs.declared.programs.Program.{Program}
use Rattle.kr_cmd_steps.specs.inner.Lent.{lent_links, with_lent_dice, with_lent_links}
use Rattle.kr_cmd_fleet.specs.inner.Outfits.{AreLater, AreNamed, IsLater, with_outfits}
use Rattle.kr_cmd_steps.specs.inner.ProgramNames.{names_in}
use Rattle.kr_cmd_steps.proofs.Lending.{by_key, home_behind}
use Rattle.kr_cmd_steps.proofs.Links.{count_of, told_of}

abbrev pub LinksOf : Type 0
LinksOf = Objects (ℕ × List ℕ) (Option Status)

-- ---- links of one seat, and another seat

module _ {L : Type 0} (link : L → Link) (seat : ℕ) where
  -- links that were asked, over what is at home
  home_asked : (names : List (List ℕ)) (olds news : List L) → AskedOnly link names olds news
      → {x y : LinksOf} → AreHome x y
      → AreHome (lent_links link seat olds x) (lent_links link seat news y)
  home_asked names [] [] a h = h
  home_asked names [] (new ∷ news) a h = absurd a
  home_asked names (old ∷ olds) [] a h = absurd a
  home_asked names (old ∷ olds) (new ∷ news) a {x} {y} h =
      let there = lent_links link seat news y in
      subst (λ name. AreHome (lent_links link seat (old ∷ olds) x)
      (with_lent same_link (seat, name) (link new).status (link new).count there))
      (sym a.0.name)
      (home_behind same_link (seat, (link old).name) (link old).status (link new).status a.0.later
      (home_asked names olds news a.2 h))

  module _ (other : ℕ) (apart : other ≢ seat) where
    skips : {B : Type 0} (first name : List ℕ) (x y : B)
        → (if same_link (seat, first) (other, name) then x else y) ≡ y
    skips first name x y = by_key links_decide (λ b. b ≡ y) (seat, first) (other, name) x y
        (λ e. absurd (apart (sym (ap (λ (key : ℕ × List ℕ). key.0) e)))) (λ n. refl)

    -- a value that each link gives, and goes by the first of the key, is of those behind
    skipped : {V : Type 0} (value : List L → V) (of : L → V) (name : List ℕ)
        → ((first : L) (more : List L) → value (first ∷ more)
        ≡ (if same_link (seat, (link first).name) (other, name) then of first else value more))
        → (links : List L) → value links ≡ value []
    skipped value of name goes [] = refl
    skipped value of name goes (first ∷ more) = goes first more
        ∙ skips (link first).name name (of first) (value more) ∙ skipped value of name goes more

    pub told_apart : (links : List L) (x : LinksOf) (name : List ℕ)
        → (lent_links link seat links x).told (other, name) ≡ x.told (other, name)
    told_apart links x name = skipped (λ ls. (lent_links link seat ls x).told (other, name))
        (λ l. (link l).status) name (λ first more. refl) links

    count_apart : (links : List L) (x : LinksOf) (name : List ℕ)
        → (lent_links link seat links x).faults (other, name) ≡ x.faults (other, name)
    count_apart links x name = skipped (λ ls. (lent_links link seat ls x).faults (other, name))
        (λ l. (link l).count) name (λ first more. refl) links

    pub out_apart : (links : List L) (x : LinksOf) (name : List ℕ)
        → (lent_links link seat links x).out (other, name) ≡ x.out (other, name)
    out_apart [] x name = refl
    out_apart (first ∷ more) x name =
        let none : at_key same_link (seat, (link first).name) 1 (other, name) ≡ 0 =
        skips (link first).name name 1 0 in
        omega (arith, none, out_apart more x name)

-- ---- outfits that became others

module _ {L D : Type 0} (link : L → Link) (left : D → Option (List ℕ)) (count : D → ℕ) where
  pub later_refl : (outfits : List (Outfit L D)) → AreLater link count outfits outfits
  later_refl [] = tt
  later_refl (outfit ∷ outfits) = (
    record {
      links = asked_none link (names_of link outfit.links) outfit.links;
      dice = omega arith;
    },
    later_refl outfits,
  )

  one_later : (a b c : Outfit L D) → IsLater link count a b → IsLater link count b c
      → IsLater link count a c
  one_later a b c p q =
      let names = names_of link a.links in
      let same = names_stay link names a.links b.links p.links in record {
        links = asked_then link names a.links b.links c.links p.links
            (subst (λ n. AskedOnly link n b.links c.links) same q.links);
        dice = omega (arith, p.dice, q.dice);
      }

  pub later_trans : (a b c : List (Outfit L D)) → AreLater link count a b → AreLater link count b c
      → AreLater link count a c
  later_trans [] [] [] p q = tt
  later_trans [] [] (z ∷ c) p q = q
  later_trans (x ∷ a) (y ∷ b) [] p q = absurd q
  later_trans (x ∷ a) (y ∷ b) (z ∷ c) p q =
      (one_later x y z p.0 q.0, later_trans a b c p.1 q.1)
  later_trans other another c p q = absurd p

  pub later_many : (olds news : List (Outfit L D)) → AreLater link count olds news
      → length news ≡ length olds
  later_many [] [] p = refl
  later_many (old ∷ olds) (new ∷ news) p = omega (arith, later_many olds news p.1)
  later_many other another p = absurd p

  named_rest : (names : List (List ℕ)) (outfit : Outfit L D) (outfits : List (Outfit L D))
      → AreNamed link names (outfit ∷ outfits) → AreNamed link names outfits
  named_rest names outfit outfits n = λ k d lt. n (suc k) d (omega (arith, lt))

  named_both : (names : List (List ℕ)) (outfit : Outfit L D) (outfits : List (Outfit L D))
      → names_of link outfit.links ≡ names → AreNamed link names outfits
      → AreNamed link names (outfit ∷ outfits)
  named_both names outfit outfits first rest zero d lt = first
  named_both names outfit outfits first rest (suc k) d lt = rest k d (omega (arith, lt))

  pub later_named : (names : List (List ℕ)) (olds news : List (Outfit L D))
      → AreLater link count olds news → AreNamed link names olds → AreNamed link names news
  later_named names [] [] p n = n
  later_named names (old ∷ olds) (new ∷ news) p n = named_both names new news
      (names_stay link (names_of link old.links) old.links new.links p.0.links
      ∙ n zero old (omega arith))
      (later_named names olds news p.1 (named_rest names old olds n))
  later_named names other another p n = absurd p

  -- ---- what is around them

  -- neither links nor a random source change this part of what is around
  abbrev pub IsBeside : {A : Type 0} → (Environment → A) → Type 0
  IsBeside part = (seat : ℕ) (outfit : Outfit L D) (b : Environment)
      → part (with_lent_links link seat outfit.links
      (with_lent_dice seat (left outfit.dice) (count outfit.dice) b)) ≡ part b

  -- nor do the workers' outfits
  pub outfits_keep : {A : Type 0} (part : Environment → A) → IsBeside part → (seat : ℕ)
      (outfits : List (Outfit L D)) (a : Environment)
      → part (with_outfits link left count seat outfits a) ≡ part a
  outfits_keep part same seat [] a = refl
  outfits_keep part same seat (outfit ∷ outfits) a =
      same seat outfit (with_outfits link left count (seat + 1) outfits a)
      ∙ outfits_keep part same (seat + 1) outfits a

  pub outfits_exchanges : (es : List Exchange) (seat : ℕ) (outfits : List (Outfit L D))
      (a : Environment)
      → with_outfits link left count seat outfits (with_exchanges es a)
      ≡ with_exchanges es (with_outfits link left count seat outfits a)
  outfits_exchanges es seat [] a = refl
  outfits_exchanges es seat (outfit ∷ outfits) a =
      ap (λ b. with_lent_links link seat outfit.links
      (with_lent_dice seat (left outfit.dice) (count outfit.dice) b))
      (outfits_exchanges es (seat + 1) outfits a)

  -- where the workers' outfits are out before and after, all else is at home
  pub outfits_home : (seat : ℕ) (olds news : List (Outfit L D)) → AreLater link count olds news
      → {a b : Environment} → IsHome a b → IsHome (with_outfits link left count seat olds a)
      (with_outfits link left count seat news b)
  outfits_home seat [] [] p h = h
  outfits_home seat (old ∷ olds) (new ∷ news) p h =
      let rest = outfits_home (seat + 1) olds news p.1 h in record {
        files = record { file = rest.files.file; later = rest.files.later };
        dice = home_behind same_seat seat (left old.dice) (left new.dice) p.0.dice rest.dice;
        tapes = rest.tapes;
        links = home_asked link seat (names_of link old.links) old.links new.links p.0.links
            rest.links;
        input = rest.input;
      }
  outfits_home seat other another p h = absurd p

  -- ---- what each worker has

  module _ (a : Environment) where
    -- a value that each outfit gives, and goes by the seat, is that of the seat's outfit
    of_seat : {V : Type 0} (value : ℕ → List (Outfit L D) → ℕ → V) (of : Outfit L D → V)
        → ((seat : ℕ) (first : Outfit L D) (more : List (Outfit L D)) (key : ℕ)
        → value seat (first ∷ more) key
        ≡ (if same_seat seat key then of first else value (seat + 1) more key))
        → (seat at key : ℕ) (outfits : List (Outfit L D)) (o : Outfit L D) → key ≡ seat + at
        → at < length outfits → value seat outfits key ≡ of (get_or outfits at o)
    of_seat value of goes seat at key [] o e lt = absurd (omega (arith, lt))
    of_seat value of goes seat zero key (first ∷ more) o e lt = goes seat first more key
        ∙ by_key seats_decide (λ b. b ≡ of first) seat key (of first) (value (seat + 1) more key)
        (λ same. refl) (λ n. absurd (n (omega (arith, e))))
    of_seat value of goes seat (suc at) key (first ∷ more) o e lt = goes seat first more key
        ∙ by_key seats_decide (λ b. b ≡ of (get_or more at o)) seat key (of first)
        (value (seat + 1) more key) (λ same. absurd (omega (arith, same, e)))
        (λ n. of_seat value of goes (seat + 1) at key more o (omega (arith, e)) (omega (arith, lt)))

    pub dice_told : (seat at key : ℕ) (outfits : List (Outfit L D)) (o : Outfit L D)
        → key ≡ seat + at → at < length outfits
        → (with_outfits link left count seat outfits a).world.dice.told key
        ≡ left (get_or outfits at o).dice
    dice_told = of_seat (λ seat outfits key.
        (with_outfits link left count seat outfits a).world.dice.told key) (λ o. left o.dice)
        (λ seat first more key. refl)

    pub dice_count : (seat at key : ℕ) (outfits : List (Outfit L D)) (o : Outfit L D)
        → key ≡ seat + at → at < length outfits
        → (with_outfits link left count seat outfits a).world.dice.faults key
        ≡ count (get_or outfits at o).dice
    dice_count = of_seat (λ seat outfits key.
        (with_outfits link left count seat outfits a).world.dice.faults key) (λ o. count o.dice)
        (λ seat first more key. refl)

    -- what is told of the link of a seat, and its count of faults
    abbrev Tells : LinksOf → (key : ℕ) → Link → Type 0
    Tells links key it = (links.told (key, it.name) ≡ it.status)
        × (links.faults (key, it.name) ≡ it.count)

    link_there : (seat at key : ℕ) (outfits : List (Outfit L D)) (o : Outfit L D) (it : L)
        → key ≡ seat + at → at < length outfits
        → AreDistinct link (get_or outfits at o).links → Contains (get_or outfits at o).links it
        → Tells (with_outfits link left count seat outfits a).world.links key (link it)
    link_there seat at key [] o it e lt d c = absurd (omega (arith, lt))
    link_there seat zero key (first ∷ more) o it e lt d c =
        let here : seat ≡ key = omega (arith, e) in
        let there = (with_outfits link left count (seat + 1) more a).world.links in
        subst (λ k. Tells (lent_links link seat first.links there) k (link it)) here
        (told_of link seat there first.links it d c, count_of link seat there first.links it d c)
    link_there seat (suc at) key (first ∷ more) o it e lt d c =
        let there = (with_outfits link left count (seat + 1) more a).world.links in
        let apart : key ≢ seat = λ same. omega (arith, same, e) in
        let behind = link_there (seat + 1) at key more o it (omega (arith, e)) (omega (arith, lt))
        d c in (
          told_apart link seat key apart first.links there (link it).name ∙ behind.0,
          count_apart link seat key apart first.links there (link it).name ∙ behind.1,
        )

  -- each worker has its seat's random source and links
  pub outfits_equipped : (programs : List Program) (outfits : List (Outfit L D)) (a : Environment)
      → IsDistinct bytes_eq (names_in programs) → AreNamed link (names_in programs) outfits
      → (at : ℕ) (o : Outfit L D) → at < length outfits
      → IsEquipped link left count programs at (with_outfits link left count 0 outfits a)
      (get_or outfits at o).links (get_or outfits at o).dice
  outfits_equipped programs outfits a distinct named at o lt =
      let here : at ≡ 0 + at = omega arith in
      let its = get_or outfits at o in
      let apart : AreDistinct link its.links =
      subst (IsDistinct bytes_eq) (sym (named at o lt)) distinct in record {
        names = named at o lt;
        links_are = λ k d less. let it = get_or its.links k d in
            let told = link_there a 0 at at outfits o it here lt apart
            (Contains-get_or its.links k d less) in
            λ i. record {
              name = (link it).name;
              count = sym told.1 i;
              status = sym told.0 i;
            };
        left_is = sym (dice_told a 0 at at outfits o here lt);
        count_is = sym (dice_count a 0 at at outfits o here lt);
      }

-- ---- the names of the programs' plugins

none_less : (name : List ℕ) (names : List (List ℕ))
    → AllByRecursion (λ other. name_cmp name other ≡ Less) names
    → AllByRecursion (λ other. bytes_eq name other ≡ false) names
none_less name [] a = tt
none_less name (other ∷ names) a = (
  to_false (bytes_eq name other) (λ same. not_itself name
      (subst (λ n. comes_earlier name n ≡ true) (sym ((bytes_eq-Decides name other).0 same))
      (ap is_lt a.0))),
  none_less name names a.1,
)

differ_in_order : (names : List (List ℕ)) → IsStrictlySortedBy name_cmp names
    → IsDistinct bytes_eq names
unfolding IsDistinct IsStrictlySortedBy
differ_in_order [] s = tt
differ_in_order (name ∷ names) s = (none_less name names s.0, differ_in_order names s.1)

-- they differ
pub names_differ : (programs : List Program) (rows : List ConfigEntry)
    → names_in programs ≡ plugin_order rows → IsDistinct bytes_eq (names_in programs)
names_differ programs rows is = subst (IsDistinct bytes_eq) (sym is)
    (differ_in_order (plugin_order rows) (order_ascends (plugins_in rows)))
