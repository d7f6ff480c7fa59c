-- Links that are borrowed and come back, while others may be out.
use Rattle.std.proofs.Common.{◌≡◌, ℕ, zero, suc, true, false, List, [], ◌∷◌, ◌++◌, Option, Result, Contains, refl, sym, ◌∙◌, ap, subst, inr, arith}
use Rattle.std.specs.List.{AllByRecursion}
use Rattle.std.specs.Prelude.{if◌then◌else◌}
use Rattle.std.specs.Str.{bytes_eq}
use Rattle.std.proofs.lemmas.Map.Keys.{IsDistinct-head, IsDistinct-tail}
use Rattle.std.proofs.lemmas.Slice.Eq.{bytes_eq-Decides}
use Rattle.kr_kms.specs.Calls.{Link}
use Rattle.kr_kms.specs.Outside.{Outside, Objects, HandsOut, same_link}
use Rattle.kr_kms.specs.declared.plugin.Status.{Status}
use Rattle.kr_kms.specs.declared.world.WorldCall.TheVariants as calls
use Rattle.kr_kms.proofs.Lent.{links_decide}
use Rattle.kr_provider.specs.AskedLinks.{AskedOnly}
use Rattle.kr_provider.specs.Names.{AreDistinct, names_of}
use Rattle.kr_cmd_steps.specs.Environment.{Environment, with_world, with_lent}
use Rattle.kr_cmd_steps.specs.Steps.{Steps, borrow_link}
use Rattle.kr_cmd_steps.specs.inner.Lent.{lent_links, with_lent_links}
use Rattle.kr_cmd_steps.specs.inner.Phases.{Does, LinkLoan, LinkReturn}
use Rattle.kr_cmd_messages.specs.declared.refusal.Stop.{Stop}
use Rattle.kr_cmd_steps.proofs.RunTo.{IsSeen, borrowed, goes_on, nothing, one_world}
use Rattle.kr_cmd_steps.proofs.Lending.{AreSeen, back_is, by_key, lent_seen, no_more, seen_behind, seen_same}

abbrev pub LinksOf : Type 0
LinksOf = Objects (ℕ × List ℕ) (Option Status)

-- ---- several that are out

module _ {L : Type 0} (link : L → Link) (seat : ℕ) where
  pub seen_links : {x y : LinksOf} (links : List L) → AreSeen x y
      → AreSeen (lent_links link seat links x) (lent_links link seat links y)
  seen_links [] s = s
  seen_links (first ∷ more) s = seen_behind same_link (seat, (link first).name) (link first).status
      (no_more (link first).count) (seen_links more s)

  pub lent_behind : (links : List L) (last : L) (x : LinksOf)
      → lent_links link seat (links ++ last ∷ []) x
      ≡ lent_links link seat links (lent_links link seat (last ∷ []) x)
  lent_behind [] last x = refl
  lent_behind (first ∷ more) last x =
      ap (with_lent same_link (seat, (link first).name) (link first).status (link first).count)
      (lent_behind more last x)

  -- the world while they are out
  abbrev pub links_seen : List L → Outside → Outside
  links_seen links world = record world { links = lent_links link seat links world.links }

  -- one more is out, behind the others
  pub lent_link : (links : List L) (last : L) {plugin program : List ℕ} {old out : Outside}
      → LinkLoan seat plugin program old out (link last)
      → IsSeen (calls.Link seat plugin program) (links_seen links old)
      (links_seen (links ++ last ∷ []) out)
  lent_link links last {plugin} {program} {old} {out} h =
      let name : (link last).name ≡ plugin = ap (λ l. l.name) h.link_is in
      let status : (link last).status ≡ old.links.told (seat, (link last).name) =
      ap (λ l. l.status) h.link_is ∙ ap (λ n. old.links.told (seat, n)) (sym name) in
      let out_is : HandsOut same_link old.links out.links (seat, (link last).name)
      (link last).count = subst (λ n. HandsOut same_link old.links out.links (seat, n)
      (link last).count) (sym name) h.out in record {
        files = record { file = h.files.file; later = h.files.later };
        asked = h.asked;
        dice = seen_same h.dice;
        tapes = seen_same h.tapes;
        links = subst (λ x. AreSeen (lent_links link seat links old.links) x)
            (sym (lent_behind links last out.links))
            (seen_links links (lent_seen same_link links_decide out_is status));
      }

  -- it comes back
  pub link_back : (links : List L) (last : L) {out new : Outside}
      → LinkReturn seat out new (link last)
      → links_seen (links ++ last ∷ []) out ≡ links_seen links new
  link_back links last {out} {new} h = one_world h.file h.faults h.asked (sym h.dice)
      (sym h.tapes) (lent_behind links last out.links
      ∙ ap (lent_links link seat links) (back_is same_link links_decide h.home h.status_is))

-- a link is borrowed behind others for what follows, and comes back
pub lends_link_to : {L : Type 0} (link : L → Link) (seat : ℕ) {plugin program : List ℕ}
    (olds news : List L) (old new : L) {first out mid back : Outside} (a b : Environment) {B : Type 0}
    {next : Steps B} {result : Result B Stop}
    → LinkLoan seat plugin program first out (link old)
    → LinkReturn seat mid back (link new)
    → Does next (with_lent_links link seat (olds ++ old ∷ []) (with_world out a))
    (with_lent_links link seat (news ++ new ∷ []) (with_world mid b)) result
    → Does (borrow_link seat plugin program next)
    (with_lent_links link seat olds (with_world first a))
    (with_lent_links link seat news (with_world back b)) result
lends_link_to link seat {plugin} {program} olds news old new {first} a b {next = next} {result}
    lent returned works =
    subst (λ w. Does (borrow_link seat plugin program next)
    (with_lent_links link seat olds (with_world first a)) (with_world w b) result)
    (link_back link seat news new returned)
    (goes_on (borrow_link seat plugin program nothing) (λ u. next) tt
    (borrowed (lent_link link seat olds old lent) a (λ l. inr (inr (refl, refl)))) works)

-- ---- links that were asked

module _ {L : Type 0} (link : L → Link) (seat : ℕ) (x : LinksOf) where
  -- what they tell stays, and no count fell
  pub seen_asked : (names : List (List ℕ)) (olds news : List L) → AskedOnly link names olds news
      → AreSeen (lent_links link seat olds x) (lent_links link seat news x)
  seen_asked names [] [] a = seen_same refl
  seen_asked names (old ∷ olds) (new ∷ news) a =
      let there = lent_links link seat news x in
      let first = lent_links link seat (old ∷ olds) x in
      subst (λ name. AreSeen first (with_lent same_link (seat, name) (link new).status
      (link new).count there)) (sym a.0.name)
      (subst (λ status. AreSeen first (with_lent same_link (seat, (link old).name) status
      (link new).count there)) (sym a.0.status)
      (seen_behind same_link (seat, (link old).name) (link old).status a.0.later
      (seen_asked names olds news a.2)))
  seen_asked names other another a = absurd a

-- ---- what is told of one that is out

pub apart : (name : List ℕ) (names : List (List ℕ)) (other : List ℕ)
    → AllByRecursion (λ y. bytes_eq name y ≡ false) names → Contains names other → name ≡ other → ⊥
apart name [] other a c e = omega (arith, c.1)
apart name (first ∷ names) other a (zero, lt, is) e =
    let same = (bytes_eq-Decides name first).1 (e ∙ sym is) in
    absurd (let t : true ≡ false = sym same ∙ a.0 in cc)
apart name (first ∷ names) other a (suc k, lt, is) e =
    apart name names other a.1 (k, omega (arith, lt), is) e

module _ {L : Type 0} (link : L → Link) where
  pub named_there : (links : List L) (it : L) → Contains links it
      → Contains (names_of link links) (link it).name
  named_there [] it c = absurd (omega (arith, c.1))
  named_there (first ∷ more) it (zero, lt, is) = (0, omega arith, ap (λ l. (link l).name) is)
  named_there (first ∷ more) it (suc k, lt, is) =
      let c = named_there more it (k, omega (arith, lt), is) in (suc c.0, omega (arith, c.1), c.2)

  -- a value that each link gives, and goes by the first of the key, is that of the link
  found : {V : Type 0} (seat : ℕ) (value : List L → ℕ × List ℕ → V) (of : L → V)
      → ((first : L) (more : List L) (key : ℕ × List ℕ) → value (first ∷ more) key
      ≡ (if same_link (seat, (link first).name) key then of first else value more key))
      → (links : List L) (it : L) → AreDistinct link links → Contains links it
      → value links (seat, (link it).name) ≡ of it
  found seat value of goes [] it d c = absurd (omega (arith, c.1))
  found seat value of goes (first ∷ more) it d (zero, lt, is) =
      goes first more (seat, (link it).name)
      ∙ by_key links_decide (λ b. b ≡ of it) (seat, (link first).name) (seat, (link it).name)
      (of first) (value more (seat, (link it).name)) (λ same. ap of is)
      (λ n. absurd (n (ap (λ l. (seat, (link l).name)) (sym is))))
  found seat value of goes (first ∷ more) it d (suc k, lt, is) =
      let there : Contains more it = (k, omega (arith, lt), is) in
      goes first more (seat, (link it).name)
      ∙ by_key links_decide (λ b. b ≡ of it) (seat, (link first).name) (seat, (link it).name)
      (of first) (value more (seat, (link it).name))
      (λ same. absurd (apart (link first).name (names_of link more) (link it).name
      (IsDistinct-head bytes_eq (link first).name (names_of link more) d)
      (named_there more it there) (ap (λ (key : ℕ × List ℕ). key.1) same)))
      (λ n. found seat value of goes more it
      (IsDistinct-tail bytes_eq (link first).name (names_of link more) d) there)

  module _ (seat : ℕ) (x : LinksOf) (links : List L) (it : L) (distinct : AreDistinct link links)
      (there : Contains links it) where
    pub told_of : (lent_links link seat links x).told (seat, (link it).name) ≡ (link it).status
    told_of = found seat (λ links key. (lent_links link seat links x).told key)
        (λ l. (link l).status) (λ first more key. refl) links it distinct there

    pub count_of : (lent_links link seat links x).faults (seat, (link it).name) ≡ (link it).count
    count_of = found seat (λ links key. (lent_links link seat links x).faults key)
        (λ l. (link l).count) (λ first more key. refl) links it distinct there
