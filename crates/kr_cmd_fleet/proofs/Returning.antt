-- Links of a seat that come back one behind another, and then its random source.
use Rattle.std.proofs.Common.{◌≡◌, ℕ, zero, suc, ◌<◌, List, [], ◌∷◌, ◌++◌, Option, Contains, refl, sym, ◌∙◌, ap, subst, arith}
use Rattle.std.specs.Prelude.{false}
use Rattle.std.specs.List.{AllByRecursion, IsDistinct}
use Rattle.std.specs.Str.{bytes_eq}
use Rattle.std.proofs.lemmas.List.Elements.{Contains-append_left, Contains-push}
use Rattle.std.proofs.lemmas.Map.Keys.{IsDistinct-head, IsDistinct-tail}
use Rattle.kr_kms.specs.Calls.{Link}
use Rattle.kr_kms.specs.Outside.{Outside, at_key, same_link, same_seat}
use Rattle.kr_kms.proofs.Lent.{links_decide, seats_decide}
use Rattle.kr_provider.specs.Names.{AreDistinct, names_of}
use Rattle.kr_cmd_steps.specs.Environment.{with_lent}
use Rattle.kr_cmd_fleet.specs.declared.outfit.Outfit.{Outfit}
use Rattle.kr_cmd_steps.specs.inner.Lent.{lent_links}
use Rattle.kr_cmd_fleet.specs.inner.Outfits.{LinksReturn, OutfitReturn}
use Rattle.kr_cmd_steps.specs.inner.Phases.{DiceReturn, LinkReturn}
use Rattle.kr_cmd_steps.proofs.Lending.{back_is, by_key}
use Rattle.kr_cmd_steps.proofs.Links.{apart, lent_behind}
use Rattle.kr_cmd_fleet.proofs.Outfitting.{names_end}

all_less : (x : List ℕ) (ys : List (List ℕ)) (y : List ℕ)
    → AllByRecursion (λ z. bytes_eq x z ≡ false) (ys ++ y ∷ [])
    → AllByRecursion (λ z. bytes_eq x z ≡ false) ys
all_less x [] y a = tt
all_less x (z ∷ ys) y a = (a.0, all_less x ys y a.1)

distinct_less : (xs : List (List ℕ)) (y : List ℕ) → IsDistinct bytes_eq (xs ++ y ∷ [])
    → IsDistinct bytes_eq xs
unfolding IsDistinct
distinct_less [] y d = tt
distinct_less (x ∷ xs) y d = (all_less x xs y d.0, distinct_less xs y d.1)

not_last : (names : List (List ℕ)) (last : List ℕ) → IsDistinct bytes_eq (names ++ last ∷ [])
    → Contains names last → ⊥
not_last [] last d c = omega (arith, c.1)
not_last (first ∷ names) last d (zero, lt, is) = apart first (names ++ last ∷ []) last
    (IsDistinct-head bytes_eq first (names ++ last ∷ []) d) (Contains-push names last) is
not_last (first ∷ names) last d (suc k, lt, is) = not_last names last
    (IsDistinct-tail bytes_eq first (names ++ last ∷ []) d) (k, omega (arith, lt), is)

module _ {L : Type 0} (link : L → Link) (seat : ℕ) (first : List L) (old : Outside) where
  -- these links are still out, and the others were given back
  pub record AreReturning (links : List L) (now : Outside) : Type 0 where
    pub links_are : lent_links link seat links now.links ≡ lent_links link seat first old.links
    pub distinct : AreDistinct link links
    pub out : (name : List ℕ) → Contains (names_of link links) name
        → 0 < now.links.out (seat, name)
    pub file : now.file ≡ old.file
    pub faults : now.faults ≡ old.faults
    pub asked : now.asked ≡ old.asked
    pub tapes : now.tapes ≡ old.tapes
    pub dice : now.dice ≡ old.dice

  pub none_returned : AreDistinct link first → ((name : List ℕ)
      → Contains (names_of link first) name → 0 < old.links.out (seat, name))
      → AreReturning first old
  none_returned distinct out = record {
    links_are = refl;
    distinct = distinct;
    out = out;
    file = refl;
    faults = refl;
    asked = refl;
    tapes = refl;
    dice = refl;
  }

  module _ (links rest : List L) (last : L) (now : Outside) (so : AreReturning links now)
      (is : links ≡ rest ++ last ∷ []) where
    names_are : names_of link links ≡ names_of link rest ++ (link last).name ∷ []
    names_are = ap (names_of link) is ∙ names_end link rest last

    differ : IsDistinct bytes_eq (names_of link rest ++ (link last).name ∷ [])
    differ = subst (IsDistinct bytes_eq) names_are so.distinct

    pub last_link_out : 0 < now.links.out (seat, (link last).name)
    last_link_out = so.out (link last).name (subst (λ ns. Contains ns (link last).name)
        (sym names_are) (Contains-push (names_of link rest) (link last).name))

    pub one_returned : (new : Outside) → LinkReturn seat now new (link last)
        → AreReturning rest new
    one_returned new h = record {
      links_are = sym (lent_behind link seat rest last now.links
          ∙ ap (lent_links link seat rest) (back_is same_link links_decide h.home h.status_is))
          ∙ ap (λ ls. lent_links link seat ls now.links) (sym is) ∙ so.links_are;
      distinct = distinct_less (names_of link rest) (link last).name differ;
      out = λ name c. omega (
        arith,
        so.out name (subst (λ ns. Contains ns name) (sym names_are)
            (Contains-append_left (names_of link rest) ((link last).name ∷ []) name c)),
        h.home.out (seat, name),
        elsewhere name c,
      );
      file = h.file ∙ so.file;
      faults = h.faults ∙ so.faults;
      asked = h.asked ∙ so.asked;
      tapes = h.tapes ∙ so.tapes;
      dice = h.dice ∙ so.dice;
    }
      where
        elsewhere : (name : List ℕ) → Contains (names_of link rest) name
            → at_key same_link (seat, (link last).name) 1 (seat, name) ≡ 0
        elsewhere name c = by_key links_decide (λ (b : ℕ). b ≡ 0) (seat, (link last).name)
            (seat, name) 1 0
            (λ e. absurd (not_last (names_of link rest) (link last).name differ
            (subst (Contains (names_of link rest)) (sym (ap (λ (key : ℕ × List ℕ). key.1) e)) c)))
            (λ n. refl)

  pub all_returned : (links : List L) (now : Outside) → AreReturning links now → links ≡ []
      → LinksReturn link seat old now first
  all_returned links now so none = record {
    links_are = ap (λ ls. lent_links link seat ls now.links) (sym none) ∙ so.links_are;
    file = so.file;
    faults = so.faults;
    asked = so.asked;
    tapes = so.tapes;
    dice = so.dice;
  }

-- an outfit's links came back, and then its random source
pub outfit_returned : {L D : Type 0} (link : L → Link) (left : D → Option (List ℕ))
    (count : D → ℕ) (seat : ℕ) (outfit : Outfit L D) {old mid new : Outside}
    → LinksReturn link seat old mid outfit.links
    → DiceReturn seat mid new (left outfit.dice) (count outfit.dice)
    → OutfitReturn link left count seat old new outfit
outfit_returned link left count seat outfit p q = record {
  links_are = q.links ∙ p.links_are;
  dice_is = sym (back_is same_seat seats_decide q.home q.left_is)
      ∙ ap (with_lent same_seat seat (left outfit.dice) (count outfit.dice)) p.dice;
  file = q.file ∙ p.file;
  faults = q.faults ∙ p.faults;
  asked = q.asked ∙ p.asked;
  tapes = q.tapes ∙ p.tapes;
}
