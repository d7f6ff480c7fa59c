-- While a random source and links of seat 0 are out: what goes on of what is around.
use Rattle.std.proofs.Common.{◌≡◌, ℕ, ◌≤◌, List, [], Option, None, Some, refl, sym, ◌∙◌, ap, subst, arith, Contains}
use Rattle.std.specs.Prelude.{Bool, true, false, ◌==◌, if◌then◌else◌}
use Rattle.std.specs.Io.KnownBytes.{Consumes, Keeps}
use Rattle.std.proofs.KnownBytes.{Keeps-refl, Keeps-trans}
use Rattle.kr_base.specs.Faults.{Rose}
use Rattle.kr_kms.specs.Calls.{Link}
use Rattle.kr_kms.specs.Outside.{same_seat}
use Rattle.kr_provider.specs.AskedLinks.{AskedOnly, FaultRose}
use Rattle.kr_provider.specs.Names.{AreDistinct}
use Rattle.kr_provider.proofs.AskedLists.{distinct_stay}
use Rattle.kr_cmd_steps.specs.Environment.{Environment, faults_at, IsFault, IsHome, IsStateOf}
use Rattle.kr_cmd_steps.specs.Steps.{StepState, asking, with_dice}
use Rattle.kr_cmd_messages.specs.declared.refusal.Object.TheVariants.{Plugin}
use Rattle.kr_cmd_steps.specs.inner.Lent.{with_lent_dice, with_lent_links}
use Rattle.kr_cmd_steps.proofs.RunTo.{files_same}
use Rattle.kr_cmd_steps.proofs.Lending.{home_behind, home_same}
use Rattle.kr_cmd_steps.proofs.Links.{count_of, seen_asked}

pub keeps_none : (old new : Option (List ℕ)) → Consumes old new [] → Keeps old new
keeps_none None new c = tt
keeps_none (Some x) None c = absurd c
keeps_none (Some x) (Some y) c = sym c

still : (q : Bool) (a b l d : Option (List ℕ)) → Keeps a b → Keeps l (if q then a else d)
    → Keeps l (if q then b else d)
still true a b l d k h = Keeps-trans l a b h k
still false a b l d k h = h

taken : (q : Bool) (a b l d : Option (List ℕ)) → Keeps l (if q then a else d)
    → Keeps (if q then b else l) (if q then b else d)
taken true a b l d h = Keeps-refl b
taken false a b l d h = h

module _ {L : Type 0} (link : L → Link) (a : Environment) where
  -- what is around while these links and a random source that will give these bytes are out
  abbrev pub Seen : List L → Option (List ℕ) → ℕ → Environment
  Seen links left count = with_lent_links link 0 links (with_lent_dice 0 left count a)

-- from some links and bytes to others
module _ {L : Type 0} (link : L → Link) (a : Environment) (names : List (List ℕ)) (olds news : List L)
    (asked : AskedOnly link names olds news) (old new : Option (List ℕ)) (before count : ℕ) where
  abbrev Before : Environment
  Before = Seen link a olds old before

  abbrev After : Environment
  After = Seen link a news new count

  pub home : before ≤ count → IsHome Before After
  home later = record {
    files = record { file = refl; later = (files_same a.world).later };
    dice = home_behind same_seat 0 old new later (home_same refl);
    tapes = home_same refl;
    links = (seen_asked link 0 a.world.links names olds news asked).home;
    input = omega arith;
  }

  pub kept : Keeps old new → (l : StepState) → IsStateOf l Before → IsStateOf l After
  kept k l s = record {
    file = s.file;
    tapes = s.tapes;
    links = (seen_asked link 0 a.world.links names olds news asked).told ∙ s.links;
    input = s.input;
    dice = λ seat. still (0 == seat) old new (l.dice seat) (a.world.dice.told seat) k (s.dice seat);
    asked = s.asked;
    heard = s.heard;
    said = s.said;
  }

  pub drawn : (l : StepState) → IsStateOf l Before → IsStateOf (with_dice 0 new l) After
  drawn l s = record {
    file = s.file;
    tapes = s.tapes;
    links = (seen_asked link 0 a.world.links names olds news asked).told ∙ s.links;
    input = s.input;
    dice = λ seat. taken (0 == seat) old new (l.dice seat) (a.world.dice.told seat) (s.dice seat);
    asked = s.asked;
    heard = s.heard;
    said = s.said;
  }

  -- a plugin failed, and its link has this count
  pub plugin_fault : (name : List ℕ) → AreDistinct link olds → FaultRose link name olds news
      → (it : L) → Contains news it → (link it).name ≡ name
      → IsFault (asking 0 name) (Plugin name) (link it).count Before After
  plugin_fault name distinct f it there named =
      let distinct_now = distinct_stay link names olds news asked distinct in
      let was = ap (λ n. faults_at (asking 0 n) Before) (sym f.old_named)
      ∙ count_of link 0 a.world.links olds f.old distinct f.old_there in
      let is = ap (λ n. faults_at (asking 0 n) After) (sym f.new_named)
      ∙ count_of link 0 a.world.links news f.new distinct_now f.new_there in
      let count_is = ap (λ n. faults_at (asking 0 n) After) (sym named)
      ∙ count_of link 0 a.world.links news it distinct_now there in (
        refl,
        subst (λ n. Rose n (faults_at (asking 0 name) After)) (sym was)
            (subst (λ n. Rose (link f.old).count n) (sym is) f.rose),
        sym count_is,
      )
