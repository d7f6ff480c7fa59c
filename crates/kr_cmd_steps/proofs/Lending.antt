-- Objects that are lent: as long as they are out, they are seen as if they stood at home.
use Rattle.std.proofs.Common.{◌≡◌, ◌≢◌, ℕ, ◌≤◌, refl, sym, ◌∙◌, ap, arith}
use Rattle.std.specs.Prelude.{Bool, true, false, ◌-◌, if◌then◌else◌}
use Rattle.std.specs.Bool.{Decides}
use Rattle.kr_kms.specs.Outside.{Objects, HandsOut, TakesBack, at_key}
use Rattle.kr_cmd_steps.specs.Environment.{with_lent, AreHome}

-- ---- keys

abbrev pub TellsApart : {K : Type 0} → (K → K → Bool) → Type 0
TellsApart {K} same = (a b : K) → Decides (same a b) (a ≡ b)

by_bool : {B : Type 0} (P : B → Type 0) (q : Bool) (x y : B) → (q ≡ true → P x)
    → (q ≡ false → P y) → P (if q then x else y)
by_bool P true x y h k = h refl
by_bool P false x y h k = k refl

-- at the key, and at each other
pub by_key : {K B : Type 0} {same : K → K → Bool} → TellsApart same → (P : B → Type 0)
    (key other : K) (x y : B) → (key ≡ other → P x) → (other ≢ key → P y)
    → P (if same key other then x else y)
by_key {same = same} tests P key other x y h k = by_bool P (same key other) x y
    (λ t. h ((tests key other).0 t))
    (λ f. k (λ e. absurd (let t : true ≡ false = sym ((tests key other).1 (sym e)) ∙ f in cc)))

-- ---- objects

-- seen as they were: the same is told of each, all is at home, and no count fell
pub record AreSeen {K V : Type 0} (old new : Objects K V) : Type 0 where
  pub told : new.told ≡ old.told
  pub home : AreHome old new

pub home_same : {K V : Type 0} {a b : Objects K V} → b ≡ a → AreHome a b
home_same e = record {
  out = λ key. ap (λ o. o.out key) e;
  later = λ key. omega (arith, ap (λ o. o.faults key) e);
}

pub seen_same : {K V : Type 0} {a b : Objects K V} → b ≡ a → AreSeen a b
seen_same e = record { told = ap (λ o. o.told) e; home = home_same e }

pub no_more : (n : ℕ) → n ≤ n
no_more n = omega arith

pub no_less : (q : Bool) (a b n m : ℕ) → a ≤ b → n ≤ m → (if q then n else a) ≤ (if q then m else b)
no_less true a b n m h k = k
no_less false a b n m h k = h

module _ {K V : Type 0} (same : K → K → Bool) where
  -- behind an object that was out before, and whose count may have risen
  pub home_behind : (key : K) (told now : V) {count later : ℕ} {x y : Objects K V}
      → count ≤ later → AreHome x y
      → AreHome (with_lent same key told count x) (with_lent same key now later y)
  home_behind key told now {count} {later} {x} {y} rises h = record {
    out = λ other. ap (λ n. n - at_key same key 1 other) (h.out other);
    later = λ other. no_less (same key other) (x.faults other) (y.faults other) count later
        (h.later other) rises;
  }

  pub seen_behind : (key : K) (told : V) {count later : ℕ} {x y : Objects K V} → count ≤ later
      → AreSeen x y → AreSeen (with_lent same key told count x) (with_lent same key told later y)
  seen_behind key told rises s = record {
    told = ap (λ t other. if same key other then told else t other) s.told;
    home = home_behind key told told rises s.home;
  }

  -- one that was handed out stands as if it were at home, whatever it tells
  pub lent_home : TellsApart same → {old out : Objects K V} {key : K} {count : ℕ} (told : V)
      → HandsOut same old out key count → AreHome old (with_lent same key told count out)
  lent_home tests {old} {out} {key} {count} told h = record {
    out = λ other. omega (arith, h.out other);
    later = λ other. by_key tests (λ n. old.faults other ≤ n) key other count (out.faults other)
        (λ e. omega (arith, h.count_is, ap (λ k. old.faults k) e))
        (λ n. omega (arith, h.faults other n));
  }

  pub lent_seen : TellsApart same → {old out : Objects K V} {key : K} {count : ℕ} {told : V}
      → HandsOut same old out key count → told ≡ old.told key
      → AreSeen old (with_lent same key told count out)
  lent_seen tests {old} {out} {key} {count} {told} h is = record {
    told = λ i other. by_key tests (λ b. b ≡ old.told other) key other told (out.told other)
        (λ e. is ∙ ap (λ k. old.told k) e) (λ n. h.told other n) i;
    home = lent_home tests told h;
  }

  -- what was lent stands as what came back
  pub back_is : TellsApart same → {out new : Objects K V} {key : K} {count : ℕ} {told : V}
      → TakesBack same out new key count → new.told key ≡ told
      → with_lent same key told count out ≡ new
  back_is tests {out} {new} {key} {count} {told} h is = λ i. record {
    told = λ other. by_key tests (λ b. b ≡ new.told other) key other told (out.told other)
        (λ e. sym is ∙ ap (λ k. new.told k) e) (λ n. sym (h.told other n)) i;
    faults = λ other. by_key tests (λ b. b ≡ new.faults other) key other count
        (out.faults other) (λ e. sym h.count_is ∙ ap (λ k. new.faults k) e)
        (λ n. sym (h.faults other n)) i;
    out = λ other. (let e : out.out other - at_key same key 1 other ≡ new.out other =
        omega (arith, h.out other) in e) i;
    handed = sym h.handed i;
  }
