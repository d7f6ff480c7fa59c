-- What the ending of a fleet rests on.
use Rattle.std.specs.Prelude.{is_some, if◌then◌else◌, slice_index}
use Rattle.std.specs.List.{slice_get}
use Rattle.std.proofs.Common.{◌≡◌, ◌≢◌, ℕ, zero, suc, ◌<◌, ◌==◌, Bool, true, false, List, [], ◌∷◌, ◌++◌, length, map, Contains, Some, inl, inr, refl, ap, sym, subst, ◌∙◌, arith}
use Rattle.std.proofs.lemmas.Bool.{false≢true}
use Rattle.std.proofs.lemmas.List.Elements.{Contains-append_right}
use Rattle.std.proofs.lemmas.Option.{same_Some}
use Rattle.kr_kms.specs.Calls.{Link}
use Rattle.kr_rollout.specs.declared.opening.Entry.{Entry}
use Rattle.kr_rollout.specs.declared.opening.Opening.{Opening}
use Rattle.kr_script.specs.declared.script.Part.{Part}
use Rattle.kr_script.specs.declared.script.ScriptLine.{ScriptLine}
use Rattle.kr_script.specs.declared.told.Told.{Told}
use Rattle.kr_script.specs.declared.told.Told.TheVariants as told
use Rattle.kr_workers.specs.declared.ending.Ending.{Ending}
use Rattle.kr_workers.specs.declared.ending.Ending.TheVariants as ending
use Rattle.kr_workers.specs.declared.worker.Worker.{Worker}
use Rattle.kr_workers.specs.Causes.{HasCause}
use Rattle.kr_workers.specs.Endings.{HasReplyOf, gravest_ending, reply_ending}
use Rattle.kr_workers.specs.Histories.{first_place}
use Rattle.kr_workers.specs.Sentences.{FaultsRose, MayBeUnhealthy, Replies, RestsOn, SomeWorker}
use Rattle.kr_workers.proofs.Ends.{endings_are_told, not_fault, not_full, not_unhealthy}

-- ---- what stands at a place

pub some_there : {X : Type 0} (xs : List X) (i : ℕ) → i < length xs
    → (x : X) × (slice_get xs i ≡ Some x)
some_there [] i l = absurd (omega (arith, l))
some_there (x ∷ xs) zero l = (x, refl)
some_there (x ∷ xs) (suc i) l = some_there xs i (omega (arith, l))

below_there : {X : Type 0} (xs : List X) (i : ℕ) (x : X) → slice_get xs i ≡ Some x
    → i < length xs
below_there [] i x is = absurd (false≢true (ap is_some is))
below_there (y ∷ xs) zero x is = omega arith
below_there (y ∷ xs) (suc i) x is = let e = below_there xs i x is in omega (arith, e)

-- what a list was made from
made_from : {X Y : Type 0} (f : X → Y) (xs : List X) (i : ℕ) (y : Y)
    → slice_get (map f xs) i ≡ Some y → (x : X) × (slice_get xs i ≡ Some x) × (f x ≡ y)
made_from f [] i y is = absurd (false≢true (ap is_some is))
made_from f (x ∷ xs) zero y is = (x, refl, same_Some (f x) y is)
made_from f (x ∷ xs) (suc i) y is = made_from f xs i y is

-- ---- one reply

module _ {T L D : Type 0} (link : L → Link) (count : D → ℕ) (history : List Entry)
    (old new : List (Worker T L D)) where
  stands_in : (front : List Entry) (e : Entry) (behind : List Entry)
      → history ≡ front ++ e ∷ behind → Contains history e
  stands_in front e behind is = subst (λ (l : List Entry). Contains l e) (sym is)
      (Contains-append_right front (e ∷ behind) e (0, omega arith, refl))

  if_rests : (b : Bool)
      → RestsOn link count history old new (if b then ending.Done else ending.Refused)
  if_rests true = tt
  if_rests false = tt

  -- an ending rests on something where it does so if not all was done
  told_rests : (kind : Ending) → (kind ≢ ending.Done → RestsOn link count history old new kind)
      → RestsOn link count history old new kind
  told_rests ending.Unhealthy h = h not_unhealthy
  told_rests ending.Full h = h not_full
  told_rests ending.Fault h = h not_fault
  told_rests other h = tt

  module _ (o : Opening) (number budget : ℕ) (before after : Worker T L D)
      (before_is : slice_get old number ≡ Some before)
      (after_is : slice_get new number ≡ Some after) (asked : ScriptLine) where
    some_worker : (Has : (before after : Worker T L D) → Type 0) → Has before after
        → SomeWorker old new Has
    some_worker Has has = record {
      number = number;
      before = before;
      after = after;
      before_is = before_is;
      after_is = after_is;
      has = has;
    }

    reply_rests : (reply : Told)
        → HasCause link count asked (first_place o number budget before.bench) reply history
        after.bench.links after.bench.dice
        → RestsOn link count history old new (reply_ending reply)
    reply_rests (told.Rewritten rewritten fresh changed left) h = if_rests (left == 0)
    reply_rests (told.Unhealthy name field text) h =
        some_worker (MayBeUnhealthy link count history) (name, field, text, h.1)
    reply_rests (told.FaultPlugin name) h =
        inl (some_worker (FaultsRose link count history) (inl (name, h.1)))
    reply_rests (told.FaultDice seat) h =
        inl (some_worker (FaultsRose link count history) (inr h.2))
    reply_rests told.FaultStore h =
        inr (h.1.entry, stands_in h.1.before h.1.entry h.1.behind h.1.there, h.1.says)
    reply_rests told.Full h = (
      h.1.entry,
      stands_in h.1.before h.1.entry h.1.behind h.1.there,
      h.1.says.0,
      h.1.says.1,
    )
    reply_rests other h = tt

-- ---- the ending

pub ending_rests : {T L D : Type 0} → (link : L → Link) (count : D → ℕ) (history : List Entry)
    (o : Opening) (parts : List Part) (budgets : List ℕ) (old new : List (Worker T L D))
    → length new ≡ length old → length old ≡ length parts
    → ((number : ℕ) (part : Part) (worker : Worker T L D)
    → slice_get parts number ≡ Some part → slice_get new number ≡ Some worker
    → length worker.told.0 ≡ length part.lines.0)
    → ((number at : ℕ) (asked : ScriptLine) (reply : Told) (before : Worker T L D)
    → slice_get old number ≡ Some before → (replies : Replies parts new number at asked reply)
    → HasCause link count asked (first_place o number (slice_index budgets number) before.bench)
    reply history replies.worker.bench.links replies.worker.bench.dice)
    → RestsOn link count history old new (gravest_ending (map (λ (w : Worker T L D). w.told) new))
ending_rests {T} {L} {D} link count history o parts budgets old new many whole each causes =
    told_rests link count history old new (gravest_ending (map (λ (w : Worker T L D). w.told) new))
    (λ other. by (endings_are_told.some (map (λ (w : Worker T L D). w.told) new) other))
  where
    by : HasReplyOf (gravest_ending (map (λ (w : Worker T L D). w.told) new))
        (map (λ (w : Worker T L D). w.told) new)
        → RestsOn link count history old new (gravest_ending (map (λ (w : Worker T L D). w.told) new))
    by r =
        let w = made_from (λ (w : Worker T L D). w.told) new r.number r.told r.told_is in
        let below = below_there new r.number w.0 w.1 in
        let before = some_there old r.number (omega (arith, below, many)) in
        let part = some_there parts r.number (omega (arith, below, many, whole)) in
        let reply_is : slice_get w.0.told.0 r.at ≡ Some r.reply =
        ap (λ (t : List Told × ℕ). slice_get t.0 r.at) w.2 ∙ r.reply_is in
        let inside = below_there w.0.told.0 r.at r.reply reply_is in
        let long = each r.number part.0 w.0 part.1 w.1 in
        let asked = some_there part.0.lines.0 r.at (omega (arith, inside, long)) in
        let cause = causes r.number r.at asked.0 r.reply before.0 before.1 (record {
          part = part.0;
          worker = w.0;
          part_is = part.1;
          worker_is = w.1;
          line_is = asked.1;
          reply_is = reply_is;
        }) in
        subst (λ (k : Ending). RestsOn link count history old new k) r.kind_is
        (reply_rests link count history old new o r.number (slice_index budgets r.number) before.0
        w.0 before.1 w.1 asked.0 r.reply cause)
