-- The history of a fleet is honest by any openings by which plugins unwrap what they wrapped.
use Rattle.std.specs.Prelude.{All, IfSome, cond, slice_index, slice_index_or}
use Rattle.std.specs.Str.{bytes_eq}
use Rattle.std.proofs.Common.{◌≡◌, ℕ, zero, suc, ◌<◌, ◌+◌, ◌==◌, Bool, true, false, List, [], ◌∷◌, ◌++◌, length, Option, None, Some, Result, Ok, Err, refl, ap, sym, subst, ◌∙◌, append-nil, arith, length-append}
use Rattle.std.proofs.lemmas.Bool.{eq-eqb, false≢true}
use Rattle.std.proofs.lemmas.List.{append_assoc, get_or_append_left}
use Rattle.std.proofs.lemmas.List.Elements.{All-append, All-cons, All-nil, filter-append}
use Rattle.std.proofs.lemmas.Option.{none-some, same_Some}
use Rattle.kr_base.specs.Lines.{of_seat}
use Rattle.kr_config.specs.declared.who.Who.{Who}
use Rattle.kr_config.specs.declared.who.Who.TheVariants.{Kms}
use Rattle.kr_envelope.specs.declared.object.EncryptedObject.{EncryptedObject}
use Rattle.kr_envelope.specs.declared.object.ObjectNo.{ObjectNo}
use Rattle.kr_kms.specs.Cache.{key_eq}
use Rattle.kr_kms.specs.Calls.{Link}
use Rattle.kr_kms.specs.Exchanges.{Exchange}
use Rattle.kr_kms.specs.Opens.{OpenAll, Opens, key_of}
use Rattle.kr_kms.specs.declared.seeds.SeedRow.{SeedRow}
use Rattle.kr_kms.proofs.Keys.{same_key}
use Rattle.kr_provider.specs.Envelopes.{Envelope, HasEnvelope, HasObject, seed_key}
use Rattle.kr_provider.specs.Publication.{Publication, SeedOpens, list_at, seed_of}
use Rattle.kr_provider.specs.Readers.{reader_in}
use Rattle.kr_provider.specs.Unsealing.{HasNoSource, IsSeedOf, MayAskPlugin, MayAskFor, TakesSeed}
use Rattle.kr_opening.specs.declared.generation.Generation.{Generation}
use Rattle.kr_rollout.specs.declared.line.Did.{Did}
use Rattle.kr_rollout.specs.declared.line.Did.TheVariants.{Replace, Reload, Join}
use Rattle.kr_rollout.specs.declared.line.Gave.{Gave}
use Rattle.kr_rollout.specs.declared.line.Gave.TheVariants.{Written, Reloaded, Joined}
use Rattle.kr_rollout.specs.declared.opening.Entry.{Entry}
use Rattle.kr_rollout.specs.declared.opening.Opening.{Opening}
use Rattle.kr_history.specs.Acting.{Caller}
use Rattle.kr_rollout.specs.Entries.{generation_named_in, published_at, seat_of}
use Rattle.kr_rollout.specs.Histories.{IsRun, state_from}
use Rattle.kr_history.specs.Honesty.{HonestBy, IsHonestEntry, KeepsData, SeedsOpen}
use Rattle.kr_rollout.specs.Openings.{start_of}
use Rattle.kr_opening.specs.Replicas.{generations_from}
use Rattle.kr_history.specs.Parts.{Adds}
use Rattle.kr_rollout.specs.States.{State}
use Rattle.kr_rollout.specs.Steps.{IsStep, after, new_generations}
use Rattle.kr_rollout.proofs.Appending.{front_law}
use Rattle.kr_history.proofs.PartsAdd.{parts_follow}
use Rattle.kr_script.specs.declared.script.Part.{Part}
use Rattle.kr_workers.specs.declared.files.SettingsFile.{SettingsFile}
use Rattle.kr_workers.specs.declared.worker.Worker.{Worker}
use Rattle.kr_workers.specs.Histories.{IsOneHistory, first_place}
use Rattle.kr_workers.specs.Plugins.{HonestOfPlugins, IsReplaced, ReaderOpens, Reseals, UnwrappedBy}
use Rattle.kr_workers.specs.Runs.{DoesAll, LineDone, entries_in}
use Rattle.kr_workers.specs.ScriptLines.{Workplace}
use Rattle.kr_workers.proofs.Resealing.{IsKnown, run_keeps}

-- ---- lists

front_of : {X : Type 0} (P : X → Type 0) (xs ys : List X) → All P (xs ++ ys) → All P xs
front_of P xs ys a k d l = subst P (get_or_append_left xs ys d k l)
    (a k d (omega (arith, l, length-append xs ys)))

pub at_middle : {X : Type 0} (P : X → Type 0) (xs : List X) (x : X) (ys : List X)
    → All P (xs ++ x ∷ ys) → P x
at_middle P [] x ys a = a 0 x (omega arith)
at_middle P (y ∷ xs) x ys a = at_middle P xs x ys (λ k d l. a (suc k) d (omega arith))

first_in : {X : Type 0} (xs : List X) (n : ℕ) → n < length xs → X
first_in [] n l = absurd (omega (arith, l))
first_in (x ∷ xs) n l = x

-- ---- each row that was replaced stands on an unsealing

-- an own entry is one of its seat's
pub own_there : (P : Entry → Type 0) (front : List Entry) (e : Entry) (rest : List Entry)
    → All P (of_seat seat_of e.line.seat (front ++ e ∷ rest)) → P e
own_there P front e rest all = at_middle P (of_seat seat_of e.line.seat front) e
    (of_seat seat_of e.line.seat rest)
    (subst (λ (l : List Entry). All P l)
    (filter-append (λ (x : Entry). seat_of x == e.line.seat) front (e ∷ rest)
    ∙ ap (λ b. of_seat seat_of e.line.seat front
    ++ cond b (e ∷ of_seat seat_of e.line.seat rest) (of_seat seat_of e.line.seat rest))
    (eq-eqb e.line.seat e.line.seat refl)) all)

pub step_there : (o : Opening) (st : State) (front : List Entry) (e : Entry) (rest : List Entry)
    → IsRun o st (front ++ e ∷ rest) → IsStep o (state_from st front) e
step_there o st [] e rest r = r.0
step_there o st (x ∷ front) e rest r = step_there o (after st x) front e rest r.1

module _ {L D : Type 0} (link : L → Link) (step : L → Exchange → L → Type 0)
    (left : D → Option (List ℕ))
    (count : D → ℕ) (files : List SettingsFile) where
  pub run_adds : (replica : ℕ) (first : Workplace L D) (run : List LineDone) (last : Workplace L D)
      → DoesAll link step left count files replica first run last
      → Adds first.caller (entries_in run) last.caller
  run_adds replica first [] last same =
      subst (λ (w : Workplace L D). Adds first.caller [] w.caller) (sym same)
      (parts_follow.none first.caller)
  run_adds replica first (done ∷ run) last all =
      parts_follow.both first.caller all.0.caller last.caller done.part (entries_in run)
      all.1.adds (run_adds replica all.0 run last all.2)

  run_mine : (replica : ℕ) (first : Workplace L D) (run : List LineDone) (last : Workplace L D)
      → DoesAll link step left count files replica first run last
      → last.caller.mine ≡ first.caller.mine ++ entries_in run
  run_mine replica first run last all =
      ap (λ (c : Caller). c.mine) (run_adds replica first run last all).new_is

  module _ {T : Type 0} (history : List Entry) (o : Opening) (parts : List Part)
      (budgets : List ℕ) (old new : List (Worker T L D))
      (one : IsOneHistory link step left count files history o parts budgets old new) where
    seat_known : (seat : ℕ) → seat < length parts → seat < length o.reloads
        → All (IsKnown) (of_seat seat_of seat history)
    seat_known seat within there =
        let part = first_in parts seat within in
        let worker = first_in old seat (omega (arith, within, one.whole)) in
        let s = one.each seat part worker within in
        let replica = (slice_index_or parts seat part).replica in
        let place = first_place o seat (slice_index budgets seat)
        (slice_index_or old seat worker).bench in
        let known = (run_keeps link step left count files replica place s.run s.last
        s.does).all
        (record {
          legal = front_law o [] history one.legal;
          own = refl;
          seat_in = there;
        }) (All-nil (IsKnown)) in
        subst (λ (l : List Entry). All (IsKnown) l)
        (run_mine replica place s.run s.last s.does ∙ s.parts_are) known

    pub resealed : (front : List Entry) (e : Entry) (rest : List Entry) (path : List ℕ)
        → history ≡ front ++ e ∷ rest → IsReplaced path e → Reseals path e
    resealed front e rest path is r =
        own_there (IsKnown) front e rest
        (subst (λ (l : List Entry). All (IsKnown)
        (of_seat seat_of e.line.seat l)) is
        (seat_known e.line.seat
        (at_middle (λ (x : Entry). seat_of x < length parts) front e rest
        (subst (λ (l : List Entry). All (λ (x : Entry). seat_of x < length parts) l) is
        one.no_other))
        (step_there o (start_of o) front e rest
        (subst (λ (l : List Entry). IsRun o (start_of o) l) is one.legal.runs)).seat)) path r

-- ---- the envelope of a row that was read

seed_opens : (opens : Opens) (name : List ℕ) (seeds : List SeedRow) (row : SeedRow)
    → OpenAll opens seeds → seed_of name seeds ≡ Some row → opens (key_of row) ≡ Some row.seed
seed_opens opens name [] row all is = absurd (none-some row is)
seed_opens opens name (y ∷ ys) row all is = at (bytes_eq y.name name) is
    (seed_opens opens name ys row (λ k d l. all (suc k) d (omega arith)))
  where
    at : (b : Bool) → cond b (Some y) (seed_of name ys) ≡ Some row
        → (seed_of name ys ≡ Some row → opens (key_of row) ≡ Some row.seed)
        → opens (key_of row) ≡ Some row.seed
    at true is further = subst (λ (q : SeedRow). opens (key_of q) ≡ Some q.seed)
        (same_Some y row is) (all 0 y (omega arith))
    at false is further = further is

-- where all seeds open, that of each provider does
who_opens : (opens : Opens) (seeds : List SeedRow) (who : Who) → OpenAll opens seeds
    → SeedOpens opens seeds who
who_opens opens seeds (Kms name) all = λ row is. seed_opens opens name seeds row all is
who_opens opens seeds other all = tt

reader_opens : (opens : Opens) (seeds : List SeedRow) (reader : Option Who) → OpenAll opens seeds
    → ReaderOpens opens seeds reader
reader_opens opens seeds None all = tt
reader_opens opens seeds (Some who) all = who_opens opens seeds who all

module _ (opens : Opens) (seeds : List SeedRow) where
  -- the source opens to what it was unwrapped to, or is a published seed's
  source_opens : (name : List ℕ) (object : EncryptedObject) (source : Option (List ℕ))
      → SeedOpens opens seeds (Kms name)
      → TakesSeed seeds (Some (Kms name)) (record { object = Ok object; source = source })
      → (MayAskFor seeds name object → source ≡ opens (seed_key name object))
      → source ≡ opens (seed_key name object)
  source_opens name object source opened takes asked = at (seed_of name seeds) refl
    where
      by_row : (row : SeedRow) → seed_of name seeds ≡ Some row → (b : Bool)
          → key_eq (key_of row) (seed_key name object) ≡ b → source ≡ opens (seed_key name object)
      by_row row is true same =
          let own : IsSeedOf row name object =
          (same_key (key_of row) (seed_key name object)).0 same in
          takes object row refl is own ∙ sym (opened row is) ∙ ap opens own
      by_row row is false other = asked (λ q there own. false≢true (sym other
          ∙ (same_key (key_of row) (seed_key name object)).1
          (subst (λ (x : SeedRow). IsSeedOf x name object)
          (same_Some q row (sym there ∙ is)) own)))

      at : (found : Option SeedRow) → seed_of name seeds ≡ found
          → source ≡ opens (seed_key name object)
      at None is = asked (λ row there own. none-some row (sym is ∙ there))
      at (Some row) is = by_row row is (key_eq (key_of row) (seed_key name object)) refl

  module _ (bytes : List ℕ) where
    -- so the envelope is the one that plugins' sources make, where those that were asked opened so
    pub envelope_known : (reader : Option Who) (envelope : Envelope)
        → HasObject reader bytes envelope.object → TakesSeed seeds reader envelope
        → HasNoSource envelope → ReaderOpens opens seeds reader
        → (MayAskPlugin seeds reader envelope.object → HasEnvelope opens reader bytes envelope)
        → HasEnvelope opens reader bytes envelope
    envelope_known (Some (Kms name)) envelope has takes none opened asked =
        at envelope.object envelope.source has takes none asked
      where
        at : (object : Result EncryptedObject ObjectNo) (source : Option (List ℕ))
            → HasObject (Some (Kms name)) bytes object
            → TakesSeed seeds (Some (Kms name)) (record { object = object; source = source })
            → HasNoSource (record { object = object; source = source })
            → (MayAskPlugin seeds (Some (Kms name)) object → HasEnvelope opens (Some (Kms name)) bytes
            (record { object = object; source = source }))
            → HasEnvelope opens (Some (Kms name)) bytes
            (record { object = object; source = source })
        at (Ok object) source has takes none asked =
            (has, source_opens name object source opened takes (λ may. (asked may).1))
        at (Err why) source has takes none asked = (has, none why refl)
    envelope_known other envelope has takes none opened asked = tt

-- ---- each entry

abbrev Opening_of : Opens → Generation → Type 0
Opening_of opens g = SeedsOpen opens g.published

-- the configuration that an entry names is one of the generations
published_opens : (opens : Opens) (generations : List Generation) (number : Option ℕ)
    (p : Publication) → All (Opening_of opens) generations
    → published_at generations number ≡ Some p → SeedsOpen opens p
published_opens opens generations None p all is = absurd (none-some p is)
published_opens opens [] (Some number) p all is = absurd (none-some p is)
published_opens opens (g ∷ generations) (Some zero) p all is =
    subst (SeedsOpen opens) (same_Some g.published p is) (all 0 g (omega arith))
published_opens opens (g ∷ generations) (Some (suc number)) p all is =
    published_opens opens generations (Some number) p (λ k d l. all (suc k) d (omega arith)) is

abbrev kept : (opens : Opens) (path : List ℕ) (e : Entry) (r : Reseals path e)
    → ReaderOpens opens r.p.seeds (reader_in (list_at r.p r.old.resource) r.old.stored)
    → UnwrappedBy opens r → KeepsData opens path e
kept opens path e r seed unwrapped = record {
  p = r.p;
  old = r.old;
  new = r.new;
  plain = r.opened.plain;
  held = r.held;
  replaced = r.replaced;
  written = r.written;
  reads = (
    r.envelope,
    envelope_known opens r.p.seeds r.old.stored
        (reader_in (list_at r.p r.old.resource) r.old.stored) r.envelope r.object r.published
        r.unsourced seed unwrapped,
    r.is.0,
  );
  sealing = r.sealing;
}

module _ (opens : Opens) (generations : List Generation) (e : Entry) where
  entry_honest : (gave : Gave) (did : Did)
      → All (Opening_of opens) (generations ++ new_generations gave did)
      → ((path : List ℕ) (from revision : ℕ) → ◌≡◌ {A = Did} did (Replace path from)
      → ◌≡◌ {A = Gave} gave (Written revision) → KeepsData opens path e)
      → HonestBy gave did opens e
  entry_honest (Written revision) (Replace path from) all k = k path from revision refl refl
  entry_honest (Reloaded number) (Reload replica p expect) all k = at_middle (Opening_of opens)
      generations (record { replica = replica; published = p }) [] all
  entry_honest (Joined number) (Join replica p) all k = at_middle (Opening_of opens)
      generations (record { replica = replica; published = p }) [] all
  entry_honest other did all k = tt

-- ---- the history

generations_front : (opens : Opens) (st : State) (history : List Entry)
    → All (Opening_of opens) (state_from st history).generations
    → All (Opening_of opens) st.generations
generations_front opens st [] all = all
generations_front opens st (e ∷ history) all = front_of (Opening_of opens) st.generations
    (new_generations e.line.gave e.line.did) (generations_front opens (after st e) history all)

replicas_open : (opens : Opens) (replica : ℕ) (replicas : List (Option Publication))
    → All (Opening_of opens) (generations_from replica replicas)
    → All (λ replica. IfSome replica (SeedsOpen opens)) replicas
replicas_open opens replica [] all = All-nil (λ replica. IfSome replica (SeedsOpen opens))
replicas_open opens replica (None ∷ replicas) all =
    All-cons (λ replica. IfSome replica (SeedsOpen opens)) None replicas tt
    (replicas_open opens (replica + 1) replicas all)
replicas_open opens replica (Some p ∷ replicas) all =
    All-cons (λ replica. IfSome replica (SeedsOpen opens)) (Some p) replicas
    (all 0 (record { replica = replica; published = p }) (omega arith))
    (replicas_open opens (replica + 1) replicas (λ k d l. all (suc k) d (omega arith)))

module _ (opens : Opens) (o : Opening)
    (history : List Entry)
    (reseals : (front : List Entry) (e : Entry) (rest : List Entry) (path : List ℕ)
    → history ≡ front ++ e ∷ rest → IsReplaced path e → Reseals path e)
    (unwrapped : (front : List Entry) (e : Entry) (rest : List Entry) (path : List ℕ)
    → (is : history ≡ front ++ e ∷ rest) → (replaced : IsReplaced path e)
    → UnwrappedBy opens (reseals front e rest path is replaced)) where
  rest_honest : (st : State) (front rest : List Entry) → history ≡ front ++ rest
      → IsRun o st rest → All (Opening_of opens) (state_from st rest).generations
      → All (IsHonestEntry opens) front → All (IsHonestEntry opens) history
  rest_honest st front [] is runs all before =
      subst (λ (l : List Entry). All (IsHonestEntry opens) l) (sym (is ∙ append-nil front)) before
  rest_honest st front (e ∷ rest) is runs all before =
      let now = generations_front opens (after st e) rest all in
      let own = entry_honest opens st.generations e e.line.gave e.line.did now
      (λ path from revision did_is gave_is.
      let replaced : IsReplaced path e = record {
        from = from;
        revision = revision;
        did_is = did_is;
        gave_is = gave_is;
      } in
      let r = reseals front e rest path is replaced in
      kept opens path e r (reader_opens opens r.p.seeds
      (reader_in (list_at r.p r.old.resource) r.old.stored)
      (published_opens opens (after st e).generations (generation_named_in e.line) r.p now
      (sym (ap (λ (x : Entry). x.published) runs.0.payload) ∙ r.held)))
      (unwrapped front e rest path is replaced)) in
      rest_honest (after st e) (front ++ e ∷ []) rest
      (is ∙ sym (append_assoc front (e ∷ []) rest)) runs.1 all
      (All-append (IsHonestEntry opens) front (e ∷ []) before
      (All-cons (IsHonestEntry opens) e [] own (All-nil (IsHonestEntry opens))))

pub honest_of_plugins : (T : Type 0) → {L D : Type 0} → (link : L → Link)
    (step : L → Exchange → L → Type 0)
    (left : D → Option (List ℕ)) (count : D → ℕ) → HonestOfPlugins T link step left count
honest_of_plugins T link step left count files history o parts budgets old new one =
    let reseals = resealed link step left count files history o parts budgets old new one in
    record {
      reseals = reseals;
      honest = λ opens all unwrapped. record {
        opening = replicas_open opens 0 o.replicas
            (generations_front opens (start_of o) history all);
        entries = rest_honest opens o history reseals unwrapped (start_of o) [] history
            refl one.legal.runs all (All-nil (IsHonestEntry opens));
      };
      keeps = λ opens front e rest path is replaced sources.
          let r = reseals front e rest path is replaced in record {
            keeps = kept opens path e r sources.read sources.unwrapped;
            opens_it = sources.sealed;
          };
    }
