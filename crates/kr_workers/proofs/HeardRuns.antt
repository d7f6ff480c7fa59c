-- What plugins told each worker of a fleet, and that its history is honest by all that agrees.
use Rattle.std.specs.Prelude.{All, slice_index}
use Rattle.std.specs.List.{slice_get}
use Rattle.std.proofs.Common.{◌≡◌, ℕ, ◌<◌, ◌≤◌, List, [], length, get_or, Option, Some, ◌⊎◌, inl, inr, refl, ap, sym, subst, ◌∙◌, arith}
use Rattle.std.proofs.lemmas.Bool.{cases_lt}
use Rattle.std.proofs.lemmas.Option.{slice_get-get_or}
use Rattle.kr_base.specs.Lines.{of_seat}
use Rattle.kr_base.specs.Walks.{Walk}
use Rattle.kr_kms.specs.Cache.{AreOpenBy}
use Rattle.kr_kms.specs.Calls.{Link}
use Rattle.kr_kms.specs.Exchanges.{AgreeAll, Exchange}
use Rattle.kr_kms.specs.Opens.{Opens}
use Rattle.kr_provider.specs.AskedLinks.{Among}
use Rattle.kr_rollout.specs.Entries.{seat_of}
use Rattle.kr_rollout.specs.declared.opening.Entry.{Entry}
use Rattle.kr_rollout.specs.declared.opening.Opening.{Opening}
use Rattle.kr_history.specs.Acting.{Caller}
use Rattle.kr_history.specs.Honesty.{IsHonest, KeepsHonest}
use Rattle.kr_history.proofs.HonestSeats.{honest_by_seats}
use Rattle.kr_history.proofs.KeptHonest.{honesty_stands}
use Rattle.kr_script.specs.declared.script.Part.{Part}
use Rattle.kr_workers.specs.declared.files.SettingsFile.{SettingsFile}
use Rattle.kr_workers.specs.declared.worker.Worker.{Worker}
use Rattle.kr_workers.specs.Heard.{AgreesWithHeard, Heard, WasHeard, unheard}
use Rattle.kr_workers.specs.Histories.{IsOneHistory, StandsIn, first_place}
use Rattle.kr_workers.specs.Runs.{entries_in, exchanges_in}
use Rattle.kr_workers.proofs.Assembling.{at_of, fresh_keeps}
use Rattle.kr_workers.proofs.Hearing.{run_keeps, run_walks}
use Rattle.kr_workers.proofs.HonestPlugins.{at_middle, run_adds}

module _ {T L D : Type 0} (link : L → Link)
    (step : L → Exchange → L → Type 0) (left : D → Option (List ℕ)) (count : D → ℕ)
    (files : List SettingsFile) (history : List Entry) (o : Opening) (parts : List Part)
    (budgets : List ℕ) (old new : List (Worker T L D))
    (one : IsOneHistory link step left count files history o parts budgets old new) where
  -- the run of the worker of a number, and what was heard in it
  pub record HeardAt (number : ℕ) (heard : Heard) : Type 0 where
    pub part : Part
    pub before : Worker T L D
    pub after : Worker T L D
    pub part_is : slice_get parts number ≡ Some part
    pub before_is : slice_get old number ≡ Some before
    pub after_is : slice_get new number ≡ Some after
    pub stands : StandsIn link step left count files history part
        (first_place o number (slice_index budgets number) before.bench) after.told.0 after.bench
    pub kept : heard.kept ≡ before.bench.cache.rows
    pub exchanges : heard.exchanges ≡ exchanges_in stands.run

  heard_within : (number : ℕ) → number < length parts
      → (heard : Heard) × HeardAt number heard
  heard_within number within =
      let in_old : number < length old = omega (arith, within, one.whole) in
      let in_new : number < length new = omega (arith, in_old, one.many) in
      let part = at_of parts number within in
      let worker = at_of old number in_old in
      let s = one.each number part worker within in
      let before = get_or old number worker in (
        record { kept = before.bench.cache.rows; exchanges = exchanges_in s.run },
        record {
          part = get_or parts number part;
          before = before;
          after = get_or new number worker;
          part_is = slice_get-get_or parts number part within;
          before_is = slice_get-get_or old number worker in_old;
          after_is = slice_get-get_or new number worker in_new;
          stands = s;
          kept = refl;
          exchanges = refl;
        },
      )

  -- of each number: of one that no worker has nothing was heard
  pub heard_of : (number : ℕ) → (heard : Heard) × (number < length parts → HeardAt number heard)
      × (length parts ≤ number → heard ≡ unheard)
  heard_of number = by (cases_lt number (length parts))
    where
      by : (number < length parts) ⊎ (length parts ≤ number)
          → (heard : Heard) × (number < length parts → HeardAt number heard)
          × (length parts ≤ number → heard ≡ unheard)
      by (inl within) = let h = heard_within number within in (
        h.0,
        λ again. h.1,
        λ past. absurd (omega (arith, within, past)),
      )
      by (inr past) = (unheard, λ within. absurd (omega (arith, within, past)), λ again. refl)

  abbrev pub heard_in : (number : ℕ) → Heard
  heard_in number = (heard_of number).0

  pub heard_at : (number : ℕ) → number < length parts → HeardAt number (heard_in number)
  heard_at number within = (heard_of number).1 within

  pub none_heard : (number : ℕ) → length parts ≤ number → heard_in number ≡ unheard
  none_heard number past = (heard_of number).2 past

  pub was_heard : (number : ℕ) → (h : HeardAt number (heard_in number))
      → WasHeard step (heard_in number) h.before.bench h.after.bench
  was_heard number h =
      let s = h.stands in
      let first = first_place o number (slice_index budgets number) h.before.bench in record {
        kept = h.kept;
        walk = subst (λ (ls : List L). Walk (Among step) first.links (heard_in number).exchanges ls)
            (sym s.links_are) (subst (λ es. Walk (Among step) first.links es s.last.links)
            (sym h.exchanges) (run_walks link step left count files h.part.replica first
            s.run s.last s.does));
      }

  -- ---- by what agrees with it

  module _ (opens : Opens) (agrees : (number : ℕ) → AgreesWithHeard opens (heard_in number)) where
    keeps_within : (seat : ℕ) → HeardAt seat (heard_in seat) → KeepsHonest opens o seat history
    keeps_within seat h =
        let s = h.stands in
        let first = first_place o seat (slice_index budgets seat) h.before.bench in
        let adds = run_adds link step left count files h.part.replica first s.run s.last
        s.does in
        let ran = run_keeps link step left count files opens h.part.replica first s.run s.last
        s.does (subst (AgreeAll opens) h.exchanges (agrees seat).answers)
        (subst (AreOpenBy opens) h.kept (agrees seat).kept) in
        let seen : s.last.caller.seen ≡ adds.more = ap (λ (c : Caller). c.seen) adds.new_is in
        let keeps : KeepsHonest opens o seat s.last.caller.seen =
        subst (λ (p : Opening). KeepsHonest opens p seat s.last.caller.seen)
        (ap (λ (c : Caller). c.opening) adds.new_is)
        (subst (λ n. KeepsHonest opens s.last.caller.opening n s.last.caller.seen)
        (ap (λ (c : Caller). c.seat) adds.new_is)
        (ran.1 (fresh_keeps opens o seat [] refl))) in
        honesty_stands opens o history seat s.last.caller.seen (entries_in s.run)
        (record { front = s.front; whole = sym s.parts_are })
        (ap (of_seat seat_of seat) seen ∙ adds.own) keeps

    keeps_all : (seat : ℕ) → KeepsHonest opens o seat history
    keeps_all seat = by (cases_lt seat (length parts))
      where
        by : (seat < length parts) ⊎ (length parts ≤ seat) → KeepsHonest opens o seat history
        by (inl within) = keeps_within seat (heard_at seat within)
        by (inr past) = λ front e rest is own honest.
            let below = at_middle (λ (x : Entry). seat_of x < length parts) front e rest
            (subst (λ (l : List Entry). All (λ (x : Entry). seat_of x < length parts) l) is
            one.no_other) in absurd (omega (arith, below, past, own))

    pub agreed_honest : IsHonest opens o [] → IsHonest opens o history
    agreed_honest begun = honest_by_seats opens o history one.legal begun
        (λ seat within. keeps_all seat)
