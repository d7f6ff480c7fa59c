-- What a fleet's plugins told agrees with a truth by which each of their steps is answered.
use Rattle.std.proofs.Common.{ℕ, ◌<◌, ◌≤◌, List, [], ◌∷◌, length, get_or, ◌⊎◌, inl, inr, sym, subst, arith}
use Rattle.std.proofs.lemmas.Bool.{cases_lt}
use Rattle.std.proofs.lemmas.Option.{slice_get-get_or}
use Rattle.kr_base.specs.Walks.{Walk}
use Rattle.kr_kms.specs.Cache.{AreOpenBy}
use Rattle.kr_kms.specs.Calls.{Link}
use Rattle.kr_kms.specs.Exchanges.{AgreeAll, Exchange}
use Rattle.kr_kms.specs.Opens.{Opens}
use Rattle.kr_provider.specs.AskedLinks.{Among}
use Rattle.kr_rollout.specs.declared.opening.Entry.{Entry}
use Rattle.kr_rollout.specs.declared.opening.Opening.{Opening}
use Rattle.kr_script.specs.declared.script.Part.{Part}
use Rattle.kr_workers.specs.Heard.{AgreesWithHeard, Heard}
use Rattle.kr_workers.specs.declared.files.SettingsFile.{SettingsFile}
use Rattle.kr_workers.specs.declared.worker.Worker.{Worker}
use Rattle.kr_headline.specs.Consequences.{SeedsAloneSupposed, LinksAgree}
use Rattle.kr_headline.specs.Fleets.{FleetHeadline}
use Rattle.kr_headline.specs.Values.{sealed_values}
use Rattle.kr_headline.proofs.Seats.{first_in}

module _ {L : Type 0} (step : L → Exchange → L → Type 0) (opens : Opens)
    (agree : LinksAgree step opens) where
  walks_agree : (olds : List L) (exchanges : List Exchange) (news : List L)
      → Walk (Among step) olds exchanges news → AgreeAll opens exchanges
  walks_agree olds [] news walk = tt
  walks_agree olds (e ∷ es) news walk =
      (agree walk.1.old e walk.1.new walk.1.steps, walks_agree walk.0 es news walk.2)

module _ {T L D : Type 0} (link : L → Link) (step : L → Exchange → L → Type 0) (count : D → ℕ)
    (old new : List (Worker T L D)) (files : List SettingsFile) (o : Opening)
    (parts : List Part) (history : List Entry)
    (h : FleetHeadline sealed_values link step count old new files o parts history) (opens : Opens)
    (agree : LinksAgree step opens)
    (kept : (worker : ℕ) → AreOpenBy opens (h.heard worker).kept) where
  pub all_agree : (worker : ℕ) → AgreesWithHeard opens (h.heard worker)
  all_agree worker = record { kept = kept worker; answers = by (cases_lt worker (length parts)) }
    where
      by : (worker < length parts) ⊎ (length parts ≤ worker)
          → AgreeAll opens (h.heard worker).exchanges
      by (inl within) =
          let in_old : worker < length old = omega (arith, within, h.whole) in
          let in_new : worker < length new = omega (arith, within, h.many) in
          let before = get_or old worker (first_in old worker in_old) in
          let after = get_or new worker (first_in new worker in_new) in
          walks_agree step opens agree before.bench.links (h.heard worker).exchanges
          after.bench.links (h.was_heard worker before after
          (slice_get-get_or old worker (first_in old worker in_old) in_old)
          (slice_get-get_or new worker (first_in new worker in_new) in_new)).walk
      by (inr past) =
          subst (λ (it : Heard). AgreeAll opens it.exchanges) (sym (h.no_more worker past)) tt

pub seeds_alone : (T : Type 0) → {L D : Type 0} → (link : L → Link)
    (step : L → Exchange → L → Type 0) (count : D → ℕ) → SeedsAloneSupposed T link step count
seeds_alone T link step count old new files o parts history h opens agree kept seeds path worker at
    front taken rest is own fetches revision found =
    inl (inr (all_agree link step count old new files o parts history h opens agree kept, seeds))
