-- A line's part stays one where less is known of the outside.
use Rattle.std.specs.Prelude.{⊤}
use Rattle.std.proofs.Common.{◌≡◌, ℕ, ◌≤◌, List, [], ◌∷◌, length, Option, Some, inl, inr, ap, sym, subst, ◌∙◌, arith, length-append}
use Rattle.kr_config.specs.Kept.{ConfigEntry as setting}
use Rattle.kr_kms.specs.declared.health.Field.{Field}
use Rattle.kr_provider.specs.Publication.{Publication}
use Rattle.kr_provider.specs.declared.refusal.ValueNo.{ValueNo}
use Rattle.kr_rewrite.specs.declared.outcome.Step.{Step}
use Rattle.kr_rollout.specs.declared.line.Did.TheVariants as did
use Rattle.kr_rollout.specs.declared.line.Gave.{Gave}
use Rattle.kr_rollout.specs.declared.line.Gave.TheVariants as gave
use Rattle.kr_rollout.specs.declared.opening.Entry.{Entry}
use Rattle.kr_script.specs.declared.script.ScriptLine.{ScriptLine}
use Rattle.kr_script.specs.declared.script.ScriptLine.TheVariants as line
use Rattle.kr_script.specs.declared.told.Told.{Told}
use Rattle.kr_script.specs.declared.told.Told.TheVariants as told
use Rattle.kr_store.specs.declared.rows.Row.{Row}
use Rattle.kr_workers.specs.RewriteParts.{RewritePart}
use Rattle.kr_workers.specs.Shapes.{BringsPart, DeletePart, GetPart, HoldsPart, IsOne, JoinPart, PartIs, PutPart, RefreshPart, ReloadPart, Renewed, RenewsNot}
use Rattle.kr_headline.proofs.HeardLines.{AsksPlugins}
use Rattle.kr_headline.proofs.RefreshKeys.{Renews, first_published}

-- what holds a configuration begins with it, and has two entries at least
abbrev pub Begins : Publication → List Entry → Type 0
Begins p part = (2 ≤ length part) × (first_published part ≡ Some p)

begins : (own : ℕ) (part : List Entry)
    (Is : (p : Publication) → (number : ℕ) → List Entry → Type 0) → (h : HoldsPart own part Is)
    → Begins h.p part
begins own part Is h = (
  (let long = ap length h.part_is in omega (arith, long, length-append h.mids (h.let_go ∷ []))),
  ap first_published h.part_is ∙ h.adopted,
)

-- the same entries, of which something else holds
holds_so : (own : ℕ) (part : List Entry)
    {First Second : (p : Publication) → (number : ℕ) → List Entry → Type 0}
    → (h : HoldsPart own part First) → Second h.p h.number h.mids → HoldsPart own part Second
holds_so own part h is = record {
  number = h.number;
  p = h.p;
  adopt = h.adopt;
  mids = h.mids;
  let_go = h.let_go;
  part_is = h.part_is;
  adopts = h.adopts;
  adopted = h.adopted;
  hold = h.hold;
  lets_go = h.lets_go;
  is = is;
}

module _ (F S O : Publication → Row → Type 0) (P Q : (name : List ℕ) → Type 0) (D E : Type 0)
    (M N : List Step → Type 0) (seat own : ℕ) (part : List Entry) (reply : Told)
    (plugin : (name : List ℕ) → reply ≡ told.FaultPlugin name → P name → Q name) (dice : D → E)
    (meets : (met : List Step) → M met → N met) where
  pub rewrite_mono : (given : Told) → reply ≡ given → RewritePart F S O P D M seat own part given
      → RewritePart F S O Q E N seat own part given
  rewrite_mono (told.Rewritten rewritten fresh changed left) is x =
      (x.0, x.1, meets x.0 x.2, x.3, x.4, x.5, x.6)
  rewrite_mono (told.FaultPlugin name) is x = (plugin name is x.0, x.1)
  rewrite_mono (told.FaultDice named) is x = (x.0, dice x.1, x.2)
  rewrite_mono given is x = x

-- what is so by any sources, and by those that were had
module _ (F S O G T U : Publication → Row → Type 0) (P : (name : List ℕ) → Type 0) (D : Type 0)
    (M : List Step → Type 0) (seat own : ℕ) (part : List Entry) where
  pub rewrite_both : (given : Told) → RewritePart F S O P D M seat own part given
      → RewritePart G T U (λ name. ⊤) D M seat own part given
      → RewritePart G T U P D M seat own part given
  rewrite_both (told.FaultPlugin name) x y = (x.0, y.1)
  rewrite_both given x y = y

-- by what the line asked, and what it tells
module _ (P Q : (name : List ℕ) → Type 0) (D E : Type 0)
    (B C : (name : List ℕ) → Field → (text : List ℕ) → Type 0)
    (K J G H : Publication → Type 0) (N : List setting → (name : List ℕ) → Type 0)
    (U : Publication → (resource plain : List ℕ) → ValueNo → Type 0)
    (R : (name : List ℕ) → Publication → Row → Type 0) (W X : Told → Type 0) (seat own : ℕ)
    (part : List Entry) (asked : ScriptLine) (reply : Told)
    (plugin : (name : List ℕ) → AsksPlugins asked → reply ≡ told.FaultPlugin name → P name
    → Q name) (dice : D → E)
    (breaks : (name : List ℕ) (field : Field) (text : List ℕ) → AsksPlugins asked
    → reply ≡ told.Unhealthy name field text → B name field text → C name field text)
    (keys : (p : Publication) → asked ≡ line.Refresh → reply ≡ told.Unchanged → Begins p part
    → K p → J p)
    (renews : (p : Publication) → asked ≡ line.Refresh → Renews reply → Begins p part → G p → H p)
    (rewrites : (given : Told) → asked ≡ line.Rewrite → reply ≡ given → W given → X given) where
  put_mono : (resource path plain : List ℕ) (given : Told)
      → PutPart P D B K G N U R W seat own part resource path plain given
      → PutPart Q E C J H N U R X seat own part resource path plain given
  put_mono resource path plain (told.FaultDice named) x = (x.0, dice x.1, x.2)
  put_mono resource path plain given x = x

  module _ (asks : AsksPlugins asked) where
    get_mono : (path : List ℕ) (given : Told) → reply ≡ given
        → GetPart P D B K G N U R W seat own part path given
        → GetPart Q E C J H N U R X seat own part path given
    get_mono path (told.FaultPlugin name) is x = (plugin name asks is x.0, x.1, x.2)
    get_mono path given is x = x

    brings_mono : (rows : List setting) (given : Told) → reply ≡ given
        → BringsPart P D B K G N U R W seat own part rows given
        → BringsPart Q E C J H N U R X seat own part rows given
    brings_mono rows (told.FaultPlugin name) is x = (plugin name asks is x.0, x.1, x.2)
    brings_mono rows (told.FaultDice named) is x = (x.0, dice x.1, x.2)
    brings_mono rows (told.Unhealthy name field text) is x =
        (breaks name field text asks is x.0, x.1, x.2)
    brings_mono rows given is x = absurd x

    reload_mono : (replica : ℕ) (rows : List setting) (given : Told) → reply ≡ given
        → ReloadPart P D B K G N U R W seat own part replica rows given
        → ReloadPart Q E C J H N U R X seat own part replica rows given
    reload_mono replica rows (told.Reloaded number) is x = x
    reload_mono replica rows (told.Refused verdict) is x = x
    reload_mono replica rows told.Gone is x = x
    reload_mono replica rows told.Memory is x = x
    reload_mono replica rows given is x = brings_mono rows given is x

    join_mono : (replica : ℕ) (rows : List setting) (given : Told) → reply ≡ given
        → JoinPart P D B K G N U R W seat own part replica rows given
        → JoinPart Q E C J H N U R X seat own part replica rows given
    join_mono replica rows (told.Joined number) is x = x
    join_mono replica rows (told.Present number) is x = x
    join_mono replica rows (told.Refused verdict) is x = x
    join_mono replica rows told.Memory is x = x
    join_mono replica rows given is x = brings_mono rows given is x

  delete_mono : (path : List ℕ) (given : Told)
      → DeletePart P D B K G N U R W seat own part path given
      → DeletePart Q E C J H N U R X seat own part path given
  delete_mono path told.Absent x = x
  delete_mono path given x = x

  leave_mono : (settings_in : (file : List ℕ) → Option (List setting)) (replica : ℕ) (given : Told)
      → PartIs P D B K G N U R W seat own part settings_in (line.Leave replica) given
      → PartIs Q E C J H N U R X seat own part settings_in (line.Leave replica) given
  leave_mono settings_in replica told.Gone x = x
  leave_mono settings_in replica given x = x

  module _ (refreshes : asked ≡ line.Refresh) where
    asks_some : AsksPlugins asked
    asks_some = subst AsksPlugins (sym refreshes) tt

    unchanged_mono : reply ≡ told.Unchanged → RenewsNot P D B K G N U R W seat own part K
        → RenewsNot Q E C J H N U R X seat own part J
    unchanged_mono is h = holds_so own part h (
      h.is.0,
      keys h.p refreshes is (begins own part (λ p number mids. (mids ≡ []) × K p) h) h.is.1,
    )

    renewed_mono : (given : Gave) → Renews reply → Renewed P D B K G N U R W seat own part given
        → Renewed Q E C J H N U R X seat own part given
    renewed_mono given some h = holds_so own part h (
      renews h.p refreshes some (begins own part (λ p number mids. G p × (anew : Publication)
          × (anew.rows ≡ p.rows)
          × IsOne mids (did.Reload own anew (Some number)) given (λ e. ⊤)) h) h.is.0,
      h.is.1,
      h.is.2,
      h.is.3,
    )

    renewing : (given : Told) → Renews given → reply ≡ given → Renews reply
    renewing given some is = subst Renews (sym is) some

    refresh_mono : (given : Told) → reply ≡ given
        → RefreshPart P D B K G N U R W seat own part given
        → RefreshPart Q E C J H N U R X seat own part given
    refresh_mono (told.Refreshed number) is x =
        renewed_mono (gave.Reloaded number) (renewing (told.Refreshed number) tt is) x
    refresh_mono (told.Moved number) is x =
        renewed_mono (gave.Moved number) (renewing (told.Moved number) tt is) x
    refresh_mono told.Unchanged is x = unchanged_mono is x
    refresh_mono told.Gone is (inl x) = inl x
    refresh_mono told.Gone is (inr x) =
        inr (renewed_mono (gave.Gone own) (renewing told.Gone tt is) x)
    refresh_mono (told.FaultPlugin name) is x = (plugin name asks_some is x.0, x.1)
    refresh_mono (told.FaultDice named) is x = (x.0, dice x.1, x.2)
    refresh_mono (told.Unhealthy name field text) is x =
        (breaks name field text asks_some is x.0, x.1)
    refresh_mono given is x = x

  asks_by : (it : ScriptLine) → asked ≡ it → AsksPlugins it → AsksPlugins asked
  asks_by it is asks = subst AsksPlugins (sym is) asks

  pub part_mono : (settings_in : (file : List ℕ) → Option (List setting)) (it : ScriptLine)
      (given : Told) → asked ≡ it → reply ≡ given
      → PartIs P D B K G N U R W seat own part settings_in it given
      → PartIs Q E C J H N U R X seat own part settings_in it given
  part_mono settings_in (line.Put resource path plain) given line_is is x =
      put_mono resource path plain given x
  part_mono settings_in (line.Get path) given line_is is x =
      get_mono (asks_by (line.Get path) line_is tt) path given is x
  part_mono settings_in (line.Delete path) given line_is is x = delete_mono path given x
  part_mono settings_in line.Rewrite given line_is is x = rewrites given line_is is x
  part_mono settings_in (line.Reload replica file) given line_is is x = (
    x.0,
    x.1,
    reload_mono (asks_by (line.Reload replica file) line_is tt) replica x.0 given is x.2,
  )
  part_mono settings_in line.Refresh given line_is is x = refresh_mono line_is given is x
  part_mono settings_in (line.Join replica file) given line_is is x = (
    x.0,
    x.1,
    join_mono (asks_by (line.Join replica file) line_is tt) replica x.0 given is x.2,
  )
  part_mono settings_in (line.Leave replica) given line_is is x =
      leave_mono settings_in replica given x
