-- A drive that a plugin's failure cut short: the count of that plugin's link rose.
use Rattle.std.proofs.Common.{◌≡◌, ℕ, List, Bool, true, false, Option, Result, Ok, Err, sym, ◌∙◌, ap, subst, inl, inr, Contains}
use Rattle.kr_base.proofs.Counting.{Rose-later}
use Rattle.kr_kms.specs.Calls.{Link}
use Rattle.kr_provider.specs.AskedLinks.{AskedOnly, FaultRose}
use Rattle.kr_provider.specs.Names.{names_of}
use Rattle.kr_provider.specs.Publication.{Publication, list_at}
use Rattle.kr_provider.specs.Unsealing.{UnsealsBy}
use Rattle.kr_provider.specs.declared.refusal.Opened.{Opened}
use Rattle.kr_provider.specs.declared.refusal.SealNo.{SealNo}
use Rattle.kr_provider.specs.declared.refusal.SealNo.TheVariants as seal
use Rattle.kr_provider.specs.declared.refusal.UnsealNo.{UnsealNo}
use Rattle.kr_provider.specs.declared.refusal.UnsealNo.TheVariants as unseal
use Rattle.kr_provider.proofs.AskedLists.{twin}
use Rattle.kr_store.specs.declared.rows.Row.{Row}
use Rattle.kr_store.proofs.Listings.{contains_mapped}
use Rattle.kr_rollout.specs.declared.answer.Answer.{Answer}
use Rattle.kr_rollout.specs.declared.answer.Answer.TheVariants as answer
use Rattle.kr_history.specs.declared.call.CallNo.{CallNo}
use Rattle.kr_history.specs.declared.call.CallNo.TheVariants as no
use Rattle.kr_history.specs.Acting.{Caller}
use Rattle.kr_history.specs.Calls.{LetsGo}
use Rattle.kr_rewrite.specs.Drives.{IsDrive}
use Rattle.kr_rewrite.specs.Rewrites.{IsStep, ReplacesBy, ResealsBy, Rewrites, RewritesBy, RewritesData, Steps, unsealed_step}
use Rattle.kr_rewrite.specs.declared.outcome.Report.{Report}
use Rattle.kr_rewrite.specs.declared.outcome.Step.{Step}

-- a plugin failed
abbrev IsFault : Result Step CallNo → Type 0
IsFault (Err (no.PluginFailed plugin)) = Unit {0}
IsFault result = ⊥

abbrev plugin_in : List ℕ → Result Step CallNo → List ℕ
plugin_in other (Err (no.PluginFailed plugin)) = plugin
plugin_in other result = other

module _ {L D : Type 0} (link : L → Link) (left : D → Option (List ℕ))
    (count : D → ℕ) (n : List ℕ) where
  abbrev Failed : Result Step CallNo
  Failed = Err (no.PluginFailed n)

  no_fault : {A : Type 0} (result : Result Step CallNo) → Failed ≡ result → (IsFault result → ⊥)
      → A
  no_fault result e none = absurd (none (subst IsFault e tt))

  seal_fault : {A : Type 0} (path : List ℕ) (reason : SealNo) → Failed ≡ unsealed_step path reason
      → A
  seal_fault path seal.LooksEncrypted e = no_fault (unsealed_step path seal.LooksEncrypted) e
      (λ is. is)
  seal_fault path (seal.TooLarge size) e = no_fault (unsealed_step path (seal.TooLarge size)) e
      (λ is. is)
  seal_fault path seal.DiceFailed e = no_fault (unsealed_step path seal.DiceFailed) e (λ is. is)
  seal_fault path seal.NoMemory e = no_fault (unsealed_step path seal.NoMemory) e (λ is. is)

  replace_fault : {A : Type 0} (path : List ℕ) (given : Answer) → ReplacesBy path given Failed → A
  replace_fault path (answer.Written m) d = no_fault _ d (λ is. is)
  replace_fault path (answer.Changed last) d = no_fault _ d (λ is. is)
  replace_fault path answer.StoreFailed d = no_fault _ d (λ is. is)
  replace_fault path (answer.StoreFull needed) d = no_fault _ d (λ is. is)
  replace_fault path answer.NoMemory d = no_fault _ d (λ is. is)
  replace_fault path given d = absurd d

  module _ (p : Publication) (row : Row) (found acted : Caller) (olds news : List L)
      (dice after : D) where
    reseal_fault : {A : Type 0} (plain : List ℕ) (sealed : Result (List ℕ) SealNo)
        → ResealsBy p row plain sealed found Failed acted → A
    reseal_fault plain (Ok stored) (inl o) = replace_fault row.path o.given o.answers
    reseal_fault plain (Ok stored) (inr s) = no_fault _ s.1 (λ is. is)
    reseal_fault plain (Err reason) r = seal_fault row.path reason r.0

    data_fault : {A : Type 0} (plain : List ℕ) (stale : Bool)
        → RewritesData left count p row plain stale found dice Failed acted after → A
    data_fault plain false r = no_fault _ r.0 (λ is. is)
    data_fault plain true (inl r) = reseal_fault plain r.sealed r.reseals
    data_fault plain true (inr r) = no_fault _ r.0 (λ is. is)

    open_fault : (opened : Result Opened UnsealNo)
        → UnsealsBy link p.seeds (list_at p row.resource) row.path row.stored olds opened
        news → RewritesBy left count p row opened found dice Failed acted after
        → FaultRose link n olds news
    open_fault (Ok opened) u r = data_fault opened.plain opened.stale r
    open_fault (Err (unseal.Refused reason)) u r = no_fault _ r.0 (λ is. is)
    open_fault (Err (unseal.PluginFailed plugin)) u r =
        subst (λ q. FaultRose link q olds news) (sym (ap (plugin_in n) r.0)) u.rose
    open_fault (Err unseal.NoMemory) u r = no_fault _ r.0 (λ is. is)

    rewrite_fault : Rewrites link left count p row found olds dice Failed acted news after
        → FaultRose link n olds news
    rewrite_fault (inl r) = open_fault r.opened r.unseals r.rewrites
    rewrite_fault (inr c) = no_fault _ c.0.0 (λ is. is)

  steps_fault : (p : Publication) (above : List ℕ) (adopted acted : Caller) (olds news : List L)
      (dice after : D)
      → Steps link left count p above adopted olds dice Failed acted news after
      → FaultRose link n olds news
  steps_fault p above adopted acted olds news dice after (inl none) = absurd none.0
  steps_fault p above adopted acted olds news dice after (inr f) =
      rewrite_fault p f.row f.found acted olds news dice after f.rewrites

  step_fault : (above : List ℕ) (old new : Caller) (olds news : List L) (dice after : D)
      → IsStep link left count 0 above old olds dice Failed new news after
      → FaultRose link n olds news
  step_fault above old new olds news dice after (inl early) = absurd early.0
  step_fault above old new olds news dice after (inr h) = by h.done h.does h.lets_go
    where
      by : (done : Result Step CallNo)
          → Steps link left count h.p above h.adopted olds dice done h.acted news after
          → LetsGo h.acted done Failed new → FaultRose link n olds news
      by done d (inl g) = steps_fault h.p above h.adopted h.acted olds news dice after
          (subst (λ r. Steps link left count h.p above h.adopted olds dice r h.acted news
          after) (sym g.1) d)
      by done d (inr s) = no_fault _ s.1 (λ is. is)

  -- its count had not fallen before
  before_it : (olds mids news : List L) → AskedOnly link (names_of link olds) olds mids
      → FaultRose link n mids news → FaultRose link n olds news
  before_it olds mids news asked f =
      let first = twin link (names_of link olds) olds mids f.old asked f.old_there in record {
        old = first.0;
        new = f.new;
        old_there = first.1;
        new_there = f.new_there;
        old_named = sym first.2.name ∙ f.old_named;
        new_named = f.new_named;
        rose = Rose-later (link first.0).count (link f.old).count (link f.new).count first.2.later
            f.rose;
      }

  pub drive_fault : (above : List ℕ) (old new : Caller) (olds news : List L) (dice after : D)
      (report : Report)
      → IsDrive link left count 0 above old olds dice (Err (report, no.PluginFailed n)) new
      news after → FaultRose link n olds news
  drive_fault above old new olds news dice after report (inl d) =
      let e = d.ends in
      before_it olds e.mids news e.walks_asked
      (step_fault _ e.middle new e.mids news e.between after e.ends)
  drive_fault above old new olds news dice after report (inr c) =
      absurd (let e : no.PluginFailed n ≡ no.NoMemory = c.why_is in cc)

-- of any drive that was cut short so
pub fault_of : {L D : Type 0} (link : L → Link) (left : D → Option (List ℕ))
    (count : D → ℕ) (above : List ℕ) (old new : Caller) (olds news : List L) (dice after : D)
    (report : Report) (why : CallNo)
    → IsDrive link left count 0 above old olds dice (Err (report, why)) new news after
    → (plugin : List ℕ) → why ≡ no.PluginFailed plugin → FaultRose link plugin olds news
fault_of link left count above old new olds news dice after report why d plugin is =
    drive_fault link left count plugin above old new olds news dice after report
    (subst (λ w. IsDrive link left count 0 above old olds dice (Err (report, w)) new news
    after) is d)

-- so there is a link to it
pub fault_named : {L : Type 0} (link : L → Link) (plugin : List ℕ) (olds news : List L)
    → FaultRose link plugin olds news → Contains (names_of link news) plugin
fault_named link plugin olds news f = subst (Contains (names_of link news)) f.new_named
    (contains_mapped (λ l. (link l).name) news f.new f.new_there)
