-- The exchanges of a drive as far as they were made, and what a row's reading does by the next.
use Rattle.std.proofs.Common.{◌≡◌, ℕ, ◌-◌, List, ◌++◌, length, take, Option, Some, Result, Ok, Err, sym, ◌∙◌, ap, subst, append_assoc, arith, length-append}
use Rattle.std.proofs.Math.Seq.{take-append_seam}
use Rattle.kr_config.specs.Lists.{list_of}
use Rattle.kr_kms.specs.Cache.{CacheState}
use Rattle.kr_kms.specs.Calls.{Link}
use Rattle.kr_kms.specs.Exchanges.{Exchange}
use Rattle.kr_provider.specs.AskedLinks.{AskedOnly, FaultRose}
use Rattle.kr_provider.specs.Envelopes.{HasObject}
use Rattle.kr_provider.specs.Exchanges.{ReadsBy, fetched, no_memory, unasked}
use Rattle.kr_provider.specs.Names.{AreDistinct}
use Rattle.kr_provider.specs.Publication.{Publication, list_at}
use Rattle.kr_provider.specs.Reading.{HasSomeReading, data_of}
use Rattle.kr_provider.specs.declared.refusal.Opened.{Opened}
use Rattle.kr_provider.specs.declared.refusal.UnsealNo.{UnsealNo}
use Rattle.kr_provider.specs.declared.refusal.UnsealNo.TheVariants as unseal
use Rattle.kr_provider.specs.declared.refusal.ValueNo.{ValueNo}
use Rattle.kr_store.specs.declared.rows.Row.{Row}
use Rattle.kr_rewrite.specs.DriveExchanges.{Ahead, ReadsRow}
use Rattle.kr_cmd_messages.specs.declared.refusal.Stop.{Stop}
use Rattle.kr_cmd_steps.specs.Environment.{Environment, with_exchanges}
use Rattle.kr_cmd_steps.specs.ValueSteps.{value_read}
use Rattle.kr_cmd_steps.specs.inner.Phases.{Does}
use Rattle.kr_cmd_steps.proofs.Frames.{Seen}
use Rattle.kr_cmd_steps.proofs.Hearing.{around_more}
use Rattle.kr_cmd_steps.proofs.ValueRead.{IsValueEnd, keeping, value_goes}
use Rattle.kr_kms.specs.declared.plugin.KmsNo.TheVariants as kms

-- a value that was read has a reading
pub some_reading : (p : Publication) (row : Row) (from : Ahead) (opened : Opened) (to : Ahead)
    → ReadsRow p row from (Ok opened) to
    → HasSomeReading (list_at p row.resource) row.path row.stored (data_of opened.plain)
some_reading p row from opened to r = by r.first r.reads
  where
    by : (es : List Exchange)
        → ReadsBy p.seeds (list_at p row.resource) row.path row.stored from.cache (Ok opened)
        to.cache es
        → HasSomeReading (list_at p row.resource) row.path row.stored (data_of opened.plain)
    by _ (no_memory is same) = absurd (let e : Ok opened ≡ Err unseal.NoMemory = is in cc)
    by _ (unasked envelope has takes none own reads same) = (envelope, has, reads.0)
    by es (fetched name object (Ok source) reader has may fetches answers) = (
      record { object = Ok object; source = Some source },
      subst (λ r. HasObject r row.stored (Ok object)) (sym reader) has,
      answers.0,
    )
    by es (fetched name object (Err kms.Failed) reader has may fetches answers) =
        absurd (let e : Ok opened ≡ Err (unseal.PluginFailed name) = answers in cc)
    by es (fetched name object (Err kms.NoMemory) reader has may fetches answers) =
        absurd (let e : Ok opened ≡ Err unseal.NoMemory = answers in cc)

-- ---- where all exchanges of a drive are these

module _ (all : List Exchange) where
  -- those that were made, where these are still to come
  abbrev pub past : Ahead → List Exchange
  past s = take (length all - length s.exchanges) all

  pub past_is : (done : List Exchange) (s : Ahead) → all ≡ done ++ s.exchanges → past s ≡ done
  past_is done s are =
      let whole = ap length are in
      let parts = length-append done s.exchanges in
      let n : length all - length s.exchanges ≡ length done = omega (arith, whole, parts) in
      ap (λ k. take k all) n ∙ ap (λ l. take (length done) l) are
      ∙ take-append_seam done s.exchanges

  -- a drive stands there
  pub record Follows (s : Ahead) : Type 0 where
    pub done : List Exchange
    pub are : all ≡ done ++ s.exchanges

  pub follows_next : (p : Publication) (row : Row) (from : Ahead)
      (opened : Result Opened UnsealNo) (to : Ahead) → Follows from → ReadsRow p row from opened to
      → Follows to
  follows_next p row from opened to f r = record {
    done = f.done ++ r.first;
    are = f.are ∙ ap (λ l. f.done ++ l) r.are ∙ sym (append_assoc f.done r.first to.exchanges);
  }

-- what a row's reading does, where its links come to be these
module _ {L : Type 0} (link : L → Link) (all : List Exchange) (links news : List L)
    (distinct : AreDistinct link links) (dice : Option (List ℕ)) (count : ℕ) (a : Environment)
    (p : Publication) (row : Row) (from : Ahead) (opened : Result Opened UnsealNo) (to : Ahead)
    (f : Follows all from) (r : ReadsRow p row from opened to) where
  abbrev Here : Ahead → List L → Environment
  Here s now = Seen link (with_exchanges (past all s) a) now dice count

  abbrev Value : Environment → Environment → Result (Result Opened ValueNo × CacheState) Stop → Type 0
  Value old new made = Does
      (value_read p.seeds (list_of p.rows row.resource) row.path row.stored from.cache) old new made

  pub value_heard : (made : Result (Result Opened ValueNo) Stop) (names : List (List ℕ))
      → AskedOnly link names links news
      → ((name : List ℕ) → opened ≡ Err (unseal.PluginFailed name)
      → FaultRose link name links news)
      → IsValueEnd link news opened made
      → Value (Here from links) (Here to news) (keeping to.cache made)
  unfolding follows_next
  value_heard made names asked fails e =
      let next = follows_next all p row from opened to f r in
      let does = value_goes link p.seeds (list_of p.rows row.resource) row.path row.stored
      links news distinct dice count (with_exchanges f.done a) from.cache opened made names asked
      fails e to.cache r.first r.reads in
      subst (λ es. Value (Seen link (with_exchanges es a) links dice count) (Here to news)
      (keeping to.cache made))
      (sym (past_is all f.done from f.are))
      (subst (λ es. Value (Seen link (with_exchanges f.done a) links dice count)
      (Seen link (with_exchanges es a) news dice count) (keeping to.cache made))
      (sym (past_is all next.done to next.are))
      (subst (λ b. Value (Seen link (with_exchanges f.done a) links dice count)
      (Seen link b news dice count) (keeping to.cache made)) (around_more f.done r.first a) does))
