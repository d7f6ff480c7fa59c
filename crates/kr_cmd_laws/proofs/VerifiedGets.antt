-- What a value is found to be by `verify` is what `get` of its path says, with plugins that answer as
-- they did.
use Rattle.std.proofs.Common.{◌≡◌, ℕ, Bool, true, false, List, [], ◌∷◌, Option, Some, Result, Ok, Err, refl, sym, ◌∙◌, ap, subst, inl, inr, Contains, suc, arith}
use Rattle.std.specs.Prelude.{All, ◌++◌}
use Rattle.std.proofs.lemmas.List.Elements.{All-head, All-tail, All-append, All-cons, All-nil}
use Rattle.kr_config.specs.Kept.{ConfigEntry}
use Rattle.kr_config.specs.Lists.{list_of}
use Rattle.kr_kms.specs.declared.seeds.SeedKey.{SeedKey}
use Rattle.kr_kms.specs.declared.seeds.SeedRow.{SeedRow}
use Rattle.kr_kms.specs.declared.world.WorldCall.TheVariants.{Tape, Returned}
use Rattle.kr_kms.specs.declared.world.Access.TheVariants.{ToRead}
use Rattle.kr_provider.specs.PluginOrder.{plugin_order}
use Rattle.kr_provider.specs.Publication.{Publication}
use Rattle.kr_provider.specs.declared.refusal.Opened.{Opened}
use Rattle.kr_provider.specs.declared.refusal.ValueNo.{ValueNo}
use Rattle.kr_store.specs.Rows.{live}
use Rattle.kr_store.specs.declared.rows.Row as stored
use Rattle.kr_cmd_messages.proofs.OneCommand.{one_command}
use Rattle.kr_cmd_messages.specs.declared.command.Command.TheVariants.{Verify}
use Rattle.kr_cmd_messages.specs.declared.command.Direction.TheVariants.{Decrypt}
use Rattle.kr_cmd_messages.specs.declared.command.Verification.{Verification}
use Rattle.kr_cmd_messages.specs.declared.refusal.Outcome.{Outcome}
use Rattle.kr_cmd_messages.specs.declared.refusal.Refusal.{Refusal}
use Rattle.kr_cmd_messages.specs.declared.refusal.Refusal.TheVariants.{Value}
use Rattle.kr_cmd_steps.specs.Environment.{Environment, step_state}
use Rattle.kr_cmd_steps.specs.ValueSteps.{bench_steps, data_steps, freshness, value_read, working, working_by, none_kept}
use Rattle.kr_cmd_steps.specs.Phases.{by_result, configuration, linking_programs, with_memory, read_for}
use Rattle.kr_cmd_steps.specs.Commands.{getting, steps, verifying}
use Rattle.kr_cmd_steps.specs.StoreSteps.{live_on, row_finding, row_findings, row_found, row_on, telling_findings, verifying_by, verifying_with}
use Rattle.kr_base.specs.Told.{Agrees}
use Rattle.kr_cmd_steps.specs.Configuration.{IsConfiguration}
use Rattle.kr_cmd_steps.specs.Plugins.{borrow_links, make_seeds, settings_programs}
use Rattle.kr_cmd_steps.specs.RowFindings.{finding_of, findings_outcome}
use Rattle.kr_cmd_steps.specs.Steps.{RunTo, StepState, Point, Steps, and_then, give, gives, refuses, with_asked, with_tape, give_back}
use Rattle.kr_cmd_steps.specs.StoreFiles.{Stored}
use Rattle.kr_cmd_steps.specs.declared.finding.Finding.{Finding}
use Rattle.kr_cmd_steps.specs.declared.programs.Program.{Program}
use Rattle.kr_cmd_steps.proofs.Ends.{value_end}
use Rattle.kr_cmd_steps.proofs.RunTo.{further}
use Rattle.kr_cmd_laws.specs.VerifyLaws.{AreLive, InPairs, IsGot, VerifiedRuns, lookup_as, VerifyTellsGets, listening}
use Rattle.kr_cmd_laws.proofs.TrueReadings.{IsTrueReading, value_again}
use Rattle.kr_cmd_laws.proofs.Joints.{joint, no_value, one_value}
use Rattle.kr_kms.specs.Cache.{CacheState}
use Rattle.kr_kms.specs.Exchanges.{AgreesWith, Exchange, UnwrapCall}
use Rattle.kr_kms.specs.Opens.{OpenAll, Opens}
use Rattle.kr_cmd_laws.proofs.HeardBefore.{AllTold, seeds_open, told_before}
use Rattle.kr_cmd_laws.proofs.Kept.{AreHeld, none_held}

-- ---- what `get` says of a reading

abbrev pub said_of : Result Opened ValueNo → Point Outcome
said_of (Ok opened) = gives (record { bytes = opened.plain; done = freshness opened.stale })
said_of (Err why) = refuses (Value why)

says : (read : Result Opened ValueNo) (left : StepState)
    → RunTo (said_of read) left (data_steps read) left
says (Ok opened) left = (refl, refl)
says (Err why) left = (refl, refl)

by_staleness : (plain : List ℕ) (stale : Bool)
    → IsGot (finding_of (Ok (record { plain = plain; stale = stale })))
    (gives (record { bytes = plain; done = freshness stale }))
by_staleness plain true = (plain, refl)
by_staleness plain false = (plain, refl)

pub got_as : (read : Result Opened ValueNo) → IsGot (finding_of read) (said_of read)
got_as (Ok opened) = by_staleness opened.plain opened.stale
got_as (Err why) = refl

-- ---- pairs

module _ {A B : Type 0} {P Q : A → B → Type 0} where
  pub in_pairs : (R : A → Type 0) (f : (x : A) (y : B) → R x → P x y → Q x y) (xs : List A)
      (ys : List B) → All R xs → InPairs P xs ys → InPairs Q xs ys
  in_pairs R f [] [] all p = tt
  in_pairs R f (x ∷ xs) (y ∷ ys) all p =
      (f x y (All-head R x xs all) p.0, in_pairs R f xs ys (All-tail R x xs all) p.1)
  in_pairs R f other another all p = absurd p

  pub map_pairs : (f : (x : A) (y : B) → P x y → Q x y) (xs : List A) (ys : List B)
      → InPairs P xs ys → InPairs Q xs ys
  map_pairs f [] [] p = tt
  map_pairs f (x ∷ xs) (y ∷ ys) p = (f x y p.0, map_pairs f xs ys p.1)
  map_pairs f other another p = absurd p

-- ---- the files of a command

-- the configuration was read
pub record IsConfigured (words : Verification) (old : Environment) (rows : List ConfigEntry) (first : StepState)
    : Type 0 where
  pub file : Option (List ℕ)
  pub told : Agrees (old.world.file words.config) file
  pub means : IsConfiguration words.config file (Ok rows)
  pub tapes : first.tapes ≡ old.world.tapes.told

module _ (words : Verification) (old : Environment) where
  pub configured : (rows : List ConfigEntry) (first : StepState)
      → RunTo (gives rows) first (configuration words.config) (step_state (listening old))
      → IsConfigured words old rows first
  configured rows first (inl at) = absurd (no_value at refl)
  configured rows first (inr (inl at)) = absurd (no_value at refl)
  configured rows first (inr (inr (file, agrees, inl at))) = absurd (no_value at refl)
  configured rows first (inr (inr (file, agrees, inr (Err why, is, at)))) =
      absurd (no_value at refl)
  configured rows first (inr (inr (file, agrees, inr (Ok read, is, at)))) = record {
    file = file;
    told = agrees;
    means = subst (λ r. IsConfiguration words.config file (Ok r)) (sym (one_value at)) is;
    tapes = ap (λ (l : StepState). l.tapes) at.1;
  }

  pub linked : (rows : List ConfigEntry) (programs : List Program) (first second : StepState)
      → RunTo (gives programs) second (linking_programs words.options rows) first
      → second ≡ first
  linked rows programs first second (inl at) = absurd (no_value at refl)
  linked rows programs first second (inr (u, v, goes)) =
      by_cases (settings_programs words.options (plugin_order rows)) goes
    where
      by_cases : (r : Result (List Program) Refusal)
          → RunTo (gives programs) second (by_result r) first → second ≡ first
      by_cases (Ok found) at = at.1
      by_cases (Err why) at = absurd (no_value at refl)

-- ---- by what plugins answered

module _ (P : Exchange → Type 0) where
  abbrev Agreed : Opens → Type 0
  Agreed opens = (e : Exchange) → P e → AgreesWith opens e

  abbrev AnsweredSo : SeedKey → List ℕ → Type 0
  AnsweredSo key seed = P (UnwrapCall key (Ok seed))

  abbrev Held : CacheState → Type 0
  Held kept = AreHeld AnsweredSo kept

  -- the row's value reads so, truly by any openings with which plugins agree, and these steps would
  -- come to what `get` says of that
  pub record Comes (rows : List ConfigEntry) (steps : stored.Row → Steps Outcome)
      (left : StepState) (row : stored.Row) (finding : Finding) : Type 0 where
    pub read : Result Opened ValueNo
    pub is : finding ≡ finding_of read
    pub truly : (opens : Opens) → Agreed opens
        → IsTrueReading opens (list_of rows row.resource) row.path row.stored read
    pub other : StepState
    pub told : AllTold P other.heard
    pub goes : RunTo (said_of read) other (steps row) left

  -- by steps that do what these do
  moved : {rows : List ConfigEntry} {steps others : stored.Row → Steps Outcome}
      {left mid : StepState} {row : stored.Row} {finding : Finding}
      → ((point : Point Outcome) (end : StepState) → RunTo point end (steps row) left
      → RunTo point end (others row) mid)
      → Comes rows steps left row finding → Comes rows others mid row finding
  moved f c = record {
    read = c.read;
    is = c.is;
    truly = c.truly;
    other = c.other;
    told = c.told;
    goes = f (said_of c.read) c.other c.goes;
  }

  -- ---- each row

  -- a row's value, and how it would be read again
  pub record IsRead (p : Publication) (row : stored.Row) (finding : Finding) : Type 0 where
    pub read : Result Opened ValueNo
    pub is : finding ≡ finding_of read
    pub own : List Exchange
    pub all : All P own
    pub after : CacheState
    pub goes : (l : StepState) (h : List Exchange)
        → RunTo (gives (read, after)) (record l { heard = Some (h ++ own) })
        (value_read p.seeds (list_of p.rows row.resource) row.path row.stored none_kept)
        (record l { heard = Some h })
    pub truly : (opens : Opens) → Agreed opens → OpenAll opens p.seeds
        → IsTrueReading opens (list_of p.rows row.resource) row.path row.stored read

  module _ (p : Publication) where
    abbrev value_of : stored.Row → CacheState → Steps (Result Opened ValueNo × CacheState)
    value_of row kept =
        value_read p.seeds (list_of p.rows row.resource) row.path row.stored kept

    abbrev next : Result Opened ValueNo × CacheState → Steps (Finding × CacheState)
    next read = give (finding_of read.0, read.1)

    -- the row's reading
    row_read : (row : stored.Row) (finding : Finding) (kept later : CacheState)
        (end left : StepState) → Held kept → AllTold P end.heard
        → RunTo (gives (finding, later)) end (row_finding p row kept) left
        → IsRead p row finding × Held later
    row_read row finding kept later end left held told goes =
        let j = joint next (finding, later) end (value_of row kept) left goes in
        let same : ◌≡◌ {A = Finding × CacheState} (finding, later) (finding_of j.0.0, j.0.1) =
        one_value j.3 in
        let v = value_again P p.seeds (list_of p.rows row.resource) row.path row.stored j.0.0 kept
        j.0.1 j.1 left held (subst (λ (l : StepState). AllTold P l.heard) j.3.1 told) j.2 in (
          record {
            read = j.0.0;
            is = ap (λ (x : Finding × CacheState). x.0) same;
            own = v.own;
            all = v.all;
            after = v.after;
            goes = v.goes;
            truly = v.truly;
          },
          subst Held (sym (ap (λ (x : Finding × CacheState). x.1) same)) v.held,
        )

    abbrev put_before : Finding → List Finding → Steps (List Finding)
    put_before finding more = give (finding ∷ more)

    abbrev others : List stored.Row → Finding × CacheState → Steps (List Finding)
    others live found = with_memory (and_then (row_findings p live found.1) (put_before found.0))

    abbrev AreRead : List stored.Row → List Finding → Type 0
    AreRead live findings = InPairs (IsRead p) live findings

    -- one row, and the others
    behind : (row : stored.Row) (live : List stored.Row) (findings : List Finding)
        (kept : CacheState) (end left : StepState) → Held kept → AllTold P end.heard
        → ((kept : CacheState) (more : List Finding) (last mid : StepState) → Held kept
        → AllTold P last.heard → RunTo (gives more) last (row_findings p live kept) mid
        → AreRead live more)
        → (found : Finding × CacheState) × (mid : StepState)
        × RunTo (gives found) mid (row_finding p row kept) left
        × RunTo (gives findings) end (others live found) mid
        → AreRead (row ∷ live) findings
    behind row live findings kept end left held told onward (found, mid, first, inl at) =
        absurd (no_value at refl)
    behind row live findings kept end left held told onward
        (found, mid, first, inr (u, v, goes)) =
        let k = joint (put_before found.0) findings end (row_findings p live found.1) mid goes in
        let late : AllTold P k.1.heard =
        subst (λ (l : StepState). AllTold P l.heard) k.3.1 told in
        let r = row_read row found.0 kept found.1 mid left held
        (told_before P (gives k.0) k.1 late (row_findings p live found.1) mid k.2) first in
        subst (AreRead (row ∷ live)) (sym (one_value k.3))
        (r.0, onward found.1 k.0 k.1 mid r.1 late k.2)

    pub rows_read : (live : List stored.Row) (findings : List Finding) (kept : CacheState)
        (end left : StepState) → Held kept → AllTold P end.heard
        → RunTo (gives findings) end (row_findings p live kept) left → AreRead live findings
    rows_read [] findings kept end left held told at =
        subst (AreRead []) (sym (one_value at)) tt
    rows_read (row ∷ live) findings kept end left held told goes =
        behind row live findings kept end left held told
        (λ k more last mid h t g. rows_read live more k last mid h t g)
        (joint (others live) findings end (row_finding p row kept) left goes)

  -- ---- with seeds, and with links

  -- what was found, told; and `get` of each row would come to that
  pub record Finds (rows : List ConfigEntry) (made : Outcome) (live : List stored.Row)
      (steps : stored.Row → Steps Outcome) (left : StepState) : Type 0 where
    pub findings : List Finding
    pub made_is : made ≡ findings_outcome live findings
    pub comes : InPairs (Comes rows steps left) live findings

  module _ (made : Outcome) (end : StepState) (told : AllTold P end.heard) (rows : List ConfigEntry)
      (live : List stored.Row) where
    abbrev read_row : stored.Row → Steps Outcome
    read_row row = working Decrypt row.resource row.path rows row.stored

    abbrev p_of : List SeedRow → Publication
    p_of seeds = record { rows = rows; seeds = seeds }

    told_so : (findings : List Finding) (left : StepState)
        → RunTo (gives made) end (telling_findings live findings) left
        → (made ≡ findings_outcome live findings) × (end ≡ left)
    told_so findings left (inl at) = absurd (no_value at refl)
    told_so findings left (inr (u, v, at)) = (one_value at, at.1)

    -- a row is read behind the same seeds
    read_so : (seeds : List SeedRow) (mid left : StepState) (t : AllTold P mid.heard)
        → RunTo (gives seeds) mid (make_seeds (plugin_order rows)) left
        → (row : stored.Row) (finding : Finding) → IsRead (p_of seeds) row finding
        → Comes rows read_row left row finding
    read_so seeds mid left t first row finding r =
        let other : StepState = record mid { heard = Some (t.0 ++ r.own) } in
        let list = list_of rows row.resource in record {
          read = r.read;
          is = r.is;
          truly = λ opens agreed. r.truly opens agreed
              (seeds_open P opens agreed (plugin_order rows) seeds mid left t first);
          other = other;
          told = (t.0 ++ r.own, refl, All-append P t.0 r.own t.2 r.all);
          goes = inr (
            tt,
            tt,
            further (said_of r.read) other
                (working_by Decrypt row.resource row.path rows row.stored) (gives seeds) mid
                (further (said_of r.read) other (λ read. data_steps read.0)
                (gives (r.read, r.after)) other (says r.read other)
                (value_read seeds list row.path row.stored none_kept) mid
                (subst (λ (l : StepState). RunTo (gives (r.read, r.after)) other
                (value_read seeds list row.path row.stored none_kept) l)
                (λ i. record mid { heard = sym t.1 i }) (r.goes mid t.0)))
                (make_seeds (plugin_order rows)) left first,
          );
        }

    pub with_seeds : (left : StepState) → RunTo (gives made) end (verifying_by rows live) left
        → Finds rows made live read_row left
    with_seeds left (inl at) = absurd (no_value at refl)
    with_seeds left (inr (u, v, goes)) =
        let j = joint (λ seeds. and_then (row_findings (p_of seeds) live none_kept)
        (telling_findings live)) made end (make_seeds (plugin_order rows)) left goes in
        let k = joint (telling_findings live) made end (row_findings (p_of j.0) live none_kept)
        j.1 j.3 in
        let said = told_so k.0 k.1 k.3 in
        let late : AllTold P k.1.heard =
        subst (λ (l : StepState). AllTold P l.heard) said.1 told in
        let t = told_before P (gives k.0) k.1 late (row_findings (p_of j.0) live none_kept) j.1
        k.2 in record {
          findings = k.0;
          made_is = said.0;
          comes = map_pairs (read_so j.0 j.1 left t j.2) live k.0
              (rows_read (p_of j.0) live k.0 none_kept k.1 j.1 (none_held AnsweredSo) late
              k.2);
        }

    pub with_links : (programs : List Program) (left : StepState)
        → RunTo (gives made) end (borrow_links programs (verifying_by rows live)) left
        → Finds rows made live (λ row. borrow_links programs (read_row row)) left
    with_links [] left goes = with_seeds left goes
    with_links (program ∷ programs) left (inl at) = absurd (no_value at refl)
    with_links (program ∷ programs) left (inr (inl at)) = absurd (no_value at refl)
    with_links (program ∷ programs) left (inr (inr goes)) =
        let f = with_links programs _ goes in record {
          findings = f.findings;
          made_is = f.made_is;
          comes = map_pairs (λ row finding c. moved (λ point end g. inr (inr g)) c) live f.findings
              f.comes;
        }

    pub with_dice : (programs : List Program) (left : StepState)
        → RunTo (gives made) end (verifying_with programs rows live) left
        → Finds rows made live
        (λ row. bench_steps programs Decrypt row.resource row.path rows row.stored) left
    with_dice programs left (inl at) = absurd (no_value at refl)
    with_dice programs left (inr (inl at)) = absurd (no_value at refl)
    with_dice programs left (inr (inr goes)) =
        let f = with_links programs _ goes in record {
          findings = f.findings;
          made_is = f.made_is;
          comes = map_pairs (λ row finding c. moved (λ point end g. inr (inr g)) c) live f.findings
              f.comes;
        }

  -- the configuration and the live rows, what each of them reads as, and what `get` of it comes to
  pub record Found (words : Verification) (old : Environment) (made : Outcome) : Type 0 where
    pub file : Option (List ℕ)
    pub rows : List ConfigEntry
    pub live : List stored.Row
    pub findings : List Finding
    pub told : Agrees (old.world.file words.config) file
    pub means : IsConfiguration words.config file (Ok rows)
    pub are_live : AreLive words old live
    pub made_is : made ≡ findings_outcome live findings
    pub comes : InPairs
        (Comes rows (λ row. getting (lookup_as words row.path)) (step_state (listening old)))
        live findings

  module _ (words : Verification) (old : Environment) (made : Outcome) (end : StepState)
      (told : AllTold P end.heard) where
    abbrev read_at : List ConfigEntry → List Program → List ℕ → stored.Row → Steps Outcome
    read_at rows programs path row =
        bench_steps programs Decrypt row.resource path rows row.stored

    abbrev looked_up : List ConfigEntry → List Program → List ℕ → Steps Outcome
    looked_up rows programs path =
        and_then (read_for words.store (row_on words.store path)) (read_at rows programs path)

    abbrev loaded : List ConfigEntry → List ℕ → Steps Outcome
    loaded rows path =
        and_then (linking_programs words.options rows) (λ programs. looked_up rows programs path)

    abbrev listed : List ConfigEntry → List Program → Steps Outcome
    listed rows programs = and_then (read_for words.store (live_on words.store))
        (verifying_with programs rows)

    abbrev IsThere : Stored → stored.Row → Type 0
    IsThere store row = live store.rows row.path ≡ Some row

    module _ (rows : List ConfigEntry) (programs : List Program) (first second : StepState)
        (read_is : IsConfigured words old rows first) (same : second ≡ first)
        (is_read : RunTo (gives rows) first (configuration words.config) (step_state (listening old)))
        (is_linked : RunTo (gives programs) second (linking_programs words.options rows) first) where
      -- `get` of a path comes to what comes of its row
      got_from : (path : List ℕ) (point : Point Outcome) (other : StepState)
          → RunTo point other (looked_up rows programs path) second
          → RunTo point other (getting (lookup_as words path)) (step_state (listening old))
      got_from path point other goes = further point other (λ rows. loaded rows path) (gives rows)
          first
          (further point other (λ programs. looked_up rows programs path) (gives programs)
          second goes (linking_programs words.options rows) first
          is_linked)
          (configuration words.config) (step_state (listening old))
          is_read

      abbrev lent : StepState
      lent = with_tape false words.store (with_asked (Tape words.store ToRead) second)

      by_tape : RunTo (gives made) end (listed rows programs) second → Found words old made
      by_tape (inl at) = absurd (no_value at refl)
      by_tape (inr (inl at)) = absurd (no_value at refl)
      by_tape (inr (inr (inl (never, agrees, at)))) = absurd (no_value at refl)
      by_tape (inr (inr (inr (may, inl at)))) = absurd (no_value at refl)
      by_tape (inr (inr (inr (may, inr (bytes, agrees, inl at))))) = absurd (no_value at refl)
      by_tape (inr (inr (inr (may, inr (bytes, agrees, inr (Err why, is, at)))))) =
          absurd (no_value at refl)
      by_tape (inr (inr (inr (may, inr (bytes, agrees, inr (Ok store, is, inl at)))))) =
          absurd (no_value at refl)
      by_tape
          (inr (inr (inr (may, inr (bytes, agrees, inr (Ok store, is, inr (listing, are, goes))))))) =
          let f = with_dice made end told rows listing programs
          (with_asked (Returned words.store) lent) goes in record {
            file = read_is.file;
            rows = rows;
            live = listing;
            findings = f.findings;
            told = read_is.told;
            means = read_is.means;
            are_live = record {
              bytes = bytes;
              store = store;
              held = subst (λ (tapes : List ℕ → Option (Option (List ℕ))).
                  Agrees (tapes words.store) (Some bytes))
                  (ap (λ (l : StepState). l.tapes) same ∙ read_is.tapes) agrees;
              read = is;
              listing = are;
            };
            made_is = f.made_is;
            comes = in_pairs (IsThere store) (λ row finding there c. moved (λ point other g.
                got_from row.path point other (inr (inr (inr (
                  may,
                  inr (
                    bytes,
                    agrees,
                    inr (
                      Ok store,
                      is,
                      inr (
                        tt,
                        tt,
                        subst (λ found. RunTo point other (and_then (and_then
                            (by_result (row_found row.path found))
                            (λ made. give_back words.store (give made)))
                            (read_at rows programs row.path)) lent) (sym there) g,
                      ),
                    ),
                  ),
                ))))) c) listing f.findings are.are_live f.comes;
          }

    more : (rows : List ConfigEntry) (first : StepState)
        → RunTo (gives rows) first (configuration words.config) (step_state (listening old))
        → (programs : List Program) × (second : StepState)
        × RunTo (gives programs) second (linking_programs words.options rows) first
        × RunTo (gives made) end (listed rows programs) second
        → Found words old made
    more rows first is_read (programs, second, is_linked, goes) = by_tape rows programs first second
        (configured words old rows first is_read)
        (linked words old rows programs first second is_linked) is_read is_linked goes

    so : (rows : List ConfigEntry) × (first : StepState)
        × RunTo (gives rows) first (configuration words.config) (step_state (listening old))
        × RunTo (gives made) end (and_then (linking_programs words.options rows)
        (λ programs. listed rows programs)) first
        → Found words old made
    so (rows, first, is_read, goes) = more rows first is_read
        (joint (λ programs. listed rows programs) made end (linking_programs words.options rows)
        first goes)

    pub found : RunTo (gives made) end (verifying words) (step_state (listening old)) → Found words old made
    found goes = so (joint (λ rows. and_then (linking_programs words.options rows)
        (λ programs. listed rows programs)) made end (configuration words.config) (step_state (listening old)) goes)

-- each of them is one of them
each_known : (all es : List Exchange) → ((e : Exchange) → Contains es e → Contains all e)
    → All (Contains all) es
each_known all [] sub = All-nil (Contains all)
each_known all (e ∷ es) sub = All-cons (Contains all) e es (sub e (0, omega arith, refl))
    (each_known all es (λ x c. sub x (suc c.0, omega (arith, c.1), c.2)))

-- what a reader takes of it
pub verified : VerifyTellsGets
verified words old exchanges made may =
    let f = found (Contains exchanges) words old made may.end
    (exchanges, may.heard, each_known exchanges exchanges (λ e c. c)) may.goes in record {
      live = f.live;
      findings = f.findings;
      are_live = f.are_live;
      made_is = f.made_is;
      got = map_pairs (λ row finding c. (
        said_of c.read,
        subst (λ g. IsGot g (said_of c.read)) (sym c.is) (got_as c.read),
        (c.told.0, c.told.2, record { end = c.other; goes = c.goes; heard = c.told.1 }),
      )) f.live f.findings f.comes;
    }

-- of a call that was done
pub verified_run : VerifiedRuns
verified_run words asked old new exchanges output errors status asks
    (made, (said, comes), status_is, appends, line) =
    let is : comes.command ≡ Verify asked = one_command comes.asks asks in
    let r = value_end comes.reaches in (
      made,
      verified asked old exchanges made (record {
        end = r.end;
        goes = subst (λ c. RunTo (gives made) r.end (steps c) (step_state (listening old))) is r.goes;
        heard = sym r.stays.heard;
      }),
      status_is,
      appends,
    )
