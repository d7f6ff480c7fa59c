-- The steps by which seeds are made, by what was asked of the plugins.
use Rattle.std.proofs.Common.{◌≡◌, ◌≢◌, ◌⊎◌, ℕ, ◌≤◌, List, [], ◌∷◌, ◌++◌, length, Option, None, Some, Result, Ok, Err, refl, sym, ◌∙◌, ap, subst, inl, inr, Contains, append_assoc}
use Rattle.std.specs.Prelude.{IsTrue}
use Rattle.std.specs.Io.KnownBytes.{Consumes, Keeps}
use Rattle.std.proofs.KnownBytes.{Keeps-refl}
use Rattle.kr_base.specs.Told.{Agrees}
use Rattle.kr_config.specs.Kept.{ConfigEntry, keeps, plugins_in}
use Rattle.kr_config.specs.Nexts.{IsNextName}
use Rattle.kr_kms.specs.Calls.{Link}
use Rattle.kr_kms.specs.Exchanges.{Exchange, StatusCall, WrapCall}
use Rattle.kr_kms.specs.Health.{breach_in, seed_no}
use Rattle.kr_kms.specs.Seeds.{Draws, MakesSeedBy, dice_failed, made, no_memory, no_status, not_wrapped, unhealthy}
use Rattle.kr_kms.specs.declared.health.Field.{Field}
use Rattle.kr_kms.specs.declared.health.SeedNo.{SeedNo}
use Rattle.kr_kms.specs.declared.health.SeedNo.TheVariants as no_seed
use Rattle.kr_kms.specs.declared.plugin.KmsNo.{KmsNo}
use Rattle.kr_kms.specs.declared.plugin.KmsNo.TheVariants as kms
use Rattle.kr_kms.specs.declared.plugin.Status.{Status}
use Rattle.kr_kms.specs.declared.plugin.Wrapped.{Wrapped}
use Rattle.kr_kms.specs.declared.seeds.SeedRow.{SeedRow}
use Rattle.kr_provider.specs.AskedLinks.{AskedOnly}
use Rattle.kr_provider.specs.Exchanges.{IsRefusalAt, MakesSeedsBy, PublishesBy, all_made, no_name, no_room, refused, went_on, with_seed_first}
use Rattle.kr_provider.specs.Names.{AreDistinct, names_of}
use Rattle.kr_provider.specs.PluginOrder.{plugin_order}
use Rattle.kr_provider.specs.Publication.{Publication}
use Rattle.kr_provider.specs.Publishing.{Publishes}
use Rattle.kr_provider.specs.declared.refusal.PublishNo.{PublishNo}
use Rattle.kr_provider.specs.declared.refusal.PublishNo.TheVariants as publishing
use Rattle.kr_provider.proofs.AskedLists.{asked_none}
use Rattle.kr_cmd_steps.specs.Environment.{Environment, Ends, IsHome, StepsEndAt, IsStateOf, with_exchanges}
use Rattle.kr_cmd_steps.specs.Plugins.{make_seed, make_seeds, unless_breach, wrap_seed}
use Rattle.kr_cmd_steps.specs.Steps.{Steps, RunTo, StepState, Point, and_then, asking, awaits, drawing, give, gives, hearing, instead, with_dice, with_heard}
use Rattle.kr_base.specs.Visible.{visible}
use Rattle.kr_cmd_messages.specs.declared.refusal.Refusal.TheVariants.{Unhealthy}
use Rattle.kr_cmd_messages.specs.declared.refusal.Stop.{Stop}
use Rattle.kr_cmd_messages.specs.declared.refusal.Stop.TheVariants.{NoMemory}
use Rattle.kr_cmd_steps.specs.inner.Phases.{Does}
use Rattle.kr_cmd_steps.specs.inner.Plugins.{IsPublishStop, NamesAFailure}
use Rattle.kr_cmd_steps.proofs.Frames.{Seen, drawn, home, kept, plugin_fault}
use Rattle.kr_cmd_steps.proofs.RunTo.{consumes_by, joins, reach}
use Rattle.kr_cmd_steps.proofs.Halts.{Halt, at_call, declines, halts_on, lacks, point_at}
use Rattle.kr_cmd_steps.proofs.Hearing.{around_more, heard_more, heard_none, home_heard, stays_heard}
use Rattle.kr_cmd_steps.proofs.Links.{named_there}
use Rattle.kr_cmd_steps.proofs.NamedPrograms.{ArePassed, all_passed, none_passed, one_passed, stands_next}
use Rattle.kr_cmd_steps.proofs.Telling.{TellAll, status_in, tell_parts}

-- where the steps of one plugin end, by why it makes no seed
abbrev halt_of : List ℕ → SeedNo → Halt
halt_of name no_seed.Failed = at_call (asking 0 name)
halt_of name no_seed.DiceFailed = at_call (drawing 0)
halt_of name (no_seed.Unhealthy field text) = declines (Unhealthy name field (visible text))
halt_of name no_seed.NoMemory = lacks

-- where the steps of all of them may, by what is told of it
abbrev MayHalt : PublishNo → Halt → Type 0
MayHalt (publishing.PluginFailed name) h = h ≡ at_call (asking 0 name)
MayHalt publishing.DiceFailed h = h ≡ at_call (drawing 0)
MayHalt (publishing.Unhealthy name field text) h =
    (h ≡ declines (Unhealthy name field (visible text))) ⊎ (h ≡ lacks)
MayHalt publishing.NoMemory h = h ≡ lacks

module _ (name : List ℕ) (h : Halt) where
  so : {refusal told : PublishNo} → refusal ≡ told → MayHalt refusal h → MayHalt told h
  so is may = subst (λ r. MayHalt r h) is may

  -- it is where the plugin's own steps end, or memory lacks
  by_refusal : (why : SeedNo) (refusal : PublishNo) → IsRefusalAt name why refusal
      → MayHalt refusal h → (h ≡ halt_of name why) ⊎ ((h ≡ lacks) × (why ≢ no_seed.DiceFailed))
  by_refusal no_seed.Failed refusal is may = inl (so is may)
  by_refusal no_seed.DiceFailed refusal is may = inl (so is may)
  by_refusal (no_seed.Unhealthy field text) refusal is may = elim (so is may) [
    | inl e ↦ inl e
    | inr e ↦ inr (e, λ q. absurd (cc))
  ]
  by_refusal no_seed.NoMemory refusal is may = inl (so is may)

none_behind : (front behind : List (List ℕ)) → front ++ behind ≡ front → behind ≡ []
none_behind [] behind e = e
none_behind (name ∷ front) behind e = none_behind front behind cc

same_behind : (front behind others : List (List ℕ)) → front ++ behind ≡ front ++ others
    → behind ≡ others
same_behind [] behind others e = e
same_behind (name ∷ front) behind others e = same_behind front behind others cc

-- ---- while these links are out; no link is told to be asked, since all that is told of them stays

module _ {L D : Type 0} (link : L → Link) (left : D → Option (List ℕ))
    (count : D → ℕ) (links : List L) where
  abbrev Here : Environment → D → Environment
  Here a dice = Seen link a links (left dice) (count dice)

  same : AskedOnly link [] links links
  same = asked_none link [] links

  abbrev Told : Environment → List Exchange → Type 0
  Told a es = TellAll (status_in link links a.world.links) es

  module _ (a : Environment) (name : List ℕ) (dice : D) (l : StepState)
      (s : IsStateOf l (Here a dice)) where
    kept_so : (after : D) (es : List Exchange) (heard : Option (List Exchange))
        → Keeps (left dice) (left after) → hearing es l.heard ≡ heard
        → IsStateOf (record l { heard = heard }) (with_exchanges es (Here a after))
    kept_so after es heard k is = stays_heard {left = l} es heard is (kept link a [] links links same
        (left dice) (left after) (count dice) (count after) k l s)

    drawn_so : (after : D) (es : List Exchange) (heard : Option (List Exchange))
        → hearing es l.heard ≡ heard
        → IsStateOf (record (with_dice 0 (left after) l) { heard = heard })
        (with_exchanges es (Here a after))
    drawn_so after es heard is = stays_heard {left = with_dice 0 (left after) l} es heard is
        (drawn link a [] links links same (left dice) (left after) (count dice) (count after) l s)

    agrees : (status : Status) → Agrees (status_in link links a.world.links name) status
        → Agrees (l.links (0, name)) status
    agrees status h =
        subst (λ (told : ℕ × List ℕ → Option Status). Agrees (told (0, name)) status) s.links h

    drawn_bytes : (seed : List ℕ) (after : D) → Draws left count dice seed after
        → Consumes (l.dice 0) (left after) seed
    drawn_bytes seed after d =
        consumes_by seed (l.dice 0) (left dice) (left after) (s.dice 0) d.1

    abbrev Asked : Status → StepState
    Asked status = with_heard (StatusCall name (Ok status)) l

    -- the status was answered
    answered : (status : Status) (breach : Option (Field × List ℕ)) {point : Point SeedRow}
        {end : StepState} → Agrees (status_in link links a.world.links name) status
        → breach_in status ≡ breach
        → RunTo point end (unless_breach name breach (wrap_seed name)) (Asked status)
        → RunTo point end (make_seed name) l
    answered status breach {point} {end} h is goes = inr (inr (inr (
      status,
      agrees status h,
      subst (λ b. RunTo point end (unless_breach name b (wrap_seed name)) (Asked status)) (sym is)
          goes,
    )))

    two_heard : (first second : Exchange) → hearing (first ∷ second ∷ []) l.heard
        ≡ hearing (second ∷ []) (hearing (first ∷ []) l.heard)
    two_heard first second = sym (heard_more (first ∷ []) (second ∷ []) l.heard)

    -- what was drawn was wrapped, or wasn't
    module _ (status : Status) (seed : List ℕ) (after : D) (draws : Draws left count dice seed after)
      where
        abbrev Drawn : StepState
        Drawn = with_dice 0 (left after) (Asked status)

        abbrev Behind : Exchange → StepState
        Behind e = with_heard e Drawn

        wrapped_so : (e : Exchange) → IsStateOf (Behind e)
            (with_exchanges (StatusCall name (Ok status) ∷ e ∷ []) (Here a after))
        wrapped_so e = drawn_so after (StatusCall name (Ok status) ∷ e ∷ [])
            (hearing (e ∷ []) (hearing (StatusCall name (Ok status) ∷ []) l.heard))
            (two_heard (StatusCall name (Ok status)) e)

    -- ---- one plugin

    one_made : (row : SeedRow) (after : D) (es : List Exchange)
        → MakesSeedBy left count name dice (Ok row) after es → Told a es
        → StepsEndAt (make_seed name) l (with_exchanges es (Here a after)) (gives row)
    one_made row after _ (no_status why is stays) told = absurd (cc)
    one_made row after _ (unhealthy status field text breach is stays) told = absurd (cc)
    one_made row after _ (no_memory status healthy is stays) told = absurd (cc)
    one_made row after _ (dice_failed status healthy is fails) told = absurd (cc)
    one_made row after _ (not_wrapped status seed why healthy draws is) told = absurd (cc)
    one_made row after _ (made status seed wrapped healthy draws is) told =
        let e : Exchange = WrapCall name seed (Ok wrapped) in
        reach (Behind status seed after draws e) (answered status None told.0 healthy (inr (
          seed,
          left after,
          drawn_bytes seed after draws,
          draws.0,
          inr (inr (inr (
            wrapped,
            told.1.0,
            (ap (λ (r : SeedRow). gives r) cc, refl),
          ))),
        ))) (wrapped_so status seed after draws e)

    abbrev Halts : D → List Exchange → Halt → Type 0
    Halts after es h =
        StepsEndAt (make_seed name) l (with_exchanges es (Here a after)) (point_at h)

    none_drawn : (after : D) → after ≡ dice → Keeps (left dice) (left after)
    none_drawn after is = subst (λ d. Keeps (left dice) (left d)) (sym is) (Keeps-refl (left dice))

    no_answer : (cause : KmsNo) (after : D) → after ≡ dice
        → Halts after (StatusCall name (Err cause) ∷ []) (halt_of name (seed_no cause))
    no_answer kms.Failed after is =
        reach (with_heard (StatusCall name (Err kms.Failed)) l) (inr (inr (inl (refl, refl))))
        (kept_so after (StatusCall name (Err kms.Failed) ∷ []) _ (none_drawn after is) refl)
    no_answer kms.NoMemory after is =
        reach (with_heard (StatusCall name (Err kms.NoMemory)) l)
        (inr (inl (Err kms.NoMemory, (refl, refl))))
        (kept_so after (StatusCall name (Err kms.NoMemory) ∷ []) _ (none_drawn after is) refl)

    -- memory lacked behind the status, with or without a draw
    status_lacks : (status : Status) (after : D) → after ≡ dice
        → Halts after (StatusCall name (Ok status) ∷ []) lacks
    status_lacks status after is = reach (Asked status) (inr (inl (Ok status, (refl, refl))))
        (kept_so after (StatusCall name (Ok status) ∷ []) _ (none_drawn after is) refl)

    draw_lacks : (status : Status) (seed : List ℕ) (after : D)
        → Agrees (status_in link links a.world.links name) status → breach_in status ≡ None
        → Draws left count dice seed after → Halts after (StatusCall name (Ok status) ∷ []) lacks
    draw_lacks status seed after h healthy draws =
        reach (Drawn status seed after draws) (answered status None h healthy (inr (
          seed,
          left after,
          drawn_bytes seed after draws,
          draws.0,
          inl (refl, refl),
        ))) (drawn_so after (StatusCall name (Ok status) ∷ []) _ refl)

    wrap_lacks : (status : Status) (seed : List ℕ) (answer : Result Wrapped KmsNo) (after : D)
        → Agrees (status_in link links a.world.links name) status → breach_in status ≡ None
        → Draws left count dice seed after
        → Halts after (StatusCall name (Ok status) ∷ WrapCall name seed answer ∷ []) lacks
    wrap_lacks status seed answer after h healthy draws =
        let e : Exchange = WrapCall name seed answer in
        reach (Behind status seed after draws e) (answered status None h healthy (inr (
          seed,
          left after,
          drawn_bytes seed after draws,
          draws.0,
          inr (inl (answer, (refl, refl))),
        ))) (wrapped_so status seed after draws e)

    no_wrap : (status : Status) (seed : List ℕ) (cause : KmsNo) (after : D)
        → Agrees (status_in link links a.world.links name) status → breach_in status ≡ None
        → Draws left count dice seed after
        → Halts after (StatusCall name (Ok status) ∷ WrapCall name seed (Err cause) ∷ [])
        (halt_of name (seed_no cause))
    no_wrap status seed kms.Failed after h healthy draws =
        let e : Exchange = WrapCall name seed (Err kms.Failed) in
        reach (Behind status seed after draws e) (answered status None h healthy (inr (
          seed,
          left after,
          drawn_bytes seed after draws,
          draws.0,
          inr (inr (inl (refl, refl))),
        ))) (wrapped_so status seed after draws e)
    no_wrap status seed kms.NoMemory after h healthy draws =
        wrap_lacks status seed (Err kms.NoMemory) after h healthy draws

    -- it made none
    one_halts : (why : SeedNo) (after : D) (es : List Exchange)
        → MakesSeedBy left count name dice (Err why) after es → Told a es
        → Halts after es (halt_of name why)
    one_halts why after _ (no_status cause is stays) told =
        let same : seed_no cause ≡ why = cc in
        subst (λ w. Halts after (StatusCall name (Err cause) ∷ []) (halt_of name w)) same
        (no_answer cause after stays)
    one_halts why after _ (unhealthy status field text breach is stays) told =
        let same : no_seed.Unhealthy field text ≡ why = cc in
        subst (λ w. Halts after (StatusCall name (Ok status) ∷ []) (halt_of name w)) same
        (reach (Asked status) (answered status (Some (field, text)) told.0 breach (refl, refl))
        (kept_so after (StatusCall name (Ok status) ∷ []) _ (none_drawn after stays) refl))
    one_halts why after _ (no_memory status healthy is (inl stays)) told =
        let same : no_seed.NoMemory ≡ why = cc in
        subst (λ w. Halts after (StatusCall name (Ok status) ∷ []) (halt_of name w)) same
        (status_lacks status after stays)
    one_halts why after _ (no_memory status healthy is (inr (seed, draws))) told =
        let same : no_seed.NoMemory ≡ why = cc in
        subst (λ w. Halts after (StatusCall name (Ok status) ∷ []) (halt_of name w)) same
        (draw_lacks status seed after told.0 healthy draws)
    one_halts why after _ (dice_failed status healthy is fails) told =
        let same : no_seed.DiceFailed ≡ why = cc in
        subst (λ w. Halts after (StatusCall name (Ok status) ∷ []) (halt_of name w)) same
        (reach (Asked status) (answered status None told.0 healthy (inl (refl, refl)))
        (kept_so after (StatusCall name (Ok status) ∷ []) _ fails.0 refl))
    one_halts why after _ (not_wrapped status seed cause healthy draws is) told =
        let same : seed_no cause ≡ why = cc in
        subst (λ w. Halts after (StatusCall name (Ok status) ∷ WrapCall name seed (Err cause) ∷ [])
        (halt_of name w)) same (no_wrap status seed cause after told.0 healthy draws)
    one_halts why after _ (made status seed wrapped healthy draws is) told = absurd (cc)

    -- memory lacked behind what it answered
    one_lacks : (result : Result SeedRow SeedNo) (after : D) (es : List Exchange)
        → result ≢ Err no_seed.DiceFailed → MakesSeedBy left count name dice result after es
        → Told a es → Halts after es lacks
    one_lacks result after _ other (no_status cause is stays) told =
        reach (with_heard (StatusCall name (Err cause)) l) (inr (inl (Err cause, (refl, refl))))
        (kept_so after (StatusCall name (Err cause) ∷ []) _ (none_drawn after stays) refl)
    one_lacks result after _ other (unhealthy status field text breach is stays) told =
        status_lacks status after stays
    one_lacks result after _ other (no_memory status healthy is (inl stays)) told =
        status_lacks status after stays
    one_lacks result after _ other (no_memory status healthy is (inr (seed, draws))) told =
        draw_lacks status seed after told.0 healthy draws
    one_lacks result after _ other (dice_failed status healthy is fails) told = absurd (other is)
    one_lacks result after _ other (not_wrapped status seed cause healthy draws is) told =
        wrap_lacks status seed (Err cause) after told.0 healthy draws
    one_lacks result after _ other (made status seed wrapped healthy draws is) told =
        wrap_lacks status seed (Ok wrapped) after told.0 healthy draws

  -- ---- all of them

  abbrev others : List (List ℕ) → SeedRow → Steps (List SeedRow)
  others names row = and_then (make_seeds names) (λ rows. give (row ∷ rows))

  -- what the steps of these plugins come to
  abbrev Comes : List (List ℕ) → (old new : Environment) → Result (List SeedRow) PublishNo → Type 0
  Comes names old new (Ok rows) =
      (l : StepState) → IsStateOf l old → StepsEndAt (make_seeds names) l new (gives rows)
  Comes names old new (Err why) = (h : Halt) → MayHalt why h → (l : StepState) → IsStateOf l old
      → StepsEndAt (make_seeds names) l new (point_at h)

  module _ (a : Environment) (name : List ℕ) (names : List (List ℕ))
      (dice after : D) (es : List Exchange) (told : Told a es) where
    -- the first makes none
    first_halts : (why : SeedNo) (refusal : PublishNo)
        → MakesSeedBy left count name dice (Err why) after es → IsRefusalAt name why refusal
        → Comes (name ∷ names) (Here a dice) (with_exchanges es (Here a after)) (Err refusal)
    first_halts why refusal makes is h may l s =
        halts_on (make_seed name) (others names) h
        (elim (by_refusal name h why refusal is may) [
          | inl e ↦ subst (λ k. StepsEndAt (make_seed name) l (with_exchanges es (Here a after))
              (point_at k)) (sym e)
              (one_halts a name dice l s why after es makes told)
          | inr e ↦ subst (λ k. StepsEndAt (make_seed name) l (with_exchanges es (Here a after))
              (point_at k)) (sym e.0)
              (one_lacks a name dice l s (Err why) after es
              (λ q. e.1 cc) makes told)
        ])

    -- there is no memory for its name, so it isn't asked
    first_unnamed : Comes (name ∷ names) (Here a dice) (with_exchanges [] (Here a dice))
        (Err publishing.NoMemory)
    first_unnamed h is l s =
        halts_on (make_seed name) (others names) h
        (subst (λ k. StepsEndAt (make_seed name) l (with_exchanges [] (Here a dice)) (point_at k))
        (sym is) (reach l (inl (refl, refl)) (stays_heard {left = l} [] l.heard (heard_none l.heard) s)))

    -- it makes one, for which there is no memory
    first_lacks : (row : SeedRow) → MakesSeedBy left count name dice (Ok row) after es
        → Comes (name ∷ names) (Here a dice) (with_exchanges es (Here a after))
        (Err publishing.NoMemory)
    first_lacks row makes h is l s =
        halts_on (make_seed name) (others names) h
        (subst (λ k. StepsEndAt (make_seed name) l (with_exchanges es (Here a after)) (point_at k))
        (sym is) (one_lacks a name dice l s (Ok row) after es (λ q. absurd (cc)) makes
        told))

    -- or with which the others go on
    first_made : (row : SeedRow) → MakesSeedBy left count name dice (Ok row) after es
        → (new : Environment) (result : Result (List SeedRow) PublishNo)
        → Comes names (with_exchanges es (Here a after)) new result
        → Comes (name ∷ names) (Here a dice) new (with_seed_first row result)
    first_made row makes new (Ok rows) more = λ l s.
        let r = one_made a name dice l s row after es makes told in
        let q = more r.end r.stays in
        joins (make_seed name) (others names) r
        (joins (make_seeds names) (λ rows. give (row ∷ rows)) q
        (reach q.end (refl, refl) q.stays))
    first_made row makes new (Err why) more = λ h may l s.
        let r = one_made a name dice l s row after es makes told in
        joins (make_seed name) (others names) r
        (halts_on (make_seeds names) (λ rows. give (row ∷ rows)) h (more h may r.end r.stays))

  module _ (rows : List ConfigEntry) where
    pub seeds_come : (a : Environment) → (passed : List ℕ) (dice : D)
        (result : Result (List SeedRow) PublishNo) (after : D) (es : List Exchange)
        → MakesSeedsBy left count (plugins_in rows) passed dice result after es
        → (front behind : List (List ℕ)) → ArePassed rows passed front
        → plugin_order rows ≡ front ++ behind → Told a es
        → Comes behind (Here a dice) (with_exchanges es (Here a after)) result
    seeds_come a passed dice _ _ _ (all_made none) front behind p order told =
        let empty = none_behind front behind (sym order ∙ all_passed p none) in
        subst (λ names. Comes names (Here a dice) (with_exchanges [] (Here a dice)) (Ok []))
        (sym empty) (λ l s. reach l (refl, refl)
        (stays_heard {left = l} [] l.heard (heard_none l.heard) s))
    seeds_come a passed dice _ after es (refused name why refusal next makes is) front
        behind p order told =
        let there = stands_next p next in
        let names = same_behind front behind (name ∷ there.0) (sym order ∙ there.1) in
        subst (λ n. Comes n (Here a dice) (with_exchanges es (Here a after)) (Err refusal))
        (sym names)
        (first_halts a name there.0 dice after es told why refusal makes is)
    seeds_come a passed dice _ _ _ (no_name name next) front behind p order told =
        let there = stands_next p next in
        let names = same_behind front behind (name ∷ there.0) (sym order ∙ there.1) in
        subst (λ n. Comes n (Here a dice) (with_exchanges [] (Here a dice))
        (Err publishing.NoMemory)) (sym names)
        (first_unnamed a name there.0 dice dice [] told)
    seeds_come a passed dice _ after es (no_room name row next makes) front behind p order
        told =
        let there = stands_next p next in
        let names = same_behind front behind (name ∷ there.0) (sym order ∙ there.1) in
        subst (λ n. Comes n (Here a dice) (with_exchanges es (Here a after))
        (Err publishing.NoMemory)) (sym names)
        (first_lacks a name there.0 dice after es told row makes)
    seeds_come a passed dice _ after _
        (went_on {between = between} {exchanges = es} {others = fs} {result = result} name row next
        makes rest) front behind p order told =
        let there = stands_next p next in
        let names = same_behind front behind (name ∷ there.0) (sym order ∙ there.1) in
        let parts = tell_parts (status_in link links a.world.links) es fs told in
        let more = seeds_come (with_exchanges es a) name between result after fs rest
        (front ++ name ∷ []) there.0 (one_passed p next)
        (there.1 ∙ sym (append_assoc front (name ∷ []) there.0)) parts.1 in
        subst (λ n. Comes n (Here a dice) (with_exchanges (es ++ fs) (Here a after))
        (with_seed_first row result)) (sym names)
        (subst (λ new. Comes (name ∷ there.0) (Here a dice) new (with_seed_first row result))
        (around_more es fs (Here a after))
        (first_made a name there.0 dice between es parts.0 row makes
        (with_exchanges fs (with_exchanges es (Here a after))) result more))

-- ---- publishing

module _ {L D : Type 0} (link : L → Link) (left : D → Option (List ℕ))
    (count : D → ℕ) (rows : List ConfigEntry) (kept_rows : IsTrue (keeps rows)) (olds news : List L)
    (old new : D) (a : Environment) (distinct : AreDistinct link olds)
    (asks : AskedOnly link (plugins_in rows) olds news) (later : count old ≤ count new)
    (es : List Exchange) (told : TellAll (status_in link olds a.world.links) es) where
  abbrev Before : Environment
  Before = Seen link a olds (left old) (count old)

  abbrev After : Environment
  After = with_exchanges es (Seen link a news (left new) (count new))

  to_after : IsHome Before After
  to_after = home_heard es (home link a (plugins_in rows) olds news asks (left old) (left new)
      (count old) (count new) later)

  -- what is told of the links stays
  at_after : (l : StepState) → IsStateOf l (with_exchanges es (Seen link a olds (left new) (count new)))
      → IsStateOf l After
  at_after l s = kept link (with_exchanges es a) (plugins_in rows) olds news asks (left new)
      (left new) (count new) (count new) (Keeps-refl (left new)) l s

  come : (result : Result (List SeedRow) PublishNo)
      → MakesSeedsBy left count (plugins_in rows) [] old result new es
      → Comes link left count olds (plugin_order rows) Before
      (with_exchanges es (Seen link a olds (left new) (count new))) result
  come result makes = seeds_come link left count olds rows a [] old result new es
      makes [] (plugin_order rows) (none_passed rows kept_rows) refl told

  -- all plugins' seeds were made
  pub published : (p : Publication) → PublishesBy left count rows old (Ok p) new es
      → Does (make_seeds (plugin_order rows)) Before After (Ok p.seeds)
  published p makes = record {
    home = to_after;
    ends = λ l s. let r = come (Ok p.seeds) makes.1 l s in
        reach r.end r.goes (at_after r.end r.stays);
  }

  halted : (why : PublishNo) → PublishesBy left count rows old (Err why) new es → (h : Halt)
      → MayHalt why h → (l : StepState) → IsStateOf l Before
      → StepsEndAt (make_seeds (plugin_order rows)) l After (point_at h)
  halted why makes h may l s =
      let r = come (Err why) makes h may l s in reach r.end r.goes (at_after r.end r.stays)

  ends_so : (why : PublishNo) (stop : Stop) → PublishesBy left count rows old (Err why) new es
      → Publishes link left count rows olds old (Err why) news new
      → IsPublishStop link news (count new) why stop → (l : StepState) → IsStateOf l Before
      → Ends (make_seeds (plugin_order rows)) l Before After (Err stop)
  ends_so (publishing.PluginFailed name) stop makes p h l s =
      subst (λ w. Ends (make_seeds (plugin_order rows)) l Before After (Err w)) (sym h.has) (
        asking 0 name,
        halted (publishing.PluginFailed name) makes (at_call (asking 0 name)) refl l s,
        plugin_fault link a (plugins_in rows) olds news asks (left old) (left new) (count old)
            (count new) name distinct p.0 h.it h.there h.named,
      )
  ends_so publishing.DiceFailed stop makes (name, e, healthy, rose) h l s =
      subst (λ w. Ends (make_seeds (plugin_order rows)) l Before After (Err w)) (sym h) (
        drawing 0,
        halted publishing.DiceFailed makes (at_call (drawing 0)) refl l s,
        (refl, rose, refl),
      )
  ends_so (publishing.Unhealthy name field text) stop makes p (inl is) l s =
      subst (λ w. Ends (make_seeds (plugin_order rows)) l Before After (Err w)) (sym is)
      (halted (publishing.Unhealthy name field text) makes
      (declines (Unhealthy name field (visible text))) (inl refl) l s)
  ends_so (publishing.Unhealthy name field text) stop makes p (inr is) l s =
      subst (λ w. Ends (make_seeds (plugin_order rows)) l Before After (Err w)) (sym is)
      (inr (halted (publishing.Unhealthy name field text) makes lacks (inr refl) l s))
  ends_so publishing.NoMemory stop makes p h l s =
      subst (λ w. Ends (make_seeds (plugin_order rows)) l Before After (Err w)) (sym h)
      (inr (halted publishing.NoMemory makes lacks refl l s))

  -- a plugin ended it
  pub stopped : (why : PublishNo) (stop : Stop)
      → PublishesBy left count rows old (Err why) new es
      → Publishes link left count rows olds old (Err why) news new
      → IsPublishStop link news (count new) why stop
      → Does (make_seeds (plugin_order rows)) Before After (Err stop)
  stopped why stop makes p h =
      record { home = to_after; ends = λ l s. ends_so why stop makes p h l s }

-- there is a link to the plugin that failed
pub fails_named : {L D : Type 0} (link : L → Link) (left : D → Option (List ℕ))
    (count : D → ℕ) (rows : List ConfigEntry) (olds news : List L) (old new : D) (why : PublishNo)
    → Publishes link left count rows olds old (Err why) news new
    → NamesAFailure (names_of link news) why
fails_named link left count rows olds news old new (publishing.PluginFailed name) p =
    subst (Contains (names_of link news)) p.0.new_named
    (named_there link news p.0.new p.0.new_there)
fails_named link left count rows olds news old new other p = tt
