-- The programs that the options give, plugin by plugin in the order of their names.
use Rattle.std.proofs.Common.{◌≡◌, ◌≢◌, ◌⊎◌, ℕ, zero, suc, Bool, true, false, List, [], ◌∷◌, ◌++◌, map, Option, None, Some, Result, Ok, Err, Contains, IsTrue, refl, sym, ◌∙◌, ap, subst, inl, inr, arith}
use Rattle.std.specs.Prelude.{◌↔◌}
use Rattle.std.specs.List.Sorted.{IsStrictlySortedBy}
use Rattle.std.specs.declared.cmp.Ordering.TheVariants.{Less}
use Rattle.std.proofs.lemmas.List.Elements.{All-contains, Contains-append_cases, Contains-append_left, Contains-append_right}
use Rattle.kr_config.specs.Kept.{ConfigEntry, keeps, plugins_in}
use Rattle.kr_config.specs.Nexts.{IsNextName, name_cmp}
use Rattle.kr_words.specs.Arguments.{plugin_program}
use Rattle.kr_provider.specs.PluginOrder.{plugin_order}
use Rattle.kr_provider.proofs.NameOrder.{IsStrictlySortedBy-none, ascend_more, before_next, comes_earlier, is_less, neither, none_between, not_itself, then_before, to_false}
use Rattle.kr_provider.proofs.PluginNames.{names_some}
use Rattle.kr_provider.proofs.PluginOrder.{one_order, order_ascends, order_before, order_has}
use Rattle.kr_cmd_steps.specs.Environment.{Environment, StepsEndAt, IsStateOf}
use Rattle.kr_cmd_steps.specs.Phases.{by_result, linking_programs}
use Rattle.kr_cmd_steps.specs.Plugins.{join_program, settings_programs}
use Rattle.kr_cmd_steps.specs.Steps.{RunTo, StepState, Point, gives, refuses}
use Rattle.kr_cmd_steps.specs.declared.programs.Program.{Program}
use Rattle.kr_cmd_messages.specs.declared.refusal.Refusal.{Refusal}
use Rattle.kr_cmd_messages.specs.declared.refusal.Refusal.TheVariants.{NoPlugin}
use Rattle.kr_cmd_messages.specs.declared.refusal.Stop.{Stop}
use Rattle.kr_cmd_messages.specs.declared.refusal.Stop.TheVariants.{NoMemory, Refused}
use Rattle.kr_cmd_steps.specs.inner.Phases.{Does}
use Rattle.kr_cmd_steps.proofs.RunTo.{home_refl, reach}
use Rattle.kr_cmd_steps.proofs.Works.{lacks}

-- ---- the names that were passed

-- they are the plugins' that don't come after this name, in order
pub record ArePassed (rows : List ConfigEntry) (after : List ℕ) (names : List (List ℕ)) : Type 0 where
  pub ascend : IsStrictlySortedBy name_cmp names
  pub has : (name : List ℕ) → Contains names name
      ↔ (Contains (plugins_in rows) name × (comes_earlier after name ≡ false))

pub none_passed : (rows : List ConfigEntry) → IsTrue (keeps rows) → ArePassed rows [] []
none_passed rows k = record {
  ascend = IsStrictlySortedBy-none;
  has = λ name. (
    λ c. absurd (omega (arith, c.1)),
    λ h. absurd (let t : true ≡ false = sym (names_some rows k name h.0) ∙ h.1 in cc),
  );
}

module _ {rows : List ConfigEntry} {after next : List ℕ} {names : List (List ℕ)}
    (passed : ArePassed rows after names) (is : IsNextName (plugins_in rows) after (Some next)) where
  passed_before : (name : List ℕ) → Contains names name → comes_earlier name next ≡ true
  passed_before name c = before_next after next name is.1 ((passed.has name).0 c).1

  no_later : (name : List ℕ) → Contains (plugins_in rows) name → comes_earlier after name ≡ true
      → comes_earlier name next ≡ false
  no_later name c later = to_false (comes_earlier name next) (λ t.
      All-contains (λ x. comes_earlier after x ≡ true → name_cmp x next ≢ Less) (plugins_in rows) name
      is.2 c later (is_less name next t))

  is_passed : (name : List ℕ) (q : Bool) → comes_earlier after name ≡ q
      → Contains (plugins_in rows) name → comes_earlier next name ≡ false
      → Contains (names ++ next ∷ []) name
  is_passed name true e c late = Contains-append_right names (next ∷ []) name
      (0, omega arith, neither next name late (no_later name c e))
  is_passed name false e c late =
      Contains-append_left names (next ∷ []) name ((passed.has name).1 (c, e))

  was_passed : (name : List ℕ) → Contains (names ++ next ∷ []) name
      → Contains (plugins_in rows) name × (comes_earlier next name ≡ false)
  was_passed name c = elim (Contains-append_cases names (next ∷ []) name c) [
    | inl d ↦ (
      ((passed.has name).0 d).0,
      to_false (comes_earlier next name) (λ t. not_itself name
          (then_before name next name (passed_before name d) t)),
    )
    | inr d ↦ let same : next ≡ name = only d in (
      subst (Contains (plugins_in rows)) same is.0,
      subst (λ n. comes_earlier next n ≡ false) same
          (to_false (comes_earlier next next) (not_itself next)),
    )
  ]
    where
      only : Contains (next ∷ []) name → next ≡ name
      only (zero, lt, e) = e
      only (suc k, lt, e) = absurd (omega (arith, lt))

  -- one more was passed
  pub one_passed : ArePassed rows next (names ++ next ∷ [])
  one_passed = record {
    ascend = ascend_more names next passed.ascend
        (λ name c. is_less name next (passed_before name c));
    has = λ name. (
      was_passed name,
      λ h. is_passed name (comes_earlier after name) refl h.0 h.1,
    );
  }

  -- the next stands behind those that were passed
  pub stands_next : (behind : List (List ℕ)) × (plugin_order rows ≡ names ++ (next ∷ behind))
  stands_next =
      let plugins = plugins_in rows in
      order_before (plugin_order rows) names next (order_ascends plugins) passed.ascend
      ((order_has plugins next).1 is.0)
      (λ name c. ((order_has plugins name).1 ((passed.has name).0 c).0, passed_before name c))
      (λ name c b. (passed.has name).1 (
        (order_has plugins name).0 c,
        none_between plugins after next name is ((order_has plugins name).0 c) b,
      ))

-- all were passed
pub all_passed : {rows : List ConfigEntry} {after : List ℕ} {names : List (List ℕ)}
    → ArePassed rows after names → IsNextName (plugins_in rows) after None
    → plugin_order rows ≡ names
all_passed {rows} {after} {names} passed none =
    let plugins = plugins_in rows in
    one_order (plugin_order rows) names (order_ascends plugins) passed.ascend
    (λ name c. (order_has plugins name).1 ((passed.has name).0 c).0)
    (λ name c. let there = (order_has plugins name).0 c in (passed.has name).1
    (there, All-contains (λ x. comes_earlier after x ≡ false) plugins name none there))

-- ---- their programs

abbrev pub names_in : List Program → List (List ℕ)
names_in programs = map (λ program. program.plugin) programs

no_names : (options : List (List ℕ × List ℕ)) (programs : List Program)
    → settings_programs options [] ≡ Ok programs → programs ≡ []
no_names options [] e = refl
no_names options (program ∷ more) e = absurd cc

module _ (options : List (List ℕ × List ℕ)) where
  -- what stands behind the first, where all of them have programs
  joins : (name : List ℕ) (o : Option (List ℕ)) (r : Result (List Program) Refusal)
      (programs : List Program) → plugin_program options name ≡ o → join_program name o r ≡ Ok programs
      → (more : List Program) × (file : List ℕ) × (o ≡ Some file) × (r ≡ Ok more)
      × (programs ≡ record { plugin = name; file = file } ∷ more)
  joins name (Some file) (Ok more) programs is e = (more, file, refl, refl, cc)
  joins name other r programs is e = absurd cc

  -- one more has a program
  pub one_program : (names : List (List ℕ)) (programs : List Program) (plugin file : List ℕ)
      → settings_programs options names ≡ Ok programs → plugin_program options plugin ≡ Some file
      → settings_programs options (names ++ plugin ∷ [])
      ≡ Ok (programs ++ record { plugin = plugin; file = file } ∷ [])
  one_program [] programs plugin file e f =
      ap (λ o. join_program plugin o (Ok [])) f
      ∙ ap (λ l. Ok (l ++ record { plugin = plugin; file = file } ∷ []))
      (sym (no_names options programs e))
  one_program (name ∷ names) programs plugin file e f =
      let j = joins name (plugin_program options name) (settings_programs options names) programs refl e in
      ap (λ o. join_program name o (settings_programs options (names ++ plugin ∷ []))) j.2
      ∙ ap (join_program name (Some j.1)) (one_program names j.0 plugin file j.3 f)
      ∙ ap (λ l. Ok (l ++ record { plugin = plugin; file = file } ∷ [])) (sym j.4)

  -- the first without one is refused
  pub no_program : (names : List (List ℕ)) (programs : List Program) (plugin : List ℕ)
      (behind : List (List ℕ)) → settings_programs options names ≡ Ok programs
      → plugin_program options plugin ≡ None
      → settings_programs options (names ++ plugin ∷ behind) ≡ Err (NoPlugin plugin)
  no_program [] programs plugin behind e f =
      ap (λ o. join_program plugin o (settings_programs options behind)) f
  no_program (name ∷ names) programs plugin behind e f =
      let j = joins name (plugin_program options name) (settings_programs options names) programs refl e in
      ap (λ o. join_program name o (settings_programs options (names ++ plugin ∷ behind))) j.2
      ∙ ap (join_program name (Some j.1)) (no_program names j.0 plugin behind j.3 f)

names_more : (programs : List Program) (last : Program)
    → names_in (programs ++ last ∷ []) ≡ names_in programs ++ last.plugin ∷ []
names_more [] last = refl
names_more (program ∷ programs) last = ap (λ l. program.plugin ∷ l) (names_more programs last)

module _ (options : List (List ℕ × List ℕ)) (rows : List ConfigEntry) where
  -- the next has one
  pub one_linked : {after next : List ℕ} (programs now : List Program) (file : List ℕ)
      → ArePassed rows after (names_in programs)
      → IsNextName (plugins_in rows) after (Some next)
      → settings_programs options (names_in programs) ≡ Ok programs
      → plugin_program options next ≡ Some file
      → now ≡ programs ++ record { plugin = next; file = file } ∷ []
      → ArePassed rows next (names_in now) × (settings_programs options (names_in now) ≡ Ok now)
  one_linked {next = next} programs now file passed is found own now_is =
      let names = ap names_in now_is
      ∙ names_more programs (record { plugin = next; file = file }) in (
        subst (ArePassed rows next) (sym names) (one_passed passed is),
        ap (settings_programs options) names
            ∙ one_program options (names_in programs) programs next file found own
            ∙ ap (λ l. Ok l) (sym now_is),
      )

-- ---- the steps

abbrev by_refusal : Result (List Program) Refusal → Result (List Program) Stop
by_refusal (Ok programs) = Ok programs
by_refusal (Err why) = Err (Refused why)

abbrev end_point : Result (List Program) Refusal → Point (List Program)
end_point (Ok programs) = gives programs
end_point (Err why) = refuses why

module _ (options : List (List ℕ × List ℕ)) (rows : List ConfigEntry) (a : Environment) where
  by_goes : (r : Result (List Program) Refusal) (l : StepState)
      → RunTo (end_point r) l (by_result r) l
  by_goes (Ok programs) l = (refl, refl)
  by_goes (Err why) l = (refl, refl)

  comes : (r : Result (List Program) Refusal) → settings_programs options (plugin_order rows) ≡ r
      → (l : StepState) → IsStateOf l a → StepsEndAt (linking_programs options rows) l a (end_point r)
  comes r is l s = reach l (inr (
    tt,
    tt,
    subst (λ q. RunTo (end_point r) l (by_result q) l) (sym is)
        (by_goes r l),
  )) s

  at_result : (r : Result (List Program) Refusal) → settings_programs options (plugin_order rows) ≡ r
      → Does (linking_programs options rows) a a (by_refusal r)
  at_result (Ok programs) is =
      record { home = home_refl a; ends = λ l s. comes (Ok programs) is l s }
  at_result (Err why) is = record { home = home_refl a; ends = λ l s. comes (Err why) is l s }

  -- all have one
  pub linked : {after : List ℕ} (programs : List Program) → ArePassed rows after (names_in programs)
      → IsNextName (plugins_in rows) after None
      → settings_programs options (names_in programs) ≡ Ok programs
      → Does (linking_programs options rows) a a (Ok programs)
  linked programs passed none is =
      at_result (Ok programs) (ap (settings_programs options) (all_passed passed none) ∙ is)

  -- the next has none
  pub unlinked : {after next : List ℕ} (programs : List Program) (stop : Stop)
      → ArePassed rows after (names_in programs)
      → IsNextName (plugins_in rows) after (Some next)
      → settings_programs options (names_in programs) ≡ Ok programs
      → plugin_program options next ≡ None
      → (stop ≡ Refused (NoPlugin next)) ⊎ (stop ≡ NoMemory)
      → Does (linking_programs options rows) a a (Err stop)
  unlinked {next = next} programs stop passed is found none (inl e) =
      let there = stands_next passed is in
      subst (λ w. Does (linking_programs options rows) a a (Err w)) (sym e)
      (at_result (Err (NoPlugin next)) (ap (settings_programs options) there.1
      ∙ no_program options (names_in programs) programs next there.0 found none))
  unlinked programs stop passed is found none (inr e) =
      subst (λ w. Does (linking_programs options rows) a a (Err w)) (sym e)
      (lacks (by_result (settings_programs options (plugin_order rows))) a)
