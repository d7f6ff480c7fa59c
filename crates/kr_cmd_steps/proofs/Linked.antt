-- Links to plugins that are borrowed one behind another, while a random source is out.
use Rattle.std.proofs.Common.{◌≡◌, ℕ, ◌<◌, List, [], ◌∷◌, ◌++◌, Option, Result, Err, Contains, refl, sym, ◌∙◌, ap, subst, inl, inr, arith}
use Rattle.std.specs.Prelude.{Bool, if◌then◌else◌}
use Rattle.std.specs.List.Sorted.{IsStrictlySortedBy}
use Rattle.kr_config.specs.Kept.{ConfigEntry, plugins_in}
use Rattle.kr_config.specs.Nexts.{name_cmp}
use Rattle.kr_kms.specs.Calls.{Link}
use Rattle.kr_kms.specs.Outside.{Outside, Objects, HandsOut, KeepsFiles, KeepsObjects, TakesBack, at_key, file_faults, same_link, same_seat}
use Rattle.kr_kms.specs.declared.plugin.Status.{Status}
use Rattle.kr_kms.specs.declared.world.WorldCall.TheVariants as calls
use Rattle.kr_kms.proofs.Lent.{links_decide}
use Rattle.kr_provider.specs.Names.{HasLinks, names_of}
use Rattle.kr_provider.specs.PluginOrder.{plugin_order}
use Rattle.kr_provider.proofs.PluginOrder.{order_ascends, order_has, order_once}
use Rattle.kr_cmd_steps.specs.Environment.{Environment, with_lent, with_world}
use Rattle.kr_cmd_steps.specs.Phases.{with_memory}
use Rattle.kr_cmd_steps.specs.Plugins.{borrow_links, borrow_links_of}
use Rattle.kr_cmd_steps.specs.Steps.{Steps, borrow_link, and_then}
use Rattle.kr_cmd_steps.specs.declared.programs.Program.{Program}
use Rattle.kr_cmd_messages.specs.declared.refusal.Stop.{Stop}
use Rattle.kr_cmd_messages.specs.declared.refusal.Stop.TheVariants.{NoMemory}
use Rattle.kr_cmd_steps.specs.inner.Lent.{lent_links, with_lent_links}
use Rattle.kr_cmd_steps.specs.inner.Phases.{AskedUnless, Does, LendsNothing, LinkLoan, LinkReturn}
use Rattle.kr_cmd_steps.proofs.Frames.{Seen}
use Rattle.kr_cmd_steps.proofs.RunTo.{dice_seen, home_refl, not_linked, reach}
use Rattle.kr_cmd_steps.proofs.Links.{lends_link_to, links_seen}
use Rattle.kr_cmd_steps.proofs.NamedPrograms.{names_in}
use Rattle.kr_cmd_steps.proofs.Works.{lacks}

-- ---- names

module _ {L : Type 0} (link : L → Link) where
  -- no link has no name
  pub none_named : (links : List L) → names_of link links ≡ [] → links ≡ []
  none_named [] e = refl
  none_named (first ∷ links) e = absurd cc

  pub some_named : (links : List L) (last : L) → names_of link (links ++ last ∷ []) ≡ [] → ⊥
  some_named [] last e = absurd cc
  some_named (first ∷ links) last e = absurd cc

  -- the last of as many links with the same names has the same name
  pub same_last : (xs ys : List L) (x y : L)
      → names_of link (xs ++ x ∷ []) ≡ names_of link (ys ++ y ∷ [])
      → (names_of link xs ≡ names_of link ys) × ((link x).name ≡ (link y).name)
  same_last [] [] x y e = (refl, cc)
  same_last [] (first ∷ ys) x y e =
      absurd (some_named ys y (let rest : names_of link (ys ++ y ∷ []) ≡ [] = cc in rest))
  same_last (first ∷ xs) [] x y e =
      absurd (some_named xs x (let rest : names_of link (xs ++ x ∷ []) ≡ [] = cc in rest))
  same_last (w ∷ xs) (z ∷ ys) x y e =
      let head : (link w).name ≡ (link z).name = cc in
      let rest = same_last xs ys x y cc in
      (λ i. head i ∷ rest.0 i, rest.1)

  names_end : (links : List L) (last : L)
      → names_of link (links ++ last ∷ []) ≡ names_of link links ++ (link last).name ∷ []
  names_end [] last = refl
  names_end (first ∷ links) last = ap (λ l. (link first).name ∷ l) (names_end links last)

  moved : (names : List (List ℕ)) (name : List ℕ) (behind : List (List ℕ))
      → (names ++ name ∷ []) ++ behind ≡ names ++ name ∷ behind
  moved [] name behind = refl
  moved (first ∷ names) name behind = ap (λ l. first ∷ l) (moved names name behind)

  module _ (rows : List ConfigEntry) (links : List L) (program : Program) (more : List Program)
      (order : names_of link links ++ names_in (program ∷ more) ≡ plugin_order rows)
      (opened : L) (named : (link opened).name ≡ program.plugin) where
    -- it is the link of a new name
    pub is_new : Contains (names_of link links) (link opened).name → ⊥
    is_new c = order_once (names_of link links) program.plugin (names_in more)
        (subst (IsStrictlySortedBy name_cmp) (sym order) (order_ascends (plugins_in rows)))
        (subst (Contains (names_of link links)) named c)

    pub one_linked : (now : List L) → now ≡ links ++ opened ∷ []
        → names_of link now ++ names_in more ≡ plugin_order rows
    one_linked now is = ap (λ l. names_of link l ++ names_in more) is
        ∙ ap (λ l. l ++ names_in more) (names_end links opened
        ∙ ap (λ n. names_of link links ++ n ∷ []) named)
        ∙ moved (names_of link links) program.plugin (names_in more) ∙ order

  -- a link that was handed out for the first of the programs is that of a new name
  pub added_new : (rows : List ConfigEntry) (links : List L) {opened : L}
      {plugin file : List ℕ} {first out : Outside} {programs more : List Program}
      {program : Program} → LinkLoan 0 plugin file first out (link opened)
      → plugin ≡ program.plugin → programs ≡ program ∷ more
      → names_of link links ++ names_in programs ≡ plugin_order rows
      → Contains (names_of link links) (link opened).name → ⊥
  added_new rows links {opened} {more = more} {program} loan named split order =
      is_new rows links program more
      (subst (λ p. names_of link links ++ names_in p ≡ plugin_order rows) split order) opened
      (ap (λ l. l.name) loan.link_is ∙ named)

  -- there is a link to each plugin
  pub all_linked : (rows : List ConfigEntry) (links : List L) → names_of link links ≡ plugin_order rows
      → HasLinks (names_of link links) rows
  all_linked rows links is = λ name c. subst (λ l. Contains l name) (sym is)
      ((order_has (plugins_in rows) name).1 c)

  -- without any link, around is what it was
  pub without_links : {A : Type 0} {next : Steps A} {old new : Environment} {result : Result A Stop}
      (links back : List L) → links ≡ [] → names_of link back ≡ names_of link links
      → Does next (with_lent_links link 0 links old) (with_lent_links link 0 back new) result
      → Does next old new result
  without_links {next = next} {old} {new} {result} links back is names d =
      subst (λ l. Does next old (with_lent_links link 0 l new) result)
      (none_named back (names ∙ ap (names_of link) is))
      (subst (λ l. Does next (with_lent_links link 0 l old) (with_lent_links link 0 back new)
      result) is d)

-- ---- what is out

at_itself : (key : ℕ × List ℕ) → at_key same_link key 1 key ≡ 1
at_itself key = ap (λ (b : Bool). if b then 1 else 0) ((links_decide key key).1 refl)

module _ {first out : Objects (ℕ × List ℕ) (Option Status)} {plugin : List ℕ} {count : ℕ}
    (h : HandsOut same_link first out (0, plugin) count) where
  -- the link is out
  pub is_out : (mid : Objects (ℕ × List ℕ) (Option Status)) (name : List ℕ)
      → ((key : ℕ × List ℕ) → mid.out key ≡ out.out key) → name ≡ plugin
      → 0 < mid.out (0, name)
  is_out mid name same e = subst (λ n. 0 < mid.out (0, n)) (sym e)
      (omega (arith, same (0, plugin), h.out (0, plugin), at_itself (0, plugin)))

  -- and no more, once it came back
  pub all_back : (mid last : Objects (ℕ × List ℕ) (Option Status)) (name : List ℕ) {faults : ℕ}
      → ((key : ℕ × List ℕ) → mid.out key ≡ out.out key)
      → TakesBack same_link mid last (0, name) faults → name ≡ plugin
      → (key : ℕ × List ℕ) → last.out key ≡ first.out key
  all_back mid last name same back e = λ key. omega (
    arith,
    same key,
    h.out key,
    back.out key,
    ap (λ n. at_key same_link (0, n) 1 key) e,
  )

-- the last of the links that are there in the end is the one that was added
module _ {L : Type 0} (link : L → Link) {plugin program : List ℕ} {first out : Outside}
    (olds news : List L) {old new : L} {with_old with_new : List L}
    (loan : LinkLoan 0 plugin program first out (link old)) (added : with_old ≡ olds ++ old ∷ [])
    (taken : with_new ≡ news ++ new ∷ []) (names : names_of link with_new ≡ names_of link with_old)
  where
    pub last_named : (names_of link news ≡ names_of link olds) × ((link new).name ≡ plugin)
    last_named =
        let last = same_last link news olds new old
        (ap (names_of link) (sym taken) ∙ names ∙ ap (names_of link) added) in
        (last.0, last.1 ∙ ap (λ l. l.name) loan.link_is)

    module _ (mid : Outside)
        (same : (key : ℕ × List ℕ) → mid.links.out key ≡ out.links.out key) where
      pub last_out : 0 < mid.links.out (0, (link new).name)
      last_out = is_out loan.out mid.links (link new).name same last_named.1

      pub last_back : (last : Outside) → LinkReturn 0 mid last (link new) → (key : ℕ × List ℕ)
          → last.links.out key ≡ first.links.out key
      last_back last back =
          all_back loan.out mid.links last.links (link new).name same back.home last_named.1

-- ---- steps

-- memory may lack before the next link is asked for, or before the bench does anything
pub lacks_links : {A : Type 0} (programs : List Program) (next : Steps A) (a : Environment)
    → Does (borrow_links programs (with_memory next)) a a (Err NoMemory)
lacks_links [] next a = lacks next a
lacks_links (program ∷ programs) next a =
    record { home = home_refl a; ends = λ l s. inr (reach l (inl (refl, refl)) s) }

-- while a random source is out, and comes back
pub loan_within : {seat : ℕ} {plugin program : List ℕ} (left : Option (List ℕ)) (count : ℕ)
    {old out : Outside} {it : Link} → LinkLoan seat plugin program old out it
    → LinkLoan seat plugin program (dice_seen seat left count old) (dice_seen seat left count out)
    it
loan_within {seat} left count h = record {
  out = h.out;
  link_is = h.link_is;
  files = record { file = h.files.file; later = h.files.later };
  asked = h.asked;
  tapes = h.tapes;
  dice = ap (with_lent same_seat seat left count) h.dice;
}

pub return_within : {seat : ℕ} (left : Option (List ℕ)) (count : ℕ) {out new : Outside} {it : Link}
    → LinkReturn seat out new it
    → LinkReturn seat (dice_seen seat left count out) (dice_seen seat left count new) it
return_within {seat} left count h = record {
  home = h.home;
  status_is = h.status_is;
  file = h.file;
  faults = h.faults;
  asked = h.asked;
  tapes = h.tapes;
  dice = ap (with_lent same_seat seat left count) h.dice;
}

-- the programs are none, or this and others
pub at_end : {A : Type 0} (next : Steps A) {old new : Environment} {result : Result A Stop}
    (programs : List Program) → programs ≡ [] → Does next old new result
    → Does (borrow_links programs next) old new result
at_end next {old} {new} {result} programs none d =
    subst (λ p. Does (borrow_links p next) old new result) (sym none) d

pub at_first : {A : Type 0} (next : Steps A) {old new : Environment} {result : Result A Stop}
    (programs : List Program) (program : Program) (more : List Program) (plugin file : List ℕ)
    → programs ≡ program ∷ more → plugin ≡ program.plugin → file ≡ program.file
    → Does (borrow_link 0 plugin file (borrow_links more next)) old new result
    → Does (borrow_links programs next) old new result
at_first next {old} {new} {result} programs program more plugin file is e f d =
    subst (λ p. Does (borrow_links p next) old new result) (sym is)
    (subst (λ n. Does (borrow_link 0 n program.file (borrow_links more next)) old new result) e
    (subst (λ n. Does (borrow_link 0 plugin n (borrow_links more next)) old new result) f d))

-- what follows the steps over links follows them over these links
pub links_then : {A B : Type 0} (seat : ℕ) (programs : List Program) (first : Steps A)
    (others : A → Steps B) → and_then (borrow_links_of seat programs first) others
    ≡ borrow_links_of seat programs (and_then first others)
links_then seat [] first others = refl
links_then seat (program ∷ programs) first others =
    λ i. borrow_link seat program.plugin program.file (links_then seat programs first others i)

module _ {L : Type 0} (link : L → Link) {plugin program : List ℕ} (a : Environment) where
  -- one more link is borrowed for what follows, and comes back
  pub borrows_to : (b : Environment) {A : Type 0} {next : Steps A} {result : Result A Stop}
      (olds with_old news with_new : List L) (old new : L) (left back : Option (List ℕ))
      (before count : ℕ) {first out mid last : Outside}
      → LinkLoan 0 plugin program first out (link old) → LinkReturn 0 mid last (link new)
      → with_old ≡ olds ++ old ∷ [] → with_new ≡ news ++ new ∷ []
      → Does next (Seen link (with_world out a) with_old left before)
      (Seen link (with_world mid b) with_new back count) result
      → Does (borrow_link 0 plugin program next) (Seen link (with_world first a) olds left before)
      (Seen link (with_world last b) news back count) result
  borrows_to b {next = next} {result} olds with_old news with_new old new left back before count
      {first} {out} {mid} {last} loan return old_is new_is works =
      lends_link_to link 0 olds news old new {first = dice_seen 0 left before first}
      {out = dice_seen 0 left before out} {mid = dice_seen 0 back count mid}
      {back = dice_seen 0 back count last} a b (loan_within left before loan)
      (return_within back count return)
      (subst (λ l. Does next (Seen link (with_world out a) l left before)
      (Seen link (with_world mid b) (news ++ new ∷ []) back count) result) old_is
      (subst (λ l. Does next (Seen link (with_world out a) with_old left before)
      (Seen link (with_world mid b) l back count) result) new_is works))

  -- a link wasn't handed out
  pub none_borrowed : {A : Type 0} {next : Steps A} (links : List L) (left : Option (List ℕ))
      (count : ℕ) {old new : Outside} → KeepsFiles old new → KeepsObjects old new → (stop : Stop)
      → LendsNothing old.faults.links new.faults.links (file_faults new) stop
      → AskedUnless old.asked new.asked (calls.Link 0 plugin program) stop
      → Does (borrow_link 0 plugin program next) (Seen link (with_world old a) links left count)
      (Seen link (with_world new a) links left count) (Err stop)
  none_borrowed links left count {old} {new} files objects stop why asked =
      not_linked {old = links_seen link 0 links (dice_seen 0 left count old)}
      {new = links_seen link 0 links (dice_seen 0 left count new)}
      (record { file = files.file; later = files.later })
      (record {
        dice = ap (with_lent same_seat 0 left count) objects.dice;
        tapes = objects.tapes;
        links = ap (lent_links link 0 links) objects.links;
      })
      a 0 plugin program stop why asked

  -- a link that was handed out found no room, and comes back
  pub none_added : {A : Type 0} (next : Steps A) (programs : List Program) (links back : List L)
      (given returned : L) (left : Option (List ℕ)) (count : ℕ) {first out last : Outside}
      → LinkLoan 0 plugin program first out (link given) → LinkReturn 0 out last (link returned)
      → back ≡ links → returned ≡ given
      → Does (borrow_link 0 plugin program (borrow_links programs (with_memory next)))
      (Seen link (with_world first a) links left count)
      (Seen link (with_world last a) back left count) (Err NoMemory)
  none_added next programs links back given returned left count {first} {out} {last} loan
      return same is =
      let steps = borrow_link 0 plugin program (borrow_links programs (with_memory next)) in
      subst (λ l. Does steps (Seen link (with_world first a) links left count)
      (Seen link (with_world last a) l left count) (Err NoMemory)) (sym same)
      (borrows_to a links (links ++ given ∷ []) links (links ++ given ∷ []) given given left left
      count count loan (subst (λ l. LinkReturn 0 out last (link l)) is return) refl refl
      (lacks_links programs next
      (Seen link (with_world out a) (links ++ given ∷ []) left count)))
