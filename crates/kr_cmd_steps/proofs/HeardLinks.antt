-- What links were asked while they were out, put together.
use Rattle.std.proofs.Common.{◌≡◌, List, [], ◌∷◌, ◌++◌, ℕ, Option, None, Some, Result, append-nil, append_assoc, refl, subst, sym, ◌∙◌, ap}
use Rattle.std.specs.Prelude.{map}
use Rattle.std.specs.Option.{option_map}
use Rattle.std.proofs.lemmas.List.Elements.{All-cons, All-nil}
use Rattle.kr_base.specs.Walks.{Talk}
use Rattle.kr_base.proofs.Walks.{talk_none, talk_so}
use Rattle.kr_kms.specs.Calls.{Link}
use Rattle.kr_kms.specs.Exchanges.{Exchange}
use Rattle.kr_kms.specs.Outside.{Outside, with_handed}
use Rattle.kr_provider.specs.AskedLinks.{Among}
use Rattle.kr_cmd_steps.specs.Environment.{Environment, with_exchanges}
use Rattle.kr_cmd_steps.specs.Heard.{Heard}
use Rattle.kr_cmd_steps.specs.Steps.{Steps}
use Rattle.kr_cmd_steps.specs.inner.Phases.{Does, LinkLoan}
use Rattle.kr_cmd_messages.specs.declared.refusal.Stop.{Stop}
use Rattle.kr_cmd_steps.proofs.Hearing.{around_none}

-- ---- keys that were handed out

-- these keys behind the others, where those are told
abbrev pub handed_more : {K : Type 0} → List K → Option (List K) → Option (List K)
handed_more more handed = option_map (λ keys. keys ++ more) handed

none_handed : {K : Type 0} (handed : Option (List K)) → handed ≡ handed_more [] handed
none_handed None = refl
none_handed (Some keys) = ap (λ l. Some l) (sym (append-nil keys))

one_handed : {K : Type 0} (key : K) (more : List K) (handed : Option (List K))
    → handed_more more (with_handed key handed) ≡ handed_more (key ∷ more) handed
one_handed key more None = refl
one_handed key more (Some keys) = ap (λ l. Some l) (append_assoc keys (key ∷ []) more)

-- a link that is lent adds its key
pub loan_handed : {seat : ℕ} {plugin program : List ℕ} {old out : Outside} {it : Link}
    → LinkLoan seat plugin program old out it
    → out.links.handed ≡ with_handed (seat, it.name) old.links.handed
loan_handed {seat} {old = old} h = h.out.handed
    ∙ ap (λ (n : List ℕ). with_handed (seat, n) old.links.handed)
    (sym (ap (λ (l : Link). l.name) h.link_is))

module _ {L : Type 0} (link : L → Link) (lent took : ℕ → L → Type 0)
    (step : L → Exchange → L → Type 0) (seat : ℕ) where
  -- no link was lent
  pub heard_by : {old new : Outside} → new.links.handed ≡ old.links.handed → (olds news : List L)
      (Are : List Exchange → Type 0) → Talk (Among step) olds news Are
      → Heard link lent took step seat old new olds news Are
  heard_by {old} same olds news Are talk = record {
    firsts = [];
    lasts = [];
    handed = same ∙ none_handed old.links.handed;
    lent_are = All-nil (lent seat);
    took_are = All-nil (took seat);
    talk = subst (λ l. Talk (Among step) l (news ++ []) Are) (sym (append-nil olds))
        (subst (λ l. Talk (Among step) olds l Are) (sym (append-nil news)) talk);
  }

  pub heard_nothing : {old new : Outside} → new.links.handed ≡ old.links.handed
      → (links : List L) (Are : List Exchange → Type 0) → Are []
      → Heard link lent took step seat old new links links Are
  heard_nothing same links Are h =
      heard_by same links links Are (talk_none (Among step) Are links h)

  pub heard_so : {old new : Outside} (olds news : List L) (Are Be : List Exchange → Type 0)
      → Heard link lent took step seat old new olds news Are
      → ((es : List Exchange) → Are es → Be es)
      → Heard link lent took step seat old new olds news Be
  heard_so olds news Are Be h so = record {
    firsts = h.firsts;
    lasts = h.lasts;
    handed = h.handed;
    lent_are = h.lent_are;
    took_are = h.took_are;
    talk = talk_so (Among step) Are Be (olds ++ h.firsts) (news ++ h.lasts) h.talk so;
  }

  -- nothing was handed out before, nor behind
  pub heard_within : {old out mid new : Outside} → out.links.handed ≡ old.links.handed
      → new.links.handed ≡ mid.links.handed → (olds news : List L)
      (Are : List Exchange → Type 0) → Heard link lent took step seat out mid olds news Are
      → Heard link lent took step seat old new olds news Are
  heard_within before behind olds news Are h = record {
    firsts = h.firsts;
    lasts = h.lasts;
    handed = behind ∙ h.handed
        ∙ ap (handed_more (map (λ (l : L). (seat, (link l).name)) h.firsts)) before;
    lent_are = h.lent_are;
    took_are = h.took_are;
    talk = h.talk;
  }

  -- one more was lent, behind others
  pub heard_behind : {old out mid new : Outside} (olds news : List L) (first last : L)
      (Are : List Exchange → Type 0)
      → out.links.handed ≡ with_handed (seat, (link first).name) old.links.handed
      → new.links.handed ≡ mid.links.handed → lent seat first → took seat last
      → Heard link lent took step seat out mid (olds ++ first ∷ []) (news ++ last ∷ []) Are
      → Heard link lent took step seat old new olds news Are
  heard_behind {old} olds news first last Are out_is back lends takes h =
      let keys = map (λ (l : L). (seat, (link l).name)) h.firsts in record {
        firsts = first ∷ h.firsts;
        lasts = last ∷ h.lasts;
        handed = back ∙ h.handed ∙ ap (handed_more keys) out_is
            ∙ one_handed (seat, (link first).name) keys old.links.handed;
        lent_are = All-cons (lent seat) first h.firsts lends h.lent_are;
        took_are = All-cons (took seat) last h.lasts takes h.took_are;
        talk = subst (λ l. Talk (Among step) l (news ++ (last ∷ h.lasts)) Are)
            (append_assoc olds (first ∷ []) h.firsts)
            (subst (λ l. Talk (Among step) ((olds ++ first ∷ []) ++ h.firsts) l Are)
            (append_assoc news (last ∷ []) h.lasts) h.talk);
      }

  -- by other lists, which are these
  pub heard_around : {old out mid new : Outside} {Are : List Exchange → Type 0}
      (olds news with_old with_new : List L) (first last : L)
      → out.links.handed ≡ with_handed (seat, (link first).name) old.links.handed
      → new.links.handed ≡ mid.links.handed → lent seat first → took seat last
      → with_old ≡ olds ++ first ∷ [] → with_new ≡ news ++ last ∷ []
      → Heard link lent took step seat out mid with_old with_new Are
      → Heard link lent took step seat old new olds news Are
  heard_around {out = out} {mid} {Are = Are} olds news with_old with_new first last out_is back
      lends takes old_is new_is h =
      heard_behind olds news first last Are out_is back lends takes
      (subst (λ l. Heard link lent took step seat out mid l (news ++ last ∷ []) Are) old_is
      (subst (λ l. Heard link lent took step seat out mid with_old l Are) new_is h))

  pub heard_alone : {old new : Outside} {Are : List Exchange → Type 0} (olds news : List L)
      → olds ≡ [] → news ≡ [] → Heard link lent took step seat old new olds news Are
      → Heard link lent took step seat old new [] [] Are
  heard_alone {old} {new} {Are} olds news old_is new_is h =
      subst (λ l. Heard link lent took step seat old new [] l Are) new_is
      (subst (λ l. Heard link lent took step seat old new l news Are) old_is h)

  -- one was lent, and asked nothing
  pub heard_idle : {old new : Outside} (out : Outside) (olds news : List L) (first last : L)
      (Are : List Exchange → Type 0)
      → out.links.handed ≡ with_handed (seat, (link first).name) old.links.handed
      → new.links.handed ≡ out.links.handed → lent seat first → took seat last → news ≡ olds
      → last ≡ first → Are [] → Heard link lent took step seat old new olds news Are
  heard_idle out olds news first last Are out_is back lends takes same is h =
      heard_behind {mid = out} olds news first last Are out_is back lends takes
      (subst (λ l. Heard link lent took step seat out out (olds ++ first ∷ []) (l ++ last ∷ [])
      Are) (sym same)
      (subst (λ x. Heard link lent took step seat out out (olds ++ first ∷ []) (olds ++ x ∷ [])
      Are) (sym is) (heard_nothing refl (olds ++ first ∷ []) Are h)))

  -- steps that ask nothing
  pub nothing_does : {old new : Outside} → new.links.handed ≡ old.links.handed
      → {A : Type 0} {next : Steps A} {result : Result A Stop} (links : List L)
      (before behind : Environment → Environment) → ((a : Environment) → Does next (before a) (behind a) result)
      → Heard link lent took step seat old new links links
      (λ es. (a : Environment) → Does next (before a) (behind (with_exchanges es a)) result)
  nothing_does same {next = next} {result} links before behind does =
      heard_nothing same links
      (λ (es : List Exchange). (a : Environment) → Does next (before a)
      (behind (with_exchanges es a)) result)
      (λ a. subst (λ b. Does next (before a) (behind b) result) (sym (around_none a)) (does a))
