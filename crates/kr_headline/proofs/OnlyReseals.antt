-- What a rewrite may have changed, and a line for which memory lacked.
use Rattle.std.proofs.Common.{◌≡◌, ◌⊎◌, ℕ, Bool, true, false, List, Option, inl, inr, refl, ap, sym, ◌∙◌}
use Rattle.std.proofs.lemmas.Bool.{false≢true}
use Rattle.kr_config.specs.Kept.{ConfigEntry as setting}
use Rattle.kr_provider.specs.Publication.{Publication}
use Rattle.kr_rollout.specs.declared.line.Did.{Did}
use Rattle.kr_rollout.specs.declared.line.Did.TheVariants as did
use Rattle.kr_rollout.specs.declared.line.Gave.{Gave}
use Rattle.kr_rollout.specs.declared.line.Gave.TheVariants as gave
use Rattle.kr_script.specs.declared.script.ScriptLine.{ScriptLine}
use Rattle.kr_script.specs.declared.script.ScriptLine.TheVariants as line
use Rattle.kr_script.specs.declared.told.Told.{Told}
use Rattle.kr_script.specs.declared.told.Told.TheVariants as told
use Rattle.kr_workers.specs.Changes.{AllowsChange}
use Rattle.kr_headline.specs.Headline.{OnlyReseals}

abbrev is_memory : Told → Bool
is_memory told.Memory = true
is_memory reply = false

abbrev is_rewrite : ScriptLine → Bool
is_rewrite line.Rewrite = true
is_rewrite asked = false

module _ (asked : ScriptLine) (reply : Told) where
  abbrev Little : Type 0
  Little = (reply ≡ told.Memory) ⊎ (asked ≡ line.Rewrite)

  neither : (other : ScriptLine) (given : Told) → Little → asked ≡ other → reply ≡ given
      → is_rewrite other ≡ false → is_memory given ≡ false → ⊥
  neither other given (inl memory) asked_is reply_is no_rewrite no_memory =
      false≢true (sym no_memory ∙ ap is_memory (sym reply_is ∙ memory))
  neither other given (inr rewrite) asked_is reply_is no_rewrite no_memory =
      false≢true (sym no_rewrite ∙ ap is_rewrite (sym asked_is ∙ rewrite))

module _ (settings_in : (file : List ℕ) → Option (List setting)) (own : ℕ) (asked : ScriptLine)
    (reply : Told) where
  pub only_reseals : (given : Gave) (done : Did) (held : Option ℕ)
      (published : Option Publication)
      → AllowsChange settings_in own asked reply given done held published
      → Little asked reply → OnlyReseals asked given done
  only_reseals (gave.Written revision) (did.Put path resource plain) held published m is =
      absurd (neither asked reply (line.Put resource path plain) (told.Put revision) is m.0 m.1 refl
      refl)
  only_reseals (gave.Written revision) (did.Delete path) held published m is = absurd
      (neither asked reply (line.Delete path) (told.Deleted revision) is m.0 m.1 refl refl)
  only_reseals (gave.Written revision) (did.Replace path from) held published m is = m
  only_reseals (gave.Written revision) done held published m is = absurd m
  only_reseals (gave.Reloaded number) (did.Reload replica p expect) held published (inl m) is =
      absurd (neither asked reply (line.Reload replica m.file) (told.Reloaded number) is m.asked_is
      m.tells refl refl)
  only_reseals (gave.Reloaded number) (did.Reload replica p expect) held published (inr m) is =
      absurd (neither asked reply line.Refresh (told.Refreshed number) is m.asked_is m.tells refl
      refl)
  only_reseals (gave.Reloaded number) done held published m is = absurd m
  only_reseals (gave.Joined number) (did.Join replica p) held published m is = absurd
      (neither asked reply (line.Join replica m.file) (told.Joined number) is m.asked_is m.tells
      refl refl)
  only_reseals (gave.Joined number) done held published m is = absurd m
  only_reseals (gave.Departed number) (did.Leave replica) held published m is = absurd
      (neither asked reply (line.Leave replica) (told.Left number) is m.0 m.1 refl refl)
  only_reseals (gave.Departed number) done held published m is = absurd m
  only_reseals given done held published m is = tt
