-- What may be answered to an Adopt, and what is made of it.
use Rattle.std.specs.Prelude.{◌≡◌, ℕ, Result, Ok, Err, ⊤}
use Rattle.kr_provider.specs.Publication.{Publication}
use Rattle.kr_rollout.specs.declared.answer.Answer.{Answer}
use Rattle.kr_rollout.specs.declared.answer.Answer.TheVariants as answer
use Rattle.kr_history.specs.declared.call.CallNo.{CallNo}
use Rattle.kr_history.specs.declared.call.CallNo.TheVariants as refusal

abbrev pub AnswersAdopt : Answer → Type 0
AnswersAdopt (answer.Adopted number p) = ⊤
AnswersAdopt (answer.Gone replica) = ⊤
AnswersAdopt answer.NoMemory = ⊤
AnswersAdopt given = ⊥

abbrev pub AdoptsBy : Answer → Result (ℕ × Publication) CallNo → Type 0
AdoptsBy (answer.Adopted number p) result = result ≡ Ok (number, p)
AdoptsBy (answer.Gone replica) result = result ≡ Err refusal.Gone
AdoptsBy answer.NoMemory result = result ≡ Err refusal.NoMemory
AdoptsBy given result = ⊥
