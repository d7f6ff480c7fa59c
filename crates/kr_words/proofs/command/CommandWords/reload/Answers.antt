-- What the tactic leaves open of `reload`.
use Rattle.std.proofs.Common.{ℕ, ◌^◌, ◌≤◌, List, MatchOption, subst}
use Rattle.kr_words.specs.declared.arguments.Reload.{Reload}
use Rattle.kr_words.specs.Arguments.{IsReloadAt}
use Rattle.kr_words.proofs.Given.{reload_given}
use Rattle.kr_words.proofs.command.CommandWords.reload.Goals as goal

pub returns-clause-given : goal.returns-clause-given
returns-clause-given c = λ command is few.
    reload_given (λ (r : Reload). r.replica) (λ (r : Reload). r.file.now) c.args.self.now.verb
    c.args.self.now.options.0 c.find_reload.result command is few
    (subst (λ (o : List (List ℕ × List ℕ)).
    MatchOption c.find_reload.result ((n : ℕ) (f : List ℕ) → IsReloadAt o n f → 2 ^ 64 ≤ n)
    (λ r. IsReloadAt o r.replica r.file.now)) c.as_slice.ensures c.find_reload.ensures)
