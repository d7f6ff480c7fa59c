-- Answers of one_breach.
use Rattle.kr_store.proofs.OneReading.{breach_once}
use Rattle.kr_store.proofs.Refusals.{no_file}
use Rattle.kr_store.proofs.laws.one_breach.Goals as goal

pub returns-clause-one : goal.returns-clause-one
returns-clause-one c = breach_once

pub returns-clause-no_file : goal.returns-clause-no_file
returns-clause-no_file c = λ bytes why format rows b f. no_file bytes why b format rows f
