-- Answers of Reader::put.
use Rattle.std.proofs.Common.{ℕ, List, Option, Ok}
use Rattle.kr_store.specs.declared.format.Check.{Check}
use Rattle.kr_store.specs.declared.format.Format.{Format}
use Rattle.kr_store.specs.declared.rows.Change.{Change}
use Rattle.kr_store.specs.declared.rows.Change.TheVariants.{Put}
use Rattle.kr_store.specs.File.{value_bytes, check_bytes}
use Rattle.kr_store.specs.Breaches.{Read, behind, resource_part, check_part, value_part}
use Rattle.kr_store.specs.inner.Reading.{put_bytes}
use Rattle.kr_store.proofs.Parts.{reads_resource, reads_check}
use Rattle.kr_store.proofs.Steps.{stops_behind, stops_first}
use Rattle.kr_store.proofs.reader.Reader.put.Goals as goal

-- what is read behind the resource, and behind the check
abbrev behind_check : List ℕ → Option Check → List ℕ → Read Change
behind_check resource check rest =
    behind (value_part rest) (λ stored rest. Ok (Put resource stored check, rest))

abbrev behind_resource : Format → List ℕ → List ℕ → Read Change
behind_resource format resource rest =
    behind (check_part format rest) (behind_check resource)

pub returns-in-Err-clause-reads : goal.returns-in-Err-clause-reads
returns-in-Err-clause-reads g c =
    let format = c.args.format in
    let resource = c.in_ok-resource.resource in
    stops_behind _ c.resource.new.self c.check.new.self _ resource_part (behind_resource format)
    resource check_bytes put_bytes c.in-Err.stop c.in_ok-resource.ensures.reads.gives
    c.in_ok-resource.ensures.reads.advances
    (λ rest. reads_resource resource rest c.in_ok-resource.ensures.rule)
    (stops_first c.resource.new.self c.check.new.self (check_part format) (behind_check resource)
    check_bytes check_bytes c.in-Err.stop c.in-Err.ensures.reads)

pub returns-in-Err-value-clause-reads : goal.returns-in-Err-value-clause-reads
returns-in-Err-value-clause-reads g c =
    let format = c.args.format in
    let resource = c.in_ok-resource.resource in
    let check = c.in-Ok.check in
    stops_behind _ c.resource.new.self c.value.new.self _ resource_part (behind_resource format)
    resource value_bytes put_bytes c.in-Err-value.stop c.in_ok-resource.ensures.reads.gives
    c.in_ok-resource.ensures.reads.advances
    (λ rest. reads_resource resource rest c.in_ok-resource.ensures.rule)
    (stops_behind c.resource.new.self c.check.new.self c.value.new.self _ (check_part format)
    (behind_check resource) check value_bytes value_bytes c.in-Err-value.stop
    c.in-Ok.ensures.reads.gives c.in-Ok.ensures.reads.advances
    (λ rest. reads_check format check rest c.in-Ok.ensures.rule)
    (stops_first c.check.new.self c.value.new.self value_part
    (λ stored rest. Ok (Put resource stored check, rest)) value_bytes value_bytes
    c.in-Err-value.stop c.in-Err-value.ensures.reads))
