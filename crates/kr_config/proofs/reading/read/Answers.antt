-- What the tactic leaves open of `read`.
use Rattle.std.proofs.Common.{Ok, Err, sym, ap, ◌∙◌, subst}
use Rattle.kr_config.specs.Kept.{rows_of}
use Rattle.kr_config.specs.Meanings.{no_text, MeansConfig}
use Rattle.kr_config.proofs.Meant.{entries_meant, no_text_meant, hand_on}
use Rattle.kr_config.proofs.reading.read.Goals as goal

pub returns-in-Err : goal.returns-in-Err
returns-in-Err c = no_text_meant c.args.bytes.now c.no_text.result c.in-Err.ensures.cases.0
    (c.no_text.ensures ∙ ap no_text c.begins_json-is_json.ensures)

pub returns-in-Err-read_text : goal.returns-in-Err-read_text
returns-in-Err-read_text c = hand_on c.args.bytes.now c.in-Err-read_text.why
    (entries_meant c.begins_json-is_json.result c.args.bytes.now c.in-Ok.text.now
    (Err c.in-Err-read_text.why) c.begins_json-is_json.ensures c.in-Ok.ensures.cases.0
    c.in-Ok.ensures.cases.1 c.in-Err-read_text.ensures)

pub returns-in-Ok-from_entries : goal.returns-in-Ok-from_entries
returns-in-Ok-from_entries c = subst (λ entries. MeansConfig c.args.bytes.now (Ok (rows_of entries.0)))
    (sym c.in-Ok-from_entries.ensures)
    (entries_meant c.begins_json-is_json.result c.args.bytes.now c.in-Ok.text.now
    (Ok c.in-Ok-read_text.entries) c.begins_json-is_json.ensures c.in-Ok.ensures.cases.0
    c.in-Ok.ensures.cases.1 c.in-Ok-read_text.ensures)
