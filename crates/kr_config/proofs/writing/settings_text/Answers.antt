use Rattle.std.proofs.Common.{Ok, ap, sym, subst, ◌∙◌}
use Rattle.serde_json.specs.View.{view}
use Rattle.kr_config.specs.Kept.{rows_of}
use Rattle.kr_config.specs.Meanings.{MeansConfig}
use Rattle.kr_config.specs.Texts.{settings_data}
use Rattle.kr_config.specs.inner.Written.{AreOfBytes}
use Rattle.kr_config.proofs.ReadBack.{text_is, text_means}
use Rattle.kr_config.proofs.writing.settings_text.Goals as goal

pub returns-clause-text : goal.returns-clause-text
returns-clause-text c =
    c.from_vec.ensures
    ∙ text_is (rows_of c.args.settings.now.entries.0) (view c.in_ok-value.value)
    c.in_ok-to_vec.field-0.items
    (c.in_ok-value.ensures ∙ ap (λ es. settings_data (rows_of es)) c.as_slice-2.ensures)
    c.in_ok-to_vec.ensures.text

pub returns-clause-meant : goal.returns-clause-meant
returns-clause-meant c =
    let rows = rows_of c.args.settings.now.entries.0 in
    subst (λ text. MeansConfig text (Ok rows)) (sym c.from_vec.ensures)
    (text_means rows (view c.in_ok-value.value) c.in_ok-to_vec.field-0.items c.known.ensures
    (subst (λ es. AreOfBytes (rows_of es)) c.as_slice.ensures c.tell_secrets.ensures)
    (c.in_ok-value.ensures ∙ ap (λ es. settings_data (rows_of es)) c.as_slice-2.ensures)
    c.in_ok-to_vec.ensures.utf8 c.in_ok-to_vec.ensures.text c.in_ok-to_vec.ensures.reads_back)
