-- A path has a content, since each stored value has a reading.
use Rattle.std.proofs.Common.{ℕ, List, Option, None, Some, refl}
use Rattle.kr_envelope.proofs.Readable.{have_readings}
use Rattle.kr_store.specs.declared.rows.Row.{Row}
use Rattle.kr_store.specs.Rows.{live}
use Rattle.kr_config.specs.declared.who.Who.{Who}
use Rattle.kr_config.specs.declared.who.Who.TheVariants.{Kms}
use Rattle.kr_config.specs.Lists.{list_of}
use Rattle.kr_kms.specs.Opens.{Opens}
use Rattle.kr_provider.specs.Envelopes.{Envelope, HasEnvelope, source_by, unknown}
use Rattle.kr_provider.specs.Readers.{body_by, reader_in}
use Rattle.kr_provider.specs.Reading.{Reading, data_of, HasReading, value_reading}
use Rattle.kr_rollout.specs.declared.opening.Opening.{Opening}
use Rattle.kr_rollout.specs.Openings.{first_of}
use Rattle.kr_history.specs.Contents.{ContentChange, puts, deletes, last_change, OpeningContent, ContentBy}
use Rattle.kr_history.specs.ContentLaws.{SomeContent}

some_envelope : (opens : Opens) (reader : Option Who) (bytes : List ℕ)
    → (envelope : Envelope) × HasEnvelope opens reader bytes envelope
some_envelope opens (Some (Kms name)) bytes =
    let r = have_readings (body_by (Kms name) bytes) in (
      record { object = r.0; source = source_by opens name r.0 },
      ((r.1, r.2), refl),
    )
some_envelope opens other bytes = (unknown, tt)

some_reading : (opens : Opens) (list : List Who) (path bytes : List ℕ)
    → (reading : Reading) × HasReading opens list path bytes reading
some_reading opens list path bytes =
    let e = some_envelope opens (reader_in list bytes) bytes in
    (value_reading e.0 list path bytes, (e.0, e.1, refl))

opening_content : (opens : Opens) (o : Opening) (path : List ℕ) (row : Option Row)
    → (content : Option Reading) × OpeningContent opens (first_of o) path row content
opening_content opens o path None = (None, refl)
opening_content opens o path (Some row) =
    let r = some_reading opens (list_of (first_of o) row.resource) path row.stored in
    (Some r.0, (r.0, r.1, refl))

content_by : (change : Option ContentChange) (opens : Opens) (o : Opening) (path : List ℕ)
    → (content : Option Reading) × ContentBy change opens o path content
content_by (Some (puts plain)) opens o path = (Some (data_of plain), refl)
content_by (Some deletes) opens o path = (None, refl)
content_by None opens o path = opening_content opens o path (live o.rows path)

pub some_content : SomeContent
some_content opens o history path = content_by (last_change history path) opens o path
