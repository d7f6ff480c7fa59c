-- The check that a store keeps beside a provider's values.
use Rattle.std.specs.Prelude.{◌==◌, ℕ, Bool, true, List, Option, None, Some}
use Rattle.std.specs.Int.{w64, from_be_bytes}
use Rattle.kr_store.specs.declared.format.Check.{Check}
use Rattle.kr_store.specs.declared.format.Format.{Format}
use Rattle.kr_store.specs.Rows.{check_in}
use Rattle.kr_config.specs.declared.who.Who.{Who}
use Rattle.kr_provider.specs.Checks.{provider_check}
use Rattle.kr_provider.specs.Publication.{Publication, writer_at}

-- the provider's check, as the number that its 8 bytes are with the highest byte first
abbrev pub store_check : Who → Check
store_check who = record { value = from_be_bytes w64 (provider_check who) }

-- a row has the provider's check, where it has one
abbrev pub keeps_check : Option Check → Who → Bool
keeps_check None who = true
keeps_check (Some check) who = check.value == (store_check who).value

-- what a store of the format keeps beside a value that the configuration writes for the resource
abbrev pub written_check : Format → Publication → (resource : List ℕ) → Option Check
written_check format p resource = check_in format (store_check (writer_at p resource))
