-- Answers of one_listing.
use Rattle.kr_store.proofs.Listings.{listing_once, nexts_are_listing}
use Rattle.kr_store.proofs.laws.one_listing.Goals as goal

pub returns-clause-one : goal.returns-clause-one
returns-clause-one c = listing_once

pub returns-clause-nexts : goal.returns-clause-nexts
returns-clause-nexts c = nexts_are_listing
