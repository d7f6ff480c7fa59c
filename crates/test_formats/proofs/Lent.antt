-- What is told of a tape or a link that is out, for the search.
pub use Rattle.kr_kms.proofs.LentOut.{goes_back, is_out, is_still_out, link_is_out, stays}
