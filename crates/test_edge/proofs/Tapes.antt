-- What is told of a tape or a random source that is out, for the search.
pub use Rattle.kr_kms.proofs.LentOut.{goes_back, is_out, is_still_out, seat_is_out, stays}
