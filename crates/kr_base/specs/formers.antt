-- Types that may hold the type that holds them.
pub mod list
