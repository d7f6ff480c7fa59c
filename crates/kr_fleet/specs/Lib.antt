-- The definitions that public contracts and laws name.
pub mod CallExchanges
pub mod CallForms
pub mod ExchangeLaws
pub mod Fleets
pub mod LoadCalls
pub mod ReadCalls
pub mod SingleCalls
pub mod WriteCalls
pub mod inner
