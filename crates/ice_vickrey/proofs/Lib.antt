-- from the search without a bidder to its Vickrey discount
pub mod Leaving
-- what is known without one bidder
pub mod Knowing
