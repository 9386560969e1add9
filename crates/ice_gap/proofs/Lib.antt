-- where the tests have come behind all records
pub mod Come
