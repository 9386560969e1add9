pub mod Tests
pub mod Stated
pub mod Charging
