-- a log that grows by steps that are taken
pub mod Growing
-- a leaf that a sweep makes
pub mod Swept
-- derived goods that are shown stand behind others
pub mod Shown
-- what a whole pass finds
pub mod Found
