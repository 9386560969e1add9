-- what is said of a part's answer serves the words
pub mod Serving
-- `check` on told bytes
pub mod Completing
-- valid files have one reading, and aren't refused
pub mod Readings
-- `gap` on what a command wrote whose branches are spent
pub mod GapCompleting
-- `regret` with branches enough
pub mod RegretCompleting
-- `run` with branches enough
pub mod RunCompleting
