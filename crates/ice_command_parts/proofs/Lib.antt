-- parts of a call
pub mod Parts
-- why a file is not had
pub mod Refusing
-- all that is told stays the same where no file caused the status
pub mod Keeping
-- a journal that is put piece by piece
pub mod Writing
