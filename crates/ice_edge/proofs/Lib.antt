-- what readers give and writers take, where their bytes are known
pub mod Bytes
-- puts one after another, seen as one put of the whole text
pub mod Puts
