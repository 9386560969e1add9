pub mod Ring
pub mod Gcd
pub mod Lowest
pub mod Fractions
pub mod FieldLaws
pub mod Rational
