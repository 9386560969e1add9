-- What one bidder of a settlement that closes pays.
use Rattle.std.specs.Prelude.{ℕ, [], pos, slice_index_or}
use Rattle.ice_defs.specs.Fraction.{whole_number}
use Rattle.ice_defs.specs.Session.{Payment}
use Rattle.ice_settled.specs.Shown.{charges_of}
use Rattle.ice_settled.specs.declared.settled.Charged.{Charged}

abbrev pub no_payment : Payment
no_payment = record { name = []; vickrey = pos 0; discount = whole_number (pos 0); payment = whole_number (pos 0) }

abbrev pub payment_at : Charged → ℕ → Payment
payment_at c b = slice_index_or (charges_of c) b no_payment
