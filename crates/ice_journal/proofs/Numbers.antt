-- Numbers of 64 bits with a sign.
use Rattle.std.proofs.Common.{◌<◌, ◌^◌, ℤ, arith}
use lib.Signed.{mag}
use Rattle.std.specs.Fmt.{signed_decimal}
use Rattle.ice_defs.specs.Exchange.{IsBetween}
use Rattle.ice_line.proofs.Signed.{mag_between, abs_mag}
use Rattle.ice_journal.proofs.Listed.{IsOneToOne}
use Rattle.ice_journal.proofs.OneSpelling.{signed_same}

pub within_same : (low high : ℤ) → mag low < 2 ^ 63 → mag high < 2 ^ 63 → IsOneToOne (IsBetween low high) signed_decimal
within_same low high hl hh y z p q e =
    let small : mag y < 2 ^ 63 = mag_between low high y hl hh p.0 p.1 in
    let small_too : mag z < 2 ^ 63 = mag_between low high z hl hh q.0 q.1 in
    signed_same y z (omega (arith, abs_mag y, small)) (omega (arith, abs_mag z, small_too)) e
