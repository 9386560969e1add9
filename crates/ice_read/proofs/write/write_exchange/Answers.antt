use Rattle.std.proofs.Common.{◌∙◌, ap}
use Rattle.serde_json.specs.Written.{has_float, compact_text}
use Rattle.ice_read.specs.ExchangeFile.{exchange_of}
use Rattle.ice_read.proofs.WrittenText.{exchange_no_float}
use Rattle.ice_read.proofs.TextAgain.{written_is_read}
use Rattle.ice_read.proofs.write.write_exchange.Goals as goal

pub returns : goal.returns
returns c =
    let text = c.in_ok-to_vec.ensures.text (ap has_float c.in_ok-value.ensures.value ∙ exchange_no_float c.args.ex.now c.in_ok-value.ensures.lawful) ∙ ap compact_text c.in_ok-value.ensures.value in
    record { text = text; read_again = ap exchange_of text ∙ written_is_read c.args.ex.now c.in_ok-value.ensures.lawful }
