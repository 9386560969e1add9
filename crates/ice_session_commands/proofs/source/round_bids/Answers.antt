use Rattle.std.proofs.Common.{refl, sym, subst, map}
use Rattle.std.specs.Prelude.{string_bytes}
use Rattle.ice_command_parts.proofs.Parts.{later_refl}
use Rattle.ice_session_commands.specs.declared.source.Source.{Source}
use Rattle.ice_session_commands.specs.declared.source.Source.TheVariants.{Files}
use Rattle.ice_session_commands.specs.Sources.{MayGive, Gives}
use Rattle.ice_session_commands.proofs.Sources.{HasFiles, HasProxies, lacks_ends, proxies_end}
use Rattle.ice_session_commands.proofs.source.round_bids.Goals as goal

pub file_bids-requires : goal.file_bids-requires
file_bids-requires g c = let r = c.args.round.now in subst (λ (x : Source). MayGive x r) c.in-Files.is c.requires

pub proxy_bids-requires-clause-stands : goal.proxy_bids-requires-clause-stands
proxy_bids-requires-clause-stands g c = let r = c.args.round.now in (subst (λ (x : Source). MayGive x r) c.in-Proxies.is c.requires).0

pub proxy_bids-requires-clause-hold : goal.proxy_bids-requires-clause-hold
proxy_bids-requires-clause-hold g c = let r = c.args.round.now in (subst (λ (x : Source). MayGive x r) c.in-Proxies.is c.requires).1

-- ---- files

pub returns-in-Ok-clause-bids : goal.returns-in-Ok-clause-bids
returns-in-Ok-clause-bids g c =
    let shelf = g.H.Shelf.told c.args.shelf.now in
    let r = c.args.round.now in
    let two = c.in-Ok.two in
    subst (λ (x : Source). Gives x shelf r two.0.items (Files two.1)) (sym c.in-Files.is) c.in-Ok.ensures.bids

pub returns-in-Ok-clause-kept : goal.returns-in-Ok-clause-kept
returns-in-Ok-clause-kept g c = c.in-Ok.ensures.kept

pub returns-in-Ok-clause-later : goal.returns-in-Ok-clause-later
returns-in-Ok-clause-later g c = c.file_bids.ensures.later

pub returns-in-Err-clause-ended : goal.returns-in-Err-clause-ended
returns-in-Err-clause-ended g c =
    let files = map string_bytes c.in-Files.names.now in
    lacks_ends c.args.source files c.args.round.now (g.H.Shelf.told c.args.shelf.now) (g.H.Shelf.told c.file_bids.new.shelf) c.in-Err.none
    (subst (λ (x : Source). HasFiles x files) (sym c.in-Files.is) refl) c.in-Err.ensures.ended

pub returns-in-Err-clause-kept_at_end : goal.returns-in-Err-clause-kept_at_end
returns-in-Err-clause-kept_at_end g c = c.in-Err.ensures.kept_at_end

pub returns-in-Err-clause-later : goal.returns-in-Err-clause-later
returns-in-Err-clause-later g c = c.file_bids.ensures.later

-- ---- proxies

pub returns-in-Ok-proxy_bids-clause-bids : goal.returns-in-Ok-proxy_bids-clause-bids
returns-in-Ok-proxy_bids-clause-bids g c =
    let shelf = g.H.Shelf.told c.args.shelf.now in
    let r = c.args.round.now in
    let bids = c.in-Ok-proxy_bids.bids.items in
    subst (λ (x : Source). Gives x shelf r bids x) (sym c.in-Proxies.is) (refl, c.in-Ok-proxy_bids.ensures)

pub returns-in-Ok-proxy_bids-clause-kept : goal.returns-in-Ok-proxy_bids-clause-kept
returns-in-Ok-proxy_bids-clause-kept g c = refl

pub returns-in-Ok-proxy_bids-clause-later : goal.returns-in-Ok-proxy_bids-clause-later
returns-in-Ok-proxy_bids-clause-later g c = later_refl (g.H.Shelf.told c.args.shelf.now)

pub returns-in-Err-proxy_bids-clause-ended : goal.returns-in-Err-proxy_bids-clause-ended
returns-in-Err-proxy_bids-clause-ended g c =
    let shelf = g.H.Shelf.told c.args.shelf.now in
    proxies_end c.args.source c.args.round.now shelf shelf (subst HasProxies (sym c.in-Proxies.is) tt)

pub returns-in-Err-proxy_bids-clause-kept_at_end : goal.returns-in-Err-proxy_bids-clause-kept_at_end
returns-in-Err-proxy_bids-clause-kept_at_end g c = λ no_file. refl

pub returns-in-Err-proxy_bids-clause-later : goal.returns-in-Err-proxy_bids-clause-later
returns-in-Err-proxy_bids-clause-later g c = later_refl (g.H.Shelf.told c.args.shelf.now)
