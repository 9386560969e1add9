use Rattle.std.proofs.Common.{◌≡◌, Ok, refl, sym, ap, ◌∙◌, rules}
use Rattle.std.proofs.lemmas.Result.{err_from_is_err_and}
use Rattle.ice_defs.specs.Exchange.{Settings}
use Rattle.ice_read.specs.declared.cause.ReadCause.TheVariants.{Shape}
use Rattle.ice_read.proofs.PlacesOfFaults.{refused}
use Rattle.ice_read.proofs.settings.settings_of.Goals as goal

pub returns-then-not-are_settings-clause-reading : goal.returns-then-not-are_settings-clause-reading
returns-then-not-are_settings-clause-reading c = λ path. rw (← c.if-not-are_settings.ensures) (refused 2 Shape c.of.result c.of.ensures refl path)

pub returns-in_err-weight-clause-reading : goal.returns-in_err-weight-clause-reading
returns-in_err-weight-clause-reading c =
    let p = err_from_is_err_and c.from_residual.result c.from_residual.ensures.1 in
    rw (p.1, p.2) (λ path. rw (← c.if-not-are_settings.ensures, c.in_err-weight.ensures.reading path))

pub returns-in_err-close_regret-clause-reading : goal.returns-in_err-close_regret-clause-reading
returns-in_err-close_regret-clause-reading c =
    let p = err_from_is_err_and c.from_residual-in_err-close_regret.result c.from_residual-in_err-close_regret.ensures.1 in
    rw (p.1, p.2) (λ path. rw (← c.if-not-are_settings.ensures, c.in_ok-weight.ensures.reading path, c.in_err-close_regret.ensures.reading path))

pub returns-in_err-cap-clause-reading : goal.returns-in_err-cap-clause-reading
returns-in_err-cap-clause-reading c =
    let p = err_from_is_err_and c.from_residual-in_err-cap.result c.from_residual-in_err-cap.ensures.1 in
    rw (p.1, p.2) (λ path. rw (← c.if-not-are_settings.ensures, c.in_ok-weight.ensures.reading path, c.in_ok-close_regret.ensures.reading path, c.in_err-cap.ensures.reading path))

pub returns-in_err-improve-clause-reading : goal.returns-in_err-improve-clause-reading
returns-in_err-improve-clause-reading c =
    let p = err_from_is_err_and c.from_residual-in_err-improve.result c.from_residual-in_err-improve.ensures.1 in
    rw (p.1, p.2) (λ path. rw (← c.if-not-are_settings.ensures, c.in_ok-weight.ensures.reading path, c.in_ok-close_regret.ensures.reading path, c.in_ok-cap.ensures.reading path, c.in_err-improve.ensures.reading path))

pub returns-in_err-rounds-clause-reading : goal.returns-in_err-rounds-clause-reading
returns-in_err-rounds-clause-reading c =
    let p = err_from_is_err_and c.from_residual-in_err-rounds.result c.from_residual-in_err-rounds.ensures.1 in
    rw (p.1, p.2) (λ path. rw (← c.if-not-are_settings.ensures, c.in_ok-weight.ensures.reading path, c.in_ok-close_regret.ensures.reading path, c.in_ok-cap.ensures.reading path, c.in_ok-improve.ensures.reading path, c.in_err-rounds.ensures.reading path))

pub returns-in_err-branches-clause-reading : goal.returns-in_err-branches-clause-reading
returns-in_err-branches-clause-reading c =
    let p = err_from_is_err_and c.from_residual-in_err-branches.result c.from_residual-in_err-branches.ensures.1 in
    rw (p.1, p.2) (λ path. rw (← c.if-not-are_settings.ensures, c.in_ok-weight.ensures.reading path, c.in_ok-close_regret.ensures.reading path, c.in_ok-cap.ensures.reading path, c.in_ok-improve.ensures.reading path, c.in_ok-rounds.ensures.reading path, c.in_err-branches.ensures.reading path))

pub returns-in_err-derived-clause-reading : goal.returns-in_err-derived-clause-reading
returns-in_err-derived-clause-reading c =
    let p = err_from_is_err_and c.from_residual-in_err-derived.result c.from_residual-in_err-derived.ensures.1 in
    rw (p.1, p.2) (λ path. rw (← c.if-not-are_settings.ensures, c.in_ok-weight.ensures.reading path, c.in_ok-close_regret.ensures.reading path, c.in_ok-cap.ensures.reading path, c.in_ok-improve.ensures.reading path, c.in_ok-rounds.ensures.reading path, c.in_ok-branches.ensures.reading path, c.in_err-derived.ensures.reading path))

pub returns-clause-reading : goal.returns-clause-reading
returns-clause-reading c =
    let without : c.unwrap-without.result ≡ record { weight = c.in_ok-weight.weight; close_regret = c.in_ok-close_regret.close_regret; cap = c.in_ok-cap.cap; improve = c.in_ok-improve.improve; rounds = c.in_ok-rounds.rounds; branches = c.in_ok-branches.branches; derived = 0 } =
    search (rules, (rw c.unwrap-without.ensures at c.new-settings.ensures).1) in
    let all : c.unwrap.result ≡ record c.unwrap-without.result { derived = c.in_ok-derived.derived } = search (rules, (rw c.unwrap.ensures at c.with_derived-all.ensures).1) in
    λ path. rw (← c.if-not-are_settings.ensures, c.in_ok-weight.ensures.reading path, c.in_ok-close_regret.ensures.reading path, c.in_ok-cap.ensures.reading path, c.in_ok-improve.ensures.reading path, c.in_ok-rounds.ensures.reading path, c.in_ok-branches.ensures.reading path, c.in_ok-derived.ensures.reading path)
    (ap (λ s. Ok s) (sym (all ∙ ap (λ (s : Settings). let all : Settings = record s { derived = c.in_ok-derived.derived } in all) without)))
