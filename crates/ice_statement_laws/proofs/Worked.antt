-- A session of two settlements, and what it says to each of its bidders.
use Rattle.std.proofs.Common.{◌≡◌, true, false, List, [], ◌∷◌, codes, pos, neg_ℤ, refl}
use Rattle.ice_defs.specs.declared.Verdict.TheVariants as verdict
use Rattle.ice_defs.specs.Steps.{leaf}
use Rattle.ice_journal.specs.Records.{Record, version_1, session_kind, closed_end}
use Rattle.ice_journal.specs.Records as line
use Rattle.ice_statement_laws.specs.Statement.{named, shown, kept, offered, ended}
use Rattle.ice_statement_laws.specs.Gathering.{gathered_lines}

abbrev rounds : List Record
rounds =
    line.head version_1 session_kind
    ∷ line.settings (record { weight = 60; close_regret = (pos 0); cap = (pos 100); improve = (pos 2); rounds = 5; branches = 200; derived = 0 })
    ∷ line.good (codes "A")
    ∷ line.bidder (codes "s") (1 ∷ [])
    ∷ line.sell 0 1 (neg_ℤ (pos 15)) (neg_ℤ (pos 15))
    ∷ line.bidder (codes "b") (0 ∷ [])
    ∷ line.buy 0 1 (pos 10) (pos 20)
    ∷ line.settle 0
    ∷ line.final (pos 0)
    ∷ line.set (false ∷ [])
    ∷ line.set (false ∷ [])
    ∷ line.step (leaf ((pos 640) ∷ []))
    ∷ line.rival (pos 5)
    ∷ line.set (true ∷ [])
    ∷ line.set (true ∷ [])
    ∷ line.step (leaf ((pos 960) ∷ []))
    ∷ line.regret (pos 5)
    ∷ line.provisional (pos 0)
    ∷ line.set (false ∷ [])
    ∷ line.set (false ∷ [])
    ∷ line.step (leaf ((pos 89600) ∷ []))
    ∷ line.prices (record { den = 1; nums = ((pos 14) ∷ []) })
    ∷ line.accuracy (pos 0) 1
    ∷ line.balance 1
    ∷ line.row 1 1 (true ∷ [])
    ∷ line.submit (record { name = codes "b"; lo = ((pos 5) ∷ []); hi = ((pos 18) ∷ []) })
    ∷ line.verdict (verdict.Loosened 0)
    ∷ line.submit (record { name = codes "b"; lo = ((pos 18) ∷ []); hi = ((pos 16) ∷ []) })
    ∷ line.verdict (verdict.Crossed 0)
    ∷ line.submit (record { name = codes "b"; lo = ((pos 16) ∷ (pos 16) ∷ []); hi = ((pos 18) ∷ []) })
    ∷ line.verdict verdict.WrongCount
    ∷ line.submit (record { name = codes "zz"; lo = ((pos 1) ∷ []); hi = ((pos 2) ∷ []) })
    ∷ line.verdict verdict.UnknownBidder
    ∷ line.submit (record { name = codes "b"; lo = ((pos 10) ∷ []); hi = ((pos 20) ∷ []) })
    ∷ line.verdict verdict.Mrpar
    ∷ line.submit (record { name = codes "b"; lo = ((pos 16) ∷ []); hi = ((pos 20) ∷ []) })
    ∷ line.verdict verdict.Improve
    ∷ line.submit (record { name = codes "b"; lo = ((pos 16) ∷ []); hi = ((pos 18) ∷ []) })
    ∷ line.verdict verdict.Accepted
    ∷ line.submit (record { name = codes "b"; lo = ((pos 16) ∷ []); hi = ((pos 17) ∷ []) })
    ∷ line.verdict verdict.Repeated
    ∷ line.settle 1
    ∷ line.final (pos 1)
    ∷ line.set (true ∷ [])
    ∷ line.set (true ∷ [])
    ∷ line.step (leaf ((pos 960) ∷ []))
    ∷ line.rival (pos 1)
    ∷ line.set (true ∷ [])
    ∷ line.set (true ∷ [])
    ∷ line.step (leaf ((pos 960) ∷ []))
    ∷ line.regret (pos 0)
    ∷ line.without 0 (pos 0)
    ∷ line.set (false ∷ [])
    ∷ line.set (false ∷ [])
    ∷ line.step (leaf ((pos 1024) ∷ []))
    ∷ line.without 1 (pos 0)
    ∷ line.set (false ∷ [])
    ∷ line.set (false ∷ [])
    ∷ line.step (leaf ((pos 0) ∷ []))
    ∷ line.threshold (record { num = (pos 1); den = 2 }) (record { num = (pos 0); den = 1 })
    ∷ line.payment (codes "s") (pos 1) (record { num = (pos 1); den = 2 }) (record { num = (neg_ℤ (pos 31)); den = 2 })
    ∷ line.payment (codes "b") (pos 1) (record { num = (pos 1); den = 2 }) (record { num = (pos 31); den = 2 })
    ∷ line.end closed_end
    ∷ []

to_s : gathered_lines (codes "s") rounds
    ≡ named (codes "s")
    ∷ shown (line.settings (record { weight = 60; close_regret = (pos 0); cap = (pos 100); improve = (pos 2); rounds = 5; branches = 200; derived = 0 }))
    ∷ shown (line.good (codes "A"))
    ∷ shown (line.bidder (codes "s") (1 ∷ []))
    ∷ shown (line.sell 0 1 (neg_ℤ (pos 15)) (neg_ℤ (pos 15)))
    ∷ shown (line.settle 0)
    ∷ shown (line.regret (pos 5))
    ∷ kept (false ∷ [])
    ∷ offered (false ∷ [])
    ∷ shown (line.prices (record { den = 1; nums = ((pos 14) ∷ []) }))
    ∷ shown (line.settle 1)
    ∷ shown (line.regret (pos 0))
    ∷ kept (true ∷ [])
    ∷ shown (line.threshold (record { num = (pos 1); den = 2 }) (record { num = (pos 0); den = 1 }))
    ∷ shown (line.payment (codes "s") (pos 1) (record { num = (pos 1); den = 2 }) (record { num = (neg_ℤ (pos 31)); den = 2 }))
    ∷ ended
    ∷ []
to_s = refl

to_b : gathered_lines (codes "b") rounds
    ≡ named (codes "b")
    ∷ shown (line.settings (record { weight = 60; close_regret = (pos 0); cap = (pos 100); improve = (pos 2); rounds = 5; branches = 200; derived = 0 }))
    ∷ shown (line.good (codes "A"))
    ∷ shown (line.bidder (codes "b") (0 ∷ []))
    ∷ shown (line.buy 0 1 (pos 10) (pos 20))
    ∷ shown (line.settle 0)
    ∷ shown (line.regret (pos 5))
    ∷ kept (false ∷ [])
    ∷ offered (false ∷ [])
    ∷ shown (line.prices (record { den = 1; nums = ((pos 14) ∷ []) }))
    ∷ shown (line.submit (record { name = codes "b"; lo = ((pos 5) ∷ []); hi = ((pos 18) ∷ []) }))
    ∷ shown (line.verdict (verdict.Loosened 0))
    ∷ shown (line.submit (record { name = codes "b"; lo = ((pos 18) ∷ []); hi = ((pos 16) ∷ []) }))
    ∷ shown (line.verdict (verdict.Crossed 0))
    ∷ shown (line.submit (record { name = codes "b"; lo = ((pos 16) ∷ (pos 16) ∷ []); hi = ((pos 18) ∷ []) }))
    ∷ shown (line.verdict verdict.WrongCount)
    ∷ shown (line.submit (record { name = codes "b"; lo = ((pos 10) ∷ []); hi = ((pos 20) ∷ []) }))
    ∷ shown (line.verdict verdict.Mrpar)
    ∷ shown (line.submit (record { name = codes "b"; lo = ((pos 16) ∷ []); hi = ((pos 20) ∷ []) }))
    ∷ shown (line.verdict verdict.Improve)
    ∷ shown (line.submit (record { name = codes "b"; lo = ((pos 16) ∷ []); hi = ((pos 18) ∷ []) }))
    ∷ shown (line.verdict verdict.Accepted)
    ∷ shown (line.submit (record { name = codes "b"; lo = ((pos 16) ∷ []); hi = ((pos 17) ∷ []) }))
    ∷ shown (line.verdict verdict.Repeated)
    ∷ shown (line.settle 1)
    ∷ shown (line.regret (pos 0))
    ∷ kept (true ∷ [])
    ∷ shown (line.threshold (record { num = (pos 1); den = 2 }) (record { num = (pos 0); den = 1 }))
    ∷ shown (line.payment (codes "b") (pos 1) (record { num = (pos 1); den = 2 }) (record { num = (pos 31); den = 2 }))
    ∷ ended
    ∷ []
to_b = refl
