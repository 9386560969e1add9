-- Bids that are judged and put one after another.
use Rattle.std.proofs.Common.{◌≡◌, ◌∙◌, ◌+◌, ◌<◌, ◌≤◌, ℕ, List, [], ◌∷◌, ◌++◌, length, take, drop, get_or, refl, sym, ap, subst, Result, Ok, Err}
use Rattle.std.specs.List.{flat_map}
use Rattle.std.proofs.lemmas.List.{append-nil, map_push, take_all, take_more, take-append-drop}
use Rattle.std.proofs.lemmas.List.Concat.{flat_map-append}
use Rattle.ice_edge.specs.Puts.{Takes, FailsIn}
use Rattle.ice_edge.proofs.Puts.{takes_nothing}
use Rattle.ice_edge.specs.declared.sink.SinkFault.{SinkFault}
use Rattle.ice_edge.specs.Taken.{Taken}
use Rattle.ice_defs.specs.Round.{Submission, Judged}
use Rattle.ice_journal.specs.Records.{Record}
use Rattle.ice_journal.specs.Journal.{bytes_of}
use Rattle.ice_journal_laws.specs.Written.{judged_records}
use Rattle.ice_round.specs.SessionAt.{RoundAt}
use Rattle.ice_write_session.proofs.Puts.{fails_then, takes_then}
use Rattle.ice_trial.specs.Rounds.{submissions_in, GoesOnBy}
use Rattle.ice_trial.proofs.Submitting.{goes_on_more, goes_on_none}
use Rattle.ice_session_commands.specs.SessionSteps.{HaveJudged, Judges}

pub none_judged : (r : RoundAt) (bids : List Submission) (old : Taken) → HaveJudged r r bids 0 old old
none_judged r bids old = record { judged = []; bids_are = refl; goes_on = goes_on_none r; takes = takes_nothing old }

module _ (before mid after : RoundAt) (bids : List Submission) (n : ℕ) (bid : Submission) (there : n < length bids) (is : get_or bids n bid ≡ bid) (j : Judged) (same : j.submission ≡ bid) (one : GoesOnBy mid after (j ∷ [])) where
  more_bids : (judged : List Judged) → submissions_in judged ≡ take n bids → submissions_in (judged ++ j ∷ []) ≡ take (n + 1) bids
  more_bids judged e = map_push (λ (x : Judged). x.submission) judged j ∙ ap (λ (ss : List Submission). ss ++ j.submission ∷ []) e ∙ ap (λ (x : Submission). take n bids ++ x ∷ []) (same ∙ sym is) ∙ sym (take_more bids n bid there)

  more_records : (judged : List Judged) → flat_map judged_records judged ++ judged_records j ≡ flat_map judged_records (judged ++ j ∷ [])
  more_records judged = sym (flat_map-append judged_records judged (j ∷ []))

  pub one_judged : {old now new : Taken} → HaveJudged before mid bids n old now → Takes (bytes_of (judged_records j)) now new → HaveJudged before after bids (n + 1) old new
  one_judged {old = old} {now = now} {new = new} so_far takes = record {
    judged = so_far.judged ++ j ∷ [];
    bids_are = more_bids so_far.judged so_far.bids_are;
    goes_on = goes_on_more before mid after so_far.judged (j ∷ []) so_far.goes_on one;
    takes = subst (λ (rs : List Record). Takes (bytes_of rs) old new) (more_records so_far.judged) (takes_then (flat_map judged_records so_far.judged) (judged_records j) so_far.takes takes);
  }

  pub one_fails : {old now new : Taken} (put : Result (Unit {0}) SinkFault) (fault : SinkFault) → put ≡ Err fault → HaveJudged before mid bids n old now → FailsIn (bytes_of (judged_records j)) now new → Judges before after bids put old new
  one_fails {old = old} {now = now} {new = new} put fault e so_far fails = subst (λ (p : Result (Unit {0}) SinkFault). Judges before after bids p old new) (sym e) (record {
    judged = so_far.judged ++ j ∷ [];
    front = (drop (n + 1) bids, sym (take-append-drop (n + 1) bids) ∙ ap (λ (ss : List Submission). ss ++ drop (n + 1) bids) (sym (more_bids so_far.judged so_far.bids_are)));
    all = tt;
    goes_on = goes_on_more before mid after so_far.judged (j ∷ []) so_far.goes_on one;
    is_put = subst (λ (rs : List Record). FailsIn (bytes_of rs) old new) (more_records so_far.judged) (fails_then (flat_map judged_records so_far.judged) (judged_records j) so_far.takes fails);
  })

pub all_judged : (before after : RoundAt) (bids : List Submission) (n : ℕ) (old new : Taken) → length bids ≤ n → HaveJudged before after bids n old new → Judges before after bids (Ok tt) old new
all_judged before after bids n old new all so_far =
    let same : submissions_in so_far.judged ≡ bids = so_far.bids_are ∙ take_all n bids all in
    record { judged = so_far.judged; front = ([], sym (append-nil bids) ∙ ap (λ (ss : List Submission). ss ++ []) (sym same)); all = same; goes_on = so_far.goes_on; is_put = so_far.takes }
