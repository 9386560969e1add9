-- The bytes that a checker stands for.
use Rattle.std.proofs.Common.{◌≡◌, ◌<◌, ◌+◌, ℕ, Bool, true, false, IsTrue, List, [], ◌∷◌, ◌++◌, length, Contains, refl, sym, ◌∙◌, ap, subst, arith, append_assoc, append-nil, length-append, ⊎_elim}
use Rattle.std.proofs.lemmas.List.Elements.{Contains-append_cases}
use Rattle.std.specs.Prelude.{Result, Ok, Err, OnOk}
use Rattle.ice_journal.specs.Journal.{IsNoRecord}
use Rattle.ice_journal_laws.specs.declared.answer.Answer.{Answer}
use Rattle.ice_journal_laws.specs.declared.answer.CheckEnd.{CheckEnd}
use Rattle.ice_journal_laws.specs.declared.answer.CheckEnd.TheVariants.{NoMemory}
use Rattle.ice_journal_laws.specs.Progress.{Progress, nothing, other_kind, passing, failed, out_of_memory, Leads, stays}
use Rattle.ice_journal_laws.specs.Answers.{EndsWith, AnswersBytes}
use Rattle.ice_journal_laws.proofs.Answered.{end_answers}
use Rattle.ice_journal_laws.proofs.Leading.{finds}
use Rattle.ice_check_records.specs.Checking.{HasCome}
use Rattle.ice_check_records.specs.Checking as records
use Rattle.ice_check.specs.declared.begun.Begun.{Begun}
use Rattle.ice_check_records.proofs.Staged.{stopped_stays}
use Rattle.ice_check.specs.declared.lines.Lines.{Lines}
use Rattle.ice_check.specs.declared.lines.Lines.TheVariants as known
use Rattle.ice_check.specs.Standing.{Checking, StandsFor, AreTaken, AreRead, AreStopped, IsTextOf, IsKeptText, is_ready_at}
use Rattle.ice_check.proofs.Short.{records_are_short}

pub no_byte : ¬ Contains {X = ℕ} [] 10
no_byte (x, below, e) = omega (arith, below)

pub not_true : false ≡ true → ⊥
not_true e = cc

pub in_one_line : (a b : List ℕ) → ¬ Contains a 10 → ¬ Contains b 10 → ¬ Contains (a ++ b) 10
in_one_line a b none_left none_right is = ⊎_elim none_left none_right (Contains-append_cases a b 10 is)

-- the line that has begun ends with this text
pub line_ends : (old new : Checking) (bytes text : List ℕ) (h : StandsFor old bytes) → new.count ≡ old.count + length text + 1 → IsTextOf new.begun []
    → AreRead new.lines (h.ends.whole ++ ((h.ends.begun ++ text) ++ 10 ∷ [])) → StandsFor new (bytes ++ (text ++ 10 ∷ []))
line_ends old new bytes text h count empty read = record {
  count = omega (arith, count, h.count, length-append bytes (text ++ 10 ∷ []), length-append text (10 ∷ []));
  ends = record {
    whole = h.ends.whole ++ ((h.ends.begun ++ text) ++ 10 ∷ []);
    begun = [];
    cut =
        ap (λ (l : List ℕ). l ++ (text ++ 10 ∷ [])) h.ends.cut
        ∙ append_assoc h.ends.whole h.ends.begun (text ++ 10 ∷ [])
        ∙ ap (λ (l : List ℕ). h.ends.whole ++ l) (sym (append_assoc h.ends.begun text (10 ∷ [])))
        ∙ sym (append-nil (h.ends.whole ++ ((h.ends.begun ++ text) ++ 10 ∷ [])));
    one_line = no_byte;
    lines = read;
    text = empty;
  };
}

pub on_ok : {E P Q : Type 0} (result : Result (Unit {0}) E) → (P → Q) → OnOk result P → OnOk result Q
on_ok (Ok unit) f h = f h
on_ok (Err error) f h = tt

-- it goes on with this text
pub line_goes_on : (old new : Checking) (bytes text : List ℕ) → ¬ Contains text 10 → new.count ≡ old.count + length text → new.lines ≡ old.lines
    → ((begun : List ℕ) → IsTextOf old.begun begun → IsTextOf new.begun (begun ++ text)) → StandsFor old bytes → StandsFor new (bytes ++ text)
line_goes_on old new bytes text one_line count same begins h = record {
  count = omega (arith, count, h.count, length-append bytes text);
  ends = record {
    whole = h.ends.whole;
    begun = h.ends.begun ++ text;
    cut = ap (λ (l : List ℕ). l ++ text) h.ends.cut ∙ append_assoc h.ends.whole h.ends.begun text;
    one_line = in_one_line h.ends.begun text h.ends.one_line one_line;
    lines = subst (λ (l : Lines). AreRead l h.ends.whole) (sym same) h.ends.lines;
    text = begins h.ends.begun h.ends.text;
  };
}

-- ---- the line that has begun

pub long_is_none : (b : Begun) (text : List ℕ) → IsTrue b.is_long → IsTextOf b text → IsNoRecord text
long_is_none b text long is =
    let above : 8192 < length text = subst (λ (l : Bool). IsKeptText l b.text.items text) long is in
    λ r lawful e. omega (arith, above, records_are_short r lawful, ap length e)

pub some_byte : (text : List ℕ) → (text ≡ [] → ⊥) → 0 < length text
some_byte [] some = absurd (some refl)
some_byte (b ∷ bs) some = omega arith

-- ---- the first bytes

pub nothing_taken : (c : records.Checking) → HasCome c nothing → c.line ≡ 1 → AreTaken c []
nothing_taken c come first = record { journal = []; spelled = record { lawful = tt; spelled = refl }; line = first; progress = nothing; leads = stays; come = come }

-- ---- pieces

-- of a piece these bytes are left
pub record HasFed (piece rest : List ℕ) (old new : Checking) : Type 0 where
  pub taken : List ℕ
  pub parts : piece ≡ taken ++ rest
  pub count : new.count ≡ old.count + length taken
  pub stands : (bytes : List ℕ) → StandsFor old bytes → StandsFor new (bytes ++ taken)
  pub ready : IsTrue (is_ready_at old) → IsTrue (is_ready_at new)

-- more bytes of it are taken
pub more_fed : (piece rest more after : List ℕ) (old new last : Checking) → HasFed piece rest old new → rest ≡ more ++ after → last.count ≡ new.count + length more
    → ((bytes : List ℕ) → StandsFor new bytes → StandsFor last (bytes ++ more)) → (IsTrue (is_ready_at new) → IsTrue (is_ready_at last)) → HasFed piece after old last
more_fed piece rest more after old new last h cut count stands ready = record {
  taken = h.taken ++ more;
  parts = h.parts ∙ ap (λ (l : List ℕ). h.taken ++ l) cut ∙ sym (append_assoc h.taken more after);
  count = omega (arith, count, h.count, length-append h.taken more);
  stands = λ bytes is. subst (λ (b : List ℕ). StandsFor last b) (append_assoc bytes h.taken more) (stands (bytes ++ h.taken) (h.stands bytes is));
  ready = λ is. ready (h.ready is);
}

-- ---- the answer

pub answers_taken : (bytes whole : List ℕ) (c : records.Checking) (answer : Result Answer CheckEnd) → bytes ≡ whole → AreTaken c whole → ((p : Progress) → HasCome c p → EndsWith p answer) → AnswersBytes bytes answer
answers_taken bytes whole c answer same h ends =
    subst (λ (b : List ℕ). AnswersBytes b answer) (sym same) (end_answers whole h.journal h.progress answer h.spelled h.leads (ends h.progress h.come))

ends_otherwise : (p : Progress) → (p ≡ out_of_memory → ⊥) → EndsWith p (Err NoMemory) → ⊥
ends_otherwise nothing some e = absurd cc
ends_otherwise other_kind some e = absurd cc
ends_otherwise (passing s) some e = e
ends_otherwise (failed failure) some e = absurd cc
ends_otherwise out_of_memory some e = some refl

-- no memory is wanted where it was not before
pub wants_none : (whole : List ℕ) (c : records.Checking) (answer : Result Answer CheckEnd) → AreTaken c whole → ((p : Progress) → HasCome c p → EndsWith p answer) → answer ≡ Err NoMemory → ⊥
wants_none whole c answer h ends e =
    ends_otherwise h.progress (λ out. finds h.journal out_of_memory (subst (λ (p : Progress). Leads nothing h.journal p) out h.leads))
    (subst (λ (a : Result Answer CheckEnd). EndsWith h.progress a) e (ends h.progress h.come))

-- a checker that has stopped stands for no lines
pub none_stopped : (lines : Lines) (whole : List ℕ) → AreStopped lines → ¬ AreRead lines whole
none_stopped (known.Records c) whole stopped h =
    let out : h.progress ≡ out_of_memory = stopped_stays c.line c.stage h.progress stopped h.come in
    finds h.journal out_of_memory (subst (λ (p : Progress). Leads nothing h.journal p) out h.leads)
none_stopped (known.Grammar line) whole stopped h = stopped
