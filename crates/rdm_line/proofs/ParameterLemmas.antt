-- The first parameter with a PID.
use Rattle.std.proofs.Common.{◌≡◌, ℕ, suc, ◌<◌, ◌≤◌, Bool, true, false, List, [], ◌∷◌, length, get_or, Some, None, refl}
use Rattle.std.proofs.Common.{sym, ap, ◌∙◌, subst, inl, inr, arith}
use Rattle.std.specs.Prelude.{◌⊎◌, ◌==◌, nat_lt, is_some}
use Rattle.std.proofs.lemmas.Bool.{lt-ltb, le-ltb}
use Rattle.arrayvec.specs.ArrayVec.{ArrayVec}
use Rattle.rdm_wire.specs.declared.response.AckType.{AckType}
use Rattle.std.proofs.Math.ListN.{set}
use Rattle.rdm_line.specs.Parameters.{ParameterState, parameter_of, part_of, ack_of_part, part_sent, sent_of}
use Rattle.rdm_line.specs.body.Parts.{index_of, AnswersPart}

-- where there is none, and where it stands
pub record IsIndexOf (pid : ℕ) (ps : List ParameterState) (i : ℕ) : Type 0 where
  pub absent : length ps ≤ i → (parameter_of pid ps ≡ None) × (sent_of pid ps ≡ ps)
  pub found : (d : ParameterState) → i < length ps → (parameter_of pid ps ≡ Some (get_or ps i d))
      × (sent_of pid ps ≡ set ps i (part_sent (get_or ps i d)))

pub index_is : (pid : ℕ) (ps : List ParameterState) → IsIndexOf pid ps (index_of pid ps)
index_is pid [] = record { absent = λ p. (refl, refl); found = λ d p. absurd (omega arith) }
index_is pid (p ∷ ps) = after (index_is pid ps) (p.pid == pid) refl
  where
    later : (p.pid == pid) ≡ false → index_of pid (p ∷ ps) ≡ suc (index_of pid ps)
    later is = rw is (omega arith)

    first : (p.pid == pid) ≡ true → index_of pid (p ∷ ps) ≡ 0
    first is = rw is refl

    after : IsIndexOf pid ps (index_of pid ps) → (t : Bool) → (p.pid == pid) ≡ t
        → IsIndexOf pid (p ∷ ps) (index_of pid (p ∷ ps))
    after rest true is = subst (IsIndexOf pid (p ∷ ps)) (sym (first is)) (record {
      absent = λ q. absurd (omega arith);
      found = λ d q. rw is (refl, refl);
    })
    after rest false is = subst (IsIndexOf pid (p ∷ ps)) (sym (later is)) (record {
      absent = λ q. let none = rest.absent (omega arith) in rw is (none.0, ap (λ l. p ∷ l) none.1);
      found = λ d q. let some = rest.found d (omega arith) in rw is (some.0, ap (λ l. p ∷ l) some.1);
    })

-- whether there is one shows at its index
pub has_is : (pid : ℕ) (ps : List ParameterState) (index size : ℕ) → index ≡ index_of pid ps → size ≡ length ps
    → nat_lt index size ≡ is_some (parameter_of pid ps)
has_is pid ps index size at len = elim (cases_below index size) [
  | inl below ↦ lt-ltb index size below
      ∙ sym (ap is_some ((index_is pid ps).found a_parameter (omega (arith, at, len))).0)
  | inr past ↦ le-ltb index size past ∙ sym (ap is_some ((index_is pid ps).absent (omega (arith, at, len))).0)
]
  where
    a_parameter : ParameterState
    a_parameter = record { pid = 0; parts = []; next = 0 }

    cases_below : (a b : ℕ) → (a < b) ⊎ (b ≤ a)
    cases_below a b = grind arith

-- the part that is sent
pub sends : (pid : ℕ) (ps : List ParameterState) (index : ℕ) (p : ParameterState) (answer : ArrayVec ℕ × AckType)
    → index ≡ index_of pid ps → index < length ps
    → p ≡ get_or ps index p → answer.0.items ≡ part_of p → answer.1 ≡ ack_of_part p
    → AnswersPart (parameter_of pid ps) (Some answer)
sends pid ps index p answer at lt is part ack =
    subst (λ o. AnswersPart o (Some answer))
    (sym (((index_is pid ps).found p (omega (arith, at))).0 ∙ ap (λ n. Some (get_or ps n p)) (sym at)
    ∙ ap Some (sym is))) ((part, ack), refl)

pub sent : (pid : ℕ) (ps : List ParameterState) (index : ℕ) (p q : ParameterState) → index ≡ index_of pid ps
    → index < length ps
    → p ≡ get_or ps index p → q ≡ part_sent p → set ps index q ≡ sent_of pid ps
sent pid ps index p q at lt is moved =
    ap (set ps index) (moved ∙ ap part_sent is)
    ∙ ap (λ n. set ps n (part_sent (get_or ps n p))) at ∙ sym ((index_is pid ps).found p (omega (arith, at))).1

pub sends_none : (pid : ℕ) (ps : List ParameterState) (index : ℕ) → index ≡ index_of pid ps → length ps ≤ index
    → (parameter_of pid ps ≡ None) × (sent_of pid ps ≡ ps)
sends_none pid ps index at past = (index_is pid ps).absent (omega (arith, at))

pub sends_nothing : (pid : ℕ) (ps : List ParameterState) (index : ℕ) → index ≡ index_of pid ps → length ps ≤ index
    → AnswersPart (parameter_of pid ps) None
sends_nothing pid ps index at past = rw (sends_none pid ps index at past).0 refl
