use Rattle.rdm_log.proofs.Common.{◌≡◌, ℕ, List, refl, sym, ap, inl, inr, get_or, arith, false≢true, none-some, joins}
use Rattle.rdm_log.proofs.Common.{accepts, asks, sends, cames, finishes, answers, collectors, traded, of_request}
use Rattle.rdm_log.proofs.Common.{verdicts, result, awaited, is_paused, is_closed, answers_to, has_begun}
use Rattle.rdm_log.proofs.Common.{entries_before_run, last_run, run_exchanges}
use Rattle.rdm_log.proofs.laws.runs.wrong_run_frames.Goals as goal

-- how long a frame says it is, and which PID it has
length_of : (f g : List ℕ) → f ≡ g → get_or f 2 0 ≡ get_or g 2 0
length_of f g e = ap (λ l. get_or l 2 0) e

pid_of : (f g : List ℕ) → f ≡ g → get_or f 22 0 ≡ get_or g 22 0
pid_of f g e = ap (λ l. get_or l 22 0) e

pub returns : goal.returns
unfolding accepts asks sends cames finishes answers collectors traded of_request verdicts result awaited is_paused
    is_closed answers_to joins has_begun entries_before_run last_run run_exchanges
returns c = record {
  between_parts =
      λ may. elim may.turn [ inl begins ↦ let none = begins.no_request in cc | inr open_ ↦ none-some 1 open_ ];
  answered = λ may. elim may.turn [ inl begins ↦ omega (arith, begins.number) | inr open_ ↦ none-some 1 open_ ];
  waits = λ may. elim may.turn [ inl sent ↦ false≢true sent | inr none ↦ (let wrong = none in cc) ];
  skipped = λ may. elim may.turn [ inl begins ↦ omega (arith, begins.number) | inr open_ ↦ none-some 3 open_ ];
  paused = λ may. elim may.turn [ inl begins ↦ false≢true (sym begins.not_paused) | inr open_ ↦ none-some 1 open_ ];
  goes_on = record {
    not_awaited = refl;
    not_closed = refl;
    turn = inr refl;
    in_budget = omega arith;
    packet = record { unmute = λ early. refl; search = λ late. absurd (omega (arith, late)) };
  };
  fourth = λ may. elim (may.packet.search (omega arith)) [
    | inl branch ↦ let wrong = length_of _ _ branch.frame_is in omega (arith, wrong)
    | inr mute ↦ let wrong = pid_of _ _ mute.frame_is in omega (arith, wrong)
  ];
  first = λ may. let wrong = length_of _ _ (may.packet.unmute (omega arith)) in omega (arith, wrong);
  over_budget = λ may. omega (arith, may.in_budget);
}
