-- Losses with no five numbers in a row are few.
use Rattle.std.proofs.Common.{◌≡◌, ℕ, zero, suc, ◌+◌, ◌<◌, Bool, true, false, List, [], ◌∷◌, ◌++◌, length, refl, ap}
use Rattle.std.proofs.Common.{◌∙◌, subst, append_assoc, arith}
use Rattle.std.specs.Prelude.{nat_lt, MatchBool}
use Rattle.std.specs.List.{AllByRecursion}
use Rattle.std.proofs.lemmas.Bool.{and_parts}
use Rattle.rdm_wire.specs.Uid.{has}
use Rattle.rdm_wire.specs.Commands.{command_read}
use Rattle.rdm_line.specs.Sim.{SimState, SimStep, FailsOnly, Exchanges, is_among, counted, next_exchange, last_exchange}
use Rattle.rdm_line.specs.SimSteps.{Step, AreSteps, is_lost, LosesBranch, LosesMute}
use Rattle.rdm_line.specs.SimSteps.{NeverFive, LosesFew, NoFiveSuccessive}
use Rattle.rdm_line.proofs.StepLemmas.{keeps_numbers, among_counts}
use Rattle.rdm_line.proofs.LeavesLemmas.{acts_leave}

-- what a step leaves of the losses and of the count
record CountsExchange (s new : SimState) : Type 0 where
  losses : new.losses ≡ s.losses
  exchanges : new.exchanges ≡ next_exchange s.exchanges

step_counts : (x : Step) (next : SimState) → SimStep x.before x.exchange next → CountsExchange x.before next
step_counts x next step = by_rule (is_among x.before.exchanges x.before.fails) step.rule
  where
    by_rule : (t : Bool) → MatchBool t (FailsOnly x.before x.exchange.1 next) (Exchanges x.before x.exchange next)
        → CountsExchange x.before next
    by_rule true h = record {
      losses = ap (λ (s : SimState). s.losses) h.only;
      exchanges = ap (λ (s : SimState). s.exchanges) h.only;
    }
    by_rule false h = record {
      losses = (keeps_numbers x.before.exchanges (counted x.before) next (command_read x.exchange.0.items) h.reply
          h.acts).losses;
      exchanges = (acts_leave x.before next (command_read x.exchange.0.items) h.reply h.acts).exchanges;
    }

-- the steps after a prefix are steps, too
record Rest (s : SimState) (rest : List Step) (new : SimState) : Type 0 where
  mid : SimState
  steps_are : AreSteps mid rest new
  losses : mid.losses ≡ s.losses

rest_of : (front rest : List Step) (s new : SimState) → AreSteps s (front ++ rest) new → Rest s rest new
rest_of [] rest s new steps_are = record { mid = s; steps_are = steps_are; losses = refl }
rest_of (x ∷ front) rest s new steps_are =
    let later = rest_of front rest steps_are.1 new steps_are.3 in
    record {
      mid = later.mid;
      steps_are = later.steps_are;
      losses = later.losses ∙ (step_counts x steps_are.1 steps_are.2).losses
          ∙ ap (λ (t : SimState). t.losses) steps_are.0;
    }

-- steps that are lost one after another have numbers in a row
all_lost : (lost back : List Step) (s new : SimState) → AreSteps s (lost ++ back) new → AllByRecursion is_lost lost
    → (j : ℕ) → j < length lost → has s.losses (s.exchanges + j) ≡ true
all_lost [] back s new steps_are all j lt = absurd (omega arith)
all_lost (x ∷ lost) back s new steps_are all zero lt =
    let here = (and_parts (nat_lt x.before.exchanges last_exchange) (has x.before.losses x.before.exchanges) all.0).1 in
    subst (λ (t : SimState). has t.losses (t.exchanges + 0) ≡ true) steps_are.0
    (subst (λ n. has x.before.losses n ≡ true) (no_more x.before.exchanges) here)
  where
    no_more : (n : ℕ) → n ≡ n + 0
    no_more n = omega arith
all_lost (x ∷ lost) back s new steps_are all (suc j) lt =
    let counts = step_counts x steps_are.1 steps_are.2 in
    let next : steps_are.1.exchanges ≡ x.before.exchanges + 1 = counts.exchanges
    ∙ among_counts x.before.exchanges x.before.losses all.0 in
    let later = all_lost lost back steps_are.1 new steps_are.3 all.1 j (omega arith) in
    subst (λ (t : SimState). has t.losses (t.exchanges + suc j) ≡ true) steps_are.0
    (subst (λ n. has x.before.losses n ≡ true) (moved steps_are.1.exchanges x.before.exchanges next)
    (subst (λ us. has us (steps_are.1.exchanges + j) ≡ true) counts.losses later))
  where
    moved : (a b : ℕ) → a ≡ b + 1 → a + j ≡ b + suc j
    moved a b h = omega arith

-- so there aren't five of them
never_five : (P : Step → Type 0) → ((x : Step) → P x → is_lost x) → (s new : SimState) (xs : List Step)
    → AreSteps s xs new
    → NoFiveSuccessive s.losses → NeverFive P xs
never_five P lost s new xs steps_are few front five back split five_long all =
    let rest = rest_of front (five ++ back) s new
    (subst (λ l. AreSteps s l new) (split ∙ append_assoc front five back) steps_are) in
    few rest.mid.exchanges
    (λ j lt. subst (λ us. has us (rest.mid.exchanges + j) ≡ true) rest.losses
    (all_lost five back rest.mid new rest.steps_are (each five all) j (omega (arith, five_long))))
  where
    each : (ys : List Step) → AllByRecursion P ys → AllByRecursion is_lost ys
    each [] h = tt
    each (y ∷ ys) h = (lost y h.0, each ys h.1)

pub few_losses : (s new : SimState) (xs : List Step) → AreSteps s xs new → NoFiveSuccessive s.losses → LosesFew xs
few_losses s new xs steps_are few = record {
  branches = never_five LosesBranch (λ x h. h.lost) s new xs steps_are few;
  mutes = never_five LosesMute (λ x h. h.lost) s new xs steps_are few;
}
