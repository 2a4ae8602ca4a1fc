-- A sweep keeps its suspect or forgets it, whatever else it comes to believe. So what it suspects still isn't present.
use Rattle.rdm_agent.proofs.Common.{ℕ, ◌+◌, ◌==◌, ◌&&◌, ◌||◌, not, nat_lt, List, [], ◌∷◌, Option, None, Some, cond_both}
use Rattle.rdm_agent.proofs.Common.{choose, hearing, believed_silent, believed_apart}
use Rattle.rdm_agent.proofs.Common.{Belief, Sweep, TRIES, Span, stray_found, true≢false, sym}
use Rattle.rdm_agent.proofs.Potential.{IsVain}
use Rattle.std.specs.Prelude.{slice_get}
use Rattle.rdm_agent.specs.declared.belief.Part.{Part}
use Rattle.rdm_agent.specs.declared.belief.Part.TheVariants as parts
use Rattle.rdm_agent.specs.Beliefs.{question, ready, restarted, past_zero, is_alone, is_same, is_suspect}
use Rattle.rdm_agent.specs.Beliefs.{settled, part_silent, is_doubted, convinced, asks_whole_again}
use Rattle.rdm_agent.specs.Beliefs.{end_answered, last_uid, give_up, asks_spelt, part_apart, is_spelt_often}
use Rattle.rdm_agent.specs.Apart.{ask_first, ask_next, ask_turn, next_gap, past, set_apart, without}
use Rattle.rdm_agent.specs.Machine.{asking, is_asked_out, found_belief}

module _ (present : List ℕ) where
  -- without a suspect none is present
  none : IsVain present None
  none u is = absurd (true≢false (sym is))

  -- what is suspected isn't present
  abbrev Vain : Belief → Type 0
  Vain b = IsVain present b.suspect

  restarted-vain : (b : Belief) → Vain b → Vain (restarted b)
  restarted-vain b vain =
      cond_both (is_alone b.alone || (not (b.need == 2) || (not (nat_lt b.lo b.at) || nat_lt b.at b.end))) _ _ Vain
      (λ stays. vain) (λ again. cond_both (nat_lt (b.begun + 1) 4) _ _ Vain (λ begins. vain) (λ end. none))

  past_zero-vain : (b : Belief) → Vain b → Vain (past_zero b)
  past_zero-vain b vain =
      cond_both (((question b).range.hi == 0) && (nat_lt 0 b.top && not (is_alone b.alone))) _ _ Vain (λ zero. vain)
      (λ other. vain)

  ready-vain : (b : Belief) → Vain b → Vain (ready b)
  ready-vain b vain = past_zero-vain (restarted b) (restarted-vain b vain)

  pub choose-vain : (made silences bads : ℕ) (last : Span) (b : Belief) → Vain b
      → Vain (choose made silences bads last b).belief
  unfolding choose
  choose-vain made silences bads last b vain =
      cond_both (is_same (question (ready b)).range last) _ _ (λ (s : Sweep). Vain s.belief)
      (λ same. asked silences bads) (λ other. asked 0 0)
    where
      asked : (again more : ℕ) → Vain (asking made again more (question (ready b)) (ready b)).belief
      asked again more =
          cond_both (((again + 1) == TRIES) && not (is_asked_out (question (ready b)) (ready b))) _ _
          (λ (s : Sweep). Vain s.belief) (λ above. ready-vain b vain) (λ on. ready-vain b vain)

  settled-vain : (b : Belief) → Vain b → Vain (settled b)
  settled-vain b vain = cond_both (b.doubt == 0) _ _ Vain (λ same. vain) (λ louder. vain)

  pub give_up-vain : (u : ℕ) (b : Belief) → Vain b → Vain (give_up u b)
  give_up-vain u b vain = cond_both (asks_spelt b.alone) _ _ Vain (λ spelt. vain) (λ above. vain)

  part_silent-vain : (part : Part) (r : Span) (b : Belief) → Vain b → Vain (part_silent part r b)
  part_silent-vain parts.Fresh r b vain = vain
  part_silent-vain parts.Lower r b vain = vain
  part_silent-vain parts.Rest r b vain = vain
  part_silent-vain parts.All r b vain = vain
  part_silent-vain parts.Whole r b vain = vain
  part_silent-vain parts.End r b vain = cond_both (b.quiet == 0) _ _ Vain (λ once. vain)
      (λ twice. give_up-vain b.end b vain)
  part_silent-vain parts.Apart r b vain = vain
  part_silent-vain parts.Spelt r b vain = vain

  pub silent-vain : (part : Part) (r : Span) (b : Belief) → Vain b → Vain (believed_silent part r b)
  silent-vain part r b vain =
      cond_both (asks_spelt b.alone) _ _ Vain (λ spelt. vain)
      (λ other. cond_both (b.doubt == 1) _ _ Vain (λ again. vain)
      (λ sure. part_silent-vain part r (settled b) (settled-vain b vain)))

  pub stray-vain : (b : Belief) → Vain b → Vain (stray_found b)
  stray-vain b vain = settled-vain b vain

  convinced-vain : (b : Belief) → Vain b → Vain (convinced b)
  convinced-vain b vain = cond_both (b.doubt == 0) _ _ Vain (λ same. vain) (λ quieter. vain)

  part_apart-vain : (part : Part) (r : Span) (silences : ℕ) (b : Belief) → Vain b → Vain (part_apart part r silences b)
  part_apart-vain parts.Fresh r silences b vain =
      cond_both (is_doubted b) _ _ Vain (λ again. vain) (λ sure. convinced-vain b vain)
  part_apart-vain parts.Lower r silences b vain =
      cond_both (is_doubted b) _ _ Vain (λ again. vain) (λ sure. convinced-vain b vain)
  part_apart-vain parts.Rest r silences b vain =
      cond_both (is_doubted b) _ _ Vain (λ again. vain) (λ sure. convinced-vain b vain)
  part_apart-vain parts.All r silences b vain = vain
  part_apart-vain parts.Whole r silences b vain =
      cond_both (asks_whole_again silences b) _ _ Vain (λ again. vain) (λ pass. none)
  part_apart-vain parts.End r silences b vain = vain
  part_apart-vain parts.Apart r silences b vain = vain
  part_apart-vain parts.Spelt r silences b vain = vain

  pub apart-vain : (part : Part) (r : Span) (silences : ℕ) (b : Belief) → Vain b
      → Vain (believed_apart part r silences b)
  apart-vain part r silences b vain =
      cond_both (is_spelt_often r b) _ _ Vain (λ spelt. part_apart-vain part r silences b vain)
      (λ other. part_apart-vain part r silences b vain)

  pub answered-vain : (b : Belief) → Vain b → Vain (end_answered b)
  answered-vain b vain = cond_both (is_alone b.alone) _ _ Vain (λ alone. vain) (λ range. vain)

  pub hearing-vain : (u : ℕ) (b : Belief) → Vain b → Vain (hearing u b)
  hearing-vain u b vain = cond_both (is_suspect b.spelt u) _ _ Vain (λ again. vain) (λ other. vain)

  -- where another UID or gap is asked it is forgotten
  ask_first-vain : (us : List ℕ) (b : Belief) → Vain (ask_first us b)
  ask_first-vain [] b = none
  ask_first-vain (u ∷ us) b = none

  pub ask_turn-vain : (us : List ℕ) (turn : ℕ) (b : Belief) → Vain (ask_turn us turn b)
  ask_turn-vain us turn b = next (slice_get us turn)
    where
      next : (o : Option ℕ) → Vain (ask_next o us turn b)
      next (Some u) = none
      next None = ask_first-vain us b

  pub gap-vain : (u : ℕ) (us : List ℕ) (b : Belief) → Vain (next_gap u us b)
  gap-vain u us b =
      cond_both (nat_lt (past u us) last_uid) _ _ Vain (λ gap. none) (λ last. ask_first-vain us b)

  pub set_apart-vain : (u : ℕ) (us : List ℕ) (b : Belief) → Vain (set_apart u us b)
  set_apart-vain u us b =
      cond_both (nat_lt b.gap u) _ _ Vain (λ below. none) (λ above. gap-vain u us (record b { doubt = 0 }))

  pub found_belief-vain : (part : Part) (u : ℕ) (us : List ℕ) (sweep : Sweep) → Vain sweep.belief
      → Vain (found_belief part u us sweep)
  found_belief-vain parts.Apart u us sweep vain =
      ask_turn-vain (without u us) sweep.belief.turn sweep.belief
  found_belief-vain parts.Fresh u us sweep vain = settled-vain sweep.belief vain
  found_belief-vain parts.Lower u us sweep vain = settled-vain sweep.belief vain
  found_belief-vain parts.Rest u us sweep vain = settled-vain sweep.belief vain
  found_belief-vain parts.All u us sweep vain = settled-vain sweep.belief vain
  found_belief-vain parts.Whole u us sweep vain = settled-vain sweep.belief vain
  found_belief-vain parts.End u us sweep vain = settled-vain sweep.belief vain
  found_belief-vain parts.Spelt u us sweep vain = settled-vain sweep.belief vain
